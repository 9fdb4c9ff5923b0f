-- What is reported of a point and a rule that it breaks.
use Rattle.std.specs.Prelude.{◌≡◌, Bool, true, false, Option, Some, None, IsTrue}
use Rattle.vk_model.specs.declared.rule.Rule.{Rule}
use Rattle.vk_model.specs.declared.rule.Rule.TheVariants as rule
use Rattle.vk_model.specs.Trace.Point.{Past, Point}
use Rattle.vk_model.specs.Rules.Table.{breaks}
use Rattle.vk_rules.specs.Ranges.{IsRange}
use Rattle.vk_findings.specs.declared.measures.Measure.{Measure}
use Rattle.vk_findings.specs.declared.measures.Measure.TheVariants as measure
use Rattle.vk_rules.specs.Formats.{IsFormat}
use Rattle.vk_rules.specs.Aligns.{IsAlign}
use Rattle.vk_rules.specs.Synchronization.{IsStage}
use Rattle.vk_rules.specs.Usages.{IsUsage}
use Rattle.vk_rules.specs.Sizes.{OnHost, IsBadType, IsBadSize, IsOverHalf}
use Rattle.vk_rules.specs.Subresources.{IsSubresource}
use Rattle.vk_rules.specs.Binding.{IsPastMemory, IsMisplaced}
use Rattle.vk_rules.specs.Mapping.{IsHidden}
use Rattle.vk_rules.specs.Counts.{IsSize}
use Rattle.vk_rules.specs.Ids.{IsQueue, IsQueueKind}
use Rattle.vk_rules.specs.Owners.{IsOwnerWhole}
use Rattle.vk_rules.specs.Passes.{IsPoolKind}
use Rattle.vk_rules.specs.Traces.{IsLimit}

-- Whether it is reported what a rule compares.
abbrev pub is_reported : Rule → Bool
is_reported rule.Range = true
is_reported rule.Stage = true
is_reported rule.Usage = true
is_reported rule.Subresource = true
is_reported rule.BindRange = true
is_reported rule.BindAlign = true
is_reported rule.MemoryType = true
is_reported rule.MemorySize = true
is_reported rule.PoolSize = true
is_reported rule.HostVisible = true
is_reported rule.Size = true
is_reported rule.Align = true
is_reported rule.Format = true
is_reported rule.Queue = true
is_reported rule.QueueKind = true
is_reported rule.OwnerWhole = true
is_reported rule.PoolKind = true
is_reported rule.Limit = true
is_reported _ = false

-- The rule that compares these numbers.
abbrev pub rule_of : Measure → Rule
rule_of (measure.Range m) = rule.Range
rule_of (measure.Stage m) = rule.Stage
rule_of (measure.Usage m) = rule.Usage
rule_of (measure.Subresource m) = rule.Subresource
rule_of (measure.BindRange m) = rule.BindRange
rule_of (measure.BindAlign m) = rule.BindAlign
rule_of (measure.MemoryType m) = rule.MemoryType
rule_of (measure.MemorySize m) = rule.MemorySize
rule_of (measure.PoolSize m) = rule.PoolSize
rule_of (measure.HostVisible m) = rule.HostVisible
rule_of (measure.Size m) = rule.Size
rule_of (measure.Align m) = rule.Align
rule_of (measure.Format m) = rule.Format
rule_of (measure.Queue m) = rule.Queue
rule_of (measure.QueueKind m) = rule.QueueKind
rule_of (measure.OwnerWhole m) = rule.OwnerWhole
rule_of (measure.PoolKind m) = rule.PoolKind
rule_of (measure.Limit m) = rule.Limit

-- A point that comes next has these numbers, and they are as its rule doesn't allow them.
abbrev pub IsSo : Past → Point → Measure → Type 0
IsSo past p (measure.Range m) = IsRange past p.action m
IsSo past p (measure.Stage m) = IsStage p.action m
IsSo past p (measure.Usage m) = IsUsage past p.action m
IsSo past p (measure.Subresource m) = IsSubresource past p.action m
IsSo past p (measure.BindRange m) = OnHost p.action (λ x. IsPastMemory past x m)
IsSo past p (measure.BindAlign m) = OnHost p.action (λ x. IsMisplaced past x m)
IsSo past p (measure.MemoryType m) = OnHost p.action (λ x. IsBadType past x m)
IsSo past p (measure.MemorySize m) = OnHost p.action (λ x. IsBadSize x m)
IsSo past p (measure.PoolSize m) = OnHost p.action (λ x. IsOverHalf past x m)
IsSo past p (measure.HostVisible m) = OnHost p.action (λ x. IsHidden past x m)
IsSo past p (measure.Size m) = IsSize past p.action m
IsSo past p (measure.Align m) = IsAlign past p m
IsSo past p (measure.Format m) = IsFormat past p.action m
IsSo past p (measure.Queue m) = IsQueue p.action m
IsSo past p (measure.QueueKind m) = IsQueueKind p m
IsSo past p (measure.OwnerWhole m) = IsOwnerWhole past p.action m
IsSo past p (measure.PoolKind m) = OnHost p.action (λ x. IsPoolKind past x m)
IsSo past p (measure.Limit m) = IsLimit past m

-- A point that comes next breaks a rule by these numbers; or it doesn't break it, if it is reported of the rule at all.
abbrev pub IsMeasured : Rule → Past → Point → Option Measure → Type 0
IsMeasured r past p None = is_reported r ≡ true → breaks r past p ≡ false
IsMeasured r past p (Some m) = (rule_of m ≡ r) × IsTrue (breaks r past p) × IsSo past p m
