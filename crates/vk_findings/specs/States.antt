-- What is reported of a point and a rule that it breaks.
use Rattle.std.specs.Prelude.{◌≡◌, Bool, true, false, Option, Some, None, IsTrue}
use Rattle.vk_model.specs.declared.rule.Rule.{Rule}
use Rattle.vk_model.specs.declared.rule.Rule.TheVariants as rule
use Rattle.vk_model.specs.Trace.Point.{Past, Point}
use Rattle.vk_model.specs.Rules.Table.{breaks}
use Rattle.vk_findings.specs.declared.states.State.{State}
use Rattle.vk_findings.specs.declared.states.State.TheVariants as state
use Rattle.vk_findings.specs.Layouts.{IsLayout, IsOldLayout}
use Rattle.vk_findings.specs.Mapping.{IsMapState}
use Rattle.vk_findings.specs.Events.{IsEventState, IsEventDependency}
use Rattle.vk_findings.specs.Signals.{IsSignalOrder}
use Rattle.vk_findings.specs.Transfers.{IsOwnerPair}
use Rattle.vk_rules.specs.Binding.{IsAliased}
use Rattle.vk_rules.specs.Sizes.{OnHost}

-- Whether a state is reported of a rule wherever it is broken, and nowhere else.
abbrev pub is_reported : Rule → Bool
is_reported rule.Layout = true
is_reported rule.OldLayout = true
is_reported rule.MapState = true
is_reported rule.EventState = true
is_reported rule.EventDependency = true
is_reported _ = false

-- The rule that finds a state.
abbrev pub rule_of : State → Rule
rule_of (state.Layout s) = rule.Layout
rule_of (state.OldLayout s) = rule.OldLayout
rule_of (state.MapState s) = rule.MapState
rule_of (state.EventState s) = rule.EventState
rule_of (state.EventDependency s) = rule.EventDependency
rule_of (state.SignalOrder s) = rule.SignalOrder
rule_of (state.OwnerPair s) = rule.OwnerPair
rule_of (state.Aliased s) = rule.Aliased

-- A point that comes next finds this.
abbrev pub IsSo : Past → Point → State → Type 0
IsSo past p (state.Layout s) = IsLayout past p.action s
IsSo past p (state.OldLayout s) = IsOldLayout past p s
IsSo past p (state.MapState s) = IsMapState past p.action s
IsSo past p (state.EventState s) = IsEventState past p.queue p.action s
IsSo past p (state.EventDependency s) = IsEventDependency past p.action s
IsSo past p (state.SignalOrder s) = IsSignalOrder past p.action s
IsSo past p (state.OwnerPair s) = IsOwnerPair past p.queue p.action s
IsSo past p (state.Aliased s) = OnHost p.action (λ x. IsAliased past x s)

-- What is reported of a rule: a point that comes next breaks it, and finds this. Of rules of which a state is reported in each case, the rule is broken exactly where one is.
abbrev pub IsFound : Rule → Past → Point → Option State → Type 0
IsFound r past p None = is_reported r ≡ true → breaks r past p ≡ false
IsFound r past p (Some s) = (rule_of s ≡ r) × IsTrue (breaks r past p) × IsSo past p s
