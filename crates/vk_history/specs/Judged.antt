-- Pasts that were judged: ordered, and without a fault.
use Rattle.std.specs.Prelude.{◌≡◌, None, List, [], ◌∷◌, Option}
use Rattle.std.specs.List.{find}
use Rattle.vk_model.specs.declared.rule.Rule.{Rule}
use Rattle.vk_model.specs.declared.rule.Rule.TheVariants as rule
use Rattle.vk_model.specs.Trace.Point.{Past, Point}
use Rattle.vk_model.specs.Trace.Structure.{IsOrdered}
use Rattle.vk_model.specs.Rules.Table.{fault, breaks}

-- A past that was judged.
pub record IsJudged (past : Past) : Type 0 where
  pub ordered : IsOrdered past
  pub faultless : fault past ≡ None

-- The rules that are judged before the accesses of a point.
abbrev pub early_rules : List Rule
early_rules =
    rule.NewId ∷ rule.LiveId ∷ rule.Queue ∷ rule.QueueKind ∷ rule.Size ∷ rule.Usage ∷ rule.MemoryType ∷ rule.MemorySize ∷ rule.PoolSize ∷ rule.BindRange ∷ rule.BindAlign ∷ rule.Aliased
    ∷ rule.Range ∷ rule.Align ∷ rule.Overlap ∷ rule.Format ∷ rule.Subresource ∷ rule.Stage ∷ rule.Layout ∷ rule.OldLayout ∷ rule.OwnerWhole ∷ rule.OwnerPair ∷ rule.EventState ∷ rule.EventDependency
    ∷ rule.SignalValue ∷ rule.SignalOrder ∷ rule.WaitBeforeSignal ∷ rule.WaitNever ∷ rule.MapState ∷ rule.HostVisible ∷ rule.PoolKind ∷ rule.PassState ∷ rule.PassBusy ∷ rule.PassWrite ∷ []

-- The rules on accesses, and those after them.
abbrev pub late_rules : List Rule
late_rules = rule.HazardWar ∷ rule.HazardRaw ∷ rule.HazardWaw ∷ rule.InUse ∷ rule.ReadUndefined ∷ rule.Limit ∷ []

-- The first of some rules that a point breaks.
abbrev pub first_among : List Rule → Past → Point → Option Rule
first_among rs past p = find (λ r. breaks r past p) rs
