-- The rules that are judged before the accesses of a point.
use Rattle.std.specs.Prelude.{◌≡◌, Bool, true, false, if◌then◌else◌, List, [], ◌∷◌}
use Rattle.vk_model.specs.declared.rule.Rule.{Rule}
use Rattle.vk_model.specs.declared.rule.Rule.TheVariants as rule
use Rattle.vk_model.specs.Trace.Point.{Past, Point}
use Rattle.vk_model.specs.Rules.Table.{breaks}
use Rattle.vk_model.specs.Rules.Ranges.{breaks_overlap}
use Rattle.vk_model.specs.Rules.Owners.{breaks_owner_pair}
use Rattle.vk_model.specs.Rules.Synchronization.{breaks_signal_order}
use Rattle.vk_model.specs.Rules.Passes.{breaks_pass_busy}
use Rattle.vk_validate.specs.declared.rules.Searched.{Searched}

-- Whether a rule is on accesses, or comes after those.
abbrev pub is_late : Rule → Bool
is_late rule.HazardWar = true
is_late rule.HazardRaw = true
is_late rule.HazardWaw = true
is_late rule.InUse = true
is_late rule.ReadUndefined = true
is_late rule.Limit = true
is_late _ = false

-- Whether a point breaks a rule that is judged before its accesses.
unfoldable pub breaks_early : Rule → Past → Point → Bool
breaks_early r past p = if is_late r then false else breaks r past p

-- The early rules that speak of fills, updates and copies between buffers, in the order of their tests.
abbrev pub on_buffers : List Rule
on_buffers = rule.LiveId ∷ rule.Size ∷ rule.Usage ∷ rule.Range ∷ rule.Align ∷ rule.Overlap ∷ rule.Subresource ∷ rule.OwnerPair ∷ rule.SignalOrder ∷ rule.PassWrite ∷ []

-- Those that speak of barriers, in the same order.
abbrev pub on_barriers : List Rule
on_barriers = rule.LiveId ∷ rule.Size ∷ rule.Usage ∷ rule.Range ∷ rule.Overlap ∷ rule.Subresource ∷ rule.Stage ∷ rule.Layout ∷ rule.OldLayout ∷ rule.OwnerWhole ∷ rule.OwnerPair ∷ rule.SignalOrder ∷ rule.PassWrite ∷ []

-- What was found of the rules that need memory to be judged.
pub record AreSearched (found : Searched) (past : Past) (p : Point) : Type 0 where
  pub overlapping : found.is_overlapping ≡ breaks_overlap past p
  pub unordered : found.is_unordered ≡ breaks_signal_order past p
  pub unpaired : found.is_unpaired ≡ breaks_owner_pair past p
  pub pass_busy : found.is_pass_busy ≡ breaks_pass_busy past p
