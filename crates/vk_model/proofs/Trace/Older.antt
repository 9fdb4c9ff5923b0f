-- The points that came, and what was ordered before newer ones came. Other crates cite it.
use Rattle.std.proofs.Common.{⊎_elim, [], ◌∷◌, ◌++◌, subst}
use Rattle.std.specs.Prelude.{Contains}
use Rattle.vk_model.specs.Trace.Point.{Point, Past}
use Rattle.vk_model.specs.Trace.Structure.{IsOrdered}
use Rattle.vk_model.specs.Rules.Fault.{Comes, newest, older}
use Rattle.vk_model.proofs.Lists.Members.{none_in, contains-cons, contains-head, contains-tail}

-- what is of a past came after some past
pub comes_of : (past : Past) (p : Point) → Contains past p → (before : Past) × Comes past before p
comes_of [] p c = absurd (none_in p c)
comes_of (q ∷ past) p c = ⊎_elim
    (λ same. (past, subst (λ (m : Point). Comes (q ∷ past) past m) same newest))
    (λ old. let h = comes_of past p old in (h.0, older h.1)) (contains-cons q past p c)

-- and what came is of it
pub comes_has : (past before : Past) (p : Point) → Comes past before p → Contains past p
comes_has past before p newest = contains-head p before
comes_has past before p (older {past = rest} {q = r} come) = contains-tail r rest p (comes_has rest before p come)

pub ordered_older : (newer past : Past) → IsOrdered (newer ++ past) → IsOrdered past
ordered_older [] past ordered = ordered
ordered_older (q ∷ newer) past ordered = ordered_older newer past ordered.1
