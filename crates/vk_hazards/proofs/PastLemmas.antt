-- Points one after another, as a past.
use Rattle.std.proofs.Common.{◌≡◌, ℕ, zero, suc, ◌+◌, ◌<◌, subst, refl, List, [], ◌∷◌, ◌++◌, length, take, get_or, Bool, true, false, cond, Option, Some, ap, sym, ◌∙◌}
use Rattle.std.specs.Prelude.{if◌then◌else◌, option_map, slice_get, Contains}
use Rattle.std.specs.List.{find}
use Rattle.std.proofs.lemmas.List.Sums.{fold_more, fold-append}
use Rattle.std.proofs.lemmas.Option.{slice_get_read}
use Rattle.vk_model.specs.Trace.Point.{Past, Point}
use Rattle.vk_model.proofs.Lists.Members.{contains-head, contains-tail}
use Rattle.vk_model.specs.declared.point.Point.{Point as ProgramPoint}
use Rattle.vk_model.specs.Trace.PointViews.{point_of}
use Rattle.vk_queues.specs.PointViews.{add, past_after, past_of}

-- the past of one point more
pub past_more : (ps : List ProgramPoint) (k : ℕ) (d : ProgramPoint) → k < length ps → past_of (take (k + 1) ps) ≡ point_of (get_or ps k d) ∷ past_of (take k ps)
past_more ps k d lt = fold_more add [] ps k d lt

-- the same by the point's own name
pub past_item : (ps : List ProgramPoint) (k : ℕ) (p : ProgramPoint) → k < length ps → p ≡ get_or ps k p → past_of (take (k + 1) ps) ≡ point_of p ∷ past_of (take k ps)
past_item ps k p lt is = past_more ps k p lt ∙ ap (λ (q : ProgramPoint). point_of q ∷ past_of (take k ps)) (sym is)

-- the past of points and one more
pub past_push : (ps : List ProgramPoint) (p : ProgramPoint) → past_of (ps ++ p ∷ []) ≡ point_of p ∷ past_of ps
past_push ps p = fold-append add [] ps (p ∷ [])

-- the newest point that passes a test, after one point more
pub find_more : (f : Point → Bool) (ps : List ProgramPoint) (k : ℕ) (p : ProgramPoint) (b : Bool) (found more : Option ProgramPoint) → k < length ps → p ≡ get_or ps k p → b ≡ f (point_of p)
    → option_map point_of found ≡ find f (past_of (take k ps)) → more ≡ (if b then Some p else found) → option_map point_of more ≡ find f (past_of (take (k + 1) ps))
find_more f ps k p b found more lt is passes before after =
    rw (past_item ps k p lt is, ← passes) (go b after)
  where
    go : (b : Bool) → more ≡ (if b then Some p else found) → option_map point_of more ≡ cond b (Some (point_of p)) (find f (past_of (take k ps)))
    go true e = ap (option_map point_of) e
    go false e = ap (option_map point_of) e ∙ before

-- the points are in their past
kept_in : (past : Past) (ps : List ProgramPoint) (x : Point) → Contains past x → Contains (past_after past ps) x
kept_in past [] x c = c
kept_in past (q ∷ qs) x c = kept_in (point_of q ∷ past) qs x (contains-tail (point_of q) past x c)

there_in : (past : Past) (ps : List ProgramPoint) (k : ℕ) (p : ProgramPoint) → slice_get ps k ≡ Some p → Contains (past_after past ps) (point_of p)
there_in past [] k p e = absurd cc
there_in past (q ∷ qs) zero p e = let same : q ≡ p = cc in subst (λ (r : ProgramPoint). Contains (past_after past (q ∷ qs)) (point_of r)) same (kept_in (point_of q ∷ past) qs (point_of q) (contains-head (point_of q) past))
there_in past (q ∷ qs) (suc k) p e = there_in (point_of q ∷ past) qs k p e

pub past_has : (ps : List ProgramPoint) (k : ℕ) (p : ProgramPoint) → k < length ps → p ≡ get_or ps k p → Contains (past_of ps) (point_of p)
past_has ps k p lt is = there_in [] ps k p (slice_get_read ps (length ps) k p refl lt is)
