-- Points one after another, and the counters of semaphores.
use Rattle.std.proofs.Common.{◌≡◌, ◌≤◌, ◌<◌, ◌+◌, max, ℕ, List, [], ◌∷◌, ◌++◌, refl, ap, ◌∙◌, take, length, Some, None, arith, cond}
use Rattle.std.specs.Prelude.{true, false, slice_get, ◌==◌}
use Rattle.std.specs.List.{fold, cons_option}
use Rattle.std.proofs.lemmas.List.{take_more}
use Rattle.std.proofs.lemmas.List.Sums.{fold-append}
use Rattle.std.proofs.lemmas.Grind.{common_steps}
use Rattle.std.proofs.lemmas.Option.{slice_get_within, get_or_from_slice_get}
use Rattle.vk_model.specs.Trace.Point as spec
use Rattle.vk_model.specs.Trace.Objects.{initial}
use Rattle.vk_model.specs.Trace.Order.{counter, signaled, signal_of}
use Rattle.vk_model.specs.declared.point.Point.{Point}
use Rattle.vk_model.specs.Trace.PointViews.{point_of}
use Rattle.vk_queues.specs.PointViews.{past_of, add}
use Rattle.vk_history.specs.PointViews.{past, Walk}

fold-max : (xs : List ℕ) (v : ℕ) → fold max v xs ≡ max v (fold max 0 xs)
fold-max [] v = omega arith
fold-max (x ∷ xs) v = let a = fold-max xs (max v x) in let b = fold-max xs (max 0 x) in omega (arith, a, b)

pub counter-some : (p : spec.Past) (s v : ℕ) → initial p s ≡ Some v → counter p s ≡ Some (max v (fold max 0 (signaled p s)))
counter-some p s v is = rw is (ap Some (fold-max (signaled p s) v))

pub counter-none : (p : spec.Past) (s : ℕ) → initial p s ≡ None → counter p s ≡ None
counter-none p s is = rw is refl

pub ruleset counters = (counter-some, counter-none)

take_next : {A : Type 0} (xs : List A) (n : ℕ) (x : A) → slice_get xs n ≡ Some x → take (n + 1) xs ≡ take n xs ++ x ∷ []
take_next xs n x is =
    let lt : n < length xs = slice_get_within xs n x is in
    take_more xs n x lt ∙ ap (λ y. take n xs ++ y ∷ []) (get_or_from_slice_get xs n x x is)

-- the past of a walk that goes one point on
pub past-next : (points : List Point) (count : ℕ) (x : Point) → slice_get points count ≡ Some x → past (record { points = points; count = count + 1 }) ≡ point_of x ∷ past (record { points = points; count = count })
unfolding past
past-next points count x is = ap past_of (take_next points count x is) ∙ fold-append add [] (take count points) (x ∷ [])

length-fold : (ps : List Point) (a : spec.Past) → length (fold add a ps) ≡ length ps + length a
length-fold [] a = omega arith
length-fold (p ∷ ps) a = let e = length-fold ps (add a p) in grind (arith, e)

-- the past of a walk is as long as its count
pub length-past : (w : Walk) → w.count ≤ length w.points → length (past w) ≡ w.count
unfolding past
length-past w le = let e = length-fold (take w.count w.points) [] in grind (arith, common_steps, e)

pub ruleset limits = (length-past)

-- what a signal adds to the values of its semaphore
pub signaled-some : (p : spec.Point) (past : spec.Past) (x y : ℕ) → signal_of p.action ≡ Some (x, y) → (s : ℕ) → fold max 0 (signaled (p ∷ past) s) ≡ cond (x == s) (max y (fold max 0 (signaled past s))) (fold max 0 (signaled past s))
signaled-some p past x y e s = rw e (elim (x == s) as (λ b. fold max 0 (cons_option (cond b (Some y) None) (signaled past s)) ≡ cond b (max y (fold max 0 (signaled past s))) (fold max 0 (signaled past s))) [ true ↦ (let f = fold-max (signaled past s) (max 0 y) in omega arith) | false ↦ refl ])

pub signaled-none : (p : spec.Point) (past : spec.Past) → signal_of p.action ≡ None → (s : ℕ) → signaled (p ∷ past) s ≡ signaled past s
signaled-none p past e s = rw e refl
