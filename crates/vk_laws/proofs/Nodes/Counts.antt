-- How many nodes a past has, and the node of a number.
use Rattle.std.proofs.Common.{◌≡◌, ⊎_elim, ℕ, ◌+◌, ◌<◌, ◌≤◌, List, [], ◌∷◌, ◌++◌, length, Bool, true, false, cond, Some, refl, arith}
use Rattle.std.specs.Prelude.{◌==◌}
use Rattle.std.specs.List.{find}
use Rattle.std.proofs.lemmas.Bool.{eq-eqb, cases_lt}
use Rattle.vk_model.specs.Trace.Point.{Past, Point}
use Rattle.vk_model.specs.Sync.Node.{Node, Act, nodes, acts, with_acts}
use Rattle.vk_model.specs.Sync.Before.{IsNumbered}

-- ---- nodes of a past

pub count_acts : (p : Point) (more : List Act) (ns : List Node) → length (with_acts p more ns) ≡ length more + length ns
count_acts p [] ns = omega arith
count_acts p (a ∷ more) ns = let e = count_acts p more (record { number = length ns; point = p; act = a } ∷ ns) in omega (arith, e)

pub more_nodes : (newer past : Past) → length (nodes past) ≤ length (nodes (newer ++ past))
more_nodes [] past = omega arith
more_nodes (q ∷ newer) past = let le = more_nodes newer past in let e = count_acts q (acts q.action) (nodes (newer ++ past)) in omega (arith, e)

-- ---- the node of a number

pub node_there : (ns : List Node) (k : ℕ) → IsNumbered ns → k < length ns → (n : Node) × (find (λ n. n.number == k) ns ≡ Some n)
node_there [] k numbers lt = absurd (omega arith)
node_there (n ∷ ns) k numbers lt = go (node_there ns k numbers.1) (n.number == k) refl
  where
    go : (k < length ns → (m : Node) × (find (λ n. n.number == k) ns ≡ Some m)) → (b : Bool) → (n.number == k) ≡ b → (m : Node) × (cond b (Some n) (find (λ n. n.number == k) ns) ≡ Some m)
    go rest true e = (n, refl)
    go rest false e = rest (⊎_elim (λ lt. lt) (λ le. absurd (let size = numbers.0 in let same : n.number ≡ k = omega arith in let f = eq-eqb n.number k same in cc)) (cases_lt k (length ns)))
