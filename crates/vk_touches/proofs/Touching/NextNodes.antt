-- The nodes of a point that comes next: one for each act, numbered on.
use Rattle.std.proofs.Common.{◌≡◌, ◌≤◌, ◌+◌, ℕ, List, [], ◌∷◌, ◌++◌, length, reverse, Bool, nat_le, refl, ap, sym, ◌∙◌, arith, append_assoc}
use Rattle.std.specs.List.{filter}
use Rattle.std.proofs.lemmas.Bool.{le-leb}
use Rattle.std.proofs.lemmas.List.{reverse-reverse}
use Rattle.std.proofs.lemmas.Grind.{reverse_onto}
use Rattle.std.proofs.lemmas.List.Elements.{filter-append}
use Rattle.vk_model.specs.Trace.Point.{Past, Point}
use Rattle.vk_model.specs.Sync.Node.{Node, Act, acts, nodes, with_acts, next_nodes}
use Rattle.vk_model.proofs.Sync.Numbers.{numbered}
use Rattle.vk_model.proofs.Sync.NewNodes.{low_numbers}

-- acts as nodes of a point, from number k on
abbrev pub lined : Point → ℕ → List Act → List Node
lined p k [] = []
lined p k (a ∷ more) = record { number = k; point = p; act = a } ∷ lined p (k + 1) more

with_acts-lined : (p : Point) (more : List Act) (ns : List Node) → with_acts p more ns ≡ reverse (lined p (length ns) more) ++ ns
with_acts-lined p [] ns = refl
with_acts-lined p (a ∷ more) ns =
    let n : Node = record { number = length ns; point = p; act = a } in
    let rest : List Node = lined p (length ns + 1) more in
    let longer : length (n ∷ ns) ≡ length ns + 1 = omega arith in
    with_acts-lined p more (n ∷ ns)
    ∙ ap (λ k. reverse (lined p k more) ++ (n ∷ ns)) longer
    ∙ sym (append_assoc (reverse rest) (n ∷ []) ns)
    ∙ ap (λ (l : List Node). l ++ ns) (sym (reverse_onto rest n []))

high_numbers : (p : Point) (k j : ℕ) (more : List Act) → k ≤ j → filter (λ n. nat_le k n.number) (reverse (lined p j more)) ≡ reverse (lined p j more)
high_numbers p k j [] le = refl
high_numbers p k j (a ∷ more) le =
    let f : Node → Bool = λ n. nat_le k n.number in
    let n : Node = record { number = j; point = p; act = a } in
    let rest : List Node = lined p (j + 1) more in
    let last : filter f (n ∷ []) ≡ n ∷ [] = rw (le-leb k j le) refl in
    ap (filter f) (reverse_onto rest n [])
    ∙ filter-append f (reverse rest) (n ∷ [])
    ∙ ap (λ (l : List Node). l ++ filter f (n ∷ [])) (high_numbers p k (j + 1) more (omega arith))
    ∙ ap (λ (l : List Node). reverse rest ++ l) last
    ∙ sym (reverse_onto rest n [])

onto_none : (xs : List Node) → xs ++ [] ≡ xs
onto_none [] = refl
onto_none (x ∷ xs) = ap (λ (l : List Node). x ∷ l) (onto_none xs)

-- the nodes of the next point are those of its acts
pub next_nodes-lined : (past : Past) (p : Point) → next_nodes past p ≡ lined p (length (nodes past)) (acts p.action)
next_nodes-lined past p =
    let k : ℕ = length (nodes past) in
    let f : Node → Bool = λ n. nat_le k n.number in
    let m : List Node = lined p k (acts p.action) in
    ap (λ (l : List Node). reverse (filter f l)) (with_acts-lined p (acts p.action) (nodes past))
    ∙ ap reverse (filter-append f (reverse m) (nodes past) ∙ ap (λ (l : List Node). l ++ filter f (nodes past)) (high_numbers p k k (acts p.action) (omega arith)) ∙ ap (λ (l : List Node). reverse m ++ l) (low_numbers k (nodes past) (numbered past) (omega arith)) ∙ onto_none (reverse m))
    ∙ reverse-reverse m
