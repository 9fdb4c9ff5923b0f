use Rattle.std.proofs.Common.{◌∷◌, ℕ, List, map, refl, ap, sym, subst, arith}
use Rattle.std.specs.Prelude.{Contains}
use Rattle.std.specs.List.Sorted.{IsPermutation}
use Rattle.std.proofs.lemmas.List.Sorted.{IsPermutation-map, length_permutation}
use Rattle.std.specs.declared.cmp.Reverse.{Reverse}
use Rattle.std.specs.BinaryHeap.{heap_items}
use Rattle.vk_model.proofs.Lists.Members.{map_has}
use Rattle.vk_events.specs.Inner.Hooks.{Hung}
use Rattle.vk_events.proofs.HookLemmas.{least, none_there}
use Rattle.vk_events.proofs.hooks.Hooks.pop_within.Goals as goal
use Rattle.vk_events.proofs.hooks.Hooks.pop_within.Goals.{in_default-via-in-Some+else-count-limit, in_default-via-in_default}

pub returns-in_default-clause-none : goal.returns-in_default-clause-none
returns-in_default-clause-none c = elim c.in_default.branch [
  | in_default-via-in-Some+else-count-limit w ↦ (
    refl,
    λ x there.
        let xs = heap_items c.self.inside.heap in
        let low = least w.in-Some.field-0.now xs (w.in-Some.ensures.greatest c.self.invariant) x (subst (λ (v : Hung). Contains v.pairs x) (sym c.self.view_is) there) in
        let over = w.if-count-limit.false in
        omega arith,
  )
  | in_default-via-in_default w ↦ (refl, λ x there. absurd (none_there (heap_items c.self.inside.heap) w.in_default.ensures.item.3 x (subst (λ (v : Hung). Contains v.pairs x) (sym c.self.view_is) there)))
]

pub returns-clause-pairs : goal.returns-clause-pairs
returns-clause-pairs c =
    let xs = heap_items c.self.inside.heap in
    let seen = ap (λ (v : Hung). v.pairs) c.self.view_is in
    let out = c.in-Some-pop.ensures.permutation in
    let long = length_permutation xs _ out in
    let top : Contains xs c.in-Some.field-0.now = (0, omega (arith, long), sym c.in-Some.ensures.lookup) in
    let bound = (c.in-Some-pop.ensures.heap_order c.self.invariant).1 in
    let low = least c.in-Some-pop.field-0 xs bound c.in-Some.field-0.now.0 (map_has (λ (r : Reverse (ℕ × ℕ)). r.0) xs c.in-Some.field-0.now top) in
    let within = c.if-count-limit.true in (
      c.in-Some-pop.field-0.0.0,
      omega arith,
      subst (λ (ps : List (ℕ × ℕ)). IsPermutation ps (c.in-Some-pop.field-0.0 ∷ map (λ r. r.0) (heap_items c.pop.new.self))) seen (IsPermutation-map (λ (r : Reverse (ℕ × ℕ)). r.0) xs (c.in-Some-pop.field-0 ∷ heap_items c.pop.new.self) out),
      λ x there. least c.in-Some-pop.field-0 xs bound x (subst (λ (ps : List (ℕ × ℕ)). Contains ps x) (sym seen) there),
    )
