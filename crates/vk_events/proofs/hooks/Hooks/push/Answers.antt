use Rattle.std.proofs.Common.{◌∷◌, ℕ, List, map, subst, ap}
use Rattle.std.specs.List.Sorted.{IsPermutation}
use Rattle.std.proofs.lemmas.List.Sorted.{IsPermutation-map}
use Rattle.std.specs.declared.cmp.Reverse.{Reverse}
use Rattle.std.specs.BinaryHeap.{heap_items}
use Rattle.vk_events.specs.Inner.Hooks.{Hung}
use Rattle.vk_events.proofs.hooks.Hooks.push.Goals as goal

pub returns-clause-pairs : goal.returns-clause-pairs
returns-clause-pairs c =
    let seen = ap (λ (v : Hung). v.pairs) c.self.view_is in
    subst (λ (ps : List (ℕ × ℕ)). IsPermutation ((c.args.count, c.args.number) ∷ ps) (map (λ r. r.0) (heap_items c.push.new.self))) seen
    (IsPermutation-map (λ (r : Reverse (ℕ × ℕ)). r.0) _ (heap_items c.push.new.self) c.in-Ok.ensures.permutation)
