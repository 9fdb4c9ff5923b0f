use Rattle.std.proofs.Common.{◌≡◌, ◌∙◌, ◌++◌, List, ap, subst}
use Rattle.std.specs.Prelude.{IsPermutation}
use Rattle.std.specs.List.{filter_map}
use Rattle.vk_places.specs.declared.states.Taken.{Taken}
use Rattle.vk_places.specs.Listed.{lying_of, reserved_of}
use Rattle.vk_places.proofs.listing.ranges_of.Goals as goal

pub returns : goal.returns
returns c =
    let b = c.args.backing.now in
    let lie = filter_map (lying_of b.pools) b.allocations in
    let both = ap (λ (l : List Taken). l ++ c.as_slice.result.now) c.in_ok-ranges.ensures ∙ ap (λ (l : List Taken). lie ++ l) (c.as_slice.ensures.value ∙ c.in_ok-targets.ensures) in
    subst (λ (l : List Taken). IsPermutation l c.sort_by_key.new.self.items) (c.in_ok-extend_from_slice.ensures.items ∙ both) c.sort_by_key.ensures.permutation
