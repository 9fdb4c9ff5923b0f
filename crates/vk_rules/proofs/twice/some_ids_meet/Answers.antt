use Rattle.std.proofs.Common.{ap, ◌++◌, nat_eq, ◌∙◌}
use Rattle.std.proofs.lemmas.List.Sorted.{IsNonDecreasingBy-from_sort}
use Rattle.vk_model.specs.Basics.{some_pair}
use Rattle.vk_rules.proofs.Writing.Twice.{twice_permuted}
use Rattle.vk_rules.proofs.twice.some_ids_meet.Goals as goal

pub has_twice-requires : goal.has_twice-requires
has_twice-requires c = rw c.as_slice.ensures.value (IsNonDecreasingBy-from_sort (λ x. x) _ c.sort_unstable.ensures.sorted)

pub returns : goal.returns
returns c =
    let joined = c.in_ok-extend_from_slice.ensures.items ∙ ap (λ xs. xs ++ c.args.others.now) c.in_ok-all.ensures.items in
    c.has_twice.ensures ∙ ap (some_pair nat_eq) c.as_slice.ensures.value
    ∙ twice_permuted c.extend_from_slice.new.self.items c.sort_unstable.new.self.items c.sort_unstable.ensures.permutation
    ∙ ap (some_pair nat_eq) joined
