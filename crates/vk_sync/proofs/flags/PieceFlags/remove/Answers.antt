use Rattle.std.proofs.Common.{arith, ◌∙◌, ◌≤◌, ℕ, ◌+◌, ◌-◌, ◌/◌, ◌≡◌, ap, length, get_or, false, refl}
use Rattle.vk_sync.specs.Inner.Places.{is_so}
use Rattle.vk_sync.proofs.LeftLemmas.{flag_set, sums_less, left_len}
use Rattle.std.proofs.lemmas.List.Sums.{sum_by-set}
use Rattle.vk_sync.proofs.PlaceLemmas.{places_less}
use Rattle.vk_sync.proofs.SumLemmas.{has_sum, zeros_less}
use Rattle.vk_sync.specs.Inner.Places.{one_if}
use Rattle.vk_sync.proofs.flags.PieceFlags.remove.Goals as goal

pub index_mut-requires : goal.index_mut-requires
index_mut-requires c =
    let set = flag_set c.self.inside.flags.items c.args.piece (rw c.self.view_is c.requires) in
    let lt = set.0 in
    omega arith

pub subtract-requires-clause-there : goal.subtract-requires-clause-there
subtract-requires-clause-there c =
    let flags = c.self.inside.flags.items in
    let set = flag_set flags c.args.piece (rw c.self.view_is c.requires) in
    has_sum one_if c.self.inside.groups flags c.self.invariant.0 c.args.piece set.0

pub subtract-requires-clause-enough : goal.subtract-requires-clause-enough
subtract-requires-clause-enough c =
    let flags = c.self.inside.flags.items in
    let set = flag_set flags c.args.piece (rw c.self.view_is c.requires) in
    (sums_less flags c.self.inside.groups c.args.piece c.self.invariant.0 set.0 set.1).0

pub invariant_of-self : goal.invariant_of-self
invariant_of-self c =
    let flags = c.self.inside.flags.items in
    let set = flag_set flags c.args.piece (rw c.self.view_is c.requires) in
    let none : one_if false ≤ one_if (get_or flags c.args.piece false) = omega arith in
    (rw c.subtract.ensures (sums_less flags c.self.inside.groups c.args.piece c.self.invariant.0 set.0 set.1).1, zeros_less one_if flags c.self.inside.first c.args.piece false false set.0 none c.self.invariant.1)

pub returns-clause-others : goal.returns-clause-others
returns-clause-others c =
    let flags = c.self.inside.flags.items in
    let set = flag_set flags c.args.piece (rw c.self.view_is c.requires) in
    let same : 0 + c.args.piece ≡ c.args.piece = omega arith in
    rw (← c.self.view_is) (c.skip_taken.ensures ∙ rw same at (places_less is_so 0 c.args.piece flags false set.0 refl))

pub returns-clause-len : goal.returns-clause-len
returns-clause-len c =
    let flags = c.self.inside.flags.items in
    let groups = c.self.inside.groups in
    let set = flag_set flags c.args.piece (rw c.self.view_is c.requires) in
    let was = left_len flags groups c.self.invariant.0 in
    let less = sums_less flags groups c.args.piece c.self.invariant.0 set.0 set.1 in
    let now = left_len _ _ less.1 in
    let some = less.0 in
    let there = has_sum one_if groups flags c.self.invariant.0 c.args.piece set.0 in
    omega (arith, was, now, sum_by-set (λ (x : ℕ). x) groups (c.args.piece / 64) (get_or groups (c.args.piece / 64) 0 - 1) 0 there, ap length c.skip_taken.ensures, ap length c.self.view_is)
