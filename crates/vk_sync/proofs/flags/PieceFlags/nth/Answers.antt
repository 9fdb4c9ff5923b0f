use Rattle.std.proofs.Common.{arith, ◌∙◌, ap, length, false, sym, refl}
use Rattle.std.proofs.lemmas.List.{get_or_read}
use Rattle.vk_sync.proofs.LeftLemmas.{left_len, found_piece, IsSought}
use Rattle.vk_sync.proofs.PlaceLemmas.{length-places}
use Rattle.vk_sync.specs.Inner.Places.{is_so}
use Rattle.vk_sync.proofs.flags.PieceFlags.nth.Goals as goal

pub find-group-requires : goal.find-group-requires
find-group-requires c =
    let e = left_len c.self.inside.flags.items c.self.inside.groups c.self.invariant.0 in
    let l = ap length c.self.view_is in
    omega (arith, e, l, c.requires)

pub returns : goal.returns
returns c =
    rw (← c.self.view_is) (found_piece c.self.inside.flags.items c.args.place c.loop-rest.piece c.loop-rest.rest c.loop-rest.invariant (omega arith) (λ lt. sym (get_or_read c.self.inside.flags.items c.loop-rest.piece c.index-else-rest-gt0.result.now lt c.index-else-rest-gt0.ensures false) ∙ c.if-not-index.false))

pub returns-then-index : goal.returns-then-index
returns-then-index c =
    let flags = c.self.inside.flags.items in
    let first = c.self.inside.first in
    let all = length-places is_so 0 flags in
    let l = ap length c.self.view_is in
    let none = c.self.invariant.1 in
    let sought : IsSought flags c.args.place first 0 = record { ranked = omega (arith, none); there = omega (arith, all, l, c.requires) } in
    rw (← c.self.view_is) (found_piece flags c.args.place first 0 sought refl (λ lt. sym (get_or_read flags first c.index.result.now lt c.index.ensures false) ∙ c.if-index.true))
