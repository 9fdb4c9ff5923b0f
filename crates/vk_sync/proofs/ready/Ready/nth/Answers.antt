use Rattle.std.proofs.Common.{arith, ◌≡◌, ◌<◌, ◌∙◌, ap, sym, length, List, Some}
use Rattle.std.specs.Prelude.{slice_get}
use Rattle.std.proofs.lemmas.Option.{slice_get-get_or, slice_get_within, get_or_from_slice_get}
use Rattle.vk_sync.specs.declared.board.Command.{Command}
use Rattle.vk_sync.specs.Ready.{ready}
use Rattle.vk_sync.proofs.ReadyLemmas.{count_all, piece_at}
use Rattle.vk_sync.proofs.MovingLemmas.{count_le}
use Rattle.vk_sync.proofs.ready.Ready.nth.Goals as goal

pub find-found-requires : goal.find-found-requires
find-found-requires c =
    let b = c.self.inside.board in
    let all = count_all b.commands.items b.lines b.done b.free b.counts c.self.invariant.0 in
    let same = ap (λ (cs : List Command). length (ready cs)) c.self.view_is in
    omega (arith, all, same, c.requires)

pub nth-index-requires : goal.nth-index-requires
nth-index-requires c =
    let b = c.self.inside.board in
    let cs = b.commands.items in
    let loose = c.self.invariant.0.loose in
    let found = c.find-found.result in
    let lt : found.leaf < length cs = omega (arith, c.find-found.ensures.there, loose.counts_len) in
    let is : slice_get cs found.leaf ≡ Some c.index.result.now = slice_get-get_or cs found.leaf c.index.result.now lt ∙ ap (λ (x : Command). Some x) (sym c.index.ensures) in
    omega (arith, c.find-found.ensures.within, count_le cs b.lines b.done b.free b.counts loose found.leaf c.index.result.now is)

pub returns-clause-piece : goal.returns-clause-piece
returns-clause-piece c =
    let b = c.self.inside.board in
    let cs = b.commands.items in
    let loose = c.self.invariant.0.loose in
    let found = c.find-found.result in
    let lt : found.leaf < length cs = omega (arith, c.find-found.ensures.there, loose.counts_len) in
    let is : slice_get cs found.leaf ≡ Some c.index.result.now = slice_get-get_or cs found.leaf c.index.result.now lt ∙ ap (λ (x : Command). Some x) (sym c.index.ensures) in
    let piece = piece_at cs b.lines b.done b.free b.counts c.self.invariant.0 c.args.place found.leaf found.rest c.nth-index.result c.index.result.now c.find-found.ensures.before c.find-found.ensures.within is c.nth-index.ensures in
    sym (ap (λ (xs : List Command). slice_get (ready xs) c.args.place) c.self.view_is) ∙ piece

pub returns-clause-among : goal.returns-clause-among
returns-clause-among c =
    let all = ready c.args.self.now in
    let at = returns-clause-piece c in
    (c.args.place, slice_get_within all c.args.place _ at, get_or_from_slice_get all c.args.place _ _ at)
