use Rattle.std.proofs.Common.{◌≡◌, List, Some, refl, ap, sym, ◌∙◌, length}
use Rattle.std.proofs.lemmas.Option.{slice_get_read}
use Rattle.vk_order.specs.declared.tallies.LineTally.{LineTally}
use Rattle.vk_order.specs.Inner.Places.{index_in}
use Rattle.vk_order.specs.Inner.Tallies.{lines_of}
use Rattle.vk_order.proofs.OwnLemmas.{index_low, count_there, no_place}
use Rattle.vk_order.proofs.frontier.Frontier.next_place.Goals as goal

pub returns-in-Some : goal.returns-in-Some
returns-in-Some c = λ ns is.
    let ts = c.args.self.now.tallies.items in
    let at = c.in-Some.at in
    let found : index_in (lines_of ts) c.args.line ≡ Some at = ap (λ (l : List LineTally). index_in (lines_of l) c.args.line) (sym c.as_slice.ensures.value) ∙ sym c.in-Some.ensures in
    count_there ns ts is.tallied c.args.line at c.index.result.now found (slice_get_read ts (length ts) at c.index.result.now refl (index_low ts c.args.line at found) c.index.ensures)

pub returns-in-None : goal.returns-in-None
returns-in-None c = λ ns is.
    let ts = c.args.self.now.tallies.items in
    sym (no_place ns ts is.tallied c.args.line (ap (λ (l : List LineTally). index_in (lines_of l) c.args.line) (sym c.as_slice.ensures.value) ∙ sym c.in-None.ensures) (length ns))
