use Rattle.std.proofs.Common.{◌≡◌, ◌&&◌, Some, ap, sym, ◌∙◌, arith}
use Rattle.std.proofs.lemmas.Bool.{and_parts}
use Rattle.vk_model.specs.Sync.Edge.{edge, is_command}
use Rattle.vk_model.specs.Sync.Seen.{makes_writes_available}
use Rattle.vk_model.proofs.Sync.Paths.{edge_forward}
use Rattle.vk_order.specs.Bytes.{byte_of}
use Rattle.vk_model.proofs.Lists.Truths.{clash}
use Rattle.vk_order.specs.declared.parts.Spot.{Spot}
use Rattle.vk_order.specs.Lines.{line_of, place}
use Rattle.vk_order.specs.Inner.Tallies.{lines_of}
use Rattle.vk_order.proofs.frontier.Frontier.is_mark.Goals as goal

pub returns-then-marks : goal.returns-then-marks
returns-then-marks c = λ ns n w m cached from is new_node any parts le hw on at part.
    let ls = lines_of c.args.self.now.tallies.items in
    let marks = sym (c.marks.ensures ns ls w m cached new_node.numbers.1 part hw on at) ∙ c.if-marks.true in
    let line : line_of m ≡ Some c.spot.result.line = part.line ∙ ap (λ (s : Spot). Some s.line) (sym c.spot.ensures) in
    let there : place ns c.spot.result.line m.number ≡ c.spot.result.place = ap (λ (s : Spot). place ns s.line m.number) c.spot.ensures ∙ sym part.at ∙ ap (λ (s : Spot). s.place) (sym c.spot.ensures) in
    let up = edge_forward ns w m (and_parts (is_command w.act && makes_writes_available cached ns m (byte_of c.args.byte) m.act) (edge ns w m) marks).1 in
    let served = c.is_served.ensures ns n m cached from is new_node any parts (omega arith) part.there line there in
    ((λ h. (marks, served.0 h)), (λ both. served.1 both.1))

pub returns-else-marks : goal.returns-else-marks
returns-else-marks c = λ ns n w m cached from is new_node any parts le hw on at part.
    let ls = lines_of c.args.self.now.tallies.items in
    ((λ h. clash h c.if-marks.false), (λ both. c.marks.ensures ns ls w m cached new_node.numbers.1 part hw on at ∙ both.0))
