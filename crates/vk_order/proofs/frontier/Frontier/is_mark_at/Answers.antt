use Rattle.std.proofs.Common.{◌≡◌, ◌∷◌, Some, ap, sym, ◌∙◌}
use Rattle.vk_model.proofs.Lists.Members.{contains-tail}
use Rattle.vk_model.proofs.Lists.Truths.{clash}
use Rattle.vk_order.specs.declared.parts.Spot.{Spot}
use Rattle.vk_order.specs.Lines.{line_of, place}
use Rattle.vk_order.specs.Inner.Tallies.{lines_of}
use Rattle.vk_order.proofs.KnownRows.{at_old}
use Rattle.vk_order.proofs.ServeLemmas.{part_reached}
use Rattle.vk_order.proofs.frontier.Frontier.is_mark_at.Goals as goal

pub returns-then-marks-clause-marks : goal.returns-then-marks-clause-marks
returns-then-marks-clause-marks c = λ h ns n w m cached numbers part mark hw on at.
    let ls = lines_of c.args.self.now.tallies.items in
    let line : line_of m ≡ Some c.spot.result.line = mark.line ∙ ap (λ (s : Spot). Some s.line) (sym c.spot.ensures) in
    let there : place (n ∷ ns) c.spot.result.line m.number ≡ c.spot.result.place =
    at_old ns n numbers c.spot.result.line m mark.there ∙ ap (λ (s : Spot). place ns s.line m.number) c.spot.ensures ∙ sym mark.at ∙ ap (λ (s : Spot). s.place) (sym c.spot.ensures) in
    let reached = part_reached (n ∷ ns) numbers ls n c.args.part.now part m c.spot.result.line c.spot.result.place (contains-tail n ns m mark.there) line there in
    (sym (c.marks.ensures ns ls w m cached numbers.1 mark hw on at) ∙ c.if-marks.true, reached.0 (sym c.reaches.ensures ∙ h))

pub returns-then-marks-clause-none : goal.returns-then-marks-clause-none
returns-then-marks-clause-none c = λ h ns n w m cached numbers part mark hw on at both.
    let ls = lines_of c.args.self.now.tallies.items in
    let line : line_of m ≡ Some c.spot.result.line = mark.line ∙ ap (λ (s : Spot). Some s.line) (sym c.spot.ensures) in
    let there : place (n ∷ ns) c.spot.result.line m.number ≡ c.spot.result.place =
    at_old ns n numbers c.spot.result.line m mark.there ∙ ap (λ (s : Spot). place ns s.line m.number) c.spot.ensures ∙ sym mark.at ∙ ap (λ (s : Spot). s.place) (sym c.spot.ensures) in
    let reached = part_reached (n ∷ ns) numbers ls n c.args.part.now part m c.spot.result.line c.spot.result.place (contains-tail n ns m mark.there) line there in
    clash (c.reaches.ensures ∙ reached.1 both.1) h

pub returns-else-marks-clause-none : goal.returns-else-marks-clause-none
returns-else-marks-clause-none c = λ h ns n w m cached numbers part mark hw on at both.
    clash (c.marks.ensures ns (lines_of c.args.self.now.tallies.items) w m cached numbers.1 mark hw on at ∙ both.0) c.if-marks.false
