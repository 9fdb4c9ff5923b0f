use Rattle.std.proofs.Common.{◌≡◌, refl, ap, sym, ◌∙◌, arith}
use Rattle.std.proofs.lemmas.Bool.{ltb-true, lt-ltb}
use Rattle.vk_model.proofs.Lists.Truths.{bool_same}
use Rattle.vk_order.specs.declared.counts.Counts.{Counts}
use Rattle.vk_order.specs.Inner.Fronts.{clock_in}
use Rattle.vk_order.specs.Inner.Kept.{clock_at}
use Rattle.vk_order.proofs.CountLemmas.{at_line}
use Rattle.vk_order.proofs.ByEdges.{by_last, by_edge}
use Rattle.vk_order.specs.Inner.Tallies.{lines_of}
use Rattle.vk_order.proofs.new_node.NewNode.follows.Goals as goal

pub returns : goal.returns
returns c = λ ns n m new_node there on at.
    let line = c.args.line in
    let count : c.counts.result.clock ≡ clock_at (lines_of c.args.self.now.tallies.now) (clock_in c.args.self.now.front) line = ap (λ (d : Counts). d.clock) c.counts.ensures ∙ sym (at_line (λ d. d.clock) refl (lines_of c.args.self.now.tallies.now) c.args.self.now.front.counts.items line) in
    let join = new_node.front.clock.join.counts line m there on in
    bool_same _ _
    (λ e. by_edge n ns new_node.numbers m there (join.1 (let lt = ltb-true _ _ e in omega arith)))
    (λ h. lt-ltb _ _ (let lt = join.0 (by_last n ns new_node.numbers m there h) in omega arith))
