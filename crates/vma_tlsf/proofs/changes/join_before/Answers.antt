use Rattle.std.proofs.Common.{◌≡◌, sym, ap, ◌∙◌, get_or, None}
use Rattle.vma_tlsf.proofs.Joins.{before_held_in, join_before_held, join_before_some, join_before_made, freed_alone}
use Rattle.vma_tlsf.proofs.Splits.{some_same}
use Rattle.vma_tlsf.proofs.changes.join_before.Goals.{in-Some+in_default-state, in_default}
use Rattle.vma_tlsf.proofs.changes.join_before.Goals as goal

pub get-front-requires : goal.get-front-requires
get-front-requires c = before_held_in c.args.nodes.now c.args.slot c.in-Some.before c.get-whole.result c.requires.chain c.requires.there c.get-whole.ensures c.in-Some.is

pub merge-requires-clause-after : goal.merge-requires-clause-after
merge-requires-clause-after c = join_before_held c.args.nodes.now c.unlink.new.nodes c.in-Some.before c.args.slot c.get-whole.result c.get-front.result c.get-previous.result c.get-node.result c.requires.chain c.requires.there c.requires.next c.unlink.ensures c.get-whole.ensures c.in-Some.is c.get-front.ensures c.get-previous.ensures c.get-node.ensures

pub merge-requires-clause-some : goal.merge-requires-clause-some
merge-requires-clause-some c = join_before_some c.args.nodes.now c.unlink.new.nodes c.in-Some.before c.args.slot c.get-whole.result c.get-front.result c.get-previous.result c.get-node.result c.requires.chain c.requires.there c.requires.next c.unlink.ensures c.get-whole.ensures c.in-Some.is c.get-front.ensures c.get-previous.ensures c.get-node.ensures

pub returns-in-Free-clause-freed : goal.returns-in-Free-clause-freed
returns-in-Free-clause-freed c = join_before_made c.args.nodes.now c.unlink.new.nodes c.in-Some.before c.args.slot c.get-whole.result c.get-front.result c.get-previous.result c.get-node.result c.requires.chain c.requires.there c.requires.next c.unlink.ensures c.get-whole.ensures c.in-Some.is c.get-front.ensures c.get-previous.ensures c.get-node.ensures c.merge.new.nodes c.in-Free.is c.merge.ensures.merged

pub returns-clause-freed : goal.returns-clause-freed
returns-clause-freed c =
    freed_alone c.args.nodes.now c.paint.new.nodes c.args.slot c.get-whole.result c.requires.chain c.requires.there c.requires.next c.get-whole.ensures
    (λ j n on at free. elim c.match-whole.branch [
      | in-Some+in_default-state w ↦
          let same : w.in-Some.before ≡ j = some_same _ _ (sym w.in-Some.is ∙ on) in
          let is : w.get-front.result ≡ n = some_same _ _ (sym w.get-front.ensures ∙ ap (λ k. get_or c.args.nodes.now k None) same ∙ at) in
          w.in_default-state.not-Free (ap (λ m. m.state) is ∙ free)
      | in_default w ↦ w.in_default.not-Some j on
    ])
    c.paint.ensures.painted
