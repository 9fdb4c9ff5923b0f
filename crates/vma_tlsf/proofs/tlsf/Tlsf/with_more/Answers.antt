use Rattle.std.proofs.Common.{List, [], Option, Some, None, set, replicate, refl, ap, sym, ◌∙◌, subst}
use Rattle.vk_nodes.specs.declared.node.Node.{Node}
use Rattle.vma_tlsf.specs.Inner.Steps.{AreAlike, IsHeld}
use Rattle.vma_tlsf.proofs.Slots.{alike-trans, alike-more, held-set}
use Rattle.vma_tlsf.proofs.Beginning.{new_block, nothing_taken}
use Rattle.vma_tlsf.proofs.tlsf.Tlsf.with_more.Goals as goal

pub push-requires : goal.push-requires
push-requires c =
    let first = c.in_ok-first.ensures.fresh.0 in
    subst (λ (v : List (Option Node)). IsHeld v c.in_ok-first.first) (sym c.set.ensures) (held-set c.fresh.new.nodes c.in_ok-first.first first (Some c.whole.result) refl c.in_ok-first.first first)

pub invariant_of-result : goal.invariant_of-result
invariant_of-result c = record {
  more = c.requires.more;
  block = new_block c.args.size c.in_ok-first.first c.fresh.new.nodes c.push.new.nodes c.requires.some c.requires.bound
      (alike-trans [] (replicate 64 None) c.fresh.new.nodes (alike-more [] 64) (subst (λ v. AreAlike v c.fresh.new.nodes) c.in_ok-nodes.ensures c.fresh.ensures.alike)) c.in_ok-first.ensures.fresh.0
      (subst (λ v. AreAlike v c.push.new.nodes) (c.set.ensures ∙ ap (λ n. set c.fresh.new.nodes c.in_ok-first.first (Some n)) c.whole.ensures) c.push.ensures);
}

pub returns : goal.returns
returns c = rw (nothing_taken c.args.size c.in_ok-first.first c.fresh.new.nodes c.push.new.nodes c.requires.some c.requires.bound
    (alike-trans [] (replicate 64 None) c.fresh.new.nodes (alike-more [] 64) (subst (λ v. AreAlike v c.fresh.new.nodes) c.in_ok-nodes.ensures c.fresh.ensures.alike)) c.in_ok-first.ensures.fresh.0
    (subst (λ v. AreAlike v c.push.new.nodes) (c.set.ensures ∙ ap (λ n. set c.fresh.new.nodes c.in_ok-first.first (Some n)) c.whole.ensures) c.push.ensures)) refl
