use Rattle.std.proofs.Common.{ap, sym, subst, ◌∙◌, arith}
use Rattle.std.specs.Prelude.{max}
use Rattle.vma_tlsf.proofs.Cuts.{seen_held}
use Rattle.vma_tlsf.proofs.Walking.{at_live, start_bound, after_live, after_start}
use Rattle.vma_tlsf.proofs.Longest.{IsLongestTo, longest_at_first, longest_further, longest_at_last, block_chain_of, begins_here}
use Rattle.vma_tlsf.proofs.places.longest_free.Goals as goal

pub walk-init : goal.walk-init
walk-init c =
    let b = begins_here c.args.size c.args.first c.args.nodes.now c.get-node.result c.requires c.get-node.ensures in
    record { at = b.0; longest = subst (λ s. IsLongestTo c.args.size c.args.nodes.now s 0) (sym b.1) (longest_at_first c.args.size c.args.nodes.now) }

pub returns-in_default : goal.returns-in_default
returns-in_default c =
    longest_at_last c.args.size c.args.first c.args.nodes.now c.requires c.walk.slot c.walk.node c.walk.invariant.at c.larger-longest.result c.in_default.is
    (longest_further c.args.size c.args.first c.args.nodes.now c.requires c.walk.slot c.walk.node c.walk.invariant.at c.walk.longest c.larger-longest.result c.walk.invariant.longest (c.larger-longest.ensures ∙ ap (max c.walk.longest) c.free_bytes.ensures))

pub get-node-requires-in-walk : goal.get-node-requires-in-walk
get-node-requires-in-walk c =
    let live = after_live c.args.nodes.now (block_chain_of c.args.size c.args.first c.args.nodes.now c.requires) c.walk.slot c.walk.node c.walk.invariant.at c.in-Some.after c.in-Some.is in
    seen_held c.args.nodes.now c.in-Some.after live.0 live.1

pub walk-smaller : goal.walk-smaller
walk-smaller c =
    let has = block_chain_of c.args.size c.args.first c.args.nodes.now c.requires in
    let starts = after_start c.args.nodes.now has c.walk.slot c.walk.node c.walk.invariant.at c.in-Some.after c.get-node-in-walk.result c.in-Some.is c.get-node-in-walk.ensures in
    let bound = start_bound c.args.nodes.now has c.walk.slot c.walk.node c.walk.invariant.at in
    let some = c.walk.invariant.at.some in
    omega arith

pub walk-preserved : goal.walk-preserved
walk-preserved c =
    let has = block_chain_of c.args.size c.args.first c.args.nodes.now c.requires in
    let live = after_live c.args.nodes.now has c.walk.slot c.walk.node c.walk.invariant.at c.in-Some.after c.in-Some.is in
    let starts = after_start c.args.nodes.now has c.walk.slot c.walk.node c.walk.invariant.at c.in-Some.after c.get-node-in-walk.result c.in-Some.is c.get-node-in-walk.ensures in
    record {
      at = at_live c.args.nodes.now c.in-Some.after c.get-node-in-walk.result live c.get-node-in-walk.ensures;
      longest = subst (λ s. IsLongestTo c.args.size c.args.nodes.now s c.larger-longest.result) (sym starts)
          (longest_further c.args.size c.args.first c.args.nodes.now c.requires c.walk.slot c.walk.node c.walk.invariant.at c.walk.longest c.larger-longest.result c.walk.invariant.longest (c.larger-longest.ensures ∙ ap (max c.walk.longest) c.free_bytes.ensures));
    }
