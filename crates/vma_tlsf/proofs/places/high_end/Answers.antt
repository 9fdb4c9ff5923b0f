use Rattle.std.proofs.Common.{◌+◌, sym, ◌∙◌, arith}
use Rattle.vma_tlsf.specs.Inner.Chain.{range, seen}
use Rattle.vma_tlsf.proofs.Fitting.{down_le}
use Rattle.vma_tlsf.proofs.Placing.{free_bound, after_free_held, after_other, high_if}
use Rattle.vma_tlsf.proofs.places.high_end.Goals as goal

pub overflow_add-end : goal.overflow_add-end
overflow_add-end c = let bound = free_bound c.args.nodes.now c.args.node c.requires.chain c.requires.free in omega arith

pub get-next-requires : goal.get-next-requires
get-next-requires c = after_free_held c.args.nodes.now c.args.node c.in-Some.after c.requires.chain c.requires.free c.in-Some.is

pub overflow_mul-result : goal.overflow_mul-result
overflow_mul-result c =
    let bound = free_bound c.args.nodes.now c.args.node c.requires.chain c.requires.free in
    let down = down_le (c.args.node.start + c.args.node.size) in
    omega arith

pub returns-then-is_of_other_kind : goal.returns-then-is_of_other_kind
returns-then-is_of_other_kind c =
    high_if (seen c.args.nodes.now) (range c.args.node) c.args.kind
    (after_other c.args.nodes.now c.args.node c.get-next.result c.in-Some.after c.args.kind c.requires.chain c.requires.free c.in-Some.is c.get-next.ensures ∙ sym c.is_of_other_kind.ensures ∙ c.if-is_of_other_kind.true)
