use Rattle.std.proofs.Common.{◌+◌, sym, ◌∙◌, arith}
use Rattle.vma_tlsf.specs.Inner.Chain.{range, seen}
use Rattle.vma_tlsf.proofs.Fitting.{down_le}
use Rattle.vma_tlsf.proofs.Placing.{free_bound, before_free_held, before_other, low_if}
use Rattle.vma_tlsf.proofs.places.low_end.Goals as goal

pub get-previous-requires : goal.get-previous-requires
get-previous-requires c = before_free_held c.args.nodes.now c.args.node c.in-Some.before c.requires.chain c.requires.free c.in-Some.is

pub overflow_add-result : goal.overflow_add-result
overflow_add-result c = let bound = free_bound c.args.nodes.now c.args.node c.requires.chain c.requires.free in omega arith

pub overflow_mul-result : goal.overflow_mul-result
overflow_mul-result c =
    let bound = free_bound c.args.nodes.now c.args.node c.requires.chain c.requires.free in
    let down = down_le (c.args.node.start + 1023) in
    omega arith

pub returns-then-is_of_other_kind : goal.returns-then-is_of_other_kind
returns-then-is_of_other_kind c =
    low_if (seen c.args.nodes.now) (range c.args.node) c.args.kind
    (before_other c.args.nodes.now c.args.node c.get-previous.result c.in-Some.before c.args.kind c.requires.chain c.requires.free c.in-Some.is c.get-previous.ensures ∙ sym c.is_of_other_kind.ensures ∙ c.if-is_of_other_kind.true)
