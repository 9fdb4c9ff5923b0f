use Rattle.std.proofs.Common.{ap, subst}
use Rattle.vma_defrag.specs.State.{DefragState, PassState}
use Rattle.vma_defrag.specs.Passes.{IsEmptyWhereLowest}
use Rattle.vma_defrag.proofs.Matched.{reserves_matched, alike_matched}
use Rattle.vma_defrag.proofs.NoneToMove.{empty_where}
use Rattle.vma_defrag.specs.Inner.Planned.{moves_of}
use Rattle.vma_defrag.proofs.defrag.Defrag.pass.Goals as goal

pub returns-in-Ok-clause-matched : goal.returns-in-Ok-clause-matched
returns-in-Ok-clause-matched g c = λ matched. reserves_matched (moves_of c.in_ok-planned.planned.items) c.args.pools.now c.reserve_moves.new.pools c.in_ok-planned.ensures.reserved.reserved matched

pub returns-in-Err-clause-matched : goal.returns-in-Err-clause-matched
returns-in-Err-clause-matched g c = λ matched. alike_matched c.args.pools.now c.cancel_all.new.pools (c.cancel_all.ensures.alike c.args.pools.now c.in_ok-planned.ensures.reserved) matched

pub returns-in-Ok-clause-empty : goal.returns-in-Ok-clause-empty
returns-in-Ok-clause-empty g c =
    subst (λ (d : DefragState). IsEmptyWhereLowest d c.args.pools.now c.new.result.moves) c.self.view_is
    (empty_where (record { pool = c.self.inside.pool; max_bytes = c.self.inside.limits.bytes; max_moves = c.self.inside.limits.moves; current = c.self.inside.current }) c.args.pools.now c.reserve_moves.new.pools c.in_ok-planned.planned.items c.in_ok-planned.ensures.chosen c.new.result.moves (ap (λ (p : PassState). p.moves) c.new.ensures))
