use Rattle.std.proofs.Common.{◌∙◌, arith}
use Rattle.vk_history.proofs.Using.Times.{of_barrier, of_both, of_plain}
use Rattle.vk_history.proofs.used.count_command.Goals as goal

pub returns-in_ok-count_elements-in-Barrier : goal.returns-in_ok-count_elements-in-Barrier
returns-in_ok-count_elements-in-Barrier c = λ r.
    let one = c.in_ok-count_elements-in-Barrier.ensures r in
    let named = of_barrier r c.args.command.now c.in-Barrier.elements c.as_slice.result.now c.in-Barrier.is c.as_slice.ensures in
    omega (arith, one, named)

pub returns-in_ok-count_id-in_default-2 : goal.returns-in_ok-count_id-in_default-2
returns-in_ok-count_id-in_default-2 c = λ r.
    let first = c.in_ok-count_id-in_default.ensures r in
    let second = c.in_ok-count_id-in_default-2.ensures r in
    let named = of_plain r c.args.command.now c.in_default.not-Barrier ∙ of_both r c.used_by-used.result.first c.used_by-used.result.second _ c.used_by-used.ensures in
    omega (arith, first, second, named)
