use Rattle.std.proofs.Common.{◌∙◌, arith}
use Rattle.vk_history.proofs.Using.Times.{of_barrier, of_both, of_plain}
use Rattle.vk_history.proofs.used.discount_command.Goals as goal

pub returns-in-Barrier : goal.returns-in-Barrier
returns-in-Barrier c = λ r.
    let one = c.discount_elements.ensures r in
    let named = of_barrier r c.args.command.now c.in-Barrier.elements c.as_slice.result.now c.in-Barrier.is c.as_slice.ensures in
    omega (arith, one, named)

pub returns-in_default : goal.returns-in_default
returns-in_default c = λ r.
    let first = c.discount_id.ensures r in
    let second = c.discount_id-in_default.ensures r in
    let named = of_plain r c.args.command.now c.in_default.not-Barrier ∙ of_both r c.used_by-used.result.first c.used_by-used.result.second _ c.used_by-used.ensures in
    omega (arith, first, second, named)
