use Rattle.std.proofs.Common.{sym, subst, false}
use Rattle.vk_order.specs.NodeViews.{act_of}
use Rattle.vk_order.specs.declared.act.Act.{Act}
use Rattle.vk_events.specs.declared.event.Range.TheVariants as range
use Rattle.vk_events.specs.Inner.Described.{IsOf}
use Rattle.vk_events.proofs.Describing.{signal_of, barrier_of, set_of}
use Rattle.vk_events.proofs.event.Event.of.Goals as goal

pub returns-in-Signals-clause-some : goal.returns-in-Signals-clause-some
returns-in-Signals-clause-some c = subst (λ (a : Act). IsOf (record { number = c.args.number; queue = c.args.row.now.point.queue; place = c.args.place; makes_available = c.has_commands.result; makes_visible = false; range = range.All }) c.args.number c.args.row.now.point.queue c.args.place (act_of a)) (sym c.in-Signals.is) (signal_of c.args.number c.args.row.now.point.queue c.args.place c.in-Signals.signal.now c.has_commands.result c.has_commands.ensures)

pub returns-in-Barrier-clause-some : goal.returns-in-Barrier-clause-some
returns-in-Barrier-clause-some c = subst (λ (a : Act). IsOf (record { number = c.args.number; queue = c.args.row.now.point.queue; place = c.args.place; makes_available = c.makes_available.result; makes_visible = c.makes_visible.result; range = c.range_of.result }) c.args.number c.args.row.now.point.queue c.args.place (act_of a)) (sym c.in-Barrier.is)
    (barrier_of c.args.number c.args.row.now.point.queue c.args.place c.in-Barrier.element.now c.makes_available.result c.makes_visible.result c.range_of.result c.makes_available.ensures c.makes_visible.ensures c.range_of.ensures)

pub returns-in-Set-clause-some : goal.returns-in-Set-clause-some
returns-in-Set-clause-some c = subst (λ (a : Act). IsOf (record { number = c.args.number; queue = c.args.row.now.point.queue; place = c.args.place; makes_available = c.frees.result; makes_visible = false; range = range.All }) c.args.number c.args.row.now.point.queue c.args.place (act_of a)) (sym c.in-Set.is)
    (set_of c.args.number c.args.row.now.point.queue c.args.place c.in-Set.field-0 c.in-Set.field-1 c.in-Set.dependency.now c.frees.result c.frees.ensures)
