use Rattle.std.proofs.Common.{Option, sym, subst}
use Rattle.vk_order.specs.declared.fronts.Front.{Front}
use Rattle.vk_order.specs.Inner.Fronts.{IsNamed}
use Rattle.vk_order.specs.Inner.Keyed.{front_at}
use Rattle.vk_order.proofs.NameLemmas.{signals_step, signals_same, some_step, some_same}
use Rattle.vk_order.proofs.names.add_signal.Goals as goal

pub returns-in_default : goal.returns-in_default
returns-in_default c = λ ns ls n next are. record {
  each = signals_same ns ls n c.args.row.now c.args.own.now next (sym c.in_default.ensures) (front_at c.args.signals.now) are.each;
  some = some_same ns ls n c.args.row.now c.args.own.now next (front_at c.args.signals.now) are.some;
}

pub returns : goal.returns
returns c = λ ns ls n next are. record {
  each = signals_step ns ls n c.args.row.now c.args.own.now next c.in-Some.signal.semaphore c.in-Some.signal.value (sym c.in-Some.ensures) (front_at c.args.signals.now) (front_at c.set.new.self) c.in_ok-front.front
      c.in_ok-set.ensures.here c.in_ok-set.ensures.others
      (λ test passes whole named. c.in_ok-front.ensures ns ls test n next.numbers passes whole (subst (λ (o : Option Front). IsNamed ns ls test o) (sym c.get.ensures) named) next.front)
      are.each;
  some = some_step ns ls n c.args.row.now c.args.own.now next c.in-Some.signal.semaphore c.in-Some.signal.value (sym c.in-Some.ensures) (front_at c.args.signals.now) (front_at c.set.new.self) c.in_ok-set.ensures.others are.some;
}
