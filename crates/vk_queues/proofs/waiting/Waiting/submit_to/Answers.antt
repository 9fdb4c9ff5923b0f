use Rattle.std.proofs.Common.{◌≡◌, ◌+◌, ◌++◌, ◌∙◌, sym, ap, subst, List, ℕ, Some, slice_get, set}
use Rattle.std.proofs.lemmas.Option.{get_or_from_slice_get}
use Rattle.vk_model.specs.Trace.Order.{batches_from}
use Rattle.vk_queues.specs.declared.lines.Line.{Line}
use Rattle.vk_queues.specs.Inner.AreWaiting.{AreWaiting}
use Rattle.vk_queues.proofs.Fronts.{other_lines, submitted_waiting}
use Rattle.vk_queues.proofs.waiting.Waiting.submit_to.Goals as goal

pub returns : goal.returns
returns c = λ f w. record {
  parts =
      let lines : List Line = c.line_of.new.lines.items in
      let k : ℕ = c.in_ok-k.k in
      let line : Line = c.index_mut-line.result.now in
      let here = c.in_ok-k.ensures.here in
      let is : here.0 ≡ line = sym (get_or_from_slice_get lines k here.0 line here.1) ∙ sym c.index_mut-line.ensures.value in
      let at : slice_get lines k ≡ Some line = here.1 ∙ ap Some is in
      let queue : line.queue ≡ c.args.queue = ap (λ (l : Line). l.queue) (sym is) ∙ here.2 in
      let there = other_lines c.args.self.now.tallies c.args.self.now.lines.items lines c.args.number f w.parts (c.in_ok-k.ensures.lined f.waiting w.parts.lined) (c.in_ok-k.ensures.met f.past w.parts.met) in
      subst (λ (q : ℕ). AreWaiting c.args.self.now.tallies (set lines k c.submit.new.self) (c.args.number + 1) (record { past = f.past; waiting = f.waiting ++ batches_from f.past c.args.number q 0 c.args.batches.now })) queue
      (submitted_waiting c.args.self.now.tallies lines k line c.submit.new.self c.args.number f c.args.batches.now there at c.submit.ensures.queue c.submit.ensures.met (c.in_ok-submit.ensures.batches f.past w.parts.tallied));
}
