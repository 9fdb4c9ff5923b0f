use Rattle.std.proofs.Common.{◌∙◌, subst, arith}
use Rattle.vk_model.specs.Run.Caches.{Cell}
use Rattle.vk_map_cache.specs.Holdings.{IsCellOf, held_in}
use Rattle.vk_map_cache.specs.Inner.Marks.{turned}
use Rattle.vk_map_cache.proofs.SpanLemmas.{joined}
use Rattle.vk_map_cache.proofs.queue_object.QueueObject.leave.Goals as goal

pub loop-done-preserved : goal.loop-done-preserved
loop-done-preserved c =
    let at = c.loop-done.invariant in
    let next = c.leave_run-done.result in
    record {
      after = omega (arith, at.after, c.leave_run-done.ensures.some);
      most = c.leave_run-done.ensures.within;
      len = c.leave_run-done.ensures.len ∙ at.len;
      bytes = λ a k value cell was.
          let P : Cell → Type 0 = λ x. IsCellOf a (held_in c.leave_run-done.new.self k) value x in
          subst P (joined (turned c.args.turn a) cell c.args.low c.loop-done.done next k at.after (omega (arith, c.leave_run-done.ensures.some))) (c.leave_run-done.ensures.bytes a k value _ (at.bytes a k value cell was));
    }
