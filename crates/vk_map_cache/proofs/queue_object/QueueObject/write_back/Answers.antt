use Rattle.std.proofs.Common.{get_or, ◌∙◌, subst, arith}
use Rattle.vk_model.specs.Run.Caches.{Cell, written_back}
use Rattle.vk_map_cache.specs.Holdings.{IsCellOf, held_in}
use Rattle.vk_map_cache.proofs.SpanLemmas.{joined}
use Rattle.vk_map_cache.proofs.queue_object.QueueObject.write_back.Goals as goal

pub loop-done-preserved : goal.loop-done-preserved
loop-done-preserved c =
    let at = c.loop-done.invariant in
    let next = c.write_back_run-done.result in
    record {
      after = omega (arith, at.after, c.write_back_run-done.ensures.some);
      most = c.write_back_run-done.ensures.within;
      len = c.write_back_run-done.ensures.len ∙ at.len;
      size = c.write_back_run-done.ensures.size ∙ at.size;
      bytes = λ a k cell was.
          let P : Cell → Type 0 = λ x. IsCellOf a (held_in c.write_back_run-done.new.self k) (get_or c.write_back_run-done.new.region k 0) x in
          subst P (joined (written_back a) cell c.args.low c.loop-done.done next k at.after (omega (arith, c.write_back_run-done.ensures.some))) (c.write_back_run-done.ensures.bytes a k _ (at.bytes a k cell was));
    }
