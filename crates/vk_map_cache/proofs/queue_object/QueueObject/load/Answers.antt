use Rattle.std.proofs.Common.{get_or, ◌∙◌, subst, arith}
use Rattle.vk_model.specs.Run.Caches.{Cell, loaded}
use Rattle.vk_map_cache.specs.Holdings.{IsCellOf, held_in}
use Rattle.vk_map_cache.proofs.SpanLemmas.{joined}
use Rattle.vk_map_cache.proofs.queue_object.QueueObject.load.Goals as goal

pub loop-done-preserved : goal.loop-done-preserved
loop-done-preserved c =
    let at = c.loop-done.invariant in
    let next = c.load_run-done.result in
    record {
      after = omega (arith, at.after, c.load_run-done.ensures.some);
      most = c.load_run-done.ensures.within;
      len = c.load_run-done.ensures.len ∙ at.len;
      bytes = λ a k cell was.
          let P : Cell → Type 0 = λ x. IsCellOf a (held_in c.load_run-done.new.self k) (get_or c.args.region.now k 0) x in
          subst P (joined (loaded a) cell c.args.low c.loop-done.done next k at.after (omega (arith, c.load_run-done.ensures.some))) (c.load_run-done.ensures.bytes a k _ (at.bytes a k cell was));
    }
