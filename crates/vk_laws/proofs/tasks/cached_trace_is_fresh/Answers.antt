use Rattle.vk_laws.specs.Discards.{with_discards}
use Rattle.vk_laws.specs.TraceBytes.{value_before}
use Rattle.vk_laws.specs.TraceCaches.{caching_of}
use Rattle.vk_laws.proofs.tasks.cached_trace_is_fresh.Goals as goal

pub returns : goal.returns
returns c = record {
  settled = λ all done cells next ordered none r may.
      c.every_order.ensures.settled (with_discards all) (caching_of all) done cells next (c.discards_keep_premises.ensures.hazard_free all none) r may;
  fresh = λ all done cells next b v ordered none r may reads h.
      c.every_order.ensures.fresh (with_discards all) (caching_of all) (value_before all) done cells next b v (c.discards_keep_premises.ensures.hazard_free all none) (c.trace_is_cache_free.ensures all ordered none) (c.discards_keep_premises.ensures.modelled all none) r may reads h;
  written = λ all done cells w b v ordered none r is h.
      c.every_order.ensures.written (with_discards all) (caching_of all) (value_before all) done cells w b v (c.discards_keep_premises.ensures.hazard_free all none) (c.trace_is_cache_free.ensures all ordered none) (c.discards_keep_premises.ensures.modelled all none) r is h;
}
