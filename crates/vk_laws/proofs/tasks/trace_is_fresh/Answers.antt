use Rattle.std.proofs.Common.{inl, refl}
use Rattle.vk_laws.specs.Machine.{TraceAccesses}
use Rattle.vk_laws.specs.Caches.{CacheFree}
use Rattle.vk_laws.specs.TraceBytes.{uncached, value_before}
use Rattle.vk_laws.specs.Tasks.{accesses_of}
use Rattle.vk_laws.proofs.tasks.trace_is_fresh.Goals as goal

one_agent : (tr : TraceAccesses) → CacheFree tr uncached
one_agent tr = record { seen_read = λ w t b lt wr r. inl refl; seen_write = λ w t b lt wr r. inl refl; available_later = λ p w b h. absurd cc }

pub returns : goal.returns
returns c = record {
  fresh = λ all done cells next b v none r may reads h.
      c.every_order.ensures.fresh (accesses_of all) uncached (value_before all) done cells next b v (c.trace_is_hazard_free.ensures all none) (one_agent (accesses_of all)) (c.trace_is_modelled.ensures all none) r may reads h;
  written = λ all done cells w b v none r is h.
      c.every_order.ensures.written (accesses_of all) uncached (value_before all) done cells w b v (c.trace_is_hazard_free.ensures all none) (one_agent (accesses_of all)) (c.trace_is_modelled.ensures all none) r is h;
}
