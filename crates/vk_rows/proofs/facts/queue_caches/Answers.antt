use Rattle.std.specs.Prelude.{refl}
use Rattle.vk_rows.specs.Claims.{on_rows}
use Rattle.vk_rows.proofs.facts.queue_caches.Goals as goal

pub returns : goal.returns
unfolding on_rows
returns c = record {
  first_fill = (_, (_, ((refl, refl, refl), refl), (_, ((refl, refl, refl), refl), (_, ((refl, refl, refl), refl), (_, ((refl, refl), refl), refl)))), (refl, refl));
  second_fill = (_, (_, ((refl, refl, refl), refl), (_, ((refl, refl, refl), refl), (_, ((refl, refl, refl), refl), (_, ((refl, refl), refl), (_, ((refl, refl), refl), refl))))), (refl, refl));
  other_order = (_, (_, ((refl, refl, refl), refl), (_, ((refl, refl, refl), refl), (_, ((refl, refl, refl), refl), (_, ((refl, refl), refl), (_, ((refl, refl), refl), refl))))), (refl, refl));
  written_then_dropped = (_, (_, ((refl, refl, refl), refl), (_, ((refl, refl, refl), refl), (_, ((refl, refl), refl), refl))), (refl, refl));
  old_copy = (_, (_, ((refl, refl, refl), refl), (_, ((refl, refl, refl), refl), (_, ((refl, refl, refl), refl), (_, ((refl, refl, refl), refl), (_, ((refl, refl, refl), refl), (_, (refl, refl), refl)))))), refl);
  dropped_by_wait = (_, (_, ((refl, refl, refl), refl), (_, ((refl, refl, refl), refl), (_, ((refl, refl, refl), refl), (_, ((refl, refl, refl), refl), (_, ((refl, refl, refl), refl), (_, (refl, refl), (_, ((refl, refl), refl), refl))))))), (refl, refl));
  copied = (_, (_, ((refl, refl, refl), refl), (_, ((refl, refl, refl), refl), (_, ((refl, refl, refl), refl), (_, ((refl, refl, refl), refl), (_, ((refl, refl, refl), refl), (_, (refl, refl), (_, ((refl, refl), refl), (_, ((refl, refl), refl), (_, ((refl, refl, refl), refl), refl))))))))), refl);
  unflushed = (_, (_, ((refl, refl, refl), refl), (_, ((refl, refl, refl), refl), (_, ((refl, refl, refl), refl), refl))), (refl, refl));
  flushed = (_, (_, ((refl, refl, refl), refl), (_, ((refl, refl, refl), refl), (_, ((refl, refl, refl), refl), (_, ((refl, refl, refl), refl), refl)))), refl);
  invalidated = (_, (_, ((refl, refl, refl), refl), (_, ((refl, refl, refl), refl), (_, ((refl, refl, refl), refl), (_, ((refl, refl, refl), refl), refl)))), refl);
  atom_loaded = (_, (_, ((refl, refl, refl), refl), (_, ((refl, refl, refl), refl), (_, ((refl, refl, refl), refl), refl))), refl);
  atom_written_back = (_, (_, ((refl, refl, refl), refl), (_, ((refl, refl, refl), refl), (_, ((refl, refl, refl), refl), (_, ((refl, refl, refl), refl), refl)))), refl);
  dirty = (refl, refl);
  back = refl;
  stale = refl;
  fresh = refl;
  kept = refl;
  gone = refl;
}
