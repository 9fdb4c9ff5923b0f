use Rattle.std.proofs.Common.{◌≡◌, None}
use Rattle.vk_model.specs.Trace.Point.{Past}
use Rattle.vk_model.specs.Rules.Table.{fault}
use Rattle.vk_laws.proofs.Caching.Forgotten.{Given}
use Rattle.vk_laws.proofs.Caching.Discards.{discards_hazard_free, discards_model, discards_cache_free}
use Rattle.vk_laws.proofs.tasks.caching_premises.Goals as goal

pub returns : goal.returns
returns c =
    let given : (all : Past) → fault all ≡ None → Given all = λ all none. record {
      pieces_together = c.pieces_are_byte_writes.ensures;
      apart = c.pieces_write_apart.ensures;
      paths = c.before_is_path.ensures;
      joins = c.before_is_order.ensures.transitive;
      stay = c.commands_stay.ensures;
      hazards = c.no_hazard.ensures;
      visibilities = c.seen_is_before.ensures;
      hosts = c.host_in_order.ensures;
      keeps = c.growth_keeps.ensures;
      order = c.accesses_in_order.ensures;
      sound = (c.no_fault_is_unbroken.ensures all).0 none;
      none = none;
    } in
    record {
      hazard_free = λ all none. discards_hazard_free all (given all none);
      modelled = λ all none. discards_model all (given all none);
      cache_free = λ all ordered none. discards_cache_free all (given all none) ordered;
    }
