use Rattle.vk_laws.proofs.Living.Alive.{host_names_live}
use Rattle.vk_laws.proofs.lifetimes.entries_name_live.Goals as goal
use Rattle.vk_model.specs.Trace.Order.{host, order}
use Rattle.std.proofs.Common.{refl}
use Rattle.vk_laws.proofs.Nodes.Steady.{live_ids}
use Rattle.vk_laws.proofs.Living.NextEntry.{next_comes}

pub returns : goal.returns
returns c = λ t steps s x xs i kind run none left asked.
    let n = next_comes c.growth_keeps.ensures t steps s x xs run left in
    host_names_live s.front.past (host s.count x) x refl (live_ids (order t) ((c.no_fault_is_sound.ensures t).0 none) s.front.past (host s.count x) n) i kind asked
