use Rattle.std.proofs.Common.{◌-◌, true, false, refl, sym, subst}
use Rattle.vk_backing.specs.Steps.{one_more}
use Rattle.vk_resources.proofs.Resting.{rest_done}
use Rattle.vk_resources.proofs.PoolEntries.{pool_absent, pool_done}
use Rattle.vk_resources.proofs.Sparing.{unchanged_spared, spared_still, ends_spared, free_away, destroy_away, pool_spared, dropped_spared, maps_spared, ends_copies, pool_copies, dropped_copies, maps_copies}
use Rattle.vk_resources.proofs.PoolEnds.{drop_unused, drop_done}
use Rattle.vk_resources.specs.Held.{IsConsistent}
use Rattle.vk_resources.specs.Rest.{is_changed_by}
use Rattle.vk_resources.proofs.KeptCopies.{access_copies}
use Rattle.vk_resources.proofs.Keeping.{objects_rest, same_objects, ends_keep}
use Rattle.vk_resources.proofs.Ending.{free_empty, free_done, destroy_empty, destroy_done}
use Rattle.vk_resources.proofs.Allotting.{free_allots, destroy_allots, rest_rooms, rest_allots, is_rest}
use Rattle.vk_resources.proofs.Remapping.{remapped_rest, map_done, map_rooms, map_allots, unmap_done, unmap_rooms, unmap_allots, uncounted}
use Rattle.vk_resources.specs.Counted.{Counts}
use Rattle.vk_model.specs.declared.entry.Entry.{Entry}
use Rattle.vk_resources.proofs.resources.Resources.apply.Goals as goal

-- ---- what ends

pub end-requires-clause-empty : goal.end-requires-clause-empty
end-requires-clause-empty c = λ consistent. free_empty c.args.self.now c.args.entry.now c.in-Free.memory c.in-Free.is c.requires.ready.0 c.requires.ready.1 c.requires.ready.2 consistent

pub returns-in-Free-clause-done : goal.returns-in-Free-clause-done
returns-in-Free-clause-done c = λ e past m fit. free_done c.args.self.now c.args.entry.now c.in-Free.memory c.in-Free.is past m fit c.end.ensures.consistent c.end.new.self c.end.ensures.ended e

pub returns-in-Free-clause-allots : goal.returns-in-Free-clause-allots
returns-in-Free-clause-allots c = λ past m fit. free_allots c.args.self.now c.end.new.self c.args.entry.now c.in-Free.memory c.in-Free.is c.end.ensures.ended

pub returns-in-Free-clause-rest : goal.returns-in-Free-clause-rest
returns-in-Free-clause-rest c = λ past m fit. objects_rest c.args.self.now c.end.new.self (is_changed_by c.args.self.now past c.args.entry.now) (ends_keep c.args.self.now c.end.new.self c.in-Free.memory c.end.ensures.ended)

pub end-requires-in-Destroy-clause-empty : goal.end-requires-in-Destroy-clause-empty
end-requires-in-Destroy-clause-empty c = λ consistent. destroy_empty c.args.self.now c.args.entry.now c.in-Destroy.resource c.in-Destroy.is c.requires.ready.0 c.requires.ready.1 c.requires.ready.2 consistent

pub returns-in-Destroy-clause-done : goal.returns-in-Destroy-clause-done
returns-in-Destroy-clause-done c = λ e past m fit. destroy_done c.args.self.now c.args.entry.now c.in-Destroy.resource c.in-Destroy.is past m fit c.end-in-Destroy.ensures.consistent c.end-in-Destroy.new.self c.end-in-Destroy.ensures.ended e

pub returns-in-Destroy-clause-allots : goal.returns-in-Destroy-clause-allots
returns-in-Destroy-clause-allots c = λ past m fit. destroy_allots c.args.self.now c.end-in-Destroy.new.self c.args.entry.now c.in-Destroy.resource c.in-Destroy.is c.end-in-Destroy.ensures.ended

pub returns-in-Destroy-clause-rest : goal.returns-in-Destroy-clause-rest
returns-in-Destroy-clause-rest c = λ past m fit. objects_rest c.args.self.now c.end-in-Destroy.new.self (is_changed_by c.args.self.now past c.args.entry.now) (ends_keep c.args.self.now c.end-in-Destroy.new.self c.in-Destroy.resource c.end-in-Destroy.ensures.ended)

-- ---- defragmentations

pub end-requires-clause-still : goal.end-requires-clause-still
end-requires-clause-still c = λ consistent. spared_still c.args.self.now consistent c.args.entry.now c.in-Free.memory (free_away c.args.self.now c.args.entry.now c.in-Free.memory c.in-Free.is) c.requires.spared

pub end-requires-in-Destroy-clause-still : goal.end-requires-in-Destroy-clause-still
end-requires-in-Destroy-clause-still c = λ consistent. spared_still c.args.self.now consistent c.args.entry.now c.in-Destroy.resource (destroy_away c.args.self.now c.args.entry.now c.in-Destroy.resource c.in-Destroy.is) c.requires.spared

pub returns-in-Free-clause-passing : goal.returns-in-Free-clause-passing
returns-in-Free-clause-passing c =
    ends_spared c.args.self.now c.end.ensures.consistent c.args.entry.now c.in-Free.memory (free_away c.args.self.now c.args.entry.now c.in-Free.memory c.in-Free.is) c.end.new.self c.end.ensures.ended

pub returns-in-Destroy-clause-passing : goal.returns-in-Destroy-clause-passing
returns-in-Destroy-clause-passing c =
    ends_spared c.args.self.now c.end-in-Destroy.ensures.consistent c.args.entry.now c.in-Destroy.resource (destroy_away c.args.self.now c.args.entry.now c.in-Destroy.resource c.in-Destroy.is) c.end-in-Destroy.new.self c.end-in-Destroy.ensures.ended

pub returns-in_ok-make_pool-in-Pool-clause-passing : goal.returns-in_ok-make_pool-in-Pool-clause-passing
returns-in_ok-make_pool-in-Pool-clause-passing c =
    let consistent = c.make_pool.ensures.consistent in
    pool_spared c.args.entry.now c.args.self.now c.make_pool.new.self c.in-Pool.id c.in-Pool.info (pool_absent c.args.self.now c.args.entry.now c.in-Pool.id c.in-Pool.info c.in-Pool.is consistent c.requires.ready.0 c.requires.ready.1.live c.requires.ready.2) c.in_ok-make_pool-in-Pool.ensures.made

pub returns-in-DropPool-clause-passing : goal.returns-in-DropPool-clause-passing
returns-in-DropPool-clause-passing c = dropped_spared c.args.entry.now c.args.self.now c.drop_pool.new.self c.in-DropPool.pool c.in-DropPool.is c.drop_pool.ensures.dropped

-- ---- parts that were copied

pub returns-in-Free-clause-agree : goal.returns-in-Free-clause-agree
returns-in-Free-clause-agree c = λ past m fit.
    ends_copies c.args.self.now c.end.ensures.consistent c.args.entry.now c.in-Free.memory (free_away c.args.self.now c.args.entry.now c.in-Free.memory c.in-Free.is) c.end.new.self (is_changed_by c.args.self.now past c.args.entry.now) c.end.ensures.ended

pub returns-in-Destroy-clause-agree : goal.returns-in-Destroy-clause-agree
returns-in-Destroy-clause-agree c = λ past m fit.
    ends_copies c.args.self.now c.end-in-Destroy.ensures.consistent c.args.entry.now c.in-Destroy.resource (destroy_away c.args.self.now c.args.entry.now c.in-Destroy.resource c.in-Destroy.is) c.end-in-Destroy.new.self (is_changed_by c.args.self.now past c.args.entry.now) c.end-in-Destroy.ensures.ended

pub returns-in_ok-make_pool-in-Pool-clause-agree : goal.returns-in_ok-make_pool-in-Pool-clause-agree
returns-in_ok-make_pool-in-Pool-clause-agree c = λ past m fit.
    pool_copies c.args.entry.now c.args.self.now c.make_pool.new.self (is_changed_by c.args.self.now past c.args.entry.now) c.in-Pool.id c.in-Pool.info c.in_ok-make_pool-in-Pool.ensures.made

pub returns-in-DropPool-clause-agree : goal.returns-in-DropPool-clause-agree
returns-in-DropPool-clause-agree c = λ past m fit. dropped_copies c.args.entry.now c.args.self.now c.drop_pool.new.self (is_changed_by c.args.self.now past c.args.entry.now) c.in-DropPool.pool c.drop_pool.ensures.dropped

pub returns-in-Write-clause-agree : goal.returns-in-Write-clause-agree
returns-in-Write-clause-agree c = access_copies c.access.result c.args.entry.now c.args.self.now c.access.new.self (subst IsConsistent c.self.view_is c.self.invariant) c.access.ensures.rest c.access.ensures.allotted

pub returns-in-Flush-clause-agree : goal.returns-in-Flush-clause-agree
returns-in-Flush-clause-agree c =
    access_copies c.flush_or_invalidate.result c.args.entry.now c.args.self.now c.flush_or_invalidate.new.self (subst IsConsistent c.self.view_is c.self.invariant) c.flush_or_invalidate.ensures.rest c.flush_or_invalidate.ensures.allotted

-- ---- pools

pub make_pool-requires-clause-absent : goal.make_pool-requires-clause-absent
make_pool-requires-clause-absent c = λ consistent. pool_absent c.args.self.now c.args.entry.now c.in-Pool.id c.in-Pool.info c.in-Pool.is consistent c.requires.ready.0 c.requires.ready.1.live c.requires.ready.2

pub returns-in_ok-make_pool-in-Pool-clause-done : goal.returns-in_ok-make_pool-in-Pool-clause-done
returns-in_ok-make_pool-in-Pool-clause-done c = λ e past m fit.
    pool_done c.args.self.now c.make_pool.new.self c.args.entry.now c.in-Pool.id c.in-Pool.info c.in-Pool.is c.make_pool.ensures.consistent c.in_ok-make_pool-in-Pool.ensures.made e past m fit

pub drop_pool-requires-clause-unused : goal.drop_pool-requires-clause-unused
drop_pool-requires-clause-unused c = λ consistent. drop_unused c.args.self.now c.args.entry.now c.in-DropPool.pool c.in-DropPool.is c.requires.ready.0 c.requires.ready.1 c.requires.ready.2 consistent

pub returns-in-DropPool-clause-done : goal.returns-in-DropPool-clause-done
returns-in-DropPool-clause-done c = λ e past m fit.
    drop_done c.args.self.now c.args.entry.now c.in-DropPool.pool c.in-DropPool.is past m fit c.drop_pool.ensures.consistent c.drop_pool.new.self c.drop_pool.ensures.dropped e

pub returns-in_ok-make_pool-in-Pool-clause-rest : goal.returns-in_ok-make_pool-in-Pool-clause-rest
returns-in_ok-make_pool-in-Pool-clause-rest c = λ past m fit. objects_rest c.args.self.now c.make_pool.new.self (is_changed_by c.args.self.now past c.args.entry.now) (same_objects c.args.self.now c.make_pool.new.self c.in_ok-make_pool-in-Pool.ensures.made.memory)

pub returns-in-DropPool-clause-rest : goal.returns-in-DropPool-clause-rest
returns-in-DropPool-clause-rest c = λ past m fit. objects_rest c.args.self.now c.drop_pool.new.self (is_changed_by c.args.self.now past c.args.entry.now) (same_objects c.args.self.now c.drop_pool.new.self c.drop_pool.ensures.dropped.memory)

-- ---- mappings

pub returns-in-Map : goal.returns-in-Map
returns-in-Map c =
    let s = c.args.self.now in let y = c.args.entry.now in let b = c.in-Map.buffer in let m = c.map.ensures in
    record {
      done = λ e past matches fit. map_done s c.map.new.self b one_more true m y b c.in-Map.is e past matches;
      rooms = λ past fit. map_rooms s c.map.new.self b one_more true m y b c.in-Map.is;
      allots = λ past matches fit. map_allots s c.map.new.self b one_more true m y b c.in-Map.is;
      counts = subst (λ (z : Entry). Counts z s c.map.new.self) (sym c.in-Map.is) (m.maps, m.memory);
      passing = maps_spared y s c.map.new.self b one_more true m;
      rest = λ past matches fit. remapped_rest s c.map.new.self b one_more true m (is_changed_by s past y);
      agree = λ past matches fit. maps_copies y s c.map.new.self (is_changed_by s past y) b one_more true m;
    }

pub returns-in-Unmap : goal.returns-in-Unmap
returns-in-Unmap c =
    let s = c.args.self.now in let y = c.args.entry.now in let b = c.in-Unmap.buffer in let m = c.unmap.ensures in
    record {
      done = λ e past matches fit. unmap_done s c.unmap.new.self b (λ n. n - 1) false m y b c.in-Unmap.is e past matches;
      rooms = λ past fit. unmap_rooms s c.unmap.new.self b (λ n. n - 1) false m y b c.in-Unmap.is;
      allots = λ past matches fit. unmap_allots s c.unmap.new.self b (λ n. n - 1) false m y b c.in-Unmap.is;
      counts = subst (λ (z : Entry). Counts z s c.unmap.new.self) (sym c.in-Unmap.is) (m.maps, m.memory);
      passing = maps_spared y s c.unmap.new.self b (λ n. n - 1) false m;
      rest = λ past matches fit. remapped_rest s c.unmap.new.self b (λ n. n - 1) false m (is_changed_by s past y);
      agree = λ past matches fit. maps_copies y s c.unmap.new.self (is_changed_by s past y) b (λ n. n - 1) false m;
    }

-- ---- the others

pub returns-in_default : goal.returns-in_default
returns-in_default c =
    let rest = is_rest c.args.entry.now c.in_default.not-Memory c.in_default.not-Buffer c.in_default.not-Image c.in_default.not-Pool c.in_default.not-DropPool c.in_default.not-Free c.in_default.not-Destroy c.in_default.not-Write c.in_default.not-Read c.in_default.not-Flush c.in_default.not-Invalidate c.in_default.not-Map c.in_default.not-Unmap in
    record {
      done = λ e past m fit. rest_done c.args.self.now c.args.entry.now rest e past m fit;
      rooms = λ past fit. rest_rooms c.args.self.now c.args.entry.now rest past fit;
      allots = λ past m fit. rest_allots c.args.self.now c.args.entry.now rest past fit;
      counts = uncounted c.args.entry.now c.args.self.now c.args.self.now c.in_default.not-Map c.in_default.not-Unmap;
      passing = unchanged_spared c.args.entry.now c.args.self.now c.args.self.now refl;
      rest = λ past m fit. objects_rest c.args.self.now c.args.self.now (is_changed_by c.args.self.now past c.args.entry.now) (λ number was is. refl);
      agree = λ past m fit p h spares bytes agree. agree;
    }
