use Rattle.std.proofs.Common.{◌≡◌, ◌∙◌, ℕ, List, sym, subst, refl, Option, Some, None}
use Rattle.vk_memory.specs.MemoryState.{MemoryState}
use Rattle.vk_model.specs.Memory.Allocations.{without}
use Rattle.vma_pools.specs.State.{Backs}
use Rattle.vma_pools.proofs.CallLemmas.{live-and}
use Rattle.vk_backing.specs.declared.backing.Own.{Own}
use Rattle.vk_backing.specs.Backed.{Backed, own_in, allocation_of, LiesIn, IsBacked, IsStill, IsWhole}
use Rattle.vk_backing.specs.Allotted.{allotted, Fulfils}
use Rattle.vk_backing.specs.Steps.{Releases, EndsIn}
use Rattle.vk_backing.proofs.Owned.{object_is, dedicated_is}
use Rattle.vk_backing.proofs.Without.{nothing_allotted}
use Rattle.vk_backing.proofs.ReleasedCalls.{shared_released, shared_whole, shared_allotted, shared_keeps, shared_infos}
use Rattle.vk_backing.proofs.Disowning.{memory_released, memory_releases, memory_allotted, dedicated_released, dedicated_releases, dedicated_whole, dedicated_allotted}
use Rattle.vk_backing.proofs.backing.Backing.release.Goals as goal
use Rattle.vk_model.proofs.Lists.Keys.{other_key}

-- ---- a memory object of its own

pub free-requires : goal.free-requires
free-requires c =
    let f = c.self.inside in let m = c.args.memories.now in
    let b : Backed = record { owned = f.owned.entries; pools = f.pools; numbers = f.numbers.entries; allocations = f.allocations.entries } in
    let h : IsBacked b m = subst (λ (x : Backed). IsBacked x m) (sym c.self.view_is) c.requires.backed in
    h.live c.args.id c.in-Some.own.object (object_is b.owned c.args.id (Some c.in-Some.own) (sym c.in-Some.ensures.value))

pub returns-in_default-allocation-clause-backed : goal.returns-in_default-allocation-clause-backed
returns-in_default-allocation-clause-backed c =
    let f = c.self.inside in let m = c.args.memories.now in let id = c.args.id in
    let b : Backed = record { owned = f.owned.entries; pools = f.pools; numbers = f.numbers.entries; allocations = f.allocations.entries } in
    let h : IsBacked b m = subst (λ (x : Backed). IsBacked x m) (sym c.self.view_is) c.requires.backed in
    let updates = c.in-Some.ensures.updates in
    subst (λ (n : MemoryState). IsBacked (record b { owned = c.remove.new.self.entries }) n) (sym c.free.ensures) (memory_released b m h id c.in-Some.own (sym c.in-Some.ensures.value) c.remove.new.self.entries updates.1 (λ i other. updates.2 i (other_key id i other)) c.in_default-allocation.is)

pub returns-in_default-allocation-clause-releases : goal.returns-in_default-allocation-clause-releases
returns-in_default-allocation-clause-releases c =
    let f = c.self.inside in let m = c.args.memories.now in let id = c.args.id in
    let b : Backed = record { owned = f.owned.entries; pools = f.pools; numbers = f.numbers.entries; allocations = f.allocations.entries } in
    let h : IsBacked b m = subst (λ (x : Backed). IsBacked x m) (sym c.self.view_is) c.requires.backed in
    let updates = c.in-Some.ensures.updates in
    subst (λ (x : Backed). Releases x (record b { owned = c.remove.new.self.entries }) m c.free.new.self id (Some c.in-Some.own.object)) c.self.view_is
    (subst (λ (n : MemoryState). Releases b (record b { owned = c.remove.new.self.entries }) m n id (Some c.in-Some.own.object)) (sym c.free.ensures) (memory_releases b m h id c.in-Some.own (sym c.in-Some.ensures.value) c.remove.new.self.entries updates.1 (λ i other. updates.2 i (other_key id i other)) c.in_default-allocation.is))

pub returns-in_default-allocation-clause-allots : goal.returns-in_default-allocation-clause-allots
returns-in_default-allocation-clause-allots c =
    let f = c.self.inside in let m = c.args.memories.now in let id = c.args.id in
    let b : Backed = record { owned = f.owned.entries; pools = f.pools; numbers = f.numbers.entries; allocations = f.allocations.entries } in
    let h : IsBacked b m = subst (λ (x : Backed). IsBacked x m) (sym c.self.view_is) c.requires.backed in
    let updates = c.in-Some.ensures.updates in
    λ d is.
    subst (λ (n : MemoryState). Fulfils (allotted (record b { owned = c.remove.new.self.entries }) n) (without id d)) (sym c.free.ensures)
    (memory_allotted b m h id c.in-Some.own (sym c.in-Some.ensures.value) c.remove.new.self.entries updates.1 (λ i other. updates.2 i (other_key id i other)) c.in_default-allocation.is d (subst (λ (x : Backed). Fulfils (allotted x m) d) (sym c.self.view_is) is))

-- ---- an allocation in one

pub free-freed-requires-clause-unreserved : goal.free-freed-requires-clause-unreserved
free-freed-requires-clause-unreserved c =
    let f = c.self.inside in let m = c.args.memories.now in let a = c.in-Some-allocation.dedicated in
    let b : Backed = record { owned = f.owned.entries; pools = f.pools; numbers = f.numbers.entries; allocations = f.allocations.entries } in
    let h : IsBacked b m = subst (λ (x : Backed). IsBacked x m) (sym c.self.view_is) c.requires.backed in
    let d = h.dedicated c.args.id a (dedicated_is b.owned c.args.id (Some c.in-Some.own) (sym c.in-Some.ensures.value) ∙ c.in-Some-allocation.is) in
    live-and f.pools a d.allocation (λ x. x.target ≡ None) d.live d.free

pub returns-in-Some-clause-backed : goal.returns-in-Some-clause-backed
returns-in-Some-clause-backed c =
    let f = c.self.inside in let m = c.args.memories.now in let id = c.args.id in
    let b : Backed = record { owned = f.owned.entries; pools = f.pools; numbers = f.numbers.entries; allocations = f.allocations.entries } in
    let h : IsBacked b m = subst (λ (x : Backed). IsBacked x m) (sym c.self.view_is) c.requires.backed in
    let updates = c.in-Some.ensures.updates in
    subst (λ (n : MemoryState). IsBacked (record b { owned = c.remove.new.self.entries; pools = c.free-freed.new.self }) n) (sym c.free-freed.ensures.memories)
    (dedicated_released b m h id c.in-Some.own (sym c.in-Some.ensures.value) c.remove.new.self.entries updates.1 (λ i other. updates.2 i (other_key id i other)) c.in-Some-allocation.dedicated c.in-Some-allocation.is c.free-freed.new.self c.free-freed.result c.free-freed.ensures.ended
    c.are_pools.ensures (subst (λ (n : MemoryState). Backs c.free-freed.new.self n) c.free-freed.ensures.memories c.free-freed.ensures.kept))

pub returns-in-Some-clause-whole : goal.returns-in-Some-clause-whole
returns-in-Some-clause-whole c =
    let f = c.self.inside in let m = c.args.memories.now in let id = c.args.id in
    let b : Backed = record { owned = f.owned.entries; pools = f.pools; numbers = f.numbers.entries; allocations = f.allocations.entries } in
    let h : IsBacked b m = subst (λ (x : Backed). IsBacked x m) (sym c.self.view_is) c.requires.backed in
    let updates = c.in-Some.ensures.updates in
    λ whole. dedicated_whole b m h id c.in-Some.own (sym c.in-Some.ensures.value) c.remove.new.self.entries updates.1 (λ i other. updates.2 i (other_key id i other)) c.in-Some-allocation.dedicated c.in-Some-allocation.is c.free-freed.new.self c.free-freed.result c.free-freed.ensures.ended (subst IsWhole (sym c.self.view_is) whole)

pub returns-in-Some-clause-releases : goal.returns-in-Some-clause-releases
returns-in-Some-clause-releases c =
    let f = c.self.inside in let m = c.args.memories.now in let id = c.args.id in
    let b : Backed = record { owned = f.owned.entries; pools = f.pools; numbers = f.numbers.entries; allocations = f.allocations.entries } in
    let h : IsBacked b m = subst (λ (x : Backed). IsBacked x m) (sym c.self.view_is) c.requires.backed in
    let updates = c.in-Some.ensures.updates in
    subst (λ (x : Backed). Releases x (record b { owned = c.remove.new.self.entries; pools = c.free-freed.new.self }) m c.free-freed.new.memories id c.free-freed.result) c.self.view_is
    (subst (λ (n : MemoryState). Releases b (record b { owned = c.remove.new.self.entries; pools = c.free-freed.new.self }) m n id c.free-freed.result) (sym c.free-freed.ensures.memories) (dedicated_releases b m h id c.in-Some.own (sym c.in-Some.ensures.value) c.remove.new.self.entries updates.1 (λ i other. updates.2 i (other_key id i other)) c.in-Some-allocation.dedicated c.in-Some-allocation.is c.free-freed.new.self c.free-freed.result c.free-freed.ensures.ended))

pub returns-in-Some-clause-allots : goal.returns-in-Some-clause-allots
returns-in-Some-clause-allots c =
    let f = c.self.inside in let m = c.args.memories.now in let id = c.args.id in
    let b : Backed = record { owned = f.owned.entries; pools = f.pools; numbers = f.numbers.entries; allocations = f.allocations.entries } in
    let h : IsBacked b m = subst (λ (x : Backed). IsBacked x m) (sym c.self.view_is) c.requires.backed in
    let updates = c.in-Some.ensures.updates in
    λ d is.
    subst (λ (n : MemoryState). Fulfils (allotted (record b { owned = c.remove.new.self.entries; pools = c.free-freed.new.self }) n) (without id d)) (sym c.free-freed.ensures.memories)
    (dedicated_allotted b m h id c.in-Some.own (sym c.in-Some.ensures.value) c.remove.new.self.entries updates.1 (λ i other. updates.2 i (other_key id i other)) c.in-Some-allocation.dedicated c.in-Some-allocation.is c.free-freed.new.self c.free-freed.result c.free-freed.ensures.ended d (subst (λ (x : Backed). Fulfils (allotted x m) d) (sym c.self.view_is) is))

-- ---- an allocation in a pool, or nothing

pub returns-in_err-allocation-clause-allots : goal.returns-in_err-allocation-clause-allots
returns-in_err-allocation-clause-allots c =
    let f = c.self.inside in let m = c.args.memories.now in
    let b : Backed = record { owned = f.owned.entries; pools = f.pools; numbers = f.numbers.entries; allocations = f.allocations.entries } in
    let h : IsBacked b m = subst (λ (x : Backed). IsBacked x m) (sym c.self.view_is) c.requires.backed in
    λ d is.
    subst (λ (o : List (ℕ × Own)). Fulfils (allotted (record b { owned = o; allocations = c.remove-2.new.self.entries }) m) (without c.args.id d)) (sym c.in_default.ensures.unchanged)
    (subst (λ (l : List (ℕ × ℕ)). Fulfils (allotted (record b { allocations = l }) m) (without c.args.id d)) (sym c.in_err-allocation.ensures.unchanged)
    (nothing_allotted b m h d (subst (λ (x : Backed). Fulfils (allotted x m) d) (sym c.self.view_is) is) c.args.id (sym c.in_err-allocation.ensures.value) (object_is b.owned c.args.id None (sym c.in_default.ensures.value))))

pub free-gone-requires-clause-unreserved : goal.free-gone-requires-clause-unreserved
free-gone-requires-clause-unreserved c =
    let f = c.self.inside in let m = c.args.memories.now in let a = c.in_ok-allocation.allocation in
    let b : Backed = record { owned = f.owned.entries; pools = f.pools; numbers = f.numbers.entries; allocations = f.allocations.entries } in
    let h : IsBacked b m = subst (λ (x : Backed). IsBacked x m) (sym c.self.view_is) c.requires.backed in
    let still : IsStill b c.args.id = subst (λ (x : Backed). IsStill x c.args.id) (sym c.self.view_is) c.requires.still in
    let s = h.shared c.args.id a (sym c.in_ok-allocation.ensures.value) in
    live-and f.pools a s.allocation (λ a. a.target ≡ None) s.live (still a s.allocation (sym c.in_ok-allocation.ensures.value) s.live)

pub returns-clause-backed : goal.returns-clause-backed
returns-clause-backed c =
    let f = c.self.inside in let m = c.args.memories.now in
    let b : Backed = record { owned = f.owned.entries; pools = f.pools; numbers = f.numbers.entries; allocations = f.allocations.entries } in
    let h : IsBacked b m = subst (λ (x : Backed). IsBacked x m) (sym c.self.view_is) c.requires.backed in
    let updates = c.in_ok-allocation.ensures.updates in
    subst (λ (o : List (ℕ × Own)). IsBacked (record b { owned = o; pools = c.free-gone.new.self; allocations = c.remove-2.new.self.entries }) c.free-gone.new.memories) (sym c.in_default.ensures.unchanged)
    (subst (λ (n : MemoryState). IsBacked (record b { pools = c.free-gone.new.self; allocations = c.remove-2.new.self.entries }) n) (sym c.free-gone.ensures.memories)
    (shared_released b m h c.args.id c.in_ok-allocation.allocation (sym c.in_ok-allocation.ensures.value) c.free-gone.new.self c.free-gone.result c.free-gone.ensures.ended c.remove-2.new.self.entries updates.1 (λ i other. updates.2 i (other_key c.args.id i other))
    c.are_pools-2.ensures (subst (λ (n : MemoryState). Backs c.free-gone.new.self n) c.free-gone.ensures.memories c.free-gone.ensures.kept)))

pub returns-clause-whole : goal.returns-clause-whole
returns-clause-whole c =
    let f = c.self.inside in let m = c.args.memories.now in
    let b : Backed = record { owned = f.owned.entries; pools = f.pools; numbers = f.numbers.entries; allocations = f.allocations.entries } in
    let h : IsBacked b m = subst (λ (x : Backed). IsBacked x m) (sym c.self.view_is) c.requires.backed in
    let updates = c.in_ok-allocation.ensures.updates in
    λ whole.
    subst (λ (o : List (ℕ × Own)). IsWhole (record b { owned = o; pools = c.free-gone.new.self; allocations = c.remove-2.new.self.entries })) (sym c.in_default.ensures.unchanged)
    (shared_whole b m h c.args.id c.in_ok-allocation.allocation (sym c.in_ok-allocation.ensures.value) c.free-gone.new.self c.free-gone.result c.free-gone.ensures.ended c.remove-2.new.self.entries updates.1 (λ i other. updates.2 i (other_key c.args.id i other)) (subst IsWhole (sym c.self.view_is) whole))

pub returns-clause-allots : goal.returns-clause-allots
returns-clause-allots c =
    let f = c.self.inside in let m = c.args.memories.now in
    let b : Backed = record { owned = f.owned.entries; pools = f.pools; numbers = f.numbers.entries; allocations = f.allocations.entries } in
    let h : IsBacked b m = subst (λ (x : Backed). IsBacked x m) (sym c.self.view_is) c.requires.backed in
    let updates = c.in_ok-allocation.ensures.updates in
    λ d is.
    subst (λ (o : List (ℕ × Own)). Fulfils (allotted (record b { owned = o; pools = c.free-gone.new.self; allocations = c.remove-2.new.self.entries }) c.free-gone.new.memories) (without c.args.id d)) (sym c.in_default.ensures.unchanged)
    (subst (λ (n : MemoryState). Fulfils (allotted (record b { pools = c.free-gone.new.self; allocations = c.remove-2.new.self.entries }) n) (without c.args.id d)) (sym c.free-gone.ensures.memories)
    (shared_allotted b m h c.args.id c.in_ok-allocation.allocation (sym c.in_ok-allocation.ensures.value) c.free-gone.new.self c.free-gone.result c.free-gone.ensures.ended c.remove-2.new.self.entries updates.1 (λ i other. updates.2 i (other_key c.args.id i other)) d (subst (λ (x : Backed). Fulfils (allotted x m) d) (sym c.self.view_is) is)))

pub returns-clause-releases : goal.returns-clause-releases
returns-clause-releases c =
    let f = c.self.inside in let m = c.args.memories.now in let id = c.args.id in
    let b : Backed = record { owned = f.owned.entries; pools = f.pools; numbers = f.numbers.entries; allocations = f.allocations.entries } in
    let h : IsBacked b m = subst (λ (x : Backed). IsBacked x m) (sym c.self.view_is) c.requires.backed in
    let updates = c.in_ok-allocation.ensures.updates in
    let after = shared_released b m h c.args.id c.in_ok-allocation.allocation (sym c.in_ok-allocation.ensures.value) c.free-gone.new.self c.free-gone.result c.free-gone.ensures.ended c.remove-2.new.self.entries updates.1 (λ i other. updates.2 i (other_key c.args.id i other)) c.are_pools-2.ensures (subst (λ (n : MemoryState). Backs c.free-gone.new.self n) c.free-gone.ensures.memories c.free-gone.ensures.kept) in
    subst (λ (x : Backed). Releases x (record b { owned = c.remove.new.self.entries; pools = c.free-gone.new.self; allocations = c.remove-2.new.self.entries }) m c.free-gone.new.memories c.args.id c.free-gone.result) c.self.view_is (record {
      memory = c.free-gone.ensures.memories;
      no_object = object_is c.remove.new.self.entries id None c.in_default.ensures.updates.1;
      objects = λ i other. object_is c.remove.new.self.entries i (own_in b.owned i) (c.in_default.ensures.updates.2 i (other_key id i other));
      no_allocation = updates.1;
      allocations = λ i other. updates.2 i (other_key id i other);
      mapped = λ i other. dedicated_is c.remove.new.self.entries i (own_in b.owned i) (c.in_default.ensures.updates.2 i (other_key id i other));
      numbers = refl;
      keeps = λ i q s other l. subst (λ (o : List (ℕ × Own)). LiesIn (record b { owned = o; pools = c.free-gone.new.self; allocations = c.remove-2.new.self.entries }) i q s) (sym c.in_default.ensures.unchanged) (shared_keeps b m h c.args.id c.in_ok-allocation.allocation (sym c.in_ok-allocation.ensures.value) c.free-gone.new.self c.free-gone.result c.free-gone.ensures.ended c.remove-2.new.self.entries updates.1 (λ i other. updates.2 i (other_key c.args.id i other)) after i q s other l);
      infos = λ i. shared_infos b m h c.args.id c.in_ok-allocation.allocation (sym c.in_ok-allocation.ensures.value) c.free-gone.new.self c.free-gone.result c.free-gone.ensures.ended c.remove-2.new.self.entries updates.1 (λ i other. updates.2 i (other_key c.args.id i other)) i;
      ends = subst (λ (o : Option Own). EndsIn o (allocation_of b id) b.pools c.free-gone.new.self c.free-gone.result) c.in_default.ensures.value
          (subst (λ (o : Option ℕ). EndsIn None o b.pools c.free-gone.new.self c.free-gone.result) c.in_ok-allocation.ensures.value c.free-gone.ensures.ended);
    })
