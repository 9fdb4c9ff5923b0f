use Rattle.std.proofs.Common.{◌∙◌, ℕ, List, ap, sym, subst, refl, Err}
use Rattle.vk_memory.specs.declared.memories.MemoryError.{MemoryError}
use Rattle.vk_memory.specs.MemoryState.{IsFull}
use Rattle.vk_backing.specs.declared.backing.Own.{Own}
use Rattle.vk_backing.specs.Backed.{Backed, object_of, allocation_of, IsBacked, IsWhole}
use Rattle.vk_backing.specs.Allotted.{allotted, Fulfils}
use Rattle.vk_backing.specs.Steps.{Owns}
use Rattle.vk_backing.proofs.Heaps.{full_found, found_full}
use Rattle.vk_backing.proofs.DedicatedCalls.{unnamed_dedicated, named_dedicated, dedicated_whole, dedicated_owns, dedicated_allotted}
use Rattle.vk_backing.proofs.backing.Backing.dedicate.Goals as goal
use Rattle.vk_model.proofs.Lists.Keys.{other_key}

pub returns-in-Err-NoRoom-clause-allots : goal.returns-in-Err-NoRoom-clause-allots
returns-in-Err-NoRoom-clause-allots c = λ d is. full_found c.args.self.now c.args.memories.now d is c.args.memory_type c.args.asked.size (c.in-Err-NoRoom.ensures.full (ap (λ (e : MemoryError). Err e) c.in-Err-NoRoom.field-0-is))

pub returns-in_err-insert-clause-backed : goal.returns-in_err-insert-clause-backed
returns-in_err-insert-clause-backed c =
    let f = c.self.inside in let m = c.args.memories.now in
    let b : Backed = record { owned = f.owned.entries; pools = f.pools; numbers = f.numbers.entries; allocations = f.allocations.entries } in
    let h : IsBacked b m = subst (λ (x : Backed). IsBacked x m) (sym c.self.view_is) c.requires.backed in
    subst (λ (o : List (ℕ × Own)). IsBacked (record b { owned = o; pools = c.dedicated.new.self }) c.dedicated.new.memories) (sym c.in_err-insert.ensures.err)
    (unnamed_dedicated b m h c.args.memory_type c.args.asked c.dedicated.new.self c.dedicated.new.memories c.in-Ok.allocation c.in-Ok.ensures.ok c.are_pools.ensures (c.in-Ok.ensures.backs h.backs))

pub returns-clause-backed : goal.returns-clause-backed
returns-clause-backed c =
    let f = c.self.inside in let m = c.args.memories.now in
    let b : Backed = record { owned = f.owned.entries; pools = f.pools; numbers = f.numbers.entries; allocations = f.allocations.entries } in
    let h : IsBacked b m = subst (λ (x : Backed). IsBacked x m) (sym c.self.view_is) c.requires.backed in
    let updates = c.in_ok-insert.ensures.updates in
    let absent = ap (λ (x : Backed). object_of x c.args.id) c.self.view_is ∙ c.requires.absent in let apart = ap (λ (x : Backed). allocation_of x c.args.id) c.self.view_is ∙ c.requires.apart in
    named_dedicated b m h c.args.memory_type c.args.asked c.dedicated.new.self c.dedicated.new.memories c.in-Ok.allocation c.in-Ok.ensures.ok c.args.id absent apart c.place-object.result c.place-object.ensures
    c.insert.new.self.entries updates.1 (λ i other. updates.2 i (other_key c.args.id i other)) c.are_pools.ensures (c.in-Ok.ensures.backs h.backs)

pub returns-clause-owns : goal.returns-clause-owns
returns-clause-owns c =
    let f = c.self.inside in let m = c.args.memories.now in let t = c.args.memory_type in let size = c.args.asked.size in
    let b : Backed = record { owned = f.owned.entries; pools = f.pools; numbers = f.numbers.entries; allocations = f.allocations.entries } in
    let h : IsBacked b m = subst (λ (x : Backed). IsBacked x m) (sym c.self.view_is) c.requires.backed in
    let updates = c.in_ok-insert.ensures.updates in
    let absent = ap (λ (x : Backed). object_of x c.args.id) c.self.view_is ∙ c.requires.absent in let apart = ap (λ (x : Backed). allocation_of x c.args.id) c.self.view_is ∙ c.requires.apart in
    subst (λ (x : Backed). Owns x (record b { owned = c.insert.new.self.entries; pools = c.dedicated.new.self }) m c.dedicated.new.memories c.args.id t size c.place-object.result.memory × (IsFull m t size → ⊥)) c.self.view_is (
      dedicated_owns b m h t c.args.asked c.dedicated.new.self c.dedicated.new.memories c.in-Ok.allocation c.in-Ok.ensures.ok c.args.id absent apart c.place-object.result c.place-object.ensures c.insert.new.self.entries updates.1 (λ i other. updates.2 i (other_key c.args.id i other)),
      c.in-Ok.ensures.room refl,
    )

pub returns-clause-whole : goal.returns-clause-whole
returns-clause-whole c =
    let f = c.self.inside in let m = c.args.memories.now in
    let b : Backed = record { owned = f.owned.entries; pools = f.pools; numbers = f.numbers.entries; allocations = f.allocations.entries } in
    let h : IsBacked b m = subst (λ (x : Backed). IsBacked x m) (sym c.self.view_is) c.requires.backed in
    let updates = c.in_ok-insert.ensures.updates in
    let absent = ap (λ (x : Backed). object_of x c.args.id) c.self.view_is ∙ c.requires.absent in let apart = ap (λ (x : Backed). allocation_of x c.args.id) c.self.view_is ∙ c.requires.apart in
    λ whole.
    dedicated_whole b m h c.args.memory_type c.args.asked c.dedicated.new.self c.dedicated.new.memories c.in-Ok.allocation c.in-Ok.ensures.ok c.args.id absent apart c.place-object.result c.place-object.ensures
    c.insert.new.self.entries updates.1 (λ i other. updates.2 i (other_key c.args.id i other)) (subst IsWhole (sym c.self.view_is) whole)

pub returns-clause-allots : goal.returns-clause-allots
returns-clause-allots c =
    let f = c.self.inside in let m = c.args.memories.now in let t = c.args.memory_type in let size = c.args.asked.size in
    let b : Backed = record { owned = f.owned.entries; pools = f.pools; numbers = f.numbers.entries; allocations = f.allocations.entries } in
    let h : IsBacked b m = subst (λ (x : Backed). IsBacked x m) (sym c.self.view_is) c.requires.backed in
    let updates = c.in_ok-insert.ensures.updates in
    let absent = ap (λ (x : Backed). object_of x c.args.id) c.self.view_is ∙ c.requires.absent in let apart = ap (λ (x : Backed). allocation_of x c.args.id) c.self.view_is ∙ c.requires.apart in
    λ d is. (
      λ none. c.in-Ok.ensures.room refl (found_full c.args.self.now m d is t size none),
      dedicated_allotted b m h t c.args.asked c.dedicated.new.self c.dedicated.new.memories c.in-Ok.allocation c.in-Ok.ensures.ok c.args.id absent apart c.place-object.result c.place-object.ensures
          c.insert.new.self.entries updates.1 (λ i other. updates.2 i (other_key c.args.id i other)) d (subst (λ (x : Backed). Fulfils (allotted x m) d) (sym c.self.view_is) is),
    )
