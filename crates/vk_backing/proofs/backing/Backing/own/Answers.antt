use Rattle.std.proofs.Common.{◌≡◌, ◌∙◌, ℕ, List, ap, sym, subst, refl, Some, None, Err, inl}
use Rattle.vk_memory.specs.declared.memories.MemoryError.{MemoryError}
use Rattle.vk_memory.specs.MemoryState.{MemoryState, IsFull}
use Rattle.vk_model.specs.Memory.Allocations.{with_object}
use Rattle.vma_pools.specs.declared.allocations.Allocation.{Allocation}
use Rattle.vma_pools.specs.State.{allocation_at}
use Rattle.vk_backing.specs.declared.backing.Own.{Own}
use Rattle.vk_backing.specs.Backed.{Backed, object_of, allocation_of, IsBacked, IsWhole}
use Rattle.vk_backing.specs.Allotted.{allotted, Fulfils}
use Rattle.vk_backing.proofs.Heaps.{full_found, found_full}
use Rattle.vk_backing.proofs.Grown.{grown_backs}
use Rattle.vk_backing.proofs.Owning.{more_backed, own_backed, own_whole, own_allotted, object_here, object_other, dedicated_here, dedicated_other}
use Rattle.vk_backing.specs.Steps.{Owns, OwnsAlone}
use Rattle.vk_backing.proofs.Turned.{stays, turned_keeps}
use Rattle.vk_backing.proofs.backing.Backing.own.Goals as goal
use Rattle.vk_model.proofs.Lists.Keys.{other_key}

same : (b : Backed) (a : ℕ) (x : Allocation) → allocation_at b.pools a ≡ Some x → allocation_at b.pools a ≡ Some x
same b a x is = is

pub returns-in-Err-NoRoom-clause-allots : goal.returns-in-Err-NoRoom-clause-allots
returns-in-Err-NoRoom-clause-allots c = λ d is. full_found c.args.self.now c.args.memories.now d is c.args.memory_type c.args.size (c.in-Err-NoRoom.ensures.full (ap (λ (e : MemoryError). Err e) c.in-Err-NoRoom.field-0-is))

pub returns-in_err-insert-clause-backed : goal.returns-in_err-insert-clause-backed
returns-in_err-insert-clause-backed c =
    let f = c.self.inside in let m = c.args.memories.now in
    let b : Backed = record { owned = f.owned.entries; pools = f.pools; numbers = f.numbers.entries; allocations = f.allocations.entries } in
    let h : IsBacked b m = subst (λ (x : Backed). IsBacked x m) (sym c.self.view_is) c.requires.backed in
    subst (λ (o : List (ℕ × Own)). IsBacked (record b { owned = o }) c.allocate.new.self) (sym c.in_err-insert.ensures.err)
    (subst (λ (n : MemoryState). IsBacked b n) (sym c.in-Ok.ensures.ok.1)
    (more_backed b m h c.args.memory_type c.args.size b.pools.allocations (same b) h.pools (grown_backs m c.args.memory_type c.args.size b.pools h.pools h.backs) (λ x n has. inl has)))

pub returns-clause-backed : goal.returns-clause-backed
returns-clause-backed c =
    let f = c.self.inside in let m = c.args.memories.now in
    let b : Backed = record { owned = f.owned.entries; pools = f.pools; numbers = f.numbers.entries; allocations = f.allocations.entries } in
    let h : IsBacked b m = subst (λ (x : Backed). IsBacked x m) (sym c.self.view_is) c.requires.backed in
    let o : Own = record { object = c.in-Ok.number; allocation = None } in
    let updates = c.in_ok-insert.ensures.updates in
    subst (λ (n : MemoryState). IsBacked (record b { owned = c.insert.new.self.entries }) n) (sym c.in-Ok.ensures.ok.1)
    (own_backed b m h c.args.memory_type c.args.size b.pools.allocations (same b) c.args.id (ap (λ (x : Backed). object_of x c.args.id) c.self.view_is ∙ c.requires.absent) (ap (λ (x : Backed). allocation_of x c.args.id) c.self.view_is ∙ c.requires.apart)
    c.insert.new.self.entries o updates.1 (λ i other. updates.2 i (other_key c.args.id i other)) c.in-Ok.ensures.ok.0
    h.pools (grown_backs m c.args.memory_type c.args.size b.pools h.pools h.backs) (λ x n has. inl has) (λ a e. absurd cc))

pub returns-clause-whole : goal.returns-clause-whole
returns-clause-whole c =
    let f = c.self.inside in let m = c.args.memories.now in
    let b : Backed = record { owned = f.owned.entries; pools = f.pools; numbers = f.numbers.entries; allocations = f.allocations.entries } in
    let h : IsBacked b m = subst (λ (x : Backed). IsBacked x m) (sym c.self.view_is) c.requires.backed in
    let o : Own = record { object = c.in-Ok.number; allocation = None } in
    let updates = c.in_ok-insert.ensures.updates in
    λ whole.
    own_whole b m h c.args.memory_type c.args.size b.pools.allocations (same b) c.args.id (ap (λ (x : Backed). object_of x c.args.id) c.self.view_is ∙ c.requires.absent) (ap (λ (x : Backed). allocation_of x c.args.id) c.self.view_is ∙ c.requires.apart)
    c.insert.new.self.entries o updates.1 (λ i other. updates.2 i (other_key c.args.id i other)) c.in-Ok.ensures.ok.0
    (λ a x at. inl (x, at)) (subst IsWhole (sym c.self.view_is) whole)

pub returns-clause-allots : goal.returns-clause-allots
returns-clause-allots c =
    let f = c.self.inside in let m = c.args.memories.now in let t = c.args.memory_type in let size = c.args.size in
    let b : Backed = record { owned = f.owned.entries; pools = f.pools; numbers = f.numbers.entries; allocations = f.allocations.entries } in
    let h : IsBacked b m = subst (λ (x : Backed). IsBacked x m) (sym c.self.view_is) c.requires.backed in
    let o : Own = record { object = c.in-Ok.number; allocation = None } in
    let updates = c.in_ok-insert.ensures.updates in
    λ d is. (
      λ none. c.in-Ok.ensures.room refl (found_full c.args.self.now m d is t size none),
      subst (λ (n : MemoryState). Fulfils (allotted (record b { owned = c.insert.new.self.entries }) n) (with_object c.args.id t size d)) (sym c.in-Ok.ensures.ok.1)
          (own_allotted b m h t size b.pools.allocations (same b) c.args.id (ap (λ (x : Backed). object_of x c.args.id) c.self.view_is ∙ c.requires.absent) (ap (λ (x : Backed). allocation_of x c.args.id) c.self.view_is ∙ c.requires.apart)
          c.insert.new.self.entries o updates.1 (λ i other. updates.2 i (other_key c.args.id i other)) c.in-Ok.ensures.ok.0
          d (subst (λ (x : Backed). Fulfils (allotted x m) d) (sym c.self.view_is) is)),
    )

pub returns-clause-alone : goal.returns-clause-alone
returns-clause-alone c =
    let f = c.self.inside in let m = c.args.memories.now in
    let b : Backed = record { owned = f.owned.entries; pools = f.pools; numbers = f.numbers.entries; allocations = f.allocations.entries } in
    let h : IsBacked b m = subst (λ (x : Backed). IsBacked x m) (sym c.self.view_is) c.requires.backed in
    let o : Own = record { object = c.in-Ok.number; allocation = None } in
    let updates = c.in_ok-insert.ensures.updates in
    subst (λ (x : Backed). OwnsAlone (Some c.in-Ok.number) x (record b { owned = c.insert.new.self.entries }) c.args.id) c.self.view_is (
      dedicated_here b m h c.args.memory_type c.args.size b.pools.allocations (same b) c.args.id (ap (λ (x : Backed). object_of x c.args.id) c.self.view_is ∙ c.requires.absent) (ap (λ (x : Backed). allocation_of x c.args.id) c.self.view_is ∙ c.requires.apart)
          c.insert.new.self.entries o updates.1 (λ i other. updates.2 i (other_key c.args.id i other)) c.in-Ok.ensures.ok.0,
      refl,
    )

pub returns-clause-owns : goal.returns-clause-owns
returns-clause-owns c =
    let f = c.self.inside in let m = c.args.memories.now in let t = c.args.memory_type in let size = c.args.size in
    let b : Backed = record { owned = f.owned.entries; pools = f.pools; numbers = f.numbers.entries; allocations = f.allocations.entries } in
    let h : IsBacked b m = subst (λ (x : Backed). IsBacked x m) (sym c.self.view_is) c.requires.backed in
    let o : Own = record { object = c.in-Ok.number; allocation = None } in
    let updates = c.in_ok-insert.ensures.updates in
    let absent = ap (λ (x : Backed). object_of x c.args.id) c.self.view_is ∙ c.requires.absent in let apart = ap (λ (x : Backed). allocation_of x c.args.id) c.self.view_is ∙ c.requires.apart in
    subst (λ (x : Backed). Owns x (record b { owned = c.insert.new.self.entries }) m c.allocate.new.self c.args.id t size c.in-Ok.number × (IsFull m t size → ⊥)) c.self.view_is (
      record {
        number = c.in-Ok.ensures.ok.0;
        memory = c.in-Ok.ensures.ok.1;
        here = object_here b m h t size b.pools.allocations (same b) c.args.id absent apart c.insert.new.self.entries o updates.1 (λ i other. updates.2 i (other_key c.args.id i other)) c.in-Ok.ensures.ok.0 ∙ ap (λ (n : ℕ). Some n) (sym c.in-Ok.ensures.ok.0);
        others = object_other b m h t size b.pools.allocations (same b) c.args.id absent apart c.insert.new.self.entries o updates.1 (λ i other. updates.2 i (other_key c.args.id i other)) c.in-Ok.ensures.ok.0;
        mapped = dedicated_other b m h t size b.pools.allocations (same b) c.args.id absent apart c.insert.new.self.entries o updates.1 (λ i other. updates.2 i (other_key c.args.id i other)) c.in-Ok.ensures.ok.0;
        numbers = refl;
        allocations = refl;
        keeps = λ i q s other l. turned_keeps b m h c.insert.new.self.entries b.pools.allocations (λ j a e. stays (allocation_at b.pools a) (allocation_at b.pools a) (same b a)) i q s l;
        infos = λ i. refl;
      },
      c.in-Ok.ensures.room refl,
    )
