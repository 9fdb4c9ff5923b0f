use Rattle.std.proofs.Common.{◌≡◌, ◌∙◌, ℕ, ◌%◌, List, ◌==◌, ap, sym, subst, refl, Err}
use Rattle.std.specs.Prelude.{if◌then◌else◌, max}
use Rattle.vk_memory.specs.declared.memories.MemoryError.{MemoryError}
use Rattle.vma_pools.specs.declared.allocations.Asked.{Asked}
use Rattle.vma_pools.specs.State as pools
use Rattle.vma_pools.specs.State.{IfKept}
use Rattle.vk_backing.specs.Backed.{Backed, object_of, allocation_of, IsBacked, IsWhole}
use Rattle.vk_backing.specs.Allotted.{allotted, Fulfils}
use Rattle.vk_backing.specs.Steps.{Shares}
use Rattle.vk_backing.proofs.SharedCalls.{asks_is, atoms_asked, kept-holds, none_shared, unnamed_backed, named_backed, named_whole, named_lies, named_allots, named_size, named_kind, named_aligned, named_keeps, named_infos}
use Rattle.vma_defrag.proofs.Aligned.{atom_aligned}
use Rattle.vk_backing.proofs.backing.Backing.share.Goals as goal
use Rattle.vk_model.proofs.Lists.Keys.{other_key}

pub returns-in-Err-NoRoom-clause-allots : goal.returns-in-Err-NoRoom-clause-allots
returns-in-Err-NoRoom-clause-allots c =
    let f = c.self.inside in let m = c.args.memories.now in let p = c.in-Some.number in
    let b : Backed = record { owned = f.owned.entries; pools = f.pools; numbers = f.numbers.entries; allocations = f.allocations.entries } in
    let h : IsBacked b m = subst (λ (x : Backed). IsBacked x m) (sym c.self.view_is) c.requires.backed in
    let asked : Asked = record c.args.asked { align = c.align_in-align.result } in
    let align = subst (λ (x : Backed). IfKept x.pools p (λ k. c.align_in-align.result ≡ (if k.pool.info.memory_type == 2 then max 64 c.args.asked.align else c.args.asked.align))) (sym c.self.view_is) c.align_in-align.ensures in
    λ r asks d is.
    none_shared b m h c.args.pool p (sym c.get.ensures.value ∙ sym c.in-Some.ensures) asked c.args.upper r
    (λ k at. asks_is r c.args.asked k.pool.info.memory_type c.align_in-align.result asks (kept-holds b.pools p (λ k. c.align_in-align.result ≡ (if k.pool.info.memory_type == 2 then max 64 c.args.asked.align else c.args.asked.align)) align k at))
    (c.in-Err-NoRoom.ensures.no_room (ap (λ (e : MemoryError). Err e) c.in-Err-NoRoom.field-0-is))
    d (subst (λ (x : Backed). Fulfils (allotted x m) d) (sym c.self.view_is) is)

pub returns-in_err-insert-clause-backed : goal.returns-in_err-insert-clause-backed
returns-in_err-insert-clause-backed c =
    let f = c.self.inside in let m = c.args.memories.now in let p = c.in-Some.number in
    let b : Backed = record { owned = f.owned.entries; pools = f.pools; numbers = f.numbers.entries; allocations = f.allocations.entries } in
    let h : IsBacked b m = subst (λ (x : Backed). IsBacked x m) (sym c.self.view_is) c.requires.backed in
    let asked : Asked = record c.args.asked { align = c.align_in-align.result } in
    let align = subst (λ (x : Backed). IfKept x.pools p (λ k. c.align_in-align.result ≡ (if k.pool.info.memory_type == 2 then max 64 c.args.asked.align else c.args.asked.align))) (sym c.self.view_is) c.align_in-align.ensures in
    subst (λ (l : List (ℕ × ℕ)). IsBacked (record b { pools = c.allocate.new.self; allocations = l }) c.allocate.new.memories) (sym c.in_err-insert.ensures.err)
    (unnamed_backed b m h c.args.pool p (sym c.get.ensures.value ∙ sym c.in-Some.ensures) asked c.args.upper c.allocate.new.self c.allocate.new.memories c.in-Ok.allocation c.in-Ok.ensures.ok c.args.id (ap (λ (x : Backed). object_of x c.args.id) c.self.view_is ∙ c.requires.apart)
    c.are_pools.ensures (c.in-Ok.ensures.backs h.backs) (atoms_asked b.pools p c.args.asked.align c.align_in-align.result align c.in-Ok.ensures.ok.was c.in-Ok.ensures.ok.there))

pub returns-clause-backed : goal.returns-clause-backed
returns-clause-backed c =
    let f = c.self.inside in let m = c.args.memories.now in let p = c.in-Some.number in
    let b : Backed = record { owned = f.owned.entries; pools = f.pools; numbers = f.numbers.entries; allocations = f.allocations.entries } in
    let h : IsBacked b m = subst (λ (x : Backed). IsBacked x m) (sym c.self.view_is) c.requires.backed in
    let asked : Asked = record c.args.asked { align = c.align_in-align.result } in
    let updates = c.in_ok-insert.ensures.updates in
    let align = subst (λ (x : Backed). IfKept x.pools p (λ k. c.align_in-align.result ≡ (if k.pool.info.memory_type == 2 then max 64 c.args.asked.align else c.args.asked.align))) (sym c.self.view_is) c.align_in-align.ensures in
    named_backed b m h c.args.pool p (sym c.get.ensures.value ∙ sym c.in-Some.ensures) asked c.args.upper c.allocate.new.self c.allocate.new.memories c.in-Ok.allocation c.in-Ok.ensures.ok c.args.id (ap (λ (x : Backed). object_of x c.args.id) c.self.view_is ∙ c.requires.apart)
    c.are_pools.ensures (c.in-Ok.ensures.backs h.backs) (ap (λ (x : Backed). allocation_of x c.args.id) c.self.view_is ∙ c.requires.absent) c.insert.new.self.entries updates.1 (λ i other. updates.2 i (other_key c.args.id i other)) (atoms_asked b.pools p c.args.asked.align c.align_in-align.result align c.in-Ok.ensures.ok.was c.in-Ok.ensures.ok.there)

pub returns-clause-whole : goal.returns-clause-whole
returns-clause-whole c =
    let f = c.self.inside in let m = c.args.memories.now in let p = c.in-Some.number in
    let b : Backed = record { owned = f.owned.entries; pools = f.pools; numbers = f.numbers.entries; allocations = f.allocations.entries } in
    let h : IsBacked b m = subst (λ (x : Backed). IsBacked x m) (sym c.self.view_is) c.requires.backed in
    let asked : Asked = record c.args.asked { align = c.align_in-align.result } in
    let updates = c.in_ok-insert.ensures.updates in
    λ whole.
    named_whole b m h c.args.pool p (sym c.get.ensures.value ∙ sym c.in-Some.ensures) asked c.args.upper c.allocate.new.self c.allocate.new.memories c.in-Ok.allocation c.in-Ok.ensures.ok c.args.id (ap (λ (x : Backed). object_of x c.args.id) c.self.view_is ∙ c.requires.apart)
    c.are_pools.ensures (c.in-Ok.ensures.backs h.backs) (ap (λ (x : Backed). allocation_of x c.args.id) c.self.view_is ∙ c.requires.absent) c.insert.new.self.entries updates.1 (λ i other. updates.2 i (other_key c.args.id i other))
    (subst IsWhole (sym c.self.view_is) whole)

pub returns-clause-shares : goal.returns-clause-shares
returns-clause-shares c =
    let f = c.self.inside in let m = c.args.memories.now in let p = c.in-Some.number in
    let b : Backed = record { owned = f.owned.entries; pools = f.pools; numbers = f.numbers.entries; allocations = f.allocations.entries } in
    let h : IsBacked b m = subst (λ (x : Backed). IsBacked x m) (sym c.self.view_is) c.requires.backed in
    let asked : Asked = record c.args.asked { align = c.align_in-align.result } in
    let updates = c.in_ok-insert.ensures.updates in
    let sh = c.in-Ok.ensures.ok in
    let align = subst (λ (x : Backed). IfKept x.pools p (λ k. c.align_in-align.result ≡ (if k.pool.info.memory_type == 2 then max 64 c.args.asked.align else c.args.asked.align))) (sym c.self.view_is) c.align_in-align.ensures in
    let on = kept-holds b.pools p (λ k. c.align_in-align.result ≡ (if k.pool.info.memory_type == 2 then max 64 c.args.asked.align else c.args.asked.align)) align sh.was sh.there in
    let lies = named_lies b m h c.args.pool p (sym c.get.ensures.value ∙ sym c.in-Some.ensures) asked c.args.upper c.allocate.new.self c.allocate.new.memories c.in-Ok.allocation sh c.args.id (ap (λ (x : Backed). object_of x c.args.id) c.self.view_is ∙ c.requires.apart)
    c.are_pools.ensures (c.in-Ok.ensures.backs h.backs) (ap (λ (x : Backed). allocation_of x c.args.id) c.self.view_is ∙ c.requires.absent) c.insert.new.self.entries updates.1 (λ i other. updates.2 i (other_key c.args.id i other)) c.place.result c.place.ensures in
    subst (λ (x : Backed). Shares x (record b { pools = c.allocate.new.self; allocations = c.insert.new.self.entries }) m c.allocate.new.memories c.args.id c.args.pool c.args.asked c.args.upper c.place.result) c.self.view_is (record {
      number = p;
      named = sym c.get.ensures.value ∙ sym c.in-Some.ensures;
      kept = sh.was;
      there = sh.there;
      allocation = c.in-Ok.allocation;
      here = updates.1;
      others = λ i other. updates.2 i (other_key c.args.id i other);
      owned = refl;
      numbers = refl;
      shared = subst (λ (n : ℕ). pools.IsShared b.pools c.allocate.new.self m c.allocate.new.memories p (record c.args.asked { align = n }) c.args.upper c.in-Ok.allocation) on sh;
      lies = lies;
      size = named_size b m h c.args.pool p (sym c.get.ensures.value ∙ sym c.in-Some.ensures) asked c.args.upper c.allocate.new.self c.allocate.new.memories c.in-Ok.allocation sh c.args.id (ap (λ (x : Backed). object_of x c.args.id) c.self.view_is ∙ c.requires.apart)
          c.are_pools.ensures (c.in-Ok.ensures.backs h.backs) (ap (λ (x : Backed). allocation_of x c.args.id) c.self.view_is ∙ c.requires.absent) c.insert.new.self.entries updates.1 (λ i other. updates.2 i (other_key c.args.id i other)) c.place.result c.place.ensures;
      kind = named_kind b m h c.args.pool p (sym c.get.ensures.value ∙ sym c.in-Some.ensures) asked c.args.upper c.allocate.new.self c.allocate.new.memories c.in-Ok.allocation sh c.args.id (ap (λ (x : Backed). object_of x c.args.id) c.self.view_is ∙ c.requires.apart)
          c.are_pools.ensures (c.in-Ok.ensures.backs h.backs) (ap (λ (x : Backed). allocation_of x c.args.id) c.self.view_is ∙ c.requires.absent) c.insert.new.self.entries updates.1 (λ i other. updates.2 i (other_key c.args.id i other)) (atoms_asked b.pools p c.args.asked.align c.align_in-align.result align c.in-Ok.ensures.ok.was c.in-Ok.ensures.ok.there) c.place.result lies;
      aligned = λ cached. atom_aligned c.place.result.offset c.args.asked.align c.args.asked.size c.requires.request
          (subst (λ (n : ℕ). c.place.result.offset % n ≡ 0) (on ∙ ap (λ (t : ℕ). if t == 2 then max 64 c.args.asked.align else c.args.asked.align) cached) (named_aligned b m h c.args.pool p (sym c.get.ensures.value ∙ sym c.in-Some.ensures) asked c.args.upper c.allocate.new.self c.allocate.new.memories c.in-Ok.allocation sh c.args.id (ap (λ (x : Backed). object_of x c.args.id) c.self.view_is ∙ c.requires.apart)
          c.are_pools.ensures (c.in-Ok.ensures.backs h.backs) (ap (λ (x : Backed). allocation_of x c.args.id) c.self.view_is ∙ c.requires.absent) c.insert.new.self.entries updates.1 (λ i other. updates.2 i (other_key c.args.id i other)) c.place.result c.place.ensures));
      keeps = named_keeps b m h c.args.pool p (sym c.get.ensures.value ∙ sym c.in-Some.ensures) asked c.args.upper c.allocate.new.self c.allocate.new.memories c.in-Ok.allocation sh c.args.id (ap (λ (x : Backed). object_of x c.args.id) c.self.view_is ∙ c.requires.apart)
          c.are_pools.ensures (c.in-Ok.ensures.backs h.backs) (ap (λ (x : Backed). allocation_of x c.args.id) c.self.view_is ∙ c.requires.absent) c.insert.new.self.entries updates.1 (λ i other. updates.2 i (other_key c.args.id i other));
      infos = named_infos b m h c.args.pool p (sym c.get.ensures.value ∙ sym c.in-Some.ensures) asked c.args.upper c.allocate.new.self c.allocate.new.memories c.in-Ok.allocation sh c.args.id (ap (λ (x : Backed). object_of x c.args.id) c.self.view_is ∙ c.requires.apart)
          c.are_pools.ensures (c.in-Ok.ensures.backs h.backs) (ap (λ (x : Backed). allocation_of x c.args.id) c.self.view_is ∙ c.requires.absent) c.insert.new.self.entries updates.1 (λ i other. updates.2 i (other_key c.args.id i other));
    })

pub returns-clause-allots : goal.returns-clause-allots
returns-clause-allots c =
    let f = c.self.inside in let m = c.args.memories.now in let p = c.in-Some.number in
    let b : Backed = record { owned = f.owned.entries; pools = f.pools; numbers = f.numbers.entries; allocations = f.allocations.entries } in
    let h : IsBacked b m = subst (λ (x : Backed). IsBacked x m) (sym c.self.view_is) c.requires.backed in
    let asked : Asked = record c.args.asked { align = c.align_in-align.result } in
    let updates = c.in_ok-insert.ensures.updates in
    let sh = c.in-Ok.ensures.ok in
    let align = subst (λ (x : Backed). IfKept x.pools p (λ k. c.align_in-align.result ≡ (if k.pool.info.memory_type == 2 then max 64 c.args.asked.align else c.args.asked.align))) (sym c.self.view_is) c.align_in-align.ensures in
    let on = kept-holds b.pools p (λ k. c.align_in-align.result ≡ (if k.pool.info.memory_type == 2 then max 64 c.args.asked.align else c.args.asked.align)) align sh.was sh.there in
    λ r asks d is.
    named_allots b m h c.args.pool p (sym c.get.ensures.value ∙ sym c.in-Some.ensures) asked c.args.upper c.allocate.new.self c.allocate.new.memories c.in-Ok.allocation sh c.args.id (ap (λ (x : Backed). object_of x c.args.id) c.self.view_is ∙ c.requires.apart)
    c.are_pools.ensures (c.in-Ok.ensures.backs h.backs) (ap (λ (x : Backed). allocation_of x c.args.id) c.self.view_is ∙ c.requires.absent) c.insert.new.self.entries updates.1 (λ i other. updates.2 i (other_key c.args.id i other))
    r (asks_is r c.args.asked sh.was.pool.info.memory_type c.align_in-align.result asks on) (c.in-Ok.ensures.room refl) d (subst (λ (x : Backed). Fulfils (allotted x m) d) (sym c.self.view_is) is)
