-- What a call that puts a resource in a memory object of its own leaves.
use Rattle.std.proofs.Common.{◌≡◌, ℕ, List, length, Some, None, refl, sym, ap, subst, ◌∙◌, inl, inr, ◌⊎◌}
use Rattle.vk_memory.specs.MemoryState.{MemoryState}
use Rattle.vk_model.specs.declared.resource.Spot.{Spot}
use Rattle.vk_model.specs.Memory.Allocations.{Allocated, with_object}
use Rattle.vma_pools.specs.declared.allocations.Asked.{Asked}
use Rattle.vma_pools.specs.State.{PoolsState, IfLive, IsOwn, IsSpotOf, Owner, Has, ArePools, Backs}
use Rattle.vk_backing.specs.declared.backing.Own.{Own}
use Rattle.vk_backing.specs.Backed.{Backed, own_in, object_of, allocation_of, info_by, LiesIn, IsBacked, IsOwner, IsWhole}
use Rattle.vk_backing.specs.Allotted.{allotted, Fulfils}
use Rattle.vk_backing.specs.Steps.{Owns}
use Rattle.vk_backing.proofs.Grown.{grown}
use Rattle.vk_backing.proofs.Turned.{turned_keeps}
use Rattle.vk_backing.proofs.Owning.{stay, more_backed, own_backed, own_whole, own_allotted, object_here, object_other, dedicated_other}
use Rattle.vk_backing.proofs.Dedicating.{more, more_kept, more_had, more_new, more_was, more_lies}

module _ (b : Backed) (m : MemoryState) (h : IsBacked b m) (t : ℕ) (asked : Asked) (new : PoolsState) (after : MemoryState) (a : ℕ) (own : IsOwn b.pools new m after t asked a) where
  abbrev now : PoolsState
  now = record b.pools { allocations = more b m asked }

  always_now : ArePools new → ArePools now
  always_now always = subst ArePools own.state always

  backs_now : Backs new after → Backs now (grown m t asked.size)
  backs_now backs = subst (λ (n : MemoryState). Backs now n) own.object (subst (λ (s : PoolsState). Backs s after) own.state backs)

  had_owner : (x : Owner) (n : ℕ) → Has now x n → Has b.pools x n ⊎ ((n ≡ length m.objects) × IsOwner (Some a) x)
  had_owner x n has = elim (more_had b m asked x n has) [ inl old ↦ inl old | inr new ↦ inr (new.0, subst (λ (k : ℕ). IsOwner (Some k) x) (sym own.number) new.1) ]

  -- where no id has it
  pub unnamed_dedicated : ArePools new → Backs new after → IsBacked (record b { pools = new }) after
  unnamed_dedicated always backs =
      subst (λ (n : MemoryState). IsBacked (record b { pools = new }) n) (sym own.object)
      (subst (λ (s : PoolsState). IsBacked (record b { pools = s }) (grown m t asked.size)) (sym own.state)
      (more_backed b m h t asked.size (more b m asked) (more_kept b m asked) (always_now always) (backs_now backs) (λ x n has. elim (had_owner x n has) [ inl old ↦ inl old | inr new ↦ inr new.0 ])))

  module _ (id : ℕ) (absent : object_of b id ≡ None) (apart : allocation_of b id ≡ None) (spot : Spot) (lies : IfLive new a (λ x. IsSpotOf new x.home x.asked spot)) (owned : List (ℕ × Own)) (here : own_in owned id ≡ Some (record { object = spot.memory; allocation = Some a }))
      (others : (i : ℕ) → (i ≡ id → ⊥) → own_in owned i ≡ own_in b.owned i) where
    abbrev it : Own
    it = record { object = spot.memory; allocation = Some a }

    abbrev pub dedicating : Backed
    dedicating = record b { owned = owned; pools = new }

    number_is : spot.memory ≡ length m.objects
    number_is = more_lies b m asked spot (subst (λ (k : ℕ). IfLive now k (λ x. IsSpotOf now x.home x.asked spot)) own.number (subst (λ (s : PoolsState). IfLive s a (λ x. IsSpotOf s x.home x.asked spot)) own.state lies))

    pub named_dedicated : ArePools new → Backs new after → IsBacked dedicating after
    named_dedicated always backs =
        subst (λ (n : MemoryState). IsBacked dedicating n) (sym own.object)
        (subst (λ (s : PoolsState). IsBacked (record b { owned = owned; pools = s }) (grown m t asked.size)) (sym own.state)
        (own_backed b m h t asked.size (more b m asked) (more_kept b m asked) id absent apart owned it here others number_is (always_now always) (backs_now backs) had_owner (λ k e. more_new b m asked k (ap (λ (n : ℕ). Some n) (sym own.number) ∙ e))))

    pub dedicated_whole : IsWhole b → IsWhole dedicating
    dedicated_whole whole =
        subst (λ (s : PoolsState). IsWhole (record b { owned = owned; pools = s })) (sym own.state)
        (own_whole b m h t asked.size (more b m asked) (more_kept b m asked) id absent apart owned it here others number_is
        (λ k x at. elim (more_was b m asked k x at) [ inl old ↦ inl old | inr e ↦ inr (ap (λ (n : ℕ). Some n) own.number ∙ e) ]) whole)

    pub dedicated_owns : Owns b dedicating m after id t asked.size spot.memory
    dedicated_owns = record {
      number = number_is;
      memory = own.object;
      here = object_here b m h t asked.size (more b m asked) (more_kept b m asked) id absent apart owned it here others number_is ∙ ap (λ (n : ℕ). Some n) (sym number_is);
      others = object_other b m h t asked.size (more b m asked) (more_kept b m asked) id absent apart owned it here others number_is;
      mapped = dedicated_other b m h t asked.size (more b m asked) (more_kept b m asked) id absent apart owned it here others number_is;
      numbers = refl;
      allocations = refl;
      keeps = λ i q s other l. subst (λ (x : PoolsState). LiesIn (record b { owned = owned; pools = x }) i q s) (sym own.state)
          (turned_keeps b m h owned (more b m asked) (λ j k e. stay b m h t asked.size (more b m asked) (more_kept b m asked) k) i q s l);
      infos = λ i. ap (λ (x : PoolsState). info_by (record b { pools = x }) i) own.state;
    }

    pub dedicated_allotted : (d : Allocated) → Fulfils (allotted b m) d → Fulfils (allotted dedicating after) (with_object id t asked.size d)
    dedicated_allotted d is =
        subst (λ (n : MemoryState). Fulfils (allotted dedicating n) (with_object id t asked.size d)) (sym own.object)
        (subst (λ (s : PoolsState). Fulfils (allotted (record b { owned = owned; pools = s }) (grown m t asked.size)) (with_object id t asked.size d)) (sym own.state)
        (own_allotted b m h t asked.size (more b m asked) (more_kept b m asked) id absent apart owned it here others number_is d is))
