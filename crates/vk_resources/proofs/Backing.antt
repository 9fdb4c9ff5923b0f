-- What ids are backed with, as what is held has it.
use Rattle.std.proofs.Common.{◌≡◌, ℕ, List, ◌+◌, ◌≤◌, length, ap, sym, ◌∙◌, subst, refl, Bool, Option, Some, None, Result, Ok, Err, IfOk, OnOk}
use Rattle.std.specs.Prelude.{IfSome, IsSome}
use Rattle.std.specs.declared.alloc.AllocError.{AllocError}
use Rattle.vk_memory.specs.declared.memories.Object.{Object}
use Rattle.vk_memory.specs.MemoryState.{MemoryState, object_at, bytes_of, type_in}
use Rattle.vk_model.specs.declared.resource.PoolInfo.{PoolInfo}
use Rattle.vk_model.specs.declared.resource.Spot.{Spot}
use Rattle.vk_model.specs.Trace.Objects.{Resource}
use Rattle.vma_pools.specs.declared.allocations.Asked.{Asked}
use Rattle.vk_backing.specs.Backed.{Backed, number_in, pool_of, IsBacked, IsWhole}
use Rattle.vk_backing.specs.Steps.{Asks, Grows, MakesPool, OwnAllots, Owns, OwnsAlone, OwnsDedicated, OwnsOr, PoolAllots, ShareAllots, SharesOr}
use Rattle.vk_backing.specs.Allotted as backing
use Rattle.vk_backing.proofs.AgreeingSteps.{dedicates_agree, owns_agree}
use Rattle.vk_backing.proofs.PassingSteps.{dedicates_passing, owns_passing}
use Rattle.vk_resources.specs.Allocating.{allotted}
use Rattle.vk_resources.specs.Passes.{KeepsPassing}
use Rattle.vk_resources.specs.declared.resources.Placed.{Placed}
use Rattle.vk_resources.specs.Held.{Held, IsConsistent, IsInside, placed}
use Rattle.vk_resources.specs.Inner.Steps.{FoundOr, MadeOr, PoolMade}
use Rattle.vk_resources.proofs.Placing.{inside_of, grown_object}
use Rattle.vk_resources.proofs.CachedBytes.{caching_typed}

module _ (old : Held) (backed' : Backed) (memory' : MemoryState) where
  abbrev pub backed_with : Held
  backed_with = record old { backed = backed'; memory = memory' }

  module _ (is : IsBacked backed' memory') where
    made_or : (id t size : ℕ) (o : Option ℕ) → OwnsOr o old.backed backed' old.memory memory' id t size → (IsWhole old.backed → IsWhole backed') → KeepsPassing old backed_with → OwnAllots o (allotted old) (allotted backed_with) id t size → MadeOr o old backed_with id t size
    made_or id t size (Some n) owns whole passing allots = (
      owns.0.number,
      record {
        memory = owns.0.memory;
        here = owns.0.here ∙ ap (λ (k : ℕ). Some k) owns.0.number;
        others = owns.0.others;
        owns = subst (λ (k : ℕ). Owns old.backed backed' old.memory memory' id t size k) owns.0.number owns.0;
        backed = is;
        whole = whole;
        passing = passing;
        allots = allots;
      },
      refl,
      refl,
      owns.1,
      refl,
    )
    made_or id t size None owns whole passing allots = (rw (owns.0, owns.1) refl, owns.2, allots)

    pub made : (id t size : ℕ) (r : Result (Option ℕ) AllocError) → IfOk r (λ o. OwnsOr o old.backed backed' old.memory memory' id t size) → IfOk r (λ o. IsWhole old.backed → IsWhole backed') → IfOk r (λ o. KeepsPassing old backed_with) → IfOk r (λ o. OwnAllots o (allotted old) (allotted backed_with) id t size) → IfOk r (λ o. MadeOr o old backed_with id t size)
    made id t size (Ok o) owns whole passing allots = made_or id t size o owns whole passing allots
    made id t size (Err e) owns whole passing allots = tt

    same_pools : (id t size : ℕ) (o : Option ℕ) → OwnsOr o old.backed backed' old.memory memory' id t size → (i : ℕ) → pool_of backed' i ≡ pool_of old.backed i
    same_pools id t size (Some n) owns i = ap (λ (l : List (ℕ × ℕ)). number_in l i) owns.0.numbers
    same_pools id t size None owns i = ap (λ (b : Backed). pool_of b i) owns.0

    -- defragmentations stay where an id gets a memory object
    module _ (before : IsBacked old.backed old.memory) (grows : Grows old.memory memory') where
      pub own_stays : (id t size : ℕ) (r : Result (Option ℕ) AllocError) → IfOk r (λ o. OwnsOr o old.backed backed' old.memory memory' id t size) → IfOk r (λ o. OwnsAlone o old.backed backed' id) → IfOk r (λ o. KeepsPassing old backed_with)
      own_stays id t size (Ok o) owns alone = record {
        passing = λ p h. owns_passing p old.backed backed' h o old.memory memory' id t size owns alone;
        agree = λ p h agree. owns_agree p old.backed backed' h old.memory memory' before agree o id t size grows owns alone;
        pools = same_pools id t size o owns;
      }
      own_stays id t size (Err e) owns alone = tt

      pub dedicated_stays : (id t : ℕ) (asked : Asked) (r : Result (Option ℕ) AllocError) → IfOk r (λ o. OwnsOr o old.backed backed' old.memory memory' id t asked.size) → IfOk r (λ o. OwnsDedicated o old.backed backed' old.memory memory' id t asked) → IfOk r (λ o. KeepsPassing old backed_with)
      dedicated_stays id t asked (Ok o) owns dedicated = record {
        passing = λ p h. dedicates_passing p old.backed backed' h o old.memory memory' id t asked.size asked owns dedicated;
        agree = λ p h agree. dedicates_agree p old.backed backed' h old.memory memory' before agree o id t asked.size asked grows owns dedicated;
        pools = same_pools id t asked.size o owns;
      }
      dedicated_stays id t asked (Err e) owns dedicated = tt

    found_or : (id pool : ℕ) (asked : Asked) (upper : Bool) (o : Option Spot) → SharesOr o old.backed backed' old.memory memory' id pool asked upper → (IsWhole old.backed → IsWhole backed') → ((r : Resource) → Asks r asked → ShareAllots o (allotted old) (allotted backed_with) id pool r upper) → FoundOr o old backed_with id pool asked upper
    found_or id pool asked upper (Some spot) shares whole allots = (shares, is, whole, refl, refl, refl, allots)
    found_or id pool asked upper None shares whole allots = (rw (shares.0, shares.1) refl, allots)

    pub found : (id pool : ℕ) (asked : Asked) (upper : Bool) (r : Result (Option Spot) AllocError) → IfOk r (λ o. SharesOr o old.backed backed' old.memory memory' id pool asked upper) → IfOk r (λ o. IsWhole old.backed → IsWhole backed') → IfOk r (λ o. (x : Resource) → Asks x asked → ShareAllots o (allotted old) (allotted backed_with) id pool x upper) → IfOk r (λ o. FoundOr o old backed_with id pool asked upper)
    found id pool asked upper (Ok o) shares whole allots = found_or id pool asked upper o shares whole allots
    found id pool asked upper (Err e) shares whole allots = tt

module _ (old : Held) (backed' : Backed) where
  pub pooled : (id : ℕ) (info : PoolInfo) (r : Result (Unit {0}) AllocError) → IsBacked old.backed old.memory → ((m : MemoryState) → IsBacked old.backed m → IsBacked backed' m) → OnOk r (MakesPool old.backed backed' id info) → OnOk r (IsWhole old.backed → IsWhole backed') → OnOk r ((m : MemoryState) → IsBacked old.backed m → PoolAllots (backing.allotted old.backed m) (backing.allotted backed' m) id info)
      → OnOk r (PoolMade old (record old { backed = backed' }) id info)
  pooled id info (Ok o) is stays makes whole allots = record { makes = makes; backed = stays old.memory is; memory = refl; resources = refl; shapes = refl; cache = refl; whole = whole; allots = allots old.memory is }
  pooled id info (Err e) is stays makes whole allots = tt

-- ---- memory objects that grow

module _ (s : Held) (consistent : IsConsistent s) (backed' : Backed) (memory' : MemoryState) (grows : Grows s.memory memory') (is : IsBacked backed' memory') where
  pub grown_consistent : IsConsistent (backed_with s backed' memory')
  grown_consistent = (
    record { inside = λ b. inside (placed s b) (consistent.0.inside b); apart = consistent.0.apart; backed_is = is },
    caching_typed s.memory memory' s.resources s.cache (λ b p here. ap type_in (grown_object s.memory memory' grows p.object (inside_of s.memory s.backed s.resources consistent.0 b p here).live)) consistent.1,
    consistent.2,
  )
    where
      inside : (x : Option Placed) → IfSome x (IsInside s.memory) → IfSome x (IsInside memory')
      inside None h = h
      inside (Some p) h =
          let same : object_at memory' p.object ≡ object_at s.memory p.object = grown_object s.memory memory' grows p.object h.live in
          record { live = subst (λ (o : Option Object). IsSome o) (sym same) h.live; some = h.some; room = subst (λ (o : Option Object). p.offset + p.size ≤ length (bytes_of o)) (sym same) h.room }
