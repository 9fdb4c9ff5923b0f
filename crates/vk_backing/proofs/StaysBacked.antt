-- What backs ids when places are reserved, moves end and allocations end.
use Rattle.std.proofs.Common.{◌≡◌, ℕ, ◌<◌, ◌≤◌, List, [], length, get_or, true, Option, Some, None, refl, sym, ap, subst, ◌∙◌, arith, inl, inr}
use Rattle.std.specs.Prelude.{Any}
use Rattle.std.proofs.lemmas.List.{get_or_default}
use Rattle.vk_memory.specs.MemoryState.{MemoryState, IsLive}
use Rattle.vk_model.specs.declared.resource.PoolInfo.{PoolInfo}
use Rattle.vk_model.specs.declared.resource.Spot.{Spot}
use Rattle.vk_model.specs.Memory.Pools.{PoolBlock}
use Rattle.vma_pools.specs.declared.pool.PoolPlace.{PoolPlace}
use Rattle.vma_pools.specs.declared.allocations.Asked.{Asked}
use Rattle.vma_pools.specs.declared.allocations.Allocation.{Allocation}
use Rattle.vma_pools.specs.declared.allocations.Home.{Home}
use Rattle.vma_pools.specs.declared.allocations.Home.TheVariants as home
use Rattle.vma_pools.specs.Pools.{Kept, IsMemoryOf}
use Rattle.vma_pools.specs.State.{PoolsState, pool_at, allocation_at, reserved_place, ArePools, Backs, Owner, Alone, BlockOf, Has, IsHeld}
use Rattle.vma_pools.proofs.StateLemmas.{some-is}
use Rattle.vma_defrag.specs.State.{DefragState}
use Rattle.vma_defrag.specs.Plans.{AreMatched, ArePlanned}
use Rattle.vma_defrag.proofs.KeptBlocks.{no_block}
use Rattle.vk_backing.specs.Backed.{Backed, AreSized, number_in, object_of, dedicated_of, allocation_of, info_by, LiesIn, IsBacked, IsDedicated, IsOwner, IsShared, IsWhole}
use Rattle.vk_backing.specs.Passing.{IsDefragOf}
use Rattle.vk_backing.proofs.Infos.{same_info}
use Rattle.vk_backing.proofs.PoolsStay.{AllocationStays, HomeStays, KeptStays, LiveStays, PoolStays, PoolsStay, TargetStays, lay_in, lies_in}
use Rattle.vk_backing.proofs.Spots.{are_spots, home_pool}

-- ---- by number

module _ (Moves : ℕ → PoolPlace → Type 0) (Res Ends : ℕ → Type 0) (s t : PoolsState) (stay : PoolsStay Moves Res Ends s t) where
  pub pool_was : (p : ℕ) (l : Kept) → pool_at t p ≡ Some l → (k : Kept) × (pool_at s p ≡ Some k) × KeptStays k l
  pool_was p l at = go (pool_at s p) refl (subst (λ (o : Option Kept). PoolStays (pool_at s p) o) at (stay.pools p))
    where
      go : (o : Option Kept) → pool_at s p ≡ o → PoolStays o (Some l) → (k : Kept) × (pool_at s p ≡ Some k) × KeptStays k l
      go None e x = absurd x
      go (Some k) e x = (k, e, x)

  pub pool_now : (p : ℕ) (k : Kept) → pool_at s p ≡ Some k → (l : Kept) × (pool_at t p ≡ Some l) × KeptStays k l
  pool_now p k at = go (pool_at t p) refl (subst (λ (o : Option Kept). PoolStays o (pool_at t p)) at (stay.pools p))
    where
      go : (o : Option Kept) → pool_at t p ≡ o → PoolStays (Some k) o → (l : Kept) × (pool_at t p ≡ Some l) × KeptStays k l
      go None e x = absurd x
      go (Some l) e x = (l, e, x)

  pub live_was : (i : ℕ) (b : Allocation) → allocation_at t i ≡ Some b → (a : Allocation) × (allocation_at s i ≡ Some a) × LiveStays (Moves i) (Res i) a b
  live_was i b at = go (allocation_at s i) refl (subst (λ (o : Option Allocation). AllocationStays (Moves i) (Res i) (Ends i) (allocation_at s i) o) at (stay.allocations i))
    where
      go : (o : Option Allocation) → allocation_at s i ≡ o → AllocationStays (Moves i) (Res i) (Ends i) o (Some b) → (a : Allocation) × (allocation_at s i ≡ Some a) × LiveStays (Moves i) (Res i) a b
      go None e x = absurd x
      go (Some a) e x = (a, e, x)

  pub live_now : (i : ℕ) (a : Allocation) → allocation_at s i ≡ Some a → (Ends i → ⊥) → (b : Allocation) × (allocation_at t i ≡ Some b) × LiveStays (Moves i) (Res i) a b
  live_now i a at goes_on = go (allocation_at t i) refl (subst (λ (o : Option Allocation). AllocationStays (Moves i) (Res i) (Ends i) o (allocation_at t i)) at (stay.allocations i))
    where
      go : (o : Option Allocation) → allocation_at t i ≡ o → AllocationStays (Moves i) (Res i) (Ends i) (Some a) o → (b : Allocation) × (allocation_at t i ≡ Some b) × LiveStays (Moves i) (Res i) a b
      go None e x = absurd (goes_on x)
      go (Some b) e x = (b, e, x)

  -- a memory object in a pool is one of its blocks, as it was
  pub block_was : AreMatched t → AreMatched s → (p j n : ℕ) → Has t (BlockOf p j) n → (i : ℕ) × Has s (BlockOf p i) n
  block_was matched was p j n has =
      let l = has.0 in let k = pool_was p l has.1 in
      let there : j < length l.pool.blocks = omega (arith, has.2, matched p l has.1) in
      let of : IsMemoryOf l (get_or l.pool.blocks j no_block).number n = record { index = j; there = there; numbered = λ d. ap (λ (c : PoolBlock). c.number) (get_or_default l.pool.blocks j d no_block there); is = has.3 } in
      let old = k.2.blocks (get_or l.pool.blocks j no_block).number n of in
      (old.index, (k.0, k.1, omega (arith, old.there, was p k.0 k.1), old.is))

  -- where no place was reserved in a pool, none is now
  pub none_planned : (n : ℕ) → ((i p : ℕ) (x : PoolPlace) (a : Allocation) → Res i → allocation_at s i ≡ Some a → a.home ≡ home.Shared p x → p ≡ n → ⊥) → ArePlanned s n [] → ArePlanned t n []
  none_planned n away plan = record {
    each = λ k d lt. absurd (omega (arith, lt));
    once = tt;
    only = λ i place asked held. absurd (not_held i place asked held);
  }
    where
      reserved_is : (l : Home) (o : Option PoolPlace) (place : PoolPlace) → reserved_place l o ≡ Some (n, place) → (x : PoolPlace) × (l ≡ home.Shared n x) × (o ≡ Some place)
      reserved_is (home.Own m) o place e = absurd cc
      reserved_is (home.Shared p x) None place e = absurd cc
      reserved_is (home.Shared p x) (Some u) place e = let f = some-is (p, u) (n, place) e in (x, ap (λ (y : ℕ × PoolPlace). home.Shared y.0 x) f, ap (λ (y : ℕ × PoolPlace). Some y.1) f)

      not_held : (i : ℕ) (place : PoolPlace) (asked : Asked) → IsHeld t i true n place asked → ⊥
      not_held i place asked held =
          let l = live_was i held.allocation held.live in
          let r = reserved_is held.allocation.home held.allocation.target place held.there in
          let g = lay_in (Moves i) l.0.home held.allocation.home l.2.lies n r.0 r.1 in
          go l.0 l.1 g.0 g.1 r.2 l.2.target
        where
          go : (a : Allocation) → allocation_at s i ≡ Some a → (y : PoolPlace) → a.home ≡ home.Shared n y → held.allocation.target ≡ Some place → TargetStays (Res i) a.home a.target held.allocation.target → ⊥
          go a live y lies target (inl same) =
              let any : Any (λ m. m.id ≡ i) [] = plan.only i place a.asked (record { allocation = a; live = live; there = ap (λ (l : Home). reserved_place l a.target) lies ∙ ap (λ (o : Option PoolPlace). reserved_place (home.Shared n y) o) (sym same ∙ target); asks = refl }) in
              absurd (omega (arith, any.2))
          go a live y lies target (inr m) = away i m.0 m.1 a m.3 live m.2 (home_pool m.0 n m.1 y (sym m.2 ∙ lies))

-- ---- what backs ids

module _ (Moves : ℕ → PoolPlace → Type 0) (Res Ends : ℕ → Type 0) (b : Backed) (m : MemoryState) (h : IsBacked b m) (t : PoolsState) (stay : PoolsStay Moves Res Ends b.pools t) (allocations : List (ℕ × ℕ)) where
  abbrev pub settled : Backed
  settled = record b { pools = t; allocations = allocations }

  pub infos_stay : (i : ℕ) → info_by settled i ≡ info_by b i
  infos_stay i = same_info b.pools t (number_in b.numbers i) (λ p e. let k = h.named i p e in let l = pool_now Moves Res Ends b.pools t stay p k.0 k.1 in (k.0, l.0, k.1, l.1, l.2.info))

  pub defrag_is : (d : DefragState) → IsDefragOf b d → IsDefragOf settled d
  defrag_is d its = let l = pool_now Moves Res Ends b.pools t stay d.pool its.kept its.there in record { kept = l.0; there = l.1; general = ap (λ (i : PoolInfo). i.kind) l.2.info ∙ its.general; id = its.id; named = its.named }

  module _ (was : (i a : ℕ) → number_in allocations i ≡ Some a → (allocation_of b i ≡ Some a) × (Ends a → ⊥)) where
    -- an id's allocation in a pool lies in it
    pub shared_stays : (id a : ℕ) → number_in allocations id ≡ Some a → IsShared settled a
    shared_stays id a has =
        let w = was id a has in let s = h.shared id a w.0 in let l = live_now Moves Res Ends b.pools t stay a s.allocation s.live w.1 in
        let g = lies_in (Moves a) s.allocation.home l.0.home l.2.lies s.pool s.place s.lies in
        record {
          allocation = l.0;
          live = l.1;
          aligned = λ q pl k lies at cached.
              let k' = pool_was Moves Res Ends b.pools t stay q k at in
              let same = home_pool s.pool q g.0 pl (sym g.1 ∙ lies) in
              subst (λ (r : Asked). 64 ≤ r.align) (sym l.2.asked) (s.aligned q s.place k'.0 (s.lies ∙ ap (λ (n : ℕ). home.Shared n s.place) same) k'.1 (sym (ap (λ (i : PoolInfo). i.memory_type) k'.2.info) ∙ cached));
          pool = s.pool;
          place = g.0;
          lies = g.1;
          id = s.id;
          named = s.named;
        }

    module _ (n : MemoryState) (always : ArePools t) (backs : Backs t n) (matched : AreMatched t) (sized : AreSized n) (live : (i k : ℕ) → object_of b i ≡ Some k → IsLive n k) (alone : (i a : ℕ) → dedicated_of b i ≡ Some a → Ends a → ⊥) where
      owner_stays : (i k : ℕ) (x : Owner) → object_of b i ≡ Some k → Has t x k → IsOwner (dedicated_of b i) x
      owner_stays i k (Alone j) has its =
          let l = live_was Moves Res Ends b.pools t stay j its.0 its.1 in h.apart i k (Alone j) has (l.0, l.1, own l.0.home l.2.lies)
        where
          own : {P : PoolPlace → Type 0} (g : Home) → HomeStays P g its.0.home → g ≡ home.Own k
          own g (inl same) = sym same ∙ its.2
          own g (inr s) = absurd (let e = sym its.2 ∙ s.4 in cc)
      owner_stays i k (BlockOf p j) has its = let w = block_was Moves Res Ends b.pools t stay matched h.matched p j k its in h.apart i k (BlockOf p w.0) has w.1

      dedicated_stays : (i a : ℕ) → dedicated_of b i ≡ Some a → IsDedicated (allocation_at t a) (object_of b i)
      dedicated_stays i a has =
          let d = h.dedicated i a has in let l = live_now Moves Res Ends b.pools t stay a d.allocation d.live (alone i a has) in
          record { allocation = l.0; live = l.1; free = free l.2.target d.lies ∙ d.free; number = d.number; lies = lies l.2.lies d.lies; owns = d.owns }
        where
          free : {R : Type 0} {l : Home} {o u : Option PoolPlace} {k : ℕ} → TargetStays R l o u → l ≡ home.Own k → u ≡ o
          free (inl same) e = same
          free (inr s) e = absurd (let f = sym e ∙ s.2 in cc)

          lies : {P : PoolPlace → Type 0} {g l : Home} {k : ℕ} → HomeStays P g l → g ≡ home.Own k → l ≡ home.Own k
          lies (inl same) e = same ∙ e
          lies (inr s) e = absurd (let f = sym e ∙ s.3 in cc)

      pub stays_backed : IsBacked settled n
      stays_backed = record {
        pools = always;
        backs = backs;
        matched = matched;
        sized = sized;
        live = live;
        own = h.own;
        apart = owner_stays;
        dedicated = dedicated_stays;
        either = λ i k a has its. h.either i k a has (was i a its).0;
        named = λ i p has. (let k = h.named i p has in let l = pool_now Moves Res Ends b.pools t stay p k.0 k.1 in (l.0, l.1));
        one_pool = h.one_pool;
        shared = shared_stays;
        one = λ i j a x y. h.one i j a (was i a x).0 (was j a y).0;
      }

    -- each allocation is an id's
    pub stays_whole : ((a : ℕ) (x : Allocation) → allocation_at t a ≡ Some x → Ends a → ⊥) → ((i a : ℕ) → allocation_of b i ≡ Some a → (Ends a → ⊥) → number_in allocations i ≡ Some a) → IsWhole b → IsWhole settled
    stays_whole goes_on now whole a x live =
        let l = live_was Moves Res Ends b.pools t stay a x live in let w = whole a l.0 l.1 in elim w.1 [
          | inl shares ↦ (w.0, inl (now w.0 a shares (goes_on a x live)))
          | inr alone ↦ (w.0, inr alone)
        ]

    -- ---- where resources lie

    module _ (n : MemoryState) (after : IsBacked settled n) where
      -- it lies in its pool
      pub lies_now : (i q : ℕ) (spot : Spot) → LiesIn b i q spot → number_in allocations i ≡ allocation_of b i → (to : Spot) × LiesIn settled i q to
      lies_now i q spot l e =
          let t' = (are_spots settled n after).there i l.number (e ∙ l.has) in
          let y = t'.2 in
          let same = some-is y.number l.number (sym y.has ∙ e ∙ l.has) in
          let w = live_was Moves Res Ends b.pools t stay y.number y.allocation y.live in
          let a = some-is w.0 l.allocation (sym w.1 ∙ ap (λ (j : ℕ). allocation_at b.pools j) same ∙ l.live) in
          let g = lies_in (Moves y.number) w.0.home y.allocation.home w.2.lies q l.place (ap (λ (z : Allocation). z.home) a ∙ l.lies) in
          (t'.1, subst (λ (p : ℕ). LiesIn settled i p t'.1) (home_pool t'.0 q y.place g.0 (sym y.lies ∙ g.1)) y)

      -- where what hasn't moved lies it lay
      lay : (i q : ℕ) (spot : Spot) (l : LiesIn settled i q spot) → ((y : PoolPlace) → Moves l.number y → ⊥) → LiesIn b i q spot
      lay i q spot l away =
          let w = live_was Moves Res Ends b.pools t stay l.number l.allocation l.live in let k = pool_was Moves Res Ends b.pools t stay q l.kept l.there in
          record {
            number = l.number;
            has = (was i l.number l.has).0;
            allocation = w.0;
            live = w.1;
            place = l.place;
            lies = same w.0.home w.2.lies ∙ l.lies;
            kept = k.0;
            there = k.1;
            memory = k.2.blocks l.place.block spot.memory l.memory;
            offset = l.offset;
            size = l.size ∙ ap (λ (r : Asked). r.size) w.2.asked;
          }
        where
          same : (g : Home) → HomeStays (Moves l.number) g l.allocation.home → g ≡ l.allocation.home
          same g (inl e) = sym e
          same g (inr s) = absurd (away s.2 s.5)

      pub lies_still : (i q : ℕ) (spot : Spot) (l : LiesIn b i q spot) → number_in allocations i ≡ allocation_of b i → ((y : PoolPlace) → Moves l.number y → ⊥) → LiesIn settled i q spot
      lies_still i q spot l e away =
          let x = lies_now i q spot l e in
          let same = some-is x.1.number l.number (sym x.1.has ∙ e ∙ l.has) in
          let o = (are_spots b m h).one i q q x.0 spot (lay i q x.0 x.1 (λ y moves. away y (subst (λ (j : ℕ). Moves j y) same moves))) l in
          subst (λ (s : Spot). LiesIn settled i q s) o.1 x.1
