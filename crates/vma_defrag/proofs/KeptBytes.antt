-- What lives on when a pass has ended has its bytes.
use Rattle.std.proofs.Common.{◌≡◌, ◌==◌, ℕ, zero, suc, ◌+◌, ◌<◌, List, [], ◌∷◌, get_or, set, slice_index_or, Bool, true, false, not, ◌&&◌, Option, Some, None, refl, sym, ap, subst, ◌∙◌, arith, inl, inr}
use Rattle.std.specs.Prelude.{Contains, IsSome, IsSomeAnd}
use Rattle.std.proofs.lemmas.Bool.{cases_eq, eqb-true}
use Rattle.std.proofs.lemmas.List.Elements.{All-contains}
use Rattle.vk_memory.specs.declared.memories.Object.{Object}
use Rattle.vk_memory.specs.MemoryState.{MemoryState, IsLive, bytes_of, object_at, with_object}
use Rattle.vk_model.specs.Basics.{among}
use Rattle.vk_model.specs.declared.resource.Spot.{Spot}
use Rattle.vk_model.specs.Memory.MoveTargets.{Moved}
use Rattle.vk_model.proofs.Lists.Members.{some_member}
use Rattle.vma_pools.specs.declared.pool.PoolPlace.{PoolPlace}
use Rattle.vma_pools.specs.declared.allocations.Asked.{Asked}
use Rattle.vma_pools.specs.declared.allocations.Allocation.{Allocation}
use Rattle.vma_pools.specs.declared.allocations.Home.{Home}
use Rattle.vma_pools.specs.declared.allocations.Home.TheVariants as home
use Rattle.vma_pools.specs.Pools.{Kept, IsMemoryOf}
use Rattle.vma_pools.specs.State.{PoolsState, pool_at, allocation_at, shared_place, Alone, ArePools, Backs, BlockOf, IsHeld, IsSpotOf, IsTargetSpot}
use Rattle.vma_pools.proofs.CallLemmas.{own-live}
use Rattle.vma_pools.proofs.NumberLemmas.{at-other}
use Rattle.vma_pools.proofs.StateLemmas.{some-is}
use Rattle.vma_defrag.specs.Plans.{AreMatched, ArePlanned, IsMove}
use Rattle.vma_defrag.specs.Bytes.{byte_in, IsTargetByte, MovesBetween}
use Rattle.vma_defrag.specs.Ends.{AreOfPool, HasEnded, KeepsBytes, freed, is_made}
use Rattle.vma_defrag.specs.Inner.Following.{BlocksStay, LiesThen, Rebinds}
use Rattle.vma_defrag.specs.Inner.Held.{Holds}
use Rattle.vma_defrag.proofs.Spots.{shared_holds, holds_same, holds_live, holds_apart, has_object, to_holds, to_size}
use Rattle.vma_defrag.proofs.Following.{follow_moves, follow_ends, stays_on}

-- ---- memory objects that are left

none_there : (os : List (Option Object)) (n : ℕ) → IsSome (slice_index_or (set os n None) n None) → ⊥
none_there [] n some = absurd cc
none_there (o ∷ os) zero some = absurd cc
none_there (o ∷ os) (suc n) some = none_there os n some

pub freed_stays : (gone : List ℕ) (m : MemoryState) (x : ℕ) → IsLive (freed m gone) x → object_at (freed m gone) x ≡ object_at m x
freed_stays [] m x live = refl
freed_stays (n ∷ ns) m x live =
    let rest = freed_stays ns (with_object m n None) x live in
    elim (cases_eq x n) [
      | inl e ↦ absurd (none_there m.objects n (subst (λ (j : ℕ). IsSome (slice_index_or (set m.objects n None) j None)) e (subst (λ (o : Option Object). IsSome o) rest live)))
      | inr other ↦ rest ∙ at-other m.objects n x None other
    ]

pub freed_byte : (gone : List ℕ) (m : MemoryState) (x k : ℕ) → IsLive (freed m gone) x → byte_in (freed m gone) x k ≡ byte_in m x k
freed_byte gone m x k live = ap (λ (o : Option Object). get_or (bytes_of o) k 0) (freed_stays gone m x live)

-- ---- spots

-- where something lies after moves that place was before
spot_before : (s t : PoolsState) → BlocksStay s t → (l : Home) (asked : Asked) (spot : Spot) → IsSpotOf t l asked spot → IsSpotOf s l asked spot
spot_before s t stay (home.Own n) asked spot is = is
spot_before s t stay (home.Shared p place) asked spot is = go (pool_at t p) refl is
  where
    go : (o : Option Kept) → pool_at t p ≡ o → IsSomeAnd o (λ k. IsMemoryOf k place.block spot.memory × (spot.offset ≡ place.start) × (spot.size ≡ asked.size)) → IsSpotOf s (home.Shared p place) asked spot
    go None e is = absurd is
    go (Some k) e is =
        let l = stay p k place.block spot.memory e is.0 in
        subst (λ (o : Option Kept). IsSomeAnd o (λ k. IsMemoryOf k place.block spot.memory × (spot.offset ≡ place.start) × (spot.size ≡ asked.size))) (sym l.1) (l.2, is.1, is.2)

module _ (s : PoolsState) (h : ArePools s) (m : MemoryState) (backs : Backs s m) (matched : AreMatched s) (i : ℕ) (a : Allocation) (live : allocation_at s i ≡ Some a) where
  -- a place in a pool is held
  its_held : (p : ℕ) (place : PoolPlace) → a.home ≡ home.Shared p place → IsHeld s i false p place a.asked
  its_held p place e = record { allocation = a; live = live; there = ap shared_place e; asks = refl }

  spot_live : (spot : Spot) → IsSpotOf s a.home a.asked spot → IsLive m spot.memory
  spot_live spot is = go a.home refl is
    where
      go : (l : Home) → a.home ≡ l → IsSpotOf s l a.asked spot → IsLive m spot.memory
      go (home.Own n) e is = subst (λ (x : Spot). IsLive m x.memory) (sym is) (own-live s h m backs i a n live e)
      go (home.Shared p place) e is = holds_live s h m backs matched i false spot (shared_holds s h i false p place a.asked (its_held p place e) spot is)

  spots_same : (x y : Spot) → IsSpotOf s a.home a.asked x → IsSpotOf s a.home a.asked y → (x.memory ≡ y.memory) × (x.offset ≡ y.offset)
  spots_same x y is ys = go a.home refl is ys
    where
      go : (l : Home) → a.home ≡ l → IsSpotOf s l a.asked x → IsSpotOf s l a.asked y → (x.memory ≡ y.memory) × (x.offset ≡ y.offset)
      go (home.Own n) e is ys = let same = is ∙ sym ys in (ap (λ (z : Spot). z.memory) same, ap (λ (z : Spot). z.offset) same)
      go (home.Shared p place) e is ys = holds_same s h i false x y (shared_holds s h i false p place a.asked (its_held p place e) x is) (shared_holds s h i false p place a.asked (its_held p place e) y ys)

  spot_size : (spot : Spot) → IsSpotOf s a.home a.asked spot → spot.size ≡ a.asked.size
  spot_size spot is = go a.home is
    where
      go : (l : Home) → IsSpotOf s l a.asked spot → spot.size ≡ a.asked.size
      go (home.Own n) is = ap (λ (z : Spot). z.size) is
      go (home.Shared p place) is = in_pool (pool_at s p) is
        where
          in_pool : (o : Option Kept) → IsSomeAnd o (λ k. IsMemoryOf k place.block spot.memory × (spot.offset ≡ place.start) × (spot.size ≡ a.asked.size)) → spot.size ≡ a.asked.size
          in_pool None is = absurd is
          in_pool (Some k) is = is.2

  -- no target lies where an allocation does
  spot_no_target : (pool : ℕ) (ms : List Moved) → ArePlanned s pool ms → (test : Moved → Bool) (spot : Spot) (at : ℕ) → IsSpotOf s a.home a.asked spot → at < a.asked.size → IsTargetByte s ms test spot.memory (spot.offset + at) → ⊥
  spot_no_target pool ms plan test spot at is inside t =
      let its = All-contains (IsMove s pool) ms t.move plan.each t.there in
      let target = to_holds s h pool t.move its t.from t.to t.between in
      let size = to_size s h pool t.move its t.from t.to t.between in
      go target size (spot_size spot is) a.home refl is
    where
      alone : (p j : ℕ) → Alone i ≡ BlockOf p j → ⊥
      alone p j e = absurd cc

      differ : false ≡ true → ⊥
      differ e = absurd cc

      go : Holds s t.move.id true t.to → t.to.size ≡ t.move.bytes → spot.size ≡ a.asked.size → (l : Home) → a.home ≡ l → IsSpotOf s l a.asked spot → ⊥
      go target size its-size (home.Own n) e is =
          alone target.pool target.memory.index
          (backs.apart (Alone i) (BlockOf target.pool target.memory.index) t.to.memory (a, live, e ∙ ap home.Own (ap (λ (z : Spot). z.memory) (sym is) ∙ sym t.object)) (has_object s h m backs matched t.move.id true t.to target))
      go target size its-size (home.Shared p place) e is =
          let mine = shared_holds s h i false p place a.asked (its_held p place e) spot is in
          elim (holds_apart s h m backs matched i t.move.id false true spot t.to mine target (λ x. differ x.1) (sym t.object)) [
            | inl low ↦ absurd (omega (arith, low, t.low, its-size, inside))
            | inr high ↦ absurd (omega (arith, high, t.high, size))
          ]

-- ---- bytes

is_moved : (s : PoolsState) (i : ℕ) (a : Allocation) → allocation_at s i ≡ Some a → (from to : Spot) (l : Home) → Rebinds a.home a.target l → IsSpotOf s a.home a.asked from → IsSpotOf s l a.asked to → MovesBetween s i from to
is_moved s i a live from to l moved is ys =
    subst (λ (o : Option Allocation). IsSomeAnd o (λ a. IsSpotOf s a.home a.asked from × IsTargetSpot s a.home a.target a.asked to)) (sym live) (is, go a.home a.target moved)
  where
    go : (h : Home) (t : Option PoolPlace) → Rebinds h t l → IsTargetSpot s h t a.asked to
    go (home.Own n) t moved = absurd moved
    go (home.Shared p place) None moved = absurd moved
    go (home.Shared p place) (Some u) moved = subst (λ (x : Home). IsSpotOf s x a.asked to) moved ys

not_among : (xs : List ℕ) (x : ℕ) → (Contains xs x → ⊥) → among x xs ≡ false
not_among xs x none = go (among x xs) refl
  where
    go : (v : Bool) → among x xs ≡ v → among x xs ≡ false
    go true e = let c = some_member (λ (y : ℕ). x == y) xs e in absurd (none (subst (λ (y : ℕ). Contains xs y) (sym (eqb-true x c.0 c.2)) c.1))
    go false e = e

module _ (s t : PoolsState) (h : ArePools s) (h' : ArePools t) (m n : MemoryState) (backs : Backs s m) (backs' : Backs t n) (matched : AreMatched s) (matched' : AreMatched t) (pool : ℕ) (ms : List Moved) (plan : ArePlanned s pool ms)
    (ignored destroyed gone : List ℕ) (e : HasEnded ms s t m n ignored destroyed gone) (middle : AreMatched e.settled) (of : AreOfPool e.settled pool destroyed) where
  pub bytes_kept : KeepsBytes s m t n
  bytes_kept i a b from to at live is live' ys inside =
      let ended = follow_ends pool destroyed e.settled t e.by_ends middle of e.ends in
      let moved = follow_moves ignored pool ms s e.settled e.by_moves matched plan e.ended in
      let last = ended.lives i b live' in
      let l = moved.lives i b last.0 in
      let same = some-is l.0 a (sym l.1 ∙ live) in
      let asked : b.asked ≡ a.asked = l.2 ∙ ap (λ (x : Allocation). x.asked) same in
      let lives_on = spot_live t h' n backs' matched' i b live' to ys in
      let stay = stays_on s e.settled t moved.blocks ended.blocks in
      let was : IsSpotOf s b.home a.asked to = subst (λ (x : Asked). IsSpotOf s b.home x to) asked (spot_before s t stay b.home b.asked to ys) in
      ap (λ (x : MemoryState). byte_in x to.memory (to.offset + at)) e.freed_are
      ∙ freed_byte gone e.copied to.memory (to.offset + at) (subst (λ (x : MemoryState). IsLive x to.memory) e.freed_are lives_on)
      ∙ go was last.1 (subst (λ (x : Allocation). LiesThen ignored ms i x b) same l.3)
    where
      go : IsSpotOf s b.home a.asked to → (Contains destroyed i → ⊥) → LiesThen ignored ms i a b → byte_in e.copied to.memory (to.offset + at) ≡ byte_in m from.memory (from.offset + at)
      go was alive (inl home) =
          let here : IsSpotOf s a.home a.asked to = subst (λ (l : Home). IsSpotOf s l a.asked to) home was in
          let same = spots_same s h m backs matched i a live to from here is in
          e.copies.rest to.memory (to.offset + at) (spot_no_target s h m backs matched i a live pool ms plan (is_made ignored destroyed) to at here inside)
          ∙ ap (λ (x : ℕ). byte_in m x (to.offset + at)) same.0 ∙ ap (λ (k : ℕ). byte_in m from.memory (k + at)) same.1
      go was alive (inr moved) =
          let move = moved.0 in
          let its = All-contains (IsMove s pool) ms move plan.each moved.1 in
          let a_is = some-is its.allocation a (sym its.live ∙ ap (λ (j : ℕ). allocation_at s j) moved.2 ∙ live) in
          let between = subst (λ (j : ℕ). MovesBetween s j from to) (sym moved.2) (is_moved s i a live from to b.home moved.4 is was) in
          let made : is_made ignored destroyed move ≡ true =
          ap (λ (j : ℕ). not (among j ignored) && not (among j destroyed)) moved.2 ∙ ap (λ (v : Bool). not v && not (among i destroyed)) moved.3 ∙ ap (λ (v : Bool). not v) (not_among destroyed i alive) in
          e.copies.same move from to at moved.1 made between (omega (arith, inside, its.bytes, ap (λ (x : Allocation). x.asked.size) a_is))
