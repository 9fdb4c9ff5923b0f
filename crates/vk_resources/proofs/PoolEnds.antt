-- A pool ends, in which no resource lies.
use Rattle.std.proofs.Common.{◌≡◌, ℕ, List, ◌∷◌, length, Bool, true, false, eqb, ◌==◌, cond, refl, ap, sym, ◌∙◌, subst, Option, Some, None}
use Rattle.std.specs.Prelude.{IsTrue, is_some, option_map, option_and_then}
use Rattle.std.proofs.lemmas.Bool.{eqb-true, eqb-false, eq-eqb}
use Rattle.vk_memory.specs.MemoryState.{MemoryState, region_of, type_of}
use Rattle.vk_model.specs.declared.entry.Entry.{Entry}
use Rattle.vk_model.specs.declared.entry.Entry.TheVariants as entry
use Rattle.vk_model.specs.declared.resource.ImageInfo.{ImageInfo}
use Rattle.vk_model.specs.declared.resource.PoolInfo.{PoolInfo}
use Rattle.vk_model.specs.declared.resource.Place.{Place}
use Rattle.vk_model.specs.declared.resource.Place.TheVariants as place
use Rattle.vk_model.specs.Basics.{holds}
use Rattle.vk_model.specs.Trace.Point.{Past}
use Rattle.vk_model.specs.Trace.Order.{host}
use Rattle.vk_model.specs.Trace.Objects.{Resource, live, image_in, resource_in, memory_in, pool_in, pool_at}
use Rattle.vk_model.specs.Trace.Objects.{pool_of as resources_pool}
use Rattle.vk_model.specs.Rules.Ids.{is_memory, is_pool}
use Rattle.vk_model.proofs.Lists.Truths.{clash}
use Rattle.vma_pools.specs.declared.pool.PoolPlace.{PoolPlace}
use Rattle.vma_pools.specs.declared.allocations.Allocation.{Allocation}
use Rattle.vma_pools.specs.State as pools
use Rattle.vma_pools.specs.State.{shared_place}
use Rattle.vk_backing.specs.declared.backing.Own.{Own}
use Rattle.vk_backing.specs.Backed.{allocation_of, allocation_by, info_by, number_in, object_in}
use Rattle.vk_backing.specs.Steps.{IsUnused}
use Rattle.vk_resources.specs.declared.applied.Applied.TheVariants as applied
use Rattle.vk_resources.specs.declared.resources.Placed.{Placed}
use Rattle.vk_resources.specs.Held.{Held, IsConsistent, placed, placed_in, shape_in, shape_of, object_of}
use Rattle.vk_resources.specs.Matches.{Matches, MatchesLive, Stands, LiesAt, LiesOf, in_pool, has_memory, size_made, type_made}
use Rattle.vk_resources.specs.Fits.{FitsEntry, is_populated}
use Rattle.vk_resources.specs.Done.{DoneBy}
use Rattle.vk_resources.specs.Inner.Steps.{PoolDropped}
use Rattle.vk_resources.proofs.Matching.{is_live, some_sized, stands_on}
use Rattle.vk_resources.proofs.Living.{live_end}
use Rattle.vk_resources.proofs.Binding.{none_passes, resource_is}
use Rattle.vk_resources.proofs.Applying.{pool_keeps, none_new}
use Rattle.vk_resources.proofs.PoolEntries.{same_cells}

-- what made a resource in a pool
record Pooled (o : Option Entry) : Type 0 where
  made : Entry
  is : o ≡ Some made
  resource : Resource
  of : resource_in made ≡ Some resource
  pool : ℕ
  at : pool_at resource.place ≡ Some pool
  size : ℕ
  sized : size_made made ≡ Some size

pooled_of : (o : Option Entry) → IsTrue (holds o in_pool) → Pooled o
pooled_of None h = absurd cc
pooled_of (Some y) h = go y (resource_in y) refl h
  where
    sizes : (y : Entry) (r : Resource) → resource_in y ≡ Some r → (n : ℕ) × (size_made y ≡ Some n)
    sizes (entry.Buffer i b) r e = (b.size, refl)
    sizes (entry.Image i m) r e = (_, refl)
    sizes _ r e = absurd cc

    at : (y : Entry) (r : Resource) → resource_in y ≡ Some r → (p : Option ℕ) → pool_at r.place ≡ p → IsTrue (is_some p) → Pooled (Some y)
    at y r e None f h = absurd cc
    at y r e (Some q) f h = let n = sizes y r e in record { made = y; is = refl; resource = r; of = e; pool = q; at = f; size = n.0; sized = n.1 }

    go : (y : Entry) (o : Option Resource) → resource_in y ≡ o → IsTrue (holds o (λ r. is_some (pool_at r.place))) → Pooled (Some y)
    go y None e h = absurd cc
    go y (Some r) e h = at y r e (pool_at r.place) refl h

-- nothing that isn't said of pools is said of one
no_more : {A : Type 0} (kind : Entry → Option A) → ((q : ℕ) (info : PoolInfo) → kind (entry.Pool q info) ≡ None) → (o : Option Entry) → IsTrue (holds o is_pool) → option_and_then kind o ≡ None
no_more {A} kind none None h = refl
no_more {A} kind none (Some (entry.Pool q info)) h = none q info
no_more {A} kind none (Some _) h = absurd cc

not_so : (test : Entry → Bool) → ((q : ℕ) (info : PoolInfo) → test (entry.Pool q info) ≡ false) → (o : Option Entry) → IsTrue (holds o is_pool) → holds o test ≡ false
not_so test none None h = refl
not_so test none (Some (entry.Pool q info)) h = none q info
not_so test none (Some _) h = absurd cc

-- an allocation by the number that its resource has for it
numbered : (s : Held) (b : ℕ) (a : Allocation) → allocation_by s.backed b ≡ Some a → (n : ℕ) × (allocation_of s.backed b ≡ Some n) × (pools.allocation_at s.backed.pools n ≡ Some a)
numbered s b a by = go (allocation_of s.backed b) refl by
  where
    go : (o : Option ℕ) → allocation_of s.backed b ≡ o → option_and_then (pools.allocation_at s.backed.pools) o ≡ Some a → (n : ℕ) × (allocation_of s.backed b ≡ Some n) × (pools.allocation_at s.backed.pools n ≡ Some a)
    go None e h = absurd cc
    go (Some n) e h = (n, e, h)

module _ (s : Held) (past : Past) (stands : Stands past s) (consistent : IsConsistent s) (i : ℕ) (free : is_populated past i ≡ false) where
  m : MatchesLive past s
  m = stands.live

  -- a live resource lies in another pool
  other_pool : (b : ℕ) (y : Entry) (r : Resource) (q : ℕ) → live past b ≡ Some y → resource_in y ≡ Some r → pool_at r.place ≡ Some q → q ≡ i → ⊥
  other_pool b y r q alive is at same =
      let none = none_passes past b y r alive is (λ c. holds (resources_pool past c) (λ q. i == q)) free in
      let lies : (i == q) ≡ false = rw (resource_is past b y r alive is, at) at none in
      clash (eq-eqb i q (sym same)) lies

  pub unused : IsUnused s.backed i
  unused p b a spot named by has =
      let n = numbered s b a by in
      let y = pooled_of (live past b) (m.pooled b n.0 n.1) in
      let at = some_sized (placed s b) y.size (m.sizes b ∙ ap (option_and_then size_made) y.is ∙ y.sized) in
      let l = lies_of y.resource.place y.pool y.at b at.0 (m.places b at.0 y.resource at.1 (ap (option_and_then resource_in) y.is ∙ y.of)) in
      let numbers : ◌≡◌ {A = Option ℕ} (Some l.2.lies.number) (Some n.0) = sym l.2.lies.has ∙ n.1 in
      let one : l.2.lies.number ≡ n.0 = cc in
      let allocations : ◌≡◌ {A = Option Allocation} (Some l.2.lies.allocation) (Some a) = sym l.2.lies.live ∙ ap (λ (k : ℕ). pools.allocation_at s.backed.pools k) one ∙ n.2 in
      let same : l.2.lies.allocation ≡ a = cc in
      let places : ◌≡◌ {A = Option (ℕ × PoolPlace)} (Some (l.0, l.2.lies.place)) (Some (p, spot)) = ap shared_place (sym l.2.lies.lies) ∙ ap (λ (x : Allocation). shared_place x.home) same ∙ has in
      let pool : l.0 ≡ p = pool_is l.0 p l.2.lies.place spot places in
      other_pool b y.made y.resource y.pool y.is y.of y.at (consistent.0.backed_is.one_pool y.pool i p (l.1 ∙ ap (λ (k : ℕ). Some k) pool) named)
    where
      lies_of : (q : Place) (j : ℕ) → pool_at q ≡ Some j → (b : ℕ) (p : Placed) → LiesAt (live past) s b q p → LiesOf s.backed s.memory b j p
      lies_of (place.Pool k) j e b p lies = let same : k ≡ j = cc in subst (λ (x : ℕ). LiesOf s.backed s.memory b x p) same lies
      lies_of (place.PoolUpper k) j e b p lies = let same : k ≡ j = cc in subst (λ (x : ℕ). LiesOf s.backed s.memory b x p) same lies
      lies_of (place.Dedicated t) j e b p lies = absurd cc
      lies_of (place.Memory k o) j e b p lies = absurd cc

      pool_is : (a b : ℕ) (p q : PoolPlace) → ◌≡◌ {A = Option (ℕ × PoolPlace)} (Some (a, p)) (Some (b, q)) → a ≡ b
      pool_is a b p q e = ap (λ (x : Option (ℕ × PoolPlace)). elim x as (λ y. ℕ) [ None ↦ a | Some v ↦ v.0 ]) e

  -- ---- what is held then

  module _ (new : Held) (dropped : PoolDropped s new i) (e : ℕ) (pool : IsTrue (holds (live past i) is_pool)) where
    abbrev after : ℕ → Option Entry
    after = live (host e (entry.DropPool i) ∷ past)

    now : (j : ℕ) → after j ≡ cond (j == i) None (live past j)
    now = live_end past e (entry.DropPool i) i refl refl

    gone : (j : ℕ) → eqb j i ≡ true → after j ≡ None
    gone j e = rw (now j, e) refl

    kept : (j : ℕ) → eqb j i ≡ false → after j ≡ live past j
    kept j e = rw (now j, e) refl

    -- but for pools the same is live
    alike : {A : Type 0} (kind : Entry → Option A) → ((q : ℕ) (info : PoolInfo) → kind (entry.Pool q info) ≡ None) → (j : ℕ) → option_and_then kind (after j) ≡ option_and_then kind (live past j)
    alike {A} kind none j = go (eqb j i) refl
      where
        go : (t : Bool) → eqb j i ≡ t → option_and_then kind (after j) ≡ option_and_then kind (live past j)
        go true e = rw (gone j e) (sym (no_more kind none (live past j) (subst (λ (k : ℕ). IsTrue (holds (live past k) is_pool)) (sym (eqb-true j i e)) pool)))
        go false e = rw (kept j e) refl

    alike_test : (test : Entry → Bool) → ((q : ℕ) (info : PoolInfo) → test (entry.Pool q info) ≡ false) → (j : ℕ) → holds (after j) test ≡ holds (live past j) test
    alike_test test none j = go (eqb j i) refl
      where
        go : (t : Bool) → eqb j i ≡ t → holds (after j) test ≡ holds (live past j) test
        go true e = rw (gone j e) (sym (not_so test none (live past j) (subst (λ (k : ℕ). IsTrue (holds (live past k) is_pool)) (sym (eqb-true j i e)) pool)))
        go false e = rw (kept j e) refl

    places : (b : ℕ) → placed new b ≡ placed s b
    places b = ap (λ (l : List (ℕ × Placed)). placed_in l b) dropped.resources

    shapes : (b : ℕ) → shape_of new b ≡ shape_of s b
    shapes b = ap (λ (l : List (ℕ × ImageInfo)). shape_in l b) dropped.shapes

    objects : (j : ℕ) → object_of new j ≡ object_of s j
    objects j = ap (λ (l : List (ℕ × Own)). object_in l j) dropped.drops.owned

    lies_still : (b : ℕ) (p : Placed) (y : Entry) (r : Resource) → live past b ≡ Some y → resource_in y ≡ Some r → (q : Place) → r.place ≡ q → LiesAt (live past) s b q p → LiesAt after new b q p
    lies_still b p y r alive is (place.Dedicated t) at lies = (objects b ∙ lies.0, lies.1)
    lies_still b p y r alive is (place.Memory k o) at lies = (alike_test is_memory (λ q info. refl) k ∙ lies.0, objects k ∙ lies.1, lies.2)
    lies_still b p y r alive is (place.Pool q) at lies = pool_keeps s new b q p dropped.backed (dropped.drops.others q (other_pool b y r q alive is (ap pool_at at))) (λ n spot l. dropped.drops.keeps b n spot l) lies
    lies_still b p y r alive is (place.PoolUpper q) at lies = pool_keeps s new b q p dropped.backed (dropped.drops.others q (other_pool b y r q alive is (ap pool_at at))) (λ n spot l. dropped.drops.keeps b n spot l) lies

    info : (j : ℕ) (t : Bool) → eqb j i ≡ t → info_by new.backed j ≡ option_and_then pool_in (after j)
    info j true e = rw (gone j e) (ap (λ (k : ℕ). info_by new.backed k) (eqb-true j i e) ∙ dropped.drops.no_info)
    info j false e = rw (kept j e) (dropped.drops.infos j (eqb-false j i e) ∙ m.pools j)

    matches : Matches after new
    matches = record {
      sizes = λ b. ap (option_map (λ (p : Placed). p.size)) (places b) ∙ m.sizes b ∙ sym (alike size_made (λ q info. refl) b);
      shapes = λ b. shapes b ∙ m.shapes b ∙ sym (alike image_in (λ q info. refl) b);
      places = λ b p r here is.
          let was : option_and_then resource_in (live past b) ≡ Some r = sym (alike resource_in (λ q info. refl) b) ∙ is in
          let y = is_live resource_in (live past b) r was in
          lies_still b p y.0 r y.1 y.2 r.place refl (m.places b p r (sym (places b) ∙ here) was);
      owned = λ b. ap is_some (objects b) ∙ m.owned b ∙ sym (alike_test has_memory (λ q info. refl) b);
      memories = λ k number x is has.
          ap (λ (n : MemoryState). length (region_of n number)) dropped.memory ∙ m.memories k number x (sym (alike memory_in (λ q info. refl) k) ∙ is) (sym (objects k) ∙ has);
      types = λ k number t is has.
          ap (λ (n : MemoryState). type_of n number) dropped.memory ∙ m.types k number t (sym (alike type_made (λ q info. refl) k) ∙ is) (sym (objects k) ∙ has);
      pools = λ b. info b (eqb b i) refl;
      pooled = λ b a has. alike_test in_pool (λ q info. refl) b ∙ m.pooled b a (sym (ap (λ (l : List (ℕ × ℕ)). number_in l b) dropped.drops.allocations) ∙ has);
      whole = dropped.whole;
    }

    pub dropped_done : DoneBy applied.Done e (entry.DropPool i) past s new
    dropped_done = (
      (
        stands_on past e (entry.DropPool i) s new stands matches,
        λ c cell there after has. same_cells s new dropped.memory dropped.resources dropped.shapes dropped.cache c cell has,
        none_new s new dropped.resources dropped.shapes,
      ),
      λ b o n h. absurd cc,
    )

-- ---- as it is asked for and done

module _ (s : Held) (y : Entry) (i : ℕ) (is : y ≡ entry.DropPool i) (past : Past) (m : Stands past s) (fit : FitsEntry past y) (consistent : IsConsistent s) where
  fits : FitsEntry past (entry.DropPool i)
  fits = subst (λ (x : Entry). FitsEntry past x) is fit

  pub drop_unused : IsUnused s.backed i
  drop_unused = unused s past m consistent i fits.1

  pub drop_done : (new : Held) → PoolDropped s new i → (e : ℕ) → DoneBy applied.Done e y past s new
  drop_done new dropped e = subst (λ (x : Entry). DoneBy applied.Done e x past s new) (sym is) (dropped_done s past m consistent i fits.1 new dropped e fits.0)
