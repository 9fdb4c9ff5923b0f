-- What the rules on binding and ending say of the resources that are held.
use Rattle.std.proofs.Common.{◌≡◌, ◌⊎◌, inl, inr, ℕ, ◌+◌, ◌<◌, ◌≤◌, Bool, true, false, not, ◌||◌, ◌&&◌, ◌%◌, ◌==◌, eq-eqb, refl, ap, sym, ◌∙◌, subst, arith, Option, Some, None}
use Rattle.std.specs.Prelude.{IsTrue, Contains, is_some, option_map, option_and_then, if◌then◌else◌}
use Rattle.std.specs.List.{list_any, filter_map}
use Rattle.std.proofs.lemmas.Bool.{eqb-true, ltb-false, or_parts, false_from_ne_true}
use Rattle.vk_model.proofs.Lists.Members.{found, chosen_has, filter_has, member_passes}
use Rattle.vk_model.proofs.Lists.Truths.{clash}
use Rattle.vk_model.specs.declared.entry.Entry.{Entry}
use Rattle.vk_model.specs.declared.entry.Entry.TheVariants as entry
use Rattle.vk_model.specs.declared.resource.MemoryInfo.{MemoryInfo}
use Rattle.vk_model.specs.declared.resource.Place.{Place}
use Rattle.vk_model.specs.declared.resource.Place.TheVariants as place
use Rattle.vk_model.specs.Basics.{holds}
use Rattle.vk_model.specs.Trace.Point.{Past, entries}
use Rattle.vk_model.specs.Trace.Objects.{of_buffer, of_image, made, made_by, ended, live, live_resources, memory_in, pool_in, pool, resource_in, Resource, resource, memory_of, type_at, is_cached}
use Rattle.vk_model.specs.Memory.Suballocation.{ranges_meet, same_kind, share_page}
use Rattle.vk_model.specs.Rules.Ids.{is_memory, is_resource}
use Rattle.vk_model.specs.Rules.Binding.{conflicts_with}
use Rattle.vk_memory.specs.MemoryState.{type_of}
use Rattle.vk_transfer.specs.Ran.{AreApart}
use Rattle.vk_resources.specs.declared.resources.Placed.{Placed}
use Rattle.vk_resources.specs.Held.{Held, IsApart, is_cached_in, placed, object_of}
use Rattle.vma_pools.specs.Pools.{Kept}
use Rattle.vma_pools.specs.State.{pool_at}
use Rattle.vk_model.specs.declared.resource.PoolInfo.{PoolInfo}
use Rattle.vk_backing.specs.Backed.{info_by}
use Rattle.vk_backing.proofs.Spots.{are_spots}
use Rattle.vk_resources.specs.Matches.{MatchesLive, LiesAt, LiesOf, has_memory, type_made, type_of_place}
use Rattle.vk_resources.specs.Fits.{FitsPlace, is_occupied}
use Rattle.vk_resources.specs.Inner.Steps.{BindReady}
use Rattle.vk_resources.proofs.Placing.{inside_of}
use Rattle.vk_resources.proofs.Matching.{LivePlaced, is_live, home, live_of_placed, resource_of_placed, lies_in}
use Rattle.vk_resources.proofs.Fitting.{live_made}
use Rattle.vk_model.proofs.Memory.Ranges.{beside}

-- ---- a live object

made_of_live : (past : Past) (i : ℕ) (y : Entry) → live past i ≡ Some y → made past i ≡ Some y
made_of_live past i y is = go (ended past i) is
  where
    go : (t : Bool) → (if t then None else made past i) ≡ Some y → made past i ≡ Some y
    go true e = absurd cc
    go false e = e

-- a live memory object
live_memory : (o : Option Entry) → IsTrue (holds o is_memory) → (x : MemoryInfo) × (option_and_then memory_in o ≡ Some x) × (holds o has_memory ≡ true)
live_memory None h = absurd cc
live_memory (Some (entry.Memory i x)) h = (x, refl, refl)
live_memory (Some _) h = absurd cc

no_resource_in : (o : Option Entry) (y : Entry) (r : Resource) → IsTrue (holds o is_memory) → o ≡ Some y → resource_in y ≡ Some r → ⊥
no_resource_in None y r h at is = cc
no_resource_in (Some (entry.Memory i x)) y r h at is = let same : entry.Memory i x ≡ y = cc in let none : ◌≡◌ {A = Option Resource} None (Some r) = ap resource_in same ∙ is in cc
no_resource_in (Some _) y r h at is = cc

no_resource : (o : Option Entry) → IsTrue (holds o is_memory) → IsTrue (holds o is_resource) → ⊥
no_resource None h g = cc
no_resource (Some (entry.Memory i x)) h g = cc
no_resource (Some _) h g = cc

-- a resource that is live is one of the live resources
module _ (past : Past) (c : ℕ) (y : Entry) (r : Resource) (alive_is : live past c ≡ Some y) (is : resource_in y ≡ Some r) where
  pub resource_is : resource past c ≡ Some r
  resource_is = rw (made_of_live past c y alive_is) is

  among_live : Contains (live_resources past) c
  among_live =
      let f = found (λ x. holds (made_by x) (λ i. c == i)) (entries past) y (made_of_live past c y alive_is) in
      filter_has (λ i. is_some (option_and_then resource_in (live past i))) (filter_map made_by (entries past)) c (chosen_has made_by (entries past) y c f.0 (makes (made_by y) f.1)) (rw (alive_is, is) refl)
    where
      makes : (o : Option ℕ) → IsTrue (holds o (λ i. c == i)) → o ≡ Some c
      makes None h = absurd cc
      makes (Some i) h = ap (λ (k : ℕ). Some k) (sym (eqb-true c i h))

  -- which passes no test that no live resource passes
  pub none_passes : (test : ℕ → Bool) → list_any test (live_resources past) ≡ false → test c ≡ false
  none_passes test none = false_from_ne_true (test c) (λ h. clash (member_passes test (live_resources past) c among_live h) none)

-- ---- two ranges that don't meet

smaller : (a n k b m l : ℕ) → n ≤ k → m ≤ l → (a + k ≤ b) ⊎ (b + l ≤ a) → AreApart a n b m
smaller a n k b m l less fewer (inl le) = inl (omega (arith, less, le))
smaller a n k b m l less fewer (inr le) = inr (omega (arith, fewer, le))

-- ---- a resource that is bound

-- what a live memory object is of
memory_made : (o : Option Entry) (x : MemoryInfo) → option_and_then memory_in o ≡ Some x → option_and_then type_made o ≡ Some x.memory_type
memory_made None x is = absurd cc
memory_made (Some (entry.Memory i y)) x is = let same : y ≡ x = cc in ap (λ (z : MemoryInfo). Some z.memory_type) same
memory_made (Some _) x is = absurd cc

-- the memory type of a resource in an allocation of its own
own_type : (y : Entry) (r : Resource) → resource_in y ≡ Some r → type_made y ≡ type_of_place r.place
own_type (entry.Buffer j b) r is = let same : of_buffer b ≡ r = cc in ap (λ (z : Resource). type_of_place z.place) same
own_type (entry.Image j b) r is = let same : of_image b ≡ r = cc in ap (λ (z : Resource). type_of_place z.place) same
own_type _ r is = absurd cc

-- the memory type of a pool is that of its blocks
of_pool : (past : Past) (s : Held) (m : MatchesLive past s) (p : Placed) (b q : ℕ) → LiesOf s.backed s.memory b q p → holds (option_map (λ x. x.memory_type) (pool past q)) (λ u. u == 2) ≡ is_cached_in s.memory p
of_pool past s m p b q lies =
    let info = lies.2.lies.kept.pool.info in
    let by : info_by s.backed q ≡ Some info = ap (λ (o : Option ℕ). option_map (λ (k : Kept). k.pool.info) (option_and_then (pool_at s.backed.pools) o)) lies.1 ∙ ap (λ (o : Option Kept). option_map (λ (k : Kept). k.pool.info) o) lies.2.lies.there in
    let made = live_made pool_in past q info (sym (m.pools q) ∙ by) in
    ap (λ (o : Option PoolInfo). holds (option_map (λ (x : PoolInfo). x.memory_type) o) (λ u. u == 2)) made ∙ ap (λ (t : ℕ). t == 2) (sym lies.2.kind)

-- whether host accesses to a resource go through a cache is so of its memory object
pub same_cached : (past : Past) (s : Held) (m : MatchesLive past s) (b : ℕ) (p : Placed) → placed s b ≡ Some p → is_cached past b ≡ is_cached_in s.memory p
same_cached past s m b p here =
    let l = live_of_placed (live past) s b p m here in
    ap (λ (r : Option Resource). holds (option_and_then (λ r. type_at past r.place) r) (λ u. u == 2)) (resource_is past b l.made l.resource l.alive_is l.resource_is)
    ∙ go l.resource.place (ap (option_and_then type_made) l.alive_is ∙ own_type l.made l.resource l.resource_is) (m.places b p l.resource here (resource_of_placed (live past) b p l))
  where
    go : (q : Place) → option_and_then type_made (live past b) ≡ type_of_place q → LiesAt (live past) s b q p → holds (type_at past q) (λ u. u == 2) ≡ is_cached_in s.memory p
    go (place.Dedicated t) is lies = ap (λ (u : ℕ). u == 2) (sym (m.types b p.object t is lies.0))
    go (place.Memory k o) is lies =
        let x = live_memory (live past k) lies.0 in
        let has = m.types k p.object x.0.memory_type (memory_made (live past k) x.0 x.1) lies.1 in
        rw (live_made memory_in past k x.0 x.1) (ap (λ (u : ℕ). u == 2) (sym has))
    go (place.Pool q) is lies = of_pool past s m p b q lies
    go (place.PoolUpper q) is lies = of_pool past s m p b q lies

module _ (past : Past) (s : Held) (m : MatchesLive past s) (apart : IsApart s.memory s.backed s.resources) (k o : ℕ) (r : Resource) (size : ℕ) (at : r.place ≡ place.Memory k o) (some : 0 < size) (less : size ≤ r.size) (fits : FitsPlace past r (place.Memory k o)) where
  memory_info : (x : MemoryInfo) × (option_and_then memory_in (live past k) ≡ Some x) × (holds (live past k) has_memory ≡ true)
  memory_info = live_memory (live past k) fits.0

  number_of : (number : ℕ) × (object_of s k ≡ Some number)
  number_of = go (object_of s k) refl (m.owned k ∙ memory_info.2)
    where
      go : (x : Option ℕ) → object_of s k ≡ x → is_some x ≡ true → (number : ℕ) × (object_of s k ≡ Some number)
      go None e h = absurd cc
      go (Some n) e h = (n, e)

  ends_within : o + r.size ≤ memory_info.0.size
  ends_within = ltb-false memory_info.0.size (o + r.size) (rw (live_made memory_in past k memory_info.0 memory_info.1) at fits.1)

  -- a resource that is bound to it doesn't meet the new one
  others_beside : (c : ℕ) (q : Placed) (l : LivePlaced (live past) c q) (o' : ℕ) → l.resource.place ≡ place.Memory k o' → 0 < q.size → AreApart o size o' q.size
  others_beside c q l o' is more =
      let t = l.resource in
      let none = none_passes past c l.made t l.alive_is l.resource_is (λ i. holds (resource past i) (conflicts_with past r k o)) fits.2 in
      let clear : conflicts_with past r k o t ≡ false = rw (resource_is past c l.made t l.alive_is l.resource_is) at none in
      let both : (ranges_meet o r.size o' t.size || not (same_kind r.kind t.kind) && share_page o r.size o' t.size) ≡ false = rw (is, eq-eqb k k refl) at clear in
      let within = l.within in
      smaller o size r.size o' q.size t.size less within
      (beside o r.size o' t.size (omega (arith, less, some)) (omega (arith, within, more)) (or_parts (ranges_meet o r.size o' t.size) (not (same_kind r.kind t.kind) && share_page o r.size o' t.size) both).0)

  bound_beside : (c : ℕ) (q : Placed) → placed s c ≡ Some q → q.object ≡ number_of.0 → AreApart o size q.offset q.size
  bound_beside c q at object =
      let l = live_of_placed (live past) s c q m at in
      let lies = m.places c q l.resource at (resource_of_placed (live past) c q l) in
      let inside = inside_of s.memory s.backed s.resources apart c q at in
      elim (lies_in (live past) s c l.resource.place q lies) [
        | inl has ↦ (let same : home c l.resource.place ≡ k = apart.backed_is.own (home c l.resource.place) k number_of.0 (has ∙ ap (λ (n : ℕ). Some n) object) number_of.1 in go c q l inside.some l.resource.place refl lies same)
        | inr shared ↦ absurd ((are_spots s.backed s.memory apart.backed_is).unowned c shared.0 k shared.1.spot shared.1.lies (number_of.1 ∙ ap (λ (n : ℕ). Some n) (sym object ∙ sym shared.1.object)))
      ]
    where
      go : (c : ℕ) (q : Placed) (l : LivePlaced (live past) c q) → 0 < q.size → (p : Place) → l.resource.place ≡ p → LiesAt (live past) s c p q → home c p ≡ k → AreApart o size q.offset q.size
      go c q l more (place.Dedicated t) is lies same = absurd (no_resource_in (live past k) l.made l.resource fits.0 (ap (live past) (sym same) ∙ l.alive_is) l.resource_is)
      go c q l more (place.Memory k' o') is lies same = rw lies.2 (others_beside c q l o' (is ∙ ap (λ (i : ℕ). place.Memory i o') same) more)
      go c q l more (place.Pool p) is lies same = absurd (no_resource_in (live past k) l.made l.resource fits.0 (ap (live past) (sym same) ∙ l.alive_is) l.resource_is)
      go c q l more (place.PoolUpper p) is lies same = absurd (no_resource_in (live past k) l.made l.resource fits.0 (ap (live past) (sym same) ∙ l.alive_is) l.resource_is)

  aligned : type_of s.memory number_of.0 ≡ 2 → o % 64 ≡ 0
  aligned is =
      let x = memory_info in
      let has = m.types k number_of.0 x.0.memory_type (memory_made (live past k) x.0 x.1) number_of.1 in
      let type : holds (type_at past r.place) (λ t. t == 2) ≡ true = rw (at, live_made memory_in past k x.0 x.1) (eq-eqb x.0.memory_type 2 (sym has ∙ is)) in
      let none = (or_parts _ (holds (type_at past r.place) (λ t. t == 2) && not (o % 64 == 0)) fits.3).1 in
      let off : not (o % 64 == 0) ≡ false = rw type at none in
      eqb-true (o % 64) 0 (not-false (o % 64 == 0) off)
    where
      not-false : (b : Bool) → not b ≡ false → b ≡ true
      not-false true e = refl
      not-false false e = absurd cc

  pub bind_ready : BindReady s k o size
  bind_ready =
      let within = ends_within in
      let long = m.memories k number_of.0 memory_info.0 memory_info.1 number_of.1 in
      record { number = number_of.0; has = number_of.1; some = some; room = omega (arith, within, long, less); apart = bound_beside; aligned = aligned }

-- ---- what ends

module _ (past : Past) (s : Held) (m : MatchesLive past s) (r b : ℕ) (p : Placed) (t : Resource) (other : b ≡ r → ⊥) (is : option_and_then resource_in (live past b) ≡ Some t) where
  pub destroyed_clear : IsTrue (holds (live past r) is_resource) → LiesAt (live past) s b t.place p → home b t.place ≡ r → ⊥
  destroyed_clear resource lies same = go t.place lies same
    where
      go : (q : Place) → LiesAt (live past) s b q p → home b q ≡ r → ⊥
      go (place.Dedicated t) lies same = other same
      go (place.Memory k o) lies same = no_resource (live past k) lies.0 (subst (λ (i : ℕ). IsTrue (holds (live past i) is_resource)) (sym same) resource)
      go (place.Pool q) lies same = other same
      go (place.PoolUpper q) lies same = other same

  pub freed_clear : is_occupied past r ≡ false → LiesAt (live past) s b t.place p → home b t.place ≡ r → ⊥
  freed_clear none lies same = go t.place refl lies same
    where
      go : (q : Place) → t.place ≡ q → LiesAt (live past) s b q p → home b q ≡ r → ⊥
      go (place.Dedicated t) at lies same = other same
      go (place.Memory k o) at lies same =
          let y = is_live resource_in (live past b) t is in
          let free = none_passes past b y.0 t y.1 y.2 (λ i. holds (memory_of past i) (λ s. r == s)) none in
          let bound : (r == k) ≡ false = rw (resource_is past b y.0 t y.1 y.2, at) at free in
          clash (eq-eqb r k (sym same)) bound
      go (place.Pool q) at lies same = other same
      go (place.PoolUpper q) at lies same = other same
