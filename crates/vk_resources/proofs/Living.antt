-- What is live when an entry has come, and that what is held is that.
use Rattle.std.proofs.Common.{◌≡◌, ◌∙◌, ℕ, List, [], ◌∷◌, length, Bool, true, false, ◌||◌, ◌==◌, eqb, cond, refl, ap, sym, subst, inl, inr, Option, Some, None}
use Rattle.std.specs.Prelude.{IsTrue, is_some, option_map, option_and_then, if◌then◌else◌}
use Rattle.std.proofs.lemmas.Bool.{eqb-true, eqb-false}
use Rattle.vk_memory.specs.MemoryState.{MemoryState, IsLive, region_of, bytes_of, type_of, type_in}
use Rattle.vk_model.specs.declared.entry.Entry.{Entry}
use Rattle.vk_model.specs.declared.resource.MemoryInfo.{MemoryInfo}
use Rattle.vk_model.specs.declared.resource.Place.{Place}
use Rattle.vk_model.specs.declared.resource.Place.TheVariants as place
use Rattle.vk_model.specs.Basics.{holds}
use Rattle.vk_model.specs.Trace.Point.{Past}
use Rattle.vk_model.specs.Trace.Order.{host}
use Rattle.vk_model.specs.Trace.Objects.{Resource, made, made_by, ended, ended_by, live, image_in, resource_in, memory_in, pool_in}
use Rattle.vk_resources.specs.declared.resources.Placed.{Placed}
use Rattle.vk_resources.specs.Held.{Held, IsApart, LiesShared, placed, shape_of, object_of}
use Rattle.vk_resources.specs.Matches.{Matches, LiesAt, LiesOf, size_made, has_memory, type_made, in_pool}
use Rattle.vk_resources.specs.Fits.{IsUnused}
use Rattle.vk_backing.specs.Backed.{Backed, number_in, allocation_of, info_by, LiesIn, IsBacked, IsWhole}
use Rattle.vk_backing.proofs.Spots.{spot_object}
use Rattle.vk_resources.specs.Inner.Steps.{IsEmpty, Ends}
use Rattle.vk_resources.proofs.Placing.{released_object}
use Rattle.vk_resources.proofs.Matching.{home, lies_on, lies_in, live_of_placed, resource_of_placed, unowned}

-- ---- the live object of each id

module _ (past : Past) (e : ℕ) (x : Entry) where
  -- an entry that makes a new one
  pub live_new : (i : ℕ) → made_by x ≡ Some i → ended_by x ≡ [] → IsUnused past i → (j : ℕ) → live (host e x ∷ past) j ≡ cond (j == i) (Some x) (live past j)
  live_new i makes ends unused j = rw (makes, ends) (go (j == i) refl)
    where
      go : (t : Bool) → (j == i) ≡ t → (if ended past j then None else cond t (Some x) (made past j)) ≡ cond t (Some x) (live past j)
      go true is = let un : ended past j ≡ false = ap (λ (k : ℕ). ended past k) (eqb-true j i is) ∙ unused.unended in rw un refl
      go false is = refl

  -- one that ends one
  pub live_end : (r : ℕ) → made_by x ≡ None → ended_by x ≡ r ∷ [] → (j : ℕ) → live (host e x ∷ past) j ≡ cond (j == r) None (live past j)
  live_end r makes ends j = rw (makes, ends) (go (j == r))
    where
      go : (t : Bool) → (if (t || false) || ended past j then None else made past j) ≡ cond t None (live past j)
      go true = refl
      go false = refl

  -- and one that does neither
  pub live_same : made_by x ≡ None → ended_by x ≡ [] → (j : ℕ) → live (host e x ∷ past) j ≡ live past j
  live_same makes ends j = rw (makes, ends) refl

pub not_live : (past : Past) (i : ℕ) → IsUnused past i → live past i ≡ None
not_live past i unused = rw (unused.unended, unused.unmade) refl

-- a resource that lies in a pool is in memory of its type
pub shared_on : {b new : Backed} {m n : MemoryState} {i pool : ℕ} {p : Placed} → IsBacked new n → (l : LiesShared b m i pool p) → LiesIn new i pool l.spot → LiesShared new n i pool p
shared_on {new = new} {n = n} {i = i} {pool = pool} is l lies = record {
  spot = l.spot;
  lies = lies;
  object = l.object;
  offset = l.offset;
  within = l.within;
  kind = ap (λ (k : ℕ). type_of n k) (sym l.object) ∙ (spot_object new n is i pool l.spot lies).kind;
}

-- ---- one more object is live

module _ (alive alive' : ℕ → Option Entry) (old new : Held) (id : ℕ) (x : Entry) where
  pub record Grows : Type 0 where
    pub now : (j : ℕ) → alive' j ≡ cond (j == id) (Some x) (alive j)
    pub fresh : alive id ≡ None
    pub size : option_map (λ p. p.size) (placed new id) ≡ size_made x
    pub shaped : shape_of new id ≡ image_in x
    pub places : (b : ℕ) → (b ≡ id → ⊥) → placed new b ≡ placed old b
    pub shapes : (b : ℕ) → (b ≡ id → ⊥) → shape_of new b ≡ shape_of old b
    pub object : is_some (object_of new id) ≡ has_memory x
    pub objects : (i : ℕ) → (i ≡ id → ⊥) → object_of new i ≡ object_of old i
    pub lies : (p : Placed) (r : Resource) → placed new id ≡ Some p → resource_in x ≡ Some r → LiesAt alive' new id r.place p
    pub bytes : (number : ℕ) (y : MemoryInfo) → memory_in x ≡ Some y → object_of new id ≡ Some number → length (region_of new.memory number) ≡ y.size
    pub regions : (j number : ℕ) → object_of old j ≡ Some number → region_of new.memory number ≡ region_of old.memory number
    pub type_now : (number t : ℕ) → type_made x ≡ Some t → object_of new id ≡ Some number → type_of new.memory number ≡ t
    pub types : (j number : ℕ) → object_of old j ≡ Some number → type_of new.memory number ≡ type_of old.memory number
    pub info : info_by new.backed id ≡ pool_in x
    pub infos : (i : ℕ) → (i ≡ id → ⊥) → info_by new.backed i ≡ info_by old.backed i
    pub pooled : (a : ℕ) → allocation_of new.backed id ≡ Some a → IsTrue (in_pool x)
    pub allocations : (i : ℕ) → (i ≡ id → ⊥) → allocation_of new.backed i ≡ allocation_of old.backed i
    pub whole : IsWhole old.backed → IsWhole new.backed
    pub keeps : (b r : ℕ) (p : Placed) → (b ≡ id → ⊥) → LiesOf old.backed old.memory b r p → LiesOf new.backed new.memory b r p

  module _ (g : Grows) (m : Matches alive old) where
    here : (j : ℕ) → eqb j id ≡ true → alive' j ≡ Some x
    here j e = rw (g.now j, e) refl

    there : (j : ℕ) → eqb j id ≡ false → alive' j ≡ alive j
    there j e = rw (g.now j, e) refl

    had_none : object_of old id ≡ None
    had_none = unowned alive old id m (ap (λ (o : Option Entry). holds o has_memory) g.fresh)

    -- where a resource lies is no new object
    home_old : (b : ℕ) (q : Place) (p : Placed) → (b ≡ id → ⊥) → LiesAt alive old b q p → home b q ≡ id → ⊥
    home_old b (place.Dedicated t) p other lies same = other same
    home_old b (place.Memory k o) p other lies same = let both : ◌≡◌ {A = Option ℕ} (Some p.object) None = sym lies.1 ∙ ap (λ (i : ℕ). object_of old i) same ∙ had_none in cc
    home_old b (place.Pool r) p other lies same = other same
    home_old b (place.PoolUpper r) p other lies same = other same

    home_there : (b : ℕ) (q : Place) (p : Placed) → (b ≡ id → ⊥) → LiesAt alive old b q p → alive' (home b q) ≡ alive (home b q)
    home_there b q p other lies = go (eqb (home b q) id) refl
      where
        go : (t : Bool) → eqb (home b q) id ≡ t → alive' (home b q) ≡ alive (home b q)
        go true e = absurd (home_old b q p other lies (eqb-true (home b q) id e))
        go false e = there (home b q) e

    pub grown : Matches alive' new
    grown = record {
      sizes = λ b. sizes b (eqb b id) refl;
      shapes = λ b. shapes b (eqb b id) refl;
      places = λ b p r at is. lies b p r at is (eqb b id) refl;
      owned = λ i. owned i (eqb i id) refl;
      memories = λ k number y is has. memories k number y is has (eqb k id) refl;
      types = λ k number t is has. types k number t is has (eqb k id) refl;
      pools = λ i. pools i (eqb i id) refl;
      pooled = λ i a has. pooled i a has (eqb i id) refl;
      whole = g.whole m.whole;
    }
      where
        shapes : (b : ℕ) (t : Bool) → eqb b id ≡ t → shape_of new b ≡ option_and_then image_in (alive' b)
        shapes b true e = rw (here b e) (ap (λ (j : ℕ). shape_of new j) (eqb-true b id e) ∙ g.shaped)
        shapes b false e = rw (there b e) (g.shapes b (eqb-false b id e) ∙ m.shapes b)

        sizes : (b : ℕ) (t : Bool) → eqb b id ≡ t → option_map (λ (p : Placed). p.size) (placed new b) ≡ option_and_then size_made (alive' b)
        sizes b true e = rw (here b e) (ap (λ (j : ℕ). option_map (λ (p : Placed). p.size) (placed new j)) (eqb-true b id e) ∙ g.size)
        sizes b false e = rw (there b e) (ap (λ (o : Option Placed). option_map (λ (p : Placed). p.size) o) (g.places b (eqb-false b id e)) ∙ m.sizes b)

        lies : (b : ℕ) (p : Placed) (r : Resource) → placed new b ≡ Some p → option_and_then resource_in (alive' b) ≡ Some r → (t : Bool) → eqb b id ≡ t → LiesAt alive' new b r.place p
        lies b p r at is true e =
            let same = eqb-true b id e in
            subst (λ (j : ℕ). LiesAt alive' new j r.place p) (sym same) (g.lies p r (ap (λ (j : ℕ). placed new j) (sym same) ∙ at) (ap (option_and_then resource_in) (sym (here b e)) ∙ is))
        lies b p r at is false e =
            let was = m.places b p r (sym (g.places b (eqb-false b id e)) ∙ at) (ap (option_and_then resource_in) (sym (there b e)) ∙ is) in
            let other = eqb-false b id e in
            lies_on alive alive' old new b r.place p was (g.objects (home b r.place) (home_old b r.place p other was)) (home_there b r.place p other was) (λ q l. g.keeps b q p other l)

        pools : (i : ℕ) (t : Bool) → eqb i id ≡ t → info_by new.backed i ≡ option_and_then pool_in (alive' i)
        pools i true e = rw (here i e) (ap (λ (j : ℕ). info_by new.backed j) (eqb-true i id e) ∙ g.info)
        pools i false e = rw (there i e) (g.infos i (eqb-false i id e) ∙ m.pools i)

        pooled : (i a : ℕ) → allocation_of new.backed i ≡ Some a → (t : Bool) → eqb i id ≡ t → IsTrue (holds (alive' i) in_pool)
        pooled i a has true e = rw (here i e) (g.pooled a (ap (λ (j : ℕ). allocation_of new.backed j) (sym (eqb-true i id e)) ∙ has))
        pooled i a has false e = rw (there i e) (m.pooled i a (sym (g.allocations i (eqb-false i id e)) ∙ has))

        owned : (i : ℕ) (t : Bool) → eqb i id ≡ t → is_some (object_of new i) ≡ holds (alive' i) has_memory
        owned i true e = rw (here i e) (ap (λ (j : ℕ). is_some (object_of new j)) (eqb-true i id e) ∙ g.object)
        owned i false e = rw (there i e) (ap is_some (g.objects i (eqb-false i id e)) ∙ m.owned i)

        memories : (k number : ℕ) (y : MemoryInfo) → option_and_then memory_in (alive' k) ≡ Some y → object_of new k ≡ Some number → (t : Bool) → eqb k id ≡ t → length (region_of new.memory number) ≡ y.size
        memories k number y is has true e = g.bytes number y (ap (option_and_then memory_in) (sym (here k e)) ∙ is) (ap (λ (j : ℕ). object_of new j) (sym (eqb-true k id e)) ∙ has)
        memories k number y is has false e =
            let had : object_of old k ≡ Some number = sym (g.objects k (eqb-false k id e)) ∙ has in
            ap (λ (r : List ℕ). length r) (g.regions k number had) ∙ m.memories k number y (ap (option_and_then memory_in) (sym (there k e)) ∙ is) had

        types : (k number t : ℕ) → option_and_then type_made (alive' k) ≡ Some t → object_of new k ≡ Some number → (u : Bool) → eqb k id ≡ u → type_of new.memory number ≡ t
        types k number t is has true e = g.type_now number t (ap (option_and_then type_made) (sym (here k e)) ∙ is) (ap (λ (j : ℕ). object_of new j) (sym (eqb-true k id e)) ∙ has)
        types k number t is has false e =
            let had : object_of old k ≡ Some number = sym (g.objects k (eqb-false k id e)) ∙ has in
            g.types k number had ∙ m.types k number t (ap (option_and_then type_made) (sym (there k e)) ∙ is) had

-- ---- an object has ended

module _ (alive alive' : ℕ → Option Entry) (old new : Held) (r : ℕ) (now : (j : ℕ) → alive' j ≡ cond (j == r) None (alive j)) (m : Matches alive old) (apart : IsApart old.memory old.backed old.resources) (no_pool : option_and_then pool_in (alive r) ≡ None)
    (clear : (b : ℕ) (p : Placed) (q : Resource) → (b ≡ r → ⊥) → placed old b ≡ Some p → option_and_then resource_in (alive b) ≡ Some q → LiesAt alive old b q.place p → home b q.place ≡ r → ⊥) where
  -- no resource lies in its memory object
  pub empty : IsEmpty old r
  empty b p other at =
      let l = live_of_placed alive old b p m at in
      let is = resource_of_placed alive b p l in
      let lies = m.places b p l.resource at is in
      elim (lies_in alive old b l.resource.place p lies) [ inl has ↦ inl (home b l.resource.place, clear b p l.resource other at is lies, has) | inr shared ↦ inr shared ]

  module _ (ends : Ends old new r) where
    gone : (j : ℕ) → eqb j r ≡ true → alive' j ≡ None
    gone j e = rw (now j, e) refl

    kept : (j : ℕ) → eqb j r ≡ false → alive' j ≡ alive j
    kept j e = rw (now j, e) refl

    -- what is live has the bytes that it had
    region_kept : (number : ℕ) → IsLive new.memory number → region_of new.memory number ≡ region_of old.memory number
    region_kept number lives =
        let e = ends.releases.memory in
        ap (λ (n : MemoryState). region_of n number) e ∙ ap bytes_of (released_object old.memory ends.gone number (subst (λ (n : MemoryState). IsLive n number) e lives))

    type_kept : (number : ℕ) → IsLive new.memory number → type_of new.memory number ≡ type_of old.memory number
    type_kept number lives =
        let e = ends.releases.memory in
        ap (λ (n : MemoryState). type_of n number) e ∙ ap type_in (released_object old.memory ends.gone number (subst (λ (n : MemoryState). IsLive n number) e lives))

    pub region_there : (b : ℕ) (p : Placed) → (b ≡ r → ⊥) → placed old b ≡ Some p → region_of new.memory p.object ≡ region_of old.memory p.object
    region_there b p other at = region_kept p.object (ends.stays b p other at)

    -- what lies in a pool stays there
    pool_kept : (b q : ℕ) (p : Placed) → (b ≡ r → ⊥) → LiesOf old.backed old.memory b q p → LiesOf new.backed new.memory b q p
    pool_kept b q p other l = (
      l.0,
      ap (λ (ns : List (ℕ × ℕ)). number_in ns q) ends.releases.numbers ∙ l.1,
      shared_on ends.backed l.2 (ends.releases.keeps b l.0 l.2.spot other l.2.lies),
    )

    pub ended_matches : Matches alive' new
    ended_matches = record {
      sizes = λ b. sizes b (eqb b r) refl;
      shapes = λ b. shapes b (eqb b r) refl;
      places = λ b p q at is. lies b p q at is (eqb b r) refl;
      owned = λ i. owned i (eqb i r) refl;
      memories = λ k number y is has. memories k number y is has (eqb k r) refl;
      types = λ k number t is has. types k number t is has (eqb k r) refl;
      pools = λ i. ends.releases.infos i ∙ m.pools i ∙ pools i (eqb i r) refl;
      pooled = λ i a has. pooled i a has (eqb i r) refl;
      whole = ends.whole m.whole;
    }
      where
        shapes : (b : ℕ) (t : Bool) → eqb b r ≡ t → shape_of new b ≡ option_and_then image_in (alive' b)
        shapes b true e = rw (gone b e) (ap (λ (j : ℕ). shape_of new j) (eqb-true b r e) ∙ ends.no_shape)
        shapes b false e = rw (kept b e) (ends.shapes b (eqb-false b r e) ∙ m.shapes b)

        sizes : (b : ℕ) (t : Bool) → eqb b r ≡ t → option_map (λ (p : Placed). p.size) (placed new b) ≡ option_and_then size_made (alive' b)
        sizes b true e = rw (gone b e) (ap (λ (j : ℕ). option_map (λ (p : Placed). p.size) (placed new j)) (eqb-true b r e) ∙ ap (λ (o : Option Placed). option_map (λ (p : Placed). p.size) o) ends.no_resource)
        sizes b false e = rw (kept b e) (ap (λ (o : Option Placed). option_map (λ (p : Placed). p.size) o) (ends.resources b (eqb-false b r e)) ∙ m.sizes b)

        lies : (b : ℕ) (p : Placed) (q : Resource) → placed new b ≡ Some p → option_and_then resource_in (alive' b) ≡ Some q → (t : Bool) → eqb b r ≡ t → LiesAt alive' new b q.place p
        lies b p q at is true e = let both : None ≡ Some q = ap (option_and_then resource_in) (sym (gone b e)) ∙ is in absurd cc
        lies b p q at is false e =
            let other = eqb-false b r e in
            let at_old : placed old b ≡ Some p = sym (ends.resources b other) ∙ at in
            let is_old : option_and_then resource_in (alive b) ≡ Some q = ap (option_and_then resource_in) (sym (kept b e)) ∙ is in
            let was = m.places b p q at_old is_old in
            lies_on alive alive' old new b q.place p was (ends.releases.objects (home b q.place) (clear b p q other at_old is_old was)) (home_kept (eqb (home b q.place) r) refl (clear b p q other at_old is_old was)) (λ q l. pool_kept b q p other l)
          where
            home_kept : (t : Bool) → eqb (home b q.place) r ≡ t → (home b q.place ≡ r → ⊥) → alive' (home b q.place) ≡ alive (home b q.place)
            home_kept true e elsewhere = absurd (elsewhere (eqb-true (home b q.place) r e))
            home_kept false e elsewhere = kept (home b q.place) e

        pools : (i : ℕ) (t : Bool) → eqb i r ≡ t → option_and_then pool_in (alive i) ≡ option_and_then pool_in (alive' i)
        pools i true e = rw (gone i e) (ap (λ (j : ℕ). option_and_then pool_in (alive j)) (eqb-true i r e) ∙ no_pool)
        pools i false e = rw (kept i e) refl

        pooled : (i a : ℕ) → allocation_of new.backed i ≡ Some a → (t : Bool) → eqb i r ≡ t → IsTrue (holds (alive' i) in_pool)
        pooled i a has true e = let both : ◌≡◌ {A = Option ℕ} (Some a) None = sym has ∙ ap (λ (j : ℕ). allocation_of new.backed j) (eqb-true i r e) ∙ ends.releases.no_allocation in absurd cc
        pooled i a has false e = rw (kept i e) (m.pooled i a (sym (ends.releases.allocations i (eqb-false i r e)) ∙ has))

        owned : (i : ℕ) (t : Bool) → eqb i r ≡ t → is_some (object_of new i) ≡ holds (alive' i) has_memory
        owned i true e = rw (gone i e) (ap (λ (j : ℕ). is_some (object_of new j)) (eqb-true i r e) ∙ ap is_some ends.releases.no_object)
        owned i false e = rw (kept i e) (ap is_some (ends.releases.objects i (eqb-false i r e)) ∙ m.owned i)

        memories : (k number : ℕ) (y : MemoryInfo) → option_and_then memory_in (alive' k) ≡ Some y → object_of new k ≡ Some number → (t : Bool) → eqb k r ≡ t → length (region_of new.memory number) ≡ y.size
        memories k number y is has true e = let both : None ≡ Some y = ap (option_and_then memory_in) (sym (gone k e)) ∙ is in absurd cc
        memories k number y is has false e =
            let other = eqb-false k r e in
            let had : object_of old k ≡ Some number = sym (ends.releases.objects k other) ∙ has in
            ap (λ (l : List ℕ). length l) (region_kept number (ends.backed.live k number has)) ∙ m.memories k number y (ap (option_and_then memory_in) (sym (kept k e)) ∙ is) had

        types : (k number t : ℕ) → option_and_then type_made (alive' k) ≡ Some t → object_of new k ≡ Some number → (u : Bool) → eqb k r ≡ u → type_of new.memory number ≡ t
        types k number t is has true e = let both : ◌≡◌ {A = Option ℕ} None (Some t) = ap (option_and_then type_made) (sym (gone k e)) ∙ is in absurd cc
        types k number t is has false e =
            let other = eqb-false k r e in
            let had : object_of old k ≡ Some number = sym (ends.releases.objects k other) ∙ has in
            type_kept number (ends.backed.live k number has) ∙ m.types k number t (ap (option_and_then type_made) (sym (kept k e)) ∙ is) had
