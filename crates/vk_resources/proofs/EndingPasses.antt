-- What is held when a pass has ended is what is live then.
use Rattle.std.proofs.Common.{◌≡◌, ◌⊎◌, ◌∙◌, ℕ, List, ◌∷◌, length, Bool, true, false, ◌||◌, ◌==◌, eq-eqb, Option, Some, None, refl, sym, ap, subst, arith, inl, inr}
use Rattle.std.specs.Prelude.{Contains, IsTrue, is_some, option_and_then, option_map, if◌then◌else◌}
use Rattle.std.proofs.lemmas.Bool.{eqb-true, false_from_ne_true}
use Rattle.vk_memory.specs.MemoryState.{MemoryState, bytes_of, region_of, type_in, type_of}
use Rattle.vk_model.specs.Basics.{among, holds}
use Rattle.vk_model.specs.declared.entry.Entry.{Entry}
use Rattle.vk_model.specs.declared.entry.Entry.TheVariants as entry
use Rattle.vk_model.specs.declared.resource.ImageInfo.{ImageInfo}
use Rattle.vk_model.specs.declared.resource.Place.{Place}
use Rattle.vk_model.specs.declared.resource.Place.TheVariants as place
use Rattle.vk_model.specs.declared.resource.Spot.{Spot}
use Rattle.vk_model.specs.Trace.Point.{Past}
use Rattle.vk_model.specs.Trace.Order.{host}
use Rattle.vk_model.specs.Trace.Objects.{Resource, ended as was_ended, image_in, live, made, memory_in, pool_at, pool_in, resource_in}
use Rattle.vk_model.proofs.Lists.Members.{member_passes, some_member}
use Rattle.vk_backing.specs.declared.backing.Own.{Own}
use Rattle.vk_backing.specs.Allotted as allotting
use Rattle.vk_backing.specs.Backed.{Backed, number_in, object_in, LiesIn}
use Rattle.vk_backing.specs.Passing.{Passing, ArePassing}
use Rattle.vk_backing.specs.PassSteps.{AreDestroyed}
use Rattle.vk_backing.specs.Spots.{AreSpots}
use Rattle.vk_backing.proofs.Spots.{are_spots, spot_object}
use Rattle.vk_resources.specs.declared.resources.Placed.{Placed}
use Rattle.vk_resources.specs.Allocating.{allotted}
use Rattle.vk_resources.specs.Held.{Held, IsConsistent, LiesShared, placed, placed_in, shape_of, shape_in, object_of}
use Rattle.vk_resources.specs.Matches.{Matches, Stands, LiesAt, LiesOf, has_memory, in_pool, size_made, type_made}
use Rattle.vk_resources.specs.PassSteps.{AreLive, EndsResources}
use Rattle.vk_resources.specs.Inner.PassEnds.{ForgetsEach, Settles}
use Rattle.vk_resources.proofs.Binding.{destroyed_clear}
use Rattle.vk_resources.proofs.Ending.{resource_no_pool}
use Rattle.vk_resources.proofs.Matching.{LivePlaced, home, keeps_stands, lies_on, live_of_placed, resource_of_placed, unshared}
use Rattle.vk_resources.proofs.MovedPlaces.{HasHome, HaveHomes, IsOwned, IsPooled, Origin, mover_has, origin}
use Rattle.vk_backing.proofs.Numbers.{listed_or}

-- ---- where resources lie

pub have_homes : (alive : ℕ → Option Entry) (s : Held) → Matches alive s → HaveHomes s
have_homes alive s m b p here = let l = live_of_placed alive s b p m here in go l l.resource.place refl (m.places b p l.resource here (resource_of_placed alive b p l))
  where
    in_none : (l : LivePlaced alive b p) (q : Place) → l.resource.place ≡ q → is_some (pool_at q) ≡ false → holds (alive b) in_pool ≡ false
    in_none l q is none = rw (l.alive_is, l.resource_is, is) none

    go : (l : LivePlaced alive b p) (q : Place) → l.resource.place ≡ q → LiesAt alive s b q p → HasHome s b p
    go l (place.Dedicated t) is lies = inl (b, lies.0, unshared alive s b m (in_none l (place.Dedicated t) is refl))
    go l (place.Memory k o) is lies = inl (k, lies.1, unshared alive s b m (in_none l (place.Memory k o) is refl))
    go l (place.Pool q) is lies = inr (lies.0, lies.2)
    go l (place.PoolUpper q) is lies = inr (lies.0, lies.2)

-- ---- what was forgotten stands

pub forgot_allotted : (ids : List ℕ) (old new : Held) → ForgetsEach ids old new → allotted new ≡ allotted old
forgot_allotted ids old new f = ap (λ (b : Backed). allotting.allotted b new.memory) f.backed ∙ ap (λ (x : MemoryState). allotting.allotted old.backed x) f.memory

pub forgot_stands : (ids : List ℕ) (old new : Held) → ForgetsEach ids old new → (past : Past) → Stands past old → Stands past new
forgot_stands ids old new f past m = keeps_stands past old new (record {
  resources = f.resources;
  shapes = f.shapes;
  same = forgot_allotted ids old new f;
  lengths = λ n. ap (λ (x : MemoryState). length (region_of x n)) f.memory;
  types = λ n. ap (λ (x : MemoryState). type_of x n) f.memory;
}) m

-- ---- which resources are there

module _ (s new : Held) (p q : Passing) (passing : ArePassing p s.backed) (id : ℕ) (moving ignored destroyed : List ℕ) (moving_is : moving ≡ p.moving) (e : Settles p q s new moving ignored destroyed id) where
  gone_both : (i : ℕ) → Contains destroyed i → (placed new i ≡ None) × (shape_of new i ≡ None)
  gone_both i there = (e.anew.none i (e.left.gone i there), e.shapes.gone i there)

  same_size : (i : ℕ) → (Contains destroyed i → ⊥) → option_map (λ (p : Placed). p.size) (placed new i) ≡ option_map (λ (p : Placed). p.size) (placed s i)
  same_size i away = elim (listed_or moving i) [
    | inl moves ↦ go (placed s i) refl (subst (λ (l : List ℕ). Contains l i) moving_is moves) moves
    | inr still ↦ ap (λ (o : Option Placed). option_map (λ (p : Placed). p.size) o) (e.anew.others i still ∙ e.left.others i away)
  ]
    where
      go : (o : Option Placed) → placed s i ≡ o → Contains p.moving i → Contains moving i → option_map (λ (p : Placed). p.size) (placed new i) ≡ option_map (λ (p : Placed). p.size) (placed s i)
      go None none there moves = ap (λ (o : Option Placed). option_map (λ (p : Placed). p.size) o) (e.anew.none i (e.left.others i away ∙ none) ∙ sym none)
      go (Some was) here there moves =
          let has = mover_has p s.backed passing i there in
          let a = e.anew.moved i has.0 was moves (e.closes.allocations i away ∙ has.1) (e.left.others i away ∙ here) in
          ap (λ (o : Option Placed). option_map (λ (p : Placed). p.size) o) a.here ∙ sym (ap (λ (o : Option Placed). option_map (λ (p : Placed). p.size) o) here)

  pub ends_resources : EndsResources s new moving destroyed
  ends_resources = record {
    gone = gone_both;
    forms = λ i away. record { size = same_size i away; shape = e.shapes.others i away };
    stays = λ i away still. e.anew.others i still ∙ e.left.others i away;
  }

  -- ---- what is live

  module _ (consistent : IsConsistent s) (past : Past) (m : Matches (live past) s) (are_ended : AreDestroyed p s.backed destroyed) (lives : AreLive past destroyed) (n d : ℕ) where
    abbrev after : Past
    after = host n (entry.EndPass d ignored destroyed) ∷ past

    listed_among : (i : ℕ) → Contains destroyed i → among i destroyed ≡ true
    listed_among i there = member_passes (λ y. i == y) destroyed i there (eq-eqb i i refl)

    unlisted_among : (i : ℕ) → (Contains destroyed i → ⊥) → among i destroyed ≡ false
    unlisted_among i away = false_from_ne_true (among i destroyed) (λ h. let x = some_member (λ y. i == y) destroyed h in away (subst (λ (j : ℕ). Contains destroyed j) (sym (eqb-true i x.0 x.2)) x.1))

    dead : (i : ℕ) → Contains destroyed i → live after i ≡ None
    dead i there = ap (λ (t : Bool). if t || was_ended past i then None else made past i) (listed_among i there)

    alive : (i : ℕ) → (Contains destroyed i → ⊥) → live after i ≡ live past i
    alive i away = ap (λ (t : Bool). if t || was_ended past i then None else made past i) (unlisted_among i away)

    objects : (i : ℕ) → object_of new i ≡ object_of s i
    objects i = ap (λ (os : List (ℕ × Own)). object_in os i) e.closes.owned

    -- a destroyed resource has no memory object of its own
    no_object : (i : ℕ) → Contains destroyed i → object_of s i ≡ None
    no_object i there = let each = are_ended.each i there in go (object_of s i) refl each.3
      where
        go : (o : Option ℕ) → object_of s i ≡ o → {pool : ℕ} {spot : Spot} → LiesIn s.backed i pool spot → o ≡ None
        go None is l = refl
        go (Some x) is l = absurd (consistent.0.backed_is.either i x l.number is l.has)

    old_spots : AreSpots s.backed s.memory
    old_spots = are_spots s.backed s.memory consistent.0.backed_is

    homes : HaveHomes s
    homes = have_homes (live past) s m

    abbrev came : (b : ℕ) (now : Placed) → Type 0
    came b now = Origin s consistent homes p q passing new.backed new.memory id moving ignored destroyed moving_is e.closes e.backed e.between new.resources e.left e.anew b now

    where_from : (b : ℕ) (now : Placed) → placed new b ≡ Some now → came b now
    where_from b now at = origin s consistent homes p q passing new.backed new.memory id moving ignored destroyed moving_is e.closes e.backed e.between new.resources e.left e.anew b now at

    lies_then : (b : ℕ) (now : Placed) (o : came b now) (r : Resource) → option_and_then resource_in (live past b) ≡ Some r → LiesAt (live past) s b r.place o.came.was → LiesAt (live after) new b r.place now
    lies_then b now o r is lies = go r.place lies (home_stays lies) o.lies
      where
        was : Placed
        was = o.came.was

        -- the id whose memory object it lies in isn't destroyed
        home_stays : LiesAt (live past) s b r.place was → Contains destroyed (home b r.place) → ⊥
        home_stays lies there = destroyed_clear past s m (home b r.place) b was r (λ same. o.came.away (subst (λ (j : ℕ). Contains destroyed j) (sym same) there)) is (lives (home b r.place) there) lies refl

        never : {A : Type 0} (h : ℕ) → object_of s h ≡ Some was.object → (k : ℕ) → LiesShared s.backed s.memory b k was → A
        never h has k l = absurd (old_spots.unowned b k h l.spot l.lies (has ∙ ap (λ (x : ℕ). Some x) (sym l.object)))

        pooled : (k : ℕ) → LiesOf s.backed s.memory b k was → IsPooled s consistent homes p q passing new.backed new.memory id moving ignored destroyed moving_is e.closes e.backed e.between new.resources e.left e.anew b now was → LiesOf new.backed new.memory b k now
        pooled k l t =
            let same : l.0 ≡ t.pool = (old_spots.one b l.0 t.pool l.2.spot t.lay.spot l.2.lies t.lay.lies).0 in
            let size = t.bytes.size in let within = t.lay.within in let now_size = o.came.size in (
              t.pool,
              ap (λ (ns : List (ℕ × ℕ)). number_in ns k) e.closes.numbers ∙ l.1 ∙ ap (λ (x : ℕ). Some x) same,
              record { spot = t.to; lies = t.lies; object = t.object; offset = t.offset; within = omega (arith, size, within, now_size); kind = ap (type_of new.memory) (sym t.object) ∙ (spot_object new.backed new.memory e.backed b t.pool t.to t.lies).kind },
            )

        stays : IsOwned s consistent homes p q passing new.backed new.memory id moving ignored destroyed moving_is e.closes e.backed e.between new.resources e.left e.anew b now was → (x : Place) → LiesAt (live past) s b x was → (Contains destroyed (home b x) → ⊥) → LiesAt (live after) new b x now
        stays own x lies away =
            subst (λ (y : Placed). LiesAt (live after) new b x y) (sym own.same)
            (lies_on (live past) (live after) s new b x was lies (objects (home b x)) (alive (home b x) away) (λ k l. never own.owner own.has l.0 l.2))

        go : (x : Place) → LiesAt (live past) s b x was → (Contains destroyed (home b x) → ⊥) → IsOwned s consistent homes p q passing new.backed new.memory id moving ignored destroyed moving_is e.closes e.backed e.between new.resources e.left e.anew b now was
            ⊎ IsPooled s consistent homes p q passing new.backed new.memory id moving ignored destroyed moving_is e.closes e.backed e.between new.resources e.left e.anew b now was → LiesAt (live after) new b x now
        go x lies away (inl own) = stays own x lies away
        go (place.Dedicated t) lies away (inr w) = never b lies.0 w.pool w.lay
        go (place.Memory k o) lies away (inr w) = never k lies.1 w.pool w.lay
        go (place.Pool k) lies away (inr w) = pooled k lies w
        go (place.PoolUpper k) lies away (inr w) = pooled k lies w

    -- what is live then was live
    was_live : {A : Type 0} (kind : Entry → Option A) (i : ℕ) (x : A) → option_and_then kind (live after i) ≡ Some x → (Contains destroyed i → ⊥) × (option_and_then kind (live past i) ≡ Some x)
    was_live {A} kind i x is =
        let away : Contains destroyed i → ⊥ = λ there. (let both : ◌≡◌ {A = Option A} None (Some x) = sym (ap (option_and_then kind) (dead i there)) ∙ is in cc) in
        (away, ap (option_and_then kind) (sym (alive i away)) ∙ is)

    pub ended_matches : Matches (live after) new
    ended_matches = record {
      sizes = λ i. elim (listed_or destroyed i) [
        | inl there ↦ ap (λ (o : Option Placed). option_map (λ (p : Placed). p.size) o) (gone_both i there).0 ∙ sym (ap (option_and_then size_made) (dead i there))
        | inr away ↦ same_size i away ∙ m.sizes i ∙ ap (option_and_then size_made) (sym (alive i away))
      ];
      shapes = λ i. elim (listed_or destroyed i) [
        | inl there ↦ (gone_both i there).1 ∙ sym (ap (option_and_then image_in) (dead i there))
        | inr away ↦ e.shapes.others i away ∙ m.shapes i ∙ ap (option_and_then image_in) (sym (alive i away))
      ];
      places = λ i now r at is. let o = where_from i now at in let w = was_live resource_in i r is in lies_then i now o r w.1 (m.places i o.came.was r o.came.here w.1);
      owned = λ i. elim (listed_or destroyed i) [
        | inl there ↦ ap is_some (objects i ∙ no_object i there) ∙ sym (ap (λ (o : Option Entry). holds o has_memory) (dead i there))
        | inr away ↦ ap is_some (objects i) ∙ m.owned i ∙ ap (λ (o : Option Entry). holds o has_memory) (sym (alive i away))
      ];
      memories = λ k number x is has. let had = sym (objects k) ∙ has in ap (λ o. length (bytes_of o)) (e.closes.objects k number had) ∙ m.memories k number x (was_live memory_in k x is).1 had;
      types = λ i number t is has. let had = sym (objects i) ∙ has in ap type_in (e.closes.objects i number had) ∙ m.types i number t (was_live type_made i t is).1 had;
      pools = λ i. e.closes.infos i ∙ m.pools i ∙ elim (listed_or destroyed i) [
        | inl there ↦ resource_no_pool (live past i) (lives i there) ∙ sym (ap (option_and_then pool_in) (dead i there))
        | inr away ↦ ap (option_and_then pool_in) (sym (alive i away))
      ];
      pooled = λ i a has. elim (listed_or destroyed i) [
        | inl there ↦ (let both = sym (e.closes.gone i there) ∙ has in absurd cc)
        | inr away ↦ subst (λ (o : Option Entry). IsTrue (holds o in_pool)) (sym (alive i away)) (m.pooled i a (sym (e.closes.allocations i away) ∙ has))
      ];
      whole = e.whole;
    }

    pub ended_stands : Stands after new
    ended_stands = record { live = ended_matches }

-- ---- what is there was there before anything was forgotten

pub ends_from : (old s new : Held) (moving destroyed : List ℕ) → s.resources ≡ old.resources → s.shapes ≡ old.shapes → EndsResources s new moving destroyed → EndsResources old new moving destroyed
ends_from old s new moving destroyed resources shapes e = record {
  gone = e.gone;
  forms = λ i away. record {
    size = (e.forms i away).size ∙ ap (λ (l : List (ℕ × Placed)). option_map (λ (p : Placed). p.size) (placed_in l i)) resources;
    shape = (e.forms i away).shape ∙ ap (λ (l : List (ℕ × ImageInfo)). shape_in l i) shapes;
  };
  stays = λ i away still. e.stays i away still ∙ ap (λ (l : List (ℕ × Placed)). placed_in l i) resources;
}
