-- Bytes among others, and what areas have.
use Rattle.std.proofs.Common.{◌≡◌, ⊎_elim, ℕ, ◌<◌, List, [], ◌∷◌, ◌++◌, Bool, true, false, ◌||◌, Some, refl, sym, ◌∙◌, subst, arith}
use Rattle.std.specs.Prelude.{Contains}
use Rattle.std.specs.List.{flat_map}
use Rattle.std.proofs.lemmas.Bool.{eq-eqb, or_left, or_right}
use Rattle.std.proofs.lemmas.List.Folds.{list_any-append}
use Rattle.std.proofs.lemmas.List.Elements.{Contains-append_left, Contains-append_right, Contains-append_cases}
use Rattle.std.proofs.Math.Bool.{or-false}
use Rattle.vk_model.specs.Basics.{below}
use Rattle.vk_model.specs.World.Bytes.{Byte, in_buffer, in_image, same_byte}
use Rattle.vk_model.specs.World.ByteWrites.{ByteWrite}
use Rattle.vk_model.specs.Sync.Access.{is_in, origin, origins, targets}
use Rattle.vk_model.proofs.Lists.Truths.{no}
use Rattle.vk_model.proofs.Lists.Members.{none_in, member_passes, some_member, map_has, mapped_from, flat_from, flat_has, chosen_has, chosen_from, range_from}
use Rattle.vk_model.proofs.World.BytePlaces.{buffer_same, image_same, is_in_from, is_in_of}
use Rattle.vk_hazards.specs.declared.areas.Area.{Area}
use Rattle.vk_hazards.specs.Areas.{has, have, AreAreas, IsNumbered}

-- ---- what areas have

one_has : (a : Area) (b : Byte) → have (a ∷ []) b ≡ true → has a b ≡ true
one_has a b h = sym (or-false (has a b)) ∙ h

of_one : (a : Area) (b : Byte) → has a b ≡ true → have (a ∷ []) b ≡ true
of_one a b h = or-false (has a b) ∙ h

-- one area has these bytes
pub one_area : (a : Area) (bs : List Byte) → ((b : Byte) → has a b ≡ true → Contains bs b) → ((b : Byte) → IsNumbered b → Contains bs b → has a b ≡ true) → AreAreas (a ∷ []) bs
one_area a bs inside whole = record {
  inside = λ b h. is_in_of b bs (inside b (one_has a b h));
  whole = λ b n h. of_one a b (whole b n (is_in_from b bs h));
}

-- no area has bytes without numbers alone
pub no_area : (bs : List Byte) → ((b : Byte) → IsNumbered b → Contains bs b → false ≡ true) → AreAreas [] bs
no_area bs none = record { inside = λ b h. no h; whole = λ b n h. none b n (is_in_from b bs h) }

pub areas_none : AreAreas [] []
areas_none = no_area [] (λ b n c. absurd (none_in b c))

-- the same bytes in another list
pub areas_same : (areas : List Area) (bs cs : List Byte) → ((b : Byte) → Contains bs b → Contains cs b) → ((b : Byte) → Contains cs b → Contains bs b) → AreAreas areas bs → AreAreas areas cs
areas_same areas bs cs to from are = record {
  inside = λ b h. is_in_of b cs (to b (is_in_from b bs (are.inside b h)));
  whole = λ b n h. are.whole b n (is_in_of b bs (from b (is_in_from b cs h)));
}

-- areas of some bytes, and areas of others
pub areas_append : (xs ys : List Area) (bs cs : List Byte) → AreAreas xs bs → AreAreas ys cs → AreAreas (xs ++ ys) (bs ++ cs)
areas_append xs ys bs cs first second = record { inside = inside; whole = whole }
  where
    either : (b : Byte) (p q : Bool) → (p || q) ≡ true → (p ≡ true → Contains (bs ++ cs) b) → (q ≡ true → Contains (bs ++ cs) b) → Contains (bs ++ cs) b
    either b true q h f g = f refl
    either b false q h f g = g h

    inside : (b : Byte) → have (xs ++ ys) b ≡ true → is_in b (bs ++ cs) ≡ true
    inside b h = is_in_of b (bs ++ cs) (either b (have xs b) (have ys b) (sym (list_any-append (λ a. has a b) xs ys) ∙ h)
        (λ e. Contains-append_left bs cs b (is_in_from b bs (first.inside b e)))
        (λ e. Contains-append_right bs cs b (is_in_from b cs (second.inside b e))))

    whole : (b : Byte) → IsNumbered b → is_in b (bs ++ cs) ≡ true → have (xs ++ ys) b ≡ true
    whole b n h = list_any-append (λ a. has a b) xs ys ∙ ⊎_elim
        (λ c. or_left (have xs b) (have ys b) (first.whole b n (is_in_of b bs c)))
        (λ c. or_right (have xs b) (have ys b) (second.whole b n (is_in_of b cs c)))
        (Contains-append_cases bs cs b (is_in_from b (bs ++ cs) h))

-- ---- what byte writes read and write

pub origins_from : (ms : List ByteWrite) (b : Byte) → Contains (origins ms) b → (m : ByteWrite) × Contains ms m × (origin m.source ≡ Some b)
origins_from ms b c = chosen_from (λ m. origin m.source) ms b c

pub origins_has : (ms : List ByteWrite) (m : ByteWrite) (b : Byte) → Contains ms m → origin m.source ≡ Some b → Contains (origins ms) b
origins_has ms m b c e = chosen_has (λ m. origin m.source) ms m b c e

pub targets_from : (ms : List ByteWrite) (b : Byte) → Contains (targets ms) b → (m : ByteWrite) × Contains ms m × (m.to ≡ b)
targets_from ms b c = mapped_from (λ m. m.to) ms b c

pub targets_has : (ms : List ByteWrite) (m : ByteWrite) → Contains ms m → Contains (targets ms) m.to
targets_has ms m c = map_has (λ m. m.to) ms m c

-- what each of some regions reads or writes, all do
module _ {G : Type 0} (f : G → List ByteWrite) (g : G → List Byte) (gs : List G) where
  pub all_origins : ((r : G) (b : Byte) → Contains (origins (f r)) b → Contains (g r) b) → ((r : G) (b : Byte) → Contains (g r) b → Contains (origins (f r)) b)
      → (areas : List Area) → AreAreas areas (flat_map g gs) → AreAreas areas (origins (flat_map f gs))
  all_origins to from areas are = areas_same areas (flat_map g gs) (origins (flat_map f gs))
      (λ b c. let x = flat_from g gs b c in let m = origins_from (f x.0) b (from x.0 b x.2) in origins_has (flat_map f gs) m.0 b (flat_has f gs x.0 m.0 x.1 m.1) m.2)
      (λ b c. let m = origins_from (flat_map f gs) b c in let x = flat_from f gs m.0 m.1 in flat_has g gs x.0 b x.1 (to x.0 b (origins_has (f x.0) m.0 b x.2 m.2))) are

  pub all_targets : ((r : G) (b : Byte) → Contains (targets (f r)) b → Contains (g r) b) → ((r : G) (b : Byte) → Contains (g r) b → Contains (targets (f r)) b)
      → (areas : List Area) → AreAreas areas (flat_map g gs) → AreAreas areas (targets (flat_map f gs))
  all_targets to from areas are = areas_same areas (flat_map g gs) (targets (flat_map f gs))
      (λ b c. let x = flat_from g gs b c in let m = targets_from (f x.0) b (from x.0 b x.2) in
      subst (λ (d : Byte). Contains (targets (flat_map f gs)) d) m.2 (targets_has (flat_map f gs) m.0 (flat_has f gs x.0 m.0 x.1 m.1)))
      (λ b c. let m = targets_from (flat_map f gs) b c in let x = flat_from f gs m.0 m.1 in
      flat_has g gs x.0 b x.1 (to x.0 b (subst (λ (d : Byte). Contains (targets (f x.0)) d) m.2 (targets_has (f x.0) m.0 x.2)))) are
