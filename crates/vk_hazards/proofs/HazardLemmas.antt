-- What is found of a pair of nodes, and of a point.
use Rattle.std.proofs.Common.{◌≡◌, ◌⊎◌, inl, inr, ⊎_elim, ℕ, ◌+◌, ◌<◌, ◌≤◌, List, [], ◌∷◌, ◌++◌, length, take, get_or, Option, Bool, true, false, not, ◌&&◌, Some, None, refl, sym, ap, ◌∙◌, subst, arith}
use Rattle.std.specs.Prelude.{Contains, nat_lt}
use Rattle.std.proofs.lemmas.Bool.{and_parts, and_from, false_from_ne_true, ltb-true, lt-ltb}
use Rattle.vk_model.specs.Trace.Point.{Past}
use Rattle.vk_model.specs.World.Bytes.{Byte, in_buffer, in_image}
use Rattle.vk_model.specs.Sync.Node.{Node, nodes}
use Rattle.vk_model.specs.Sync.Access.{precedes, is_in}
use Rattle.vk_model.specs.Sync.Edge.{is_host}
use Rattle.vk_model.proofs.Lists.Truths.{no, clash}
use Rattle.vk_model.proofs.Lists.Members.{member_passes, some_member, place_has, only_one}
use Rattle.std.proofs.lemmas.List.{take_more}
use Rattle.std.proofs.lemmas.List.Elements.{Contains-append_cases}
use Rattle.std.proofs.lemmas.Option.{slice_get-get_or}
use Rattle.vk_order.specs.declared.bytes.Byte.{Byte as ProgramByte}
use Rattle.vk_order.specs.Bytes.{byte_of}
use Rattle.vk_hazards.specs.declared.areas.Area.{Area}
use Rattle.vk_hazards.specs.declared.areas.Area.TheVariants as area
use Rattle.vk_hazards.specs.declared.areas.Texels.{Texels}
use Rattle.vk_hazards.specs.declared.hazards.Hazard.{Hazard}
use Rattle.vk_hazards.specs.Areas.{has, have, AreAreas}
use Rattle.vk_hazards.specs.Hazards.{is_missing, in_hazard, earlier_bytes, later_bytes}
use Rattle.vk_hazards.specs.declared.hazards.HazardFact.{HazardFact}
use Rattle.vk_hazards.specs.Latest.{IsFound, IsFactOf, IsLatest, IsBestFact, IsBest}
use Rattle.vk_hazards.specs.Inner.Pairs.{IsMissed}
use Rattle.vk_model.proofs.Sync.Numbers.{numbered, unique}
use Rattle.vk_hazards.proofs.AlikeLemmas.{below_or_from}
use Rattle.vk_hazards.proofs.AreaLemmas.{texel_parts}
use Rattle.vk_hazards.proofs.SeenAlike.{missing_same, all_texels_alike}

-- where nothing is missing at the first bytes of the layers of a box, nothing is at any of its bytes
pub none_of_texels : (past : Past) (h : Hazard) (x y : Node) (t : Texels) (layer : ℕ) → t.end_layer ≤ layer
    → ((k : ℕ) → t.first_layer ≤ k → k < layer → is_missing past h x y (in_image t.image t.level k t.left t.top 0) ≡ false)
    → (b : Byte) → has (area.Texels t) b ≡ true → is_missing past h x y b ≡ false
none_of_texels past h x y t layer end none (in_buffer c k) there = no there
none_of_texels past h x y t layer end none (in_image i a l u v p) there =
    let is = texel_parts t i a l u v p there in
    let here = none l is.layer_low (omega (arith, is.layer_high)) in
    missing_same past h x y (in_image i a l u v p) (in_image i a l t.left t.top 0) (all_texels_alike (nodes past) i a l u v p t.left t.top 0) refl
    ∙ ap (λ (n : ℕ). is_missing past h x y (in_image n a l t.left t.top 0)) (sym is.image) ∙ ap (λ (n : ℕ). is_missing past h x y (in_image t.image n l t.left t.top 0)) (sym is.level) ∙ here

-- ---- what is found among areas

module _ (past : Past) (h : Hazard) (x y : Node) where
  -- among the same bytes
  pub missed_as : (f g : Byte → Bool) → ((b : Byte) → f b ≡ g b) → (o : Option ProgramByte) → IsMissed past h x y f o → IsMissed past h x y g o
  missed_as f g same None is = λ b there. is b (same b ∙ there)
  missed_as f g same (Some b) is = (sym (same (byte_of b)) ∙ is.0, is.1)

  -- what was found, and that nothing was
  pub found_at : (f : Byte → Bool) (o : Option ProgramByte) (b : ProgramByte) → o ≡ Some b → IsMissed past h x y f o → (f (byte_of b) ≡ true) × (is_missing past h x y (byte_of b) ≡ true)
  found_at f o b e is = subst (λ (p : Option ProgramByte). IsMissed past h x y f p) e is

  pub none_at : (f : Byte → Bool) (o : Option ProgramByte) → o ≡ None → IsMissed past h x y f o → (b : Byte) → f b ≡ true → is_missing past h x y b ≡ false
  none_at f o e is = subst (λ (p : Option ProgramByte). IsMissed past h x y f p) e is

  -- one area of some has the byte
  pub one_has : (areas : List Area) (i : ℕ) (d : Area) (b : Byte) → i < length areas → has (get_or areas i d) b ≡ true → have areas b ≡ true
  one_has areas i d b lt there = member_passes (λ a. has a b) areas (get_or areas i d) (place_has areas i (get_or areas i d) (slice_get-get_or areas i d lt)) there

  -- the areas so far, and one more
  have_more : (areas : List Area) (i : ℕ) (d : Area) (b : Byte) → i < length areas → have (take (i + 1) areas) b ≡ true → (have (take i areas) b ≡ true) ⊎ (has (get_or areas i d) b ≡ true)
  have_more areas i d b lt there =
      let m = some_member (λ a. has a b) (take (i + 1) areas) there in
      let c : Contains (take i areas ++ get_or areas i d ∷ []) m.0 = subst (λ (l : List Area). Contains l m.0) (take_more areas i d lt) m.1 in
      ⊎_elim (λ early. inl (member_passes (λ a. has a b) (take i areas) m.0 early m.2))
      (λ late. inr (subst (λ (a : Area). has a b ≡ true) (sym (only_one (get_or areas i d) m.0 late)) m.2))
      (Contains-append_cases (take i areas) (get_or areas i d ∷ []) m.0 c)

  pub among_more : (g : Byte → Bool) (areas : List Area) (i : ℕ) (d : Area) → i < length areas
      → ((b : Byte) → (g b && have (take i areas) b) ≡ true → is_missing past h x y b ≡ false) → ((b : Byte) → (g b && has (get_or areas i d) b) ≡ true → is_missing past h x y b ≡ false)
      → (b : Byte) → (g b && have (take (i + 1) areas) b) ≡ true → is_missing past h x y b ≡ false
  among_more g areas i d lt before here b there =
      let parts = and_parts (g b) (have (take (i + 1) areas) b) there in
      ⊎_elim (λ e. before b (and_from _ _ parts.0 e)) (λ e. here b (and_from _ _ parts.0 e)) (have_more areas i d b lt parts.1)

  pub of_more : (g : Byte → Bool) (areas : List Area) (i : ℕ) (d : Area) → i < length areas
      → ((b : Byte) → (have (take i areas) b && g b) ≡ true → is_missing past h x y b ≡ false) → ((b : Byte) → (has (get_or areas i d) b && g b) ≡ true → is_missing past h x y b ≡ false)
      → (b : Byte) → (have (take (i + 1) areas) b && g b) ≡ true → is_missing past h x y b ≡ false
  of_more g areas i d lt before here b there =
      let parts = and_parts (have (take (i + 1) areas) b) (g b) there in
      ⊎_elim (λ e. before b (and_from _ _ e parts.1)) (λ e. here b (and_from _ _ e parts.1)) (have_more areas i d b lt parts.0)

  -- what is missing where both access a byte is a hazard
  pub found_of : (own areas : List Area) → AreAreas own (earlier_bytes past h x) → AreAreas areas (later_bytes past h y) → precedes x y ≡ true
      → (o : Option ProgramByte) → IsMissed past h x y (λ b. have own b && have areas b) o → IsFound past h x y o
  found_of own areas first second order None is = λ ordered b numbered. false_from_ne_true (in_hazard past h x y b) (λ e.
      let p = and_parts (is_in b (earlier_bytes past h x) && is_in b (later_bytes past h y)) (is_missing past h x y b) e in
      let q = and_parts (is_in b (earlier_bytes past h x)) (is_in b (later_bytes past h y)) p.0 in
      clash p.1 (is b (and_from _ _ (first.whole b numbered q.0) (second.whole b numbered q.1))))
  found_of own areas first second order (Some b) is =
      let p = and_parts (have own (byte_of b)) (have areas (byte_of b)) is.0 in
      (order, and_from _ _ (and_from _ _ (first.inside (byte_of b) p.0) (second.inside (byte_of b) p.1)) is.1)

  pub precedes_from : x.number < y.number → (is_host x.act && is_host y.act) ≡ false → precedes x y ≡ true
  precedes_from lt apart = and_from _ _ (lt-ltb x.number y.number lt) (ap not apart)

  pub both_of_host : (is_host x.act && is_host y.act) ≡ true → IsFound past h x y None
  both_of_host both = λ ordered. let apart = (and_parts (nat_lt x.number y.number) (not (is_host x.act && is_host y.act)) ordered).1 in clash apart (ap not both)

-- ---- the latest node in hazard

-- what isn't earlier isn't in hazard
pub not_earlier : (past : Past) (h : Hazard) (x y : Node) → y.number ≤ x.number → IsFound past h x y None
not_earlier past h x y le = λ ordered. let lt : x.number < y.number = ltb-true x.number y.number (and_parts (nat_lt x.number y.number) (not (is_host x.act && is_host y.act)) ordered).0 in absurd (omega arith)

-- ---- the latest of several

module _ (past : Past) (h : Hazard) (low high : ℕ) (y : Node) (there : Contains (nodes past) y) (is : y.number ≡ high) (le : low ≤ high) where
  -- what is known of the nodes below a number, and of the one that has it
  each : (P : Node → Type 0) → ((z : Node) → Contains (nodes past) z → low ≤ z.number → z.number < high → P z) → P y → (z : Node) → Contains (nodes past) z → low ≤ z.number → z.number < high + 1 → P z
  each P before here z cz lo hi = ⊎_elim
      (λ (early : z.number < high). before z cz lo early)
      (λ (late : high ≤ z.number). subst P (unique (nodes past) (numbered past) y z there cz (omega arith)) here)
      (below_or_from z.number high)

  pub keep : (f : HazardFact) → IsBestFact past h low high f → ((x : Node) → Contains (nodes past) x → f.earlier.number < x.number → IsFound past h x y None) → IsBestFact past h low (high + 1) f
  keep f best last = record {
    reported = best.reported;
    latest = λ x z cx cz lo hi lt. each (λ n. IsFound past h x n None) (λ n cn nlo nhi. best.latest x n cx cn nlo nhi lt) (last x cx lt) z cz lo hi;
  }

  pub take_other : (o : HazardFact) → IsFactOf past h y o → ((x z : Node) → Contains (nodes past) x → Contains (nodes past) z → low ≤ z.number → z.number < high → o.earlier.number < x.number → IsFound past h x z None) → IsBestFact past h low (high + 1) o
  take_other o fact before = record {
    reported = (y, there, omega arith, fact);
    latest = λ x z cx cz lo hi lt. each (λ n. IsFound past h x n None) (λ n cn nlo nhi. before x n cx cn nlo nhi lt) (fact.latest x cx lt) z cz lo hi;
  }

  pub after_none : (o : Option HazardFact) → IsBest past h low high None → IsLatest past h y o → IsBest past h low (high + 1) o
  after_none None best last = λ x z cx cz lo hi. each (λ n. IsFound past h x n None) (λ n cn nlo nhi. best x n cx cn nlo nhi) (last x cx) z cz lo hi
  after_none (Some o) best last = take_other o last (λ x z cx cz lo hi lt. best x z cx cz lo hi)

-- what is so of the nodes below a number is so of those below a smaller one
pub fewer : (past : Past) (h : Hazard) (low high less : ℕ) (o : Option HazardFact) → less ≤ high → IsBest past h low high o → IsBest past h low less o
fewer past h low high less None le best = λ x y cx cy lo hi. best x y cx cy lo (omega arith)
fewer past h low high less (Some f) le best = record { reported = best.reported; latest = λ x y cx cy lo hi lt. best.latest x y cx cy lo (omega arith) lt }
