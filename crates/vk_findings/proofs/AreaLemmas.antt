-- What is found among areas is so of what they are made of.
use Rattle.std.proofs.Common.{◌≡◌, ℕ, ◌<◌, List, map, Bool, true, false, cond, ◌&&◌, Option, Some, None, refl, sym, ap, ◌∙◌, subst, arith}
use Rattle.std.specs.Prelude.{◌+◌, slice_get, option_map, nat_eq, nat_le, nat_lt, ◌==◌}
use Rattle.std.specs.List.{list_any}
use Rattle.std.proofs.lemmas.Option.{slice_get-map}
use Rattle.std.proofs.lemmas.Bool.{or_left, or_right, and_parts, ltb-true}
use Rattle.vk_model.specs.declared.command.Element.{Element}
use Rattle.vk_model.specs.declared.command.Element.TheVariants as element
use Rattle.vk_model.specs.Basics.{some_pair}
use Rattle.vk_model.specs.World.Areas.{Area, Subresources, Bytes, areas_meet, subresources_meet}
use Rattle.vk_model.specs.World.Ownership.{is_transition}
use Rattle.vk_model.specs.Rules.Ranges.{transitions_meet, writes_overlap}
use Rattle.vk_overlaps.proofs.ListPairs.{pair_map, pair_same}
use Rattle.vk_findings.specs.declared.commons.Common.{Common}
use Rattle.vk_findings.specs.declared.commons.Common.TheVariants as common
use Rattle.vk_findings.specs.declared.finder.Pair.{Pair}
use Rattle.vk_findings.specs.declared.pairs.Overlap.{Overlap}
use Rattle.vk_findings.specs.declared.pairs.Part.{Part}
use Rattle.vk_findings.specs.declared.pairs.Part.TheVariants as part
use Rattle.vk_findings.specs.Commons.{IsIn, IsNamedBy, IsId, AreMet}
use Rattle.vk_findings.specs.Parts.{AreMeetingAreas, AreEqualIds}
use Rattle.vk_findings.specs.Inner.Found.{IsRising, IsOfElements, IsOfIds}
use Rattle.vk_findings.specs.Inner.Areas.{transition_area, id_area}
use Rattle.vk_findings.proofs.Walks.{pair_made, cross_made}
use Rattle.std.proofs.Math.Bool.{and-true}

-- an item of a list that is made of another comes from an item of that
item_from : {A B : Type 0} (f : A → B) (xs : List A) (k : ℕ) (y : B) → slice_get (map f xs) k ≡ Some y → (x : A) × (slice_get xs k ≡ Some x) × (f x ≡ y)
item_from {A} {B} f xs k y is = go (slice_get xs k) refl (sym (slice_get-map f xs k) ∙ is)
  where
    go : (o : Option A) → slice_get xs k ≡ o → option_map f o ≡ Some y → (x : A) × (slice_get xs k ≡ Some x) × (f x ≡ y)
    go None e h = absurd cc
    go (Some x) e h = (x, e, cc)

module _ {A : Type 0} (f : A → Area) (test : A → A → Bool) (same : (x y : A) → areas_meet (f x) (f y) ≡ test x y) where
  -- pairs of areas are pairs of what they are made of
  pub pairs_of : (xs : List A) → some_pair areas_meet (map f xs) ≡ some_pair test xs
  pairs_of xs = pair_map areas_meet f xs ∙ pair_same _ test xs same

  pub met_of : (Has : A → Common → Type 0) (xs : List A) (i j : ℕ) (c d : Common) → ((x : A) → IsIn (f x) c → Has x d) → AreMet areas_meet IsIn (map f xs) (map f xs) i j c → AreMet test Has xs xs i j d
  met_of Has xs i j c d has m =
      let one = item_from f xs i m.one m.one_is in
      let other = item_from f xs j m.other m.other_is in
      record {
        one = one.0;
        other = other.0;
        one_is = one.1;
        other_is = other.1;
        meet = sym (same one.0 other.0) ∙ ap (λ a. areas_meet a (f other.0)) one.2 ∙ ap (areas_meet m.one) other.2 ∙ m.meet;
        in_one = has one.0 (subst (λ (a : Area). IsIn a c) (sym one.2) m.in_one);
        in_other = has other.0 (subst (λ (a : Area). IsIn a c) (sym other.2) m.in_other);
      }

-- ---- transitions

-- two elements meet as transitions where their areas do
pub transitions : (x y : Element) → areas_meet (transition_area x) (transition_area y) ≡ transitions_meet x y
transitions (element.Memory d) (element.Memory e) = refl
transitions (element.Memory d) (element.Buffer e) = refl
transitions (element.Memory d) (element.Image e) = nothing (is_transition e) where
  nothing : (b : Bool) → areas_meet (Bytes 0 0 0) (cond b (Subresources e.image e.range) (Bytes 0 0 0)) ≡ false
  nothing true = refl
  nothing false = refl
transitions (element.Buffer d) (element.Memory e) = refl
transitions (element.Buffer d) (element.Buffer e) = refl
transitions (element.Buffer d) (element.Image e) = nothing (is_transition e) where
  nothing : (b : Bool) → areas_meet (Bytes 0 0 0) (cond b (Subresources e.image e.range) (Bytes 0 0 0)) ≡ false
  nothing true = refl
  nothing false = refl
transitions (element.Image e) (element.Memory d) = nothing (is_transition e) where
  nothing : (b : Bool) → areas_meet (cond b (Subresources e.image e.range) (Bytes 0 0 0)) (Bytes 0 0 0) ≡ false
  nothing true = refl
  nothing false = refl
transitions (element.Image e) (element.Buffer d) = nothing (is_transition e) where
  nothing : (b : Bool) → areas_meet (cond b (Subresources e.image e.range) (Bytes 0 0 0)) (Bytes 0 0 0) ≡ false
  nothing true = refl
  nothing false = refl
transitions (element.Image e) (element.Image f) = go (is_transition e) (is_transition f) where
  out : (p q : Bool) (r s : Bool) → (q && r ≡ false) → (p && q && r && s) ≡ false
  out true true true s h = absurd cc
  out true true false s h = refl
  out true false r s h = refl
  out false q r s h = refl

  go : (a b : Bool) → areas_meet (cond a (Subresources e.image e.range) (Bytes 0 0 0)) (cond b (Subresources f.image f.range) (Bytes 0 0 0)) ≡ (e.image == f.image && a && b && subresources_meet e.range f.range)
  go false false = sym (out (e.image == f.image) false false (subresources_meet e.range f.range) refl)
  go false true = sym (out (e.image == f.image) false true (subresources_meet e.range f.range) refl)
  go true false = sym (out (e.image == f.image) true false (subresources_meet e.range f.range) refl)
  go true true = both (e.image == f.image) where
    both : (p : Bool) → (p && subresources_meet e.range f.range) ≡ (p && true && true && subresources_meet e.range f.range)
    both true = refl
    both false = refl

-- no bytes have none
nothing_in : (c : Common) → IsIn (Bytes 0 0 0) c → ⊥
nothing_in (common.Byte b at) h = let lt : at < 0 + 0 = ltb-true at (0 + 0) (and_parts (nat_le 0 at) (nat_lt at (0 + 0)) h.1).1 in omega (arith, lt)
nothing_in (common.Texel i level layer x y) h = h
nothing_in (common.Subresource i level layer) h = h
nothing_in (common.Id id) h = h

-- what the area of an element has, the element names
pub named : (c : Common) (x : Element) → IsIn (transition_area x) c → IsNamedBy x c
named c (element.Memory d) h = absurd (nothing_in c h)
named c (element.Buffer e) h = absurd (nothing_in c h)
named c (element.Image e) h = go (is_transition e) h where
  go : (b : Bool) → IsIn (cond b (Subresources e.image e.range) (Bytes 0 0 0)) c → IsIn (Subresources e.image e.range) c
  go true h = h
  go false h = absurd (nothing_in c h)

-- ---- ids

pub ids : (a b : ℕ) → areas_meet (id_area a) (id_area b) ≡ nat_eq a b
ids a b = and-true (nat_eq a b)

-- ---- areas

-- where two areas are reported, some overlap
pub areas_reported : (written read : List Area) (one other : Part) (c : Common) → AreMeetingAreas written read one other c → writes_overlap written read ≡ true
areas_reported written read (part.Written i) (part.Written j) c reported =
    or_left (some_pair areas_meet written) (list_any (λ w. list_any (areas_meet w) read) written) (pair_made areas_meet written i j reported.1.one reported.1.other reported.1.one_is reported.1.other_is reported.0 reported.1.meet)
areas_reported written read (part.Written i) (part.Read j) c reported =
    or_right (some_pair areas_meet written) (list_any (λ w. list_any (areas_meet w) read) written) (cross_made areas_meet written read i j reported.one reported.other reported.one_is reported.other_is reported.meet)
areas_reported written read (part.Written i) (part.Transition j) c reported = absurd reported
areas_reported written read (part.Written i) (part.Listed j) c reported = absurd reported
areas_reported written read (part.Read i) other c reported = absurd reported
areas_reported written read (part.Transition i) other c reported = absurd reported
areas_reported written read (part.Listed i) other c reported = absurd reported

-- ---- what pairs of areas answer

pub of_transitions : (es : List Element) (areas : List Area) (b : Bool) → areas ≡ map transition_area es → b ≡ some_pair areas_meet areas → b ≡ some_pair transitions_meet es
of_transitions es areas b laid is = is ∙ ap (some_pair areas_meet) laid ∙ pairs_of transition_area transitions_meet transitions es

pub of_ids : (listed : List ℕ) (areas : List Area) (b : Bool) → areas ≡ map id_area listed → b ≡ some_pair areas_meet areas → b ≡ some_pair nat_eq listed
of_ids listed areas b laid is = is ∙ ap (some_pair areas_meet) laid ∙ pairs_of id_area nat_eq ids listed

pub transitions_reported : (es : List Element) (areas : List Area) (q : Pair) (o : Overlap) → areas ≡ map transition_area es → IsRising areas q → o ≡ record { one = part.Transition q.one; other = part.Transition q.other; common = q.common } → IsOfElements es o
transitions_reported es areas q o laid rising is =
    let r = subst (λ (l : List Area). IsRising l q) laid rising in
    subst (IsOfElements es) (sym is) (r.0, met_of transition_area transitions_meet transitions IsNamedBy es q.one q.other q.common q.common (named q.common) r.1)

pub ids_reported : (listed : List ℕ) (areas : List Area) (q : Pair) (o : Overlap) → areas ≡ map id_area listed → IsRising areas q → o.one ≡ part.Listed q.one → o.other ≡ part.Listed q.other → ((id : ℕ) → IsIn (id_area id) q.common → IsId id o.common) → IsOfIds listed o
ids_reported listed areas q o laid rising one other has =
    let r = subst (λ (l : List Area). IsRising l q) laid rising in
    subst (λ (p : Part). AreEqualIds listed p o.other o.common) (sym one)
    (subst (λ (p : Part). AreEqualIds listed (part.Listed q.one) p o.common) (sym other) (r.0, met_of id_area nat_eq ids IsId listed q.one q.other q.common o.common has r.1))
