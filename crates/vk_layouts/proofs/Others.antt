-- Whether a range has another layout in a world, by the layouts that are kept of the image. Other crates cite it.
use Rattle.std.proofs.Common.{◌≡◌, ◌⊎◌, ◌↔◌, inl, inr, ℕ, ◌+◌, ◌-◌, ◌<◌, ◌≤◌, [], Bool, true, false, not, ◌==◌, length, refl, sym, ap, ◌∙◌, IsTrue, arith, eq-eqb, eqb-true}
use Rattle.std.specs.Prelude.{slice_index_or}
use Rattle.std.specs.List.{list_any}
use Rattle.std.proofs.lemmas.Bool.{cases_lt, not-true, or_parts, or_cases}
use Rattle.std.proofs.lemmas.Bool.Decides.{nat_tests}
use Rattle.std.proofs.lemmas.List.{get_or_past}
use Rattle.vk_model.specs.declared.command.SubresourceRange.{SubresourceRange}
use Rattle.vk_model.specs.Basics.{below}
use Rattle.vk_model.specs.World.Bytes.{World}
use Rattle.vk_model.specs.Rules.Layouts.{has_other_layout}
use Rattle.vk_model.proofs.Lists.Members.{none_passes_any, range_from}
use Rattle.vk_model.proofs.Lists.Pairs.{none_at}
use Rattle.vk_model.proofs.Lists.Truths.{bool_same, clash}
use Rattle.vk_layouts.specs.ImageLayouts.{ImageLayouts, layout_at, AreLayouts, HaveLayers}
use Rattle.vk_layouts.specs.Inner.Ranges.{has_range, may_be_in, AreIn}

-- ---- in a world

pub none_other : (w : World) (i : ℕ) (r : SubresourceRange) (l : ℕ) → ((k m : ℕ) → k < r.levels → m < r.layers → w.layout i (r.first_level + k) (r.first_layer + m) ≡ l) → has_other_layout w i r l ≡ false
none_other w i r l all =
    none_passes_any _ (below r.levels) (λ k ck. none_passes_any _ (below r.layers) (λ m cm.
    let lk = (range_from 0 r.levels k ck).1 in
    let lm = (range_from 0 r.layers m cm).1 in
    let e = eq-eqb (w.layout i (r.first_level + k) (r.first_layer + m)) l (all k m (omega arith) (omega arith)) in
    ap not e))

pub no_other : (w : World) (i : ℕ) (r : SubresourceRange) (l : ℕ) → has_other_layout w i r l ≡ false → (k m : ℕ) → k < r.levels → m < r.layers → w.layout i (r.first_level + k) (r.first_layer + m) ≡ l
no_other w i r l none k m lk lm =
    let row = none_at (λ k. list_any (λ m. not (w.layout i (r.first_level + k) (r.first_layer + m) == l)) (below r.layers)) 0 r.levels k none (omega arith) (omega arith) in
    let cell = none_at (λ m. not (w.layout i (r.first_level + k) (r.first_layer + m) == l)) 0 r.layers m row (omega arith) (omega arith) in
    grind (arith, nat_tests)

-- ---- what the image doesn't have

pub outside : (s : ImageLayouts) → HaveLayers s.layers s.levels → (level layer : ℕ) → (length s.levels ≤ level) ⊎ (s.layers ≤ layer) → layout_at s level layer ≡ 0
outside s have level layer (inl past) = rw (get_or_past s.levels level [] past) refl
outside s have level layer (inr past) = elim (cases_lt level (length s.levels)) [
  | inl lt ↦ (let all = have level [] lt in get_or_past (slice_index_or s.levels level []) layer 0 (omega arith))
  | inr le ↦ rw (get_or_past s.levels level [] le) refl
]

-- ---- what is kept, and a world

-- a range with a subresource that the image doesn't have
lacks : (s : ImageLayouts) (r : SubresourceRange) (k m : ℕ) → k < r.levels → m < r.layers → (length s.levels ≤ r.first_level + k) ⊎ (s.layers ≤ r.first_layer + m) → IsTrue (has_range s r) → ⊥
lacks s r k m lk lm (inl past) has = grind (arith, nat_tests)
lacks s r k m lk lm (inr past) has = grind (arith, nat_tests)

-- a subresource that the image doesn't have is in the layout, if that is UNDEFINED or the image has all
beyond : (s : ImageLayouts) (r : SubresourceRange) (l : ℕ) → HaveLayers s.layers s.levels → IsTrue (may_be_in s r l) → (k m : ℕ) → k < r.levels → m < r.layers → (length s.levels ≤ r.first_level + k) ⊎ (s.layers ≤ r.first_layer + m) → layout_at s (r.first_level + k) (r.first_layer + m) ≡ l
beyond s r l have may k m lk lm past = elim (or_cases (l == 0) (has_range s r) may) [
  | inl undefined ↦ outside s have (r.first_level + k) (r.first_layer + m) past ∙ sym (eqb-true l 0 undefined)
  | inr has ↦ absurd (lacks s r k m lk lm past has)
]

all_in : (s : ImageLayouts) (r : SubresourceRange) (l : ℕ) → HaveLayers s.layers s.levels → AreIn s r l → IsTrue (may_be_in s r l) → (k m : ℕ) → k < r.levels → m < r.layers → layout_at s (r.first_level + k) (r.first_layer + m) ≡ l
all_in s r l have are rest k m lk lm = elim (cases_lt (r.first_level + k) (length s.levels)) [
  | inl lt ↦ (elim (cases_lt (r.first_layer + m) s.layers) [
    | inl lt' ↦ are (r.first_level + k) (r.first_layer + m) (grind (arith, nat_tests)) (grind (arith, nat_tests)) lt lt'
    | inr le ↦ beyond s r l have rest k m lk lm (inr le)
  ])
  | inr le ↦ beyond s r l have rest k m lk lm (inl le)
]

-- from no other layout in the world
from_none : (s : ImageLayouts) (w : World) (i : ℕ) (r : SubresourceRange) (l : ℕ) → AreLayouts s (w.layout i) → has_other_layout w i r l ≡ false → AreIn s r l
from_none s w i r l shows none = λ level layer in_levels in_layers lt lt'.
    let is = no_other w i r l none (level - r.first_level) (layer - r.first_layer) (grind (arith, nat_tests)) (grind (arith, nat_tests)) in
    let e : r.first_level + (level - r.first_level) ≡ level = grind (arith, nat_tests) in
    let e' : r.first_layer + (layer - r.first_layer) ≡ layer = grind (arith, nat_tests) in
    shows level layer ∙ (rw (e, e') at is)

-- whether the range has no other layout is whether what the image has of it is in the layout
pub answered : (s : ImageLayouts) (w : World) (i : ℕ) (r : SubresourceRange) (l : ℕ) (b : Bool) → HaveLayers s.layers s.levels → AreLayouts s (w.layout i) → IsTrue (may_be_in s r l) → IsTrue b ↔ AreIn s r l → b ≡ not (has_other_layout w i r l)
answered s w i r l b have shows rest is =
    bool_same b (not (has_other_layout w i r l))
    (λ yes. ap not (none_other w i r l (λ k m lk lm. sym (shows (r.first_level + k) (r.first_layer + m)) ∙ all_in s r l have (is.0 yes) rest k m lk lm)))
    (λ none. is.1 (from_none s w i r l shows (not-true (has_other_layout w i r l) none)))

-- the last subresource of a range of which the image doesn't have all
last_beyond : (s : ImageLayouts) (r : SubresourceRange) → has_range s r ≡ false → (0 < r.levels) × (0 < r.layers) × ((length s.levels ≤ r.first_level + (r.levels - 1)) ⊎ (s.layers ≤ r.first_layer + (r.layers - 1)))
last_beyond s r lacking =
    let some_level : 0 < r.levels = grind (arith, nat_tests) in
    let some_layer : 0 < r.layers = grind (arith, nat_tests) in (
      some_level,
      some_layer,
      elim (cases_lt (length s.levels) (r.first_level + r.levels)) [
        | inl past ↦ inl (omega arith)
        | inr le ↦ inr (grind (arith, nat_tests))
      ],
    )

-- a range of which the image doesn't have all, in a layout that isn't UNDEFINED
pub refuted : (s : ImageLayouts) (w : World) (i : ℕ) (r : SubresourceRange) (l : ℕ) → HaveLayers s.layers s.levels → AreLayouts s (w.layout i) → may_be_in s r l ≡ false → false ≡ not (has_other_layout w i r l)
refuted s w i r l have shows lacking = go (has_other_layout w i r l) refl
  where
    go : (b : Bool) → has_other_layout w i r l ≡ b → false ≡ not b
    go true e = refl
    go false e =
        let parts = or_parts (l == 0) (has_range s r) lacking in
        let last = last_beyond s r parts.1 in
        let some_level = last.0 in
        let some_layer = last.1 in
        let is = no_other w i r l e (r.levels - 1) (r.layers - 1) (omega arith) (omega arith) in
        absurd (clash (eq-eqb l 0 (sym is ∙ sym (shows _ _) ∙ outside s have _ _ last.2)) parts.0)
