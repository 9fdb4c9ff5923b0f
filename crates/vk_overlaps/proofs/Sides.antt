-- Parts that overlap do so on a side of a plane.
use Rattle.std.proofs.Common.{◌≡◌, ℕ, ◌+◌, ◌<◌, List, Bool, true, false, ◌||◌, ◌&&◌, refl, sym, ap, ◌∙◌, inl, inr, ◌⊎◌, arith}
use Rattle.std.specs.Prelude.{nat_lt}
use Rattle.std.specs.List.{list_any, filter}
use Rattle.std.proofs.lemmas.Bool.{or_parts, or_from, or_left, true≢false, and_parts, cases_lt, ltb-true, lt-ltb}
use Rattle.vk_model.specs.Basics.{some_pair}
use Rattle.vk_overlaps.specs.declared.extents.Span.{Span}
use Rattle.vk_overlaps.specs.declared.extents.Extent.{Extent}
use Rattle.vk_overlaps.specs.declared.planes.Axis.{Axis}
use Rattle.vk_overlaps.specs.declared.planes.Axis.TheVariants.{Resources, Levels, Layers, Rows, Columns}
use Rattle.vk_overlaps.specs.declared.planes.Plane.{Plane}
use Rattle.vk_overlaps.specs.declared.planes.Side.TheVariants.{Before, After}
use Rattle.vk_overlaps.specs.Extents.{spans_meet, extents_meet, parts_overlap}
use Rattle.vk_overlaps.specs.Inner.Planes.{span_along, is_on}
use Rattle.vk_overlaps.proofs.Splits.{no_pair_kept, none_met_kept, no_pair, none_met}

-- parts that meet do so along each axis
all_along : (e f : Extent) → extents_meet e f ≡ true → (axis : Axis) → spans_meet (span_along axis e) (span_along axis f) ≡ true
all_along e f h = each
  where
    but_rows : (spans_meet e.resources f.resources && spans_meet e.levels f.levels && spans_meet e.layers f.layers && spans_meet e.columns f.columns ≡ true) × (spans_meet e.rows f.rows ≡ true)
    but_rows = and_parts (spans_meet e.resources f.resources && spans_meet e.levels f.levels && spans_meet e.layers f.layers && spans_meet e.columns f.columns) (spans_meet e.rows f.rows) h

    but_columns : (spans_meet e.resources f.resources && spans_meet e.levels f.levels && spans_meet e.layers f.layers ≡ true) × (spans_meet e.columns f.columns ≡ true)
    but_columns = and_parts (spans_meet e.resources f.resources && spans_meet e.levels f.levels && spans_meet e.layers f.layers) (spans_meet e.columns f.columns) but_rows.0

    but_layers : (spans_meet e.resources f.resources && spans_meet e.levels f.levels ≡ true) × (spans_meet e.layers f.layers ≡ true)
    but_layers = and_parts (spans_meet e.resources f.resources && spans_meet e.levels f.levels) (spans_meet e.layers f.layers) but_columns.0

    two : (spans_meet e.resources f.resources ≡ true) × (spans_meet e.levels f.levels ≡ true)
    two = and_parts (spans_meet e.resources f.resources) (spans_meet e.levels f.levels) but_layers.0

    each : (axis : Axis) → spans_meet (span_along axis e) (span_along axis f) ≡ true
    each Resources = two.0
    each Levels = two.1
    each Layers = but_layers.1
    each Rows = but_rows.1
    each Columns = but_columns.1

-- of spans that meet, either both begin before a number or both end after it
apart : (s t : Span) (at : ℕ) → spans_meet s t ≡ true → ((nat_lt s.start at ≡ true) × (nat_lt t.start at ≡ true)) ⊎ ((nat_lt at (s.start + s.size) ≡ true) × (nat_lt at (t.start + t.size) ≡ true))
apart s t at h =
    let a = and_parts (nat_lt 0 s.size && nat_lt 0 t.size && nat_lt s.start (t.start + t.size)) (nat_lt t.start (s.start + s.size)) h in
    let b = and_parts (nat_lt 0 s.size && nat_lt 0 t.size) (nat_lt s.start (t.start + t.size)) a.0 in
    let c = and_parts (nat_lt 0 s.size) (nat_lt 0 t.size) b.0 in
    let some : 0 < s.size = ltb-true _ _ c.0 in
    let others : 0 < t.size = ltb-true _ _ c.1 in
    let one : s.start < t.start + t.size = ltb-true _ _ b.1 in
    let other : t.start < s.start + s.size = ltb-true _ _ a.1 in
    elim (cases_lt s.start at) [
      | inl before ↦ elim (cases_lt t.start at) [
        | inl also ↦ inl (lt-ltb _ _ before, lt-ltb _ _ also)
        | inr not ↦ inr (lt-ltb _ _ (omega (arith, not, other)), lt-ltb _ _ (omega (arith, not, others)))
      ]
      | inr after ↦ inr (lt-ltb _ _ (omega (arith, after, some)), lt-ltb _ _ (omega (arith, after, one)))
    ]

covers : (plane : Plane) (e f : Extent) → extents_meet e f ≡ true → ((is_on plane Before e ≡ true) × (is_on plane Before f ≡ true)) ⊎ ((is_on plane After e ≡ true) × (is_on plane After f ≡ true))
covers plane e f h = apart (span_along plane.axis e) (span_along plane.axis f) plane.at (all_along e f h plane.axis)

module _ (plane : Plane) (written read : List Extent) where
  abbrev pub before : Bool
  before = parts_overlap (filter (is_on plane Before) written) (filter (is_on plane Before) read)

  abbrev pub after : Bool
  after = parts_overlap (filter (is_on plane After) written) (filter (is_on plane After) read)

  -- parts of which none overlap don't on a side
  none_on : (r : Extent → Bool) → parts_overlap written read ≡ false → parts_overlap (filter r written) (filter r read) ≡ false
  none_on r h =
      let parts = or_parts (some_pair extents_meet written) (list_any (λ w. list_any (extents_meet w) read) written) h in
      or_from (some_pair extents_meet (filter r written)) (list_any (λ w. list_any (extents_meet w) (filter r read)) (filter r written)) (no_pair_kept extents_meet r written parts.0) (none_met_kept extents_meet r written read parts.1)

  none_of : before ≡ false → after ≡ false → parts_overlap written read ≡ false
  none_of f g =
      let a = or_parts (some_pair extents_meet (filter (is_on plane Before) written)) (list_any (λ w. list_any (extents_meet w) (filter (is_on plane Before) read)) (filter (is_on plane Before) written)) f in
      let b = or_parts (some_pair extents_meet (filter (is_on plane After) written)) (list_any (λ w. list_any (extents_meet w) (filter (is_on plane After) read)) (filter (is_on plane After) written)) g in
      or_from (some_pair extents_meet written) (list_any (λ w. list_any (extents_meet w) read) written)
      (no_pair extents_meet (is_on plane Before) (is_on plane After) (covers plane) written a.0 b.0)
      (none_met extents_meet (is_on plane Before) (is_on plane After) (covers plane) written read a.1 b.1)

  -- parts overlap where they do on a side
  pub by_sides : parts_overlap written read ≡ (before || after)
  by_sides = go (parts_overlap written read) refl before refl after refl
    where
      go : (b : Bool) → parts_overlap written read ≡ b → (c : Bool) → before ≡ c → (d : Bool) → after ≡ d → b ≡ (c || d)
      go true e false f false g = absurd (true≢false (sym e ∙ none_of f g))
      go true e false f true g = refl
      go true e true f d g = refl
      go false e true f d g = absurd (true≢false (sym f ∙ none_on (is_on plane Before) e))
      go false e false f true g = absurd (true≢false (sym g ∙ none_on (is_on plane After) e))
      go false e false f false g = refl

-- what is found on one side, as a search says it
same_on : (r : Extent → Bool) (written read w u : List Extent) → w ≡ filter r written → u ≡ filter r read → parts_overlap w u ≡ parts_overlap (filter r written) (filter r read)
same_on r written read w u e f = ap (λ x. parts_overlap x u) e ∙ ap (parts_overlap (filter r written)) f

module _ (plane : Plane) (written read w u : List Extent) (found : Bool) (w-is : w ≡ filter (is_on plane Before) written) (u-is : u ≡ filter (is_on plane Before) read) (found-is : found ≡ parts_overlap w u) where
  -- parts that overlap before a plane
  pub found_before : found ≡ true → true ≡ parts_overlap written read
  found_before h = sym (by_sides plane written read ∙ or_left (before plane written read) (after plane written read) (sym (found-is ∙ same_on (is_on plane Before) written read w u w-is u-is) ∙ h))

  -- parts that don't: what is found after it is the answer
  pub found_after : found ≡ false → (v x : List Extent) → v ≡ filter (is_on plane After) written → x ≡ filter (is_on plane After) read → (other : Bool) → other ≡ parts_overlap v x → other ≡ parts_overlap written read
  found_after h v x v-is x-is other e =
      e ∙ same_on (is_on plane After) written read v x v-is x-is
      ∙ sym (by_sides plane written read ∙ ap (λ b. b || after plane written read) (sym (found-is ∙ same_on (is_on plane Before) written read w u w-is u-is) ∙ h))
