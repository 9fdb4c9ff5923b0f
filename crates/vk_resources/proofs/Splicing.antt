-- Bytes that are put into a buffer, and what all resources have then.
use Rattle.std.proofs.Common.{◌≡◌, ◌⊎◌, inl, inr, ℕ, ◌+◌, ◌-◌, ◌<◌, ◌≤◌, List, length, Bool, true, false, eqb, nat_lt, refl, ap, sym, ◌∙◌, subst, arith, slice_index, Option, Some, None, if◌then◌else◌}
use Rattle.std.proofs.lemmas.Bool.{eqb-true, eqb-false, lt-ltb, cases_lt}
use Rattle.std.specs.Prelude.{option_map}
use Rattle.vk_map_cache.specs.Holdings.{given}
use Rattle.vk_map_cache.proofs.CellLemmas.{given-inside, given-outside}
use Rattle.vk_model.specs.Run.Caches.{Cell}
use Rattle.vk_model.specs.Run.CachedRuns.{after_host_write}
use Rattle.vk_heap.specs.Region.{splice}
use Rattle.vk_heap.proofs.SpliceLemmas.{length-splice, splice-in, splice-out}
use Rattle.vk_memory.specs.MemoryState.{region_of, with_region}
use Rattle.vk_memory.proofs.LiveObjects.{region_of-same, type_of-same}
use Rattle.vk_model.specs.World.Bytes.{Byte, in_buffer, in_image, resource_at}
use Rattle.vk_model.specs.World.ByteWrites.{Source}
use Rattle.vk_transfer.specs.Ran.{HaveRun}
use Rattle.vk_transfer.specs.Ran as ran
use Rattle.vk_transfer.proofs.Ranges.{writes, made_ran}
use Rattle.vk_resources.specs.declared.resources.Placed.{Placed}
use Rattle.vk_resources.specs.Held.{Held, IsApart, IsCaching, IsInside, AreShaped, placed, shape_of, lying_in, byte_at, IsThere, HasCell}
use Rattle.vk_resources.specs.Rest.{KeepsRest}
use Rattle.vk_resources.specs.Inner.Steps.{KeepsPlaces, is_of, changed_of, HasChanged}
use Rattle.vk_image_transfer.specs.Held.{byte_held}
use Rattle.vk_resources.proofs.Placing.{inside_of}
use Rattle.vk_resources.proofs.Lying.{changed_apart, changed_keeps, changed_other}
use Rattle.vk_resources.proofs.Keeping.{rewritten_rest, buffer_kept}
use Rattle.vk_resources.proofs.CachedBytes.{caching_typed}

module _ (s : Held) (apart : IsApart s.memory s.backed s.resources) (shaped : AreShaped s.resources s.shapes) (b : ℕ) (p : Placed) (here : placed s b ≡ Some p) (flat_is : shape_of s b ≡ None) (at : ℕ) (bytes : List ℕ) (fits : at + length bytes ≤ p.size) where
  abbrev pub region : List ℕ
  region = region_of s.memory p.object

  abbrev pub new : List ℕ
  new = splice region (p.offset + at) bytes

  abbrev pub spliced : Held
  spliced = record s { memory = with_region s.memory p.object new }

  inside : IsInside s.memory p
  inside = inside_of s.memory s.backed s.resources apart b p here

  room : p.offset + at + length bytes ≤ length region
  room = let has = inside.room in omega (arith, has, fits)

  long : length new ≡ length region
  long = length-splice region bytes (p.offset + at) room

  outside : (k : ℕ) → (k < p.offset) ⊎ (p.offset + p.size ≤ k) → slice_index new k ≡ slice_index region k
  outside k out = splice-out region bytes (p.offset + at) room k (wider out)
    where
      wider : (k < p.offset) ⊎ (p.offset + p.size ≤ k) → (k < p.offset + at) ⊎ (p.offset + at + length bytes ≤ k)
      wider (inl lt) = inl (omega (arith, lt))
      wider (inr le) = inr (omega (arith, le, fits))

  now : region_of spliced.memory p.object ≡ new
  now = region_of-same s.memory p.object new inside.live

  pub spliced_apart : IsApart spliced.memory spliced.backed spliced.resources
  spliced_apart = changed_apart s apart shaped b p here new long outside

  pub spliced_keeps : KeepsPlaces s spliced
  spliced_keeps = changed_keeps s apart shaped b p here new long outside

  pub spliced_caching : IsCaching s.memory s.resources s.cache → IsCaching spliced.memory spliced.resources spliced.cache
  spliced_caching c = caching_typed s.memory spliced.memory s.resources s.cache (λ i q here. type_of-same s.memory p.object q.object new inside.live) c

  pub spliced_rest : KeepsRest s spliced (is_of b)
  spliced_rest = rewritten_rest s b p inside.live new long s.cache (buffer_kept s b p here flat_is new outside)

  -- ---- bytes of the buffer itself

  pub here_at : (k : ℕ) → byte_at spliced (in_buffer b k) ≡ (if nat_lt k p.size then slice_index new (p.offset + k) else 0)
  here_at k = rw (here, flat_is) (by_place (nat_lt k p.size) (region_of spliced.memory p.object) ∙ ap (λ (r : List ℕ). if nat_lt k p.size then slice_index r (p.offset + k) else 0) now)
    where
      by_place : (t : Bool) (r : List ℕ) → (elim (if t then Some k else None) [ None ↦ 0 | Some j ↦ slice_index r (p.offset + j) ]) ≡ (if t then slice_index r (p.offset + k) else 0)
      by_place true r = refl
      by_place false r = refl

  was_at : (k : ℕ) → byte_at s (in_buffer b k) ≡ (if nat_lt k p.size then slice_index region (p.offset + k) else 0)
  was_at k = rw (here, flat_is) (by_place (nat_lt k p.size) region)
    where
      by_place : (t : Bool) (r : List ℕ) → (elim (if t then Some k else None) [ None ↦ 0 | Some j ↦ slice_index r (p.offset + j) ]) ≡ (if t then slice_index r (p.offset + k) else 0)
      by_place true r = refl
      by_place false r = refl

  pub spliced_in : (j : ℕ) → j < length bytes → byte_at spliced (in_buffer b (at + j)) ≡ slice_index bytes j
  spliced_in j lt =
      let place : p.offset + (at + j) - (p.offset + at) ≡ j = omega arith in
      here_at (at + j) ∙ rw (lt-ltb (at + j) p.size (omega (arith, fits, lt)))
      (splice-in region bytes (p.offset + at) room (p.offset + (at + j)) (omega arith) (omega (arith, lt)) ∙ ap (λ (k : ℕ). slice_index bytes k) place)

  pub spliced_out : (k : ℕ) → (k < at) ⊎ (at + length bytes ≤ k) → byte_at spliced (in_buffer b k) ≡ byte_at s (in_buffer b k)
  spliced_out k out = here_at k ∙ ap (λ (v : ℕ). if nat_lt k p.size then v else 0) (splice-out region bytes (p.offset + at) room (p.offset + k) (shifted out)) ∙ sym (was_at k)
    where
      shifted : (k < at) ⊎ (at + length bytes ≤ k) → (p.offset + k < p.offset + at) ⊎ (p.offset + at + length bytes ≤ p.offset + k)
      shifted (inl lt) = inl (omega (arith, lt))
      shifted (inr le) = inr (omega (arith, le))

  -- ---- bytes of other resources

  pub spliced_other : (c : Byte) → (b ≡ resource_at c → ⊥) → byte_at spliced c ≡ byte_at s c
  spliced_other c ne = changed_other s apart shaped b p here new long outside c ne

  -- a buffer has no bytes of images
  spliced_image : (i l a x y q : ℕ) (t : Bool) → eqb b i ≡ t → byte_at spliced (in_image i l a x y q) ≡ byte_at s (in_image i l a x y q)
  spliced_image i l a x y q false e = spliced_other (in_image i l a x y q) (eqb-false b i e)
  spliced_image i l a x y q true e = let none : shape_of s i ≡ None = ap (λ (j : ℕ). shape_of s j) (sym (eqb-true b i e)) ∙ flat_is in flat_zero spliced i none ∙ sym (flat_zero s i none)
    where
      flat_zero : (h : Held) (i : ℕ) → shape_of h i ≡ None → byte_at h (in_image i l a x y q) ≡ 0
      flat_zero h i none = rw none (go (placed h i))
        where
          go : (o : Option Placed) → byte_held (option_map (lying_in h.memory None) o) (in_image i l a x y q) ≡ 0
          go None = refl
          go (Some p) = refl

  -- ---- byte writes that put them there

  module _ (offset lo : ℕ) (source : ℕ → Source) (place : at ≡ offset + lo) (values : (j : ℕ) → lo ≤ j → j < lo + length bytes → slice_index bytes (j - lo) ≡ ran.given (source j) (byte_at s)) where
    pub spliced_ran : HaveRun (writes b offset source lo (length bytes)) (byte_at s) (byte_at spliced)
    spliced_ran = made_ran b offset source lo (length bytes) (byte_at s) (byte_at spliced) (record {
      inside = λ j low high. ap (λ (k : ℕ). byte_at spliced (in_buffer b k)) (moved j low) ∙ spliced_in (j - lo) (omega (arith, low, high)) ∙ values j low high;
      outside = λ k out. spliced_out k (turned out);
      others = λ c k ne. spliced_other (in_buffer c k) (eqb-false b c ne);
      images = λ i l a x y q. spliced_image i l a x y q (eqb b i) refl;
    })
      where
        moved : (j : ℕ) → lo ≤ j → offset + j ≡ at + (j - lo)
        moved j low = omega (arith, place, low)

        turned : {k : ℕ} → (k < offset + lo) ⊎ (offset + lo + length bytes ≤ k) → (k < at) ⊎ (at + length bytes ≤ k)
        turned (inl lt) = inl (omega (arith, lt, place))
        turned (inr le) = inr (omega (arith, le, place))

  -- ---- a host write that puts them there

  pub spliced_written : HasChanged s spliced b (λ k. after_host_write false (given at bytes k))
  spliced_written = (spliced_keeps, each, spliced_rest)
    where
      -- a byte with its new value
      put : (c : Byte) (cell : Cell) (v : ℕ) → byte_at spliced c ≡ v → HasCell s c cell → HasCell spliced c (record cell { region = v })
      put c cell v is has = record { held = has.held; region = sym is }

      keep : (c : Byte) (cell : Cell) → byte_at spliced c ≡ byte_at s c → HasCell s c cell → HasCell spliced c cell
      keep c cell same has = record { held = has.held; region = has.region ∙ sym same }

      outside : (k : ℕ) (cell : Cell) → (k < at) ⊎ (at + length bytes ≤ k) → HasCell s (in_buffer b k) cell → HasCell spliced (in_buffer b k) (after_host_write false (given at bytes k) cell)
      outside k cell out has = subst (λ (g : Option ℕ). HasCell spliced (in_buffer b k) (after_host_write false g cell)) (sym (given-outside at bytes k out)) (keep (in_buffer b k) cell (spliced_out k out) has)

      of_buffer : (k : ℕ) (cell : Cell) → HasCell s (in_buffer b k) cell → HasCell spliced (in_buffer b k) (after_host_write false (given at bytes k) cell)
      of_buffer k cell has = elim (cases_lt k at) [
        | inl lt ↦ outside k cell (inl lt) has
        | inr ge ↦ elim (cases_lt k (at + length bytes)) [
          | inr past ↦ outside k cell (inr past) has
          | inl lt ↦
              let place : at + (k - at) ≡ k = omega (arith, ge) in
              let value : byte_at spliced (in_buffer b k) ≡ slice_index bytes (k - at) = ap (λ (j : ℕ). byte_at spliced (in_buffer b j)) (sym place) ∙ spliced_in (k - at) (omega (arith, ge, lt)) in
              subst (λ (g : Option ℕ). HasCell spliced (in_buffer b k) (after_host_write false g cell)) (sym (given-inside at bytes k ge lt)) (put (in_buffer b k) cell (slice_index bytes (k - at)) value has)
        ]
      ]

      each : (c : Byte) (cell : Cell) → IsThere s c → HasCell s c cell → HasCell spliced c (changed_of b (λ k. after_host_write false (given at bytes k)) c cell)
      each (in_image i l a x y q) cell there has = keep (in_image i l a x y q) cell (spliced_image i l a x y q (eqb b i) refl) has
      each (in_buffer c k) cell there has = go (eqb b c) refl
        where
          go : (t : Bool) → eqb b c ≡ t → HasCell spliced (in_buffer c k) (if t then after_host_write false (given at bytes k) cell else cell)
          go true e = subst (λ (d : ℕ). HasCell spliced (in_buffer d k) (after_host_write false (given at bytes k) cell)) (eqb-true b c e) (of_buffer k cell (subst (λ (d : ℕ). HasCell s (in_buffer d k) cell) (sym (eqb-true b c e)) has))
          go false e = keep (in_buffer c k) cell (spliced_other (in_buffer c k) (eqb-false b c e)) has
