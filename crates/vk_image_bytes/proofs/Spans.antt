-- The numbers of the bytes of a range of levels and layers.
use Rattle.std.proofs.Common.{◌≡◌, ℕ, ◌+◌, ◌-◌, ◌*◌, ◌<◌, ◌≤◌, Bool, true, ◌==◌, ◌&&◌, min, refl, ap, sym, subst, ◌∙◌, arith, inl, inr}
use Rattle.std.specs.Prelude.{Contains, nat_le, nat_lt}
use Rattle.std.proofs.lemmas.Bool.{cases_lt, le-leb, lt-ltb, leb-true, ltb-true, eq-eqb, and_parts, and_from}
use Rattle.std.proofs.lemmas.Nat.{mul-le, same_from_place}
use Rattle.vk_model.specs.declared.command.SubresourceRange.{SubresourceRange}
use Rattle.vk_model.specs.declared.resource.ImageInfo.{ImageInfo}
use Rattle.vk_model.specs.Basics.{below, within}
use Rattle.vk_model.specs.World.Effect.{in_range}
use Rattle.vk_model.proofs.Lists.Members.{some_member, member_passes, numbers_have, range_from}
use Rattle.vk_model.proofs.Lists.Truths.{bool_same}
use Rattle.vk_image_bytes.specs.declared.ranges.ByteRanges.{ByteRanges}
use Rattle.vk_image_bytes.specs.Numbers.{level_first, layer_byte_count, byte_count, layer_at, level_at, before_in_level, numbered, byte_of}
use Rattle.vk_image_bytes.specs.Ranges.{has_number, AreRanges}
use Rattle.vk_image_bytes.proofs.Levels.{level_more, level_rises}
use Rattle.vk_image_bytes.proofs.Numbering.{Lies, lies, in_layer}

-- ---- what is within

pub within_from : (low count n : ℕ) → low ≤ n → n < low + count → within low count n ≡ true
within_from low count n le lt = and_from (nat_le low n) (nat_lt n (low + count)) (le-leb low n le) (lt-ltb n (low + count) lt)

pub within_parts : (low count n : ℕ) → within low count n ≡ true → (low ≤ n) × (n < low + count)
within_parts low count n e = let p = and_parts (nat_le low n) (nat_lt n (low + count)) e in (leb-true low n p.0, ltb-true n (low + count) p.1)

-- a byte is of some levels and layers: those from one on and below another
pub record IsOf (m : ImageInfo) (low high layer end k : ℕ) : Type 0 where
  pub level_low : low ≤ level_at m k
  pub level_high : level_at m k < high
  pub layer_low : layer ≤ layer_at m k
  pub layer_high : layer_at m k < end

module _ (m : ImageInfo) where
  -- ---- some levels of layers

  module _ (low high layer end : ℕ) (levels : low ≤ high) (levels_there : high ≤ m.levels) (layers : layer ≤ end) (layers_there : end ≤ m.layers) where
    abbrev parts : ByteRanges
    parts = record { first = layer * layer_byte_count m + level_first m low; size = level_first m high - level_first m low; step = layer_byte_count m; count = end - layer }

    begins : (n : ℕ) → layer * layer_byte_count m + level_first m low + n * layer_byte_count m ≡ (layer + n) * layer_byte_count m + level_first m low
    begins n = omega arith

    parts_inside : (n : ℕ) → n < end - layer → layer * layer_byte_count m + level_first m low + n * layer_byte_count m + (level_first m high - level_first m low) ≤ byte_count m
    parts_inside n lt =
        let whole : (layer + n + 1) * layer_byte_count m ≤ m.layers * layer_byte_count m = mul-le (layer + n + 1) (layer_byte_count m) m.layers (layer_byte_count m) (omega arith) (omega arith) in
        let one : (layer + n + 1) * layer_byte_count m ≡ (layer + n) * layer_byte_count m + layer_byte_count m = omega arith in
        omega (arith, begins n, level_rises m low high levels, level_rises m high m.levels levels_there)

    parts_of : (k : ℕ) → k < byte_count m → has_number parts k ≡ true → IsOf m low high layer end k
    parts_of k lt e =
        let l = lies m k lt in
        let found = some_member (λ n. within (parts.first + n * parts.step) parts.size k) (below parts.count) e in
        let n : ℕ = found.0 in
        let few : n < end - layer = omega (arith, (range_from 0 (end - layer) n found.1).1) in
        let span = within_parts (parts.first + n * parts.step) parts.size k found.2 in
        let start = begins n in
        let d : ℕ = k - ((layer + n) * layer_byte_count m + level_first m low) in
        let is : k ≡ (layer + n) * layer_byte_count m + (level_first m low + d) = omega (arith, span.0, start) in
        let short : level_first m low + d < level_first m high = omega (arith, span.1, start, is) in
        let in_its : level_first m low + d < layer_byte_count m = omega (arith, short, level_rises m high m.levels levels_there) in
        let split = same_from_place (layer_at m k) (level_first m (level_at m k) + before_in_level m k) (layer + n) (level_first m low + d) (layer_byte_count m) (in_layer m (level_at m k) (before_in_level m k) l.level_there l.place_there) in_its (sym l.is ∙ is) in
        record {
          level_low = from_level (level_at m k) (before_in_level m k) (omega (arith, l.place_there, level_more m (level_at m k))) (omega (arith, split.1));
          level_high = to_level (level_at m k) (omega (arith, split.1));
          layer_low = omega (arith, split.0);
          layer_high = omega (arith, split.0);
        }
      where
        from_level : (level place : ℕ) → level_first m level + place < level_first m (level + 1) → level_first m low ≤ level_first m level + place → low ≤ level
        from_level level place high_end from = elim (cases_lt level low) [ inl less ↦ absurd (omega (arith, level_rises m (level + 1) low (omega arith))) | inr ge ↦ ge ]

        to_level : (level : ℕ) → level_first m level < level_first m high → level < high
        to_level level to = elim (cases_lt level high) [ inl less ↦ less | inr ge ↦ absurd (omega (arith, level_rises m high level ge)) ]

    parts_have : (k : ℕ) → k < byte_count m → IsOf m low high layer end k → has_number parts k ≡ true
    parts_have k lt o =
        let l = lies m k lt in
        let n : ℕ = layer_at m k - layer in
        let few : n < end - layer = omega (arith, o.layer_low, o.layer_high) in
        let at : 0 + n ≡ n = omega arith in
        let there = subst (λ (j : ℕ). Contains (below (end - layer)) j) at (numbers_have 0 (end - layer) n few) in
        let layer_is : layer + n ≡ layer_at m k = omega (arith, o.layer_low) in
        let start : layer * layer_byte_count m + level_first m low + n * layer_byte_count m ≡ layer_at m k * layer_byte_count m + level_first m low = begins n ∙ ap (λ (z : ℕ). z * layer_byte_count m + level_first m low) layer_is in
        let from = level_rises m low (level_at m k) o.level_low in
        let to = level_rises m (level_at m k + 1) high (omega (arith, o.level_high)) in
        member_passes (λ j. within (parts.first + j * parts.step) parts.size k) (below parts.count) n there
        (within_from (parts.first + n * parts.step) parts.size k
        (omega (arith, start, from, l.is)) (omega (arith, start, from, to, l.is, l.place_there, level_more m (level_at m k))))

  -- ---- all levels of layers

  module _ (layer end : ℕ) (layers : layer ≤ end) (layers_there : end ≤ m.layers) where
    abbrev whole : ByteRanges
    whole = record { first = layer * layer_byte_count m; size = (end - layer) * layer_byte_count m; step = 0; count = 1 }

    ends : layer * layer_byte_count m + (end - layer) * layer_byte_count m ≡ end * layer_byte_count m
    ends = let all : layer + (end - layer) ≡ end = omega arith in omega (arith, ap (λ (z : ℕ). z * layer_byte_count m) all)

    whole_inside : (n : ℕ) → n < 1 → layer * layer_byte_count m + n * 0 + (end - layer) * layer_byte_count m ≤ byte_count m
    whole_inside n lt = omega (arith, ends, mul-le end (layer_byte_count m) m.layers (layer_byte_count m) layers_there (omega arith))

    whole_of : (k : ℕ) → k < byte_count m → has_number whole k ≡ true → IsOf m 0 m.levels layer end k
    whole_of k lt e =
        let l = lies m k lt in
        let found = some_member (λ n. within (whole.first + n * whole.step) whole.size k) (below whole.count) e in
        let span = within_parts (whole.first + found.0 * whole.step) whole.size k found.2 in
        let own = in_layer m (level_at m k) (before_in_level m k) l.level_there l.place_there in
        record {
          level_low = omega arith;
          level_high = l.level_there;
          layer_low = from (layer_at m k) (level_first m (level_at m k) + before_in_level m k) own (omega (arith, span.0, l.is));
          layer_high = to (layer_at m k) (omega (arith, span.1, l.is, ends));
        }
      where
        from : (z place : ℕ) → place < layer_byte_count m → layer * layer_byte_count m ≤ z * layer_byte_count m + place → layer ≤ z
        from z place low le = elim (cases_lt z layer) [
          | inl less ↦ (let more : (z + 1) * layer_byte_count m ≤ layer * layer_byte_count m = mul-le (z + 1) (layer_byte_count m) layer (layer_byte_count m) (omega arith) (omega arith) in absurd (omega arith))
          | inr ge ↦ ge
        ]

        to : (z : ℕ) → z * layer_byte_count m < end * layer_byte_count m → z < end
        to z lt = elim (cases_lt z end) [
          | inl less ↦ less
          | inr ge ↦ absurd (omega (arith, mul-le end (layer_byte_count m) z (layer_byte_count m) ge (omega arith)))
        ]

    whole_have : (k : ℕ) → k < byte_count m → IsOf m 0 m.levels layer end k → has_number whole k ≡ true
    whole_have k lt o =
        let l = lies m k lt in
        let own = in_layer m (level_at m k) (before_in_level m k) l.level_there l.place_there in
        let from : layer * layer_byte_count m ≤ layer_at m k * layer_byte_count m = mul-le layer (layer_byte_count m) (layer_at m k) (layer_byte_count m) o.layer_low (omega arith) in
        let to : (layer_at m k + 1) * layer_byte_count m ≤ end * layer_byte_count m = mul-le (layer_at m k + 1) (layer_byte_count m) end (layer_byte_count m) (omega (arith, o.layer_high)) (omega arith) in
        let there = numbers_have 0 1 0 (omega arith) in
        member_passes (λ j. within (whole.first + j * whole.step) whole.size k) (below whole.count) 0 there
        (within_from (whole.first + 0 * whole.step) whole.size k (omega (arith, l.is)) (omega (arith, l.is, ends)))

  -- ---- of a range of levels and layers

  -- the levels and layers of a range that the image has
  pub record Clipped (r : SubresourceRange) (low high layer end : ℕ) : Type 0 where
    pub low_is : low ≡ min r.first_level m.levels
    pub high_is : high ≡ min (min (r.first_level + r.levels) 4294967295) m.levels
    pub layer_is : layer ≡ min r.first_layer m.layers
    pub end_is : end ≡ min (min (r.first_layer + r.layers) 4294967295) m.layers
    pub levels_few : m.levels ≤ 4294967295
    pub layers_few : m.layers ≤ 4294967295

  in_clipped : (r : SubresourceRange) (low high layer end : ℕ) → Clipped r low high layer end → (test : ℕ → Bool)
      → ((k : ℕ) → k < byte_count m → test k ≡ true → IsOf m low high layer end k) → ((k : ℕ) → k < byte_count m → IsOf m low high layer end k → test k ≡ true)
      → (i k : ℕ) → k < byte_count m → test k ≡ in_range i r (byte_of m i k)
  unfolding numbered
  in_clipped r low high layer end c test of has i k lt = bool_same (test k) (in_range i r (byte_of m i k)) forth back where
    l : Lies m k
    l = lies m k lt

    forth : test k ≡ true → in_range i r (byte_of m i k) ≡ true
    forth e =
        let o = of k lt e in
        let level = within_from r.first_level r.levels (level_at m k) (omega (arith, o.level_low, o.level_high, c.low_is, c.high_is, l.level_there)) (omega (arith, o.level_high, c.high_is)) in
        let of_layer = within_from r.first_layer r.layers (layer_at m k) (omega (arith, o.layer_low, o.layer_high, c.layer_is, c.end_is, l.layer_there)) (omega (arith, o.layer_high, c.end_is)) in
        rw (eq-eqb i i refl, level, of_layer) refl

    back : in_range i r (byte_of m i k) ≡ true → test k ≡ true
    back e =
        let ands = and_parts (i == i && within r.first_level r.levels (level_at m k)) (within r.first_layer r.layers (layer_at m k)) e in
        let level = within_parts r.first_level r.levels (level_at m k) (and_parts (i == i) (within r.first_level r.levels (level_at m k)) ands.0).1 in
        let of_layer = within_parts r.first_layer r.layers (layer_at m k) ands.1 in
        has k lt (record {
          level_low = omega (arith, level.0, c.low_is);
          level_high = omega (arith, level.1, c.high_is, l.level_there, c.levels_few);
          layer_low = omega (arith, of_layer.0, c.layer_is);
          layer_high = omega (arith, of_layer.1, c.end_is, l.layer_there, c.layers_few);
        })

  -- ranges with the numbers that the calls give
  pub parts_are : (r : SubresourceRange) (low high layer end : ℕ) (s : ByteRanges) → Clipped r low high layer end
      → s.first ≡ layer * layer_byte_count m + level_first m low → s.size ≡ level_first m high - level_first m low → s.step ≡ layer_byte_count m → s.count ≡ end - layer → AreRanges m r s
  parts_are r low high layer end s c first size step count =
      let levels : low ≤ high = omega (arith, c.low_is, c.high_is, c.levels_few) in
      let there : high ≤ m.levels = omega (arith, c.high_is) in
      let layers : layer ≤ end = omega (arith, c.layer_is, c.end_is, c.layers_few) in
      let layers_there : end ≤ m.layers = omega (arith, c.end_is) in
      record {
        inside = λ n lt. rw (first, step, size) (parts_inside low high layer end levels there layers layers_there n (omega (arith, count)));
        bytes = λ i k lt. rw (first, step, size, count) (in_clipped r low high layer end c (has_number (parts low high layer end levels there layers layers_there)) (parts_of low high layer end levels there layers layers_there) (parts_have low high layer end levels there layers layers_there) i k lt);
      }

  pub whole_are : (r : SubresourceRange) (low high layer end : ℕ) (s : ByteRanges) → Clipped r low high layer end → low ≡ 0 → high ≡ m.levels
      → s.first ≡ layer * layer_byte_count m → s.size ≡ (end - layer) * layer_byte_count m → s.step ≡ 0 → s.count ≡ 1 → AreRanges m r s
  whole_are r low high layer end s c at_zero at_end first size step count =
      let layers : layer ≤ end = omega (arith, c.layer_is, c.end_is, c.layers_few) in
      let layers_there : end ≤ m.layers = omega (arith, c.end_is) in
      let clipped : Clipped r 0 m.levels layer end = subst (λ (x : ℕ). Clipped r 0 x layer end) at_end (subst (λ (x : ℕ). Clipped r x high layer end) at_zero c) in
      record {
        inside = λ n lt. rw (first, step, size) (whole_inside layer end layers layers_there n (omega (arith, count)));
        bytes = λ i k lt. rw (first, step, size, count) (in_clipped r 0 m.levels layer end clipped (has_number (whole layer end layers layers_there)) (whole_of layer end layers layers_there) (whole_have layer end layers layers_there) i k lt);
      }
