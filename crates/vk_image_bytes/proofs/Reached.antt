-- The subresources of bytes rise with their numbers.
use Rattle.std.proofs.Common.{◌≡◌, ℕ, suc, ◌+◌, ◌-◌, ◌*◌, ◌/◌, ◌%◌, ◌<◌, ◌≤◌, refl, ap, ◌∙◌, arith, inl, inr}
use Rattle.std.proofs.lemmas.Bool.{cases_lt}
use Rattle.std.proofs.lemmas.Nat.{mul-add-lt, mul-le, mod_below, div-add-mod'}
use Rattle.vk_model.specs.declared.resource.ImageInfo.{ImageInfo}
use Rattle.vk_image_bytes.specs.declared.image_bytes.Subresources.{Subresources}
use Rattle.vk_image_bytes.specs.Numbers.{level_byte_count, level_first, layer_byte_count, byte_count, layer_at, level_at, before_in_level, subresource_of, subresource_at}
use Rattle.vk_image_bytes.specs.Subresources.{AreOf}
use Rattle.vk_image_bytes.proofs.Levels.{level_more, level_rises, some_in_level}
use Rattle.vk_image_bytes.proofs.Numbering.{quotient_below, Lies, lies, in_layer, layer_found, level_found}

-- a later row of w begins after an earlier one ends
rows_rise : (w a b x y : ℕ) → a < b → x < w → a * w + x < b * w + y
rows_rise w a b x y lt low = let le : suc a * w ≤ b * w = mul-le (suc a) w b w (omega arith) (omega arith) in let more : suc a * w ≡ a * w + w = omega arith in omega arith

module _ (m : ImageInfo) where
  -- the first byte of a subresource
  abbrev pub first_of : (level layer : ℕ) → ℕ
  first_of level layer = layer * layer_byte_count m + level_first m level

  module _ (level layer : ℕ) (level_there : level < m.levels) where
    at_first : first_of level layer ≡ layer * layer_byte_count m + (level_first m level + 0)
    at_first = omega arith

    pub first_is : subresource_at m (first_of level layer) ≡ subresource_of m level layer
    first_is = rw (layer_found m (first_of level layer) layer level 0 level_there (some_in_level m level) at_first, level_found m (first_of level layer) layer level 0 level_there (some_in_level m level) at_first) refl

    pub first_below : layer < m.layers → first_of level layer < byte_count m
    first_below layer_there =
        let low : level_first m level + 0 < layer_byte_count m = in_layer m level 0 level_there (some_in_level m level) in
        omega (arith, mul-add-lt layer (layer_byte_count m) (level_first m level) m.layers layer_there (omega arith))

  -- where a byte is whose layer has so many bytes
  pub record AtLevel (k len level : ℕ) : Type 0 where
    pub layer_is : layer_at m k ≡ k / len
    pub level_is : level_at m k ≡ level

  pub at_level : (k len level : ℕ) → len ≡ layer_byte_count m → level < m.levels → level_first m level ≤ k % len → k % len < level_first m (level + 1) → AtLevel k len level
  at_level k len level is there from to =
      let place : ℕ = k % len - level_first m level in
      let low : place < level_byte_count m level = omega (arith, level_more m level) in
      let made : k ≡ k / len * layer_byte_count m + (level_first m level + place) = omega (arith, div-add-mod' k len, ap (λ (n : ℕ). k / len * n) is) in
      record { layer_is = layer_found m k (k / len) level place there low made; level_is = level_found m k (k / len) level place there low made }

  -- numbers of subresources are below their count
  pub subresource_below : (k : ℕ) → k < byte_count m → subresource_at m k < m.layers * m.levels
  subresource_below k lt = let l = lies m k lt in omega (arith, mul-add-lt (layer_at m k) m.levels (level_at m k) m.layers l.layer_there l.level_there)

  -- a later byte isn't of an earlier subresource
  pub subresources_rise : (j k : ℕ) → j ≤ k → k < byte_count m → subresource_at m j ≤ subresource_at m k
  subresources_rise j k le lt = elim (cases_lt (subresource_at m k) (subresource_at m j)) [ inl less ↦ absurd (turned less) | inr ge ↦ ge ] where
    a : Lies m j
    a = lies m j (omega arith)

    b : Lies m k
    b = lies m k lt

    in_one : (x : ℕ) → Lies m x → level_first m (level_at m x) + before_in_level m x < layer_byte_count m
    in_one x l = in_layer m (level_at m x) (before_in_level m x) l.level_there l.place_there

    turned : subresource_at m k < subresource_at m j → ⊥
    turned less = elim (cases_lt (layer_at m k) (layer_at m j)) [
      | inl before ↦ omega (arith, a.is, b.is, rows_rise (layer_byte_count m) (layer_at m k) (layer_at m j) (level_first m (level_at m k) + before_in_level m k) (level_first m (level_at m j) + before_in_level m j) before (in_one k b))
      | inr ge ↦ elim (cases_lt (layer_at m j) (layer_at m k)) [
        | inl after ↦ omega (arith, rows_rise m.levels (layer_at m j) (layer_at m k) (level_at m j) (level_at m k) after a.level_there)
        | inr le ↦ (let same : layer_at m j ≡ layer_at m k = omega arith in same_layer same)
      ]
    ]
      where
        same_layer : layer_at m j ≡ layer_at m k → ⊥
        same_layer same =
            let levels : level_at m k < level_at m j = omega (arith, ap (λ (z : ℕ). z * m.levels) same) in
            omega (arith, a.is, b.is, ap (λ (z : ℕ). z * layer_byte_count m) same, b.place_there, level_more m (level_at m k), level_rises m (level_at m k + 1) (level_at m j) (omega arith))

  -- the subresources of the first byte and of the last are those of all bytes between
  pub are_of : (low high : ℕ) (s : Subresources) → low < high → high ≤ byte_count m → s.first ≡ subresource_at m low → s.last ≡ subresource_at m (high - 1) → AreOf m low high s
  are_of low high s some within first last = record {
    reached = λ k ge lt. (omega (arith, subresources_rise low k ge (omega arith)), omega (arith, subresources_rise k (high - 1) (omega arith) (omega arith)));
    reaching = reaching;
  }
    where
      levels_some : 0 < m.levels
      levels_some = let l = lies m low (omega arith) in omega (arith, l.level_there)

      reaching : (n : ℕ) → s.first ≤ n → n ≤ s.last → (k : ℕ) × (low ≤ k) × (k < high) × (subresource_at m k ≡ n)
      reaching n ge le = elim (cases_lt s.first n) [
        | inr early ↦ (low, omega arith, omega arith, omega arith)
        | inl after ↦ elim (cases_lt n s.last) [
          | inl before ↦ here after before
          | inr late ↦ (high - 1, omega arith, omega arith, omega arith)
        ]
      ]
        where
          here : s.first < n → n < s.last → (k : ℕ) × (low ≤ k) × (k < high) × (subresource_at m k ≡ n)
          here after before =
              let level_there : n % m.levels < m.levels = mod_below n m.levels levels_some in
              let k : ℕ = first_of (n % m.levels) (n / m.levels) in
              let is : subresource_at m k ≡ n = first_is (n % m.levels) (n / m.levels) level_there ∙ div-add-mod' n m.levels in
              let below_all = subresource_below (high - 1) (omega arith) in
              let layer_there : n / m.levels < m.layers = quotient_below n m.levels m.layers levels_some (omega arith) in
              let there = first_below (n % m.levels) (n / m.levels) level_there layer_there in
              (k, from k is there, to k is there, is)
            where
              from : (k : ℕ) → subresource_at m k ≡ n → k < byte_count m → low ≤ k
              from k is there = elim (cases_lt k low) [ inl less ↦ absurd (omega (arith, subresources_rise k low (omega arith) (omega arith))) | inr ok ↦ ok ]

              to : (k : ℕ) → subresource_at m k ≡ n → k < byte_count m → k < high
              to k is there = elim (cases_lt k high) [ inl ok ↦ ok | inr ge ↦ absurd (omega (arith, subresources_rise (high - 1) k (omega arith) there)) ]
