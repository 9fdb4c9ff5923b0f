-- Bytes of a resource, and the units that they are of.
use denote.Ref.{Bor}
use Rattle.std.proofs.Common.{◌≡◌, ℕ, ◌+◌, ◌/◌, ◌%◌, ◌<◌, ◌≤◌, Bool, true, false, not, Option, Some, None, refl, ap, sym, ◌∙◌, subst, arith}
use Rattle.std.specs.Prelude.{IfSome, IfNone, is_some}
use Rattle.std.proofs.lemmas.Nat.{div-mul-add, mod-mul-add}
use Rattle.vk_model.specs.declared.resource.ImageInfo.{ImageInfo}
use Rattle.vk_model.specs.World.Bytes.{Byte, in_image}
use Rattle.vk_image_bytes.specs.Numbers.{numbered, level_at, layer_at, byte_of, byte_count, subresource_at}
use Rattle.vk_image_bytes.specs.Subresources.{AreOf}
use Rattle.vk_image_bytes.specs.declared.image_bytes.Subresources.{Subresources}
use Rattle.vk_image_bytes.proofs.Numbering.{lies}
use Rattle.vk_image_bytes.proofs.Reached.{subresources_rise}
use Rattle.vk_order.specs.Units.{IsOfUnit, unit_byte}
use Rattle.vk_order.specs.declared.units.Units.TheVariants as units
use Rattle.vk_touches.specs.declared.bytes.Bytes.{Bytes}
use Rattle.vk_touches.specs.declared.bytes.Bytes.TheVariants as bytes
use Rattle.vk_touches.specs.declared.bytes.UnitRun.{UnitRun}
use Rattle.vk_touches.specs.Bytes.{numbered_byte, HaveNumbers, unit_of, AreUnits, AreEarlier}
use Rattle.vk_touches.specs.Conflicts.{SomeBetween}

-- what has a number below an end has one below a later end
pub fewer_numbers : (b : Bytes) (low high : ℕ) → low ≤ high → HaveNumbers b high → HaveNumbers b low
fewer_numbers (bytes.Buffer i) low high le h = tt
fewer_numbers (bytes.Image i levels m) low high le h = (h.0, let within = h.1 in omega arith)

-- a byte of an image is of its subresource
of_subresource : (m : ImageInfo) (i k : ℕ) → k < byte_count m → IsOfUnit (units.Subresources i m.levels) (subresource_at m k) (byte_of m i k)
unfolding numbered
of_subresource m i k lt =
    let l = lies m k lt in
    let b = numbered m k in
    let level_is : subresource_at m k % m.levels ≡ level_at m k = mod-mul-add (layer_at m k) m.levels (level_at m k) l.level_there in
    let layer_is : subresource_at m k / m.levels ≡ layer_at m k = div-mul-add (layer_at m k) m.levels (level_at m k) l.level_there in
    (b.x, b.y, b.texel_byte, ap (λ (l : ℕ). in_image i l b.layer b.x b.y b.texel_byte) (sym level_is) ∙ ap (λ (z : ℕ). in_image i (subresource_at m k % m.levels) z b.x b.y b.texel_byte) (sym layer_is))

-- an image that has a byte has a level
pub some_levels : (x : Bytes) (i levels : ℕ) (image : Bor ImageInfo) → x ≡ bytes.Image i levels image → (low high : ℕ) → low < high → HaveNumbers x high → 0 < levels
some_levels x i levels image is low high some numbers =
    let known : HaveNumbers (bytes.Image i levels image) high = subst (λ (y : Bytes). HaveNumbers y high) is numbers in
    let fits : high ≤ byte_count image.now = known.1 in
    let l = lies image.now low (omega (arith, some, fits)) in
    let there = l.level_there in
    let same = known.0 in
    omega (arith, there, same)

-- the bytes of a buffer are the units
pub buffer_units : (x : Bytes) (b : ℕ) → x ≡ bytes.Buffer b → (low high : ℕ) → low < high → AreUnits x low high (record { units = units.Bytes b; low = low; high = high })
buffer_units x b is low high some = subst (λ (y : Bytes). AreUnits y low high (record { units = units.Bytes b; low = low; high = high })) (sym is) (record {
  first = refl;
  of = λ k from to. refl;
  reached = λ k from to. (from, to);
  reaching = λ n from to. (n, from, to, refl);
})

-- those of an image are of the subresources that they reach
pub image_units : (x : Bytes) (i levels : ℕ) (image : Bor ImageInfo) → x ≡ bytes.Image i levels image → (low high : ℕ) → low < high → HaveNumbers x high → (s : Subresources) → AreOf image.now low high s
    → (l h : ℕ) → l ≡ s.first → h ≡ s.last → AreUnits x low high (record { units = units.Subresources i levels; low = l; high = h + 1 })
image_units x i levels image is low high some numbers s are l h l_is h_is =
    subst (λ (y : Bytes). AreUnits y low high (record { units = units.Subresources i levels; low = l; high = h + 1 })) (sym is) (record {
      first = begins;
      of = λ k from to. subst (λ (n : ℕ). IsOfUnit (units.Subresources i n) (subresource_at m k) (byte_of m i k)) (sym known.0) (of_subresource m i k (let fits = within in omega (arith, fits, to)));
      reached = λ k from to. let r = are.reached k from to in let a = r.0 in let b = r.1 in (omega arith, omega arith);
      reaching = λ n from to. are.reaching n (omega arith) (omega arith);
    })
  where
    m : ImageInfo
    m = image.now

    known : HaveNumbers (bytes.Image i levels image) high
    known = subst (λ (y : Bytes). HaveNumbers y high) is numbers

    within : high ≤ byte_count m
    within = known.1

    begins : subresource_at m low ≡ l
    begins =
        let first = are.reached low (omega arith) some in
        let least : s.first ≤ subresource_at m low = first.0 in
        let most : s.first ≤ s.last = let last = first.1 in omega (arith, least, last) in
        let back = are.reaching s.first (omega arith) most in
        let fits = within in
        let below : back.0 < byte_count m = let lt = back.2 in omega (arith, lt, fits) in
        let rise : subresource_at m low ≤ subresource_at m back.0 = subresources_rise m low back.0 back.1 below in
        let same : subresource_at m back.0 ≡ s.first = back.3 in
        omega (arith, least, rise, same, l_is)

-- ---- what a search of units finds of bytes

module _ (x : Bytes) (low high : ℕ) (u : UnitRun) (are : AreUnits x low high u) (says : Byte → Bool → Type 0) (alike : (k : ℕ) (c : Byte) → IsOfUnit u.units k c → (answer : Bool) → says (unit_byte u.units k) answer → says c answer) where
  -- of a byte what is so of its unit
  pub by_unit : (k : ℕ) → low ≤ k → k < high → (answer : Bool) → says (unit_byte u.units (unit_of x k)) answer → says (numbered_byte x k) answer
  by_unit k from to answer h = alike (unit_of x k) (numbered_byte x k) (are.of k from to) answer h

  pub some_of_units : (found : Option ℕ) → IfSome found (λ n. (u.low ≤ n) × (n < u.high)) → IfSome found (λ n. says (unit_byte u.units n) false) → IfNone found ((n : ℕ) → u.low ≤ n → n < u.high → says (unit_byte u.units n) true)
      → (r : Bool) → r ≡ is_some found → SomeBetween (λ k t. says (numbered_byte x k) (not t)) r low high
  some_of_units (Some n) within unseen seen r is =
      let k = are.reaching n within.0 within.1 in
      subst (λ (t : Bool). SomeBetween (λ k t. says (numbered_byte x k) (not t)) t low high) (sym is)
      (k.0, k.1, k.2, by_unit k.0 k.1 k.2 false (subst (λ (j : ℕ). says (unit_byte u.units j) false) (sym k.3) unseen))
  some_of_units None within unseen seen r is =
      subst (λ (t : Bool). SomeBetween (λ k t. says (numbered_byte x k) (not t)) t low high) (sym is)
      (λ k from to. let at = are.reached k from to in by_unit k from to true (seen (unit_of x k) at.0 at.1))

  -- of the bytes of units before one, what is so of these units
  pub by_units : (answer : Bool) (end limit : ℕ) → end ≤ high → AreEarlier x limit low end → ((n : ℕ) → u.low ≤ n → n < limit → says (unit_byte u.units n) answer) → (k : ℕ) → low ≤ k → k < end → says (numbered_byte x k) answer
  by_units answer end limit le earlier each k from to =
      let lt : k < high = omega (arith, le, to) in
      by_unit k from lt answer (each (unit_of x k) (are.reached k from lt).0 (earlier k from to))
