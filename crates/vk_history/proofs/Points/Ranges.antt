-- Bytes of ranges.
use Rattle.std.proofs.Common.{◌⊎◌, inl, inr, ◌≡◌, ◌≤◌, ◌<◌, ◌+◌, ◌-◌, ℕ, zero, suc, List, [], ◌∷◌, map, length, refl, ◌∙◌, ap, Bool, true, false, arith, ◌&&◌, ◌==◌}
use Rattle.std.specs.Prelude.{◌||◌, ◌%◌, nat_le, nat_lt}
use Rattle.std.specs.List.{list_any, range_with_len, enumerate_from}
use Rattle.std.proofs.lemmas.Bool.{cases_lt, and_parts, eqb-true, eq-eqb, leb-true, ltb-true, le-leb, lt-ltb}
use Rattle.std.proofs.Math.Bool.{or-true}
use Rattle.vk_model.specs.declared.command.Cmd.TheVariants as cmd
use Rattle.vk_model.specs.declared.command.Length.{Length}
use Rattle.vk_model.specs.Basics.{below, within, byte_of}
use Rattle.vk_model.specs.World.Bytes.{Byte, in_buffer, same_byte}
use Rattle.vk_model.specs.World.ByteWrites.{ByteWrite, Value, byte_write, byte_writes, buffer_size, fill_size}
use Rattle.vk_model.specs.Trace.Point.{Past}
use Rattle.vk_model.specs.Sync.Access.{is_in, bytes_of, targets, origins}
use Rattle.vk_model.proofs.Lists.Members.{any_map}
use Rattle.vk_model.proofs.Lists.Truths.{bool_same}

-- no number of a range passes
pub none_of : (test : ℕ → Bool) (a n : ℕ) → ((k : ℕ) → a ≤ k → k < a + n → test k ≡ false) → list_any test (range_with_len a n) ≡ false
none_of test a zero none = refl
none_of test a (suc n) none = rw (none a (omega arith) (omega arith)) (none_of test (a + 1) n (λ k low high. none k (omega arith) (omega arith)))

-- one number of a range that passes
pub one_of : (test : ℕ → Bool) (a n k : ℕ) → a ≤ k → k < a + n → test k ≡ true → list_any test (range_with_len a n) ≡ true
one_of test a zero k low high is = absurd (omega arith)
one_of test a (suc n) k low high is = by_first (λ lt. one_of test (a + 1) n k (omega arith) (omega arith) is) (cases_lt a k) where
  by_first : (a < k → list_any test (range_with_len (a + 1) n) ≡ true) → (a < k) ⊎ (k ≤ a) → list_any test (range_with_len a (suc n)) ≡ true
  by_first rest (inl lt) = rw (rest lt) (or-true (test a))
  by_first rest (inr le) = let same : a ≡ k = omega arith in let here : test a ≡ true = ap test same ∙ is in rw here refl

-- and where some number passes, here is one
pub some_of : (test : ℕ → Bool) (a n : ℕ) → list_any test (range_with_len a n) ≡ true → (k : ℕ) × (a ≤ k) × (k < a + n) × (test k ≡ true)
some_of test a zero is = absurd cc
some_of test a (suc n) is = by_test (test a) refl is (some_of test (a + 1) n) where
  by_test : (t : Bool) → test a ≡ t → (t || list_any test (range_with_len (a + 1) n)) ≡ true → (list_any test (range_with_len (a + 1) n) ≡ true → (k : ℕ) × (a + 1 ≤ k) × (k < a + 1 + n) × (test k ≡ true)) → (k : ℕ) × (a ≤ k) × (k < a + suc n) × (test k ≡ true)
  by_test true e is rest = (a, omega arith, omega arith, e)
  by_test false e is rest = let found = rest is in let low = found.1 in let high = found.2 in (found.0, omega (arith, low), omega (arith, high), found.3)

-- ---- bytes of a buffer

-- which bytes are in a range
pub byte_in : (b k c o s : ℕ) → is_in (in_buffer b k) (bytes_of c o s) ≡ (b == c && within o s k)
byte_in b k c o s = any_map (same_byte (in_buffer b k)) (λ j. in_buffer c (o + j)) (below s) ∙ bool_same _ _ to from where
  to : list_any (λ j. b == c && k == o + j) (below s) ≡ true → (b == c && within o s k) ≡ true
  to h =
      let at = some_of (λ j. b == c && k == o + j) 0 s h in
      let parts = and_parts (b == c) (k == o + at.0) at.3 in
      let is : k ≡ o + at.0 = eqb-true k (o + at.0) parts.1 in
      let high = at.2 in
      rw (parts.0, le-leb o k (omega (arith, is)), lt-ltb k (o + s) (omega (arith, is, high))) refl

  from : (b == c && within o s k) ≡ true → list_any (λ j. b == c && k == o + j) (below s) ≡ true
  from h =
      let parts = and_parts (b == c) (within o s k) h in
      let inside = and_parts (nat_le o k) (nat_lt k (o + s)) parts.1 in
      let low : o ≤ k = leb-true o k inside.0 in
      let high : k < o + s = ltb-true k (o + s) inside.1 in
      one_of (λ j. b == c && k == o + j) 0 s (k - o) (omega arith) (omega (arith, low, high)) (rw (parts.0, eq-eqb k (o + (k - o)) (let e : k ≡ o + (k - o) = omega (arith, low) in e)) refl)

pub to-map : {A : Type 0} (f : A → ByteWrite) (xs : List A) → targets (map f xs) ≡ map (λ x. (f x).to) xs
to-map f [] = refl
to-map f (x ∷ xs) = ap (λ (bs : List Byte). (f x).to ∷ bs) (to-map f xs)

-- a fill writes the bytes of its range
pub fill-targets : (past : Past) (b o : ℕ) (n : Length) (w : ℕ) → targets (byte_writes past (cmd.Fill b o n w)) ≡ bytes_of b o (fill_size (buffer_size past b) o n)
fill-targets past b o n w = to-map _ (below (fill_size (buffer_size past b) o n))

-- ---- what commands read and write

-- an update writes the bytes of its range
pub update-targets : (past : Past) (b o : ℕ) (bytes : List ℕ) → targets (byte_writes past (cmd.Update b o bytes)) ≡ bytes_of b o (length bytes)
update-targets past b o bytes = go 0 bytes where
  go : (a : ℕ) (bytes : List ℕ) → targets (map (λ p. byte_write (in_buffer b (o + p.0)) (Value p.1)) (enumerate_from a bytes)) ≡ map (λ k. in_buffer b (o + k)) (range_with_len a (length bytes))
  go a [] = refl
  go a (x ∷ bytes) = ap (λ (bs : List Byte). in_buffer b (o + a) ∷ bs) (go (a + 1) bytes)

-- fills and updates read nothing
pub fill-origins : (past : Past) (b o : ℕ) (n : Length) (w : ℕ) → origins (byte_writes past (cmd.Fill b o n w)) ≡ []
fill-origins past b o n w = go (below (fill_size (buffer_size past b) o n)) where
  go : (ks : List ℕ) → origins (map (λ k. byte_write (in_buffer b (o + k)) (Value (byte_of w (k % 4)))) ks) ≡ []
  go [] = refl
  go (k ∷ ks) = go ks

pub update-origins : (past : Past) (b o : ℕ) (bytes : List ℕ) → origins (byte_writes past (cmd.Update b o bytes)) ≡ []
update-origins past b o bytes = go (enumerate_from 0 bytes) where
  go : (ps : List (ℕ × ℕ)) → origins (map (λ p. byte_write (in_buffer b (o + p.0)) (Value p.1)) ps) ≡ []
  go [] = refl
  go (p ∷ ps) = go ps

-- a part that is the same for all
spread : (t a b : Bool) → (t && a || (t && b)) ≡ (t && (a || b))
spread true a b = refl
spread false a b = refl
