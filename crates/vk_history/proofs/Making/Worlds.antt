-- What commands do to the owners of buffers and to what is defined of them.
use Rattle.std.proofs.Common.{◌⊎◌, inl, inr, ◌≡◌, ◌≢◌, ◌<◌, ◌≤◌, ◌+◌, ◌-◌, ℕ, zero, suc, List, [], ◌∷◌, map, Bool, true, false, ◌&&◌, ◌||◌, ◌==◌, nat_lt, cond, refl, ap, sym, ◌∙◌, arith, Option, Some, None, eq-eqb, eqb}
use Rattle.std.specs.Prelude.{Contains, is_none, if◌then◌else◌}
use Rattle.std.specs.Option.{option_map, option_or}
use Rattle.std.specs.List.{find, range_with_len, flat_map}
use Rattle.std.proofs.lemmas.Bool.{eqb-true, eqb-false, le-leb, lt-ltb, lt-leb, le-ltb, cases_lt, or_parts}
use Rattle.std.proofs.lemmas.List.Folds.{find-append}
use Rattle.vk_model.specs.declared.command.BufferCopy.{BufferCopy}
use Rattle.vk_model.specs.Basics.{within}
use Rattle.vk_model.specs.World.Bytes.{Byte, in_buffer, in_image, same_byte, World, Family, resource_at}
use Rattle.vk_model.specs.World.ByteWrites.{Source, Value, From, ByteWrite, byte_write}
use Rattle.vk_model.specs.Trace.Objects.{is_exclusive}
use Rattle.vk_model.specs.World.Effect.{after_writes, value_after, used, is_other, set_owner, without}
use Rattle.vk_model.specs.Trace.Point.{Past}
use Rattle.vk_model.specs.Sync.Access.{is_in, targets, origins}
use Rattle.vk_model.proofs.Lists.Members.{contains-head, contains-tail}
use Rattle.vk_model.proofs.Lists.Truths.{bool_same}
use Rattle.vk_image_bytes.specs.Copies.{numbered_writes}

pub turned_about : (b c : ℕ) → (b == c) ≡ (c == b)
turned_about b c = bool_same (b == c) (c == b) (λ h. eq-eqb c b (sym (eqb-true b c h))) (λ h. eq-eqb b c (sym (eqb-true c b h)))

-- ---- what values leave

same_turned : (b c : Byte) → same_byte b c ≡ same_byte c b
same_turned (in_buffer b k) (in_buffer c l) = rw (turned_about b c, turned_about k l) refl
same_turned (in_buffer b k) (in_image j c d u v q) = refl
same_turned (in_image i a b x y p) (in_buffer c l) = refl
same_turned (in_image i a b x y p) (in_image j c d u v q) = rw (turned_about i j, turned_about a c, turned_about b d, turned_about x u, turned_about y v, turned_about p q) refl

-- where a command writes values alone, the bytes are defined that it writes
pub values_define : (value : Byte → Option ℕ) (b : Byte) (ms : List ByteWrite) → origins ms ≡ [] → is_none (after_writes ms value b) ≡ (if is_in b (targets ms) then false else is_none (value b))
values_define value b [] none = refl
values_define value b (m ∷ ms) none = by_source m.to m.source none (values_define value b ms) where
  by_source : (to : Byte) (s : Source) → origins (byte_write to s ∷ ms) ≡ [] → (origins ms ≡ [] → is_none (after_writes ms value b) ≡ (if is_in b (targets ms) then false else is_none (value b)))
      → is_none (after_writes (byte_write to s ∷ ms) value b) ≡ (if is_in b (targets (byte_write to s ∷ ms)) then false else is_none (value b))
  by_source to (From c) none rest = absurd cc
  by_source to (Value n) none rest = rw (same_turned b to) (go (same_byte to b)) where
    go : (t : Bool) → is_none (value_after value (cond t (Some (byte_write to (Value n))) (find (λ m. same_byte m.to b) ms)) b) ≡ (if t || is_in b (targets ms) then false else is_none (value b))
    go true = refl
    go false = rest none

-- ---- what a copy leaves

module _ (from to : ℕ → Byte) (size : ℕ) (apart : (j k : ℕ) → j < size → k < size → same_byte (to j) (to k) ≡ (j == k)) where
  -- the write of byte k by a copy that has it
  abbrev of : ℕ → BufferCopy → ByteWrite
  of k g = byte_write (to k) (From (from (g.source_offset + (k - g.destination_offset))))

  -- the first write of a copy to a byte
  region_write : (g : BufferCopy) (a n k : ℕ) → g.destination_offset + a + n ≤ size → k < size → find (λ m. same_byte m.to (to k)) (map (λ j. byte_write (to (g.destination_offset + j)) (From (from (g.source_offset + j)))) (range_with_len a n))
      ≡ (if within (g.destination_offset + a) n k then Some (of k g) else None)
  region_write g a zero k fits lt = sym (ap (λ (t : Bool). if t then Some (of k g) else None) (none (cases_lt k (g.destination_offset + a)))) where
    none : (k < g.destination_offset + a) ⊎ (g.destination_offset + a ≤ k) → within (g.destination_offset + a) 0 k ≡ false
    none (inl lt) = rw (lt-leb (g.destination_offset + a) k lt) refl
    none (inr ge) = rw (le-leb (g.destination_offset + a) k ge, le-ltb k (g.destination_offset + a + 0) (omega (arith, ge))) refl
  region_write g a (suc n) k fits lt = go (eqb (g.destination_offset + a) k) refl (region_write g (a + 1) n k (omega (arith, fits)) lt) where
    rest : Option ByteWrite
    rest = find (λ m. same_byte m.to (to k)) (map (λ j. byte_write (to (g.destination_offset + j)) (From (from (g.source_offset + j)))) (range_with_len (a + 1) n))

    here : same_byte (to (g.destination_offset + a)) (to k) ≡ eqb (g.destination_offset + a) k
    here = apart (g.destination_offset + a) k (omega (arith, fits)) lt

    further : g.destination_offset + a ≢ k → within (g.destination_offset + (a + 1)) n k ≡ within (g.destination_offset + a) (suc n) k
    further ne = by (cases_lt k (g.destination_offset + a)) where
      by : (k < g.destination_offset + a) ⊎ (g.destination_offset + a ≤ k) → within (g.destination_offset + (a + 1)) n k ≡ within (g.destination_offset + a) (suc n) k
      by (inl lt) = rw (lt-leb (g.destination_offset + a) k lt, lt-leb (g.destination_offset + (a + 1)) k (omega (arith, lt))) refl
      by (inr ge) = rw (le-leb (g.destination_offset + a) k ge, le-leb (g.destination_offset + (a + 1)) k (omega (arith, ge, ne))) (ap (nat_lt k) (let e : g.destination_offset + (a + 1) + n ≡ g.destination_offset + a + suc n = omega arith in e))

    go : (u : Bool) → eqb (g.destination_offset + a) k ≡ u → rest ≡ (if within (g.destination_offset + (a + 1)) n k then Some (of k g) else None)
        → cond (same_byte (to (g.destination_offset + a)) (to k)) (Some (byte_write (to (g.destination_offset + a)) (From (from (g.source_offset + a))))) rest ≡ (if within (g.destination_offset + a) (suc n) k then Some (of k g) else None)
    go false e h = rw (here ∙ e) (let ne = eqb-false (g.destination_offset + a) k e in h ∙ ap (λ (t : Bool). if t then Some (of k g) else None) (further ne))
    go true e h =
        let is : g.destination_offset + a ≡ k = eqb-true (g.destination_offset + a) k e in
        let back : a ≡ k - g.destination_offset = omega (arith, is) in
        let inside : within (g.destination_offset + a) (suc n) k ≡ true = rw (le-leb (g.destination_offset + a) k (omega (arith, is)), lt-ltb k (g.destination_offset + a + suc n) (omega (arith, is))) refl in
        rw (here ∙ e, inside) (ap (λ (j : ℕ). Some (byte_write (to j) (From (from (g.source_offset + a))))) is ∙ ap (λ (j : ℕ). Some (byte_write (to k) (From (from (g.source_offset + j))))) back)

  -- the first write of copies to a byte is of the first of them that has it
  copy_write : (gs : List BufferCopy) → ((g : BufferCopy) → Contains gs g → g.destination_offset + g.size ≤ size) → (k : ℕ) → k < size
      → find (λ m. same_byte m.to (to k)) (flat_map (numbered_writes from to) gs) ≡ option_map (of k) (find (λ g. within g.destination_offset g.size k) gs)
  copy_write [] fit k lt = refl
  copy_write (g ∷ gs) fit k lt =
      find-append (λ m. same_byte m.to (to k)) (numbered_writes from to g) (flat_map (numbered_writes from to) gs)
      ∙ rw (first, copy_write gs (λ h c. fit h (contains-tail g gs h c)) k lt) (go (within g.destination_offset g.size k))
    where
      first : find (λ m. same_byte m.to (to k)) (numbered_writes from to g) ≡ (if within g.destination_offset g.size k then Some (of k g) else None)
      first =
          region_write g 0 g.size k (let f = fit g (contains-head g gs) in omega (arith, f)) lt
          ∙ ap (λ (o : ℕ). if within o g.size k then Some (of k g) else None) (let e : g.destination_offset + 0 ≡ g.destination_offset = omega arith in e)

      go : (u : Bool) → option_or (if u then Some (of k g) else None) (option_map (of k) (find (λ g. within g.destination_offset g.size k) gs)) ≡ option_map (of k) (cond u (Some g) (find (λ g. within g.destination_offset g.size k) gs))
      go true = refl
      go false = refl

  -- which bytes are undefined after copies: what the first of them with a byte finds undefined
  pub copy_leaves : (value : Byte → Option ℕ) (gs : List BufferCopy) → ((g : BufferCopy) → Contains gs g → g.destination_offset + g.size ≤ size) → (k : ℕ) → k < size → is_none (after_writes (flat_map (numbered_writes from to) gs) value (to k))
      ≡ elim (find (λ g. within g.destination_offset g.size k) gs) [ None ↦ is_none (value (to k)) | Some g ↦ is_none (value (from (g.source_offset + (k - g.destination_offset)))) ]
  copy_leaves value gs fit k lt = ap (λ (o : Option ByteWrite). is_none (value_after value o (to k))) (copy_write gs fit k lt) ∙ go (find (λ g. within g.destination_offset g.size k) gs) where
    go : (o : Option BufferCopy) → is_none (value_after value (option_map (of k) o) (to k)) ≡ elim o [ None ↦ is_none (value (to k)) | Some g ↦ is_none (value (from (g.source_offset + (k - g.destination_offset)))) ]
    go None = refl
    go (Some g) = refl

-- byte writes that don't write a byte leave its value
pub unwritten : (value : Byte → Option ℕ) (c : Byte) (ms : List ByteWrite) → is_in c (targets ms) ≡ false → after_writes ms value c ≡ value c
unwritten value c [] none = refl
unwritten value c (m ∷ ms) none =
    let parts = or_parts (same_byte c m.to) (is_in c (targets ms)) none in
    rw (same_turned m.to c ∙ parts.0) (unwritten value c ms parts.1)

-- ---- a use

-- whether a use by a family loses what a resource has
abbrev pub loses : Past → ℕ → ℕ → World → Bool
loses past f r w = is_exclusive past r && is_other f (w.owner r)

module _ (past : Past) (f r : ℕ) (w : World) where
  pub used_owner : (s : ℕ) → (used past f r w).owner s ≡ (if is_exclusive past r && s == r then Family f else w.owner s)
  used_owner s = go (is_exclusive past r) where
    go : (b : Bool) → (if b then set_owner r (Family f) (record w { value = if is_other f (w.owner r) then without (λ b. resource_at b == r) w.value else w.value }) else w).owner s ≡ (if b && s == r then Family f else w.owner s)
    go true = refl
    go false = refl

  pub used_value : (b : Byte) → is_none ((used past f r w).value b) ≡ (if resource_at b == r && loses past f r w then true else is_none (w.value b))
  used_value b = go (is_exclusive past r) (is_other f (w.owner r)) where
    pick : (t : Bool) → is_none (if t then None else w.value b) ≡ (if t && true then true else is_none (w.value b))
    pick true = refl
    pick false = refl

    keeps : (t : Bool) → is_none (w.value b) ≡ (if t && false then true else is_none (w.value b))
    keeps true = refl
    keeps false = refl

    go : (x o : Bool) → is_none ((if x then set_owner r (Family f) (record w { value = if o then without (λ c. resource_at c == r) w.value else w.value }) else w).value b) ≡ (if resource_at b == r && (x && o) then true else is_none (w.value b))
    go true true = pick (resource_at b == r)
    go true false = keeps (resource_at b == r)
    go false o = keeps (resource_at b == r)

  pub used_dirty : (b : Byte) → (used past f r w).dirty b ≡ w.dirty b
  used_dirty b = go (is_exclusive past r) where
    go : (x : Bool) → (if x then set_owner r (Family f) (record w { value = if is_other f (w.owner r) then without (λ c. resource_at c == r) w.value else w.value }) else w).dirty b ≡ w.dirty b
    go true = refl
    go false = refl
