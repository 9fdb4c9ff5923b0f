-- Lemmas on what is held of the bytes of many objects, of which one is changed.
use Rattle.std.proofs.Common.{◌≡◌, ◌⊎◌, inl, inr, ℕ, ◌+◌, ◌-◌, ◌/◌, ◌<◌, ◌≤◌, List, [], length, get_or, set, refl, ap, sym, ◌∙◌, subst, arith, Bool, true, false, ◌&&◌, nat_lt, nat_le, if◌then◌else◌, Option, Some, None, min, get_or-set_other}
use Rattle.std.proofs.lemmas.Bool.{cases_lt, and_left, and_right, lt-ltb, le-ltb, le-leb, lt-leb, and_from}
use Rattle.std.proofs.lemmas.List.{get_or-set_same, get_or_past, get_or_read}
use Rattle.vk_model.specs.declared.command.Length.TheVariants as length_of
use Rattle.vk_model.specs.World.Effect.{in_atoms}
use Rattle.vk_model.specs.Run.Caches.{Held, Cell, loaded, loaded_if, forgotten}
use Rattle.vk_map_cache.specs.Holdings.{Holdings, held_in, held_at, IsCellOf, IsCell, ChangesOf, Changes, HoldsSame, only_where}
use Rattle.vk_map_cache.proofs.CellLemmas.{same_cell}
use Rattle.vk_map_cache.proofs.HoldingLemmas.{in_range_or}

-- one object is changed
pub one_object : {a : ℕ} (f : ℕ → Cell → Cell) (memory : ℕ) (old mid : Holdings) (object after : List (Option Held)) (region region' : List ℕ)
    → HoldsSame old mid → memory < length mid → object ≡ get_or mid memory [] → length region' ≡ length region
    → ((k : ℕ) (cell : Cell) → IsCellOf a (held_in object k) (get_or region k 0) cell → IsCellOf a (held_in after k) (get_or region' k 0) (f k cell))
    → ChangesOf a f memory old (set mid memory after) region region'
one_object f memory old mid object after region region' same named is long each = record {
  bytes = λ k cell was.
      same_cell (sym (ap (λ (o : List (Option Held)). held_in o k) (get_or-set_same mid memory after [] named))) refl
      (each k cell (same_cell (sym (same memory k) ∙ sym (ap (λ (o : List (Option Held)). held_in o k) is)) refl was));
  others = λ number k other. ap (λ (o : List (Option Held)). held_in o k) (get_or-set_other mid memory number after [] other) ∙ same number k;
  size = long;
}

-- the same lists hold the same
pub holds_same : (old mid : Holdings) → mid ≡ old → HoldsSame old mid
holds_same old mid is number k = ap (λ (c : Holdings). held_at c number k) is

-- an object that was read
pub object_read : (cache : Holdings) (memory : ℕ) (object : List (Option Held)) → memory < length cache → object ≡ get_or cache memory object → object ≡ get_or cache memory []
object_read cache memory object named is = get_or_read cache memory object named is []

-- ---- tests

-- another test of the same bytes
pub retested : (f : Cell → Cell) (memory : ℕ) (old new : Holdings) (region region' : List ℕ) (test test' : ℕ → Bool) → ((k : ℕ) → test k ≡ test' k)
    → Changes (only_where test f) memory old new region region' → Changes (only_where test' f) memory old new region region'
retested f memory old new region region' test test' alike was = record {
  bytes = λ k cell at. let P : Bool → Type 0 = λ t. IsCell (held_at new memory k) (get_or region' k 0) (if t then f cell else cell) in subst P (alike k) (was.bytes k cell at);
  others = was.others;
  size = was.size;
}

-- a range that ends with its object
pub ended : (inner : ℕ → Bool) (low high len k : ℕ) → high ≤ len → (k < len → inner k ≡ (nat_le low k && nat_lt k high)) → (nat_le low k && nat_lt k high) ≡ (nat_lt k len && inner k)
ended inner low high len k end is = elim (cases_lt k len) [
  | inl lt ↦ sym (is lt) ∙ sym (ap (λ (t : Bool). t && inner k) (lt-ltb k len lt))
  | inr le ↦ and_right (nat_le low k) (nat_lt k high) (le-ltb k high (omega (arith, end, le))) ∙ sym (and_left (nat_lt k len) (inner k) (le-ltb k len le))
]

same_either_way : (f : Cell → Cell) (cell : Cell) (t : Bool) → f cell ≡ cell → (if t then f cell else cell) ≡ cell
same_either_way f cell true keeps = keeps
same_either_way f cell false keeps = refl

-- a range cut to the room that there is, where the change leaves alone what isn't held
pub clipped : (f : Cell → Cell) (object : List (Option Held)) (value low high low' high' k : ℕ) (cell : Cell) → ((c : Cell) → c.held 0 ≡ None → f c ≡ c)
    → high' ≡ min high (length object) → low' ≡ min low high' → IsCell (held_in object k) value cell
    → (if nat_le low' k && nat_lt k high' then f cell else cell) ≡ (if nat_le low k && nat_lt k high then f cell else cell)
clipped f object value low high low' high' k cell keeps is_high is_low was = elim (cases_lt k (length object)) [
  | inl lt ↦ ap (λ (t : Bool). if t then f cell else cell) (alike lt)
  | inr le ↦
      let still = keeps cell (was.held ∙ get_or_past object k None le) in
      same_either_way f cell (nat_le low' k && nat_lt k high') still ∙ sym (same_either_way f cell (nat_le low k && nat_lt k high) still)
]
  where
    alike : k < length object → (nat_le low' k && nat_lt k high') ≡ (nat_le low k && nat_lt k high)
    alike lt = elim (in_range_or low high k) [
      | inl (is, ge, less) ↦ and_from (nat_le low' k) (nat_lt k high') (le-leb low' k (omega (arith, is_low, ge))) (lt-ltb k high' (omega (arith, is_high, less, lt))) ∙ sym is
      | inr (is, out) ↦ outside out ∙ sym is
    ]
      where
        outside : (k < low) ⊎ (high ≤ k) → (nat_le low' k && nat_lt k high') ≡ false
        outside (inl less) = elim (cases_lt k low') [
          | inl below ↦ and_left (nat_le low' k) (nat_lt k high') (lt-leb low' k below)
          | inr above ↦ and_right (nat_le low' k) (nat_lt k high') (le-ltb k high' (omega (arith, is_low, less, above)))
        ]
        outside (inr ge) = and_right (nat_le low' k) (nat_lt k high') (le-ltb k high' (omega (arith, is_high, ge)))

-- ---- one thing after another

-- the same is held after a change
pub then_same : (f : ℕ → Cell → Cell) (memory : ℕ) (old mid new : Holdings) (region region' : List ℕ) → Changes f memory old mid region region' → HoldsSame mid new → Changes f memory old new region region'
then_same f memory old mid new region region' was same = record {
  bytes = λ k cell at. same_cell (sym (same memory k)) refl (was.bytes k cell at);
  others = λ number k other. same number k ∙ was.others number k other;
  size = was.size;
}

-- a range of all that there is room for reaches every byte
pub reaches_all : (offset size k : ℕ) → offset ≡ 0 → k < size → in_atoms offset (length_of.Bytes size) k ≡ true
reaches_all offset size k start lt =
    and_from (nat_lt 0 size && nat_le (offset / 64) (k / 64)) (nat_le (k / 64) ((offset + size - 1) / 64))
    (and_from (nat_lt 0 size) (nat_le (offset / 64) (k / 64)) (lt-ltb 0 size (omega (arith, lt))) (le-leb (offset / 64) (k / 64) (omega (arith, start))))
    (le-leb (k / 64) ((offset + size - 1) / 64) (omega (arith, start, lt)))

-- what is forgotten isn't held
pub all_forgotten : (offset size memory : ℕ) (old new : Holdings) → ((region : List ℕ) → Changes (only_where (in_atoms offset (length_of.Bytes size)) (forgotten 0)) memory old new region region)
    → offset ≡ 0 → length (get_or new memory []) ≤ size → (k : ℕ) → held_at new memory k ≡ None
all_forgotten offset size memory old new changes start all k = elim (cases_lt k (length (get_or new memory []))) [
  | inl lt ↦
      let cell : Cell = record { region = 0; held = λ a. held_at old memory k } in
      let now = (changes []).bytes k cell (record { held = refl; region = refl }) in
      let reached = reaches_all offset size k start (omega (arith, lt, all)) in
      sym now.held ∙ ap (λ (t : Bool). (if t then forgotten 0 cell else cell).held 0) reached
  | inr ge ↦ get_or_past (get_or new memory []) k None ge
]

-- ---- changes that leave something alone

-- what is loaded stays in memory
pub region-loaded : (cell : Cell) → (loaded 0 cell).region ≡ cell.region
region-loaded cell = go (cell.held 0)
  where
    go : (h : Option Held) → (loaded_if 0 h cell).region ≡ cell.region
    go None = refl
    go (Some h) = refl

-- a range of an object in which nothing is held past the end
pub forgotten_past : (inner : Bool) (object after : List (Option Held)) (value low high k : ℕ) (cell : Cell) → length after ≡ length object → high ≤ length object
    → (k < length object → inner ≡ (nat_le low k && nat_lt k high))
    → IsCell (held_in object k) value cell → IsCell (held_in after k) value (if nat_le low k && nat_lt k high then forgotten 0 cell else cell) → IsCell (held_in after k) value (if inner then forgotten 0 cell else cell)
forgotten_past inner object after value low high k cell long end is was now = elim (cases_lt k (length object)) [
  | inl lt ↦ let P : Bool → Type 0 = λ t. IsCell (held_in after k) value (if t then forgotten 0 cell else cell) in subst P (sym (is lt)) now
  | inr le ↦ past inner (get_or_past after k None (omega (arith, long, le))) (get_or_past object k None le)
]
  where
    past : (t : Bool) → held_in after k ≡ None → held_in object k ≡ None → IsCell (held_in after k) value (if t then forgotten 0 cell else cell)
    past true none was_none = record { held = sym none; region = was.region }
    past false none was_none = same_cell (was_none ∙ sym none) refl was
