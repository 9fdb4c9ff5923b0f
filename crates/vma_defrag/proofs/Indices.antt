-- The index of each move by the number of its allocation.
use Rattle.std.proofs.Common.{◌≡◌, ℕ, zero, suc, ◌+◌, ◌<◌, List, [], ◌∷◌, length, get_or, Some, None, sym, ap, ◌∙◌, arith, inl, inr}
use Rattle.std.specs.Ordering.{nat_cmp}
use Rattle.std.specs.Map.{lookup}
use Rattle.std.specs.BTreeMap.{BTreeMap, Updates, is_at}
use Rattle.std.proofs.lemmas.Bool.{cases_eq}
use Rattle.vk_model.specs.Memory.PassRanks.{AreOnce}
use Rattle.vk_model.proofs.Lists.Keys.{other_key}
use Rattle.vk_model.proofs.Lists.Members.{map_has}
use Rattle.vk_transfer.proofs.Counting.{part_among}
use Rattle.vma_defrag.specs.declared.open.Planned.{Planned}
use Rattle.vma_defrag.specs.Inner.Planned.{move_of, moves_of, AreIndexed}

-- the moves before an index have their indices, and no other does
pub record AreIndexedTo (planned : List Planned) (n : ℕ) (entries : List (ℕ × ℕ)) : Type 0 where
  pub found : (i k : ℕ) → lookup (is_at (nat_cmp i)) entries ≡ Some k → (k < n) × ((p : Planned) → (get_or planned k p).allocation ≡ i)
  pub all : (k : ℕ) (p : Planned) → k < n → lookup (is_at (nat_cmp (get_or planned k p).allocation)) entries ≡ Some k

-- two moves are of two allocations
once-apart : (ps : List Planned) → AreOnce (moves_of ps) → (k n : ℕ) (d e : Planned) → k < n → n < length ps → (get_or ps k d).allocation ≡ (get_or ps n e).allocation → ⊥
once-apart [] once k n d e less lt same = absurd (omega (arith, lt))
once-apart (p ∷ ps) once zero zero d e less lt same = absurd (omega (arith, less))
once-apart (p ∷ ps) once zero (suc n) d e less lt same =
    once.0 (move_of (get_or ps n e)) (map_has move_of ps (get_or ps n e) (part_among ps n e (omega (arith, lt)))) same
once-apart (p ∷ ps) once (suc k) zero d e less lt same = absurd (omega (arith, less))
once-apart (p ∷ ps) once (suc k) (suc n) d e less lt same = once-apart ps once.1 k n d e (omega (arith, less)) (omega (arith, lt)) same

pub none-indexed : (planned : List Planned) (entries : List (ℕ × ℕ)) → entries ≡ [] → AreIndexedTo planned 0 entries
none-indexed planned entries e = record {
  found = λ i k at. absurd (let n = ap (λ l. lookup (is_at (nat_cmp i)) l) e in let s : Some k ≡ None = sym at ∙ n in cc);
  all = λ k p lt. absurd (omega (arith, lt));
}

module _ (planned : List Planned) (once : AreOnce (moves_of planned)) (n : ℕ) (old new : BTreeMap ℕ ℕ) (lt : n < length planned) (h : AreIndexedTo planned n old.entries) (key : ℕ) (its : (p : Planned) → (get_or planned n p).allocation ≡ key) (update : Updates nat_cmp old new key (Some n)) where
  -- another number is looked up as before
  other : (i : ℕ) → (i ≡ key → ⊥) → lookup (is_at (nat_cmp i)) new.entries ≡ lookup (is_at (nat_cmp i)) old.entries
  other i apart = update.2 i (other_key key i apart)

  pub more-indexed : AreIndexedTo planned (n + 1) new.entries
  more-indexed = record {
    found = λ i k at. elim (cases_eq i key) [
      | inl is ↦ (
          let here : Some n ≡ Some k = sym update.1 ∙ ap (λ (j : ℕ). lookup (is_at (nat_cmp j)) new.entries) (sym is) ∙ at in
          let same : n ≡ k = cc in
          (omega (arith, same), λ p. ap (λ (j : ℕ). (get_or planned j p).allocation) (sym same) ∙ its p ∙ sym is))
      | inr apart ↦ (let old-one = h.found i k (sym (other i apart) ∙ at) in (let l = old-one.0 in omega (arith, l), old-one.1))
    ];
    all = λ k p less. elim (cases_eq k n) [
      | inl is ↦ ap (λ (j : ℕ). lookup (is_at (nat_cmp j)) new.entries) (ap (λ (j : ℕ). (get_or planned j p).allocation) is ∙ its p) ∙ update.1 ∙ ap (λ (j : ℕ). Some j) (sym is)
      | inr apart ↦ (let below : k < n = omega (arith, less, apart) in
          other (get_or planned k p).allocation (λ e. once-apart planned once k n p p below lt (e ∙ sym (its p))) ∙ h.all k p below)
    ];
  }

pub all-indexed : (planned : List Planned) (entries : List (ℕ × ℕ)) → AreIndexedTo planned (length planned) entries → AreIndexed planned entries
all-indexed planned entries h = record { found = h.found; all = h.all }
