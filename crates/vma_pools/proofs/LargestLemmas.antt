-- The longest free range of the first blocks.
use Rattle.std.proofs.Common.{◌≡◌, ℕ, zero, suc, ◌+◌, ◌<◌, ◌≤◌, List, [], ◌∷◌, length, get_or, refl, sym, ap, subst, ◌∙◌, arith, ◌⊎◌, inl, inr}
use Rattle.std.specs.Prelude.{IsTrue}
use Rattle.std.proofs.lemmas.Bool.{cases_lt}
use Rattle.std.proofs.lemmas.List.{get_or_default, length-map}
use Rattle.vk_model.specs.Memory.Suballocation.{IsLargestFree, is_free}
use Rattle.vk_model.specs.Memory.Room.{Block}
use Rattle.vk_model.specs.Memory.MoveTargets.{Numbered}
use Rattle.vk_model.specs.Memory.Pools.{IsLargestIn, block_bytes, block_taken, numbered_blocks}
use Rattle.vma_pools.specs.declared.blocks.Held.{Held}
use Rattle.vma_pools.proofs.WalkLemmas.{get_or-map-in}
use Rattle.vma_pools.specs.Inner.Lower.{ranges_of}
use Rattle.vma_pools.specs.Inner.Walk.{numbered, seen}

-- of the blocks below an index
pub record IsLargestTo {B : Type 0} (block : B → Block) (xs : List (Held B)) (i largest : ℕ) : Type 0 where
  pub found : (largest ≡ 0) ⊎ ((k : ℕ) × (x : Held B) × (k < length xs) × (get_or xs k x ≡ x) × (start : ℕ) × IsTrue (is_free (block_bytes (block x.block)) (block_taken (block x.block)) start largest))
  pub most : (k : ℕ) (d : Held B) (start n : ℕ) → k < i → IsTrue (is_free (block_bytes (block (get_or xs k d).block)) (block_taken (block (get_or xs k d).block)) start n) → n ≤ largest

pub largest-next : {B : Type 0} (block : B → Block) (xs : List (Held B)) (i m n l : ℕ) (x : Held B) → i < length xs → x ≡ get_or xs i x → IsLargestTo block xs i m → IsLargestFree (block_bytes (block x.block)) (block_taken (block x.block)) n
    → ((m < n) × (l ≡ n)) ⊎ ((n ≤ m) × (l ≡ m)) → IsLargestTo block xs (i + 1) l
largest-next {B} block xs i m n l x lt is to free which =
    record {
      found = elim which [
        | inl more ↦ inr (i, x, lt, sym is, free.start, subst (λ (k : ℕ). IsTrue (is_free (block_bytes (block x.block)) (block_taken (block x.block)) free.start k)) (sym more.1) free.free)
        | inr less ↦ subst Found (sym less.1) to.found
      ];
      most = λ k d start other before clear. elim (cases_lt k i) [
        | inl earlier ↦ let old = to.most k d start other earlier clear in omega (arith, old, bounds)
        | inr ge ↦
            let same : get_or xs k d ≡ x = let at : k ≡ i = omega (arith, ge, before) in ap (λ (j : ℕ). get_or xs j d) at ∙ get_or_default xs i d x lt ∙ sym is in
            let new = free.most start other (subst (λ (y : Held B). IsTrue (is_free (block_bytes (block y.block)) (block_taken (block y.block)) start other)) same clear) in omega (arith, new, bounds)
      ];
    }
  where
    bounds : (m ≤ l) × (n ≤ l)
    bounds = elim which [ inl more ↦ (omega (arith, more.0, more.1), omega (arith, more.1)) | inr less ↦ (omega (arith, less.1), omega (arith, less.0, less.1)) ]

    Found : ℕ → Type 0
    Found j = (j ≡ 0) ⊎ ((k : ℕ) × (y : Held B) × (k < length xs) × (get_or xs k y ≡ y) × (start : ℕ) × IsTrue (is_free (block_bytes (block y.block)) (block_taken (block y.block)) start j))

seen-at : {B : Type 0} (block : B → Block) (xs : List (Held B)) (k : ℕ) (d : Numbered) → k < length (numbered_blocks (seen block xs))
    → (x : Held B) × (k < length xs) × (get_or xs k x ≡ x) × (get_or (numbered_blocks (seen block xs)) k d ≡ ranges_of (numbered block x))
seen-at block [] k d lt = absurd (omega (arith, lt))
seen-at block (x ∷ xs) zero d lt = (x, omega arith, refl, refl)
seen-at block (x ∷ xs) (suc k) d lt = let r = seen-at block xs k d (omega (arith, lt)) in (r.0, omega (arith, r.1), r.2, r.3)

pub largest-all : {B : Type 0} (block : B → Block) (xs : List (Held B)) (i m : ℕ) → length xs ≤ i → IsLargestTo block xs i m → IsLargestIn (numbered_blocks (seen block xs)) m
largest-all {B} block xs i m all to =
    record {
      found = elim to.found [
        | inl none ↦ inl none
        | inr f ↦
            let here : get_or (numbered_blocks (seen block xs)) f.0 (ranges_of (numbered block f.1)) ≡ ranges_of (numbered block f.1) =
            get_or-map-in ranges_of (seen block xs) f.0 (numbered block f.1) (ranges_of (numbered block f.1)) (omega (arith, f.2, length-map xs (numbered block)))
            ∙ ap ranges_of (get_or-map-in (numbered block) xs f.0 f.1 (numbered block f.1) f.2 ∙ ap (numbered block) f.3) in
            inr (f.0, ranges_of (numbered block f.1), omega (arith, f.2, length-map xs (numbered block), length-map (seen block xs) ranges_of), here, (f.4, f.5))
      ];
      most = λ k d lt start n clear.
          let at = seen-at block xs k d lt in
          to.most k at.0 start n (omega (arith, at.1, all))
          (subst (λ (y : Held B). IsTrue (is_free (block_bytes (block y.block)) (block_taken (block y.block)) start n)) (sym at.2)
          (subst (λ (b : Numbered). IsTrue (is_free b.size b.taken start n)) at.3 clear));
    }
