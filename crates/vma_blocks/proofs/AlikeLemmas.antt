-- What holds of a block holds of each that is alike.
use Rattle.std.proofs.Common.{◌≡◌, ℕ, ◌+◌, ◌%◌, ◌<◌, List, Bool, not, ◌==◌, ◌&&◌, nat_le, refl, sym, ap, subst, ◌∙◌}
use Rattle.std.specs.Prelude.{IsPermutation, IsTrue}
use Rattle.std.proofs.lemmas.List.Sorted.{IsPermutation-refl, IsPermutation-sym, IsPermutation-trans, IsPermutation-cons, All-permutation, length_permutation, list_any-IsPermutation}
use Rattle.vk_model.specs.Memory.Suballocation.{Taken, Request, IsSound, conflict, taken_at}
use Rattle.vk_model.specs.Memory.LinearBlocks.{others}
use Rattle.vk_model.specs.Memory.Room.{Block, General, Stack, BlockHolds, fits, is_none_left}
use Rattle.vk_model.specs.Memory.Pools.{BlockGives, IsSoundBlock, block_bytes, block_taken, block_with, block_without}
use Rattle.vk_model.proofs.Memory.Taken.{sound_permuted}
use Rattle.vma_blocks.specs.Alike.{IsAlike, IsGeneral}
use Rattle.vma_tlsf.proofs.Permutations.{IsPermutation-filter}

-- ---- an equivalence

pub alike-refl : (k : Block) → IsAlike k k
alike-refl (General size taken) = (refl, IsPermutation-refl taken)
alike-refl (Stack b) = refl

pub alike-sym : (k l : Block) → IsAlike k l → IsAlike l k
alike-sym (General size taken) (General n others) h = (sym h.0, IsPermutation-sym taken others h.1)
alike-sym (Stack b) (Stack c) h = sym h
alike-sym (General size taken) (Stack c) h = absurd h
alike-sym (Stack b) (General n others) h = absurd h

pub alike-trans : (k l m : Block) → IsAlike k l → IsAlike l m → IsAlike k m
alike-trans (General size taken) (General n some) (General o more) h i = (i.0 ∙ h.0, IsPermutation-trans taken some more h.1 i.1)
alike-trans (Stack b) (Stack c) (Stack d) h i = i ∙ h
alike-trans (General size taken) (General n some) (Stack d) h i = absurd i
alike-trans (General size taken) (Stack c) m h i = absurd h
alike-trans (Stack b) (Stack c) (General o more) h i = absurd i
alike-trans (Stack b) (General n some) m h i = absurd h

pub alike-same : (k l : Block) → l ≡ k → IsAlike k l
alike-same k l e = subst (λ (x : Block). IsAlike k x) (sym e) (alike-refl k)

-- ---- places

module _ (taken more : List Taken) (same : IsPermutation taken more) where
  pub fits_alike : (r : Request) (low high start : ℕ) → fits more r low high start ≡ fits taken r low high start
  fits_alike r low high start =
      ap (λ (b : Bool). start % r.align == 0 && nat_le low start && nat_le (start + r.size) high && not b)
      (sym (list_any-IsPermutation (λ t. conflict r.kind start r.size t.kind t.start t.size) taken more same))

-- ---- one block and another that is alike

pub alike-bytes : (k l : Block) → IsAlike k l → block_bytes l ≡ block_bytes k
alike-bytes (General size taken) (General n more) h = h.0
alike-bytes (Stack b) (Stack c) h = ap (λ x. x.size) h
alike-bytes (General size taken) (Stack c) h = absurd h
alike-bytes (Stack b) (General n more) h = absurd h

pub alike-taken : (k l : Block) → IsAlike k l → IsPermutation (block_taken k) (block_taken l)
alike-taken (General size taken) (General n more) h = h.1
alike-taken (Stack b) (Stack c) h = subst (λ x. IsPermutation (block_taken (Stack b)) (block_taken (Stack x))) (sym h) (IsPermutation-refl (block_taken (Stack b)))
alike-taken (General size taken) (Stack c) h = absurd h
alike-taken (Stack b) (General n more) h = absurd h

pub alike-gives : (k l : Block) (r : Request) (upper : Bool) (start : ℕ) → IsAlike k l → BlockGives k r upper start → BlockGives l r upper start
alike-gives (General size taken) (General n more) r upper start h g = subst (λ m. IsTrue (fits more r 0 m start)) (sym h.0) (fits_alike taken more h.1 r 0 size start ∙ g)
alike-gives (Stack b) (Stack c) r upper start h g = subst (λ x. BlockGives (Stack x) r upper start) (sym h) g
alike-gives (General size taken) (Stack c) r upper start h g = absurd h
alike-gives (Stack b) (General n more) r upper start h g = absurd h

pub alike-holds : (k l : Block) (r : Request) (upper : Bool) → IsAlike k l → BlockHolds k r upper → BlockHolds l r upper
alike-holds (General size taken) (General n more) r upper h g = (g.0, alike-gives (General size taken) (General n more) r upper g.0 h g.1)
alike-holds (Stack b) (Stack c) r upper h g = subst (λ x. BlockHolds (Stack x) r upper) (sym h) g
alike-holds (General size taken) (Stack c) r upper h g = absurd h
alike-holds (Stack b) (General n more) r upper h g = absurd h

pub alike-with : (k l : Block) (r : Request) (upper : Bool) (start : ℕ) → IsAlike k l → IsAlike (block_with k r upper start) (block_with l r upper start)
alike-with (General size taken) (General n more) r upper start h = (h.0, IsPermutation-cons (taken_at start r) taken more h.1)
alike-with (Stack b) (Stack c) r upper start h = alike-same (block_with (Stack b) r upper start) (block_with (Stack c) r upper start) (ap (λ x. block_with (Stack x) r upper start) h)
alike-with (General size taken) (Stack c) r upper start h = absurd h
alike-with (Stack b) (General n more) r upper start h = absurd h

pub alike-without : (k l : Block) (start : ℕ) → IsAlike k l → IsAlike (block_without k start) (block_without l start)
alike-without (General size taken) (General n more) start h = (h.0, IsPermutation-filter (λ t. not (t.start == start)) taken more h.1)
alike-without (Stack b) (Stack c) start h = alike-same (block_without (Stack b) start) (block_without (Stack c) start) (ap (λ x. block_without (Stack x) start) h)
alike-without (General size taken) (Stack c) start h = absurd h
alike-without (Stack b) (General n more) start h = absurd h

pub alike-sound : (k l : Block) → IsAlike k l → IsSoundBlock k → IsSoundBlock l
alike-sound (General size taken) (General n more) h s =
    (All-permutation (λ t. 0 < t.size) taken more h.1 s.0, subst (λ m. IsSound m more) (sym h.0) (sound_permuted size taken more h.1 s.1))
alike-sound (Stack b) (Stack c) h s = subst (λ x. IsSoundBlock (Stack x)) (sym h) s
alike-sound (General size taken) (Stack c) h s = absurd h
alike-sound (Stack b) (General n more) h s = absurd h

pub alike-general : (k l : Block) → IsAlike k l → IsGeneral k → IsGeneral l
alike-general (General size taken) (General n more) h g = g
alike-general (Stack b) (Stack c) h g = absurd g
alike-general (General size taken) (Stack c) h g = absurd h
alike-general (Stack b) (General n more) h g = absurd g

-- ---- what follows of its ranges

module _ (k l : Block) (h : IsAlike k l) where
  pub alike-none_left : is_none_left (block_taken l) ≡ is_none_left (block_taken k)
  alike-none_left = ap (λ (n : ℕ). n == 0) (length_permutation (block_taken k) (block_taken l) (alike-taken k l h))
