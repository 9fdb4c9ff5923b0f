-- What is taken by slots, as a list of ranges.
use Rattle.std.proofs.Common.{◌≡◌, ℕ, zero, suc, List, [], ◌∷◌, ◌++◌, take, Option, Some, None, refl, ap, sym, subst, ◌∙◌}
use Rattle.std.specs.Prelude.{map, IsPermutation}
use Rattle.std.proofs.lemmas.List.{append-nil, map-append}
use Rattle.std.proofs.lemmas.List.Sorted.{IsPermutation-map, IsPermutation-sym}
use Rattle.vk_nodes.specs.declared.node.Node.{Node}
use Rattle.vk_model.specs.declared.suballoc.TakenRange.{TakenRange}
use Rattle.vk_model.specs.Memory.Suballocation.{Taken}
use Rattle.vk_model.specs.Memory.TakenRanges.{taken_of}
use Rattle.vma_tlsf.specs.Block.{Block, taken}
use Rattle.vma_tlsf.specs.Inner.Chain.{range_in, seen, taken_in, taken_here}
use Rattle.vma_tlsf.specs.Inner.Fits.{IsBlock}
use Rattle.vma_tlsf.specs.Inner.Listed.{IsTakenHere}
use Rattle.vma_tlsf.proofs.Freed.{now_taken}

assoc : (xs ys zs : List Taken) → (xs ++ ys) ++ zs ≡ xs ++ (ys ++ zs)
assoc [] ys zs = refl
assoc (x ∷ xs) ys zs = ap (λ ts. x ∷ ts) (assoc xs ys zs)

pub taken_next : (nodes : List (Option Node)) (k : ℕ) → taken_in (take (suc k) nodes) ≡ taken_in (take k nodes) ++ taken_here (seen nodes k)
taken_next [] zero = refl
taken_next [] (suc k) = refl
taken_next (x ∷ xs) zero = append-nil (taken_here (range_in x))
taken_next (x ∷ xs) (suc k) = ap (λ ts. taken_here (range_in x) ++ ts) (taken_next xs k) ∙ sym (assoc (taken_here (range_in x)) (taken_in (take k xs)) (taken_here (seen xs k)))

-- the list one slot further
pub with_more : (nodes : List (Option Node)) (k next : ℕ) (ranges : List TakenRange) (r : TakenRange) → map taken_of ranges ≡ taken_in (take k nodes) → IsTakenHere nodes k (Some r) → next ≡ suc k → map taken_of (ranges ++ r ∷ []) ≡ taken_in (take next nodes)
with_more nodes k next ranges r so_far here e = rw e (map-append taken_of ranges (r ∷ []) ∙ ap (λ ts. ts ++ taken_of r ∷ []) so_far ∙ ap (λ ts. taken_in (take k nodes) ++ ts) (sym here) ∙ sym (taken_next nodes k))

pub with_none : (nodes : List (Option Node)) (k next : ℕ) (ranges : List TakenRange) → map taken_of ranges ≡ taken_in (take k nodes) → IsTakenHere nodes k None → next ≡ suc k → map taken_of ranges ≡ taken_in (take next nodes)
with_none nodes k next ranges so_far here e = rw e (so_far ∙ sym (append-nil (taken_in (take k nodes))) ∙ ap (λ ts. taken_in (take k nodes) ++ ts) (sym here) ∙ sym (taken_next nodes k))

-- the list in another order
pub listed_seen : (whole root : ℕ) (nodes : List (Option Node)) (now : Block) (old new : List TakenRange) → IsBlock whole root nodes → record { size = whole; taken = taken_in nodes } ≡ now → map taken_of old ≡ taken_in nodes → IsPermutation old new → IsPermutation (map taken_of new) (taken now)
listed_seen whole root nodes now old new block view same moved =
    subst (λ ts. IsPermutation (map taken_of new) ts) (same ∙ sym (now_taken whole root nodes now block view)) (IsPermutation-sym (map taken_of old) (map taken_of new) (IsPermutation-map taken_of old new moved))

-- the same, where the match says so
pub with_default : (nodes : List (Option Node)) (k next : ℕ) (ranges : List TakenRange) (found : Option TakenRange) → map taken_of ranges ≡ taken_in (take k nodes) → IsTakenHere nodes k found → ((r : TakenRange) → found ≡ Some r → ⊥) → next ≡ suc k → map taken_of ranges ≡ taken_in (take next nodes)
with_default nodes k next ranges None so_far here none e = with_none nodes k next ranges so_far here e
with_default nodes k next ranges (Some r) so_far here none e = absurd (none r refl)
