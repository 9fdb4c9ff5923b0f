-- What is taken by all slots, where one is taken more.
use Rattle.std.proofs.Common.{◌≡◌, ℕ, zero, suc, List, [], ◌∷◌, ◌++◌, Option, refl, ap, sym, arith}
use Rattle.std.specs.Prelude.{IsPermutation}
use Rattle.std.proofs.lemmas.List.Sorted.{IsPermutation-refl, IsPermutation-trans, IsPermutation-middle, IsPermutation-append_right}
use Rattle.vk_nodes.specs.declared.node.Node.{Node}
use Rattle.vk_model.specs.Memory.Suballocation.{Taken}
use Rattle.vma_tlsf.specs.Inner.Chain.{range_in, seen, taken_here, taken_in}
use Rattle.vma_tlsf.specs.Inner.Steps.{KeepsOthers}

pub same_taken : (a b : List (Option Node)) → ((i : ℕ) → taken_here (seen a i) ≡ taken_here (seen b i)) → taken_in a ≡ taken_in b
same_taken [] [] same = refl
same_taken [] (y ∷ ys) same = rw (sym (same 0)) (same_taken [] ys (λ i. same (suc i)))
same_taken (x ∷ xs) [] same = rw (same 0) (same_taken xs [] (λ i. same (suc i)))
same_taken (x ∷ xs) (y ∷ ys) same = rw (same 0) (ap (λ ts. taken_here (range_in y) ++ ts) (same_taken xs ys (λ i. same (suc i))))

-- one more is taken
module _ (t : Taken) where
  pub more_taken : (old new : List (Option Node)) (slot : ℕ) → KeepsOthers old new slot → taken_here (seen old slot) ≡ [] → taken_here (seen new slot) ≡ t ∷ [] → IsPermutation (taken_in new) (t ∷ taken_in old)
  more_taken old [] slot keeps none one = absurd cc
  more_taken [] (x ∷ xs) zero keeps none one =
      let rest : taken_in xs ≡ taken_in [] = same_taken xs [] (λ i. keeps (suc i) (λ e. omega arith)) in
      rw (one, rest) (IsPermutation-refl (t ∷ []))
  more_taken (y ∷ ys) (x ∷ xs) zero keeps none one =
      let rest : taken_in xs ≡ taken_in ys = same_taken xs ys (λ i. keeps (suc i) (λ e. omega arith)) in
      rw (one, none, rest) (IsPermutation-refl (t ∷ taken_in ys))
  more_taken [] (x ∷ xs) (suc slot) keeps none one =
      let here : taken_here (range_in x) ≡ [] = keeps 0 (λ e. omega arith) in
      rw here (more_taken [] xs slot (λ i other. keeps (suc i) (λ e. other (omega arith))) none one)
  more_taken (y ∷ ys) (x ∷ xs) (suc slot) keeps none one =
      let here : taken_here (range_in x) ≡ taken_here (range_in y) = keeps 0 (λ e. omega arith) in
      let rest = more_taken ys xs slot (λ i other. keeps (suc i) (λ e. other (omega arith))) none one in
      let c = taken_here (range_in y) in
      rw here (IsPermutation-trans (c ++ taken_in xs) (c ++ t ∷ taken_in ys) (t ∷ (c ++ taken_in ys))
      (IsPermutation-append_right c (taken_in xs) (t ∷ taken_in ys) rest)
      (IsPermutation-middle c t (taken_in ys)))
