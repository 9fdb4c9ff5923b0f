-- What is left of a block when the range at a start is given back.
use Rattle.std.proofs.Common.{◌≡◌, ℕ, ◌<◌, ◌==◌, List, [], ◌∷◌, Bool, false, not, Option, refl, ap, sym, subst, ◌∙◌, arith}
use Rattle.std.specs.Prelude.{All, IsPermutation}
use Rattle.std.specs.List.{list_any}
use Rattle.std.proofs.lemmas.List.Sorted.{All-permutation}
use Rattle.std.proofs.lemmas.List.Elements.{All-nil, All-cons, All-tail, All-head}
use Rattle.std.proofs.lemmas.Bool.{eq-eqb, eqb-true, eqb-false, or_parts, false_from_ne_true}
use Rattle.vk_nodes.specs.declared.node.Node.{Node}
use Rattle.vk_model.specs.Memory.Suballocation.{Taken, IsSound, IsApart, TakesAway}
use Rattle.vk_model.specs.Memory.LinearBlocks.{others}
use Rattle.vk_model.proofs.Memory.AllPairs.{pairs_first}
use Rattle.vk_model.proofs.Memory.Taken.{sound_permuted}
use Rattle.vk_model.proofs.Memory.Freeing.{not_together}
use Rattle.vma_tlsf.specs.Block.{Block, taken}
use Rattle.vma_tlsf.specs.Inner.Chain.{seen, taken_in}
use Rattle.vma_tlsf.specs.Inner.Fits.{IsBlock}
use Rattle.vma_tlsf.specs.Inner.Sound.{taken_is_sound}
use Rattle.vma_tlsf.proofs.Conflicts.{any_none}
use Rattle.vma_tlsf.proofs.Freed.{now_taken}
use Rattle.vma_tlsf.proofs.Longest.{clear_here}
use Rattle.vma_tlsf.proofs.Permutations.{IsPermutation-filter}

-- ---- ranges that start elsewhere

all_others : (start : ℕ) (t : Taken) (us : List Taken) → t.start ≡ start → 0 < t.size → All (λ u. 0 < u.size) us → All (IsApart t) us → others start us ≡ us
all_others start t [] here some sized apart = refl
all_others start t (u ∷ us) here some sized apart =
    let differ : (u.start == start) ≡ false = false_from_ne_true (u.start == start) (λ e.
    not_together t u some (All-head (λ v. 0 < v.size) u us sized) (All-head (IsApart t) u us apart) (here ∙ sym (eqb-true u.start start e))) in
    rw differ (ap (λ vs. u ∷ vs) (all_others start t us here some (All-tail (λ v. 0 < v.size) u us sized) (All-tail (IsApart t) u us apart)))

pub left_others : (size start : ℕ) (old new : List Taken) → All (λ t. 0 < t.size) old → IsSound size old → TakesAway old new start → IsPermutation (others start old) new
left_others size start old new sized sound away =
    let t = away.0 in
    let is_other = λ (u : Taken). not (u.start == start) in
    let some = All-permutation (λ u. 0 < u.size) old (t ∷ new) away.2 sized in
    let apart = pairs_first IsApart t new (sound_permuted size old (t ∷ new) away.2 sound).apart in
    let gone : others start (t ∷ new) ≡ others start new = rw (eq-eqb t.start start away.1) refl in
    let rest : others start new ≡ new = all_others start t new away.1 (All-head (λ u. 0 < u.size) t new some) (All-tail (λ u. 0 < u.size) t new some) apart in
    subst (IsPermutation (others start old)) (gone ∙ rest) (IsPermutation-filter is_other old (t ∷ new) away.2)

-- ---- the ranges of a block have bytes

abbrev has_none : Taken → Bool
has_none t = t.size == 0

each_sized : (ts : List Taken) → list_any has_none ts ≡ false → All (λ t. 0 < t.size) ts
each_sized [] none = All-nil (λ t. 0 < t.size)
each_sized (t ∷ ts) none =
    let both = or_parts (has_none t) (list_any has_none ts) none in
    let other : t.size ≡ 0 → ⊥ = eqb-false t.size 0 both.0 in
    All-cons (λ u. 0 < u.size) t ts (omega (arith, other)) (each_sized ts both.1)

pub taken_sized : (whole root : ℕ) (nodes : List (Option Node)) → IsBlock whole root nodes → All (λ t. 0 < t.size) (taken_in nodes)
taken_sized whole root nodes block =
    each_sized (taken_in nodes) (any_none has_none nodes (λ j. clear_here has_none (seen nodes j) (λ q l there of.
    let some = (block.chain.linked j q there).some in
    false_from_ne_true (q.size == 0) (λ e. let zero_size = eqb-true q.size 0 e in omega (arith, some, zero_size)))))

-- the same of the value of a block
pub given_back : (whole root : ℕ) (nodes : List (Option Node)) (now next : Block) (start : ℕ) → IsBlock whole root nodes → record { size = whole; taken = taken_in nodes } ≡ now → TakesAway (taken now) (taken next) start → IsPermutation (others start (taken now)) (taken next)
given_back whole root nodes now next start block view away =
    left_others now.size start (taken now) (taken next)
    (subst (λ ts. All (λ t. 0 < t.size) ts) (sym (now_taken whole root nodes now block view)) (taken_sized whole root nodes block)) (taken_is_sound now) away
