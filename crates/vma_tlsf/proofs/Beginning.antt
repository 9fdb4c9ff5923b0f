-- A block of which nothing is taken.
use Rattle.std.proofs.Common.{◌≡◌, ℕ, ◌<◌, ◌^◌, inl, inr, List, [], Option, Some, None, set, refl, ap, sym, ◌∙◌, arith}
use Rattle.std.proofs.lemmas.Bool.{cases_eq}
use Rattle.vk_nodes.specs.declared.node.Node.{Node}
use Rattle.vma_tlsf.specs.Block.{is_sound}
use Rattle.vma_tlsf.specs.Inner.Chain.{Range, range, seen, taken_in, taken_here}
use Rattle.vma_tlsf.specs.Inner.Steps.{AreAlike, IsHeld}
use Rattle.vma_tlsf.specs.Inner.Fits.{IsBlock, whole_node}
use Rattle.vma_tlsf.proofs.Slots.{seen-set_there, seen-set_elsewhere, range_there}
use Rattle.vma_tlsf.proofs.Splits.{some_same, none_some}
use Rattle.vma_tlsf.proofs.Takings.{same_taken}

module _ (size first : ℕ) (a b : List (Option Node)) (some : 0 < size) (bound : size < 2 ^ 62) (alike : AreAlike [] a) (held : IsHeld a first)
    (rest : AreAlike (set a first (Some (whole_node size))) b) where
  abbrev W : Range
  W = range (whole_node size)

  there : seen b first ≡ Some W
  there = rest.ranges first ∙ seen-set_there a first held (Some (whole_node size)) ∙ range_there (whole_node size) some

  elsewhere : (i : ℕ) → (i ≡ first → ⊥) → seen b i ≡ None
  elsewhere i other = rest.ranges i ∙ seen-set_elsewhere a first held (Some (whole_node size)) i other ∙ alike.ranges i

  is_first : (i : ℕ) (r : Range) → seen b i ≡ Some r → (i ≡ first) × (r ≡ W)
  is_first i r at = elim (cases_eq i first) [
    | inl e ↦ (e, some_same r W (sym at ∙ ap (seen b) e ∙ there))
    | inr other ↦ absurd (none_some r (seen b i) (elsewhere i other) at)
  ]

  pub nothing_taken : taken_in b ≡ []
  nothing_taken = same_taken b [] (λ i. elim (cases_eq i first) [
    | inl e ↦ ap (λ j. taken_here (seen b j)) e ∙ ap taken_here there
    | inr other ↦ ap taken_here (elsewhere i other)
  ])

  pub new_block : IsBlock size first b
  new_block = record {
    bound = bound;
    chain = record {
      begin = W;
      begin_there = there;
      begin_start = refl;
      linked = λ i r at. let same = (is_first i r at).1 in rw same (record {
        some = some;
        inside = omega arith;
        last = λ e. omega arith;
        after = λ next e. absurd (none_some next None refl e);
        first = λ e. refl;
        before = λ p e. absurd (none_some p None refl e);
      });
      apart = λ i j r q at_i at_j other. absurd (other ((is_first i r at_i).0 ∙ sym (is_first j q at_j).0));
    };
    sound = ap (is_sound size) nothing_taken;
  }
