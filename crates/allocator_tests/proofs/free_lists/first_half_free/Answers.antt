-- What is taken stays taken while more is taken, and while something else is given back.
use Rattle.std.proofs.Common.{◌≡◌, ℕ, suc, ◌<◌, ◌∷◌, length, inl, inr, refl, ap, sym, ◌∙◌, arith}
use Rattle.std.proofs.lemmas.List.Sorted.{IsPermutation-sym}
use Rattle.vk_model.specs.declared.resource.Kind.TheVariants as kind
use Rattle.vk_model.specs.Memory.Suballocation.{Request, IsTakenAt, Puts, TakesAway, taken_at}
use Rattle.vk_model.proofs.Lists.Members.{contains-cons}
use Rattle.vma_tlsf.specs.Block.{Block, taken}
use Rattle.vma_blocks.proofs.Permutations.{Any-permutation}
use Rattle.allocator_tests.proofs.free_lists.first_half_free.Goals as goal

abbrev quarter : Request
quarter = record { size = 1024; align = 16; kind = kind.Linear }

put_there : (old new : Block) (start : ℕ) → Puts (taken old) (taken new) quarter start → IsTakenAt start (taken new)
put_there old new start puts =
    let back = IsPermutation-sym (taken new) (taken_at start quarter ∷ taken old) puts.added in
    Any-permutation (λ t. t.start ≡ start) (taken_at start quarter ∷ taken old) (taken new) back (0, taken_at start quarter, omega arith, refl, refl)

still_there : (old new : Block) (start other : ℕ) → Puts (taken old) (taken new) quarter start → IsTakenAt other (taken old) → IsTakenAt other (taken new)
still_there old new start other puts a =
    let back = IsPermutation-sym (taken new) (taken_at start quarter ∷ taken old) puts.added in
    let below : suc a.0 < length (taken_at start quarter ∷ taken old) = omega (arith, a.2) in
    Any-permutation (λ t. t.start ≡ other) (taken_at start quarter ∷ taken old) (taken new) back (suc a.0, a.1, below, a.3, a.4)

left_there : (old new : Block) (start other : ℕ) → TakesAway (taken old) (taken new) start → (start ≡ other → ⊥) → IsTakenAt other (taken old) → IsTakenAt other (taken new)
left_there old new start other away apart there =
    let a = Any-permutation (λ t. t.start ≡ other) (taken old) (away.0 ∷ taken new) away.2 there in
    elim (contains-cons away.0 (taken new) a.1 (a.0, a.2, a.3)) [
      | inl same ↦ absurd (apart (sym away.1 ∙ ap (λ t. t.start) same ∙ a.4))
      | inr c ↦ (c.0, a.1, c.1, c.2, a.4)
    ]

-- The first of two ranges is there after four were taken, and so is the second.
module _ (none one two three four : Block) (first second third fourth : ℕ) (p : Puts (taken none) (taken one) quarter first) (q : Puts (taken one) (taken two) quarter second) (r : Puts (taken two) (taken three) quarter third) (s : Puts (taken three) (taken four) quarter fourth) where
  first_there : IsTakenAt first (taken four)
  first_there = still_there three four fourth first s (still_there two three third first r (still_there one two second first q (put_there none one first p)))

  second_there : IsTakenAt second (taken four)
  second_there = still_there three four fourth second s (still_there two three third second r (put_there one two second q))

pub free-requires : goal.free-requires
free-requires c =
    first_there c.in-Ok.block c.allocate.new.self c.allocate-2.new.self c.allocate-3.new.self c.allocate-4.new.self _ _ _ _
    c.in_ok-first.ensures.ok c.in_ok-second.ensures.ok c.in_ok-_third.ensures.ok c.in_ok-_fourth.ensures.ok

pub free-requires-2 : goal.free-requires-2
free-requires-2 c =
    let there = second_there c.in-Ok.block c.allocate.new.self c.allocate-2.new.self c.allocate-3.new.self c.allocate-4.new.self _ _ _ _
    c.in_ok-first.ensures.ok c.in_ok-second.ensures.ok c.in_ok-_third.ensures.ok c.in_ok-_fourth.ensures.ok in
    left_there c.allocate-4.new.self c.free.new.self c.in_ok-first.first c.in_ok-second.second c.free.ensures.freed c.if-first-second.false there
