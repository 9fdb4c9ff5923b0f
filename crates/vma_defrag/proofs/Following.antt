-- Where allocations lie when moves and allocations have ended.
use Rattle.std.proofs.Common.{◌≡◌, ℕ, List, [], ◌∷◌, set, Bool, true, false, Option, Some, None, refl, sym, ap, subst, ◌∙◌, inl, inr, ◌⊎◌}
use Rattle.std.specs.Prelude.{IsSomeAnd}
use Rattle.std.proofs.lemmas.Bool.{cases_eq}
use Rattle.std.proofs.lemmas.List.Elements.{All-head}
use Rattle.vk_model.specs.Basics.{among}
use Rattle.vk_model.specs.Memory.MoveTargets.{Moved}
use Rattle.vk_model.proofs.Lists.Members.{contains-cons, contains-head, contains-tail, none_in}
use Rattle.vma_pools.specs.declared.pool.PoolPlace.{PoolPlace}
use Rattle.vma_pools.specs.declared.allocations.Allocation.{Allocation}
use Rattle.vma_pools.specs.declared.allocations.Home.{Home}
use Rattle.vma_pools.specs.declared.allocations.Home.TheVariants as home
use Rattle.vma_pools.specs.Pools.{Kept, KeepsBlocks, IsMemoryOf}
use Rattle.vma_pools.specs.State.{PoolsState, pool_at, allocation_at, IfLive, IsEnded}
use Rattle.vma_pools.specs.Moves.{IsSettled}
use Rattle.vma_pools.proofs.NumberLemmas.{at-below, at-set, at-other}
use Rattle.vma_pools.proofs.StateLemmas.{some-is}
use Rattle.vma_defrag.specs.Plans.{AreMatched, ArePlanned, IsMove}
use Rattle.vma_defrag.specs.Ends.{AllEnd, AreOfPool, MoveEnds, MovesEnd, Settles}
use Rattle.vma_defrag.specs.Inner.Following.{Rebinds, LiesThen, BlocksStay, FollowMoves, FollowEnds}
use Rattle.vma_defrag.proofs.KeptBlocks.{memory_left}
use Rattle.vma_defrag.proofs.Settles.{settled_is, settled_matched, settled_planned, here_after, other_after}
use Rattle.vma_defrag.proofs.Endings.{IsIn, lives, none_after, others_after, ended_matched, others_listed, given_back}

-- ---- blocks

-- a range was given back in one pool
pub blocks_stay : (s t : PoolsState) (p : ℕ) (was now : Kept) (gone : Option ℕ) (number : ℕ) → AreMatched s → AreMatched t → pool_at s p ≡ Some was → t.pools ≡ set s.pools p (Some now) → KeepsBlocks gone number was now → BlocksStay s t
blocks_stay s t p was now gone number h h' there pools keeps q k n x at of =
    let at' : pool_at (record s { pools = set s.pools p (Some now) }) q ≡ Some k = subst (λ (l : List (Option Kept)). pool_at (record s { pools = l }) q ≡ Some k) pools at in
    let mine : pool_at t p ≡ Some now = ap (λ (l : List (Option Kept)). pool_at (record s { pools = l }) p) pools ∙ at-set s.pools p (Some now) (at-below s.pools p was there) in
    elim (cases_eq q p) [
      | inl e ↦
          let is = some-is now k (sym mine ∙ ap (λ (j : ℕ). pool_at t j) (sym e) ∙ at) in
          (was, ap (λ (j : ℕ). pool_at s j) e ∙ there, memory_left was now (h p was there) (h' p now mine) gone number keeps n x (subst (λ (c : Kept). IsMemoryOf c n x) (sym is) of))
      | inr other ↦ (k, sym (at-other s.pools p q (Some now) other) ∙ at', of)
    ]

pub stays_on : (s t u : PoolsState) → BlocksStay s t → BlocksStay t u → BlocksStay s u
stays_on s t u a b p k n x at of = let l = b p k n x at of in a p l.0 n x l.1 l.2

-- ---- moves

-- a move that was cancelled, or made
pub settled_cases : (flag : Bool) (s t : PoolsState) (pool : ℕ) (m : Moved) (gone : Option ℕ) (its : IsMove s pool m) (ends : IfLive s m.id (Settles flag s m t gone))
    → let stays : PoolPlace = (settled_is flag s t pool m gone its ends).1 in ((flag ≡ true) × (stays ≡ its.from)) ⊎ ((flag ≡ false) × (stays ≡ its.target))
unfolding settled_is
settled_cases true s t pool m _ its ends = inl (refl, refl)
settled_cases false s t pool m _ its ends = inr (refl, refl)

rebinds : (s : PoolsState) (pool : ℕ) (m : Moved) (its : IsMove s pool m) (l : Home) → l ≡ home.Shared pool its.target → Rebinds its.allocation.home its.allocation.target l
rebinds s pool m its l e = subst (λ (h : Home). Rebinds h its.allocation.target l) (sym its.lies) (subst (λ (t : Option PoolPlace). Rebinds (home.Shared pool its.from) t l) (sym its.reserved) e)

module _ (ignored : List ℕ) (pool : ℕ) (m : Moved) (ms : List Moved) (s mid : PoolsState) (one : Option ℕ) where
  pub first_matched : AreMatched s → ArePlanned s pool (m ∷ ms) → MoveEnds ignored s m mid one → AreMatched mid
  first_matched h plan ends =
      let its = All-head (IsMove s pool) m ms plan.each in let g = settled_is (among m.id ignored) s mid pool m one its ends in
      settled_matched s mid pool m its.allocation its.live g.0 g.1 one g.2 h

  pub first_planned : ArePlanned s pool (m ∷ ms) → MoveEnds ignored s m mid one → ArePlanned mid pool ms
  first_planned plan ends =
      let its = All-head (IsMove s pool) m ms plan.each in let g = settled_is (among m.id ignored) s mid pool m one its ends in
      settled_planned s mid pool m its.allocation its.live g.0 g.1 one g.2 ms plan

module _ (ignored : List ℕ) (pool : ℕ) (m : Moved) (ms : List Moved) (s mid t : PoolsState) (one : Option ℕ) (h : AreMatched s) (plan : ArePlanned s pool (m ∷ ms)) (ends : MoveEnds ignored s m mid one) (rest : FollowMoves ignored ms mid t) where
  abbrev its : IsMove s pool m
  its = All-head (IsMove s pool) m ms plan.each

  abbrev settles : (back : PoolPlace) × (stays : PoolPlace) × IsSettled s mid m.id its.allocation pool back stays one
  settles = settled_is (among m.id ignored) s mid pool m one its ends

  first_blocks : BlocksStay s mid
  first_blocks = let g = settles.2 in blocks_stay s mid pool g.was g.now one settles.0.block h (first_matched ignored pool m ms s mid one h plan ends) g.there (ap (λ (x : PoolsState). x.pools) g.state) g.blocks

  -- the allocation of the move
  mine : (i : ℕ) (b : Allocation) → i ≡ m.id → allocation_at t i ≡ Some b → (a : Allocation) × (allocation_at s i ≡ Some a) × (b.asked ≡ a.asked) × LiesThen ignored (m ∷ ms) i a b
  mine i b e at =
      let l = rest.lives i b at in
      let after = here_after s mid pool m its.allocation its.live settles.0 settles.1 one settles.2 in
      let same = some-is l.0 _ (sym l.1 ∙ ap (λ (j : ℕ). allocation_at mid j) e ∙ after) in
      (its.allocation, ap (λ (j : ℕ). allocation_at s j) e ∙ its.live, l.2 ∙ ap (λ (a : Allocation). a.asked) same, lies l.0 l.3 (ap (λ (a : Allocation). a.home) same))
    where
      at_home : (l : Home) → l ≡ home.Shared pool settles.1 → LiesThen ignored (m ∷ ms) i its.allocation (record b { home = l })
      at_home l is = elim (settled_cases (among m.id ignored) s mid pool m one its ends) [
        | inl kept ↦ inl (is ∙ ap (λ (p : PoolPlace). home.Shared pool p) kept.1 ∙ sym its.lies)
        | inr made ↦ inr (m, contains-head m ms, sym e, ap (λ (j : ℕ). among j ignored) e ∙ made.0, rebinds s pool m its l (is ∙ ap (λ (p : PoolPlace). home.Shared pool p) made.1))
      ]

      lies : (a : Allocation) → LiesThen ignored ms i a b → a.home ≡ home.Shared pool settles.1 → LiesThen ignored (m ∷ ms) i its.allocation b
      lies a (inl home) is = at_home b.home (home ∙ is)
      lies a (inr moved) is = absurd (plan.once.0 moved.0 moved.1 (sym e ∙ sym moved.2))

  pub follow_one : FollowMoves ignored (m ∷ ms) s t
  follow_one = record {
    lives = λ i b at. elim (cases_eq i m.id) [
      | inl e ↦ mine i b e at
      | inr other ↦
          let l = rest.lives i b at in
          (l.0, sym (other_after s mid pool m its.allocation its.live settles.0 settles.1 one settles.2 i other) ∙ l.1, l.2, later i l.0 b l.3)
    ];
    blocks = stays_on s mid t first_blocks rest.blocks;
  }
    where
      later : (i : ℕ) (a b : Allocation) → LiesThen ignored ms i a b → LiesThen ignored (m ∷ ms) i a b
      later i a b (inl home) = inl home
      later i a b (inr moved) = inr (moved.0, contains-tail m ms moved.0 moved.1, moved.2, moved.3, moved.4)

pub follow_moves : (ignored : List ℕ) (pool : ℕ) (ms : List Moved) (s t : PoolsState) (gone : List ℕ) → AreMatched s → ArePlanned s pool ms → MovesEnd ignored s ms t gone → FollowMoves ignored ms s t
follow_moves ignored pool [] s t gone h plan ends = subst (λ (x : PoolsState). FollowMoves ignored [] s x) (sym ends.0) (record { lives = λ i b at. (b, at, refl, inl refl); blocks = λ p k n x at of. (k, at, of) })
follow_moves ignored pool (m ∷ ms) s t gone h plan ends =
    let matched = first_matched ignored pool m ms s ends.0 ends.1 h plan ends.3 in let planned = first_planned ignored pool m ms s ends.0 ends.1 plan ends.3 in
    follow_one ignored pool m ms s ends.0 t ends.1 h plan ends.3 (follow_moves ignored pool ms ends.0 t ends.2 matched planned ends.4)

-- ---- allocations that end

module _ (pool i : ℕ) (is : List ℕ) (s mid t : PoolsState) (one : Option ℕ) (h : AreMatched s) (of : AreOfPool s pool (i ∷ is)) (ends : IfLive s i (λ a. IsEnded s mid i a.home one)) where
  abbrev its-one : (a : Allocation) × (allocation_at s i ≡ Some a) × IsIn pool a
  its-one = lives s pool i (of.each i (contains-head i is))

  here : IsEnded s mid i its-one.0.home one
  here = subst (λ (o : Option Allocation). IsSomeAnd o (λ a. IsEnded s mid i a.home one)) its-one.1 ends

  pub end_matched : AreMatched mid
  end_matched = ended_matched s mid pool i its-one.0 its-one.1 its-one.2 one here h

  pub end_listed : AreOfPool mid pool is
  end_listed = others_listed s mid pool i its-one.0 its-one.1 its-one.2 one here pool is of

  end_blocks : BlocksStay s mid
  end_blocks =
      let g = given_back s mid pool i its-one.0 its-one.1 its-one.2 one here in
      blocks_stay s mid pool g.was g.now one its-one.2.0.block h end_matched g.there (ap (λ (x : PoolsState). x.pools) g.state) g.blocks

  pub end_one : FollowEnds is mid t → FollowEnds (i ∷ is) s t
  end_one rest = record {
    lives = λ j b at.
        let l = rest.lives j b at in
        elim (cases_eq j i) [
          | inl e ↦ absurd (clash (sym (none_after s mid pool i its-one.0 its-one.1 its-one.2 one here) ∙ ap (λ (k : ℕ). allocation_at mid k) (sym e) ∙ l.0))
          | inr other ↦ (sym (others_after s mid pool i its-one.0 its-one.1 its-one.2 one here j other) ∙ l.0, λ there. elim (contains-cons i is j there) [ inl e ↦ other (sym e) | inr later ↦ l.1 later ])
        ];
    blocks = stays_on s mid t end_blocks rest.blocks;
  }
    where
      clash : {A : Type 0} {x : A} → None ≡ Some x → ⊥
      clash e = absurd cc

pub follow_ends : (pool : ℕ) (is : List ℕ) (s t : PoolsState) (gone : List ℕ) → AreMatched s → AreOfPool s pool is → AllEnd s is t gone → FollowEnds is s t
follow_ends pool [] s t gone h of ends = subst (λ (x : PoolsState). FollowEnds [] s x) (sym ends.0) (record { lives = λ i b at. (at, λ there. none_in i there); blocks = λ p k n x at of. (k, at, of) })
follow_ends pool (i ∷ is) s t gone h of ends =
    end_one pool i is s ends.0 t ends.1 h of ends.3
    (follow_ends pool is ends.0 t ends.2 (end_matched pool i is s ends.0 t ends.1 h of ends.3) (end_listed pool i is s ends.0 t ends.1 h of ends.3) ends.4)
