-- The memory objects that go when a pass ends.
use Rattle.std.proofs.Common.{◌≡◌, ℕ, List, [], ◌∷◌, Option, Some, None, sym, subst, ◌∙◌, inl, inr}
use Rattle.std.specs.Prelude.{Contains, IsSome, IsSomeAnd, ⊤}
use Rattle.std.proofs.lemmas.List.Elements.{All-head, Contains-append_cases}
use Rattle.vk_memory.specs.declared.memories.Object.{Object}
use Rattle.vk_memory.specs.MemoryState.{MemoryState, IsLive, object_at, with_object}
use Rattle.vk_model.specs.Basics.{among}
use Rattle.vk_model.specs.Memory.MoveTargets.{Moved}
use Rattle.vk_model.proofs.Lists.Members.{contains-head, contains-tail, none_in, only_one}
use Rattle.vma_pools.specs.declared.pool.PoolPlace.{PoolPlace}
use Rattle.vma_pools.specs.declared.allocations.Allocation.{Allocation}
use Rattle.vma_pools.specs.Pools.{Kept, IsMemoryOf, KeepsBlocks}
use Rattle.vma_pools.specs.State.{PoolsState, pool_at, IsEnded}
use Rattle.vma_pools.proofs.NumberLemmas.{at-other}
use Rattle.vma_defrag.specs.Plans.{AreMatched, ArePlanned, IsMove}
use Rattle.vma_defrag.specs.Ends.{listed, AllEnd, AreOfPool, MovesEnd, freed}
use Rattle.vma_defrag.proofs.Endings.{given_back, lives}
use Rattle.vma_defrag.proofs.Following.{end_listed, end_matched, first_matched, first_planned}
use Rattle.vma_defrag.proofs.KeptBlocks.{number_at}
use Rattle.vma_defrag.proofs.KeptBytes.{freed_stays}
use Rattle.vma_defrag.proofs.Settles.{settled_is}
use Rattle.vk_backing.specs.Backed.{AreSized}
use Rattle.vk_backing.proofs.Grown.{there_some}
use Rattle.vk_backing.proofs.PoolsStay.{PoolsStay, end_stay, move_stay}
use Rattle.vk_backing.proofs.StaysBacked.{pool_was}

-- ---- memory that is left

pub left_sized : (m : MemoryState) (gone : List ℕ) → AreSized m → AreSized (freed m gone)
left_sized m gone sized k o at = sized k o (sym (freed_stays gone m k (there_some (object_at (freed m gone) k) o at)) ∙ at)

pub left_live : (gone : List ℕ) (m : MemoryState) (k : ℕ) → (Contains gone k → ⊥) → IsLive m k → IsLive (freed m gone) k
left_live [] m k away live = live
left_live (n ∷ ns) m k away live =
    let other : k ≡ n → ⊥ = λ (e : k ≡ n). away (subst (λ (j : ℕ). Contains (n ∷ ns) j) (sym e) (contains-head n ns)) in
    left_live ns (with_object m n None) k (λ there. away (contains-tail n ns k there)) (subst (λ (o : Option Object). IsSome o) (sym (at-other m.objects n k None other)) live)

-- ---- it was that of blocks

-- a memory object is that of a block
pub record IsBlockOf (s : PoolsState) (n : ℕ) : Type 0 where
  pub pool : ℕ
  pub kept : Kept
  pub there : pool_at s pool ≡ Some kept
  pub number : ℕ
  pub memory : IsMemoryOf kept number n

lost_block : (s : PoolsState) (p : ℕ) (was now : Kept) → pool_at s p ≡ Some was → (one : Option ℕ) (number : ℕ) → KeepsBlocks one number was now → (n : ℕ) → Contains (listed one) n → IsBlockOf s n
lost_block s p was now there None number k n at = absurd (none_in n at)
lost_block s p was now there (Some g) number k n at = record {
  pool = p;
  kept = was;
  there = there;
  number = number;
  memory = record {
    index = k.index;
    there = k.block;
    numbered = λ d. sym (number_at was.pool k.index d k.block) ∙ k.numbered;
    is = k.is ∙ only_one g n at;
  };
}

module _ (Moves : ℕ → PoolPlace → Type 0) (Res Ends : ℕ → Type 0) (s t : PoolsState) (stay : PoolsStay Moves Res Ends s t) where
  pub was_block : (n : ℕ) → IsBlockOf t n → IsBlockOf s n
  was_block n of = let k = pool_was Moves Res Ends s t stay of.pool of.kept of.there in record { pool = of.pool; kept = k.0; there = k.1; number = of.number; memory = k.2.blocks of.number n of.memory }

abbrev Any : ℕ → Type 0
Any i = ⊤

abbrev AnyPlace : ℕ → PoolPlace → Type 0
AnyPlace i y = ⊤

pub moves_gone : (ignored : List ℕ) (pool : ℕ) (ms : List Moved) (s t : PoolsState) (gone : List ℕ) → AreMatched s → ArePlanned s pool ms → MovesEnd ignored s ms t gone → (n : ℕ) → Contains gone n → IsBlockOf s n
moves_gone ignored pool [] s t gone matched plan ends n at = absurd (none_in n (subst (λ (l : List ℕ). Contains l n) ends.1 at))
moves_gone ignored pool (m ∷ ms) s t gone matched plan ends n at =
    let mid = ends.0 in
    let g = (settled_is (among m.id ignored) s mid pool m ends.1 (All-head (IsMove s pool) m ms plan.each) ends.3) in
    elim (Contains-append_cases (listed ends.1) ends.2 n (subst (λ (l : List ℕ). Contains l n) ends.5 at)) [
      | inl first ↦ lost_block s pool g.2.was g.2.now g.2.there ends.1 g.0.block g.2.blocks n first
      | inr later ↦ was_block AnyPlace Any Any s mid (move_stay AnyPlace Any Any ignored pool m ms s mid ends.1 matched plan ends.3 tt (λ y e. tt)) n
          (moves_gone ignored pool ms mid t ends.2 (first_matched ignored pool m ms s mid ends.1 matched plan ends.3) (first_planned ignored pool m ms s mid ends.1 plan ends.3) ends.4 n later)
    ]

pub ends_gone : (pool : ℕ) (is : List ℕ) (s t : PoolsState) (gone : List ℕ) → AreMatched s → AreOfPool s pool is → AllEnd s is t gone → (n : ℕ) → Contains gone n → IsBlockOf s n
ends_gone pool [] s t gone matched of ended n at = absurd (none_in n (subst (λ (l : List ℕ). Contains l n) ended.1 at))
ends_gone pool (i ∷ is) s t gone matched of ended n at =
    let mid = ended.0 in
    let its = lives s pool i (of.each i (contains-head i is)) in
    let g = given_back s mid pool i its.0 its.1 its.2 ended.1 (subst (λ (o : Option Allocation). IsSomeAnd o (λ a. IsEnded s mid i a.home ended.1)) its.1 ended.3) in
    elim (Contains-append_cases (listed ended.1) ended.2 n (subst (λ (l : List ℕ). Contains l n) ended.5 at)) [
      | inl first ↦ lost_block s pool g.was g.now g.there ended.1 its.2.0.block g.blocks n first
      | inr later ↦ was_block AnyPlace Any Any s mid (end_stay AnyPlace Any Any pool i is s mid ended.1 matched of ended.3 tt) n
          (ends_gone pool is mid t ended.2 (end_matched pool i is s mid mid ended.1 matched of ended.3) (end_listed pool i is s mid mid ended.1 matched of ended.3) ended.4 n later)
    ]

-- each block stays one memory object when moves end
pub moves_matched : (ignored : List ℕ) (pool : ℕ) (ms : List Moved) (s t : PoolsState) (gone : List ℕ) → AreMatched s → ArePlanned s pool ms → MovesEnd ignored s ms t gone → AreMatched t
moves_matched ignored pool [] s t gone matched plan ends = subst AreMatched (sym ends.0) matched
moves_matched ignored pool (m ∷ ms) s t gone matched plan ends =
    moves_matched ignored pool ms ends.0 t ends.2 (first_matched ignored pool m ms s ends.0 ends.1 matched plan ends.3) (first_planned ignored pool m ms s ends.0 ends.1 plan ends.3) ends.4
