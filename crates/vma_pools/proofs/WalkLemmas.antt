-- A step of a walk over the blocks of a pool: the block at an index was asked.
use Rattle.std.proofs.Common.{◌≡◌, ℕ, zero, suc, ◌+◌, ◌<◌, List, [], ◌∷◌, length, get_or, set, map, Bool, refl, sym, ap, subst, ◌∙◌, arith, ◌⊎◌, inl, inr}
use Rattle.std.proofs.lemmas.Bool.{cases_lt}
use Rattle.std.proofs.lemmas.List.{length-map, map-set}
use Rattle.std.proofs.Math.Seq.{map-set_same}
use Rattle.vk_model.specs.Memory.Suballocation.{Request}
use Rattle.vk_model.specs.Memory.Room.{Block, BlockHolds}
use Rattle.vk_model.specs.Memory.Pools.{PoolBlock, BlockGives, block_with}
use Rattle.vma_blocks.specs.Alike.{IsAlike}
use Rattle.vma_pools.specs.Alike.{AreAlike}
use Rattle.vma_pools.specs.declared.blocks.Held.{Held}
use Rattle.vma_pools.proofs.PoolAlike.{are-set}
use Rattle.vma_pools.specs.Inner.Walk.{numbered, seen, objects, no_block, block_at, NoneBefore, IsTaken}

pub get_or-map-in : {A B : Type 0} (f : A → B) (xs : List A) (i : ℕ) (d : A) (e : B) → i < length xs → get_or (map f xs) i e ≡ f (get_or xs i d)
get_or-map-in f [] i d e lt = absurd (omega (arith, lt))
get_or-map-in f (x ∷ xs) zero d e lt = refl
get_or-map-in f (x ∷ xs) (suc i) d e lt = get_or-map-in f xs i d e (omega (arith, lt))

pub below_next : (k i : ℕ) → k < i + 1 → (k < i) ⊎ (k ≡ i)
below_next k i lt = elim (cases_lt k i) [ inl l ↦ inl l | inr g ↦ inr (omega (arith, g, lt)) ]

module _ {B : Type 0} (block : B → Block) (first now : List (Held B)) (i : ℕ) (d : Held B) (v : B) (same : seen block now ≡ seen block first) (lt : i < length first) where
  abbrev asked : Held B
  asked = get_or now i d

  -- the block with another inside
  abbrev answered : Held B
  answered = record { number = asked.number; memory = asked.memory; block = v }

  long : length now ≡ length first
  long = sym (length-map now (numbered block)) ∙ ap (λ (l : List PoolBlock). length l) same ∙ length-map first (numbered block)

  pub at_index : get_or (seen block first) i no_block ≡ numbered block asked
  at_index = ap (λ (l : List PoolBlock). get_or l i no_block) (sym same) ∙ get_or-map-in (numbered block) now i d no_block (omega (arith, lt, long))

  pub objects-kept : objects now ≡ objects first → objects (set now i answered) ≡ objects first
  objects-kept e = map-set_same (λ (h : Held B). h.memory) now i answered d refl ∙ e

  pub seen-kept : block v ≡ block asked.block → seen block (set now i answered) ≡ seen block first
  seen-kept e = map-set_same (numbered block) now i answered d (ap (λ (k : Block). record { number = asked.number; block = k }) e) ∙ same

  pub changed-at : (r : Request) (upper : Bool) (start : ℕ) → IsAlike (block_with (block asked.block) r upper start) (block v)
      → AreAlike (set (seen block first) i (record (get_or (seen block first) i no_block) { block = block_with (block_at (seen block first) i) r upper start })) (seen block (set now i answered))
  changed-at r upper start with =
      subst (λ (l : List PoolBlock). AreAlike (set (seen block first) i (record (get_or (seen block first) i no_block) { block = block_with (block_at (seen block first) i) r upper start })) l)
      (sym (map-set (numbered block) now i answered ∙ ap (λ (l : List PoolBlock). set l i (numbered block answered)) same))
      (subst (λ (b : PoolBlock). AreAlike (set (seen block first) i (record b { block = block_with b.block r upper start })) (set (seen block first) i (numbered block answered))) (sym at_index)
      (are-set (seen block first) i (record { number = asked.number; block = block_with (block asked.block) r upper start }) (numbered block answered) (refl, with)))

  module _ (r : Request) (upper : Bool) (none : NoneBefore (seen block first) r upper i) where
    pub none-next : (BlockHolds (block asked.block) r upper → ⊥) → NoneBefore (seen block first) r upper (i + 1)
    none-next refused k less holds =
        elim (below_next k i less) [
          | inl l ↦ none k l holds
          | inr e ↦ refused (subst (λ (b : PoolBlock). BlockHolds b.block r upper) (ap (λ (j : ℕ). get_or (seen block first) j no_block) e ∙ at_index) holds)
        ]

    pub is-taken : (start : ℕ) → BlockGives (block asked.block) r upper start → IsAlike (block_with (block asked.block) r upper start) (block v) → IsTaken (seen block first) (seen block (set now i answered)) r upper i start
    is-taken start gives with =
        record {
          there = omega (arith, lt, length-map first (numbered block));
          before = none;
          gives = subst (λ (b : PoolBlock). BlockGives b.block r upper start) (sym at_index) gives;
          changed = changed-at r upper start with;
        }
