-- A block of which no start is free for a request doesn't hold it.
use Rattle.std.proofs.Common.{◌≡◌, ℕ, zero, suc, ◌+◌, ◌<◌, ◌≤◌, inl, inr, List, Bool, true, false, sym, ◌∙◌, ap, arith}
use Rattle.std.specs.Prelude.{◌&&◌, ◌==◌, ◌%◌, ◌||◌, not, nat_le, length, All, [], ◌∷◌}
use Rattle.std.proofs.lemmas.List.Elements.{All-from_recursion, All-head, All-same}
use Rattle.std.specs.List.{list_any, range_with_len}
use Rattle.std.proofs.lemmas.Bool.{or_parts, and_parts, cases_lt, leb-true}
use Rattle.std.proofs.lemmas.Bool.Decides.{nat_tests}
use Rattle.vk_model.specs.Memory.Suballocation.{Taken, Request, conflict, is_free}
use Rattle.vk_model.specs.Basics.{below}
use Rattle.vk_model.specs.Memory.Room.{fits, CanHold, Heaps, PoolState, Block, BlockHolds, NoRoomInPool, no_object}
use Rattle.vk_rows.specs.NoRoom.{buffer_at}

differ : ◌≡◌ {A = Bool} false true → ⊥
differ h = cc

none_between : (test : ℕ → Bool) (a n k : ℕ) → list_any test (range_with_len a n) ≡ false → a ≤ k → k < a + n → test k ≡ true → ⊥
none_between test a zero k none low high hit = omega arith
none_between test a (suc n) k none low high hit = elim (cases_lt a k) [
  | inl more ↦ none_between test (a + 1) n k (or_parts (test a) (list_any test (range_with_len (a + 1) n)) none).1 (omega arith) (omega arith) hit
  | inr less ↦ (let same : a ≡ k = omega arith in differ (sym (or_parts (test a) (list_any test (range_with_len (a + 1) n)) none).0 ∙ ap test same ∙ hit))
]

-- the third of four tests
third : (a b c d : Bool) → (a && b && c && d) ≡ true → c ≡ true
third a b c d h = (and_parts (a && b) c (and_parts (a && b && c) d h).0).1

-- a place where a request fits ends in the block
ends_inside : (size : ℕ) (taken : List Taken) (r : Request) (start : ℕ) → fits taken r 0 size start ≡ true → start + r.size ≤ size
ends_inside size taken r start h = leb-true (start + r.size) size
    (third (start % r.align == 0) (nat_le 0 start) (nat_le (start + r.size) size)
    (not (list_any (λ t. conflict r.kind start r.size t.kind t.start t.size) taken)) h)

pub nowhere : (size : ℕ) (taken : List Taken) (r : Request) → list_any (fits taken r 0 size) (below (suc size)) ≡ false → CanHold size taken r → ⊥
nowhere size taken r none held =
    let ends : held.0 + r.size ≤ size = ends_inside size taken r held.0 held.1 in
    none_between (fits taken r 0 size) 0 (suc size) held.0 none (omega arith) (omega arith) held.1

-- what holds of each of two items, and of one, holds of all
pub neither : {A : Type 0} (P : A → Type 0) (x y : A) → P x → P y → All P (x ∷ y ∷ [])
neither P x y p q = All-from_recursion P (x ∷ y ∷ []) (p, (q, tt))

pub no_other : {A : Type 0} (P : A → Type 0) (x : A) → P x → All P (x ∷ [])
no_other P x p = All-from_recursion P (x ∷ []) (p, tt)

pub absent : false ≡ true → ⊥
absent h = differ h

-- of 4,096 bytes with 1,024 taken after each 1,024 free, no more than 1,024 are free in one piece
pub free_between : (start n : ℕ) → is_free 4096 (buffer_at 3072 1024 ∷ buffer_at 1024 1024 ∷ []) start n ≡ true → n ≤ 1024
free_between start n free = grind (arith, nat_tests)

-- where a pool may have a new block there is room
pub may_grow : (h : Heaps) (p : PoolState) (r : Request) (upper : Bool) → (nat_le p.info.block_limit (length p.blocks) || no_object h p.info.memory_type p.info.block_size) ≡ false → NoRoomInPool h p r upper → ⊥
may_grow h p r upper more full = absent (sym more ∙ full.no_new)

-- and where its first block holds the request
pub first_holds : (h : Heaps) (p : PoolState) (r : Request) (upper : Bool) (b : Block) (bs : List Block) → p.blocks ≡ b ∷ bs → BlockHolds b r upper → NoRoomInPool h p r upper → ⊥
first_holds h p r upper b bs same held full = All-head (λ k. BlockHolds k r upper → ⊥) b bs (All-same (λ k. BlockHolds k r upper → ⊥) (b ∷ bs) p.blocks (sym same) full.none_holds) held
