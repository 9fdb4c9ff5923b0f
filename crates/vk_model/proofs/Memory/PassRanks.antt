-- A pass that ends lowers the sum of ranks.
use Rattle.std.proofs.Common.{◌≡◌, ℕ, ◌+◌, ◌*◌, ◌/◌, ◌<◌, ◌≤◌, List, [], ◌∷◌, map, Bool, true, false, not, cond, ◌==◌, nat_lt, refl, ap, sym, ◌∙◌, subst, arith, inl, inr}
use Rattle.std.specs.Prelude.{Contains, if◌then◌else◌}
use Rattle.std.specs.List.{filter, fold}
use Rattle.std.proofs.lemmas.Bool.{eqb-true, eq-eqb}
use Rattle.std.proofs.lemmas.List.Sums.{sum_by-cons}
use Rattle.std.proofs.Math.Nat.{mul-le-mul_right}
use Rattle.vk_model.specs.Basics.{among}
use Rattle.vk_model.specs.Memory.MoveTargets.{Numbered, BlockStart, Resident, Moved}
use Rattle.vk_model.specs.Memory.Pools.{Pool, PoolBlock, block_bytes, block_taken, numbered_blocks, blocks_below, rank, rank_sum, pool_without, block_without, has_some_taken, in_block, with_change}
use Rattle.vk_model.specs.Memory.Room.{Block}
use Rattle.vk_model.specs.Memory.Allocations.{PoolMemory, without_resident, moved_to, move_ended, pass_ended}
use Rattle.vk_model.proofs.Memory.Pools.{same_number}
use Rattle.vk_model.proofs.Lists.Members.{contains-head, contains-tail, contains-cons, map_has, mapped_from, none_in}
use Rattle.vk_model.specs.Memory.PassRanks.{IsDown, AreOnce, made_moves, PassesLowerRanks}

-- ---- blocks that are given back

abbrev pub below_of : List PoolBlock → ℕ → ℕ
below_of blocks n = blocks_below (numbered_blocks blocks) n

one_more : (b : PoolBlock) (bs : List PoolBlock) (n : ℕ) → below_of (b ∷ bs) n ≡ cond (nat_lt b.number n) 1 0 + below_of bs n
one_more b bs n = sum_by-cons (λ (c : Numbered). cond (nat_lt c.number n) 1 0) (record { number = b.number; size = block_bytes b.block; taken = block_taken b.block }) (numbered_blocks bs)

filtered_below : (f : PoolBlock → Bool) (bs : List PoolBlock) (n : ℕ) → below_of (filter f bs) n ≤ below_of bs n
filtered_below f [] n = omega arith
filtered_below f (b ∷ bs) n = go (f b) (filtered_below f bs n)
  where
    go : (t : Bool) → below_of (filter f bs) n ≤ below_of bs n → below_of (cond t (b ∷ filter f bs) (filter f bs)) n ≤ below_of (b ∷ bs) n
    go true le = let first = one_more b (filter f bs) n in let whole = one_more b bs n in omega (arith, le, first, whole)
    go false le = let whole = one_more b bs n in omega (arith, le, whole)

pub changed_below : (change : Block → Block) (k : ℕ) (bs : List PoolBlock) (n : ℕ) → below_of (in_block change k bs) n ≡ below_of bs n
changed_below change k [] n = refl
changed_below change k (b ∷ bs) n =
    one_more (with_change change k b) (in_block change k bs) n
    ∙ ap (λ (j : ℕ). cond (nat_lt j n) 1 0 + below_of (in_block change k bs) n) (same_number change k b)
    ∙ ap (λ (j : ℕ). cond (nat_lt b.number n) 1 0 + j) (changed_below change k bs n)
    ∙ sym (one_more b bs n)

-- no more blocks are below any number
abbrev pub Shrinks : Pool → Pool → Type 0
Shrinks p e = (n : ℕ) → below_of e.blocks n ≤ below_of p.blocks n

pub without_shrinks : (p : Pool) (s : BlockStart) → Shrinks p (pool_without p s)
without_shrinks p s n =
    let less = filtered_below has_some_taken (in_block (λ b. block_without b s.start) s.block p.blocks) n in
    let same = changed_below (λ b. block_without b s.start) s.block p.blocks n in
    omega (arith, less, same)

all_shrink : (rs : List Resident) (p : Pool) → Shrinks p (fold (λ p a. pool_without p a.from) p rs)
all_shrink [] p n = omega arith
all_shrink (a ∷ rs) p n = let first = without_shrinks p a.from n in let rest = all_shrink rs (pool_without p a.from) n in omega (arith, first, rest)

pub lost_shrinks : (i : ℕ) (q : PoolMemory) → Shrinks q.pool (without_resident i q).pool
lost_shrinks i q n = all_shrink (filter (λ a. a.id == i) q.residents) q.pool n

ended_shrinks : (kept : List ℕ) (q : PoolMemory) (m : Moved) → Shrinks q.pool (move_ended kept q m).pool
ended_shrinks kept q m n = go (among m.id kept)
  where
    go : (t : Bool) → below_of (if t then record q { pool = pool_without q.pool m.to } else record q { pool = fold (λ p a. pool_without p a.from) q.pool (filter (λ a. a.id == m.id) q.residents); residents = map (moved_to m) q.residents }).pool.blocks n ≤ below_of q.pool.blocks n
    go true = without_shrinks q.pool m.to n
    go false = all_shrink (filter (λ a. a.id == m.id) q.residents) q.pool n

pub moves_shrink : (kept : List ℕ) (ms : List Moved) (q : PoolMemory) → Shrinks q.pool (fold (move_ended kept) q ms).pool
moves_shrink kept [] q n = omega arith
moves_shrink kept (m ∷ ms) q n = let first = ended_shrinks kept q m n in let rest = moves_shrink kept ms (move_ended kept q m) n in omega (arith, first, rest)

pub all_lost_shrink : (lost : List ℕ) (q : PoolMemory) → Shrinks q.pool (fold (λ o i. without_resident i o) q lost).pool
all_lost_shrink [] q n = omega arith
all_lost_shrink (i ∷ lost) q n = let first = lost_shrinks i q n in let rest = all_lost_shrink lost (without_resident i q) n in omega (arith, first, rest)

-- ---- sums of ranks in some blocks

module _ (size : ℕ) (blocks : List Numbered) where
  abbrev rank_of : Resident → ℕ
  rank_of a = rank size blocks a.from

  abbrev sum : List Resident → ℕ
  sum rs = rank_sum size blocks rs

  pub sum_more : (a : Resident) (rs : List Resident) → sum (a ∷ rs) ≡ rank_of a + sum rs
  sum_more a rs = sum_by-cons rank_of a rs

  -- fewer resources have no greater sum
  pub filter_sum : (f : Resident → Bool) (rs : List Resident) → sum (filter f rs) ≤ sum rs
  filter_sum f [] = omega arith
  filter_sum f (a ∷ rs) = go (f a) (filter_sum f rs)
    where
      go : (t : Bool) → sum (filter f rs) ≤ sum rs → sum (cond t (a ∷ filter f rs) (filter f rs)) ≤ sum (a ∷ rs)
      go true le = let first = sum_more a (filter f rs) in let whole = sum_more a rs in omega (arith, le, first, whole)
      go false le = let whole = sum_more a rs in omega (arith, le, whole)

  pub lost_sum : (lost : List ℕ) (q : PoolMemory) → sum (fold (λ o i. without_resident i o) q lost).residents ≤ sum q.residents
  lost_sum [] q = omega arith
  lost_sum (i ∷ lost) q = let first = filter_sum (λ a. not (a.id == i)) q.residents in let rest = lost_sum lost (without_resident i q) in omega (arith, first, rest)

  -- ---- one move

  module _ (m : Moved) where
    abbrev Lowers : List Resident → Type 0
    Lowers rs = (a : Resident) → Contains rs a → a.id ≡ m.id → rank size blocks m.to < rank size blocks a.from

    moved_rank : (a : Resident) → (a.id ≡ m.id → rank size blocks m.to < rank size blocks a.from) → rank_of (moved_to m a) ≤ rank_of a
    moved_rank a lower = go (a.id == m.id) refl
      where
        go : (t : Bool) → (a.id == m.id) ≡ t → rank size blocks (if t then record a { from = m.to } else a).from ≤ rank size blocks a.from
        go true e = let less = lower (eqb-true a.id m.id e) in omega (arith, less)
        go false e = omega arith

    moved_lower : (a : Resident) → a.id ≡ m.id → rank size blocks m.to < rank size blocks a.from → rank_of (moved_to m a) < rank_of a
    moved_lower a same lower = rw (eq-eqb a.id m.id same) lower

    moved_sum : (rs : List Resident) → Lowers rs → sum (map (moved_to m) rs) ≤ sum rs
    moved_sum [] lower = omega arith
    moved_sum (a ∷ rs) lower =
        let first = sum_more (moved_to m a) (map (moved_to m) rs) in
        let whole = sum_more a rs in
        let here = moved_rank a (lower a (contains-head a rs)) in
        let rest = moved_sum rs (λ b c. lower b (contains-tail a rs b c)) in
        omega (arith, first, whole, here, rest)

    made_sum : (rs : List Resident) → Lowers rs → (a : Resident) → Contains rs a → a.id ≡ m.id → sum (map (moved_to m) rs) + 1 ≤ sum rs
    made_sum [] lower a c same = absurd (none_in a c)
    made_sum (b ∷ rs) lower a c same = elim (contains-cons b rs a c) [
      | inl is ↦ (
          let its : b.id ≡ m.id = ap (λ (r : Resident). r.id) is ∙ same in
          let here = moved_lower b its (lower b (contains-head b rs) its) in
          let rest = moved_sum rs (λ d e. lower d (contains-tail b rs d e)) in
          let first = sum_more (moved_to m b) (map (moved_to m) rs) in
          let whole = sum_more b rs in
          omega (arith, here, rest, first, whole)
          )
      | inr later ↦ (
          let here = moved_rank b (lower b (contains-head b rs)) in
          let rest = made_sum rs (λ d e. lower d (contains-tail b rs d e)) a later same in
          let first = sum_more (moved_to m b) (map (moved_to m) rs) in
          let whole = sum_more b rs in
          omega (arith, here, rest, first, whole)
          )
    ]

    pub moved_id : (a : Resident) → (moved_to m a).id ≡ a.id
    moved_id a = go (a.id == m.id)
      where
        go : (t : Bool) → (if t then record a { from = m.to } else a).id ≡ a.id
        go true = refl
        go false = refl

    moved_other : (a : Resident) → (a.id ≡ m.id → ⊥) → moved_to m a ≡ a
    moved_other a other = go (a.id == m.id) refl
      where
        go : (t : Bool) → (a.id == m.id) ≡ t → (if t then record a { from = m.to } else a) ≡ a
        go true e = absurd (other (eqb-true a.id m.id e))
        go false e = refl

    -- another move still leads down
    still_down : (n : Moved) → (m.id ≡ n.id → ⊥) → (rs : List Resident) → IsDown size blocks rs n → IsDown size blocks (map (moved_to m) rs) n
    still_down n other rs d = record {
      resident = moved_to m d.resident;
      there = map_has (moved_to m) rs d.resident d.there;
      its = moved_id d.resident ∙ d.its;
      lower = λ a c same.
          let from = mapped_from (moved_to m) rs a c in
          let id : from.0.id ≡ n.id = sym (moved_id from.0) ∙ ap (λ (r : Resident). r.id) from.2 ∙ same in
          let stays : moved_to m from.0 ≡ from.0 = moved_other from.0 (λ e. other (sym e ∙ id)) in
          subst (λ (r : Resident). rank size blocks n.to < rank size blocks r.from) (sym stays ∙ from.2) (d.lower from.0 from.1 id);
    }

  -- ---- all moves

  ended_residents : (kept : List ℕ) (q : PoolMemory) (m : Moved) (t : Bool) → among m.id kept ≡ t → (move_ended kept q m).residents ≡ (if t then q.residents else map (moved_to m) q.residents)
  ended_residents kept q m true e = rw e refl
  ended_residents kept q m false e = rw e refl

  one_move : (kept : List ℕ) (m : Moved) (ms : List Moved) (q : PoolMemory) → ((n : Moved) → Contains (m ∷ ms) n → IsDown size blocks q.residents n) → AreOnce (m ∷ ms)
      → (((n : Moved) → Contains ms n → IsDown size blocks (move_ended kept q m).residents n) → sum (fold (move_ended kept) (move_ended kept q m) ms).residents + made_moves kept ms ≤ sum (move_ended kept q m).residents)
      → sum (fold (move_ended kept) (move_ended kept q m) ms).residents + made_moves kept (m ∷ ms) ≤ sum q.residents
  one_move kept m ms q down once later = go (among m.id kept) refl
    where
      counted : made_moves kept (m ∷ ms) ≡ cond (not (among m.id kept)) 1 0 + made_moves kept ms
      counted = sum_by-cons (λ (n : Moved). cond (not (among n.id kept)) 1 0) m ms

      first : IsDown size blocks q.residents m
      first = down m (contains-head m ms)

      go : (t : Bool) → among m.id kept ≡ t → sum (fold (move_ended kept) (move_ended kept q m) ms).residents + made_moves kept (m ∷ ms) ≤ sum q.residents
      go true e =
          let same = ended_residents kept q m true e in
          let rest = later (λ n c. subst (λ (rs : List Resident). IsDown size blocks rs n) (sym same) (down n (contains-tail m ms n c))) in
          let count : made_moves kept (m ∷ ms) ≡ 0 + made_moves kept ms = counted ∙ ap (λ (b : Bool). cond (not b) 1 0 + made_moves kept ms) e in
          let sums : sum (move_ended kept q m).residents ≡ sum q.residents = ap (λ (rs : List Resident). sum rs) same in
          omega (arith, rest, count, sums)
      go false e =
          let same = ended_residents kept q m false e in
          let rest = later (λ n c. subst (λ (rs : List Resident). IsDown size blocks rs n) (sym same) (still_down m n (once.0 n c) q.residents (down n (contains-tail m ms n c)))) in
          let count : made_moves kept (m ∷ ms) ≡ 1 + made_moves kept ms = counted ∙ ap (λ (b : Bool). cond (not b) 1 0 + made_moves kept ms) e in
          let sums : sum (move_ended kept q m).residents ≡ sum (map (moved_to m) q.residents) = ap (λ (rs : List Resident). sum rs) same in
          let less = made_sum m q.residents first.lower first.resident first.there first.its in
          omega (arith, rest, count, sums, less)

  pub moves_sum : (kept : List ℕ) (ms : List Moved) (q : PoolMemory) → ((m : Moved) → Contains ms m → IsDown size blocks q.residents m) → AreOnce ms → sum (fold (move_ended kept) q ms).residents + made_moves kept ms ≤ sum q.residents
  moves_sum kept [] q down once = omega arith
  moves_sum kept (m ∷ ms) q down once =
      one_move kept m ms q down once (λ each. moves_sum kept ms (move_ended kept q m) each once.1)

-- ---- fewer blocks below

mul_grows : (a b k : ℕ) → a ≤ b → a * k ≤ b * k
mul_grows a b k le = mul-le-mul_right k le

pub rank_falls : (size : ℕ) (old new : List Numbered) → ((n : ℕ) → blocks_below new n ≤ blocks_below old n) → (s : BlockStart) → rank size new s ≤ rank size old s
rank_falls size old new less s = let le = mul_grows (blocks_below new s.block) (blocks_below old s.block) (size / 16) (less s.block) in omega (arith, le)

pub sums_fall : (size : ℕ) (old new : List Numbered) → ((n : ℕ) → blocks_below new n ≤ blocks_below old n) → (rs : List Resident) → rank_sum size new rs ≤ rank_sum size old rs
sums_fall size old new less [] = omega arith
sums_fall size old new less (a ∷ rs) =
    let one = sum_more size new a rs in
    let two = sum_more size old a rs in
    let here = rank_falls size old new less a.from in
    let rest = sums_fall size old new less rs in
    omega (arith, one, two, here, rest)

pub passes_lower_ranks : PassesLowerRanks
passes_lower_ranks size q kept lost leads =
    let moved : PoolMemory = record (fold (move_ended kept) q q.moves) { moves = [] } in
    let fewer : (n : ℕ) → below_of (pass_ended kept lost q).pool.blocks n ≤ below_of q.pool.blocks n = λ n. (let one = moves_shrink kept q.moves q n in let two = all_lost_shrink lost moved n in omega (arith, one, two)) in
    let last = sums_fall size (numbered_blocks q.pool.blocks) (numbered_blocks (pass_ended kept lost q).pool.blocks) fewer (pass_ended kept lost q).residents in
    let left = lost_sum size (numbered_blocks q.pool.blocks) lost moved in
    let down = moves_sum size (numbered_blocks q.pool.blocks) kept q.moves q leads.down leads.once in
    omega (arith, last, left, down)
