-- The counts of a pool stay right when a range more is taken, and when one is given back.
use Rattle.std.proofs.Common.{◌≡◌, ℕ, ◌+◌, ◌-◌, ◌*◌, ◌<◌, ◌≤◌, ◌^◌, List, [], ◌∷◌, ◌++◌, length, Bool, true, false, ◌==◌, sym, ap, ◌∙◌, arith}
use Rattle.std.specs.Prelude.{All, if◌then◌else◌}
use Rattle.std.specs.List.{sum_by}
use Rattle.std.proofs.Math.Nat.{mul-le-mul_right, suc-mul, zero-mul}
use Rattle.std.proofs.lemmas.Bool.{ne_eqb}
use Rattle.std.proofs.lemmas.List.{length-append, length-map}
use Rattle.std.proofs.lemmas.List.Elements.{All-head, All-tail}
use Rattle.std.proofs.lemmas.List.Sums.{count_by-le-length, length-filter, sum_by-cons}
use Rattle.vk_model.specs.Memory.Suballocation.{Taken, Request}
use Rattle.vk_model.specs.Memory.Room.{Block}
use Rattle.vk_model.specs.Memory.MoveTargets.{BlockStart, Numbered}
use Rattle.vk_model.specs.declared.resource.PoolInfo.{PoolInfo}
use Rattle.vk_model.specs.Memory.Pools.{PoolBlock, Pool, Gives, AreStatistics, IsLargestIn, block_with, block_without, has_some_taken, in_block, new_block, numbered_blocks, pool_with, pool_without, with_change}
use Rattle.vma_pools.specs.Alike.{IsAlikePool}
use Rattle.vma_pools.specs.Ranges.{HasRange}
use Rattle.vma_pools.specs.Inner.Counts.{IsCounted}
use Rattle.vma_pools.specs.Inner.Kinds.{IsKeptPool, IsOfPool}
use Rattle.vma_pools.specs.Inner.Lower.{ranges_of}
use Rattle.vma_pools.proofs.PoolAlike.{are-length}
use Rattle.vma_pools.proofs.StateLemmas.{given-info}
use Rattle.vma_pools.proofs.CountLemmas.{alike-count, count-bytes, count-ranges, freed-count, given-count}

-- ---- how many blocks there are

same-blocks : (change : Block → Block) (n : ℕ) (bs : List PoolBlock) → length (in_block change n bs) ≡ length bs
same-blocks change n bs = length-map bs (with_change change n)

given-blocks : (p : Pool) (r : Request) (upper : Bool) (s : BlockStart) → length (pool_with p r upper s).blocks ≤ length p.blocks + 1
given-blocks p r upper s = go (s.block == p.next)
  where
    change : Block → Block
    change k = block_with k r upper s.start

    go : (v : Bool) → length (if v then record p { blocks = p.blocks ++ record { number = p.next; block = block_with (new_block p.info) r upper s.start } ∷ []; next = p.next + 1 }
        else record p { blocks = in_block (λ k. block_with k r upper s.start) s.block p.blocks }).blocks ≤ length p.blocks + 1
    go true = let l = length-append p.blocks (record { number = p.next; block = block_with (new_block p.info) r upper s.start } ∷ []) in omega (arith, l)
    go false = let l = same-blocks (λ k. block_with k r upper s.start) s.block p.blocks in omega (arith, l)

pub old-blocks : (p : Pool) (r : Request) (upper : Bool) (s : BlockStart) → s.block < p.next → length (pool_with p r upper s).blocks ≡ length p.blocks
old-blocks p r upper s low =
    ap (λ (v : Bool). length (if v then record p { blocks = p.blocks ++ record { number = p.next; block = block_with (new_block p.info) r upper s.start } ∷ []; next = p.next + 1 }
    else record p { blocks = in_block (λ k. block_with k r upper s.start) s.block p.blocks }).blocks) (ne_eqb s.block p.next (λ e. omega (arith, low, e)))
    ∙ same-blocks (λ k. block_with k r upper s.start) s.block p.blocks

left-blocks : (p : Pool) (s : BlockStart) → length (pool_without p s).blocks ≤ length p.blocks
left-blocks p s =
    let bs = in_block (λ b. block_without b s.start) s.block p.blocks in
    let l = length-filter has_some_taken bs in let m = count_by-le-length has_some_taken bs in let n = same-blocks (λ b. block_without b s.start) s.block p.blocks in
    omega (arith, l, m, n)

-- ---- the counts

still-fits : (n m size other : ℕ) → n ≤ m → other ≡ size → m * size < 2 ^ 64 → n * other < 2 ^ 64
still-fits n m size other less same fits = let e = ap (λ (k : ℕ). n * k) same in let l = mul-le-mul_right {m = n} {n = m} size less in omega (arith, e, l, fits)

module _ (p q : Pool) (h : IsKeptPool p) (ranges bytes : ℕ) (counted : IsCounted p ranges bytes) where
  module _ (r : Request) (some : 0 < r.size) (upper : Bool) (s : BlockStart) (gives : Gives p r upper s) (same : IsAlikePool (pool_with p r upper s) q) where
    with-counts : length q.blocks * q.info.block_size < 2 ^ 64 → IsCounted q (ranges + 1) (bytes + r.size)
    with-counts fits = record {
      ranges_are = let a = alike-count (λ t. 1) (λ ts. length ts) count-ranges (pool_with p r upper s) q same in let g = given-count (λ t. 1) (λ ts. length ts) count-ranges p h.pool r some upper s gives in omega (arith, a, g, counted.ranges_are);
      bytes_are = let a = alike-count (λ t. t.size) (λ ts. sum_by (λ t. t.size) ts) count-bytes (pool_with p r upper s) q same in let g = given-count (λ t. t.size) (λ ts. sum_by (λ t. t.size) ts) count-bytes p h.pool r some upper s gives in omega (arith, a, g, counted.bytes_are);
      blocks_fit = fits;
    }

    size-same : q.info.block_size ≡ p.info.block_size
    size-same = ap (λ (i : PoolInfo). i.block_size) (same.info ∙ given-info p r upper s)

    pub counted-given : (length p.blocks + 1) * p.info.block_size < 2 ^ 64 → IsCounted q (ranges + 1) (bytes + r.size)
    counted-given fits =
        let l = are-length (pool_with p r upper s).blocks q.blocks same.blocks in let g = given-blocks p r upper s in
        with-counts (still-fits (length q.blocks) (length p.blocks + 1) p.info.block_size q.info.block_size (omega (arith, l, g)) size-same fits)

    pub counted-old : s.block < p.next → IsCounted q (ranges + 1) (bytes + r.size)
    counted-old low =
        let l = are-length (pool_with p r upper s).blocks q.blocks same.blocks in let g = old-blocks p r upper s low in
        with-counts (still-fits (length q.blocks) (length p.blocks) p.info.block_size q.info.block_size (omega (arith, l, g)) size-same counted.blocks_fit)

  module _ (s : BlockStart) (t : Taken) (starts : t.start ≡ s.start) (has : HasRange p s.block t) where
    pub one-counted : 1 ≤ ranges
    one-counted = let f = freed-count (λ t. 1) (λ ts. length ts) count-ranges p h.pool s t starts has in omega (arith, f, counted.ranges_are)

    pub bytes-counted : t.size ≤ bytes
    bytes-counted = let f = freed-count (λ t. t.size) (λ ts. sum_by (λ t. t.size) ts) count-bytes p h.pool s t starts has in omega (arith, f, counted.bytes_are)

    pub counted-freed : IsAlikePool (pool_without p s) q → IsCounted q (ranges - 1) (bytes - t.size)
    counted-freed same = record {
      ranges_are = let a = alike-count (λ t. 1) (λ ts. length ts) count-ranges (pool_without p s) q same in let f = freed-count (λ t. 1) (λ ts. length ts) count-ranges p h.pool s t starts has in omega (arith, a, f, counted.ranges_are);
      bytes_are = let a = alike-count (λ t. t.size) (λ ts. sum_by (λ t. t.size) ts) count-bytes (pool_without p s) q same in let f = freed-count (λ t. t.size) (λ ts. sum_by (λ t. t.size) ts) count-bytes p h.pool s t starts has in omega (arith, a, f, counted.bytes_are);
      blocks_fit = let l = are-length (pool_without p s).blocks q.blocks same.blocks in let b = left-blocks p s in
          still-fits (length q.blocks) (length p.blocks) p.info.block_size q.info.block_size (omega (arith, l, b)) (ap (λ (i : PoolInfo). i.block_size) same.info) counted.blocks_fit;
    }

-- ---- the bytes of all blocks

total-bytes : (info : PoolInfo) (bs : List PoolBlock) → All (λ b. IsOfPool info b.block) bs → sum_by (λ b. b.size) (numbered_blocks bs) ≡ length bs * info.block_size
total-bytes info [] kinds = sym (zero-mul info.block_size)
total-bytes info (b ∷ bs) kinds =
    let one = (All-head (λ b. IsOfPool info b.block) b bs kinds).bytes in
    let rest = total-bytes info bs (All-tail (λ b. IsOfPool info b.block) b bs kinds) in
    let sum = sum_by-cons (λ (n : Numbered). n.size) (ranges_of b) (numbered_blocks bs) in
    let product = suc-mul (length bs) info.block_size in
    omega (arith, one, rest, sum, product)

pub counted-statistics : (p : Pool) → IsKeptPool p → (ranges bytes : ℕ) → IsCounted p ranges bytes → (blocks size largest : ℕ) → blocks ≡ length p.blocks → size ≡ p.info.block_size → IsLargestIn (numbered_blocks p.blocks) largest
    → AreStatistics (numbered_blocks p.blocks) (record { blocks = blocks; allocations = ranges; used = bytes; held = blocks * size; largest_free = largest })
counted-statistics p h ranges bytes counted blocks size largest long sized is =
    record {
      block_count = long ∙ sym (length-map p.blocks ranges_of);
      range_count = counted.ranges_are;
      range_bytes = counted.bytes_are;
      total_bytes = ap (λ (n : ℕ). n * size) long ∙ ap (λ (n : ℕ). length p.blocks * n) sized ∙ sym (total-bytes p.info p.blocks h.kinds);
      longest = is;
    }
