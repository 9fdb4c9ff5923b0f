-- Which ranges are taken in a pool when one more is, and when one is given back.
use Rattle.std.proofs.Common.{◌≡◌, ℕ, ◌+◌, ◌<◌, ◌≤◌, List, [], ◌∷◌, ◌++◌, length, Bool, true, false, ◌==◌, not, refl, sym, ap, subst, ◌∙◌, arith, inl, inr, ◌⊎◌}
use Rattle.std.specs.Prelude.{AllPairs, Contains, IsPermutation, IsTrue, if◌then◌else◌, slice_index_or}
use Rattle.std.proofs.lemmas.List.Elements.{All-nil, filter-append, Contains-append_left, Contains-append_right, Contains-append_cases, All-contains}
use Rattle.std.proofs.lemmas.List.{get_or_default}
use Rattle.std.proofs.lemmas.List.Sorted.{Contains-permutation, IsPermutation-refl, IsPermutation-sym}
use Rattle.std.proofs.lemmas.Bool.{cases_lt, both_ways, eqb-true, eq-eqb, ne_eqb, not-true, not_from_false}
use Rattle.vk_model.specs.declared.resource.PoolKind.{PoolKind}
use Rattle.vk_model.specs.declared.resource.PoolKind.TheVariants as algorithm
use Rattle.vk_model.specs.Memory.Suballocation.{Taken, Request, IsApart, IsSound, taken_at}
use Rattle.vk_model.specs.Memory.Room.{Block, General, Stack, all_taken, is_none_left}
use Rattle.vk_model.specs.Memory.MoveTargets.{BlockStart}
use Rattle.vk_model.specs.Memory.LinearBlocks.{others}
use Rattle.vk_model.specs.Memory.Pools.{PoolBlock, Pool, block_bytes, block_taken, empty_block, new_block, BlockGives, GivesFrom, Gives, block_with, with_change, in_block, pool_with, block_without, has_some_taken, pool_without, IsSoundBlock, IsPool}
use Rattle.vk_model.proofs.Lists.Members.{none_in, contains-cons, contains-head, contains-tail, filtered, filter_has, map_has, mapped_from}
use Rattle.vk_model.proofs.Memory.Taken.{apart_turned, fitting}
use Rattle.vk_model.proofs.Memory.Freeing.{round_taken}
use Rattle.vk_model.proofs.Memory.LinearBlocks.{linear_takes, linear_stays}
use Rattle.vma_pools.specs.Ranges.{HasRange}

-- ---- one block

-- what is taken is what was, and the new range
pub given-permuted : (k : Block) (r : Request) (upper : Bool) (start : ℕ) → IsSoundBlock k → BlockGives k r upper start → IsPermutation (block_taken (block_with k r upper start)) (taken_at start r ∷ block_taken k)
given-permuted (General size taken) r upper start sound gives = IsPermutation-refl (taken_at start r ∷ taken)
given-permuted (Stack b) r true start sound gives = ((linear_takes.upper b r sound).taken start gives).added
given-permuted (Stack b) r false start sound gives = ((linear_takes.lower b r sound).taken start gives).added

-- the new range conflicts with none that was taken
given-apart : (k : Block) (r : Request) (upper : Bool) (start : ℕ) (t : Taken) → IsSoundBlock k → BlockGives k r upper start → Contains (block_taken k) t → IsApart (taken_at start r) t
given-apart (General size taken) r upper start t sound gives c = All-contains (IsApart (taken_at start r)) taken t (fitting taken r 0 size start gives).apart c
given-apart (Stack b) r true start t sound gives c = All-contains (IsApart (taken_at start r)) (all_taken b) t (fitting (all_taken b) r 0 b.size start ((linear_takes.upper b r sound).fitting start gives)).apart c
given-apart (Stack b) r false start t sound gives c = All-contains (IsApart (taken_at start r)) (all_taken b) t (fitting (all_taken b) r 0 b.size start ((linear_takes.lower b r sound).fitting start gives)).apart c

-- what is left of a block is what doesn't start there
pub freed-taken : (k : Block) (start : ℕ) → block_taken (block_without k start) ≡ others start (block_taken k)
freed-taken (General size taken) start = refl
freed-taken (Stack b) start =
    let p = λ (t : Taken). not (t.start == start) in
    round_taken (record b { lower = others start b.lower; wrapped = others start b.wrapped; upper = others start b.upper })
    ∙ sym (filter-append p (b.lower ++ b.wrapped) b.upper ∙ ap (λ ts. ts ++ others start b.upper) (filter-append p b.lower b.wrapped))

-- ---- one block of a pool, changed

module _ (change : Block → Block) (n : ℕ) where
  same-number : (b : PoolBlock) → (with_change change n b).number ≡ b.number
  same-number b = go (b.number == n)
    where
      go : (v : Bool) → (if v then record b { block = change b.block } else b).number ≡ b.number
      go true = refl
      go false = refl

  -- the block of the number is changed, and no other
  changed-here : (b : PoolBlock) → b.number ≡ n → (with_change change n b).block ≡ change b.block
  changed-here b same = go (b.number == n) refl
    where
      go : (v : Bool) → (b.number == n) ≡ v → (if v then record b { block = change b.block } else b).block ≡ change b.block
      go true e = refl
      go false e = absurd (both_ways (b.number == n) e (eq-eqb b.number n same))

  changed-other : (b : PoolBlock) → (b.number ≡ n → ⊥) → with_change change n b ≡ b
  changed-other b other = go (b.number == n) refl
    where
      go : (v : Bool) → (b.number == n) ≡ v → (if v then record b { block = change b.block } else b) ≡ b
      go true e = absurd (other (eqb-true b.number n e))
      go false e = refl

-- two blocks of one number are the same
module _ (blocks : List PoolBlock) (rising : AllPairs (λ b c. b.number < c.number) blocks) where
  pub same-block : (b c : PoolBlock) → Contains blocks b → Contains blocks c → b.number ≡ c.number → b ≡ c
  same-block b c at to same =
      elim (cases_lt at.0 to.0) [
        | inl l ↦ absurd (less b c at.0 to.0 at.2 to.2 l to.1 same)
        | inr g ↦ elim (cases_lt to.0 at.0) [
          | inl l ↦ absurd (less c b to.0 at.0 to.2 at.2 l at.1 (sym same))
          | inr h ↦ let here : at.0 ≡ to.0 = omega (arith, g, h) in sym at.2 ∙ ap (λ (k : ℕ). slice_index_or blocks k b) here ∙ get_or_default blocks to.0 b c to.1 ∙ to.2
        ]
      ]
    where
      less : (x y : PoolBlock) (i j : ℕ) → slice_index_or blocks i x ≡ x → slice_index_or blocks j y ≡ y → i < j → j < length blocks → x.number ≡ y.number → ⊥
      less x y i j ex ey lt within e =
          let r = rising i j x lt within in
          let fx = ap (λ (b : PoolBlock). b.number) ex in
          let fy = ap (λ (b : PoolBlock). b.number) (get_or_default blocks j x y within ∙ ey) in
          omega (arith, r, fx, fy, e)

-- ---- a pool that gives a request a place

-- the place is in a new block, or in one that the pool has
pub data Place (p : Pool) (r : Request) (upper : Bool) (s : BlockStart) : Type 0 where
  NewBlock : s.block ≡ p.next → BlockGives (new_block p.info) r upper s.start → Place p r upper s
  OldBlock : (b : PoolBlock) → Contains p.blocks b → b.number ≡ s.block → BlockGives b.block r upper s.start → Place p r upper s

pub given-place : (p : Pool) (r : Request) (upper : Bool) (s : BlockStart) → Gives p r upper s → Place p r upper s
given-place p r upper s gives = go p.blocks (λ b c. c) gives
  where
    go : (bs : List PoolBlock) → ((b : PoolBlock) → Contains bs b → Contains p.blocks b) → GivesFrom p.info p.next bs r upper s → Place p r upper s
    go [] sub g = NewBlock g.0 g.1
    go (b ∷ bs) sub (inl here) = OldBlock b (sub b (contains-head b bs)) (sym here.0) here.1
    go (b ∷ bs) sub (inr later) = go bs (λ c at. sub c (contains-tail b bs c at)) later.1

module _ (p : Pool) (h : IsPool p) (r : Request) (some : 0 < r.size) (upper : Bool) (s : BlockStart) (gives : Gives p r upper s) where
  abbrev pub t : Taken
  t = taken_at s.start r

  abbrev pub change : Block → Block
  change k = block_with k r upper s.start

  abbrev pub fresh : PoolBlock
  fresh = record { number = p.next; block = change (new_block p.info) }

  pub new-is : s.block ≡ p.next → pool_with p r upper s ≡ record p { blocks = p.blocks ++ fresh ∷ []; next = p.next + 1 }
  new-is same = ap (λ (v : Bool). if v then record p { blocks = p.blocks ++ fresh ∷ []; next = p.next + 1 } else record p { blocks = in_block change s.block p.blocks }) (eq-eqb s.block p.next same)

  pub old-is : (s.block ≡ p.next → ⊥) → pool_with p r upper s ≡ record p { blocks = in_block change s.block p.blocks }
  old-is other = ap (λ (v : Bool). if v then record p { blocks = p.blocks ++ fresh ∷ []; next = p.next + 1 } else record p { blocks = in_block change s.block p.blocks }) (ne_eqb s.block p.next other)

  pub old-number : (b : PoolBlock) → Contains p.blocks b → b.number ≡ s.block → s.block ≡ p.next → ⊥
  old-number b at same new = omega (arith, All-contains (λ b. b.number < p.next) p.blocks b h.before_next at, same, new)

  pub none-new : (k : Block) → k ≡ new_block p.info → block_taken k ≡ []
  none-new k e = ap block_taken e ∙ empty p.info.kind
    where
      empty : (a : PoolKind) → block_taken (empty_block a p.info) ≡ []
      empty algorithm.Tlsf = refl
      empty algorithm.Linear = refl

  pub new-sound : IsSoundBlock (new_block p.info)
  new-sound = empty p.info.kind
    where
      empty : (a : PoolKind) → IsSoundBlock (empty_block a p.info)
      empty algorithm.Tlsf = (All-nil (λ t. 0 < t.size), record { inside = All-nil (λ t. t.start + t.size ≤ p.info.block_size); apart = λ i j d less there. absurd (omega arith) })
      empty algorithm.Linear = linear_stays.first p.info.block_size (p.info.block_limit == 1)

  -- the new range conflicts with none of its block
  pub range-apart : (u : Taken) → HasRange p s.block u → IsApart t u
  range-apart u has = go (given-place p r upper s gives)
    where
      go : Place p r upper s → IsApart t u
      go (NewBlock new g) = absurd (old-number has.block has.there has.number new)
      go (OldBlock b at number g) =
          let same = same-block p.blocks h.rising has.block b has.there at (has.number ∙ sym number) in
          given-apart b.block r upper s.start u (All-contains (λ b. IsSoundBlock b.block) p.blocks b h.sound at) g (subst (λ (c : PoolBlock). Contains (block_taken c.block) u) same has.range)

  -- it is taken
  pub range-new : HasRange (pool_with p r upper s) s.block t
  range-new = go (given-place p r upper s gives)
    where
      go : Place p r upper s → HasRange (pool_with p r upper s) s.block t
      go (NewBlock new g) = subst (λ (q : Pool). HasRange q s.block t) (sym (new-is new)) (record {
        block = fresh;
        there = Contains-append_right p.blocks (fresh ∷ []) fresh (contains-head fresh []);
        number = sym new;
        range = Contains-permutation (t ∷ block_taken (new_block p.info)) (block_taken fresh.block) t (IsPermutation-sym (block_taken fresh.block) (t ∷ block_taken (new_block p.info)) (given-permuted (new_block p.info) r upper s.start new-sound g)) (contains-head t (block_taken (new_block p.info)));
      })
      go (OldBlock b at number g) = subst (λ (q : Pool). HasRange q s.block t) (sym (old-is (old-number b at number))) (record {
        block = with_change change s.block b;
        there = map_has (with_change change s.block) p.blocks b at;
        number = same-number change s.block b ∙ number;
        range = subst (λ (k : Block). Contains (block_taken k) t) (sym (changed-here change s.block b number))
            (Contains-permutation (t ∷ block_taken b.block) (block_taken (change b.block)) t (IsPermutation-sym (block_taken (change b.block)) (t ∷ block_taken b.block) (given-permuted b.block r upper s.start (All-contains (λ b. IsSoundBlock b.block) p.blocks b h.sound at) g)) (contains-head t (block_taken b.block)));
      })

  -- and what was taken is
  pub range-kept : (n : ℕ) (u : Taken) → HasRange p n u → HasRange (pool_with p r upper s) n u
  range-kept n u has = go (given-place p r upper s gives)
    where
      one : (b : PoolBlock) → Contains p.blocks b → b.number ≡ s.block → BlockGives b.block r upper s.start → (v : Bool) → (has.block.number == s.block) ≡ v → Contains (block_taken (with_change change s.block has.block).block) u
      one b at number g true e =
          let here = eqb-true has.block.number s.block e in
          let same = same-block p.blocks h.rising has.block b has.there at (here ∙ sym number) in
          let gave = subst (λ (c : PoolBlock). BlockGives c.block r upper s.start) (sym same) g in
          subst (λ (k : Block). Contains (block_taken k) u) (sym (changed-here change s.block has.block here))
          (Contains-permutation (t ∷ block_taken has.block.block) (block_taken (change has.block.block)) u
          (IsPermutation-sym (block_taken (change has.block.block)) (t ∷ block_taken has.block.block) (given-permuted has.block.block r upper s.start (All-contains (λ b. IsSoundBlock b.block) p.blocks has.block h.sound has.there) gave))
          (contains-tail t (block_taken has.block.block) u has.range))
      one b at number g false e = subst (λ (c : PoolBlock). Contains (block_taken c.block) u) (sym (changed-other change s.block has.block (λ same. both_ways (has.block.number == s.block) e (eq-eqb has.block.number s.block same)))) has.range

      go : Place p r upper s → HasRange (pool_with p r upper s) n u
      go (NewBlock new g) = subst (λ (q : Pool). HasRange q n u) (sym (new-is new)) (record { block = has.block; there = Contains-append_left p.blocks (fresh ∷ []) has.block has.there; number = has.number; range = has.range })
      go (OldBlock b at number g) = subst (λ (q : Pool). HasRange q n u) (sym (old-is (old-number b at number))) (record {
        block = with_change change s.block has.block;
        there = map_has (with_change change s.block) p.blocks has.block has.there;
        number = same-number change s.block has.block ∙ has.number;
        range = one b at number g (has.block.number == s.block) refl;
      })

  -- nothing else is
  pub range-from : (n : ℕ) (u : Taken) → HasRange (pool_with p r upper s) n u → ((n ≡ s.block) × (u ≡ t)) ⊎ HasRange p n u
  range-from n u has = go (given-place p r upper s gives)
    where
      among-taken : (k : Block) → IsSoundBlock k → BlockGives k r upper s.start → Contains (block_taken (change k)) u → (u ≡ t) ⊎ Contains (block_taken k) u
      among-taken k sound g c = elim (contains-cons t (block_taken k) u (Contains-permutation (block_taken (change k)) (t ∷ block_taken k) u (given-permuted k r upper s.start sound g) c)) [ inl e ↦ inl (sym e) | inr old ↦ inr old ]

      in-new : HasRange (record p { blocks = p.blocks ++ fresh ∷ []; next = p.next + 1 }) n u → s.block ≡ p.next → BlockGives (new_block p.info) r upper s.start → ((n ≡ s.block) × (u ≡ t)) ⊎ HasRange p n u
      in-new has new g = elim (Contains-append_cases p.blocks (fresh ∷ []) has.block has.there) [
        | inl old ↦ inr (record { block = has.block; there = old; number = has.number; range = has.range })
        | inr one ↦ elim (contains-cons fresh [] has.block one) [
          | inl is ↦ elim (among-taken (new_block p.info) new-sound g (subst (λ (c : PoolBlock). Contains (block_taken c.block) u) (sym is) has.range)) [
            | inl e ↦ inl (sym has.number ∙ ap (λ (c : PoolBlock). c.number) (sym is) ∙ sym new, e)
            | inr old ↦ absurd (none_in u (subst (λ (l : List Taken). Contains l u) (none-new (new_block p.info) refl) old))
          ]
          | inr rest ↦ absurd (none_in has.block rest)
        ]
      ]

      in-old : HasRange (record p { blocks = in_block change s.block p.blocks }) n u → (b : PoolBlock) → Contains p.blocks b → b.number ≡ s.block → BlockGives b.block r upper s.start → ((n ≡ s.block) × (u ≡ t)) ⊎ HasRange p n u
      in-old has b at number g =
          let from = mapped_from (with_change change s.block) p.blocks has.block has.there in
          one from.0 from.1 from.2 (from.0.number == s.block) refl
        where
          one : (c : PoolBlock) → Contains p.blocks c → with_change change s.block c ≡ has.block → (v : Bool) → (c.number == s.block) ≡ v → ((n ≡ s.block) × (u ≡ t)) ⊎ HasRange p n u
          one c there is true e =
              let here = eqb-true c.number s.block e in
              let same = same-block p.blocks h.rising c b there at (here ∙ sym number) in
              let gave = subst (λ (d : PoolBlock). BlockGives d.block r upper s.start) (sym same) g in
              let inside = subst (λ (k : Block). Contains (block_taken k) u) (ap (λ (d : PoolBlock). d.block) (sym is) ∙ changed-here change s.block c here) has.range in
              let n-is = sym has.number ∙ ap (λ (d : PoolBlock). d.number) (sym is) ∙ same-number change s.block c in
              elim (among-taken c.block (All-contains (λ b. IsSoundBlock b.block) p.blocks c h.sound there) gave inside) [
                | inl e ↦ inl (n-is ∙ here, e)
                | inr old ↦ inr (record { block = c; there = there; number = sym n-is; range = old })
              ]
          one c there is false e =
              let other = changed-other change s.block c (λ same. both_ways (c.number == s.block) e (eq-eqb c.number s.block same)) in
              let is-c = sym is ∙ other in
              inr (record { block = c; there = there; number = ap (λ (d : PoolBlock). d.number) (sym is-c) ∙ has.number; range = subst (λ (d : PoolBlock). Contains (block_taken d.block) u) is-c has.range })

      go : Place p r upper s → ((n ≡ s.block) × (u ≡ t)) ⊎ HasRange p n u
      go (NewBlock new g) = in-new (subst (λ (q : Pool). HasRange q n u) (new-is new) has) new g
      go (OldBlock b at number g) = in-old (subst (λ (q : Pool). HasRange q n u) (old-is (old-number b at number)) has) b at number g

-- ---- a pool to which a range is given back

module _ (p : Pool) (h : IsPool p) (s : BlockStart) where
  abbrev without : Block → Block
  without k = block_without k s.start

  others-kept : (k : Block) (u : Taken) → Contains (block_taken k) u → (u.start ≡ s.start → ⊥) → Contains (block_taken (without k)) u
  others-kept k u c other = subst (λ (l : List Taken). Contains l u) (sym (freed-taken k s.start)) (filter_has (λ t. not (t.start == s.start)) (block_taken k) u c (not_from_false (u.start == s.start) (ne_eqb u.start s.start other)))

  others-from : (k : Block) (u : Taken) → Contains (block_taken (without k)) u → Contains (block_taken k) u × (u.start ≡ s.start → ⊥)
  others-from k u c =
      let f = filtered (λ t. not (t.start == s.start)) (block_taken k) u (subst (λ (l : List Taken). Contains l u) (freed-taken k s.start) c) in
      (f.0, λ same. both_ways (u.start == s.start) (not-true (u.start == s.start) f.1) (eq-eqb u.start s.start same))

  some-taken : (b : PoolBlock) (u : Taken) → Contains (block_taken b.block) u → IsTrue (has_some_taken b)
  some-taken b u c = go (block_taken b.block) c
    where
      go : (ts : List Taken) → Contains ts u → not (is_none_left ts) ≡ true
      go [] c = absurd (none_in u c)
      go (x ∷ xs) c = not_from_false (is_none_left (x ∷ xs)) (ne_eqb (length (x ∷ xs)) 0 (λ none. omega arith))

  -- what starts elsewhere stays taken
  pub left-kept : (n : ℕ) (u : Taken) → HasRange p n u → (n ≡ s.block → u.start ≡ s.start → ⊥) → HasRange (pool_without p s) n u
  left-kept n u has other =
      let c = with_change without s.block has.block in
      let range : Contains (block_taken c.block) u = one (has.block.number == s.block) refl in
      record {
        block = c;
        there = filter_has has_some_taken (in_block without s.block p.blocks) c (map_has (with_change without s.block) p.blocks has.block has.there) (some-taken c u range);
        number = same-number without s.block has.block ∙ has.number;
        range = range;
      }
    where
      one : (v : Bool) → (has.block.number == s.block) ≡ v → Contains (block_taken (with_change without s.block has.block).block) u
      one true e =
          let here = eqb-true has.block.number s.block e in
          subst (λ (k : Block). Contains (block_taken k) u) (sym (changed-here without s.block has.block here)) (others-kept has.block.block u has.range (other (sym has.number ∙ here)))
      one false e = subst (λ (c : PoolBlock). Contains (block_taken c.block) u) (sym (changed-other without s.block has.block (λ same. both_ways (has.block.number == s.block) e (eq-eqb has.block.number s.block same)))) has.range

  -- and nothing else does
  pub left-from : (n : ℕ) (u : Taken) → HasRange (pool_without p s) n u → HasRange p n u × (n ≡ s.block → u.start ≡ s.start → ⊥)
  left-from n u has =
      let f = filtered has_some_taken (in_block without s.block p.blocks) has.block has.there in
      let from = mapped_from (with_change without s.block) p.blocks has.block f.0 in
      one from.0 from.1 from.2 (from.0.number == s.block) refl
    where
      one : (c : PoolBlock) → Contains p.blocks c → with_change without s.block c ≡ has.block → (v : Bool) → (c.number == s.block) ≡ v → HasRange p n u × (n ≡ s.block → u.start ≡ s.start → ⊥)
      one c there is true e =
          let here = eqb-true c.number s.block e in
          let inside = subst (λ (k : Block). Contains (block_taken k) u) (ap (λ (d : PoolBlock). d.block) (sym is) ∙ changed-here without s.block c here) has.range in
          let n-is = sym has.number ∙ ap (λ (d : PoolBlock). d.number) (sym is) ∙ same-number without s.block c in
          let o = others-from c.block u inside in
          (record { block = c; there = there; number = sym n-is; range = o.0 }, λ same. o.1)
      one c there is false e =
          let other = changed-other without s.block c (λ same. both_ways (c.number == s.block) e (eq-eqb c.number s.block same)) in
          let is-c = sym is ∙ other in
          let number = ap (λ (d : PoolBlock). d.number) (sym is-c) ∙ has.number in (
            record { block = c; there = there; number = number; range = subst (λ (d : PoolBlock). Contains (block_taken d.block) u) is-c has.range },
            λ same start. both_ways (c.number == s.block) e (eq-eqb c.number s.block (number ∙ same)),
          )

-- ---- ranges of one pool are apart

-- two ranges that are taken in one block and start in two places don't conflict
pub ranges-apart : (p : Pool) → IsPool p → (n : ℕ) (t u : Taken) → HasRange p n t → HasRange p n u → (t.start ≡ u.start → ⊥) → IsApart t u
ranges-apart p h n t u a b other =
    let same = same-block p.blocks h.rising a.block b.block a.there b.there (a.number ∙ sym b.number) in
    let to = subst (λ (c : PoolBlock). Contains (block_taken c.block) u) (sym same) b.range in
    apart-in (block_taken a.block.block) (sound-block a.block.block (All-contains (λ b. IsSoundBlock b.block) p.blocks a.block h.sound a.there)).apart a.range to
  where
    sound-block : (k : Block) → IsSoundBlock k → IsSound (block_bytes k) (block_taken k)
    sound-block (General size taken) sound = sound.1
    sound-block (Stack b) sound = sound.sound

    apart-in : (ts : List Taken) → AllPairs IsApart ts → Contains ts t → Contains ts u → IsApart t u
    apart-in ts pairs x y = elim (cases_lt x.0 y.0) [
      | inl l ↦ subst (λ (v : Taken). IsApart v u) x.2 (subst (λ (v : Taken). IsApart (slice_index_or ts x.0 t) v) (get_or_default ts y.0 t u y.1 ∙ y.2) (pairs x.0 y.0 t l y.1))
      | inr g ↦ elim (cases_lt y.0 x.0) [
        | inl l ↦ apart_turned u t (subst (λ (v : Taken). IsApart v t) y.2 (subst (λ (v : Taken). IsApart (slice_index_or ts y.0 u) v) (get_or_default ts x.0 u t x.1 ∙ x.2) (pairs y.0 x.0 u l x.1)))
        | inr e ↦ let here : x.0 ≡ y.0 = omega (arith, g, e) in absurd (other (ap (λ (v : Taken). v.start) (sym x.2 ∙ ap (λ (k : ℕ). slice_index_or ts k t) here ∙ get_or_default ts y.0 t u y.1 ∙ y.2)))
      ]
    ]
