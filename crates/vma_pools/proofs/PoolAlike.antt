-- What holds of a pool holds of each that is alike.
use Rattle.std.proofs.Common.{◌≡◌, ℕ, zero, suc, ◌+◌, ◌<◌, List, [], ◌∷◌, ◌++◌, length, get_or, set, map, Bool, true, false, not, ◌==◌, ◌||◌, nat_le, refl, sym, ap, subst, ◌∙◌, arith, inl, inr}
use Rattle.std.specs.Prelude.{All, Any, IsTrue, if◌then◌else◌}
use Rattle.std.specs.List.{filter}
use Rattle.std.proofs.lemmas.List.{length-map, get_or_default}
use Rattle.std.proofs.lemmas.List.Elements.{All-nil, All-cons, All-head, All-tail, All-map}
use Rattle.vk_model.specs.declared.resource.PoolInfo.{PoolInfo}
use Rattle.vk_model.specs.Memory.Suballocation.{Request}
use Rattle.vk_model.specs.Memory.Room.{Block, Heaps, BlockHolds, NoRoomInPool, no_object}
use Rattle.vk_model.specs.Memory.MoveTargets.{BlockStart}
use Rattle.vk_model.specs.Memory.Pools.{PoolBlock, Pool, GivesFrom, Gives, IsPool, IsSoundBlock, block_with, block_without, has_some_taken, in_block, new_block, pool_with, pool_without, state_of, with_change}
use Rattle.vma_blocks.specs.Alike.{IsAlike}
use Rattle.vma_blocks.proofs.AlikeLemmas.{alike-refl, alike-sym, alike-same, alike-trans, alike-gives, alike-holds, alike-with, alike-without, alike-sound, alike-none_left}
use Rattle.vma_pools.specs.Alike.{IsAlikeBlock, AreAlike, IsAlikePool}

-- ---- an equivalence

pub are-refl : (bs : List PoolBlock) → AreAlike bs bs
are-refl [] = tt
are-refl (b ∷ bs) = ((refl, alike-refl b.block), are-refl bs)

pub are-sym : (bs cs : List PoolBlock) → AreAlike bs cs → AreAlike cs bs
are-sym [] [] h = tt
are-sym (b ∷ bs) (c ∷ cs) h = ((sym h.0.0, alike-sym b.block c.block h.0.1), are-sym bs cs h.1)
are-sym [] (c ∷ cs) h = absurd h
are-sym (b ∷ bs) [] h = absurd h

pub are-trans : (bs cs ds : List PoolBlock) → AreAlike bs cs → AreAlike cs ds → AreAlike bs ds
are-trans [] [] [] h i = tt
are-trans (b ∷ bs) (c ∷ cs) (d ∷ ds) h i = ((i.0.0 ∙ h.0.0, alike-trans b.block c.block d.block h.0.1 i.0.1), are-trans bs cs ds h.1 i.1)
are-trans [] [] (d ∷ ds) h i = absurd i
are-trans [] (c ∷ cs) ds h i = absurd h
are-trans (b ∷ bs) [] ds h i = absurd h
are-trans (b ∷ bs) (c ∷ cs) [] h i = absurd i

pub pool-refl : (p : Pool) → IsAlikePool p p
pool-refl p = record { info = refl; blocks = are-refl p.blocks; next = refl }

pub pool-sym : (p q : Pool) → IsAlikePool p q → IsAlikePool q p
pool-sym p q h = record { info = sym h.info; blocks = are-sym p.blocks q.blocks h.blocks; next = sym h.next }

pub pool-trans : (p q o : Pool) → IsAlikePool p q → IsAlikePool q o → IsAlikePool p o
pool-trans p q o h i = record { info = i.info ∙ h.info; blocks = are-trans p.blocks q.blocks o.blocks h.blocks i.blocks; next = i.next ∙ h.next }

-- ---- blocks

pub are-length : (bs cs : List PoolBlock) → AreAlike bs cs → length cs ≡ length bs
are-length [] [] h = refl
are-length (b ∷ bs) (c ∷ cs) h = ap (λ (n : ℕ). suc n) (are-length bs cs h.1)
are-length [] (c ∷ cs) h = absurd h
are-length (b ∷ bs) [] h = absurd h

pub are-at : (bs cs : List PoolBlock) → AreAlike bs cs → (i : ℕ) (d : PoolBlock) → IsAlikeBlock (get_or bs i d) (get_or cs i d)
are-at [] [] h i d = (refl, alike-refl d.block)
are-at (b ∷ bs) (c ∷ cs) h zero d = h.0
are-at (b ∷ bs) (c ∷ cs) h (suc i) d = are-at bs cs h.1 i d
are-at [] (c ∷ cs) h i d = absurd h
are-at (b ∷ bs) [] h i d = absurd h

-- what holds of all blocks
pub all-alike : (P Q : PoolBlock → Type 0) → ((b c : PoolBlock) → IsAlikeBlock b c → P b → Q c) → (bs cs : List PoolBlock) → AreAlike bs cs → All P bs → All Q cs
all-alike P Q over bs cs h all k d lt = over (get_or bs k d) (get_or cs k d) (are-at bs cs h k d) (all k d (omega (arith, lt, are-length bs cs h)))

-- blocks that are changed alike
pub are-mapped : (f g : PoolBlock → PoolBlock) → ((b c : PoolBlock) → IsAlikeBlock b c → IsAlikeBlock (f b) (g c)) → (bs cs : List PoolBlock) → AreAlike bs cs → AreAlike (map f bs) (map g cs)
are-mapped f g over [] [] h = tt
are-mapped f g over (b ∷ bs) (c ∷ cs) h = (over b c h.0, are-mapped f g over bs cs h.1)
are-mapped f g over [] (c ∷ cs) h = absurd h
are-mapped f g over (b ∷ bs) [] h = absurd h

pub are-appended : (bs cs ds es : List PoolBlock) → AreAlike bs cs → AreAlike ds es → AreAlike (bs ++ ds) (cs ++ es)
are-appended [] [] ds es h i = i
are-appended (b ∷ bs) (c ∷ cs) ds es h i = (h.0, are-appended bs cs ds es h.1 i)
are-appended [] (c ∷ cs) ds es h i = absurd h
are-appended (b ∷ bs) [] ds es h i = absurd h

pub are-set : (bs : List PoolBlock) (i : ℕ) (b c : PoolBlock) → IsAlikeBlock b c → AreAlike (set bs i b) (set bs i c)
are-set [] i b c h = tt
are-set (x ∷ bs) zero b c h = (h, are-refl bs)
are-set (x ∷ bs) (suc i) b c h = ((refl, alike-refl x.block), are-set bs i b c h)

some-alike : (b c : PoolBlock) → IsAlikeBlock b c → has_some_taken c ≡ has_some_taken b
some-alike b c h = ap (λ (v : Bool). not v) (alike-none_left b.block c.block h.1)

-- blocks of which something is taken
pub are-filtered : (bs cs : List PoolBlock) → AreAlike bs cs → AreAlike (filter has_some_taken bs) (filter has_some_taken cs)
are-filtered [] [] h = tt
are-filtered (b ∷ bs) (c ∷ cs) h =
    subst (λ (v : Bool). AreAlike (filter has_some_taken (b ∷ bs)) (if v then c ∷ filter has_some_taken cs else filter has_some_taken cs)) (sym (some-alike b c h.0))
    (elim (has_some_taken b) as (λ v. AreAlike (if v then b ∷ filter has_some_taken bs else filter has_some_taken bs) (if v then c ∷ filter has_some_taken cs else filter has_some_taken cs))
    [ true ↦ (h.0, are-filtered bs cs h.1) | false ↦ are-filtered bs cs h.1 ])
are-filtered [] (c ∷ cs) h = absurd h
are-filtered (b ∷ bs) [] h = absurd h

-- the block of a number, changed
pub are-changed : (f : Block → Block) (n : ℕ) → ((k l : Block) → IsAlike k l → IsAlike (f k) (f l)) → (bs cs : List PoolBlock) → AreAlike bs cs → AreAlike (in_block f n bs) (in_block f n cs)
are-changed f n over bs cs h = are-mapped (with_change f n) (with_change f n) one bs cs h
  where
    one : (b c : PoolBlock) → IsAlikeBlock b c → IsAlikeBlock (with_change f n b) (with_change f n c)
    one b c i =
        subst (λ (m : ℕ). IsAlikeBlock (with_change f n b) (if m == n then record c { block = f c.block } else c)) (sym i.0)
        (elim (b.number == n) as (λ v. IsAlikeBlock (if v then record b { block = f b.block } else b) (if v then record c { block = f c.block } else c))
        [ true ↦ (i.0, over b.block c.block i.1) | false ↦ i ])

-- ---- places

from-alike : (info : PoolInfo) (next : ℕ) (bs cs : List PoolBlock) (r : Request) (upper : Bool) (s : BlockStart) → AreAlike bs cs → GivesFrom info next bs r upper s → GivesFrom info next cs r upper s
from-alike info next [] [] r upper s h g = g
from-alike info next (b ∷ bs) (c ∷ cs) r upper s h (inl here) = inl (here.0 ∙ sym h.0.0, alike-gives b.block c.block r upper s.start h.0.1 here.1)
from-alike info next (b ∷ bs) (c ∷ cs) r upper s h (inr later) =
    inr (λ holds. later.0 (alike-holds c.block b.block r upper (alike-sym b.block c.block h.0.1) holds), from-alike info next bs cs r upper s h.1 later.1)
from-alike info next [] (c ∷ cs) r upper s h g = absurd h
from-alike info next (b ∷ bs) [] r upper s h g = absurd h

-- what holds of one block
pub any-alike : (P Q : PoolBlock → Type 0) → ((b c : PoolBlock) → IsAlikeBlock b c → P b → Q c) → (bs cs : List PoolBlock) → AreAlike bs cs → Any P bs → Any Q cs
any-alike P Q over bs cs h a =
    let lt : a.0 < length cs = omega (arith, a.2, are-length bs cs h) in
    let c : PoolBlock = get_or cs a.0 a.1 in
    (a.0, c, lt, get_or_default cs a.0 c a.1 lt, over a.1 c (subst (λ (b : PoolBlock). IsAlikeBlock b c) a.3 (are-at bs cs h a.0 a.1)) a.4)

blocks-hold : (bs : List PoolBlock) (r : Request) (upper : Bool) → All (λ k. BlockHolds k r upper → ⊥) (map (λ b. b.block) bs) → All (λ b. BlockHolds b.block r upper → ⊥) bs
blocks-hold [] r upper all = All-nil (λ b. BlockHolds b.block r upper → ⊥)
blocks-hold (b ∷ bs) r upper all =
    All-cons (λ c. BlockHolds c.block r upper → ⊥) b bs (All-head (λ k. BlockHolds k r upper → ⊥) b.block (map (λ c. c.block) bs) all)
    (blocks-hold bs r upper (All-tail (λ k. BlockHolds k r upper → ⊥) b.block (map (λ c. c.block) bs) all))

module _ (p q : Pool) (h : IsAlikePool p q) where
  pub alike-gives_place : (r : Request) (upper : Bool) (s : BlockStart) → Gives p r upper s → Gives q r upper s
  alike-gives_place r upper s g =
      subst (λ (info : PoolInfo). GivesFrom info q.next q.blocks r upper s) (sym h.info)
      (subst (λ (next : ℕ). GivesFrom p.info next q.blocks r upper s) (sym h.next) (from-alike p.info p.next p.blocks q.blocks r upper s h.blocks g))

  pub alike-none_holds : (r : Request) (upper : Bool) → All (λ b. BlockHolds b.block r upper → ⊥) p.blocks → All (λ b. BlockHolds b.block r upper → ⊥) q.blocks
  alike-none_holds r upper none =
      all-alike (λ b. BlockHolds b.block r upper → ⊥) (λ b. BlockHolds b.block r upper → ⊥)
      (λ b c i refused holds. refused (alike-holds c.block b.block r upper (alike-sym b.block c.block i.1) holds)) p.blocks q.blocks h.blocks none

  pub alike-no_room : (heaps : Heaps) (r : Request) (upper : Bool) → NoRoomInPool heaps (state_of p) r upper → NoRoomInPool heaps (state_of q) r upper
  alike-no_room heaps r upper none =
      let long : length (state_of q).blocks ≡ length (state_of p).blocks = length-map q.blocks (λ b. b.block) ∙ are-length p.blocks q.blocks h.blocks ∙ sym (length-map p.blocks (λ b. b.block)) in
      record {
        none_holds = All-map (λ k. BlockHolds k r upper → ⊥) (λ b. b.block) q.blocks (alike-none_holds r upper (blocks-hold p.blocks r upper none.none_holds));
        no_new =
            ap (λ (n : ℕ). nat_le q.info.block_limit n || no_object heaps q.info.memory_type q.info.block_size) long
            ∙ ap (λ (info : PoolInfo). nat_le info.block_limit (length (state_of p).blocks) || no_object heaps info.memory_type info.block_size) h.info ∙ none.no_new;
      }

  pub alike-pool : IsPool p → IsPool q
  alike-pool is =
      let numbers = λ (i : ℕ) (d : PoolBlock). (are-at p.blocks q.blocks h.blocks i d).0 in
      let long = are-length p.blocks q.blocks h.blocks in
      record {
        rising = λ i j d less lt. omega (arith, numbers i d, numbers j d, is.rising i j d less (omega (arith, lt, long)));
        before_next = all-alike (λ b. b.number < p.next) (λ c. c.number < q.next) (λ b c i lt. omega (arith, i.0, h.next, lt)) p.blocks q.blocks h.blocks is.before_next;
        none_empty = all-alike (λ b. IsTrue (has_some_taken b)) (λ c. IsTrue (has_some_taken c)) (λ b c i t. some-alike b c i ∙ t) p.blocks q.blocks h.blocks is.none_empty;
        sound = all-alike (λ b. IsSoundBlock b.block) (λ c. IsSoundBlock c.block) (λ b c i t. alike-sound b.block c.block i.1 t) p.blocks q.blocks h.blocks is.sound;
      }

  -- a range is taken
  pub alike-pool_with : (r : Request) (upper : Bool) (s : BlockStart) → IsAlikePool (pool_with p r upper s) (pool_with q r upper s)
  alike-pool_with r upper s =
      subst (λ (n : ℕ). IsAlikePool (pool_with p r upper s) (if s.block == n then record q { blocks = q.blocks ++ record { number = q.next; block = block_with (new_block q.info) r upper s.start } ∷ []; next = q.next + 1 } else record q { blocks = in_block (λ k. block_with k r upper s.start) s.block q.blocks })) (sym h.next)
      (elim (s.block == p.next) as (λ v. IsAlikePool (if v then record p { blocks = p.blocks ++ record { number = p.next; block = block_with (new_block p.info) r upper s.start } ∷ []; next = p.next + 1 } else record p { blocks = in_block (λ k. block_with k r upper s.start) s.block p.blocks })
      (if v then record q { blocks = q.blocks ++ record { number = q.next; block = block_with (new_block q.info) r upper s.start } ∷ []; next = q.next + 1 } else record q { blocks = in_block (λ k. block_with k r upper s.start) s.block q.blocks })) [
        | true ↦ record {
          info = h.info;
          blocks = are-appended p.blocks q.blocks (record { number = p.next; block = block_with (new_block p.info) r upper s.start } ∷ []) (record { number = q.next; block = block_with (new_block q.info) r upper s.start } ∷ [])
              h.blocks ((h.next, alike-same (block_with (new_block p.info) r upper s.start) (block_with (new_block q.info) r upper s.start) (ap (λ (info : PoolInfo). block_with (new_block info) r upper s.start) h.info)), tt);
          next = ap (λ (n : ℕ). n + 1) h.next;
        }
        | false ↦ record {
          info = h.info;
          blocks = are-changed (λ k. block_with k r upper s.start) s.block (λ k l i. alike-with k l r upper s.start i) p.blocks q.blocks h.blocks;
          next = h.next;
        }
      ])

  -- a range is given back
  pub alike-pool_without : (s : BlockStart) → IsAlikePool (pool_without p s) (pool_without q s)
  alike-pool_without s =
      record {
        info = h.info;
        blocks = are-filtered (in_block (λ k. block_without k s.start) s.block p.blocks) (in_block (λ k. block_without k s.start) s.block q.blocks)
            (are-changed (λ k. block_without k s.start) s.block (λ k l i. alike-without k l s.start i) p.blocks q.blocks h.blocks);
        next = h.next;
      }
