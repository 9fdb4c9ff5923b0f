-- The pool of a device when the targets of moves are reserved, one after another.
use Rattle.std.proofs.Common.{◌≡◌, ℕ, ◌<◌, List, [], ◌∷◌, map, length, Bool, false, ◌==◌, Option, Some, None, refl, sym, ap, subst, ◌∙◌, arith, inl, inr}
use Rattle.std.specs.Prelude.{Contains, if◌then◌else◌, ⊤}
use Rattle.std.specs.Option.{option_and_then}
use Rattle.std.specs.List.{filter, fold}
use Rattle.std.proofs.lemmas.Bool.{cases_eq, eq-eqb}
use Rattle.vk_memory.specs.MemoryState.{MemoryState}
use Rattle.vk_model.specs.Memory.Suballocation.{Request}
use Rattle.vk_model.specs.Memory.MoveTargets.{BlockStart, Resident, Moved}
use Rattle.vk_model.specs.Memory.Pools.{Pool, pool_with}
use Rattle.vk_model.specs.Memory.Allocations.{PoolMemory, with_target}
use Rattle.vk_model.proofs.Lists.Members.{contains-head, contains-tail}
use Rattle.vma_pools.specs.Alike.{IsAlikePool}
use Rattle.vma_pools.specs.declared.pool.PoolPlace.{PoolPlace}
use Rattle.vma_pools.specs.declared.allocations.Asked.{Asked}
use Rattle.vma_pools.specs.declared.allocations.Allocation.{Allocation}
use Rattle.vma_pools.specs.declared.allocations.Home.{Home}
use Rattle.vma_pools.specs.Pools.{Kept}
use Rattle.vma_pools.specs.State.{PoolsState, pool_at, allocation_at, start_of, request_in, IsReserved}
use Rattle.vma_pools.proofs.NumberLemmas.{at-below, at-set, at-other}
use Rattle.vma_pools.proofs.PoolAlike.{pool-trans, alike-pool_with}
use Rattle.vma_pools.proofs.CountedLemmas.{old-blocks}
use Rattle.vma_pools.proofs.StateLemmas.{some-is, given-info}
use Rattle.vma_defrag.specs.Passes.{Reserves}
use Rattle.vk_backing.specs.Backed.{Backed, allocation_by, IsBacked, IsWhole}
use Rattle.vk_backing.specs.Allotted.{resident_at, resident_of}
use Rattle.vk_backing.proofs.Spots.{home_pool}
use Rattle.vk_backing.proofs.Naming.{LiesOn, name, name_has, renamed_move}

-- ---- allocations that ask the same and lie at the same places

abbrev pub SameShape : Option Allocation → Option Allocation → Type 0
SameShape None None = ⊤
SameShape (Some a) (Some c) = (c.asked ≡ a.asked) × (c.home ≡ a.home)
SameShape _ _ = ⊥

pub shape_refl : (o : Option Allocation) → SameShape o o
shape_refl None = tt
shape_refl (Some a) = (refl, refl)

pub shape_trans : (a b c : Option Allocation) → SameShape a b → SameShape b c → SameShape a c
shape_trans None None None x y = tt
shape_trans (Some a) (Some b) (Some c) x y = (y.0 ∙ x.0, y.1 ∙ x.1)
shape_trans None None (Some c) x y = absurd y
shape_trans None (Some b) c x y = absurd x
shape_trans (Some a) None c x y = absurd x
shape_trans (Some a) (Some b) None x y = absurd y

pub same_resident : (p r : ℕ) (o u : Option Allocation) → SameShape o u → resident_of p r o ≡ resident_of p r u
same_resident p r None None s = refl
same_resident p r (Some a) (Some c) s = ap (λ (x : Asked). resident_at p r x a.home) (sym s.0) ∙ ap (λ (l : Home). resident_at p r c.asked l) (sym s.1)
same_resident p r None (Some c) s = absurd s
same_resident p r (Some a) None s = absurd s

pub shape_some : (o u : Option Allocation) (a : Allocation) → SameShape o u → o ≡ Some a → (c : Allocation) × (u ≡ Some c) × (c.asked ≡ a.asked) × (c.home ≡ a.home)
shape_some None u a s e = absurd cc
shape_some (Some x) None a s e = absurd s
shape_some (Some x) (Some c) a s e = let is = some-is x a e in (c, refl, s.0 ∙ ap (λ (z : Allocation). z.asked) is, s.1 ∙ ap (λ (z : Allocation). z.home) is)

abbrev pub SameShapes : PoolsState → PoolsState → Type 0
SameShapes s t = (i : ℕ) → SameShape (allocation_at s i) (allocation_at t i)

-- ---- one move

module _ (s t : PoolsState) (i : ℕ) (target : PoolPlace) (h : IsReserved s t i target) where
  here : allocation_at t i ≡ Some (record h.allocation { target = Some target })
  here = ap (λ (x : PoolsState). allocation_at x i) h.state ∙ at-set s.allocations i (Some (record h.allocation { target = Some target })) (at-below s.allocations i h.allocation h.live)

  pub reserved_shapes : SameShapes s t
  reserved_shapes j = elim (cases_eq j i) [
    | inl e ↦ subst (λ (k : ℕ). SameShape (allocation_at s k) (allocation_at t k)) (sym e)
        (subst (λ (o : Option Allocation). SameShape o (allocation_at t i)) (sym h.live) (subst (λ (o : Option Allocation). SameShape (Some h.allocation) o) (sym here) (refl, refl)))
    | inr other ↦ subst (λ (o : Option Allocation). SameShape (allocation_at s j) o) (sym (ap (λ (x : PoolsState). allocation_at x j) h.state ∙ at-other s.allocations i j (Some (record h.allocation { target = Some target })) other)) (shape_refl (allocation_at s j))
  ]

  reserved_here : pool_at t h.pool ≡ Some h.now
  reserved_here = ap (λ (x : PoolsState). pool_at x h.pool) h.state ∙ at-set s.pools h.pool (Some h.now) (at-below s.pools h.pool h.was h.there)

  reserved_other : (p : ℕ) → (p ≡ h.pool → ⊥) → pool_at t p ≡ pool_at s p
  reserved_other p other = ap (λ (x : PoolsState). pool_at x p) h.state ∙ at-other s.pools h.pool p (Some h.now) other

-- ---- all moves

-- the pool of a device has the targets taken as the pool that is kept
pub record TakesAll (s t : PoolsState) (p : ℕ) (k : Kept) (q r : PoolMemory) : Type 0 where
  pub now : Kept
  pub there : pool_at t p ≡ Some now
  pub alike : IsAlikePool r.pool now.pool
  pub memories : now.memories ≡ k.memories
  pub others : (u : ℕ) → (u ≡ p → ⊥) → pool_at t u ≡ pool_at s u
  pub shapes : SameShapes s t
  pub residents : r.residents ≡ q.residents
  pub id : r.id ≡ q.id
  pub info : r.pool.info ≡ q.pool.info
  pub long : length r.pool.blocks ≡ length q.pool.blocks

module _ (b : Backed) (m : MemoryState) (h : IsBacked b m) (whole : IsWhole b) (p : ℕ) where
  abbrev as_moved : Moved → Moved
  as_moved x = renamed_move b m h whole x

  -- the resident that a move is of
  module _ (q : PoolMemory) (are : (r : ℕ) → filter (λ a. a.id == r) q.residents ≡ resident_of p r (allocation_by b r)) (n : ℕ) (x : Allocation) (live : allocation_at b.pools n ≡ Some x) (lies : LiesOn b m h whole p x) where
    the_resident : filter (λ a. a.id == name b m h whole n) q.residents ≡ record { id = name b m h whole n; from = start_of lies.0; request = request_in x.asked } ∷ []
    the_resident =
        are (name b m h whole n)
        ∙ ap (λ (o : Option Allocation). resident_of p (name b m h whole n) o) (ap (λ (o : Option ℕ). option_and_then (allocation_at b.pools) o) (name_has b m h whole n x p live lies) ∙ live)
        ∙ ap (λ (l : Home). resident_at p (name b m h whole n) x.asked l) lies.1
        ∙ ap (λ (v : Bool). if v then record { id = name b m h whole n; from = start_of lies.0; request = request_in x.asked } ∷ [] else []) (eq-eqb p p refl)

  pub take_all : (ms : List Moved) (s t : PoolsState) (k : Kept) (q : PoolMemory) → Reserves s ms t → SameShapes b.pools s → ((n : Moved) → Contains ms n → (x : Allocation) × (allocation_at b.pools n.id ≡ Some x) × LiesOn b m h whole p x)
      → pool_at s p ≡ Some k → IsAlikePool q.pool k.pool → ((r : ℕ) → filter (λ a. a.id == r) q.residents ≡ resident_of p r (allocation_by b r)) → TakesAll s t p k q (fold with_target q (map as_moved ms))
  take_all [] s t k q e shapes in_pool at alike are =
      subst (λ (x : PoolsState). TakesAll s x p k q q) (sym e)
      (record { now = k; there = at; alike = alike; memories = refl; others = λ u other. refl; shapes = λ i. shape_refl (allocation_at s i); residents = refl; id = refl; info = refl; long = refl })
  take_all (n ∷ ns) s t k q (mid, target, to, one, rest) shapes in_pool at alike are =
      let its = in_pool n (contains-head n ns) in
      let found = shape_some (allocation_at b.pools n.id) (allocation_at s n.id) its.0 (shapes n.id) its.1 in
      let same = some-is one.allocation found.0 (sym one.live ∙ found.1) in
      let asked : one.allocation.asked ≡ its.0.asked = ap (λ (z : Allocation). z.asked) same ∙ found.2 in
      let place = sym one.lies ∙ ap (λ (z : Allocation). z.home) same ∙ found.3 ∙ its.2.1 in
      let pool : one.pool ≡ p = home_pool one.pool p one.from its.2.0 place in
      let was : one.was ≡ k = some-is one.was k (sym one.there ∙ ap (λ (i : ℕ). pool_at s i) pool ∙ at) in
      let r : Request = request_in its.0.asked in
      let w : PoolMemory = with_target q (as_moved n) in
      let first : w.pool ≡ pool_with q.pool r false n.to = ap (λ (l : List Resident). fold (λ p a. pool_with p a.request false n.to) q.pool l) (the_resident q are n.id its.0 its.1 its.2) in
      let taken : IsAlikePool (pool_with k.pool r false n.to) one.now.pool =
      subst (λ (s : BlockStart). IsAlikePool (pool_with k.pool r false s) one.now.pool) to
      (subst (λ (x : Kept). IsAlikePool (pool_with x.pool r false (start_of target)) one.now.pool) was
      (subst (λ (x : Asked). IsAlikePool (pool_with one.was.pool (request_in x) false (start_of target)) one.now.pool) asked one.takes.pool)) in
      let now_alike : IsAlikePool w.pool one.now.pool =
      subst (λ (x : Pool). IsAlikePool x one.now.pool) (sym first) (pool-trans (pool_with q.pool r false n.to) (pool_with k.pool r false n.to) one.now.pool (alike-pool_with q.pool k.pool alike r false n.to) taken) in
      let at_mid : pool_at mid p ≡ Some one.now = ap (λ (i : ℕ). pool_at mid i) (sym pool) ∙ reserved_here s mid n.id target one in
      let more = take_all ns mid t one.now w rest (λ i. shape_trans (allocation_at b.pools i) (allocation_at s i) (allocation_at mid i) (shapes i) (reserved_shapes s mid n.id target one i)) (λ x there. in_pool x (contains-tail n ns x there)) at_mid now_alike are in
      let low : n.to.block < q.pool.next = omega (arith, ap (λ (s : BlockStart). s.block) to, one.takes.has, ap (λ (x : Kept). x.pool.next) was, alike.next) in
      record {
        now = more.now;
        there = more.there;
        alike = more.alike;
        memories = more.memories ∙ one.takes.memories ∙ ap (λ (x : Kept). x.memories) was;
        others = λ u other. more.others u other ∙ reserved_other s mid n.id target one u (λ e. other (e ∙ pool));
        shapes = λ i. shape_trans (allocation_at s i) (allocation_at mid i) (allocation_at t i) (reserved_shapes s mid n.id target one i) (more.shapes i);
        residents = more.residents;
        id = more.id;
        info = more.info ∙ ap (λ (x : Pool). x.info) first ∙ given-info q.pool r false n.to;
        long = more.long ∙ ap (λ (x : Pool). length x.blocks) first ∙ old-blocks q.pool r false n.to low;
      }

-- targets that are reserved change no shape
pub reserves_shapes : (ms : List Moved) (s t : PoolsState) → Reserves s ms t → SameShapes s t
reserves_shapes [] s t e = subst (λ (x : PoolsState). SameShapes s x) (sym e) (λ i. shape_refl (allocation_at s i))
reserves_shapes (n ∷ ns) s t (mid, target, to, one, rest) = λ i. shape_trans (allocation_at s i) (allocation_at mid i) (allocation_at t i) (reserved_shapes s mid n.id target one i) (reserves_shapes ns mid t rest i)
