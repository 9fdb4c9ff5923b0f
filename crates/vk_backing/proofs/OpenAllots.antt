-- What is allocated when a pass has begun.
use Rattle.std.proofs.Common.{◌≡◌, ℕ, ◌*◌, List, [], ◌∷◌, map, length, get_or, ◌==◌, Option, Some, None, refl, sym, ap, subst, ◌∙◌, arith, inl, inr}
use Rattle.std.specs.Prelude.{Contains, if◌then◌else◌}
use Rattle.std.specs.Option.{option_and_then}
use Rattle.std.specs.List.{filter, fold}
use Rattle.std.proofs.lemmas.Bool.{cases_eq}
use Rattle.std.proofs.lemmas.List.{get_or_default}
use Rattle.std.proofs.lemmas.List.Elements.{All-contains}
use Rattle.vk_memory.specs.MemoryState.{MemoryState}
use Rattle.vk_model.specs.declared.resource.PoolInfo.{PoolInfo}
use Rattle.vk_model.specs.Memory.Room.{heap_of}
use Rattle.vk_model.specs.Memory.MoveTargets.{Moved, Resident, pass_moves}
use Rattle.vk_model.specs.Memory.Pools.{IsByPlace, numbered_blocks}
use Rattle.vk_model.specs.Memory.Allocations.{Allocated, Defragmentation, PoolMemory, PassBegins, Begins, defragmented, pool_by_id, pool_bytes, with_pool, with_target}
use Rattle.vma_pools.specs.declared.allocations.Allocation.{Allocation}
use Rattle.vma_pools.specs.Alike.{IsAlikePool}
use Rattle.vma_pools.specs.Pools.{Kept}
use Rattle.vma_pools.specs.State.{pool_at, allocation_at}
use Rattle.vma_pools.proofs.PoolAlike.{are-sym}
use Rattle.vma_pools.proofs.StateLemmas.{some-is}
use Rattle.vma_defrag.specs.State.{DefragState, moves_in}
use Rattle.vma_defrag.specs.Plans.{ArePlanned, IsMove}
use Rattle.vma_defrag.specs.Passes.{Reserves}
use Rattle.vma_defrag.specs.Bytes.{no_move}
use Rattle.vma_defrag.proofs.Likeness.{blocks-same, moves-same}
use Rattle.vk_backing.specs.declared.backing.Own.{Own}
use Rattle.vk_backing.specs.Backed.{Backed, number_in, object_in, pool_of, allocation_of, allocation_by, IsBacked, IsWhole}
use Rattle.vk_backing.specs.Allotted.{allotted, resident_of}
use Rattle.vk_backing.specs.Passing.{Passing, ArePassing, AreMovers, defrag_in, open_defrag, moves_by, moves_on, moves_in_pool, named_in}
use Rattle.vk_backing.specs.PassSteps.{Opens}
use Rattle.vk_backing.specs.PassAllots.{AreDefragsOf, FulfilsAll}
use Rattle.vk_backing.proofs.Keyed.{found_some}
use Rattle.vk_backing.proofs.Places.{its_pools, its, its_found, its_alike}
use Rattle.vk_backing.proofs.Naming.{LiesOn, name_is}
use Rattle.vk_backing.proofs.NamedMoves.{as_named, as_moved, moves_named, named_by_place, named_moves_from}
use Rattle.vk_backing.proofs.ChangedMoves.{moves_changed, same_defrags}
use Rattle.vk_backing.proofs.ChangedPool.{ChangesPool, pool_changed}
use Rattle.vk_backing.proofs.Passing.{moves_elsewhere, moves_here, open_is, open_none}
use Rattle.vk_backing.proofs.Targets.{SameShape, SameShapes, TakesAll, same_resident, shape_refl, reserves_shapes, take_all}

-- ---- moves by ids

pub named_none : (ids : List ℕ) → named_in ids [] ≡ []
named_none [] = refl
named_none (i ∷ is) = refl

-- where no pass is open nothing moves
pub none_moves : (p : Passing) (n : ℕ) → p.opened ≡ None → moves_in_pool p n ≡ []
none_moves p n e = ap (λ (o : Option DefragState). moves_on n o) (open_none p e)

module _ (b c : Backed) (m : MemoryState) (h : IsBacked b m) (whole : IsWhole b) (old new : Passing) (id : ℕ) (o : Opens old new b c id) (after : ArePassing new c) (closed : old.opened ≡ None) (d : Allocated) (is : FulfilsAll (allotted b m) old d) where
  -- ---- the defragmentation, and its pool

  its_defrag : AreDefragsOf b id (Some o.was) (filter (λ f. f.id == id) d.defragmentations)
  its_defrag = subst (λ (x : Option DefragState). AreDefragsOf b id x (filter (λ f. f.id == id) d.defragmentations)) o.there (is.defrags id)

  abbrev pid : ℕ
  pid = its_defrag.0

  abbrev p : ℕ
  p = o.was.pool

  named : pool_of b pid ≡ Some p
  named = its_defrag.1

  abbrev f : Defragmentation
  f = record { id = id; pool = pid; max_bytes = o.was.max_bytes; max_moves = o.was.max_moves }

  found : defragmented id d ≡ Some f
  found = found_some (λ (x : Defragmentation). x.id) id d.defragmentations f its_defrag.2

  abbrev kept : Kept
  kept = o.begun.kept

  there : pool_at b.pools p ≡ Some kept
  there = o.begun.there

  abbrev q : PoolMemory
  q = its b m d is.resources pid p named kept there

  q_found : pool_by_id pid d ≡ Some q
  q_found = its_found b m d is.resources pid p named kept there

  alike : IsAlikePool q.pool kept.pool
  alike = its_alike b m d is.resources pid p named kept there

  are : (r : ℕ) → filter (λ a. a.id == r) q.residents ≡ resident_of p r (allocation_by b r)
  are = (its_pools b m d is.resources pid p named kept there).4.residents

  -- ---- its moves

  abbrev ms : List Moved
  ms = pass_moves o.was.max_bytes o.was.max_moves (numbered_blocks kept.pool.blocks) o.begun.listed

  abbrev named_ms : List Moved
  named_ms = map (as_moved b m h whole) ms

  abbrev listed : List Resident
  listed = map (as_named b m h whole) o.begun.listed

  moves_are : pass_moves f.max_bytes f.max_moves (numbered_blocks q.pool.blocks) listed ≡ named_ms
  moves_are =
      named_moves_from b m h whole o.was.max_bytes o.was.max_moves 0 0 (numbered_blocks q.pool.blocks) o.begun.listed
      ∙ ap (λ (l : List Moved). map (as_moved b m h whole) l)
      (moves-same o.was.max_bytes o.was.max_moves o.begun.listed 0 0 (numbered_blocks kept.pool.blocks) (numbered_blocks q.pool.blocks) (blocks-same kept.pool.blocks q.pool.blocks (are-sym q.pool.blocks kept.pool.blocks alike.blocks)))

  now_moves : moves_in o.now.current ≡ ms
  now_moves = ap (λ (x : DefragState). moves_in x.current) o.begun.state

  reserved : Reserves b.pools ms c.pools
  reserved = subst (λ (l : List Moved). Reserves b.pools l c.pools) now_moves o.begun.reserved

  shapes : SameShapes b.pools c.pools
  shapes = reserves_shapes ms b.pools c.pools reserved

  now_pool : o.now.pool ≡ p
  now_pool = ap (λ (x : DefragState). x.pool) o.begun.state

  now_open : open_defrag new ≡ Some o.now
  now_open = open_is new id o.opened ∙ o.here

  in_pool_now : moves_in_pool new p ≡ ms
  in_pool_now =
      ap (λ (x : Option DefragState). moves_on p x) now_open ∙ moves_here o.now p now_pool ∙ now_moves

  moving : (n : Moved) → Contains ms n → IsMove c.pools p n
  moving n at = All-contains (IsMove c.pools p) ms n (subst (λ (l : List Moved). ArePlanned c.pools p l) in_pool_now (after.planned p)).each at

  in_pool : (n : Moved) → Contains ms n → (x : Allocation) × (allocation_at b.pools n.id ≡ Some x) × LiesOn b m h whole p x
  in_pool n at =
      let its = moving n at in
      let before = go (allocation_at b.pools n.id) (allocation_at c.pools n.id) (shapes n.id) its.allocation its.live in
      (before.0, before.1, (its.from, sym before.2 ∙ its.lies))
    where
      go : (x y : Option Allocation) → SameShape x y → (a : Allocation) → y ≡ Some a → (z : Allocation) × (x ≡ Some z) × (a.home ≡ z.home)
      go None None s a e = absurd cc
      go None (Some y) s a e = absurd s
      go (Some x) None s a e = absurd s
      go (Some x) (Some y) s a e = (x, refl, ap (λ (z : Allocation). z.home) (sym (some-is y a e)) ∙ s.1)

  abbrev r0 : PoolMemory
  r0 = fold with_target q named_ms

  abbrev r : PoolMemory
  r = record r0 { moves = named_ms }

  takes : TakesAll b.pools c.pools p kept q r0
  takes = take_all b m h whole p ms b.pools c.pools kept q reserved (λ i. shape_refl (allocation_at b.pools i)) in_pool there alike are

  -- ---- the pass begins

  begins : Begins d id (with_pool r d)
  begins =
      let by_place : IsByPlace q.residents listed = named_by_place b m h whole p q.residents o.begun.listed are o.begun.by_place in
      let pass : PassBegins f q r = (listed, by_place, ap (λ (l : List Moved). record (fold with_target q l) { moves = l }) (sym moves_are)) in
      rw (found, q_found, Begins) (r, pass, refl)

  -- ---- what is allocated then

  names : (i : ℕ) → pool_of c i ≡ pool_of b i
  names i = ap (λ (l : List (ℕ × ℕ)). number_in l i) o.keeps.numbers

  same_by : (t j : ℕ) → resident_of t j (allocation_by b j) ≡ resident_of t j (allocation_by c j)
  same_by t j =
      go (allocation_of b j)
      ∙ sym (ap (λ (l : List (ℕ × ℕ)). resident_of t j (option_and_then (allocation_at c.pools) (number_in l j))) o.keeps.allocations)
    where
      go : (x : Option ℕ) → resident_of t j (option_and_then (allocation_at b.pools) x) ≡ resident_of t j (option_and_then (allocation_at c.pools) x)
      go None = refl
      go (Some n) = same_resident t j (allocation_at b.pools n) (allocation_at c.pools n) (shapes n)

  same_bytes : (heap : ℕ) → pool_bytes heap r ≡ pool_bytes heap q
  same_bytes heap =
      ap (λ (i : PoolInfo). if heap_of i.memory_type == heap then length r0.pool.blocks * i.block_size else 0) takes.info
      ∙ ap (λ (n : ℕ). if heap_of q.pool.info.memory_type == heap then n * q.pool.info.block_size else 0) takes.long

  changes : ChangesPool b c m m pid p takes.now q r
  changes = record {
    named = named;
    here = takes.there;
    others = takes.others;
    names = names;
    owned = λ i. ap (λ (l : List (ℕ × Own)). object_in l i) o.keeps.owned;
    one_pool = h.one_pool;
    id_is = takes.id ∙ (its_pools b m d is.resources pid p named kept there).4.id_is;
    alike = takes.alike;
    residents = λ j. ap (λ (l : List Resident). filter (λ a. a.id == j) l) takes.residents ∙ are j ∙ same_by p j;
    elsewhere = λ t away j. same_by t j;
    sizes = refl;
    bytes = λ first. (let s = same_bytes (if first then 0 else 1) in omega (arith, s));
    count = (let s = takes.long in omega (arith, s));
    kinds = λ i k has. refl;
  }

  abbrev e : Allocated
  e = with_pool r d

  -- ---- moves by ids

  movers : AreMovers c new.moving ms
  movers = subst (λ (l : List Moved). AreMovers c new.moving l) (ap (λ (x : Option DefragState). moves_by x) now_open ∙ now_moves) after.movers

  named_are : named_ms ≡ named_in new.moving ms
  named_are = moves_named b m h whole new.moving ms movers.long (λ k lt.
      let n : Moved = get_or ms k no_move in
      let its = in_pool n (k, lt, sym (get_or_default ms k no_move n lt)) in
      name_is b m h whole (get_or new.moving k 0) n.id its.0 p its.1 its.2 (sym (ap (λ (l : List (ℕ × ℕ)). number_in l (get_or new.moving k 0)) o.keeps.allocations) ∙ movers.each k lt))

  moves_then : (i n : ℕ) (x : PoolMemory) → pool_of c i ≡ Some n → pool_by_id i e ≡ Some x → x.moves ≡ named_in new.moving (moves_in_pool new n)
  moves_then =
      moves_changed b c names m old new d is h.one_pool pid p named q r (its_pools b m d is.resources pid p named kept there).2 (its_pools b m d is.resources pid p named kept there).4.id_is changes.id_is
      (λ n same. named_are ∙ ap (λ (l : List Moved). named_in new.moving l) (sym in_pool_now ∙ ap (λ (j : ℕ). moves_in_pool new j) (sym same)))
      (λ n away. ap (λ (l : List Moved). named_in old.moving l) (none_moves old n closed) ∙ named_none old.moving
      ∙ sym (ap (λ (l : List Moved). named_in new.moving l) (ap (λ (x : Option DefragState). moves_on n x) now_open ∙ moves_elsewhere o.now n (λ e. away (sym e ∙ now_pool))) ∙ named_none new.moving))

  defrags_then : (i : ℕ) → AreDefragsOf c i (defrag_in new i) (filter (λ f. f.id == i) d.defragmentations)
  defrags_then i = elim (cases_eq i id) [
    | inl same ↦
        let state = o.begun.state in
        subst (λ (j : ℕ). AreDefragsOf c j (defrag_in new j) (filter (λ f. f.id == j) d.defragmentations)) (sym same)
        (subst (λ (x : Option DefragState). AreDefragsOf c id x (filter (λ f. f.id == id) d.defragmentations)) (sym (o.here ∙ ap (λ (x : DefragState). Some x) state)) (pid, names pid ∙ named, its_defrag.2))
    | inr other ↦ subst (λ (x : Option DefragState). AreDefragsOf c i x (filter (λ f. f.id == i) d.defragmentations)) (sym (o.others i other)) (same_defrags b c names i (defrag_in old i) (filter (λ f. f.id == i) d.defragmentations) (is.defrags i))
  ]

  pub pass_allotted : (e : Allocated) × Begins d id e × FulfilsAll (allotted c m) new e
  pass_allotted = (
    e,
    begins,
    record {
      resources = pool_changed b m d is.resources pid p named kept there c m takes.now r changes;
      moves = moves_then;
      defrags = defrags_then;
    },
  )
