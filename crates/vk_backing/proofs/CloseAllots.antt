-- What is allocated when a pass has ended.
use Rattle.std.proofs.Common.{◌≡◌, ℕ, ◌+◌, ◌*◌, ◌<◌, List, [], ◌++◌, map, length, get_or, Bool, true, false, ◌==◌, Option, Some, None, refl, sym, ap, subst, ◌∙◌, arith, inl, inr}
use Rattle.std.specs.Prelude.{Contains, if◌then◌else◌, slice_index_or, sum_by}
use Rattle.std.specs.Option.{option_and_then}
use Rattle.std.specs.List.{filter, fold}
use Rattle.std.proofs.Math.Nat.{add-mul}
use Rattle.std.proofs.lemmas.Bool.{cases_eq}
use Rattle.std.proofs.lemmas.List.{get_or_default}
use Rattle.std.proofs.lemmas.List.Elements.{All-contains}
use Rattle.vk_memory.specs.MemoryState.{MemoryState, object_at}
use Rattle.vk_model.specs.Basics.{among}
use Rattle.vk_model.specs.declared.resource.PoolInfo.{PoolInfo}
use Rattle.vk_model.specs.Memory.Room.{heap_of}
use Rattle.vk_model.specs.Memory.MoveTargets.{Moved}
use Rattle.vk_model.specs.Memory.Allocations.{Allocated, Defragmentation, PoolMemory, after_pass, defragmented, move_ended, pool_by_id, pool_bytes, with_pool, without_resident}
use Rattle.vma_pools.specs.declared.allocations.Allocation.{Allocation}
use Rattle.vma_pools.specs.declared.allocations.Home.TheVariants as home
use Rattle.vma_pools.specs.Alike.{IsAlikePool}
use Rattle.vma_pools.specs.Pools.{Kept}
use Rattle.vma_pools.specs.State.{PoolsState, pool_at, allocation_at, BlockOf}
use Rattle.vma_pools.proofs.CallLemmas.{sized-live}
use Rattle.vma_pools.proofs.PoolAlike.{are-length}
use Rattle.vma_pools.proofs.StateLemmas.{some-is}
use Rattle.vma_defrag.specs.State.{DefragState, moves_in}
use Rattle.vma_defrag.specs.Plans.{ArePlanned, IsMove}
use Rattle.vma_defrag.specs.Ends.{AllEnd, MovesEnd}
use Rattle.vma_defrag.specs.Bytes.{no_move}
use Rattle.vk_backing.specs.declared.backing.Own.{Own}
use Rattle.vk_backing.specs.Backed.{Backed, number_in, object_in, pool_of, allocation_of, allocation_by, IsBacked, IsWhole}
use Rattle.vk_backing.specs.Allotted.{allotted, kind_of, bytes_on, one_if, resident_of}
use Rattle.vk_backing.specs.Passing.{Passing, ArePassing, AreMovers, IsDefragOf, defrag_in, open_defrag, open_moves, moves_by, moves_on, moves_in_pool, named_in}
use Rattle.vk_backing.specs.PassSteps.{AreDestroyed, Closes}
use Rattle.vk_backing.specs.PassAllots.{AreDefragsOf, EndAllots, FulfilsAll}
use Rattle.vk_backing.proofs.Keyed.{found_some}
use Rattle.vk_backing.proofs.Grown.{some_there}
use Rattle.vk_backing.proofs.Freed.{kind_here, object_kind}
use Rattle.vk_backing.proofs.Owning.{heap_bytes}
use Rattle.vk_backing.proofs.Without.{kind_at}
use Rattle.vk_backing.proofs.Places.{its_pools, its, its_found, its_alike}
use Rattle.vk_backing.proofs.Numbers.{listed_or}
use Rattle.vk_backing.proofs.Naming.{LiesOn, name, name_has, name_is}
use Rattle.vk_backing.proofs.NamedMoves.{as_moved, moves_named}
use Rattle.vk_backing.proofs.ChangedMoves.{moves_changed, same_defrags}
use Rattle.vk_backing.proofs.ChangedPool.{ChangesPool, pool_changed}
use Rattle.vk_backing.proofs.OpenAllots.{named_none, none_moves}
use Rattle.vk_backing.proofs.Passing.{moves_elsewhere, moves_here, open_is}
use Rattle.vma_defrag.proofs.Spots.{block_index}
use Rattle.vk_backing.proofs.Cleared.{AreCleared, AreOfKind, all_cleared, cleared, freed_cleared, freed_sizes, kept_kinds, once_by}
use Rattle.vk_backing.proofs.PassEnded.{AreGone, EndsAll, MayLieIn, among_numbers, end_moves, end_resources, ends_more, found_by, turned_elsewhere, turned_lies}

-- ---- numbers, lists and bytes

-- the bytes of some blocks more
fewer_bytes : (v : Bool) (n g s : ℕ) → (if v then (n + g) * s else 0) ≡ (if v then n * s else 0) + g * (if v then s else 0)
fewer_bytes true n g s = add-mul n g s
fewer_bytes false n g s = omega arith

balance : (x y z now was : ℕ) → x ≡ y + z → now + z ≡ was → x + now ≡ was + y
balance x y z now was e f = omega (arith, e, f)

module _ (b c : Backed) (m n : MemoryState) (h : IsBacked b m) (whole : IsWhole b) (old new : Passing) (passing : ArePassing old b) (after : IsBacked c n) (id : ℕ) (ignored destroyed : List ℕ)
    (o : Closes old new b c m n id ignored destroyed) (are_lost : AreDestroyed old b destroyed) (d : Allocated) (is : FulfilsAll (allotted b m) old d) where
  -- ---- the defragmentation, and its pool

  its_defrag : AreDefragsOf b id (Some o.was) (filter (λ f. f.id == id) d.defragmentations)
  its_defrag = subst (λ (x : Option DefragState). AreDefragsOf b id x (filter (λ f. f.id == id) d.defragmentations)) o.there (is.defrags id)

  abbrev pid : ℕ
  pid = its_defrag.0

  abbrev p : ℕ
  p = o.was.pool

  named : pool_of b pid ≡ Some p
  named = its_defrag.1

  abbrev f : Defragmentation
  f = record { id = id; pool = pid; max_bytes = o.was.max_bytes; max_moves = o.was.max_moves }

  found : defragmented id d ≡ Some f
  found = found_some (λ (x : Defragmentation). x.id) id d.defragmentations f its_defrag.2

  abbrev of_pool : IsDefragOf b o.was
  of_pool = passing.pools id o.was o.there

  abbrev kept : Kept
  kept = of_pool.kept

  there : pool_at b.pools p ≡ Some kept
  there = of_pool.there

  abbrev q : PoolMemory
  q = its b m d is.resources pid p named kept there

  q_found : pool_by_id pid d ≡ Some q
  q_found = its_found b m d is.resources pid p named kept there

  alike : IsAlikePool q.pool kept.pool
  alike = its_alike b m d is.resources pid p named kept there

  are : (r : ℕ) → filter (λ a. a.id == r) q.residents ≡ resident_of p r (allocation_by b r)
  are = (its_pools b m d is.resources pid p named kept there).4.residents

  -- ---- its moves

  abbrev ms : List Moved
  ms = moves_in o.was.current

  was_open : open_defrag old ≡ Some o.was
  was_open = open_is old id o.opened ∙ o.there

  open_ms : open_moves old ≡ ms
  open_ms = ap (λ (x : Option DefragState). moves_by x) was_open

  in_pool_was : moves_in_pool old p ≡ ms
  in_pool_was = ap (λ (x : Option DefragState). moves_on p x) was_open ∙ moves_here o.was p refl

  plan : ArePlanned b.pools p ms
  plan = subst (λ (l : List Moved). ArePlanned b.pools p l) in_pool_was (passing.planned p)

  in_pool : (x : Moved) → Contains ms x → (y : Allocation) × (allocation_at b.pools x.id ≡ Some y) × LiesOn b m h whole p y
  in_pool x at = let its : IsMove b.pools p x = All-contains (IsMove b.pools p) ms x plan.each at in (its.allocation, its.live, (its.from, its.lies))

  abbrev named_ms : List Moved
  named_ms = map (as_moved b m h whole) ms

  movers : AreMovers b old.moving ms
  movers = subst (λ (l : List Moved). AreMovers b old.moving l) open_ms passing.movers

  named_are : named_ms ≡ named_in old.moving ms
  named_are = moves_named b m h whole old.moving ms movers.long (λ k lt.
      let x : Moved = get_or ms k no_move in
      let its = in_pool x (k, lt, sym (get_or_default ms k no_move x lt)) in
      name_is b m h whole (get_or old.moving k 0) x.id its.0 p its.1 its.2 (movers.each k lt))

  q_moves : q.moves ≡ named_ms
  q_moves = is.moves pid p q named q_found ∙ ap (λ (l : List Moved). named_in old.moving l) in_pool_was ∙ sym named_are

  -- a resource is ignored where its allocation is
  known : (x : Moved) → Contains ms x → (allocation_of b (name b m h whole x.id) ≡ Some x.id) × (among (name b m h whole x.id) ignored ≡ among x.id o.kept)
  known x at =
      let its = in_pool x at in
      let mine = name_has b m h whole x.id its.0 p its.1 its.2 in
      (mine, among_numbers b (name b m h whole x.id) x.id mine (λ j has. h.one j (name b m h whole x.id) x.id has mine) ignored ∙ ap (λ (l : List ℕ). among x.id l) (sym o.kept_are))

  -- ---- the pass ends

  abbrev settled : PoolsState
  settled = o.ended.settled

  abbrev r0 : PoolMemory
  r0 = fold (move_ended ignored) q named_ms

  abbrev bare : PoolMemory
  bare = record q { moves = [] }

  abbrev r1 : PoolMemory
  r1 = record r0 { moves = [] }

  abbrev r : PoolMemory
  r = fold (λ o i. without_resident i o) r1 destroyed

  moves_end : EndsAll b b.pools settled p kept bare r1 o.ended.by_moves
  moves_end =
      let e = end_moves b m h whole p o.kept ignored ms b.pools settled kept q o.ended.by_moves plan (subst (λ (l : List Moved). MovesEnd o.kept b.pools l settled o.ended.by_moves) open_ms o.ended.ended) known there alike are in
      record { now = e.now; there = e.there; alike = e.alike; shrinks = e.shrinks; others = e.others; turns = e.turns; residents = e.residents; id = e.id; info = e.info; moves = refl }

  -- each that is destroyed lies in the pool
  lost_lies : (i : ℕ) → Contains destroyed i → (a : ℕ) × (allocation_of b i ≡ Some a) × MayLieIn p (allocation_at settled a)
  lost_lies i at =
      let l = are_lost.each i at in
      let same : l.0 ≡ o.was = some-is l.0 o.was (sym l.2 ∙ was_open) in
      let lies = l.3 in (
        lies.number,
        lies.has,
        turned_lies p (allocation_at b.pools lies.number) (allocation_at settled lies.number) (moves_end.turns lies.number)
            (subst (MayLieIn p) (sym lies.live) (lies.place, lies.lies ∙ ap (λ (x : DefragState). home.Shared x.pool lies.place) same)),
      )

  resources_end : EndsAll b settled c.pools p moves_end.now r1 r o.ended.by_ends × AreGone b settled c.pools destroyed
  resources_end =
      end_resources b m h whole p destroyed settled c.pools moves_end.now r1 o.ended.by_ends (subst (λ (l : List ℕ). AllEnd settled l c.pools o.ended.by_ends) o.lost_are o.ended.ends) lost_lies
      moves_end.there moves_end.alike moves_end.residents

  abbrev gone : List ℕ
  gone = o.ended.by_moves ++ o.ended.by_ends

  all : EndsAll b b.pools c.pools p kept bare r gone
  all = ends_more b b.pools settled c.pools p kept bare r1 r o.ended.by_moves o.ended.by_ends moves_end resources_end.0

  after_is : after_pass id ignored destroyed d ≡ with_pool r d
  after_is = rw (found, q_found, after_pass) (ap (λ (l : List Moved). with_pool (fold (λ o i. without_resident i o) (record (fold (move_ended ignored) q l) { moves = [] }) destroyed) d) q_moves)

  -- ---- memory objects

  abbrev kind : ℕ × ℕ
  kind = (kept.pool.info.memory_type, kept.pool.info.block_size)

  abbrev ks : List (Option (ℕ × ℕ))
  ks = map kind_of m.objects

  of_kind : AreOfKind kind ks kept.memories
  of_kind = record {
    each = λ y at. subst (λ (g : ℕ). kind_at m g ≡ Some kind) (get_or_default kept.memories at.0 0 y at.1 ∙ at.2) (block_kind at.0 at.1);
    once = once_by kept.memories (λ i j lt less same. block_index p i p j (h.backs.apart (BlockOf p i) (BlockOf p j) (get_or kept.memories i 0) (kept, there, lt, refl) (kept, there, less, sym same)));
  }
    where
      block_kind : (j : ℕ) → j < length kept.memories → kind_at m (get_or kept.memories j 0) ≡ Some kind
      block_kind j lt =
          let g : ℕ = get_or kept.memories j 0 in
          let its = h.backs.blocks p kept j there lt in
          let live = sized-live m g kept.pool.info.block_size its.bytes (h.pools.pools p kept there).info.some in
          let object = some_there (object_at m g) live in
          kind_here m g live object.0 object.1 ∙ object_kind m h.sized g kept.pool.info.memory_type kept.pool.info.block_size its object.0 object.1

  are_cleared : AreCleared kind ks kept.memories gone all.now.memories
  are_cleared = all_cleared kind gone ks kept.memories all.now.memories of_kind all.shrinks

  kinds_now : map kind_of n.objects ≡ cleared ks gone
  kinds_now =
      ap (λ (x : MemoryState). map kind_of x.objects) o.ended.freed_are ∙ freed_cleared o.freed o.ended.copied
      ∙ ap (λ (l : List (Option (ℕ × ℕ))). cleared l o.freed) (kept_kinds m o.ended.copied o.ended.copies.objects) ∙ ap (λ (l : List ℕ). cleared ks l) o.ended.gone_are

  sizes_now : n.sizes ≡ m.sizes
  sizes_now = ap (λ (x : MemoryState). x.sizes) o.ended.freed_are ∙ freed_sizes o.freed o.ended.copied ∙ o.ended.copies.objects.sizes

  blocks_less : length q.pool.blocks ≡ length r.pool.blocks + length gone
  blocks_less =
      let a = are-length q.pool.blocks kept.pool.blocks alike.blocks in let b = h.matched p kept there in
      let e = are-length r.pool.blocks all.now.pool.blocks all.alike.blocks in let f = after.matched p all.now all.there in
      omega (arith, a, b, e, f, are_cleared.count)

  bytes_less : (first : Bool) → pool_bytes (if first then 0 else 1) q ≡ pool_bytes (if first then 0 else 1) r + length gone * bytes_on first (Some kind)
  bytes_less first =
      let heap : ℕ = if first then 0 else 1 in
      ap (λ (k : ℕ). if heap_of q.pool.info.memory_type == heap then k * q.pool.info.block_size else 0) blocks_less
      ∙ fewer_bytes (heap_of q.pool.info.memory_type == heap) (length r.pool.blocks) (length gone) q.pool.info.block_size
      ∙ ap (λ (i : PoolInfo). (if heap_of i.memory_type == heap then length r.pool.blocks * i.block_size else 0) + length gone * (if heap_of q.pool.info.memory_type == heap then q.pool.info.block_size else 0)) (sym all.info)
      ∙ ap (λ (k : ℕ). pool_bytes heap r + length gone * k) (heap_bytes q.pool.info.memory_type q.pool.info.block_size first ∙ ap (λ (i : PoolInfo). bytes_on first (Some (i.memory_type, i.block_size))) (sym alike.info))

  -- ---- what is allocated then

  names : (i : ℕ) → pool_of c i ≡ pool_of b i
  names i = ap (λ (l : List (ℕ × ℕ)). number_in l i) o.numbers

  same_found : (j : ℕ) → found_by b c.pools j ≡ allocation_by c j
  same_found j = elim (listed_or destroyed j) [
    | inl at ↦ (let l = lost_lies j at in
        ap (λ (x : Option ℕ). option_and_then (allocation_at c.pools) x) l.1 ∙ resources_end.1.each j l.0 at l.1 ∙ sym (ap (λ (x : Option ℕ). option_and_then (allocation_at c.pools) x) (o.gone j at)))
    | inr away ↦ ap (λ (x : Option ℕ). option_and_then (allocation_at c.pools) x) (sym (o.allocations j away))
  ]

  same_elsewhere : (t : ℕ) → (t ≡ p → ⊥) → (j : ℕ) → resident_of t j (allocation_by b j) ≡ resident_of t j (allocation_by c j)
  same_elsewhere t away j = go (allocation_of b j) ∙ ap (λ (x : Option Allocation). resident_of t j x) (same_found j)
    where
      go : (x : Option ℕ) → resident_of t j (option_and_then (allocation_at b.pools) x) ≡ resident_of t j (option_and_then (allocation_at c.pools) x)
      go None = refl
      go (Some k) = turned_elsewhere p t j (allocation_at b.pools k) (allocation_at c.pools k) away (all.turns k)

  changes : ChangesPool b c m n pid p all.now q r
  changes = record {
    named = named;
    here = all.there;
    others = all.others;
    names = names;
    owned = λ i. ap (λ (l : List (ℕ × Own)). object_in l i) o.owned;
    one_pool = h.one_pool;
    id_is = all.id ∙ (its_pools b m d is.resources pid p named kept there).4.id_is;
    alike = all.alike;
    residents = λ j. all.residents j ∙ ap (λ (x : Option Allocation). resident_of p j x) (same_found j);
    elsewhere = same_elsewhere;
    sizes = sizes_now;
    bytes = λ first.
        balance (pool_bytes (if first then 0 else 1) q) (pool_bytes (if first then 0 else 1) r) (length gone * bytes_on first (Some kind)) (sum_by (bytes_on first) (map kind_of n.objects)) (sum_by (bytes_on first) ks) (bytes_less first)
        (ap (λ (l : List (Option (ℕ × ℕ))). sum_by (bytes_on first) l + length gone * bytes_on first (Some kind)) kinds_now ∙ are_cleared.sum (bytes_on first) (no_bytes first));
    count =
        let s : sum_by one_if (cleared ks gone) + length gone * 1 ≡ sum_by one_if ks = are_cleared.sum one_if refl in
        let k = ap (λ (l : List (Option (ℕ × ℕ))). sum_by one_if l) kinds_now in
        omega (arith, s, k, blocks_less);
    kinds = λ i k has.
        ap (λ (l : List (Option (ℕ × ℕ))). slice_index_or l k None) kinds_now
        ∙ are_cleared.rest k (λ at. h.apart i k (BlockOf p at.0) has (kept, there, at.1, get_or_default kept.memories at.0 0 k at.1 ∙ at.2));
  }
    where
      no_bytes : (first : Bool) → bytes_on first None ≡ 0
      no_bytes first = refl

  -- ---- moves and defragmentations

  none_now : (t : ℕ) → named_in new.moving (moves_in_pool new t) ≡ []
  none_now t = ap (λ (l : List Moved). named_in new.moving l) (none_moves new t o.none_open) ∙ named_none new.moving

  none_away : (t : ℕ) → (t ≡ p → ⊥) → named_in old.moving (moves_in_pool old t) ≡ []
  none_away t away =
      ap (λ (l : List Moved). named_in old.moving l) (ap (λ (x : Option DefragState). moves_on t x) was_open ∙ moves_elsewhere o.was t (λ e. away (sym e))) ∙ named_none old.moving

  abbrev e : Allocated
  e = with_pool r d

  moves_then : (i t : ℕ) (x : PoolMemory) → pool_of c i ≡ Some t → pool_by_id i e ≡ Some x → x.moves ≡ named_in new.moving (moves_in_pool new t)
  moves_then =
      moves_changed b c names m old new d is h.one_pool pid p named q r (its_pools b m d is.resources pid p named kept there).2 (its_pools b m d is.resources pid p named kept there).4.id_is changes.id_is
      (λ t same. all.moves ∙ sym (none_now t)) (λ t away. none_away t away ∙ sym (none_now t))

  defrags_then : (i : ℕ) → AreDefragsOf c i (defrag_in new i) (filter (λ f. f.id == i) d.defragmentations)
  defrags_then i = elim (cases_eq i id) [
    | inl same ↦ subst (λ (j : ℕ). AreDefragsOf c j (defrag_in new j) (filter (λ f. f.id == j) d.defragmentations)) (sym same)
        (subst (λ (x : Option DefragState). AreDefragsOf c id x (filter (λ f. f.id == id) d.defragmentations)) (sym o.here) (pid, names pid ∙ named, its_defrag.2))
    | inr other ↦ subst (λ (x : Option DefragState). AreDefragsOf c i x (filter (λ f. f.id == i) d.defragmentations)) (sym (o.others i other)) (same_defrags b c names i (defrag_in old i) (filter (λ f. f.id == i) d.defragmentations) (is.defrags i))
  ]

  all_then : FulfilsAll (allotted c n) new (after_pass id ignored destroyed d)
  all_then =
      subst (λ (x : Allocated). FulfilsAll (allotted c n) new x) (sym after_is)
      (record { resources = pool_changed b m d is.resources pid p named kept there c n all.now r changes; moves = moves_then; defrags = defrags_then })

pub close_allotted : (b c : Backed) (m n : MemoryState) → IsBacked b m → IsWhole b → (old new : Passing) → ArePassing old b → IsBacked c n → (id : ℕ) (ignored destroyed : List ℕ) → Closes old new b c m n id ignored destroyed → AreDestroyed old b destroyed
    → EndAllots (allotted b m) old (allotted c n) new id ignored destroyed
close_allotted b c m n h whole old new passing after id ignored destroyed o are_lost d is = all_then b c m n h whole old new passing after id ignored destroyed o are_lost d is
