-- What moves, by the trace; and what the rules on passes promise to the device.
use Rattle.std.proofs.Common.{◌≡◌, ℕ, ◌<◌, List, [], ◌∷◌, ◌++◌, length, get_or, Bool, true, false, not, ◌&&◌, ◌==◌, IsTrue, refl, ap, sym, ◌∙◌, subst, arith, Option, Some, None}
use Rattle.std.specs.Prelude.{Contains, AllPairs, IsSome, IsSomeAnd, is_some, nat_eq, option_map, option_and_then, if◌then◌else◌}
use Rattle.std.specs.List.{list_any}
use Rattle.std.proofs.lemmas.Bool.{eqb-true, eq-eqb, false_from_ne_true, and_from, or_parts}
use Rattle.std.proofs.lemmas.List.{get_or_default}
use Rattle.std.proofs.lemmas.List.Kept.{AllPairs-cons}
use Rattle.std.proofs.lemmas.List.Elements.{Contains-append_right}
use Rattle.vk_model.specs.declared.entry.Entry.{Entry}
use Rattle.vk_model.specs.declared.entry.Entry.TheVariants as entry
use Rattle.vk_model.specs.declared.resource.Place.{Place}
use Rattle.vk_model.specs.declared.resource.Place.TheVariants as place
use Rattle.vk_model.specs.declared.resource.PoolInfo.{PoolInfo}
use Rattle.vk_model.specs.declared.resource.PoolKind.{PoolKind}
use Rattle.vk_model.specs.declared.resource.PoolKind.TheVariants as algorithm
use Rattle.vk_model.specs.declared.resource.Spot.{Spot}
use Rattle.vk_model.specs.declared.rule.Rule.TheVariants as rule
use Rattle.vk_model.specs.Basics.{holds, some_pair}
use Rattle.vk_model.specs.Memory.MoveTargets.{Moved}
use Rattle.vk_model.specs.Trace.Point.{Past, Host}
use Rattle.vk_model.specs.Trace.Objects.{Resource, made, ended, live, pool_of, pool_at, pool_in, resource_in, defrag_in}
use Rattle.vk_model.specs.Trace.Order.{host}
use Rattle.vk_model.specs.Rules.Ids.{is_memory, is_pool, is_defrag, is_resource, is_stray, breaks_live_id}
use Rattle.vk_model.specs.Rules.Passes.{is_linear_kind, in_pass, defrags, pool_of_defrag, is_of_pool, has_defrag, pool_in_pass, moves_now, some_pass, bad_pool_kind}
use Rattle.vk_model.specs.Rules.Ranges.{breaks_overlap}
use Rattle.vk_model.specs.Rules.Table.{breaks}
use Rattle.vk_model.proofs.Lists.Members.{contains-head, member_passes}
use Rattle.vk_model.proofs.Lists.Truths.{clash}
use Rattle.vk_laws.proofs.Living.Alive.{is_alive, host_lists_own}
use Rattle.vk_laws.proofs.Living.Passing.{among_defrags}
use Rattle.vma_pools.specs.declared.allocations.Allocation.{Allocation}
use Rattle.vma_pools.specs.declared.allocations.Home.TheVariants as home
use Rattle.vma_pools.specs.Pools.{Kept}
use Rattle.vma_pools.specs.State.{allocation_at}
use Rattle.vma_pools.proofs.StateLemmas.{some-is}
use Rattle.vma_defrag.specs.State.{DefragState, moves_in}
use Rattle.vma_defrag.specs.Plans.{IsMove}
use Rattle.vma_defrag.specs.Bytes.{no_move}
use Rattle.vk_backing.specs.Backed as backed
use Rattle.vk_backing.specs.Backed.{Backed, allocation_of, info_by, pool_by, LiesIn, IsBacked}
use Rattle.vk_backing.specs.Passing as backing
use Rattle.vk_backing.specs.Passing.{Passing, open_defrag, moves_by, AreMovers, ArePassing}
use Rattle.vk_backing.specs.PassSteps.{AreDestroyed}
use Rattle.vk_backing.proofs.Passing.{open_is, open_one, open_planned}
use Rattle.vk_resources.specs.declared.resources.Placed.{Placed}
use Rattle.vk_resources.specs.Held.{Held, IsConsistent, placed}
use Rattle.vk_resources.specs.Matches.{Stands, LiesAt, size_made, in_pool}
use Rattle.vk_resources.specs.Passes.{SparesPasses}
use Rattle.vk_resources.specs.PassSteps.{AreLive}
use Rattle.vk_resources.proofs.Matching.{some_sized}
use Rattle.vk_device.specs.Inner.Clean.{IsClean}
use Rattle.vk_device.specs.Passes.{IsDefragAs, MatchesPasses}
use Rattle.vk_device.proofs.Unbroken.{BreaksNone, breaks_none, all_from, none_passes, names_live, new_made, not-false}
use Rattle.vk_device.proofs.PassStates.{pass_state, lost_live}

-- ---- defragmentations, of the device and of the trace

module _ (past : Past) (p : Passing) (b : Backed) (m : MatchesPasses past p b) where
  -- where the device has one, so has the trace
  pub its_pool : (i : ℕ) (d : DefragState) → backing.defrag_in p i ≡ Some d → (q : ℕ) × (pool_of_defrag past i ≡ Some q) × (backed.pool_of b q ≡ Some d.pool)
  its_pool i d is = go (pool_of_defrag past i) refl (m.defrags i)
    where
      go : (u : Option ℕ) → pool_of_defrag past i ≡ u → IsDefragAs b u (backing.defrag_in p i) → (q : ℕ) × (pool_of_defrag past i ≡ Some q) × (backed.pool_of b q ≡ Some d.pool)
      go None e h = absurd (let both : ◌≡◌ {A = Option DefragState} None (Some d) = sym h ∙ is in cc)
      go (Some q) e h = (q, e, h.2 ∙ ap (λ (x : DefragState). Some x.pool) (some-is h.0 d (sym h.1 ∙ is)))

  -- and the other way round
  pub its_defrag : (i q : ℕ) → pool_of_defrag past i ≡ Some q → (d : DefragState) × (backing.defrag_in p i ≡ Some d) × (backed.pool_of b q ≡ Some d.pool)
  its_defrag i q is = subst (λ (u : Option ℕ). IsDefragAs b u (backing.defrag_in p i)) is (m.defrags i)

defrag_kind : (o : Option Entry) (q : ℕ) → option_and_then defrag_in o ≡ Some q → IsTrue (holds o is_defrag)
defrag_kind None q is = absurd cc
defrag_kind (Some y) q is = ap is_some is

kind_defrag : (o : Option Entry) → IsTrue (holds o is_defrag) → (q : ℕ) × (option_and_then defrag_in o ≡ Some q)
kind_defrag None h = absurd cc
kind_defrag (Some y) h = go (defrag_in y) h
  where
    go : (u : Option ℕ) → is_some u ≡ true → (q : ℕ) × (u ≡ Some q)
    go None h = absurd cc
    go (Some q) h = (q, refl)

-- one that hasn't ended is among them
pub among_begun : (past : Past) (i q : ℕ) → pool_of_defrag past i ≡ Some q → Contains (defrags past) i
among_begun past i q is = among_defrags past i (is_alive past i is_defrag (defrag_kind (live past i) q is))

pub pool_has_defrag : (past : Past) (i q : ℕ) → pool_of_defrag past i ≡ Some q → IsTrue (has_defrag past q)
pool_has_defrag past i q is = member_passes (is_of_pool past q) (defrags past) i (among_begun past i q is) (rw is (eq-eqb q q refl))

-- ---- resources in pools

resource_size : (y : Entry) → IsTrue (is_resource y) → (n : ℕ) × (size_made y ≡ Some n)
resource_size (entry.Buffer i b) h = (b.size, refl)
resource_size (entry.Image i m) h = some_of (size_made (entry.Image i m)) refl
  where
    some_of : (o : Option ℕ) → is_some o ≡ true → (n : ℕ) × (o ≡ Some n)
    some_of None h = absurd cc
    some_of (Some n) h = (n, refl)
resource_size _ h = absurd cc

pooled_at : (y : Entry) → IsTrue (in_pool y) → (r : Resource) × (q : ℕ) × (resource_in y ≡ Some r) × (pool_at r.place ≡ Some q)
pooled_at y h = go (resource_in y) h
  where
    its : (r : Resource) (u : Option ℕ) → pool_at r.place ≡ u → is_some u ≡ true → (q : ℕ) × (pool_at r.place ≡ Some q)
    its r None e h = absurd cc
    its r (Some q) e h = (q, e)

    go : (o : Option Resource) → holds o (λ r. is_some (pool_at r.place)) ≡ true → (r : Resource) × (q : ℕ) × (o ≡ Some r) × (pool_at r.place ≡ Some q)
    go None h = absurd cc
    go (Some r) h = let k = its r (pool_at r.place) refl h in (r, k.0, refl, k.1)

-- a live object that passes a test
held_as : (o : Option Entry) (kind : Entry → Bool) → IsTrue (holds o kind) → (y : Entry) × (o ≡ Some y) × IsTrue (kind y)
held_as None kind h = absurd cc
held_as (Some y) kind h = (y, refl, h)

live_is_made : (past : Past) (r : ℕ) (y : Entry) → live past r ≡ Some y → made past r ≡ Some y
live_is_made past r y is = go (ended past r) is
  where
    go : (b : Bool) → (if b then None else made past r) ≡ Some y → made past r ≡ Some y
    go true is = absurd cc
    go false is = is

resource_is : (y : Entry) → IsTrue (is_resource y) → (r : Resource) × (resource_in y ≡ Some r)
resource_is y h = go (resource_in y) h
  where
    go : (o : Option Resource) → is_some o ≡ true → (r : Resource) × (o ≡ Some r)
    go None h = absurd cc
    go (Some r) h = (r, refl)

-- a resource lies in the pool of a number
abbrev pub LiesThere : Backed → ℕ → ℕ → Type 0
LiesThere b r n = (spot : Spot) × LiesIn b r n spot

module _ (past : Past) (s : Held) (stands : Stands past s) where
  -- a live resource lies in the pool that its place names
  pub lies_in_pool : (r q : ℕ) → IsTrue (holds (live past r) is_resource) → pool_of past r ≡ Some q → (n : ℕ) × (backed.pool_of s.backed q ≡ Some n) × LiesThere s.backed r n
  lies_in_pool r q h at = by_object (held_as (live past r) is_resource h)
    where
      Answer : Type 0
      Answer = (n : ℕ) × (backed.pool_of s.backed q ≡ Some n) × LiesThere s.backed r n

      by_place : (l : Place) (pl : Placed) → pool_at l ≡ Some q → LiesAt (live past) s r l pl → Answer
      by_place (place.Pool k) pl e lies = let same : k ≡ q = cc in (lies.0, ap (λ (j : ℕ). backed.pool_of s.backed j) (sym same) ∙ lies.1, (lies.2.spot, lies.2.lies))
      by_place (place.PoolUpper k) pl e lies = let same : k ≡ q = cc in (lies.0, ap (λ (j : ℕ). backed.pool_of s.backed j) (sym same) ∙ lies.1, (lies.2.spot, lies.2.lies))
      by_place (place.Dedicated t) pl e lies = absurd cc
      by_place (place.Memory m o) pl e lies = absurd cc

      by_object : (y : Entry) × (live past r ≡ Some y) × IsTrue (is_resource y) → Answer
      by_object y =
          let its = resource_is y.0 y.2 in
          let size = resource_size y.0 y.2 in
          let pl = some_sized (placed s r) size.0 (stands.live.sizes r ∙ ap (option_and_then size_made) y.1 ∙ size.1) in
          let names : pool_at its.0.place ≡ Some q = sym (ap (λ (o : Option Entry). option_and_then (λ r. pool_at r.place) (option_and_then resource_in o)) (live_is_made past r y.0 y.1) ∙ ap (option_and_then (λ (r : Resource). pool_at r.place)) its.1) ∙ at in
          by_place its.0.place pl.0 names (stands.live.places r pl.0 its.0 pl.1 (ap (option_and_then resource_in) y.1 ∙ its.1))

  -- what has an allocation in a pool is a live resource, in a pool by its place
  pub live_in_pool : (r a : ℕ) → allocation_of s.backed r ≡ Some a → IsTrue (holds (live past r) is_resource) × ((q : ℕ) × (pool_of past r ≡ Some q))
  live_in_pool r a has =
      let y = held_as (live past r) in_pool (stands.live.pooled r a has) in
      let its = pooled_at y.0 y.2 in
      (rw y.1 (ap is_some its.2), (its.1, ap (λ (o : Option Entry). option_and_then (λ r. pool_at r.place) (option_and_then resource_in o)) (live_is_made past r y.0 y.1) ∙ ap (option_and_then (λ (r : Resource). pool_at r.place)) its.2 ∙ its.3))

-- ---- ids that no list has twice

apart_in : (xs : List ℕ) → some_pair nat_eq xs ≡ false → AllPairs (λ i j. i ≡ j → ⊥) xs
apart_in [] h = λ i j d less there. absurd (omega (arith, there))
apart_in (x ∷ xs) h =
    let parts = or_parts (list_any (nat_eq x) xs) (some_pair nat_eq xs) h in
    AllPairs-cons (λ i j. i ≡ j → ⊥) x xs (all_from (λ j. x ≡ j → ⊥) xs (λ j there same. clash (eq-eqb x j same) (none_passes (nat_eq x) xs parts.0 j there))) (apart_in xs parts.1)

apart_later : (xs ys : List ℕ) → some_pair nat_eq (xs ++ ys) ≡ false → AllPairs (λ i j. i ≡ j → ⊥) ys
apart_later [] ys h = apart_in ys h
apart_later (x ∷ xs) ys h = apart_later xs ys (or_parts (list_any (nat_eq x) (xs ++ ys)) (some_pair nat_eq (xs ++ ys)) h).1

-- ---- what moves

-- a resource moves in the open pass
pub record Moves (p : Passing) (b : Backed) (r : ℕ) : Type 0 where
  pub id : ℕ
  pub opened : p.opened ≡ Some id
  pub defrag : DefragState
  pub there : backing.defrag_in p id ≡ Some defrag
  pub move : Moved
  pub its : IsMove b.pools defrag.pool move
  pub has : allocation_of b r ≡ Some move.id

pub moves_as : (p : Passing) (b : Backed) → ArePassing p b → (r : ℕ) → Contains p.moving r → Moves p b r
moves_as p b are r there = go (open_defrag p) refl
  where
    id_is : get_or p.moving there.0 0 ≡ r
    id_is = get_or_default p.moving there.0 0 r there.1 ∙ there.2

    go : (o : Option DefragState) → open_defrag p ≡ o → Moves p b r
    go None e = let movers = subst (λ (o : Option DefragState). AreMovers b p.moving (moves_by o)) e are.movers in absurd (omega (arith, there.1, movers.long))
    go (Some d) e =
        let movers = subst (λ (o : Option DefragState). AreMovers b p.moving (moves_by o)) e are.movers in
        let lt : there.0 < length (moves_in d.current) = omega (arith, there.1, movers.long) in
        let one = open_one p d e in
        record {
          id = one.0;
          opened = one.1;
          defrag = d;
          there = one.2;
          move = get_or (moves_in d.current) there.0 no_move;
          its = (open_planned p b are d e).each there.0 no_move lt;
          has = ap (λ (j : ℕ). allocation_of b j) (sym id_is) ∙ movers.each there.0 lt;
        }

module _ (past : Past) (s : Held) (p : Passing) (stands : Stands past s) (consistent : IsConsistent s) (are : ArePassing p s.backed) (m : MatchesPasses past p s.backed) where
  -- what moves is of a pool whose pass is open in the trace
  pub moves_are : (r : ℕ) → Contains p.moving r → moves_now past r ≡ true
  moves_are r there =
      let w = moves_as p s.backed are r there in
      let alive = live_in_pool past s stands r w.move.id w.has in
      let lies = lies_in_pool past s stands r alive.1.0 alive.0 alive.1.1 in
      let l = lies.2.1 in
      let number : l.number ≡ w.move.id = some-is l.number w.move.id (sym l.has ∙ w.has) in
      let same : l.allocation ≡ w.its.allocation = some-is l.allocation w.its.allocation (sym l.live ∙ ap (λ (k : ℕ). allocation_at s.backed.pools k) number ∙ w.its.live) in
      let homes : home.Shared lies.0 l.place ≡ home.Shared w.defrag.pool w.its.from = sym l.lies ∙ ap (λ (a : Allocation). a.home) same ∙ w.its.lies in
      let pools : lies.0 ≡ w.defrag.pool = cc in
      let its = its_pool past p s.backed m w.id w.defrag w.there in
      let one : alive.1.0 ≡ its.0 = consistent.0.backed_is.one_pool alive.1.0 its.0 w.defrag.pool (lies.1 ∙ ap (λ (k : ℕ). Some k) pools) its.2 in
      let of : IsTrue (is_of_pool past alive.1.0 w.id) = rw its.1 (eq-eqb alive.1.0 its.0 one) in
      let now : IsTrue (pool_in_pass past alive.1.0) =
      member_passes (λ d. in_pass past d && is_of_pool past alive.1.0 d) (defrags past) w.id (among_begun past w.id its.0 its.1) (and_from (in_pass past w.id) (is_of_pool past alive.1.0 w.id) (m.going w.id w.opened) of) in
      rw alive.1.1 now

-- ---- what an entry ends

pub spares_passes : (e : ℕ) (x : Entry) (past : Past) (s : Held) (p : Passing) → IsClean (host e x ∷ past) → Stands past s → IsConsistent s → ArePassing p s.backed → MatchesPasses past p s.backed → SparesPasses p s.backed x
spares_passes e x past s p clean stands consistent are m = go x refl
  where
    none : BreaksNone past (host e x)
    none = breaks_none past (host e x) clean

    apart : (y : Entry) → IsTrue (is_memory y) → IsTrue (is_resource y) → ⊥
    apart (entry.Memory i m) h g = cc
    apart _ h g = cc

    both : (o : Option Entry) → IsTrue (holds o is_memory) → IsTrue (holds o is_resource) → ⊥
    both None h g = cc
    both (Some y) h g = apart y h g

    go : (y : Entry) → x ≡ y → SparesPasses p s.backed y
    go (entry.Free i) same = λ there.
        let w = moves_as p s.backed are i there in
        both (live past i) (names_live past (host e x) none (entry.Free i) i is_memory (ap Host same) (contains-head (i, is_memory) [])) (live_in_pool past s stands i w.move.id w.has).0
    go (entry.Destroy r) same = λ there. clash (moves_are past s p stands consistent are m r there) (pass_state past e (entry.Destroy r) (subst (λ (y : Entry). BreaksNone past (host e y)) same none))
    go (entry.DropPool q) same = λ i d is named.
        let its = its_pool past p s.backed m i d is in
        let one : its.0 ≡ q = consistent.0.backed_is.one_pool its.0 q d.pool its.2 named in
        clash (pool_has_defrag past i q (its.1 ∙ ap (λ (k : ℕ). Some k) one)) (pass_state past e (entry.DropPool q) (subst (λ (y : Entry). BreaksNone past (host e y)) same none))
    go _ same = tt

-- ---- what its entries ask

some_is : {A : Type 0} (o : Option A) (x : A) → o ≡ Some x → IsSome o
some_is o x is = rw is refl

module _ (past : Past) (p : Passing) (b : Backed) (m : MatchesPasses past p b) where
  -- no defragmentation has the id of one that begins
  begins_new : (e i q n k : ℕ) → BreaksNone past (host e (entry.Defrag i q n k)) → backing.defrag_in p i ≡ None
  begins_new e i q n k none = subst (λ (u : Option ℕ). IsDefragAs b u (backing.defrag_in p i)) (go (ended past i)) (m.defrags i)
    where
      unmade : made past i ≡ None
      unmade = new_made past (host e (entry.Defrag i q n k)) none (entry.Defrag i q n k) i refl refl

      go : (b : Bool) → option_and_then defrag_in (if b then None else made past i) ≡ None
      go true = refl
      go false = ap (option_and_then defrag_in) unmade

  -- the defragmentation of an entry that names one has begun
  has_begun : (d : ℕ) → IsTrue (holds (live past d) is_defrag) → (q : ℕ) × (pool_of_defrag past d ≡ Some q) × ((x : DefragState) × (backing.defrag_in p d ≡ Some x) × (backed.pool_of b q ≡ Some x.pool))
  has_begun d h = let its = kind_defrag (live past d) h in (its.0, its.1, its_defrag past p b m d its.0 its.1)

  -- where a pass begins none is open
  pub opens_closed : (e d : ℕ) → BreaksNone past (host e (entry.Pass d)) → ArePassing p b → p.opened ≡ None
  opens_closed e d none are = go p.opened refl
    where
      go : (o : Option ℕ) → p.opened ≡ o → p.opened ≡ None
      go None is = is
      go (Some i) is =
          let its = are.opened i is in
          let q = its_pool past p b m i its.0 its.1 in
          let some : IsTrue (some_pass past) = member_passes (in_pass past) (defrags past) i (among_begun past i q.0 q.1) (m.going i is) in
          clash some (pass_state past e (entry.Pass d) none)

  -- a pass that ends is open
  closes_open : (e d : ℕ) (kept lost : List ℕ) → BreaksNone past (host e (entry.EndPass d kept lost)) → p.opened ≡ Some d
  closes_open e d kept lost none = m.opened d (not-false (in_pass past d) (pass_state past e (entry.EndPass d kept lost) none))

module _ (past : Past) (s : Held) (stands : Stands past s) where
  -- the pool of one that begins is one of two-level lists
  begins_general : (e i q n k : ℕ) → BreaksNone past (host e (entry.Defrag i q n k)) → IsSomeAnd (pool_by s.backed q) (λ (x : Kept). x.pool.info.kind ≡ algorithm.Tlsf)
  unfolding breaks
  begins_general e i q n k none = by_object (held_as (live past q) is_pool (names_live past (host e x) none x q is_pool refl (contains-head (q, is_pool) [])))
    where
      x : Entry
      x = entry.Defrag i q n k

      by_kind : (a : PoolKind) → is_linear_kind a ≡ false → a ≡ algorithm.Tlsf
      by_kind algorithm.Tlsf h = refl
      by_kind algorithm.Linear h = absurd cc

      info_of : (y : Entry) → IsTrue (is_pool y) → (info : PoolInfo) × (pool_in y ≡ Some info)
      info_of y h = pick (pool_in y) h
        where
          pick : (o : Option PoolInfo) → is_some o ≡ true → (info : PoolInfo) × (o ≡ Some info)
          pick None h = absurd cc
          pick (Some info) h = (info, refl)

      by_pool : (o : Option Kept) (info : PoolInfo) → option_map (λ (k : Kept). k.pool.info) o ≡ Some info → info.kind ≡ algorithm.Tlsf → IsSomeAnd o (λ (k : Kept). k.pool.info.kind ≡ algorithm.Tlsf)
      by_pool None info is kind = absurd cc
      by_pool (Some k) info is kind = let same = some-is k.pool.info info is in ap (λ (z : PoolInfo). z.kind) same ∙ kind

      by_object : (y : Entry) × (live past q ≡ Some y) × IsTrue (is_pool y) → IsSomeAnd (pool_by s.backed q) (λ (k : Kept). k.pool.info.kind ≡ algorithm.Tlsf)
      by_object y =
          let info = info_of y.0 y.2 in
          let unbroken : bad_pool_kind past (entry.Defrag i q n k) ≡ false = none rule.PoolKind in
          let kind : is_linear_kind info.0.kind ≡ false = rw (ap (option_and_then pool_in) (live_is_made past q y.0 y.1) ∙ info.1) at unbroken in
          by_pool (pool_by s.backed q) info.0 (stands.live.pools q ∙ ap (option_and_then pool_in) y.1 ∙ info.1) (by_kind info.0.kind kind)

module _ (past : Past) (s : Held) (p : Passing) (stands : Stands past s) (m : MatchesPasses past p s.backed) where
  -- what a pass that ends destroys is in its pool, once
  closes_own : (e d : ℕ) (kept lost : List ℕ) → BreaksNone past (host e (entry.EndPass d kept lost)) → AreDestroyed p s.backed lost
  unfolding breaks
  closes_own e d kept lost none = record { each = each; once = once }
    where
      x : Entry
      x = entry.EndPass d kept lost

      alive : IsTrue (breaks_live_id past (host e x)) → ⊥
      alive h = let un : breaks_live_id past (host e x) ≡ false = none rule.LiveId in clash h un

      begun : (q : ℕ) × (pool_of_defrag past d ≡ Some q) × ((y : DefragState) × (backing.defrag_in p d ≡ Some y) × (backed.pool_of s.backed q ≡ Some y.pool))
      begun = has_begun past p s.backed m d (names_live past (host e x) none x d is_defrag refl (contains-head (d, is_defrag) _))

      same_pool : (i : ℕ) → is_stray past d i ≡ false → (pool_of past i ≡ Some begun.0)
      same_pool i own = go (pool_of past i) (rw begun.1 at own)
        where
          go : (o : Option ℕ) → not (holds o (λ k. k == begun.0)) ≡ false → o ≡ Some begun.0
          go None h = absurd cc
          go (Some k) h = ap (λ (j : ℕ). Some j) (eqb-true k begun.0 (not-false (k == begun.0) h))

      each : (i : ℕ) → Contains lost i → (y : DefragState) × (spot : Spot) × (open_defrag p ≡ Some y) × LiesIn s.backed i y.pool spot
      each i there =
          let own : is_stray past d i ≡ false = false_from_ne_true (is_stray past d i) (λ h. host_lists_own past (host e x) x refl alive (member_passes (is_stray past d) (kept ++ lost) i (Contains-append_right kept lost i there) h)) in
          let lies = lies_in_pool past s stands i begun.0 (lost_live past e x none d kept lost refl i there) (same_pool i own) in
          let number : lies.0 ≡ begun.2.0.pool = some-is lies.0 begun.2.0.pool (sym lies.1 ∙ begun.2.2) in
          (begun.2.0, lies.2.0, open_is p d (closes_open past p s.backed m e d kept lost none) ∙ begun.2.1, subst (λ (n : ℕ). LiesIn s.backed i n lies.2.0) number lies.2.1)

      listed : some_pair nat_eq (kept ++ lost) ≡ false
      listed = let unbroken : breaks_overlap past (host e x) ≡ false = none rule.Overlap in (or_parts (some_pair nat_eq (kept ++ lost)) _ unbroken).0

      once : AllPairs (λ i j. i ≡ j → ⊥) lost
      once = apart_later kept lost listed

-- ---- the calls on defragmentations

-- one that begins has a new id, and a pool of two-level lists
pub defrag_fits : (e : ℕ) (past : Past) (s : Held) (p : Passing) (i q n k : ℕ) → IsClean (host e (entry.Defrag i q n k) ∷ past) → Stands past s → MatchesPasses past p s.backed → (backing.defrag_in p i ≡ None) × IsSomeAnd (pool_by s.backed q) (λ (x : Kept). x.pool.info.kind ≡ algorithm.Tlsf)
defrag_fits e past s p i q n k clean stands m = let none = breaks_none past (host e (entry.Defrag i q n k)) clean in (begins_new past p s.backed m e i q n k none, begins_general past s stands e i q n k none)

-- where a pass begins its defragmentation has begun, and no pass is open
pub pass_fits : (e : ℕ) (past : Past) (b : Backed) (p : Passing) (d : ℕ) → IsClean (host e (entry.Pass d) ∷ past) → ArePassing p b → MatchesPasses past p b → IsSome (backing.defrag_in p d) × (p.opened ≡ None)
pass_fits e past b p d clean are m =
    let x = entry.Pass d in
    let none = breaks_none past (host e x) clean in
    let h = has_begun past p b m d (names_live past (host e x) none x d is_defrag refl (contains-head (d, is_defrag) [])) in
    (some_is (backing.defrag_in p d) h.2.0 h.2.1, opens_closed past p b m e d none are)

-- a pass that ends is open, and what it destroys is live and in its pool
pub end_pass_fits : (e : ℕ) (past : Past) (s : Held) (p : Passing) (d : ℕ) (kept lost : List ℕ) → IsClean (host e (entry.EndPass d kept lost) ∷ past) → Stands past s → MatchesPasses past p s.backed → (p.opened ≡ Some d) × AreDestroyed p s.backed lost × AreLive past lost
end_pass_fits e past s p d kept lost clean stands m =
    let none = breaks_none past (host e (entry.EndPass d kept lost)) clean in
    (closes_open past p s.backed m e d kept lost none, closes_own past s p stands m e d kept lost none, lost_live past e (entry.EndPass d kept lost) none d kept lost refl)

-- a defragmentation that ends has begun, and its pass isn't open
pub end_defrag_fits : (e : ℕ) (past : Past) (b : Backed) (p : Passing) (d : ℕ) → IsClean (host e (entry.EndDefrag d) ∷ past) → MatchesPasses past p b → IsSome (backing.defrag_in p d) × (p.opened ≡ Some d → ⊥)
end_defrag_fits e past b p d clean m =
    let x = entry.EndDefrag d in
    let none = breaks_none past (host e x) clean in
    let h = has_begun past p b m d (names_live past (host e x) none x d is_defrag refl (contains-head (d, is_defrag) [])) in
    (some_is (backing.defrag_in p d) h.2.0 h.2.1, λ is. clash (m.going d is) (pass_state past e x none))
