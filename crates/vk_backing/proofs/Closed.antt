-- What a pass that has ended leaves.
use Rattle.std.proofs.Common.{◌≡◌, ℕ, ◌%◌, ◌≤◌, List, [], true, Option, Some, None, refl, sym, ap, subst, ◌∙◌, arith, inl, inr}
use Rattle.std.specs.Prelude.{Contains, max}
use Rattle.std.specs.List.{filter_map}
use Rattle.std.proofs.lemmas.Bool.{cases_eq}
use Rattle.std.proofs.lemmas.List.Elements.{All-contains, Contains-append_cases}
use Rattle.vk_memory.specs.MemoryState.{MemoryState, IsLive, object_at, type_of}
use Rattle.vk_model.specs.declared.resource.PoolInfo.{PoolInfo}
use Rattle.vk_model.specs.declared.resource.Spot.{Spot}
use Rattle.vk_model.specs.Memory.MoveTargets.{BlockStart, Moved}
use Rattle.vk_model.proofs.Lists.Members.{chosen_has}
use Rattle.vma_pools.specs.declared.pool.PoolPlace.{PoolPlace}
use Rattle.vma_pools.specs.declared.allocations.Asked.{Asked}
use Rattle.vma_pools.specs.declared.allocations.Allocation.{Allocation}
use Rattle.vma_pools.specs.declared.allocations.Home.{Home}
use Rattle.vma_pools.specs.declared.allocations.Home.TheVariants as home
use Rattle.vma_pools.specs.Pools.{Kept}
use Rattle.vma_pools.specs.State.{PoolsState, allocation_at, shared_place, start_of, ArePools, Backs, BlockOf, Has, IsSpotOf}
use Rattle.vma_pools.proofs.CallLemmas.{live-and}
use Rattle.vma_pools.proofs.StateLemmas.{some-is}
use Rattle.vma_defrag.specs.State.{DefragState, moves_in}
use Rattle.vma_defrag.specs.Plans.{AreMatched, ArePlanned, IsMove}
use Rattle.vma_defrag.specs.Bytes.{IsTargetByte}
use Rattle.vma_defrag.specs.Ends.{AreOfPool, HasEnded, KeepsBytes, is_made}
use Rattle.vma_defrag.proofs.Aligned.{atom_aligned}
use Rattle.vma_defrag.proofs.Following.{follow_ends}
use Rattle.vma_defrag.proofs.KeptBytes.{freed_stays}
use Rattle.vma_defrag.proofs.Spots.{has_object, to_holds}
use Rattle.vk_backing.specs.declared.backing.Own.{Own}
use Rattle.vk_backing.specs.Backed.{Backed, AreSized, number_in, object_of, dedicated_of, allocation_of, info_by, LiesIn, IsBacked, IsWhole}
use Rattle.vk_backing.specs.Passing.{Passing, defrag_in, moves_by, moves_on, AreMovers, ArePassing}
use Rattle.vk_backing.specs.PassSteps.{AreDestroyed, Closes, HasBytes}
use Rattle.vma_defrag.proofs.Endings.{lives}
use Rattle.vk_backing.proofs.Closing.{its_open, lost_of, of_pool, plan}
use Rattle.vk_backing.proofs.Gone.{IsBlockOf, ends_gone, left_live, left_sized, moves_gone, moves_matched, was_block}
use Rattle.vk_backing.proofs.KeptObjects.{kept_live, kept_sized, same_object}
use Rattle.vk_backing.proofs.OpenPass.{turned_passing}
use Rattle.vk_backing.proofs.Passing.{lies_spot, move_named, moves_elsewhere, open_none}
use Rattle.vk_backing.proofs.PoolsStay.{HomeStays, LiveStays, PoolsStay, ends_stay, moves_stay, stay_trans}
use Rattle.vk_backing.proofs.Spots.{home_pool, home_place, spot_object}
use Rattle.vk_backing.proofs.StaysBacked.{defrag_is, infos_stay, lies_now, lies_still, live_now, live_was, none_planned, pool_was, stays_backed, stays_whole}

module _ (old : Passing) (b : Backed) (m : MemoryState) (hp : ArePassing old b) (h : IsBacked b m) (id : ℕ) (is : old.opened ≡ Some id) (d : DefragState) (was : defrag_in old id ≡ Some d) (ignored destroyed kept lost : List ℕ) (lost_are : lost ≡ filter_map (allocation_of b) destroyed) (destroys : AreDestroyed old b destroyed)
    (t : PoolsState) (n : MemoryState) (gone : List ℕ) (e : HasEnded (moves_in d.current) b.pools t m n kept lost gone) (allocations : List (ℕ × ℕ)) (forgotten : (i : ℕ) → Contains destroyed i → number_in allocations i ≡ None) (others : (i : ℕ) → (Contains destroyed i → ⊥) → number_in allocations i ≡ allocation_of b i) where
  abbrev ms : List Moved
  ms = moves_in d.current

  abbrev Moves : ℕ → PoolPlace → Type 0
  Moves i y = (mv : Moved) × Contains ms mv × (mv.id ≡ i) × (start_of y ≡ mv.to)

  abbrev Res : ℕ → Type 0
  Res i = (mv : Moved) × Contains ms mv × (mv.id ≡ i)

  abbrev Ends : ℕ → Type 0
  Ends a = Contains lost a

  abbrev pub closing : Backed
  closing = record b { pools = t; allocations = allocations }

  the_plan : ArePlanned b.pools d.pool ms
  the_plan = plan old b m hp h id is d was

  -- ---- pools and allocations

  settles : (E : ℕ → Type 0) → PoolsStay Moves Res E b.pools e.settled
  settles E = moves_stay Moves Res E kept d.pool ms b.pools e.settled e.by_moves h.matched the_plan e.ended (λ mv at. ((mv, at, refl), λ y to. (mv, at, refl, to)))

  middle_matched : AreMatched e.settled
  middle_matched = moves_matched kept d.pool ms b.pools e.settled e.by_moves h.matched the_plan e.ended

  middle_listed : AreOfPool e.settled d.pool lost
  middle_listed = (let of = of_pool old b m hp h id is d was destroyed lost lost_are destroys in record {
    each = λ a there.
        let l = lives b.pools d.pool a (of.each a there) in
        let x = live_now Moves Res (λ i. ⊥) b.pools e.settled (settles (λ i. ⊥)) a l.0 l.1 (λ none. none) in
        live-and e.settled a x.0 (λ y. (place : PoolPlace) × (shared_place y.home ≡ Some (d.pool, place))) x.1 (lies_in l.0.home x.0.home x.2.lies l.2);
    once = of.once;
  })
    where
      lies_in : {P : PoolPlace → Type 0} (g l : Home) → HomeStays P g l → (place : PoolPlace) × (shared_place g ≡ Some (d.pool, place)) → (place : PoolPlace) × (shared_place l ≡ Some (d.pool, place))
      lies_in g l (inl same) at = (at.0, ap shared_place same ∙ at.1)
      lies_in g l (inr s) at = (s.2, ap shared_place s.4 ∙ ap (λ (p : ℕ). Some (p, s.2)) (ap (λ (x : ℕ × PoolPlace). x.0) (some-is (s.0, s.1) (d.pool, at.0) (sym (ap shared_place s.3) ∙ at.1))))

  stay : PoolsStay Moves Res Ends b.pools t
  stay = stay_trans Moves Res Ends b.pools e.settled t (settles Ends) (ends_stay Moves Res Ends d.pool lost e.settled t e.by_ends middle_matched middle_listed e.ends (λ i at. at))

  goes_on : (a : ℕ) (x : Allocation) → allocation_at t a ≡ Some x → Contains lost a → ⊥
  goes_on a x live = ((follow_ends d.pool lost e.settled t e.by_ends middle_matched middle_listed e.ends).lives a x live).1

  not_destroyed : (i a : ℕ) → number_in allocations i ≡ Some a → Contains destroyed i → ⊥
  not_destroyed i a has there = let f = sym (forgotten i there) ∙ has in cc

  had : (i a : ℕ) → number_in allocations i ≡ Some a → (allocation_of b i ≡ Some a) × (Contains lost a → ⊥)
  had i a has =
      let mine = sym (others i (not_destroyed i a has)) ∙ has in
      (mine, λ there. let j = lost_of old b m hp h id is d was destroyed lost lost_are destroys a there in not_destroyed i a has (subst (λ (k : ℕ). Contains destroyed k) (h.one j.0 i a j.2 mine) j.1))

  alone : (i a : ℕ) → dedicated_of b i ≡ Some a → Contains lost a → ⊥
  alone i a has there =
      let j = lost_of old b m hp h id is d was destroyed lost lost_are destroys a there in
      let s = h.shared j.0 a j.2 in let x = h.dedicated i a has in
      let same = some-is s.allocation x.allocation (sym s.live ∙ x.live) in
      let f = sym s.lies ∙ ap (λ (y : Allocation). y.home) same ∙ x.lies in cc

  -- ---- memory objects

  gone_block : (k : ℕ) → Contains gone k → IsBlockOf b.pools k
  gone_block k there = elim (Contains-append_cases e.by_moves e.by_ends k (subst (λ (l : List ℕ). Contains l k) e.gone_are there)) [
    | inl first ↦ moves_gone kept d.pool ms b.pools e.settled e.by_moves h.matched the_plan e.ended k first
    | inr later ↦ was_block Moves Res Ends b.pools e.settled (settles Ends) k (ends_gone d.pool lost e.settled t e.by_ends middle_matched middle_listed e.ends k later)
  ]

  -- what an id has of its own is no block's
  not_block : (i k : ℕ) → object_of b i ≡ Some k → IsBlockOf b.pools k → ⊥
  not_block i k has of = h.apart i k (BlockOf of.pool of.memory.index) has (of.kept, of.there, omega (arith, of.memory.there, h.matched of.pool of.kept of.there), of.memory.is)

  own_live : (i k : ℕ) → object_of b i ≡ Some k → IsLive n k
  own_live i k has = subst (λ (x : MemoryState). IsLive x k) (sym e.freed_are) (left_live gone e.copied k (λ there. not_block i k has (gone_block k there)) (kept_live m e.copied e.copies.objects k (h.live i k has)))

  all_sized : AreSized n
  all_sized = subst AreSized (sym e.freed_are) (left_sized e.copied gone (kept_sized m e.copied e.copies.objects h.sized))

  -- it is no target, so it is as it was
  pub own_object : (i x : ℕ) → object_of b i ≡ Some x → object_at n x ≡ object_at m x
  own_object i x has =
      ap (λ (y : MemoryState). object_at y x) e.freed_are ∙ freed_stays gone e.copied x (subst (λ (y : MemoryState). IsLive y x) e.freed_are (own_live i x has))
      ∙ same_object (object_at m x) (object_at e.copied x) (e.copies.objects.each x) (λ k. e.copies.rest x k (no_target k))
    where
      no_target : (k : ℕ) → IsTargetByte b.pools ms (is_made kept lost) x k → ⊥
      no_target k at =
          let its = All-contains (IsMove b.pools d.pool) ms at.move the_plan.each at.there in
          let to = to_holds b.pools h.pools d.pool at.move its at.from at.to at.between in
          let owner = has_object b.pools h.pools m h.backs h.matched at.move.id true at.to to in
          h.apart i x (BlockOf to.pool to.memory.index) has (subst (λ (y : ℕ). Has b.pools (BlockOf to.pool to.memory.index) y) at.object owner)

  module _ (always : ArePools t) (backs : Backs t n) (matched : AreMatched t) where
    pub closed_backed : IsBacked closing n
    closed_backed = stays_backed Moves Res Ends b m h t stay allocations had n always backs matched all_sized own_live alone

    pub closed_whole : IsWhole b → IsWhole closing
    closed_whole whole = stays_whole Moves Res Ends b m h t stay allocations had goes_on (λ i a has goes. others i (λ there. goes (subst (λ (l : List ℕ). Contains l a) (sym lost_are) (chosen_has (allocation_of b) destroyed i a there has))) ∙ has) whole

    -- ---- where resources lie

    module _ (bytes : KeepsBytes b.pools m t n) (i p : ℕ) (from to : Spot) (away : Contains destroyed i → ⊥) (l : LiesIn b i p from) (y : LiesIn closing i p to) where
      same_number : y.number ≡ l.number
      same_number = some-is y.number l.number (sym y.has ∙ others i away ∙ l.has)

      lived : (a : Allocation) × (allocation_at b.pools y.number ≡ Some a) × LiveStays (Moves y.number) (Res y.number) a y.allocation
      lived = live_was Moves Res Ends b.pools t stay y.number y.allocation y.live

      it : lived.0 ≡ l.allocation
      it = some-is lived.0 l.allocation (sym lived.1 ∙ ap (λ (j : ℕ). allocation_at b.pools j) same_number ∙ l.live)

      same_asked : y.allocation.asked ≡ l.allocation.asked
      same_asked = lived.2.asked ∙ ap (λ (a : Allocation). a.asked) it

      same_size : to.size ≡ from.size
      same_size = y.size ∙ ap (λ (r : Asked). r.size) same_asked ∙ sym l.size

      it_lay : lived.0.home ≡ home.Shared p l.place
      it_lay = ap (λ (a : Allocation). a.home) it ∙ l.lies

      of_type : type_of m from.memory ≡ l.kept.pool.info.memory_type
      of_type = (spot_object b m h i p from l).kind

      same_type : type_of n to.memory ≡ type_of m from.memory
      same_type =
          let k = pool_was Moves Res Ends b.pools t stay p y.kept y.there in
          (spot_object closing n closed_backed i p to y).kind ∙ ap (λ (j : PoolInfo). j.memory_type) k.2.info ∙ ap (λ (j : Kept). j.pool.info.memory_type) (some-is k.0 l.kept (sym k.1 ∙ l.there)) ∙ sym of_type

      -- on type 2 it asked an atom
      atoms : type_of m from.memory ≡ 2 → 64 ≤ l.allocation.asked.align
      atoms cached =
          let s = h.shared i l.number l.has in
          let one = some-is s.allocation l.allocation (sym s.live ∙ l.live) in
          subst (λ (a : Allocation). 64 ≤ a.asked.align) one (s.aligned p l.place l.kept (ap (λ (a : Allocation). a.home) one ∙ l.lies) l.there (sym of_type ∙ cached))

      still_aligned : type_of m from.memory ≡ 2 → from.offset % 64 ≡ 0 → HomeStays (Moves y.number) lived.0.home y.allocation.home → to.offset % 64 ≡ 0
      still_aligned cached was_so (inl same) =
          let place = home_place p p y.place l.place (sym y.lies ∙ same ∙ it_lay) in
          ap (λ (k : ℕ). k % 64) (y.offset ∙ ap (λ (q : PoolPlace). q.start) place ∙ sym l.offset) ∙ was_so
      still_aligned cached was_so (inr s) =
          let mv = s.5.0 in
          let its = All-contains (IsMove b.pools d.pool) ms mv the_plan.each s.5.1 in
          let one : its.allocation ≡ l.allocation = some-is its.allocation l.allocation (sym its.live ∙ ap (λ (j : ℕ). allocation_at b.pools j) (s.5.2 ∙ same_number) ∙ l.live) in
          let place = home_place p s.0 y.place s.2 (sym y.lies ∙ s.4) in
          let start : y.place.start ≡ mv.to.start = ap (λ (q : PoolPlace). q.start) place ∙ ap (λ (q : BlockStart). q.start) s.5.3 in
          let align = l.allocation.asked.align in
          let low = atoms cached in
          let most : align ≡ max 64 align = omega (arith, low) in
          let asked : mv.to.start % align ≡ 0 = subst (λ (a : Allocation). mv.to.start % a.asked.align ≡ 0) one its.aligned in
          ap (λ (k : ℕ). k % 64) (y.offset ∙ start) ∙ atom_aligned mv.to.start align l.allocation.asked.size (h.pools.requests l.number l.allocation l.live) (subst (λ (k : ℕ). mv.to.start % k ≡ 0) most asked)

      pub carried : HasBytes m from n to
      carried = record {
        size = same_size;
        bytes = λ k lt. bytes y.number lived.0 y.allocation from to k lived.1 (subst (λ (a : Allocation). IsSpotOf b.pools a.home a.asked from) (sym it) (lies_spot b i p from l)) y.live (lies_spot closing i p to y)
            (omega (arith, lt, l.size, ap (λ (a : Allocation). a.asked.size) it));
        kind = same_type;
        aligned = λ cached was_so. still_aligned cached was_so lived.2.lies;
      }

    pub carried_to : KeepsBytes b.pools m t n → (i p : ℕ) (from : Spot) → (Contains destroyed i → ⊥) → LiesIn b i p from → (to : Spot) × LiesIn closing i p to × HasBytes m from n to
    carried_to bytes i p from away l =
        let x = lies_now Moves Res Ends b m h t stay allocations had n closed_backed i p from l (others i away) in
        (x.0, x.1, carried bytes i p from x.0 away l x.1)

    -- what doesn't move
    pub put : (i p : ℕ) (from : Spot) → (Contains destroyed i → ⊥) → (Contains old.moving i → ⊥) → LiesIn b i p from → LiesIn closing i p from
    put i p from away unmoved l = lies_still Moves Res Ends b m h t stay allocations had n closed_backed i p from l (others i away) (λ y moves.
        let named = move_named old b hp moves.0 (subst (λ (o : Option DefragState). Contains (moves_by o) moves.0) (sym (its_open old b m hp h id is d was)) moves.1) in
        unmoved (subst (λ (j : ℕ). Contains old.moving j) (h.one named.0 i l.number (named.2 ∙ ap (λ (j : ℕ). Some j) moves.2) l.has) named.1))

  -- ---- no pass is open

  pub infos_kept : (i : ℕ) → info_by closing i ≡ info_by b i
  infos_kept = infos_stay Moves Res Ends b m h t stay allocations

  none_left : ArePlanned t d.pool [] → (k : ℕ) → ArePlanned t k []
  none_left mine k = elim (cases_eq d.pool k) [
    | inl same ↦ subst (λ (j : ℕ). ArePlanned t j []) same mine
    | inr other ↦ none_planned Moves Res Ends b.pools t stay k
        (λ i p x a res live lies at. let its = All-contains (IsMove b.pools d.pool) ms res.0 the_plan.each res.1 in
        let one = some-is its.allocation a (sym its.live ∙ ap (λ (j : ℕ). allocation_at b.pools j) res.2 ∙ live) in
        other (home_pool d.pool p its.from x (sym its.lies ∙ ap (λ (y : Allocation). y.home) one ∙ lies) ∙ at))
        (subst (λ (l : List Moved). ArePlanned b.pools k l) (moves_elsewhere d k other) (subst (λ (o : Option DefragState). ArePlanned b.pools k (moves_on k o)) (its_open old b m hp h id is d was) (hp.planned k)))
  ]

  pub closed_passing : ArePlanned t d.pool [] → (new : Passing) → new.opened ≡ None → new.moving ≡ [] → defrag_in new id ≡ Some (record d { current = None }) → ((i : ℕ) → (i ≡ id → ⊥) → defrag_in new i ≡ defrag_in old i) → ArePassing new closing
  closed_passing mine new opened moving here rest =
      turned_passing old new b closing hp id d (record d { current = None }) was here rest refl (λ i o. some-is i id (sym o ∙ is)) (defrag_is Moves Res Ends b m h t stay allocations) (λ away. refl) (λ i o. absurd (let f = sym opened ∙ o in cc))
      (λ k. subst (λ (o : Option DefragState). ArePlanned t k (moves_on k o)) (sym (open_none new opened)) (none_left mine k))
      (subst (λ (o : Option DefragState). AreMovers closing new.moving (moves_by o)) (sym (open_none new opened)) (subst (λ (l : List ℕ). AreMovers closing l []) (sym moving) (record { long = refl; each = λ k lt. absurd (omega (arith, lt)) })))

  pub closes : kept ≡ filter_map (allocation_of b) ignored → ArePools t → Backs t n → AreMatched t → KeepsBytes b.pools m t n
      → (new : Passing) → new.opened ≡ None → new.moving ≡ [] → defrag_in new id ≡ Some (record d { current = None }) → ((i : ℕ) → (i ≡ id → ⊥) → defrag_in new i ≡ defrag_in old i) → Closes old new b closing m n id ignored destroyed
  closes kept_are always backs matched bytes new opened moving here rest = record {
    opened = is;
    was = d;
    there = was;
    here = here;
    others = rest;
    none_open = opened;
    none_moving = moving;
    owned = refl;
    numbers = refl;
    gone = forgotten;
    allocations = others;
    kept = kept;
    lost = lost;
    kept_are = kept_are;
    lost_are = lost_are;
    freed = gone;
    ended = subst (λ (o : Option DefragState). HasEnded (moves_by o) b.pools t m n kept lost gone) (sym (its_open old b m hp h id is d was)) e;
    bytes = carried_to always backs matched bytes;
    stays = put always backs matched;
    objects = own_object;
    infos = infos_kept;
  }

-- what backs ids is what its parts are
pub same_backed : (x : Backed) (o : List (ℕ × Own)) (s : PoolsState) (numbers : List (ℕ × ℕ)) → x.owned ≡ o → x.pools ≡ s → x.numbers ≡ numbers → record { owned = o; pools = s; numbers = numbers; allocations = x.allocations } ≡ x
same_backed x o s numbers a c d =
    sym
    (ap (λ (l : List (ℕ × Own)). record { owned = l; pools = x.pools; numbers = x.numbers; allocations = x.allocations }) a ∙ ap (λ (p : PoolsState). record { owned = o; pools = p; numbers = x.numbers; allocations = x.allocations }) c
    ∙ ap (λ (l : List (ℕ × ℕ)). record { owned = o; pools = s; numbers = l; allocations = x.allocations }) d)
