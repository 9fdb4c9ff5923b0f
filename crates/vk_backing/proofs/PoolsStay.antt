-- Pools and allocations when places are reserved, moves end and allocations end.
use Rattle.std.proofs.Common.{◌≡◌, ℕ, ◌+◌, ◌<◌, List, [], ◌∷◌, ◌++◌, set, length, map, Bool, false, Option, Some, None, refl, sym, ap, subst, ◌∙◌, arith, inl, inr, ◌⊎◌}
use Rattle.std.specs.Prelude.{Contains, IsSomeAnd, if◌then◌else◌, ⊤}
use Rattle.std.proofs.lemmas.Bool.{cases_eq, ne_eqb}
use Rattle.std.proofs.lemmas.List.Elements.{All-head}
use Rattle.vk_model.specs.Basics.{among}
use Rattle.vk_model.specs.Memory.Suballocation.{Request}
use Rattle.vk_model.specs.Memory.MoveTargets.{BlockStart, Moved}
use Rattle.vk_model.specs.Memory.Pools.{Pool, PoolBlock, block_with, in_block, new_block, pool_with}
use Rattle.vk_model.proofs.Lists.Members.{contains-head, contains-tail}
use Rattle.vma_pools.specs.Alike.{AreAlike}
use Rattle.vma_pools.specs.declared.pool.PoolPlace.{PoolPlace}
use Rattle.vma_pools.specs.declared.allocations.Allocation.{Allocation}
use Rattle.vma_pools.specs.declared.allocations.Home.{Home}
use Rattle.vma_pools.specs.declared.allocations.Home.TheVariants as home
use Rattle.vma_pools.specs.Pools.{Kept, IsMemoryOf, block_numbers}
use Rattle.vma_pools.specs.State.{PoolsState, pool_at, allocation_at, request_in, start_of, IfLive, IsEnded, IsReserved}
use Rattle.vma_pools.proofs.NumberLemmas.{at-below, at-other, at-set}
use Rattle.vma_pools.proofs.StateLemmas.{given-info}
use Rattle.vma_defrag.specs.Passes.{AreAlikeKept, AreAlikePools, Reserves}
use Rattle.vma_defrag.specs.Plans.{AreMatched, ArePlanned, IsMove}
use Rattle.vma_defrag.specs.Ends.{AllEnd, AreOfPool, MoveEnds, MovesEnd}
use Rattle.vma_defrag.proofs.KeptBlocks.{memory_left}
use Rattle.vma_defrag.proofs.Settles.{kept_matched, settled_is}
use Rattle.vma_defrag.proofs.Endings.{given_back, lives}
use Rattle.vma_defrag.proofs.Following.{end_listed, end_matched, first_matched, first_planned, settled_cases}
use Rattle.vma_defrag.proofs.Matched.{reserves_matched}
use Rattle.vk_backing.proofs.Keeping.{changed_number}
use Rattle.vk_backing.proofs.Spots.{home_pool}

-- ---- one pool, one allocation

-- a pool was made with the same, and the blocks that it has are the memory objects that they were
pub record KeptStays (k l : Kept) : Type 0 where
  pub info : l.pool.info ≡ k.pool.info
  pub blocks : (n x : ℕ) → IsMemoryOf l n x → IsMemoryOf k n x

-- the same of pools that may be there
abbrev pub PoolStays : Option Kept → Option Kept → Type 0
PoolStays None None = ⊤
PoolStays (Some k) (Some l) = KeptStays k l
PoolStays _ _ = ⊥

-- an allocation lies where it did, or has come to lie elsewhere in its pool
abbrev pub HomeStays : (PoolPlace → Type 0) → Home → Home → Type 0
HomeStays Moves h g = (g ≡ h) ⊎ ((p : ℕ) × (x : PoolPlace) × (y : PoolPlace) × (h ≡ home.Shared p x) × (g ≡ home.Shared p y) × Moves y)

-- the place that was reserved for it still is, or it is one for which another may be
abbrev pub TargetStays : Type 0 → Home → Option PoolPlace → Option PoolPlace → Type 0
TargetStays Reserves h t u = (u ≡ t) ⊎ ((p : ℕ) × (x : PoolPlace) × (h ≡ home.Shared p x) × Reserves)

pub record LiveStays (Moves : PoolPlace → Type 0) (Reserves : Type 0) (a b : Allocation) : Type 0 where
  pub asked : b.asked ≡ a.asked
  pub lies : HomeStays Moves a.home b.home
  pub target : TargetStays Reserves a.home a.target b.target

-- the same of allocations that may be live; one may have ended
abbrev pub AllocationStays : (PoolPlace → Type 0) → Type 0 → Type 0 → Option Allocation → Option Allocation → Type 0
AllocationStays Moves Reserves Ends None None = ⊤
AllocationStays Moves Reserves Ends (Some a) (Some b) = LiveStays Moves Reserves a b
AllocationStays Moves Reserves Ends (Some a) None = Ends
AllocationStays Moves Reserves Ends None (Some b) = ⊥

-- what lies in a pool lay there, and what lay there lies there
module _ (Moves : PoolPlace → Type 0) (a b : Home) where
  pub lay_in : HomeStays Moves a b → (p : ℕ) (x : PoolPlace) → b ≡ home.Shared p x → (y : PoolPlace) × (a ≡ home.Shared p y)
  lay_in (inl same) p x e = (x, sym same ∙ e)
  lay_in (inr s) p x e = (s.1, s.3 ∙ ap (λ (q : ℕ). home.Shared q s.1) (home_pool s.0 p s.2 x (sym s.4 ∙ e)))

  pub lies_in : HomeStays Moves a b → (p : ℕ) (x : PoolPlace) → a ≡ home.Shared p x → (y : PoolPlace) × (b ≡ home.Shared p y)
  lies_in (inl same) p x e = (x, same ∙ e)
  lies_in (inr s) p x e = (s.2, s.4 ∙ ap (λ (q : ℕ). home.Shared q s.2) (home_pool s.0 p s.1 x (sym s.3 ∙ e)))

-- ---- all of them

kept_refl : (o : Option Kept) → PoolStays o o
kept_refl None = tt
kept_refl (Some k) = record { info = refl; blocks = λ n x of. of }

kept_trans : (a b c : Option Kept) → PoolStays a b → PoolStays b c → PoolStays a c
kept_trans None None None x y = tt
kept_trans (Some a) (Some b) (Some c) x y = record { info = y.info ∙ x.info; blocks = λ n m of. x.blocks n m (y.blocks n m of) }
kept_trans None None (Some c) x y = absurd y
kept_trans None (Some b) c x y = absurd x
kept_trans (Some a) None c x y = absurd x
kept_trans (Some a) (Some b) None x y = absurd y

module _ (Moves : PoolPlace → Type 0) (Reserves Ends : Type 0) where
  allocation_refl : (o : Option Allocation) → AllocationStays Moves Reserves Ends o o
  allocation_refl None = tt
  allocation_refl (Some a) = record { asked = refl; lies = inl refl; target = inl refl }

  home_trans : (a b c : Home) → HomeStays Moves a b → HomeStays Moves b c → HomeStays Moves a c
  home_trans a b c x (inl same) = subst (λ (h : Home). HomeStays Moves a h) (sym same) x
  home_trans a b c (inl same) (inr y) = inr (y.0, y.1, y.2, sym same ∙ y.3, y.4, y.5)
  home_trans a b c (inr x) (inr y) = inr (x.0, x.1, y.2, x.3, y.4 ∙ ap (λ (p : ℕ). home.Shared p y.2) (home_pool y.0 x.0 y.1 x.2 (sym y.3 ∙ x.4)), y.5)

  allocation_trans : (a b c : Option Allocation) → AllocationStays Moves Reserves Ends a b → AllocationStays Moves Reserves Ends b c → AllocationStays Moves Reserves Ends a c
  allocation_trans None None None x y = tt
  allocation_trans None None (Some c) x y = absurd y
  allocation_trans None (Some b) c x y = absurd x
  allocation_trans (Some a) None None x y = x
  allocation_trans (Some a) None (Some c) x y = absurd y
  allocation_trans (Some a) (Some b) None x y = y
  allocation_trans (Some a) (Some b) (Some c) x y = record { asked = y.asked ∙ x.asked; lies = home_trans a.home b.home c.home x.lies y.lies; target = go x.target y.target }
    where
      go : TargetStays Reserves a.home a.target b.target → TargetStays Reserves b.home b.target c.target → TargetStays Reserves a.home a.target c.target
      go s (inl same) = subst (λ (t : Option PoolPlace). TargetStays Reserves a.home a.target t) (sym same) s
      go s (inr t) = let l = lay_in Moves a.home b.home x.lies t.0 t.1 t.2 in inr (t.0, l.0, l.1, t.3)

-- pools and allocations by their numbers: some of these come to lie elsewhere, for some other places are reserved, and some end
pub record PoolsStay (Moves : ℕ → PoolPlace → Type 0) (Reserves Ends : ℕ → Type 0) (s t : PoolsState) : Type 0 where
  pub pools : (p : ℕ) → PoolStays (pool_at s p) (pool_at t p)
  pub allocations : (i : ℕ) → AllocationStays (Moves i) (Reserves i) (Ends i) (allocation_at s i) (allocation_at t i)

module _ (Moves : ℕ → PoolPlace → Type 0) (Res Ends : ℕ → Type 0) where
  pub stay_refl : (s : PoolsState) → PoolsStay Moves Res Ends s s
  stay_refl s = record { pools = λ p. kept_refl (pool_at s p); allocations = λ i. allocation_refl (Moves i) (Res i) (Ends i) (allocation_at s i) }

  pub stay_trans : (s t u : PoolsState) → PoolsStay Moves Res Ends s t → PoolsStay Moves Res Ends t u → PoolsStay Moves Res Ends s u
  stay_trans s t u x y = record {
    pools = λ p. kept_trans (pool_at s p) (pool_at t p) (pool_at u p) (x.pools p) (y.pools p);
    allocations = λ i. allocation_trans (Moves i) (Res i) (Ends i) (allocation_at s i) (allocation_at t i) (allocation_at u i) (x.allocations i) (y.allocations i);
  }

  -- one pool and one allocation have changed
  one_changes : (s t : PoolsState) (p : ℕ) (was now : Kept) (i : ℕ) (a : Allocation) (v : Option Allocation) → pool_at s p ≡ Some was → allocation_at s i ≡ Some a → t ≡ record { pools = set s.pools p (Some now); allocations = set s.allocations i v }
      → KeptStays was now → AllocationStays (Moves i) (Res i) (Ends i) (Some a) v → PoolsStay Moves Res Ends s t
  one_changes s t p was now i a v there live is kept changed =
      let after : PoolsState = record { pools = set s.pools p (Some now); allocations = set s.allocations i v } in subst (λ (x : PoolsState). PoolsStay Moves Res Ends s x) (sym is) (record {
        pools = λ q. elim (cases_eq q p) [
          | inl e ↦ subst (λ (n : ℕ). PoolStays (pool_at s n) (pool_at after n)) (sym e) (subst (λ (o : Option Kept). PoolStays o (pool_at after p)) (sym there) (subst (λ (o : Option Kept). PoolStays (Some was) o) (sym (at-set s.pools p (Some now) (at-below s.pools p was there))) kept))
          | inr other ↦ subst (λ (o : Option Kept). PoolStays (pool_at s q) o) (sym (at-other s.pools p q (Some now) other)) (kept_refl (pool_at s q))
        ];
        allocations = λ j. elim (cases_eq j i) [
          | inl e ↦ subst (λ (n : ℕ). AllocationStays (Moves n) (Res n) (Ends n) (allocation_at s n) (allocation_at after n)) (sym e)
              (subst (λ (o : Option Allocation). AllocationStays (Moves i) (Res i) (Ends i) o (allocation_at after i)) (sym live) (subst (λ (o : Option Allocation). AllocationStays (Moves i) (Res i) (Ends i) (Some a) o) (sym (at-set s.allocations i v (at-below s.allocations i a live))) changed))
          | inr other ↦ subst (λ (o : Option Allocation). AllocationStays (Moves j) (Res j) (Ends j) (allocation_at s j) o) (sym (at-other s.allocations i j v other)) (allocation_refl (Moves j) (Res j) (Ends j) (allocation_at s j))
        ];
      })

-- ---- the numbers of blocks

alike_numbers : (bs cs : List PoolBlock) → AreAlike bs cs → map (λ b. b.number) cs ≡ map (λ b. b.number) bs
alike_numbers [] [] h = refl
alike_numbers (b ∷ bs) (c ∷ cs) h = ap (λ (n : ℕ). n ∷ map (λ b. b.number) cs) h.0.0 ∙ ap (λ (l : List ℕ). b.number ∷ l) (alike_numbers bs cs h.1)
alike_numbers [] (c ∷ cs) h = absurd h
alike_numbers (b ∷ bs) [] h = absurd h

given_numbers : (p : Pool) (r : Request) (s : BlockStart) → s.block < p.next → block_numbers (pool_with p r false s) ≡ block_numbers p
given_numbers p r s lt =
    ap (λ (v : Bool). block_numbers (if v then record p { blocks = p.blocks ++ record { number = p.next; block = block_with (new_block p.info) r false s.start } ∷ []; next = p.next + 1 } else record p { blocks = in_block (λ k. block_with k r false s.start) s.block p.blocks }))
    (ne_eqb s.block p.next (λ e. omega (arith, lt, e)))
    ∙ go p.blocks
  where
    go : (bs : List PoolBlock) → map (λ b. b.number) (in_block (λ k. block_with k r false s.start) s.block bs) ≡ map (λ b. b.number) bs
    go [] = refl
    go (b ∷ bs) = ap (λ (n : ℕ). n ∷ map (λ b. b.number) (in_block (λ k. block_with k r false s.start) s.block bs)) (changed_number (λ k. block_with k r false s.start) s.block b) ∙ ap (λ (l : List ℕ). b.number ∷ l) (go bs)

-- what is taken has changed in a pool
taken_stays : (was now : Kept) → length was.memories ≡ length was.pool.blocks → now.pool.info ≡ was.pool.info → now.memories ≡ was.memories → block_numbers now.pool ≡ block_numbers was.pool → KeptStays was now
taken_stays was now long info memories numbers = record { info = info; blocks = memory_left was now long (kept_matched None 0 was now long (memories, numbers)) None 0 (memories, numbers) }

-- ---- places are reserved

module _ (Moves : ℕ → PoolPlace → Type 0) (Res Ends : ℕ → Type 0) where
  pub alike_stay : (s t : PoolsState) → AreMatched s → AreAlikePools s t → PoolsStay Moves Res Ends s t
  alike_stay s t matched h = record {
    pools = λ p. go p (pool_at s p) (pool_at t p) refl (h.pools p);
    allocations = λ i. subst (λ (l : List (Option Allocation)). AllocationStays (Moves i) (Res i) (Ends i) (allocation_at s i) (allocation_at (record s { allocations = l }) i)) (sym h.allocations) (allocation_refl (Moves i) (Res i) (Ends i) (allocation_at s i));
  }
    where
      go : (p : ℕ) (o q : Option Kept) → pool_at s p ≡ o → AreAlikeKept o q → PoolStays o q
      go p None None e alike = tt
      go p (Some k) (Some l) e alike = taken_stays k l (matched p k e) alike.0.info alike.1 (alike_numbers k.pool.blocks l.pool.blocks alike.0.blocks)
      go p None (Some l) e alike = absurd alike
      go p (Some k) None e alike = absurd alike

  reserved_stay : (s t : PoolsState) (i : ℕ) (target : PoolPlace) → AreMatched s → IsReserved s t i target → Res i → PoolsStay Moves Res Ends s t
  reserved_stay s t i target matched r res =
      let asked = request_in r.allocation.asked in
      one_changes Moves Res Ends s t r.pool r.was r.now i r.allocation (Some (record r.allocation { target = Some target })) r.there r.live r.state
      (taken_stays r.was r.now (matched r.pool r.was r.there) (r.takes.pool.info ∙ given-info r.was.pool asked false (start_of target)) r.takes.memories
      (alike_numbers (pool_with r.was.pool asked false (start_of target)).blocks r.now.pool.blocks r.takes.pool.blocks ∙ given_numbers r.was.pool asked (start_of target) r.takes.has))
      (record { asked = refl; lies = inl refl; target = inr (r.pool, r.from, r.lies, res) })

  pub reserves_stay : (ms : List Moved) (s t : PoolsState) → AreMatched s → Reserves s ms t → ((m : Moved) → Contains ms m → Res m.id) → PoolsStay Moves Res Ends s t
  reserves_stay [] s t matched h res = subst (λ (x : PoolsState). PoolsStay Moves Res Ends s x) (sym h) (stay_refl Moves Res Ends s)
  reserves_stay (m ∷ ms) s t matched h res =
      stay_trans Moves Res Ends s h.0 t (reserved_stay s h.0 m.id h.1 matched h.3 (res m (contains-head m ms)))
      (reserves_stay ms h.0 t (reserves_matched (m ∷ []) s h.0 (h.0, h.1, h.2, h.3, refl) matched) h.4 (λ n at. res n (contains-tail m ms n at)))

  -- ---- moves end

  pub move_stay : (ignored : List ℕ) (pool : ℕ) (m : Moved) (ms : List Moved) (s t : PoolsState) (gone : Option ℕ) → AreMatched s → ArePlanned s pool (m ∷ ms) → MoveEnds ignored s m t gone → Res m.id → ((y : PoolPlace) → start_of y ≡ m.to → Moves m.id y) → PoolsStay Moves Res Ends s t
  move_stay ignored pool m ms s t gone matched plan ends res moves =
      let its = All-head (IsMove s pool) m ms plan.each in
      let settles = settled_is (among m.id ignored) s t pool m gone its ends in
      let g = settles.2 in
      let long = matched pool g.was g.there in
      one_changes Moves Res Ends s t pool g.was g.now m.id its.allocation (Some (record its.allocation { home = home.Shared pool settles.1; target = None })) g.there its.live g.state
      (record { info = g.pool_is.info; blocks = memory_left g.was g.now long (kept_matched gone settles.0.block g.was g.now long g.blocks) gone settles.0.block g.blocks })
      (record {
        asked = refl;
        lies = elim (settled_cases (among m.id ignored) s t pool m gone its ends) [
          | inl kept ↦ inl (ap (λ (p : PoolPlace). home.Shared pool p) kept.1 ∙ sym its.lies)
          | inr made ↦ inr (pool, its.from, settles.1, its.lies, refl, moves settles.1 (ap (λ (p : PoolPlace). start_of p) made.1 ∙ its.to))
        ];
        target = inr (pool, its.from, its.lies, res);
      })

  pub moves_stay : (ignored : List ℕ) (pool : ℕ) (ms : List Moved) (s t : PoolsState) (gone : List ℕ) → AreMatched s → ArePlanned s pool ms → MovesEnd ignored s ms t gone → ((m : Moved) → Contains ms m → Res m.id × ((y : PoolPlace) → start_of y ≡ m.to → Moves m.id y)) → PoolsStay Moves Res Ends s t
  moves_stay ignored pool [] s t gone matched plan ends each = subst (λ (x : PoolsState). PoolsStay Moves Res Ends s x) (sym ends.0) (stay_refl Moves Res Ends s)
  moves_stay ignored pool (m ∷ ms) s t gone matched plan ends each =
      let one = each m (contains-head m ms) in
      stay_trans Moves Res Ends s ends.0 t (move_stay ignored pool m ms s ends.0 ends.1 matched plan ends.3 one.0 one.1)
      (moves_stay ignored pool ms ends.0 t ends.2 (first_matched ignored pool m ms s ends.0 ends.1 matched plan ends.3) (first_planned ignored pool m ms s ends.0 ends.1 plan ends.3) ends.4 (λ n at. each n (contains-tail m ms n at)))

  -- ---- allocations end

  pub end_stay : (pool i : ℕ) (is : List ℕ) (s t : PoolsState) (gone : Option ℕ) → AreMatched s → AreOfPool s pool (i ∷ is) → IfLive s i (λ a. IsEnded s t i a.home gone) → Ends i → PoolsStay Moves Res Ends s t
  end_stay pool i is s t gone matched of ended ends =
      let its = lives s pool i (of.each i (contains-head i is)) in
      let g = given_back s t pool i its.0 its.1 its.2 gone (subst (λ (o : Option Allocation). IsSomeAnd o (λ a. IsEnded s t i a.home gone)) its.1 ended) in
      let long = matched pool g.was g.there in
      one_changes Moves Res Ends s t pool g.was g.now i its.0 None g.there its.1 g.state
      (record { info = g.pool_is.info; blocks = memory_left g.was g.now long (kept_matched gone its.2.0.block g.was g.now long g.blocks) gone its.2.0.block g.blocks }) ends

  pub ends_stay : (pool : ℕ) (is : List ℕ) (s t : PoolsState) (gone : List ℕ) → AreMatched s → AreOfPool s pool is → AllEnd s is t gone → ((i : ℕ) → Contains is i → Ends i) → PoolsStay Moves Res Ends s t
  ends_stay pool [] s t gone matched of ended ends = subst (λ (x : PoolsState). PoolsStay Moves Res Ends s x) (sym ended.0) (stay_refl Moves Res Ends s)
  ends_stay pool (i ∷ is) s t gone matched of ended ends =
      stay_trans Moves Res Ends s ended.0 t (end_stay pool i is s ended.0 ended.1 matched of ended.3 (ends i (contains-head i is)))
      (ends_stay pool is ended.0 t ended.2 (end_matched pool i is s ended.0 ended.0 ended.1 matched of ended.3) (end_listed pool i is s ended.0 ended.0 ended.1 matched of ended.3) ended.4 (λ j at. ends j (contains-tail i is j at)))
