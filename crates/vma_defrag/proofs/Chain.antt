-- Targets that are reserved one after another: the last one, and those before it.
use Rattle.std.proofs.Common.{◌≡◌, ℕ, List, [], ◌∷◌, ◌++◌, false, Some, None, refl, sym, ap, subst, ◌∙◌, inl, inr, ◌⊎◌}
use Rattle.std.specs.Prelude.{Contains, Option}
use Rattle.std.proofs.lemmas.Bool.{cases_eq}
use Rattle.std.proofs.lemmas.List.Elements.{Contains-append_left, Contains-append_cases}
use Rattle.vk_model.specs.Memory.MoveTargets.{Moved}
use Rattle.vk_model.specs.Memory.PassRanks.{AreOnce}
use Rattle.vk_model.proofs.Lists.Members.{none_in, contains-head, contains-tail, only_one}
use Rattle.vk_model.specs.declared.resource.PoolKind.TheVariants as algorithm
use Rattle.vma_pools.specs.declared.pool.PoolPlace.{PoolPlace}
use Rattle.vma_pools.specs.declared.allocations.Home.{Home}
use Rattle.vma_pools.specs.declared.allocations.Home.TheVariants as home
use Rattle.vma_pools.specs.Pools.{Kept}
use Rattle.vma_pools.specs.State.{PoolsState, ArePools, IfKept, IfLive, IsMovable, IsReserved, allocation_at, pool_at, request_in, start_of}
use Rattle.vma_pools.proofs.NumberLemmas.{at-below, at-other, at-set}
use Rattle.vma_pools.proofs.StateLemmas.{given-info, some-is}
use Rattle.vma_pools.proofs.EndedLemmas.{kept-is, live-is}
use Rattle.vma_pools.proofs.CallLemmas.{kept-and, live-and, live-holds}
use Rattle.vma_pools.proofs.MovingLemmas.{movable-none, place-reserved}
use Rattle.vma_defrag.specs.Passes.{Reserves}
use Rattle.vma_defrag.specs.Inner.Choosing.{HasReserved}

-- ---- lists of moves

pub once-more : (ms : List Moved) (m : Moved) → AreOnce ms → ((n : Moved) → Contains ms n → n.id ≡ m.id → ⊥) → AreOnce (ms ++ m ∷ [])
once-more [] m once apart = ((λ n at. absurd (none_in n at)), tt)
once-more (x ∷ ms) m once apart =
    ((λ n at e. one n (in-more n at) e), once-more ms m once.1 (λ n at. apart n (contains-tail x ms n at)))
  where
    in-more : (n : Moved) → Contains (ms ++ m ∷ []) n → Contains ms n ⊎ (n ≡ m)
    in-more n at = elim (Contains-append_cases ms (m ∷ []) n at) [ inl old ↦ inl old | inr new ↦ inr (sym (only_one m n new)) ]

    one : (n : Moved) → Contains ms n ⊎ (n ≡ m) → x.id ≡ n.id → ⊥
    one n (inl old) e = once.0 n old e
    one n (inr new) e = apart x (contains-head x ms) (e ∙ ap (λ (y : Moved). y.id) new)

once-first : (ms ns : List Moved) → AreOnce (ms ++ ns) → AreOnce ms
once-first [] ns once = tt
once-first (m ∷ ms) ns once = ((λ n at. once.0 n (Contains-append_left ms ns n at)), once-first ms ns once.1)

-- ---- one more

pub reserves-more : (s u t : PoolsState) (ms : List Moved) (m : Moved) (target : PoolPlace) → Reserves s ms u → start_of target ≡ m.to → IsReserved u t m.id target → Reserves s (ms ++ m ∷ []) t
reserves-more s u t [] m target e to is = (t, target, to, subst (λ (x : PoolsState). IsReserved x t m.id target) e is, refl)
reserves-more s u t (n ∷ ms) m target rest to is = (rest.0, rest.1, rest.2, rest.3, reserves-more rest.0 u t ms m target rest.4 to is)

-- ---- the last one

-- one allocation that is not the one for which a place is reserved
pub others-stay : (s t : PoolsState) (i : ℕ) (target : PoolPlace) → IsReserved s t i target → (j : ℕ) → (j ≡ i → ⊥) → allocation_at t j ≡ allocation_at s j
others-stay s t i target is j other = ap (λ (x : PoolsState). allocation_at x j) is.state ∙ at-other s.allocations i j (Some (record is.allocation { target = Some target })) other

module _ (s t : PoolsState) (i : ℕ) (target : PoolPlace) (is : IsReserved s t i target) where
  now-there : pool_at t is.pool ≡ Some is.now
  now-there = ap (λ (x : PoolsState). pool_at x is.pool) is.state ∙ at-set s.pools is.pool (Some is.now) (at-below s.pools is.pool is.was is.there)

  now-kind : is.now.pool.info.kind ≡ is.was.pool.info.kind
  now-kind = ap (λ o. o.kind) (is.takes.pool.info ∙ given-info is.was.pool (request_in is.allocation.asked) false (start_of target))

  general-stays : (p : ℕ) → IfKept s p (λ k. k.pool.info.kind ≡ algorithm.Tlsf) → IfKept t p (λ k. k.pool.info.kind ≡ algorithm.Tlsf)
  general-stays p h =
      let k = kept-is s p (λ k. k.pool.info.kind ≡ algorithm.Tlsf) h in
      elim (cases_eq p is.pool) [
        | inl same ↦ (
            let w : k.0 ≡ is.was = some-is k.0 is.was (sym k.1 ∙ ap (λ (n : ℕ). pool_at s n) same ∙ is.there) in
            kept-and t p is.now (λ k. k.pool.info.kind ≡ algorithm.Tlsf) (ap (λ (n : ℕ). pool_at t n) same ∙ now-there)
            (now-kind ∙ subst (λ (l : Kept). l.pool.info.kind ≡ algorithm.Tlsf) w k.2))
        | inr other ↦ kept-and t p k.0 (λ k. k.pool.info.kind ≡ algorithm.Tlsf) (ap (λ (x : PoolsState). pool_at x p) is.state ∙ at-other s.pools is.pool p (Some is.now) other ∙ k.1) k.2
      ]

  movable-stays : (l : Home) (o : Option PoolPlace) → IsMovable s l o → IsMovable t l o
  movable-stays (home.Own n) o h = absurd h
  movable-stays (home.Shared p place) None h = general-stays p h
  movable-stays (home.Shared p place) (Some u) h = absurd h

  pub pools-stay : ArePools s → IfLive s i (λ a. IsMovable s a.home a.target) → ArePools t
  pools-stay always movable =
      subst ArePools (sym is.state)
      (place-reserved s always i is.allocation is.live is.pool is.from is.lies
      (movable-none s is.allocation.home is.allocation.target (live-holds s i (λ a. IsMovable s a.home a.target) movable is.allocation is.live)) is.was is.now is.there target is.takes)

  other-movable : (j : ℕ) → (j ≡ i → ⊥) → IfLive s j (λ a. IsMovable s a.home a.target) → IfLive t j (λ a. IsMovable t a.home a.target)
  other-movable j other h =
      let l = live-is s j (λ a. IsMovable s a.home a.target) h in
      live-and t j l.0 (λ a. IsMovable t a.home a.target) (others-stay s t i target is j other ∙ l.1) (movable-stays l.0.home l.0.target l.2)

-- the target of a move was reserved last
pub record IsLast (u t : PoolsState) (m : Moved) : Type 0 where
  pub always : ArePools u
  pub target : PoolPlace
  pub is : IsReserved u t m.id target
  pub movable : IfLive u m.id (λ a. IsMovable u a.home a.target)

rest-reserved : (s t : PoolsState) (m : Moved) (ms : List Moved) (h : HasReserved s t (m ∷ ms)) → HasReserved h.reserved.0 t ms
rest-reserved s t m ms h =
    let mid = h.reserved.0 in let target = h.reserved.1 in let is = h.reserved.3 in
    record {
      always = pools-stay s mid m.id target is h.always (h.movable m (contains-head m ms));
      reserved = h.reserved.4;
      once = h.once.1;
      movable = λ n at. other-movable s mid m.id target is n.id (λ e. h.once.0 n at (sym e)) (h.movable n (contains-tail m ms n at));
    }

split : (ms : List Moved) (m : Moved) (s t : PoolsState) → HasReserved s t (ms ++ m ∷ []) → (u : PoolsState) × Reserves s ms u × IsLast u t m
split [] m s t h = (
  s,
  refl,
  record {
    always = h.always;
    target = h.reserved.1;
    is = subst (λ (x : PoolsState). IsReserved s x m.id h.reserved.1) (sym h.reserved.4) h.reserved.3;
    movable = h.movable m (contains-head m []);
  },
)
split (n ∷ ms) m s t h =
    let r = split ms m h.reserved.0 t (rest-reserved s t n (ms ++ m ∷ []) h) in
    (r.0, (h.reserved.0, h.reserved.1, h.reserved.2, h.reserved.3, r.1), r.2)

pub reserved-last : (ms : List Moved) (m : Moved) (s t : PoolsState) → HasReserved s t (ms ++ m ∷ []) → (u : PoolsState) × HasReserved s u ms × IsLast u t m
reserved-last ms m s t h =
    let r = split ms m s t h in
    (r.0, record { always = h.always; reserved = r.1; once = once-first ms (m ∷ []) h.once; movable = λ n at. h.movable n (Contains-append_left ms (m ∷ []) n at) }, r.2)
