-- Allocations of a pool that end one after another.
use Rattle.std.proofs.Common.{◌≡◌, ℕ, suc, ◌+◌, ◌<◌, List, [], ◌∷◌, ◌++◌, length, take, drop, get_or, Option, Some, None, refl, sym, ap, subst, ◌∙◌, arith, inl, inr}
use Rattle.std.specs.Prelude.{Any, Contains, IsSomeAnd}
use Rattle.std.proofs.lemmas.Bool.{cases_eq}
use Rattle.std.proofs.lemmas.List.{append-nil, append_assoc, take_more, drop_more}
use Rattle.vk_memory.specs.MemoryState.{MemoryState}
use Rattle.vk_model.specs.Memory.MoveTargets.{Moved}
use Rattle.vma_pools.specs.declared.pool.PoolPlace.{PoolPlace}
use Rattle.vma_pools.specs.declared.allocations.Allocation.{Allocation}
use Rattle.vma_pools.specs.declared.allocations.Home.{Home}
use Rattle.vma_pools.specs.declared.allocations.Home.TheVariants as home
use Rattle.vma_pools.specs.State.{PoolsState, allocation_at, shared_place, reserved_place, Backs, IfLive, IsEnded, IsGivenBack, released}
use Rattle.vma_pools.proofs.NumberLemmas.{at-below, at-set, at-other}
use Rattle.vma_pools.proofs.StateLemmas.{some-is}
use Rattle.vk_model.proofs.Lists.Members.{contains-head, contains-tail}
use Rattle.vma_defrag.specs.Plans.{AreMatched, ArePlanned}
use Rattle.vma_defrag.specs.Ends.{listed, AllEnd, AreOfPool, freed}
use Rattle.vma_defrag.specs.Inner.Ending.{AreEnded}
use Rattle.vma_defrag.proofs.Settles.{changed_matched, kept_matched}
use Rattle.vma_defrag.proofs.Chains.{freed_more, freed_one}

-- an allocation of a pool
abbrev pub IsIn : ℕ → Allocation → Type 0
IsIn pool a = (place : PoolPlace) × (shared_place a.home ≡ Some (pool, place))

pub lives : (s : PoolsState) (pool i : ℕ) → IfLive s i (IsIn pool) → (a : Allocation) × (allocation_at s i ≡ Some a) × IsIn pool a
lives s pool i h = go (allocation_at s i) refl h
  where
    go : (o : Option Allocation) → allocation_at s i ≡ o → IsSomeAnd o (IsIn pool) → (a : Allocation) × (allocation_at s i ≡ Some a) × IsIn pool a
    go None e h = absurd h
    go (Some a) e h = (a, e, h)

home_is : (l : Home) (pool : ℕ) (place : PoolPlace) → shared_place l ≡ Some (pool, place) → l ≡ home.Shared pool place
home_is (home.Own n) pool place e = absurd cc
home_is (home.Shared p q) pool place e = ap (λ (x : ℕ × PoolPlace). home.Shared x.0 x.1) (some-is (p, q) (pool, place) e)

no_any : (i : ℕ) → Any {X = Moved} (λ m. m.id ≡ i) [] → ⊥
no_any i any = absurd (omega (arith, any.2))

-- where no place is reserved in its pool, none is for it
pub unreserved : (s : PoolsState) (pool i : ℕ) (a : Allocation) → allocation_at s i ≡ Some a → IsIn pool a → ArePlanned s pool [] → a.target ≡ None
unreserved s pool i a live at plan = go a.target refl
  where
    go : (t : Option PoolPlace) → a.target ≡ t → a.target ≡ None
    go None e = e
    go (Some u) e = absurd (no_any i (plan.only i u a.asked (record {
      allocation = a;
      live = live;
      there = ap (λ (l : Home). reserved_place l a.target) (home_is a.home pool at.0 at.1) ∙ ap (λ (t : Option PoolPlace). reserved_place (home.Shared pool at.0) t) e;
      asks = refl;
    })))

module _ (s t : PoolsState) (pool i : ℕ) (a : Allocation) (live : allocation_at s i ≡ Some a) (at : IsIn pool a) (gone : Option ℕ) (ends : IsEnded s t i a.home gone) where
  pub given_back : IsGivenBack s t i pool at.0 gone
  given_back = subst (λ (l : Home). IsEnded s t i l gone) (home_is a.home pool at.0 at.1) ends

  pub none_after : allocation_at t i ≡ None
  none_after = ap (λ (x : PoolsState). allocation_at x i) given_back.state ∙ at-set s.allocations i None (at-below s.allocations i a live)

  pub others_after : (j : ℕ) → (j ≡ i → ⊥) → allocation_at t j ≡ allocation_at s j
  others_after j other = ap (λ (x : PoolsState). allocation_at x j) given_back.state ∙ at-other s.allocations i j None other

  pub ended_matched : AreMatched s → AreMatched t
  ended_matched h = changed_matched s t pool given_back.was given_back.now h given_back.there (ap (λ (x : PoolsState). x.pools) given_back.state) (λ long. kept_matched gone at.0.block given_back.was given_back.now long given_back.blocks)

  pub ended_planned : (q : ℕ) → ArePlanned s q [] → ArePlanned t q []
  ended_planned q plan = record {
    each = λ k d lt. absurd (omega (arith, lt));
    once = tt;
    only = λ j place asked held. elim (cases_eq j i) [
      | inl e ↦ absurd (clash (sym none_after ∙ ap (λ (k : ℕ). allocation_at t k) (sym e) ∙ held.live))
      | inr other ↦ absurd (no_any j (plan.only j place asked (record { allocation = held.allocation; live = sym (others_after j other) ∙ held.live; there = held.there; asks = held.asks })))
    ];
  }
    where
      clash : {A : Type 0} {x : A} → None ≡ Some x → ⊥
      clash e = absurd cc

  pub others_listed : (q : ℕ) (is : List ℕ) → AreOfPool s q (i ∷ is) → AreOfPool t q is
  others_listed q is h = record {
    each = λ j there. subst (λ (o : Option Allocation). IsSomeAnd o (IsIn q)) (sym (others_after j (λ e. differ j there (sym e)))) (h.each j (contains-tail i is j there));
    once = λ k l d less lt. h.once (suc k) (suc l) d (omega (arith, less)) (omega (arith, lt));
  }
    where
      differ : (j : ℕ) → Contains is j → i ≡ j → ⊥
      differ j there e = h.once 0 (suc there.0) j (omega arith) (omega (arith, there.1)) (e ∙ sym there.2)

-- ---- one after another

all_end_more : (is : List ℕ) (s t u : PoolsState) (i : ℕ) (gone : List ℕ) (one : Option ℕ) → AllEnd s is t gone → IfLive t i (λ a. IsEnded t u i a.home one) → AllEnd s (is ++ i ∷ []) u (gone ++ listed one)
all_end_more [] s t u i gone one h ends =
    (u, one, [], subst (λ (x : PoolsState). IfLive x i (λ a. IsEnded x u i a.home one)) h.0 ends, (refl, refl), ap (λ (l : List ℕ). l ++ listed one) h.1 ∙ sym (append-nil (listed one)))
all_end_more (j ∷ js) s t u i gone one h ends =
    let rest = all_end_more js h.0 t u i h.2 one h.4 ends in
    (h.0, h.1, h.2 ++ listed one, h.3, rest, ap (λ (l : List ℕ). l ++ listed one) h.5 ∙ append_assoc (listed h.1) h.2 (listed one))

pub none_ended : (s : PoolsState) (m : MemoryState) (numbers : List ℕ) → Backs s m → AreMatched s → AreEnded s m numbers 0 s m
none_ended s m numbers backs matched = record {
  ended = ([], (refl, refl), refl);
  others = λ pool h. h;
  planned = λ pool h. h;
  backs = backs;
  matched = matched;
}

module _ (s : PoolsState) (m : MemoryState) (numbers : List ℕ) (k : ℕ) (t : PoolsState) (n : MemoryState) (h : AreEnded s m numbers k t n) (lt : k < length numbers) (pool : ℕ) (in_pool : AreOfPool s pool numbers) (plan : ArePlanned s pool []) where
  abbrev i : ℕ
  i = get_or numbers k 0

  rest : drop k numbers ≡ i ∷ drop (k + 1) numbers
  rest = drop_more numbers k 0 lt

  left : AreOfPool t pool (i ∷ drop (k + 1) numbers)
  left = subst (λ (l : List ℕ). AreOfPool t pool l) rest (h.others pool in_pool)

  abbrev next : (a : Allocation) × (allocation_at t i ≡ Some a) × IsIn pool a
  next = lives t pool i (left.each i (contains-head i (drop (k + 1) numbers)))

  pub next_unreserved : IfLive t i (λ a. a.target ≡ None)
  next_unreserved = subst (λ (o : Option Allocation). IsSomeAnd o (λ a. a.target ≡ None)) (sym next.1) (unreserved t pool i next.0 next.1 next.2 (h.planned pool plan))

  module _ (u : PoolsState) (gone : Option ℕ) (ends : IfLive t i (λ a. IsEnded t u i a.home gone)) (backs : Backs u (released n gone)) where
    here : IsEnded t u i next.0.home gone
    here = subst (λ (o : Option Allocation). IsSomeAnd o (λ a. IsEnded t u i a.home gone)) next.1 ends

    pub more_ended : AreEnded s m numbers (k + 1) u (released n gone)
    more_ended = record {
      ended = (
        h.ended.0 ++ listed gone,
        subst (λ (l : List ℕ). AllEnd s l u (h.ended.0 ++ listed gone)) (sym (take_more numbers k 0 lt)) (all_end_more (take k numbers) s t u i h.ended.0 gone h.ended.1 ends),
        freed_one n gone ∙ ap (λ (x : MemoryState). freed x (listed gone)) h.ended.2 ∙ sym (freed_more m h.ended.0 (listed gone)),
      );
      others = λ q of. others_listed t u pool i next.0 next.1 next.2 gone here q (drop (k + 1) numbers) (subst (λ (l : List ℕ). AreOfPool t q l) rest (h.others q of));
      planned = λ q none. ended_planned t u pool i next.0 next.1 next.2 gone here q (h.planned q none);
      backs = backs;
      matched = ended_matched t u pool i next.0 next.1 next.2 gone here h.matched;
    }
