-- A turn of the walk over a pool's allocations, by what the calls of it answered.
use Rattle.std.proofs.Common.{◌≡◌, ℕ, ◌+◌, ◌-◌, ◌<◌, ◌^◌, List, [], ◌∷◌, ◌++◌, length, get_or, min, Bool, true, false, Option, Some, None, refl, sym, ap, subst, ◌∙◌}
use Rattle.std.specs.Prelude.{MatchOption}
use Rattle.std.specs.Option.{is_some}
use Rattle.vk_model.specs.declared.resource.PoolKind.TheVariants as algorithm
use Rattle.vk_model.specs.Memory.MoveTargets.{over_limit}
use Rattle.vma_pools.specs.declared.pool.PoolPlace.{PoolPlace}
use Rattle.vma_pools.specs.Exhausted.{IsExhaustedBefore, IsExhaustedFor}
use Rattle.vma_pools.specs.State.{PoolsState, HasLower, HasNoLower, IfLive, IsMovable, IsReserved, start_of}
use Rattle.vma_pools.proofs.CallLemmas.{kept-and}
use Rattle.vma_defrag.specs.declared.open.Fate.TheVariants.{Made}
use Rattle.vma_defrag.specs.declared.open.Planned.{Planned}
use Rattle.vma_defrag.specs.declared.cursors.Cursor.{Cursor}
use Rattle.vma_defrag.specs.Inner.Choosing.{HasChosen}
use Rattle.vma_defrag.specs.Inner.Cursors.{BeginsAt, IsPlaceOf}
use Rattle.vma_defrag.proofs.Searches.{AreCursors, KeepsOne, begins, own-kept, target-kept}
use Rattle.vma_defrag.proofs.Left.{IsLeft}
use Rattle.vma_defrag.proofs.Step.{its-size, may-move, none-lower, some-lower}
use Rattle.vma_defrag.proofs.Walk.{IsChosenTo, IsNext, bytes-counted, ends, goes-on, is-left, passes, the-next}

-- ---- what was answered

pub some-answer : {A : Type 0} (P : Type 0) (Q : A → Type 0) (o : Option A) → is_some o ≡ true → MatchOption o P Q → (a : A) × Q a
some-answer P Q None is h = absurd cc
some-answer P Q (Some a) is h = (a, h)

pub none-answer : {A : Type 0} (P : Type 0) (Q : A → Type 0) (o : Option A) → is_some o ≡ false → MatchOption o P Q → P
none-answer P Q None is h = h
none-answer P Q (Some a) is h = absurd cc

-- a limit that was asked for so many moves
pub limit-answer : (max_bytes max_moves bytes count moves size : ℕ) (passed v : Bool) → count ≡ moves → passed ≡ over_limit max_bytes max_moves bytes moves size → passed ≡ v → over_limit max_bytes max_moves bytes count size ≡ v
limit-answer max_bytes max_moves bytes count moves size passed v same is test = ap (λ (n : ℕ). over_limit max_bytes max_moves bytes n size) same ∙ sym is ∙ test

module _ (old now : PoolsState) (pool max_bytes max_moves bytes : ℕ) (chosen : List Planned) (numbers : List ℕ) (at : ℕ) (h : IsChosenTo old now pool max_bytes max_moves bytes chosen numbers at) (n : ℕ) (lt : at < length numbers) (is : n ≡ get_or numbers at 0) where
  abbrev x : IsNext old now pool max_bytes max_moves bytes chosen numbers at h n
  x = the-next old now pool max_bytes max_moves bytes chosen numbers at h n lt is

  left : IsLeft now pool x.resident
  left = (is-left old now pool max_bytes max_moves bytes chosen numbers at h n x).0

  pub movable-turn : IfLive now n (λ a. IsMovable now a.home a.target)
  movable-turn =
      subst (λ (i : ℕ). IfLive now i (λ a. IsMovable now a.home a.target)) x.its
      (may-move now pool x.resident left (kept-and now pool h.kept (λ k. k.pool.info.kind ≡ algorithm.Tlsf) h.there h.kind))

  -- it has no move target
  pub passed-turn : HasNoLower now n → IsChosenTo old now pool max_bytes max_moves bytes chosen numbers (at + 1)
  passed-turn none =
      passes old now pool max_bytes max_moves bytes chosen numbers at h n x
      (none-lower now pool x.resident left h.kept h.there (subst (λ (i : ℕ). HasNoLower now i) (sym x.its) none))

  -- what it asked, where it lies, and where searches may begin
  module _ (own : Cursor) (lies : IfLive now n (IsPlaceOf own)) where
    place : IfLive now x.resident.id (IsPlaceOf own)
    place = subst (λ (i : ℕ). IfLive now i (IsPlaceOf own)) (sym x.its) lies

    size-is : own.asked.size ≡ x.resident.request.size
    size-is = its-size now pool x.resident left own place

    limit-is : (v : Bool) → over_limit max_bytes max_moves bytes (length chosen) own.asked.size ≡ v → over_limit max_bytes max_moves bytes (length chosen) x.resident.request.size ≡ v
    limit-is v over = ap (λ (m : ℕ). over_limit max_bytes max_moves bytes (length chosen) m) (sym size-is) ∙ over

    -- it has one, and would pass a limit
    pub ended-turn : over_limit max_bytes max_moves bytes (length chosen) own.asked.size ≡ true → (t : PoolPlace) → HasLower now n t → HasChosen old now pool max_bytes max_moves chosen
    ended-turn over t has =
        ends old now pool max_bytes max_moves bytes chosen numbers at h n x t
        (some-lower now pool x.resident left h.kept h.there t (subst (λ (i : ℕ). HasLower now i t) (sym x.its) has)) (limit-is true over)

    -- its target has been reserved
    pub moved-turn : over_limit max_bytes max_moves bytes (length chosen) own.asked.size ≡ false → max_bytes < 2 ^ 64 → (t : PoolsState) (target : PoolPlace) → IsReserved now t n target → (new : ℕ) → new ≡ min (bytes + own.asked.size) (2 ^ 64 - 1)
        → (items : List Planned) → items ≡ chosen ++ record { allocation = n; to = target; bytes = own.asked.size; fate = Made } ∷ [] → IsChosenTo old t pool max_bytes max_moves new items numbers (at + 1)
    moved-turn within small t target reserved new sum items are =
        let p : Planned = record { allocation = n; to = target; bytes = own.asked.size; fate = Made } in
        let moved : record { id = n; to = start_of target; bytes = own.asked.size } ≡ record { id = x.resident.id; to = start_of target; bytes = x.resident.request.size } =
        ap (λ (i : ℕ). record { id = i; to = start_of target; bytes = own.asked.size }) (sym x.its) ∙ ap (λ (m : ℕ). record { id = x.resident.id; to = start_of target; bytes = m }) size-is in
        let counted = bytes-counted max_bytes max_moves bytes (length chosen) x.resident.request.size new (limit-is false within) small
        (sum ∙ ap (λ (m : ℕ). min (bytes + m) (2 ^ 64 - 1)) size-is) in
        subst (λ (l : List Planned). IsChosenTo old t pool max_bytes max_moves new l numbers (at + 1)) (sym are)
        (goes-on old now pool max_bytes max_moves bytes chosen numbers at h n x t target (subst (λ (i : ℕ). IsReserved now t i target) (sym x.its) reserved) (limit-is false within) new counted p moved refl)

    -- searches may begin at its cursors, and go on from where they ended
    module _ (cursors : List Cursor) (are : AreCursors now pool cursors) where
      pub begins-turn : (low : PoolPlace) → BeginsAt cursors own.asked low → IsExhaustedFor now n low
      begins-turn low at = subst (λ (i : ℕ). IsExhaustedFor now i low) x.its (begins now pool h.kept h.there x.resident left own place cursors are low at)

      pub own-turn : IsExhaustedBefore now n → (new : List Cursor) → KeepsOne cursors new own → AreCursors now pool new
      own-turn before new keeps = own-kept now pool h.kept h.there x.resident left own place cursors are (subst (λ (i : ℕ). IsExhaustedBefore now i) (sym x.its) before) new keeps

      pub target-turn : (t : PoolsState) (target : PoolPlace) → IsReserved now t n target → IsExhaustedFor t n target → (new : List Cursor) → KeepsOne cursors new (record own { low = target }) → AreCursors t pool new
      target-turn t target reserved exhausted new keeps =
          target-kept now pool h.kept h.there x.resident left own place cursors are h.always
          (may-move now pool x.resident left (kept-and now pool h.kept (λ k. k.pool.info.kind ≡ algorithm.Tlsf) h.there h.kind))
          t target (subst (λ (i : ℕ). IsReserved now t i target) (sym x.its) reserved) (subst (λ (i : ℕ). IsExhaustedFor t i target) (sym x.its) exhausted) new keeps

-- the same under other names
pub renamed : (old now then : PoolsState) (pool max_bytes max_moves bytes other : ℕ) (chosen items : List Planned) (numbers : List ℕ) (at : ℕ) → then ≡ now → other ≡ bytes → items ≡ chosen
    → IsChosenTo old now pool max_bytes max_moves bytes chosen numbers at → IsChosenTo old then pool max_bytes max_moves other items numbers at
renamed old now then pool max_bytes max_moves bytes other chosen items numbers at e f i h =
    subst (λ (s : PoolsState). IsChosenTo old s pool max_bytes max_moves other items numbers at) (sym e)
    (subst (λ (n : ℕ). IsChosenTo old now pool max_bytes max_moves n items numbers at) (sym f) (subst (λ (l : List Planned). IsChosenTo old now pool max_bytes max_moves bytes l numbers at) (sym i) h))
