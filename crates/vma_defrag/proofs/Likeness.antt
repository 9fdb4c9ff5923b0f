-- The moves of a pass are the same over blocks of which the same is taken, in whatever order it is listed.
use Rattle.std.proofs.Common.{◌≡◌, ℕ, suc, ◌+◌, List, [], ◌∷◌, Bool, true, false, ◌==◌, nat_lt, refl, sym, ap, subst, ◌∙◌, inl, inr, ◌⊎◌}
use Rattle.std.specs.Prelude.{Option, Some, None, option_map, IsPermutation, if◌then◌else◌}
use Rattle.std.specs.List.{AllZip, find}
use Rattle.std.specs.Option.{option_or}
use Rattle.std.proofs.lemmas.List.Sorted.{IsPermutation-cons}
use Rattle.vk_model.specs.Basics.{below}
use Rattle.vk_model.specs.Memory.Suballocation.{Taken, Request, taken_at}
use Rattle.vk_model.specs.Memory.Room.{fits, lowest}
use Rattle.vk_model.specs.Memory.MoveTargets.{BlockStart, Moved, Numbered, Resident, move_target, moves_from, over_limit, place_in, reserved}
use Rattle.vk_model.specs.Memory.Pools.{PoolBlock, numbered_blocks}
use Rattle.vma_blocks.proofs.AlikeLemmas.{alike-bytes, alike-taken, fits_alike}
use Rattle.vma_pools.specs.Alike.{AreAlike}

-- ---- blocks by their ranges

-- two blocks of one number and size have the same ranges
abbrev pub HaveSame : Numbered → Numbered → Type 0
HaveSame b c = (c.number ≡ b.number) × (c.size ≡ b.size) × IsPermutation b.taken c.taken

abbrev pub AllHaveSame : List Numbered → List Numbered → Type 0
AllHaveSame bs cs = AllZip HaveSame bs cs

pub blocks-same : (bs cs : List PoolBlock) → AreAlike bs cs → AllHaveSame (numbered_blocks bs) (numbered_blocks cs)
blocks-same [] [] h = tt
blocks-same (b ∷ bs) (c ∷ cs) h = ((h.0.0, alike-bytes b.block c.block h.0.1, alike-taken b.block c.block h.0.1), blocks-same bs cs h.1)
blocks-same [] (c ∷ cs) h = absurd h
blocks-same (b ∷ bs) [] h = absurd h

-- ---- move targets

find-same : (f g : ℕ → Bool) → ((n : ℕ) → g n ≡ f n) → (xs : List ℕ) → find g xs ≡ find f xs
find-same f g same [] = refl
find-same f g same (x ∷ xs) =
    ap (λ (v : Bool). if v then Some x else find g xs) (same x) ∙ ap (λ (o : Option ℕ). if f x then Some x else o) (find-same f g same xs)

lowest-same : (taken more : List Taken) → IsPermutation taken more → (r : Request) (low high : ℕ) → lowest more r low high ≡ lowest taken r low high
lowest-same taken more same r low high = find-same (fits taken r low high) (fits more r low high) (fits_alike taken more same r low high) (below (suc high))

place-same : (a : Resident) (b c : Numbered) → HaveSame b c → place_in a c ≡ place_in a b
place-same a b c h =
    ap (λ (n : ℕ). place_in a (record { number = n; size = c.size; taken = c.taken })) h.0
    ∙ ap (λ (n : ℕ). place_in a (record { number = b.number; size = n; taken = c.taken })) h.1
    ∙ ap (λ (o : Option ℕ). chosen o (lowest c.taken a.request 0 a.from.start)) (lowest-same b.taken c.taken h.2 a.request 0 b.size)
    ∙ ap (λ (o : Option ℕ). chosen (lowest b.taken a.request 0 b.size) o) (lowest-same b.taken c.taken h.2 a.request 0 a.from.start)
  where
    chosen : Option ℕ → Option ℕ → Option BlockStart
    chosen o own = option_map (λ s. record { block = b.number; start = s }) (if nat_lt b.number a.from.block then o else if b.number == a.from.block then own else None)

pub target-same : (a : Resident) (bs cs : List Numbered) → AllHaveSame bs cs → move_target cs a ≡ move_target bs a
target-same a [] [] h = refl
target-same a (b ∷ bs) (c ∷ cs) h =
    ap (λ (o : Option BlockStart). option_or o (move_target cs a)) (place-same a b c h.0) ∙ ap (λ (o : Option BlockStart). option_or (place_in a b) o) (target-same a bs cs h.1)
target-same a [] (c ∷ cs) h = absurd h
target-same a (b ∷ bs) [] h = absurd h

-- ---- where a place is reserved

reserved-same : (s : BlockStart) (r : Request) (bs cs : List Numbered) → AllHaveSame bs cs → AllHaveSame (reserved s r bs) (reserved s r cs)
reserved-same s r [] [] h = tt
reserved-same s r (b ∷ bs) (c ∷ cs) h = (
  subst (λ (n : ℕ). HaveSame (if b.number == s.block then record b { taken = taken_at s.start r ∷ b.taken } else b) (if n == s.block then record c { taken = taken_at s.start r ∷ c.taken } else c)) (sym h.0.0)
      (one (b.number == s.block)),
  reserved-same s r bs cs h.1,
)
  where
    one : (v : Bool) → HaveSame (if v then record b { taken = taken_at s.start r ∷ b.taken } else b) (if v then record c { taken = taken_at s.start r ∷ c.taken } else c)
    one true = (h.0.0, h.0.1, IsPermutation-cons (taken_at s.start r) b.taken c.taken h.0.2)
    one false = h.0
reserved-same s r [] (c ∷ cs) h = absurd h
reserved-same s r (b ∷ bs) [] h = absurd h

-- ---- the moves

module _ (max_bytes max_moves : ℕ) where
  -- what a resource adds, by its target
  abbrev by_limit : ℕ → ℕ → List Numbered → Resident → List Resident → BlockStart → Bool → List Moved
  by_limit bytes count blocks a rest s over = elim over [
    | true ↦ []
    | false ↦ record { id = a.id; to = s; bytes = a.request.size } ∷ moves_from max_bytes max_moves (bytes + a.request.size) (count + 1) (reserved s a.request blocks) rest
  ]

  abbrev by_target : ℕ → ℕ → List Numbered → Resident → List Resident → Option BlockStart → List Moved
  by_target bytes count blocks a rest o = elim o [
    | None ↦ moves_from max_bytes max_moves bytes count blocks rest
    | Some s ↦ by_limit bytes count blocks a rest s (over_limit max_bytes max_moves bytes count a.request.size)
  ]

  abbrev Same : List Resident → Type 0
  Same rest = (bytes count : ℕ) (bs cs : List Numbered) → AllHaveSame bs cs → moves_from max_bytes max_moves bytes count cs rest ≡ moves_from max_bytes max_moves bytes count bs rest

  more-same : (a : Resident) (rest : List Resident) → Same rest → Same (a ∷ rest)
  more-same a rest again bytes count bs cs h = ap (λ (o : Option BlockStart). by_target bytes count cs a rest o) (target-same a bs cs h) ∙ by (move_target bs a)
    where
      limited : (s : BlockStart) (v : Bool) → by_limit bytes count cs a rest s v ≡ by_limit bytes count bs a rest s v
      limited s true = refl
      limited s false =
          ap (λ (ms : List Moved). record { id = a.id; to = s; bytes = a.request.size } ∷ ms)
          (again (bytes + a.request.size) (count + 1) (reserved s a.request bs) (reserved s a.request cs) (reserved-same s a.request bs cs h))

      by : (o : Option BlockStart) → by_target bytes count cs a rest o ≡ by_target bytes count bs a rest o
      by None = again bytes count bs cs h
      by (Some s) = limited s (over_limit max_bytes max_moves bytes count a.request.size)

  pub moves-same : (rest : List Resident) → Same rest
  moves-same [] bytes count bs cs h = refl
  moves-same (a ∷ rest) bytes count bs cs h = more-same a rest (moves-same rest) bytes count bs cs h

  -- ---- one resource after another

  module _ (bytes count : ℕ) (blocks : List Numbered) (a : Resident) (rest : List Resident) where
    -- it has no move target
    pub passed-over : move_target blocks a ≡ None → moves_from max_bytes max_moves bytes count blocks (a ∷ rest) ≡ moves_from max_bytes max_moves bytes count blocks rest
    passed-over none = ap (λ (o : Option BlockStart). by_target bytes count blocks a rest o) none

    module _ (s : BlockStart) (target : move_target blocks a ≡ Some s) where
      -- it would pass a limit
      pub list-ends : over_limit max_bytes max_moves bytes count a.request.size ≡ true → moves_from max_bytes max_moves bytes count blocks (a ∷ rest) ≡ []
      list-ends over = ap (λ (o : Option BlockStart). by_target bytes count blocks a rest o) target ∙ ap (λ (v : Bool). by_limit bytes count blocks a rest s v) over

      -- it moves
      pub one-moves : over_limit max_bytes max_moves bytes count a.request.size ≡ false
          → moves_from max_bytes max_moves bytes count blocks (a ∷ rest)
          ≡ record { id = a.id; to = s; bytes = a.request.size } ∷ moves_from max_bytes max_moves (bytes + a.request.size) (count + 1) (reserved s a.request blocks) rest
      one-moves within = ap (λ (o : Option BlockStart). by_target bytes count blocks a rest o) target ∙ ap (λ (v : Bool). by_limit bytes count blocks a rest s v) within

-- without a limit on bytes they needn't be counted
abbrev AnyBytes : ℕ → List Resident → Type 0
AnyBytes max_moves rest = (bytes other count : ℕ) (blocks : List Numbered) → moves_from 0 max_moves bytes count blocks rest ≡ moves_from 0 max_moves other count blocks rest

more-uncounted : (max_moves : ℕ) (a : Resident) (rest : List Resident) → AnyBytes max_moves rest → AnyBytes max_moves (a ∷ rest)
more-uncounted max_moves a rest again bytes other count blocks = by (move_target blocks a)
  where
    limited : (s : BlockStart) (v : Bool) → by_limit 0 max_moves bytes count blocks a rest s v ≡ by_limit 0 max_moves other count blocks a rest s v
    limited s true = refl
    limited s false =
        ap (λ (ms : List Moved). record { id = a.id; to = s; bytes = a.request.size } ∷ ms) (again (bytes + a.request.size) (other + a.request.size) (count + 1) (reserved s a.request blocks))

    by : (o : Option BlockStart) → by_target 0 max_moves bytes count blocks a rest o ≡ by_target 0 max_moves other count blocks a rest o
    by None = again bytes other count blocks
    by (Some s) = limited s (over_limit 0 max_moves bytes count a.request.size)

uncounted : (max_moves : ℕ) (rest : List Resident) → AnyBytes max_moves rest
uncounted max_moves [] bytes other count blocks = refl
uncounted max_moves (a ∷ rest) bytes other count blocks = more-uncounted max_moves a rest (uncounted max_moves rest) bytes other count blocks

pub bytes-differ : (max_bytes max_moves : ℕ) (rest : List Resident) (bytes other count : ℕ) (blocks : List Numbered) → (bytes ≡ other) ⊎ (max_bytes ≡ 0)
    → moves_from max_bytes max_moves bytes count blocks rest ≡ moves_from max_bytes max_moves other count blocks rest
bytes-differ max_bytes max_moves rest bytes other count blocks (inl same) = ap (λ (n : ℕ). moves_from max_bytes max_moves n count blocks rest) same
bytes-differ max_bytes max_moves rest bytes other count blocks (inr none) =
    subst (λ (m : ℕ). moves_from m max_moves bytes count blocks rest ≡ moves_from m max_moves other count blocks rest) (sym none) (uncounted max_moves rest bytes other count blocks)
