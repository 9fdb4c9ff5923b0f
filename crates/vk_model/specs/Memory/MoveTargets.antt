-- Where a pass of a defragmentation moves the resources of a pool.
use Rattle.std.specs.Prelude.{ℕ, ◌+◌, ◌/◌, List, [], ◌∷◌, Bool, true, false, ◌&&◌, ◌||◌, ◌==◌, nat_lt, if◌then◌else◌, Option, Some, None, option_map, sum_by}
use Rattle.std.specs.Option.{option_or}
use Rattle.vk_model.specs.Memory.Suballocation.{Taken, Request, taken_at}
use Rattle.vk_model.specs.Memory.Room.{lowest}

-- A block of a pool by its number, with its size and the ranges that are taken in it, reserved ones too (VMA, "Defragmentation").
pub record Numbered : Type 0 where
  pub number : ℕ
  pub size : ℕ
  pub taken : List Taken

-- A place in a pool: a block by its number, and a start in it.
pub record BlockStart : Type 0 where
  pub block : ℕ
  pub start : ℕ

-- A resource of a pool, where it is and what it asked.
pub record Resident : Type 0 where
  pub id : ℕ
  pub from : BlockStart
  pub request : Request

-- A resource that goes to another place.
pub record Moved : Type 0 where
  pub id : ℕ
  pub to : BlockStart
  pub bytes : ℕ

-- The lowest place in a block for a resource: anywhere in an earlier block, in its own one ending at or below its start, in a later one none (VMA, "Defragmentation"; which place: profile).
abbrev pub place_in : Resident → Numbered → Option BlockStart
place_in a b = option_map (λ s. record { block = b.number; start = s })
    (if nat_lt b.number a.from.block then lowest b.taken a.request 0 b.size
    else if b.number == a.from.block then lowest b.taken a.request 0 a.from.start
    else None)

-- The move target of a resource, if there is one: in the first earlier block that holds it, else in its own (VMA, "Defragmentation"; which place: profile).
abbrev pub move_target : List Numbered → Resident → Option BlockStart
move_target [] a = None
move_target (b ∷ bs) a = option_or (place_in a b) (move_target bs a)

-- The blocks when the place of a moved resource is taken too; its old range stays taken until the pass ends (VMA, "Defragmentation").
abbrev pub reserved : BlockStart → Request → List Numbered → List Numbered
reserved s r [] = []
reserved s r (b ∷ bs) = (if b.number == s.block then record b { taken = taken_at s.start r ∷ b.taken } else b) ∷ reserved s r bs

-- Whether one more move of some bytes would pass a limit of bytes or moves; 0 means no limit (VMA, "Defragmentation", on `maxBytesPerPass` and `maxAllocationsPerPass`).
abbrev pub over_limit : ℕ → ℕ → ℕ → ℕ → ℕ → Bool
over_limit max_bytes max_moves bytes count size = nat_lt 0 max_bytes && nat_lt max_bytes (bytes + size) || nat_lt 0 max_moves && nat_lt max_moves (count + 1)

-- ---- the moves of a pass with these limits

module _ (max_bytes max_moves : ℕ) where
  -- The moves of resources, one after another, when some bytes and moves have been chosen: one without a move target is passed over, and the first that would pass a limit ends the list (VMA, "Defragmentation"; the order: profile).
  abbrev pub moves_from : ℕ → ℕ → List Numbered → List Resident → List Moved
  moves_from bytes count blocks [] = []
  moves_from bytes count blocks (a ∷ rest) = elim (move_target blocks a) [
    | None ↦ moves_from bytes count blocks rest
    | Some s ↦ elim (over_limit max_bytes max_moves bytes count a.request.size) [
      | true ↦ []
      | false ↦ record { id = a.id; to = s; bytes = a.request.size } ∷ moves_from (bytes + a.request.size) (count + 1) (reserved s a.request blocks) rest
    ]
  ]

  -- The moves of a pass: the blocks in rising order, the resources from the highest place down (VMA, "Defragmentation"; the order: profile).
  abbrev pub pass_moves : List Numbered → List Resident → List Moved
  pass_moves blocks residents = moves_from 0 0 blocks residents

-- ---- parts

-- How many parts the bytes of moves are copied in: those of each move in parts of at most 4,096 bytes (VMA, "Defragmentation"; parts of 4,096 bytes: profile).
abbrev pub parts_of_moves : List Moved → ℕ
parts_of_moves moves = sum_by (λ m. (m.bytes + 4095) / 4096) moves
