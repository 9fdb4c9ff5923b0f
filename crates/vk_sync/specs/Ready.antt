-- The pieces of commands that may run next.
use Rattle.std.specs.Prelude.{ℕ, ◌≡◌, ◌≢◌, ◌<◌, ◌≤◌, List, [], map, take, filter, count_by, Bool, not, ◌||◌, ◌==◌, nat_lt, if◌then◌else◌, slice_index, slice_get, slice_set, length, Option, Some, None}
use Rattle.std.specs.List.{flat_map, list_all, enumerate_from}
use Rattle.vk_sync.specs.declared.board.Command.{Command}
use Rattle.vk_sync.specs.declared.ready.Piece.{Piece}

-- How many of the commands has_commands on a queue.
abbrev pub count_on : ℕ → List Command → ℕ
count_on queue cs = count_by (λ c. c.queue == queue) cs

-- Whether command number j, which is c, is one of the first so many of its queue, where there is a number for each queue (Vulkan, "Implicit Synchronization Guarantees", on submission order; a number for each queue: profile).
abbrev pub is_among : List ℕ → List Command → ℕ → Command → Bool
is_among before cs j c = nat_lt (count_on c.queue (take j cs)) (slice_index before c.queue)

-- Whether all pieces of the first so many commands of each queue have run (Vulkan, "Execution and Memory Dependencies", on execution dependencies).
abbrev pub is_met : List ℕ → List Command → Bool
is_met before cs = list_all (λ x. not (is_among before cs x.0 x.1) || length x.1.left == 0) (enumerate_from 0 cs)

-- The pieces of a command that may run, by its number: those left, where all commands that it waits for have none left (Vulkan, "Execution and Memory Dependencies"; pieces: profile).
abbrev pub pieces_of : List Command → ℕ × Command → List Piece
pieces_of cs x = if is_met x.1.before cs then map (λ k. record { command = x.0; index = k }) x.1.left else []

-- The pieces that may run next, in reference order (Vulkan, "Execution and Memory Dependencies" and "Implicit Synchronization Guarantees").
abbrev pub ready : List Command → List Piece
ready cs = flat_map (pieces_of cs) (enumerate_from 0 cs)

-- A command when one of its pieces has run. (profile)
abbrev pub without : ℕ → Command → Command
without index c = record c { left = filter (λ k. not (k == index)) c.left }

-- The commands when a piece of one of them has run; all as they were where there is no such command. (profile)
abbrev pub with_change : Piece → List Command → Option Command → List Command
with_change piece cs None = cs
with_change piece cs (Some c) = slice_set cs piece.command (without piece.index c)

-- The commands when a piece has run. (profile)
abbrev pub after_piece : Piece → List Command → List Command
after_piece piece cs = with_change piece cs (slice_get cs piece.command)

-- A command may come next: it is on one of four queues, waits only for commands that are there, and for all that an earlier command of its queue waits for (Vulkan, "Implicit Synchronization Guarantees", on submission order; four: profile).
pub record MayCome (cs : List Command) (queue : ℕ) (before : List ℕ) : Type 0 where
  pub on_queue : queue < 4
  pub known : (q : ℕ) → q < 4 → slice_index before q ≤ count_on q cs
  pub rising : (j : ℕ) (c : Command) → slice_get cs j ≡ Some c → c.queue ≡ queue → (q : ℕ) → q < 4 → slice_index c.before q ≤ slice_index before q

-- Of each queue the first so many commands have no piece left, and the next one has one, if there is a next one (Vulkan, "Implicit Synchronization Guarantees", on submission order; a number for each queue: profile).
pub record AreFinished (cs : List Command) (fronts : List ℕ) : Type 0 where
  pub there : (q : ℕ) → q < 4 → slice_index fronts q ≤ count_on q cs
  pub first : (j : ℕ) (c : Command) → slice_get cs j ≡ Some c → count_on c.queue (take j cs) < slice_index fronts c.queue → c.left ≡ []
  pub next : (j : ℕ) (c : Command) → slice_get cs j ≡ Some c → count_on c.queue (take j cs) ≡ slice_index fronts c.queue → c.left ≢ []
