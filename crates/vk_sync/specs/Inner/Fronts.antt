-- How far each queue has come: its commands that are finished, and those that wait for nothing more.
use Rattle.std.specs.Prelude.{ℕ, ◌≡◌, ◌≢◌, ◌<◌, ◌≤◌, ◌^◌, List, [], ◌==◌, take, nat_lt, if◌then◌else◌, slice_index, slice_index_or, slice_get, length, Some}
use Rattle.std.specs.List.{sum_by}
use Rattle.vk_sync.specs.declared.board.Command.{Command}
use Rattle.vk_sync.specs.Inner.Places.{places}
use Rattle.vk_sync.specs.Ready.{count_on}

-- No number for a queue is more than its like. (profile)
abbrev pub IsWithin : List ℕ → List ℕ → Type 0
IsWithin before done = (q : ℕ) → q < 4 → slice_index before q ≤ slice_index done q

-- Command number j is c, and is on a queue, after so many others of the queue. (profile)
pub record HasCommand (cs : List Command) (q r j : ℕ) (c : Command) : Type 0 where
  pub is : slice_get cs j ≡ Some c
  pub on : c.queue ≡ q
  pub rank : count_on q (take j cs) ≡ r

-- What callers owe of the commands. (profile)
pub record IsSound (cs : List Command) : Type 0 where
  pub queues : (j : ℕ) (c : Command) → slice_get cs j ≡ Some c → c.queue < 4
  pub known : (j : ℕ) (c : Command) → slice_get cs j ≡ Some c → (q : ℕ) → q < 4 → slice_index c.before q ≤ count_on q cs
  pub rising : (i j : ℕ) (c d : Command) → slice_get cs i ≡ Some c → slice_get cs j ≡ Some d → i ≤ j → c.queue ≡ d.queue → (q : ℕ) → q < 4 → slice_index c.before q ≤ slice_index d.before q

-- Each queue has the numbers of its commands, in order; the commands at its front that count as done have no pieces left; those that count as free wait for nothing more; and each free command has its pieces counted. (profile)
pub record IsLoose (cs : List Command) (lines : List (List ℕ)) (done free counts : List ℕ) : Type 0 where
  pub sound : IsSound cs
  pub small : sum_by (λ c. length c.left) cs < 2 ^ 64
  pub lines_len : length lines ≡ 4
  pub done_len : length done ≡ 4
  pub free_len : length free ≡ 4
  pub counts_len : length counts ≡ length cs
  pub lines_are : (q : ℕ) → q < 4 → slice_index_or lines q [] ≡ places (λ c. c.queue == q) 0 cs
  pub done_within : (q : ℕ) → q < 4 → slice_index done q ≤ count_on q cs
  pub free_within : (q : ℕ) → q < 4 → slice_index free q ≤ count_on q cs
  pub finished : (q r j : ℕ) (c : Command) → HasCommand cs q r j c → r < slice_index done q → c.left ≡ []
  pub freed : (q r j : ℕ) (c : Command) → HasCommand cs q r j c → r < slice_index free q → IsWithin c.before done
  pub counts_are : (q r j : ℕ) (c : Command) → HasCommand cs q r j c → slice_index counts j ≡ (if nat_lt r (slice_index free q) then length c.left else 0)

-- The first command of a queue that doesn't count as done has pieces left. (profile)
abbrev pub IsDone : List Command → List ℕ → ℕ → Type 0
IsDone cs done q = (j : ℕ) (c : Command) → HasCommand cs q (slice_index done q) j c → c.left ≢ []

-- The first command of a queue that doesn't count as free waits for more. (profile)
abbrev pub IsFree : List Command → List ℕ → List ℕ → ℕ → Type 0
IsFree cs done free q = (j : ℕ) (c : Command) → HasCommand cs q (slice_index free q) j c → ¬ (IsWithin c.before done)

-- All queues have come as far as they can. (profile)
pub record AreFronts (cs : List Command) (lines : List (List ℕ)) (done free counts : List ℕ) : Type 0 where
  pub loose : IsLoose cs lines done free counts
  pub done_are : (q : ℕ) → q < 4 → IsDone cs done q
  pub free_are : (q : ℕ) → q < 4 → IsFree cs done free q
