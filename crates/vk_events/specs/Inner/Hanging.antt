-- Numbers that hang on four queues until enough has happened on each.
use Rattle.std.specs.Prelude.{ℕ, ◌≡◌, ◌≢◌, ◌⊎◌, ◌<◌, ◌≤◌, ◌+◌, List, [], Bool, false, not, ◌&&◌, ◌==◌, nat_lt, if◌then◌else◌, slice_index, slice_index_or, length, count_by, IsTrue, Contains}
use Rattle.std.specs.List.{sum_by}
use Rattle.vk_events.specs.Inner.Hooks.{Hung, times}

-- What hangs on a queue. (profile)
abbrev pub pairs_on : List Hung → ℕ → List (ℕ × ℕ)
pairs_on hooks q = (slice_index_or hooks q (record { pairs = []; room = 0 })).pairs

-- The count on a queue that a number waits for. (profile)
abbrev pub count_of : List (List ℕ) → ℕ → ℕ → ℕ
count_of counts i q = slice_index (slice_index_or counts i []) q

-- Numbers below the length of `counts` wait for counts on four queues. On each queue those hang that wait for more than `high`, once; none that waits for no more than `low`; and of the others some. It is kept on how many queues each hangs. Those that hang on none are met, once, but for those that are taken; and there is room for all to be met. (profile)
pub record IsHanging (hooks : List Hung) (lacking : List ℕ) (met : Hung) (counts : List (List ℕ)) (low high : ℕ → ℕ) (taken : ℕ → Bool) : Type 0 where
  pub queues : length hooks ≡ 4
  pub size : length lacking ≡ length counts
  pub keys : (q : ℕ) (x : ℕ × ℕ) → q < 4 → Contains (pairs_on hooks q) x → (x.1 < length counts) × (x.0 ≡ count_of counts x.1 q)
  pub hangs : (q i : ℕ) → q < 4 → i < length counts → high q < count_of counts i q → times i (pairs_on hooks q) ≡ 1
  pub free : (q i : ℕ) → q < 4 → count_of counts i q ≤ low q → times i (pairs_on hooks q) ≡ 0
  pub once : (q i : ℕ) → q < 4 → times i (pairs_on hooks q) ≤ 1
  pub lacks : (i : ℕ) → i < length counts → slice_index lacking i ≡ sum_by (λ h. times i h.pairs) hooks
  pub waits : (i : ℕ) → i < length counts → times i met.pairs ≡ (if slice_index lacking i == 0 && not (taken i) then 1 else 0)
  pub own : (x : ℕ × ℕ) → Contains met.pairs x → (x.0 ≡ x.1) × (x.1 < length counts)
  pub freed : (i : ℕ) → IsTrue (taken i) → (i < length counts) × (slice_index lacking i ≡ 0)
  pub room : count_by (λ k. nat_lt 0 k) lacking ≤ met.room

-- A number is hung on those of the first so many queues that haven't come to its counts, and nothing else changes. (profile)
pub record IsHung (old new : List Hung) (number : ℕ) (counts done : List ℕ) (upto lacking : ℕ) : Type 0 where
  pub queues : length new ≡ length old
  pub others : (q i : ℕ) → q < 4 → i ≢ number → times i (pairs_on new q) ≡ times i (pairs_on old q)
  pub own : (q : ℕ) → q < upto → times number (pairs_on new q) ≡ times number (pairs_on old q) + (if nat_lt (slice_index done q) (slice_index counts q) then 1 else 0)
  pub rest : (q : ℕ) → upto ≤ q → pairs_on new q ≡ pairs_on old q
  pub keys : (q : ℕ) (x : ℕ × ℕ) → q < 4 → Contains (pairs_on new q) x → Contains (pairs_on old q) x ⊎ ((x.1 ≡ number) × (x.0 ≡ slice_index counts q))
  pub sums : (i : ℕ) → sum_by (λ h. times i h.pairs) new ≡ sum_by (λ h. times i h.pairs) old + (if i == number then lacking else 0)
  pub few : lacking ≤ upto

-- Some numbers hang like that, and a queue may come to a count. (profile)
abbrev pub MayCome : List Hung → List ℕ → Hung → ℕ → ℕ → Type 0
MayCome hooks lacking met queue done = (counts : List (List ℕ)) × (low : ℕ → ℕ) × (high : ℕ → ℕ) × (taken : ℕ → Bool) × (done ≡ high queue) × IsHanging hooks lacking met counts low high taken

-- Number i is the least that hangs on no queue and isn't taken. (profile)
pub record IsNext (lacking : List ℕ) (counts : List (List ℕ)) (taken : ℕ → Bool) (i : ℕ) : Type 0 where
  pub there : i < length counts
  pub met : slice_index lacking i ≡ 0
  pub new : taken i ≡ false
  pub first : (j : ℕ) → j < i → slice_index lacking j ≡ 0 → IsTrue (taken j)
