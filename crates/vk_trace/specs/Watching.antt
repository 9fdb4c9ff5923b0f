-- What a `Watched` is seen as.
use Rattle.std.specs.Prelude.{ℕ, ◌+◌, ◌^◌, ◌-◌, min, Bool}

-- A reader or a writer, whether one of its calls failed, and how many there were, as far as 64 bits count.
pub record Watching (T : Type 0) : Type 0 where
  pub inner : T
  pub failed : Bool
  pub calls : ℕ

-- So many calls more, as far as 64 bits count.
abbrev pub counted : ℕ → ℕ → ℕ
counted calls more = min (calls + more) (2 ^ 64 - 1)
