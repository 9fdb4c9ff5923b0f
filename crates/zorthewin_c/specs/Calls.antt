-- What a caller in C gets.
use Rattle.std.specs.Prelude.{◌≡◌, ◌⊎◌, ℕ, List, ◌++◌, length, take, drop, min}
use Rattle.vk_model.specs.Memory.HeapSizes.{HeapSizes}
use Rattle.vk_model.specs.declared.entry.Entry.{Entry}
use Rattle.vk_trace.specs.declared.printing.Outcome.{Outcome}
use Rattle.vk_trace.specs.Trace.{IsTrace}
use Rattle.vk_run.specs.declared.running.Status.{Status}
use Rattle.vk_run.specs.declared.running.Status.TheVariants as status
use Rattle.vk_run.specs.Run.{status_of, Reports}
use Rattle.vk_explain.specs.declared.forms.Wanted.{Wanted}
use Rattle.vk_explain.specs.declared.explaining.Judgment.{Judgment}
use Rattle.vk_explain.specs.declared.explaining.Judgment.TheVariants as judgment
use Rattle.vk_explain.specs.Explained.{Answers}

-- A caller's buffer begins with as much of a text as it has room for, is as it was behind that, and the caller knows how long the text is.
pub record IsHanded (text old new : List ℕ) (len : ℕ) : Type 0 where
  pub whole : len ≡ length text
  pub front : new ≡ take (min (length text) (length old)) text ++ drop (min (length text) (length old)) old

-- The number of how a replay ended.
abbrev pub replay_number : Status → ℕ
replay_number status.Replayed = 0
replay_number status.Refused = 1
replay_number status.Stopped = 3

-- The number of a verdict.
abbrev pub judgment_number : Judgment → ℕ
judgment_number judgment.Accepted = 0
judgment_number judgment.Refused = 1
judgment_number judgment.NoTrace = 2

-- The input is a trace, the text that is handed over reports its answer, and the number says how the replay ended.
pub record IsReplayed (config : HeapSizes) (input old new : List ℕ) (len number : ℕ) : Type 0 where
  pub text : List ℕ
  pub outcome : Outcome
  pub reports : Reports config input text outcome
  pub ends : number ≡ replay_number (status_of outcome)
  pub handed : IsHanded text old new len

-- The text that is handed over is what was asked of the input, and the number is that of its verdict.
pub record IsSaid (wanted : Wanted) (input old new : List ℕ) (len number : ℕ) : Type 0 where
  pub text : List ℕ
  pub verdict : Judgment
  pub answers : Answers wanted input text verdict
  pub ends : number ≡ judgment_number verdict
  pub handed : IsHanded text old new len

-- Nothing is handed over.
pub record IsNothing (old new : List ℕ) (len : ℕ) : Type 0 where
  pub none : len ≡ 0
  pub same : new ≡ old

-- What a replay comes to: an answer; or nothing is handed over, where the bytes are no trace (2) or there is no memory (4).
abbrev pub ReplayComes : HeapSizes → List ℕ → List ℕ → List ℕ → ℕ → ℕ → Type 0
ReplayComes config input old new len number = IsReplayed config input old new len number
    ⊎ IsNothing old new len × ((number ≡ 2) × ((t : List Entry) → IsTrace input t → ⊥) ⊎ (number ≡ 4))

-- What an explanation comes to: what was asked; or nothing is handed over, where there is no memory (4).
abbrev pub ExplanationComes : Wanted → List ℕ → List ℕ → List ℕ → ℕ → ℕ → Type 0
ExplanationComes wanted input old new len number = IsSaid wanted input old new len number ⊎ IsNothing old new len × (number ≡ 4)
