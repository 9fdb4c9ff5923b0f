-- What is performed of a trace, and what is promised of it.
use Rattle.std.specs.Prelude.{◌≡◌, ◌||◌, if◌then◌else◌, ℕ, Bool, true, false, List, [], take, Some, None, option_map}
use Rattle.vk_model.specs.Memory.HeapSizes.{HeapSizes}
use Rattle.vk_model.specs.declared.entry.Entry.{Entry}
use Rattle.vk_model.specs.Trace.Order.{order}
use Rattle.vk_trace.specs.declared.printing.Outcome.{Outcome}
use Rattle.vk_trace.specs.declared.printing.Outcome.TheVariants as outcome
use Rattle.vk_trace.specs.Trace.{IsTrace}
use Rattle.vk_run.specs.Run.{IsAnswer}
use Rattle.vk_emit.specs.declared.planning.Plan.{Plan}
use Rattle.vk_emit.specs.declared.running.Emitted.{Emitted}
use Rattle.vk_emit.specs.declared.running.Emitted.TheVariants as emitted
use Rattle.vk_emit.specs.declared.running.Wanted.{Wanted}
use Rattle.vk_emit.specs.Steps.{past_of_steps}
use Rattle.vk_emit.specs.Programs.{program_of}

-- The entries that are performed: those before one that finds no room, and else all; of a trace that breaks a rule all, though nothing is promised of it (profile).
abbrev pub performed : List Entry → Outcome → List Entry
performed t (outcome.Reads reads None) = t
performed t (outcome.Reads reads (Some n)) = take n t
performed t (outcome.Refused at rule) = t

-- A plan of a trace. What is promised is the answer to the trace: the bytes that it means, or its first fault. The steps are the points of the entries that are performed, in reference order, each once (Vulkan, "Queue Submission" and "Semaphore Waiting"; the order among queues: profile).
pub record IsPlan (sizes : HeapSizes) (t : List Entry) (plan : Plan) : Type 0 where
  pub answer : IsAnswer sizes t plan.outcome
  pub steps : past_of_steps plan.steps.items ≡ order (performed t plan.outcome)

-- What was written, by what is promised (profile).
abbrev pub emitted_of : Outcome → Emitted
emitted_of (outcome.Reads reads None) = emitted.Whole
emitted_of (outcome.Reads reads (Some n)) = emitted.Stopped n
emitted_of (outcome.Refused at rule) = emitted.Refused at rule

-- Whether a trace breaks no rule, by the answer to it.
abbrev pub is_accepted : Outcome → Bool
is_accepted (outcome.Reads reads stop) = true
is_accepted (outcome.Refused at rule) = false

-- The text of a plan; of a trace that breaks a rule nothing, but where it is asked for (profile).
abbrev pub text_of : Wanted → Plan → List ℕ
text_of wanted plan = if wanted.refused || is_accepted plan.outcome then program_of (option_map (λ h. h.now) wanted.header) plan else []

-- The input is a trace, and what was written of it is the text of a plan of that trace, by the answer to it.
pub record Emits (sizes : HeapSizes) (input : List ℕ) (wanted : Wanted) (written : Emitted) (text : List ℕ) : Type 0 where
  pub entries : List Entry
  pub trace : IsTrace input entries
  pub plan : Plan
  pub planned : IsPlan sizes entries plan
  pub same : written ≡ emitted_of plan.outcome
  pub is_text : text ≡ text_of wanted plan
