-- Which call of a captured program a point of a trace stands for, by the file that is written beside the trace (profile).
use Rattle.std.specs.Prelude.{ℕ, List, codes, Option, Some, None, option_and_then, option_map}
use Rattle.serde_json.specs.Data.{Data}
use Rattle.serde_json.specs.Find.{get, at, as_number, as_u64, as_str}
use Rattle.serde_json.specs.View.{view}
use Rattle.vk_model.specs.declared.rule.At.{At}
use Rattle.vk_model.specs.declared.rule.At.TheVariants.{Entry, Command, Wait, Signal}
use Rattle.vk_calls.specs.declared.calls.Call.{Call}
use Rattle.vk_calls.specs.declared.calls.Calls.{Calls}

-- A call: its number in the capture, its name, and what the point stands for beyond the call, where that is said (profile).
pub record SaidCall : Type 0 where
  pub number : ℕ
  pub name : List ℕ
  pub why : Option (List ℕ)

-- What a call is, in these words.
abbrev pub said : Call → SaidCall
said c = record { number = c.number; name = c.name.now; why = option_map (λ s. s.now) c.why }

-- What the file says.
abbrev pub data_of : Calls → Data
data_of c = view c.value

-- A number, where a value is one.
abbrev pub number_in : Data → Option ℕ
number_in d = option_and_then as_u64 (as_number d)

-- A call has a number and a name (profile).
abbrev pub call_from : Option ℕ → Option (List ℕ) → Option (List ℕ) → Option SaidCall
call_from (Some number) (Some name) why = Some (record { number = number; name = name; why = why })
call_from (Some number) None why = None
call_from None name why = None

-- The object of an entry: a member of the array `entries` (profile).
abbrev pub entry_in : ℕ → Data → Option Data
entry_in e d = option_and_then (at e) (get (codes "entries") d)

-- Its call: the members `call`, `name` and `why` (profile).
abbrev pub call_of_entry : Data → Option SaidCall
call_of_entry d = call_from (option_and_then number_in (get (codes "call") d)) (option_and_then as_str (get (codes "name") d)) (option_and_then as_str (get (codes "why") d))

-- The number and the name of a command, in the array of its batch, in the member `batches` of its submit (profile).
abbrev pub pair_in : ℕ → ℕ → Data → Option Data
pair_in b c d = option_and_then (at c) (option_and_then (at b) (get (codes "batches") d))

-- The call that such a pair is (profile).
abbrev pub call_of_pair : Data → Option SaidCall
call_of_pair d = call_from (option_and_then number_in (at 0 d)) (option_and_then as_str (at 1 d)) None

-- The call that a point stands for. Waits and signals are those of the submit's call (profile).
abbrev pub call_in : Data → At → Option SaidCall
call_in d (Entry e) = option_and_then call_of_entry (entry_in e d)
call_in d (Command e b c) = option_and_then call_of_pair (option_and_then (pair_in b c) (entry_in e d))
call_in d (Wait e b k) = option_and_then call_of_entry (entry_in e d)
call_in d (Signal e b k) = option_and_then call_of_entry (entry_in e d)
