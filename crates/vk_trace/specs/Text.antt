-- The text of an answer. The format is our own (profile).
use Rattle.std.specs.Prelude.{ℕ, List, [], ◌++◌, codes, decimal, Option, Some, None}
use Rattle.std.specs.List.{flat_map}
use Rattle.hex.specs.Hex.{encode_lower}
use Rattle.vk_model.specs.Rules.Names.{rule_name}
use Rattle.vk_words.specs.Points.{at_text}
use Rattle.vk_trace.specs.declared.printing.Outcome.{Outcome}
use Rattle.vk_trace.specs.declared.printing.Outcome.TheVariants.{Reads, Refused}

-- The number of the entry that read, and the bytes in lower hex (profile).
abbrev pub read_line : ℕ × List ℕ → List ℕ
read_line r = decimal r.0 ++ codes " " ++ encode_lower r.1 ++ codes "\n"

-- The entry that found no room, if one did (profile).
abbrev pub stop_line : Option ℕ → List ℕ
stop_line None = []
stop_line (Some e) = codes "stopped " ++ decimal e ++ codes " NO_ROOM\n"

-- A line for each read, in order, and the stop; or the first point that breaks a rule, with the rule (profile).
abbrev pub lines_of : Outcome → List ℕ
lines_of (Reads reads stop) = flat_map read_line reads ++ stop_line stop
lines_of (Refused at rule) = codes "refused " ++ at_text at ++ codes " " ++ rule_name rule ++ codes "\n"
