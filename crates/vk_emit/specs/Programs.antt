-- The text of a program in C (profile).
use Rattle.std.specs.Prelude.{ℕ, List, [], ◌++◌, codes, decimal, Option, Some, None}
use Rattle.std.specs.List.{flat_map}
use Rattle.vk_model.specs.Rules.Names.{rule_name}
use Rattle.vk_words.specs.Points.{at_text}
use Rattle.vk_trace.specs.declared.printing.Outcome.{Outcome}
use Rattle.vk_trace.specs.declared.printing.Outcome.TheVariants.{Reads, Refused}
use Rattle.vk_row_text.specs.Steps.{step_lines, byte_line, step_bytes, Promised}
use Rattle.vk_emit.specs.declared.planning.Plan.{Plan}

-- Which entry finds no room, if one does (profile).
abbrev pub stop_text : Option ℕ → List ℕ
stop_text None = []
stop_text (Some e) = codes "// Entry " ++ decimal e ++ codes " of the trace finds no room: what comes before it is performed.\n"

-- What is promised of the reads, and up to where (profile).
abbrev pub promise_text : Outcome → List ℕ
promise_text (Reads reads stop) = codes ", and the bytes that its reads have to give.\n" ++ stop_text stop
promise_text (Refused at rule) = codes ". It breaks a rule: nothing is promised of its reads.\n"

-- The comment at the beginning (profile).
abbrev pub title_text : Outcome → List ℕ
title_text outcome = codes "// A trace of Vulkan transfers: a row for each call" ++ promise_text outcome ++ codes "//     cc main.c -lvulkan && ./a.out    # --help says more\n"

-- The header that makes the calls, or the line that includes it (profile).
abbrev pub header_text : Option (List ℕ) → List ℕ
header_text None = codes "#include \"zw_drive.h\"\n"
header_text (Some header) = header

-- The reads of which bytes are promised: those of an answer, and none of a trace that breaks a rule (profile).
abbrev pub promised_by : Outcome → Promised
promised_by (Reads reads stop) = reads
promised_by (Refused at rule) = []

-- The fault as a text in C, or 0 where there is none (profile).
abbrev pub fault_text : Outcome → List ℕ
fault_text (Reads reads stop) = codes "0"
fault_text (Refused at rule) = codes "\"" ++ at_text at ++ codes " " ++ rule_name rule ++ codes "\""

-- What stands between rows and bytes, and behind the bytes (profile).
abbrev pub between : List ℕ
between = codes "    END_TRACE\n};\n\n// The bytes of writes, of updates and of reads, in the order of their rows.\nstatic const char *const zw_bytes[] = {\n"

abbrev pub behind : List ℕ
behind = codes "    0};\n\nint main(int argc, char **argv) {\n    return zw_main(argc, argv, zw_trace, zw_bytes, "

-- The rows of a plan, in the order of its steps; the bytes that it writes and those that its reads have to give; and the function that performs them (profile).
abbrev pub tables_text : Plan → List ℕ
tables_text plan = codes "\nstatic const ZwWord zw_trace[] = {\n" ++ flat_map step_lines plan.steps.items ++ between ++ flat_map byte_line (step_bytes (promised_by plan.outcome) plan.steps.items) ++ behind ++ fault_text plan.outcome ++ codes ");\n}\n"

-- A program: the comment, the header, and the tables (profile).
abbrev pub program_of : Option (List ℕ) → Plan → List ℕ
program_of header plan = title_text plan.outcome ++ header_text header ++ tables_text plan
