-- What is claimed of a trace: what it reads, its first fault, or all of its faults.
use Rattle.std.specs.Prelude.{◌≡◌, ℕ, List, [], ◌∷◌, ◌++◌, map, Some, None, length}
use Rattle.std.specs.List.{filter}
use Rattle.vk_model.specs.declared.entry.Entry.{Entry}
use Rattle.vk_model.specs.declared.rule.At.{At}
use Rattle.vk_model.specs.declared.rule.Rule.{Rule}
use Rattle.vk_model.specs.Trace.Point.{Past, at_of}
use Rattle.vk_model.specs.Trace.Order.{order}
use Rattle.vk_model.specs.World.Meaning.{Reads, meaning}
use Rattle.vk_model.specs.Sync.Edge.{meet, edge}
use Rattle.vk_model.specs.Sync.Before.{before}
use Rattle.vk_model.specs.Sync.Seen.{seen}
use Rattle.vk_model.specs.Rules.Table.{breaks, rules, first_rule, fault, first_fault}

-- The trace breaks no rule, and its reads before entry n give these bytes.
abbrev pub ReadsUntil : List Entry → ℕ → Reads → Type 0
ReadsUntil t n bytes = (first_fault t ≡ None) × (meaning t n ≡ bytes)

-- The trace breaks no rule, and its reads give these bytes.
abbrev pub Accepts : List Entry → Reads → Type 0
Accepts t bytes = ReadsUntil t (length t) bytes

-- The first point of the trace that breaks a rule, and the first rule that it breaks.
abbrev pub Refuses : List Entry → At → Rule → Type 0
Refuses t at r = first_fault t ≡ Some (at, r)

-- ---- all faults

-- Every rule that a point of the past breaks, the oldest point first.
abbrev pub all_faults : Past → List (At × Rule)
all_faults [] = []
all_faults (p ∷ past) = all_faults past ++ map (λ r. (at_of p, r)) (filter (λ r. breaks r past p) rules)

-- One point of the trace breaks one rule, and nothing else is broken.
abbrev pub BreaksOnly : List Entry → At → Rule → Type 0
BreaksOnly t at r = all_faults (order t) ≡ (at, r) ∷ []

-- No point of the trace breaks any rule.
abbrev pub BreaksNothing : List Entry → Type 0
BreaksNothing t = all_faults (order t) ≡ []

-- ---- computing

-- What has to unfold so that all of these compute.
unfoldable pub on_rows : Unit {0}
unfolding meet edge before seen breaks first_rule fault first_fault meaning
on_rows = tt
