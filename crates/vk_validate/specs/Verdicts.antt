-- What a verdict reports.
use Rattle.std.specs.Prelude.{◌≡◌, ⊤, List, Option, Some, None}
use Rattle.vk_model.specs.declared.entry.Entry.{Entry}
use Rattle.vk_model.specs.declared.rule.At.{At}
use Rattle.vk_model.specs.declared.rule.Rule.{Rule}
use Rattle.vk_validate.specs.declared.verdicts.Verdict.{Verdict}
use Rattle.vk_validate.specs.declared.verdicts.Verdict.TheVariants.{Accepted, Refused}

-- The fault that a verdict reports.
abbrev pub reported : Verdict → Option (At × Rule)
reported (Accepted entries) = None
reported (Refused at r) = Some (at, r)

-- What is accepted are these entries.
abbrev pub IsAbout : List Entry → Verdict → Type 0
IsAbout entries (Accepted accepted) = accepted ≡ entries
IsAbout entries (Refused at r) = ⊤
