-- What is reported of a point and OVERLAP.
use Rattle.std.specs.Prelude.{◌≡◌, false, Option, Some, None, IsTrue}
use Rattle.vk_model.specs.declared.rule.Rule.TheVariants as rule
use Rattle.vk_model.specs.Trace.Point.{Past, Point}
use Rattle.vk_model.specs.Rules.Table.{breaks}
use Rattle.vk_findings.specs.declared.pairs.Overlap.{Overlap}
use Rattle.vk_findings.specs.Parts.{IsOverlap}

-- A point that comes next breaks OVERLAP by these two parts; or it doesn't break it.
abbrev pub IsFound : Past → Point → Option Overlap → Type 0
IsFound past p None = breaks rule.Overlap past p ≡ false
IsFound past p (Some o) = IsTrue (breaks rule.Overlap past p) × IsOverlap past p.action o
