use Rattle.std.proofs.Common.{◌≡◌, ℕ, take, is_some}
use Rattle.std.specs.Prelude.{unwrap_or}
use Rattle.std.specs.List.{fold, list_any}
use Rattle.vk_findings.specs.Layouts.{changes_at}
use Rattle.vk_findings.specs.Inner.LayoutSteps.{layout_by}
use Rattle.vk_findings.proofs.transitions.layout_set_among.Given as goal

abbrev pub invariant-loop-element : goal.invariant-loop-element
invariant-loop-element l = record {
  found : is_some l.found ≡ list_any (changes_at l.queue l.at.image l.at.level l.at.layer) (take l.element-index l.elements);
  layout : (before : ℕ) → fold (layout_by l.queue l.at.image l.at.level l.at.layer) before (take l.element-index l.elements) ≡ unwrap_or l.found before;
}
