-- What is found at the point that is refused.
use Rattle.std.proofs.Common.{◌≡◌, ◌∷◌, List, Option, Some, subst}
use Rattle.std.specs.Prelude.{IfSome}
use Rattle.vk_model.specs.declared.entry.Entry.{Entry}
use Rattle.vk_model.specs.Trace.Point.{Past, Point}
use Rattle.vk_model.specs.Trace.Order.{order}
use Rattle.vk_model.specs.Trace.PointViews.{point_of}
use Rattle.vk_model.specs.Trace.Structure.{IsOrdered}
use Rattle.vk_model.specs.Rules.Fault.{Comes, newest, older}
use Rattle.vk_history.specs.PointViews.{past}
use Rattle.vk_validate.specs.declared.refusals.Refusal.{Refusal}
use Rattle.vk_validate.specs.Refusals.{IsRefusal}
use Rattle.vk_findings.specs.declared.findings.Finding.{Finding}
use Rattle.vk_findings.specs.Findings.{IsFound}
use Rattle.vk_findings.specs.Reports.{IsFoundAt}

-- what is found of the refusal of a trace's points by its history is so of that point of the trace
pub found_at : (trace : List Entry) (points : Past) → points ≡ order trace → (found : Option Refusal) → IfSome found (IsRefusal points) → (r : Refusal) → found ≡ Some r → (f : Option Finding) → IsFound r.rule (past r.history) (point_of r.point) f → IsFoundAt (order trace) r.at r.rule f
found_at trace points laid found refused r is f so =
    let here : IsRefusal points r = subst (λ (o : Option Refusal). IfSome o (IsRefusal points)) is refused in
    record {
      before = past r.history;
      point = point_of r.point;
      comes = subst (λ (whole : Past). Comes whole (past r.history) (point_of r.point)) laid here.comes;
      is_reported = here.is_reported;
      is_found = so;
    }

-- a point of an ordered past is ordered after those before it
comes_ordered : (past before : Past) (p : Point) → IsOrdered past → Comes past before p → IsOrdered (p ∷ before)
comes_ordered past before p ordered newest = ordered
comes_ordered past before p ordered (older {past = rest} come) = comes_ordered rest before p ordered.1 come

-- so is the refused point after those of its history
pub refused_ordered : (points : Past) → IsOrdered points → (found : Option Refusal) → IfSome found (IsRefusal points) → (r : Refusal) → found ≡ Some r → IsOrdered (point_of r.point ∷ past r.history)
refused_ordered points ordered found refused r is =
    let here : IsRefusal points r = subst (λ (o : Option Refusal). IfSome o (IsRefusal points)) is refused in
    comes_ordered points (past r.history) (point_of r.point) ordered here.comes
