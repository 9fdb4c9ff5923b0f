use Rattle.std.proofs.Common.{◌≡◌, ℕ, ◌<◌, ◌≤◌, Some}
use Rattle.std.specs.Prelude.{slice_get}
use Rattle.vk_model.specs.World.Bytes.{in_buffer}
use Rattle.vk_order.specs.declared.acts.Row.{Row}
use Rattle.vk_order.specs.NodeViews.{act_of}
use Rattle.vk_hazards.specs.Inner.Pairs.{IsAlike}
use Rattle.vk_hazards.proofs.past.Past.alike_until.Given as goal

abbrev pub invariant-loop-row : goal.invariant-loop-row
invariant-loop-row l = record {
  further : l.at < l.end;
  within : l.end ≤ l.high;
  alike : (j : ℕ) (r : Row) → j < l.row-index → slice_get l.row-items j ≡ Some r → (k : ℕ) → l.at ≤ k → k < l.end → IsAlike (act_of r.act) (in_buffer l.buffer k) (in_buffer l.buffer l.at);
}
