use Rattle.std.proofs.Common.{◌≡◌, ◌<◌, ◌≤◌, ℕ, Some}
use Rattle.std.specs.Prelude.{slice_get}
use Rattle.vk_model.specs.Sync.Seen.{covers}
use Rattle.vk_order.specs.declared.parts.Part.{Part}
use Rattle.vk_order.specs.Units.{unit_byte}
use Rattle.vk_order.proofs.unseen.parts_until.Given as goal

abbrev pub invariant-loop-part : goal.invariant-loop-part
invariant-loop-part l = (l.at < l.until) × (l.until ≤ l.end) × ((i : ℕ) (x : Part) → i < l.part-index → slice_get l.parts i ≡ Some x → (k : ℕ) → l.at ≤ k → k < l.until → covers x.element (unit_byte l.units k) ≡ covers x.element (unit_byte l.units l.at))
