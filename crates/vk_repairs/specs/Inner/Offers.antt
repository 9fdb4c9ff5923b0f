-- What is measured of a refused trace, and of a changed one.
use Rattle.std.specs.Prelude.{◌≡◌, ◌+◌, ◌<◌, List, length, Option}
use Rattle.vk_model.specs.declared.entry.Entry.{Entry}
use Rattle.vk_model.specs.declared.rule.At.{At}
use Rattle.vk_model.specs.declared.rule.Rule.{Rule}
use Rattle.vk_model.specs.Trace.Order.{order}
use Rattle.vk_model.specs.Rules.Table.{first_fault}
use Rattle.vk_repairs.specs.declared.repairs.Refused.{Refused}
use Rattle.vk_repairs.specs.Starts.{sound_start, all_points, IsAmong}

-- The numbers that are kept of a refused trace are its own.
pub record IsMeasured (r : Refused) : Type 0 where
  pub sound : r.sound ≡ length (sound_start (order r.trace.now))
  pub size : r.size ≡ all_points r.trace.now

-- A changed trace has its first fault later, and the refused point, at its new place, before it.
pub record Helps (trace changed : List Entry) (place : At) (answered : Option (At × Rule)) : Type 0 where
  pub next : answered ≡ first_fault changed
  pub later : length (sound_start (order trace)) + all_points changed < length (sound_start (order changed)) + all_points trace
  pub kept : IsAmong (sound_start (order changed)) place
