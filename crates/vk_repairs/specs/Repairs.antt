-- What a repair of a refused trace is.
use Rattle.std.specs.Prelude.{◌≡◌, ◌+◌, ◌<◌, List, length, Some}
use Rattle.vk_model.specs.declared.entry.Entry.{Entry}
use Rattle.vk_model.specs.declared.rule.At.{At}
use Rattle.vk_model.specs.Trace.Order.{order}
use Rattle.vk_model.specs.Rules.Table.{first_fault}
use Rattle.vk_candidates.specs.Edits.{edited, moved}
use Rattle.vk_repairs.specs.declared.found.Repair.{Repair}
use Rattle.vk_repairs.specs.Starts.{sound_start, all_points, IsAmong}

-- Edits move the first fault of a trace to a later point of it: more of its points come before, those that the edits add not counted, and the refused one is among them.
pub record IsRepair (trace : List Entry) (refused : At) (r : Repair) : Type 0 where
  pub changed : r.changed.items ≡ edited trace r.edits.items
  pub next : r.next ≡ first_fault r.changed.items
  pub later : length (sound_start (order trace)) + all_points r.changed.items < length (sound_start (order r.changed.items)) + all_points trace
  pub place : At
  pub is_moved : moved r.edits.items refused ≡ Some place
  pub kept : IsAmong (sound_start (order r.changed.items)) place
