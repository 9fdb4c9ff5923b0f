use Rattle.std.proofs.Common.{◌∙◌, sym, ap, subst}
use Rattle.vk_model.specs.World.Bytes.{Byte}
use Rattle.vk_cached_device.proofs.Copying.{has_copied}
use Rattle.vk_cached_device.proofs.device.CachedDevice.copy_next.Goals as goal

pub returns-clause-copied : goal.returns-clause-copied
returns-clause-copied c t steps s memory late led sound = has_copied t steps s memory late c.args.self.now led sound c.args.part c.requires.among c.late_runs_go_on.ensures.parts c.copy.new.self c.in-Ok.ensures.copied c.in-Ok.ensures.changed.cells (c.copy.ensures.failed)

pub returns-clause-plain : goal.returns-clause-plain
returns-clause-plain c = record { copied = c.in-Ok.ensures.copied; same_allotted = c.copy.ensures.allotted; stays = c.copy.ensures.stays; cells = c.in-Ok.ensures.changed.cells; offers = c.copy.ensures.offers }
