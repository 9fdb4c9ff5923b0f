use Rattle.std.proofs.Common.{◌-◌, inr}
use Rattle.vk_model.proofs.Lists.Members.{place_has}
use Rattle.vk_backing.specs.Passing.{parts_left}
use Rattle.cache_tests.proofs.parts.copy_last.Goals as goal

pub copy-requires : goal.copy-requires
copy-requires c = let r = c.requires in inr (record { t = r.0; steps = r.1; s = r.2; memory = r.3; late = r.4; led = r.5; among = place_has (parts_left c.args.device.now.device.passes) (c.copies_left-left.result - 1) c.nth_copy-part.result (rw c.device-2.ensures at c.nth_copy-part.ensures) })
