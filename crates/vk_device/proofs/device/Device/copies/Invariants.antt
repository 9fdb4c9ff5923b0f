use Rattle.std.proofs.Common.{◌≡◌, take}
use Rattle.vk_backing.specs.Passing.{parts_left}
use Rattle.vk_device.proofs.device.Device.copies.Given as goal

-- The parts before this place have been listed.
abbrev pub invariant-loop-place : goal.invariant-loop-place
invariant-loop-place l = l.parts.items ≡ take l.place (parts_left l.self.passes)
