use Rattle.std.proofs.Common.{◌≡◌, take, string_bytes}
use Rattle.std.specs.List.{flat_map}
use Rattle.vk_calls.specs.Calls.{data_of}
use Rattle.vk_calls.specs.CalledObject.{point_object}
use Rattle.vk_calls.proofs.listing.objects_of.Given as goal

abbrev pub invariant-loop-point : goal.invariant-loop-point
invariant-loop-point l = string_bytes l.objects ≡ flat_map (point_object (data_of l.calls)) (take l.point-index l.points)
