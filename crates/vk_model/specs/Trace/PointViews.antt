-- What the points of the code mean.
use Rattle.vk_model.specs.Trace.Point as spec
use Rattle.vk_model.specs.declared.point.Action.{Action}
use Rattle.vk_model.specs.declared.point.Action.TheVariants as action
use Rattle.vk_model.specs.declared.point.Point.{Point}

-- What happens at a point.
abbrev pub action_of : Action → spec.Action
action_of (action.Host x) = spec.Host x.now
action_of (action.Wait s) = spec.Wait s.now
action_of (action.Run c) = spec.Run c.now
action_of (action.Signal s) = spec.Signal s.now

-- The point of the definitions.
abbrev pub point_of : Point → spec.Point
point_of p = record { entry = p.entry; batch = p.batch; place = p.place; queue = p.queue; action = action_of p.action }
