use Rattle.std.proofs.Common.{Some, refl}
use Rattle.vk_model.specs.World.Bytes.{Released}
use Rattle.vk_model.specs.World.Effect.{used}
use Rattle.vk_history.proofs.Kept.PassSteps.{taken_at, owner_at}
use Rattle.vk_history.proofs.resource_contents.ResourceContents.release.Goals as goal

pub returns : goal.returns
returns c past w t r e a = owner_at past r (used past c.args.family r w) t (Released c.args.family e) c.take_over.new.self _ (Some c.args.family) refl refl (taken_at past c.args.family r w t c.args.self.now c.take_over.new.self c.in_ok-take_over.ensures a)
