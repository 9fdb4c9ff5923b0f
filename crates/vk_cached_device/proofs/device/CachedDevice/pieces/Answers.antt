use Rattle.std.proofs.Common.{◌≡◌, ◌∙◌, length, ap, sym, subst}
use Rattle.vk_model.specs.declared.command.Cmd.{Cmd}
use Rattle.vk_model.specs.Run.Pieces.{pieces}
use Rattle.vk_model.specs.Trace.Point.{Action, Run}
use Rattle.vk_model.specs.Trace.PointViews.{point_of}
use Rattle.vk_resources.specs.Held.{Held}
use Rattle.vk_resources.specs.Matches.{Stands}
use Rattle.vk_device.specs.Coming.{CommandFits}
use Rattle.vk_cached_device.proofs.device.CachedDevice.pieces.Goals as goal

one_command : (a : Action) (c d : Cmd) → a ≡ Run c → a ≡ Run d → c ≡ d
one_command a c d is was = let both : Run c ≡ Run d = sym is ∙ was in cc

pub returns : goal.returns
returns c past d is runs fits =
    let some = c.in-Some.ensures.some in
    let same : c.in_ok-work.work ≡ d = c.in_ok-work.ensures ∙ one_command (point_of c.args.point.now).action c.in-Some.command.now d some.0 is in
    let own : CommandFits past c.in_ok-work.work c.args.self.now.device.resources = subst (λ (w : Cmd). CommandFits past w c.args.self.now.device.resources) (sym same) fits in
    c.pieces-pieces.ensures past (subst (λ (h : Held). Stands past h) (sym c.resources.ensures) own.matches) own.fits own.alive ∙ ap (λ (w : Cmd). length (pieces past w)) same
