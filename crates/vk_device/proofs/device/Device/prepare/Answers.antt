use Rattle.std.proofs.Common.{◌≡◌, ◌++◌, ◌∷◌, [], ◌∙◌, List, length, false, refl, ap, sym, subst}
use Rattle.vk_model.specs.declared.command.Cmd.{Cmd}
use Rattle.vk_model.specs.Run.Pieces.{pieces}
use Rattle.vk_model.specs.Trace.Point.{Action, Run}
use Rattle.vk_model.proofs.Lists.Truths.{clash}
use Rattle.vk_model.specs.Trace.PointViews.{point_of}
use Rattle.vk_offers.specs.IsOffers.{is_run_in_pieces}
use Rattle.vk_resources.specs.Done.{CommandReady}
use Rattle.vk_device.specs.Led.{AreWorks}
use Rattle.vk_device.specs.Coming.{CommandFits}
use Rattle.vk_device.proofs.Coming.{works_more, works_same}
use Rattle.vk_device.proofs.device.Device.prepare.Goals as goal

one_command : (a : Action) (c d : Cmd) → a ≡ Run c → a ≡ Run d → c ≡ d
one_command a c d is was = let both : Run c ≡ Run d = sym is ∙ was in cc

pub returns-in_default-clause-prepared : goal.returns-in_default-clause-prepared
returns-in_default-clause-prepared c = record {
  counted = λ past d is runs fits. clash runs (subst (λ (a : Action). is_run_in_pieces a ≡ false) is c.in_default.ensures.none);
  works = λ past are. works_same c.args.self.now.works.items past (point_of c.args.point.now) c.in_default.ensures.none are;
  waiting = refl;
  offers = refl;
  count = refl;
}

pub pieces-pieces-requires : goal.pieces-pieces-requires
pieces-pieces-requires c =
    let some = c.in-Some.ensures.some in
    subst (λ (w : Cmd). CommandReady c.args.self.now.resources w) (sym c.in_ok-work.ensures) (c.requires c.in-Some.command.now some.0 some.1)

pub returns-clause-prepared : goal.returns-clause-prepared
returns-clause-prepared c =
    let command = c.in-Some.command.now in
    let some = c.in-Some.ensures.some in
    record {
      counted = λ past d is runs fits.
          let same : c.in_ok-work.work ≡ d = c.in_ok-work.ensures ∙ one_command (point_of c.args.point.now).action command d some.0 is in
          let own : CommandFits past c.in_ok-work.work c.args.self.now.resources = subst (λ (w : Cmd). CommandFits past w c.args.self.now.resources) (sym same) fits in
          c.pieces-pieces.ensures past own.matches own.fits own.alive ∙ ap (λ (w : Cmd). length (pieces past w)) same;
      works = λ past are.
          subst (λ (ws : List Cmd). AreWorks ws (point_of c.args.point.now ∷ past)) (sym (c.in_ok-push.ensures.items ∙ ap (λ (w : Cmd). c.args.self.now.works.items ++ w ∷ []) c.in_ok-work.ensures))
          (works_more c.args.self.now.works.items past (point_of c.args.point.now) command some.0 some.1 are);
      waiting = refl;
      offers = refl;
      count = refl;
    }
