use Rattle.std.proofs.Common.{sym, subst}
use Rattle.vk_model.specs.declared.command.Element.TheVariants as element
use Rattle.vk_layouts.specs.Owned.{transfer_of}
use Rattle.vk_layouts.specs.declared.ownership.Transfer.{Transfer}
use Rattle.vk_history.specs.Inner.Passing.{IsPassed}
use Rattle.vk_history.proofs.resource_contents.ResourceContents.pass.Goals as goal

pub returns-in_ok-release-in-Release : goal.returns-in_ok-release-in-Release
returns-in_ok-release-in-Release c =
    subst (λ (t : Transfer). IsPassed c.args.family (transfer_of t) c.args.self.now c.release.new.self) (sym c.in-Release.is) (λ past w t e a. c.in_ok-release-in-Release.ensures past w t e.buffer (element.Buffer e) a)
