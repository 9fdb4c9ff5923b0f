use Rattle.vk_ids.specs.Ids.{value_of}
use Rattle.vk_history.specs.Inner.Passing.{IsImagePassed}
use Rattle.vk_history.proofs.Kept.Becoming.{changed_in}
use Rattle.vk_history.proofs.contents.Contents.pass_image.Goals as goal

pub returns-in-Some : goal.returns-in-Some
returns-in-Some c =
    let now = c.pass_image.new.self in
    changed_in c.pass_image.result (λ _ u v. IsImagePassed c.args.queue c.args.element.now c.args.spot u v) (value_of c.args.self.now.resources) (value_of (c.get_mut.follows.lender now)) c.args.element.now.image
    c.in-Some.contents.now now c.in-Some.ensures.value (rw c.in-Some.is at (c.get_mut.follows.holds now)) c.pass_image.ensures
