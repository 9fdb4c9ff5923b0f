use Rattle.vk_layouts.specs.Owned.{transfer_of}
use Rattle.vk_ids.specs.Ids.{value_of}
use Rattle.vk_history.specs.Inner.Passing.{IsPassed}
use Rattle.vk_history.proofs.Kept.Becoming.{changed_in}
use Rattle.vk_history.proofs.contents.Contents.pass_buffer.Goals as goal

pub returns-in-Some : goal.returns-in-Some
returns-in-Some c =
    let now = c.pass.new.self in
    changed_in c.pass.result (λ _ u v. IsPassed c.args.family (transfer_of c.args.transfer) u v) (value_of c.args.self.now.resources) (value_of (c.get_mut.follows.lender now)) c.args.buffer
    c.in-Some.contents.now now c.in-Some.ensures.value (rw c.in-Some.is at (c.get_mut.follows.holds now)) c.pass.ensures
