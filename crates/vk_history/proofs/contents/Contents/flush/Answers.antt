use Rattle.vk_ids.specs.Ids.{value_of}
use Rattle.vk_history.specs.Contents.{IsFlushed}
use Rattle.vk_history.proofs.Kept.Becoming.{changed_in}
use Rattle.vk_history.proofs.contents.Contents.flush.Goals as goal

pub returns-in-Some : goal.returns-in-Some
returns-in-Some c =
    let now = c.flush.new.self in
    changed_in c.flush.result (λ _ u v. IsFlushed u v c.args.offset c.args.size c.args.spot) (value_of c.args.self.now.resources) (value_of (c.get_mut.follows.lender now)) c.args.buffer
    c.in-Some.contents.now now c.in-Some.ensures.value (rw c.in-Some.is at (c.get_mut.follows.holds now)) c.flush.ensures
