use Rattle.vk_ids.specs.Ids.{value_of}
use Rattle.vk_history.specs.Contents.{IsWrittenBy}
use Rattle.vk_history.proofs.Kept.Becoming.{changed_in}
use Rattle.vk_history.proofs.contents.Contents.write.Goals as goal

pub returns-in-Some : goal.returns-in-Some
returns-in-Some c =
    let now = c.write_all.new.contents in
    changed_in c.write_all.result (λ _ u v. IsWrittenBy c.args.offset c.args.size c.args.queue c.args.spot u v) (value_of c.args.self.now.resources) (value_of (c.get_mut.follows.lender now)) c.args.buffer
    c.in-Some.contents.now now c.in-Some.ensures.value (rw c.in-Some.is at (c.get_mut.follows.holds now)) c.write_all.ensures
