use Rattle.vk_touches.specs.Conflicts.{SeesWrite}
use Rattle.vk_ids.specs.Ids.{value_of}
use Rattle.vk_history.specs.Contents.{IsInvalidated}
use Rattle.vk_history.proofs.Kept.Becoming.{changed_in}
use Rattle.vk_history.proofs.contents.Contents.invalidate.Goals as goal

pub returns-in-Some : goal.returns-in-Some
returns-in-Some c =
    let now = c.invalidate.new.self in
    changed_in c.invalidate.result (λ _ u v. IsInvalidated (SeesWrite c.args.by.now) u v c.args.offset c.args.size) (value_of c.args.self.now.resources) (value_of (c.get_mut.follows.lender now)) c.args.buffer
    c.in-Some.contents.now now c.in-Some.ensures.value (rw c.in-Some.is at (c.get_mut.follows.holds now)) c.invalidate.ensures
