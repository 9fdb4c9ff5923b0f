use Rattle.vk_ids.specs.Ids.{value_of}
use Rattle.vk_history.specs.Contents.{IsClearedBy}
use Rattle.vk_history.proofs.Kept.Becoming.{changed_in}
use Rattle.vk_history.proofs.contents.Contents.clear.Goals as goal

pub returns-in-Some : goal.returns-in-Some
returns-in-Some c =
    let now = c.clear.new.self in
    changed_in c.clear.result (λ _ u v. IsClearedBy c.args.ranges.now c.args.queue c.args.spot u v) (value_of c.args.self.now.resources) (value_of (c.get_mut.follows.lender now)) c.args.image
    c.in-Some.contents.now now c.in-Some.ensures.value (rw c.in-Some.is at (c.get_mut.follows.holds now)) (rw c.family_of.ensures at c.clear.ensures)
