use Rattle.vk_ids.specs.Ids.{value_of}
use Rattle.vk_history.specs.Contents.{IsLentWith}
use Rattle.vk_history.proofs.Kept.Becoming.{changed_in}
use Rattle.vk_history.proofs.contents.Contents.lend.Goals as goal

pub returns-in-Some : goal.returns-in-Some
returns-in-Some c =
    let now = c.lend_all.new.contents in
    changed_in c.lend_all.result (λ _ u v. IsLentWith c.args.regions.now c.lend_all.new.stretches.items c.args.queue c.args.spot u v) (value_of c.args.self.now.resources) (value_of (c.get_mut.follows.lender now)) c.args.source
    c.in-Some.contents.now now c.in-Some.ensures.value (rw c.in-Some.is at (c.get_mut.follows.holds now)) c.lend_all.ensures
