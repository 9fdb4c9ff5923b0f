use Rattle.vk_model.specs.World.Ownership.{family_of}
use Rattle.vk_ids.specs.Ids.{value_of}
use Rattle.vk_history.specs.Contents.{IsPasted}
use Rattle.vk_history.proofs.Kept.Becoming.{changed_in}
use Rattle.vk_history.proofs.contents.Contents.paste.Goals as goal

pub returns-in-Some : goal.returns-in-Some
returns-in-Some c =
    let now = c.paste.new.self in
    changed_in c.paste.result (λ _ u v. IsPasted u v c.args.regions.now c.args.self.now.stretches.items (family_of c.args.queue) c.args.spot) (value_of c.args.self.now.resources) (value_of (c.get_mut.follows.lender now)) c.args.destination
    c.in-Some.contents.now now c.in-Some.ensures.value (rw c.in-Some.is at (c.get_mut.follows.holds now)) (rw c.family_of.ensures at c.paste.ensures)
