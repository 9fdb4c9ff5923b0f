use Rattle.vk_candidates.proofs.applying.edited_once.Goals as goal

pub returns-in-Member : goal.returns-in-Member
returns-in-Member c = rw c.in-Member.is c.with_member.ensures
