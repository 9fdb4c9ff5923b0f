use Rattle.vk_device.proofs.Copying.{copy_allotted, has_copied}
use Rattle.vk_device.proofs.device.Device.copy_next.Goals as goal

pub returns-clause-copied : goal.returns-clause-copied
returns-clause-copied c = λ t steps s led.
    has_copied t steps s c.args.self.now led c.args.part c.direct_runs_go_on.ensures.parts c.copy_part.new.passes c.copy_part.new.self c.requires.among c.copy_part.ensures.copies c.copy_part.ensures.agree c.copy_part.ensures.passing c.copy_part.ensures.keeps
    (c.copy_part.ensures.stands s.front.past led.matches)

pub returns-clause-allotted : goal.returns-clause-allotted
returns-clause-allotted c = copy_allotted c.args.self.now.passes c.copy_part.new.passes c.args.part c.args.self.now.resources c.copy_part.new.self c.copy_part.ensures.copies c.copy_part.ensures.keeps.backed
