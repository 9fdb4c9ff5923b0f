use Rattle.vk_device.proofs.device.Device.command.Goals as goal

pub returns : goal.returns
returns c = λ t steps s led. c.command.ensures s.front.past s.done led.offers
