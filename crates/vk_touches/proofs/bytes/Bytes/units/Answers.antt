use Rattle.std.proofs.Common.{arith}
use Rattle.vk_touches.proofs.ByteUnits.{some_levels, buffer_units, image_units}
use Rattle.vk_touches.proofs.bytes.Bytes.units.Goals as goal

pub returns-in-Buffer-clause-units : goal.returns-in-Buffer-clause-units
returns-in-Buffer-clause-units c = buffer_units c.args.self.now c.in-Buffer.buffer c.in-Buffer.is c.args.low c.args.high c.requires.order

pub returns-in-Image-clause-numbers : goal.returns-in-Image-clause-numbers
returns-in-Image-clause-numbers c = (some_levels c.args.self.now c.in-Image.id c.in-Image.levels c.in-Image.bytes c.in-Image.is c.args.low c.args.high c.requires.order c.requires.numbers, omega arith)

pub returns-in-Image-clause-units : goal.returns-in-Image-clause-units
returns-in-Image-clause-units c =
    image_units c.args.self.now c.in-Image.id c.in-Image.levels c.in-Image.bytes c.in-Image.is c.args.low c.args.high c.requires.order c.requires.numbers c.subresources-subresources.result c.subresources-subresources.ensures
    c.from.result c.from-in-Image.result c.from.ensures c.from-in-Image.ensures
