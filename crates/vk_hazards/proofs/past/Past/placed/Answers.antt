use Rattle.std.proofs.Common.{arith}
use Rattle.vk_hazards.proofs.RowNodes.{row_count, same_row}
use Rattle.vk_hazards.proofs.past.Past.placed.Goals as goal

pub index-requires : goal.index-requires
index-requires c = omega (arith, row_count _ c.args.self.now c.self.inside.rows.items c.self.invariant.listed c.self.view_is, c.self.inside.rows.ok.0)

pub returns : goal.returns
returns c = λ n there is. same_row _ c.args.self.now c.self.inside.rows.items c.self.invariant.listed c.self.view_is c.args.number c.index.result.now n c.requires c.index.ensures there is
