use Rattle.std.proofs.Common.{arith}
use Rattle.vk_hazards.proofs.RowNodes.{row_count, same_row, at_row}
use Rattle.vk_hazards.proofs.nodes.Nodes.placed.Goals as goal

pub index-requires : goal.index-requires
index-requires c = omega (arith, row_count _ c.args.self.now c.self.inside.rows.items c.self.invariant.listed c.self.view_is, c.self.inside.rows.ok.0)

pub returns-clause-node : goal.returns-clause-node
returns-clause-node c = λ n there is. same_row _ c.args.self.now c.self.inside.rows.items c.self.invariant.listed c.self.view_is c.args.number c.index.result.now n c.requires c.index.ensures there is

pub returns-clause-there : goal.returns-clause-there
returns-clause-there c = at_row _ c.args.self.now c.self.inside.rows.items c.self.invariant.listed c.self.view_is c.args.number c.index.result.now c.requires c.index.ensures
