use Rattle.std.proofs.Common.{arith}
use Rattle.vk_hazards.proofs.RowNodes.{row_count}
use Rattle.vk_hazards.proofs.nodes.Nodes.count.Goals as goal

pub returns : goal.returns
returns c = omega (arith, row_count _ c.args.self.now c.self.inside.rows.items c.self.invariant.listed c.self.view_is, c.self.inside.rows.ok.0)
