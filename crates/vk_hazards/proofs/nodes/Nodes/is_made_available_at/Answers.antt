use Rattle.std.proofs.Common.{arith, refl, ap, ◌∙◌}
use Rattle.vk_order.specs.Bytes.{byte_of}
use Rattle.vk_order.specs.Edges.{made_available_by}
use Rattle.vk_hazards.specs.Hazards.{node_at}
use Rattle.vk_hazards.proofs.RowNodes.{row_count, same_row}
use Rattle.vk_hazards.proofs.AvailabilityLemmas.{made_available_same}
use Rattle.vk_hazards.proofs.nodes.Nodes.is_made_available_at.Goals as goal

pub index-requires : goal.index-requires
index-requires c = omega (arith, c.requires.number, row_count _ c.args.self.now c.self.inside.rows.items c.self.invariant.listed c.self.view_is, c.self.inside.rows.ok.0)

pub returns : goal.returns
returns c = λ n cn is.
    let write = c.args.write.now in
    let w = node_at write.by in
    c.is_made_available_by.ensures ∙ ap (made_available_by w w.act write.from (byte_of write.byte)) (same_row _ c.args.self.now c.self.inside.rows.items c.self.invariant.listed c.self.view_is c.args.number c.index.result.now n c.requires.number c.index.ensures cn is)
    ∙ made_available_same c.args.self.now w c.requires.write.there (byte_of write.byte) write.from c.requires.write.from w.act refl n cn
