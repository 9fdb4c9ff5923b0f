use Rattle.std.proofs.Common.{◌≡◌, arith, true, Bool, sym, ap, ◌∙◌}
use Rattle.std.specs.Prelude.{nat_lt, ◌&&◌}
use Rattle.std.proofs.lemmas.Bool.{lt-ltb}
use Rattle.vk_model.specs.Sync.Node.{Node}
use Rattle.vk_model.specs.Sync.Seen.{flushes}
use Rattle.vk_order.specs.Bytes.{byte_of}
use Rattle.vk_hazards.proofs.RowNodes.{row_count, same_row}
use Rattle.vk_hazards.proofs.nodes.Nodes.flushes.Goals as goal

pub index-requires : goal.index-requires
index-requires c = omega (arith, c.requires, row_count _ c.args.self.now c.self.inside.rows.items c.self.invariant.listed c.self.view_is, c.self.inside.rows.ok.0)

pub returns-then-after-number : goal.returns-then-after-number
returns-then-after-number c = λ n cn is.
    let b = byte_of c.args.byte in
    let lt : nat_lt c.args.after n.number ≡ true = lt-ltb c.args.after n.number (omega (arith, is, c.if-after-number.true)) in
    c.flushes.ensures ∙ ap (λ (m : Node). flushes m.act b) (same_row _ c.args.self.now c.self.inside.rows.items c.self.invariant.listed c.self.view_is c.args.number c.index.result.now n c.requires c.index.ensures cn is)
    ∙ sym (ap (λ (t : Bool). t && flushes n.act b) lt)
