use Rattle.std.proofs.Common.{◌∙◌}
use Rattle.vk_nodes.proofs.SlotLemmas.{node-held}
use Rattle.vk_nodes.proofs.FilledLemmas.{store-get, set-filled, set-seen}
use Rattle.vk_nodes.proofs.filled.Filled.change.Goals as goal

pub invariant_of-self : goal.invariant_of-self
invariant_of-self c =
    let i = c.self.invariant in
    let node = node-held c.args.self.now c.args.slot c.requires in
    set-filled _ _ c.self.view_is i _ _ _ c.requires (c.change.ensures.nodes node.0 (store-get _ _ c.self.view_is i _ c.requires ∙ node.1)) c.change.ensures.names

pub returns : goal.returns
returns c node there =
    let i = c.self.invariant in
    set-seen _ _ c.self.view_is i _ _ _ c.requires (c.change.ensures.nodes node (store-get _ _ c.self.view_is i _ c.requires ∙ there)) c.change.ensures.names
