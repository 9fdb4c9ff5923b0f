use Rattle.std.proofs.Common.{◌<◌, arith}
use Rattle.vk_nodes.proofs.FilledLemmas.{changed-filled, changed-seen}
use Rattle.vk_nodes.proofs.filled.Filled.change_if_held.Goals as goal

pub invariant_of-self : goal.invariant_of-self
invariant_of-self c =
    let low : c.args.slot < c.self.inside.used = omega (arith, c.if-at-self.true) in
    changed-filled _ _ c.self.view_is c.self.invariant _ _ c.args.change low c.change.ensures.nodes c.change.ensures.none c.change.ensures.names

pub returns-then-at-self-clause-held : goal.returns-then-at-self-clause-held
returns-then-at-self-clause-held c =
    let low : c.args.slot < c.self.inside.used = omega (arith, c.if-at-self.true) in
    changed-seen _ _ c.self.view_is c.self.invariant _ _ c.args.change low c.change.ensures.nodes c.change.ensures.none c.change.ensures.names
