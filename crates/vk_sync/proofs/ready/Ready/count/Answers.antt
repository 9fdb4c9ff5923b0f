use Rattle.std.proofs.Common.{◌∙◌, ap, length, List}
use Rattle.vk_sync.specs.declared.board.Command.{Command}
use Rattle.vk_sync.specs.Ready.{ready}
use Rattle.vk_sync.proofs.ReadyLemmas.{count_all}
use Rattle.vk_sync.proofs.ready.Ready.count.Goals as goal

pub returns : goal.returns
returns c =
    let b = c.self.inside.board in
    c.total.ensures ∙ count_all b.commands.items b.lines b.done b.free b.counts c.self.invariant.0 ∙ ap (λ (cs : List Command). length (ready cs)) c.self.view_is
