use Rattle.std.proofs.Common.{List, subst}
use Rattle.vk_sync.specs.declared.board.Command.{Command}
use Rattle.vk_sync.specs.Ready.{AreFinished}
use Rattle.vk_sync.proofs.ReadyLemmas.{fronts_finished}
use Rattle.vk_sync.proofs.ready.Ready.fronts.Goals as goal

pub returns : goal.returns
returns c =
    let b = c.self.inside.board in
    subst (λ (cs : List Command). AreFinished cs b.done) c.self.view_is (fronts_finished b.commands.items b.lines b.done b.free b.counts c.self.invariant.0)
