use Rattle.std.proofs.Common.{◌≡◌, ◌∙◌, ap, sym, length}
use Rattle.std.proofs.lemmas.Bool.{eqb-false}
use Rattle.vk_sync.specs.declared.board.Command.{Command}
use Rattle.vk_sync.proofs.FrontLemmas.{read_command, none_past, same_command}
use Rattle.vk_sync.proofs.board.Board.is_next_done.Goals as goal

pub returns-in-Some-clause-no : goal.returns-in-Some-clause-no
returns-in-Some-clause-no c some j d s none =
    let b = c.args.self.now in
    let q = c.args.queue in
    let found = c.in-Some.ensures.some in
    let same = (same_command b.commands.items q _ _ j found.0 d found.1 s).1 in
    let read = read_command b.commands.items q _ _ found.0 c.index.result.now found.1 c.index.ensures in
    let e : length c.index.result.now.left ≡ 0 = ap (λ (x : Command). length x.left) (sym read ∙ same) ∙ ap length none in
    eqb-false c.len.result 0 some (c.len.ensures ∙ e)

pub returns-in-None-clause-no : goal.returns-in-None-clause-no
returns-in-None-clause-no c some j d s none = none_past c.args.self.now.commands.items c.args.queue _ j d c.in-None.ensures.none s
