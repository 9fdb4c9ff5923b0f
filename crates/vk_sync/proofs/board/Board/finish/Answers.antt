use Rattle.std.proofs.Common.{arith, ◌<◌, ◌∙◌, ap, length, get_or, ◌-◌}
use Rattle.std.proofs.lemmas.Option.{slice_get_within}
use Rattle.vk_sync.proofs.ReadyLemmas.{ready_piece, read_ready}
use Rattle.vk_sync.proofs.RunLemmas.{ran, ran_on, ran_done, counted_of, after_at}
use Rattle.vk_sync.proofs.board.Board.finish.Goals as goal

pub index_mut-command-requires : goal.index_mut-command-requires
index_mut-command-requires c =
    let b = c.args.self.now in
    let cs = b.commands.items in
    let piece = c.args.piece in
    let fronts = c.requires.board in
    let found = ready_piece cs b.lines b.done b.free b.counts fronts piece c.requires.ready in
    let lt : piece.command < length cs = slice_get_within cs piece.command found.0 found.1.has_command.is in
    omega arith

pub remove-requires : goal.remove-requires
remove-requires c =
    let b = c.args.self.now in
    let cs = b.commands.items in
    let piece = c.args.piece in
    let fronts = c.requires.board in
    let now = c.index_mut-command.result.now in
    let r = read_ready cs b.lines b.done b.free b.counts fronts piece c.requires.ready now c.index_mut-command.ensures.value in
    r.has

pub subtract-requires-clause-there : goal.subtract-requires-clause-there
subtract-requires-clause-there c =
    let b = c.args.self.now in
    let cs = b.commands.items in
    let piece = c.args.piece in
    let fronts = c.requires.board in
    let now = c.index_mut-command.result.now in
    let r = read_ready cs b.lines b.done b.free b.counts fronts piece c.requires.ready now c.index_mut-command.ensures.value in
    omega (arith, slice_get_within cs piece.command now r.has_command.is, fronts.loose.counts_len)

pub subtract-requires-clause-enough : goal.subtract-requires-clause-enough
subtract-requires-clause-enough c =
    let b = c.args.self.now in
    let cs = b.commands.items in
    let piece = c.args.piece in
    let fronts = c.requires.board in
    let now = c.index_mut-command.result.now in
    let r = read_ready cs b.lines b.done b.free b.counts fronts piece c.requires.ready now c.index_mut-command.ensures.value in
    let counted = counted_of cs b.lines b.done b.free b.counts _ _ piece.command now fronts.loose r.has_command r.free_is in
    let some = r.has.1 in
    omega (arith, counted)

pub settle-requires-clause-queue : goal.settle-requires-clause-queue
settle-requires-clause-queue c =
    let b = c.args.self.now in
    let cs = b.commands.items in
    let piece = c.args.piece in
    let fronts = c.requires.board in
    let now = c.index_mut-command.result.now in
    let r = read_ready cs b.lines b.done b.free b.counts fronts piece c.requires.ready now c.index_mut-command.ensures.value in
    fronts.loose.sound.queues piece.command now r.has_command.is

pub settle-requires-clause-loose : goal.settle-requires-clause-loose
settle-requires-clause-loose c =
    let b = c.args.self.now in
    let cs = b.commands.items in
    let piece = c.args.piece in
    let fronts = c.requires.board in
    let now = c.index_mut-command.result.now in
    let r = read_ready cs b.lines b.done b.free b.counts fronts piece c.requires.ready now c.index_mut-command.ensures.value in
    let counted = counted_of cs b.lines b.done b.free b.counts _ _ piece.command now fronts.loose r.has_command r.free_is in
    let some = r.has.1 in
    let n = get_or b.counts piece.command 0 - 1 in
    rw (c.skip_zero.ensures ∙ c.subtract.ensures) (ran cs now.queue _ piece.command now c.remove.new.self r.has_command b.lines b.done b.free b.counts fronts.loose n r.free_is c.remove.ensures.len (omega (arith, counted)))

pub settle-requires-clause-others : goal.settle-requires-clause-others
settle-requires-clause-others c =
    let b = c.args.self.now in
    let cs = b.commands.items in
    let piece = c.args.piece in
    let fronts = c.requires.board in
    let now = c.index_mut-command.result.now in
    let r = read_ready cs b.lines b.done b.free b.counts fronts piece c.requires.ready now c.index_mut-command.ensures.value in
    ran_done cs now.queue _ piece.command now c.remove.new.self r.has_command b.lines b.done b.free b.counts fronts.done_are

pub returns-clause-commands : goal.returns-clause-commands
returns-clause-commands c =
    let b = c.args.self.now in
    let cs = b.commands.items in
    let piece = c.args.piece in
    let fronts = c.requires.board in
    let now = c.index_mut-command.result.now in
    let r = read_ready cs b.lines b.done b.free b.counts fronts piece c.requires.ready now c.index_mut-command.ensures.value in
    ap (λ (v : _). v.items) c.settle.ensures.commands ∙ after_at cs piece now c.remove.new.self r.has_command.is c.remove.ensures.others

pub returns-then-left-gt0-clause-board : goal.returns-then-left-gt0-clause-board
returns-then-left-gt0-clause-board c =
    let b = c.args.self.now in
    let cs = b.commands.items in
    let piece = c.args.piece in
    let fronts = c.requires.board in
    let now = c.index_mut-command.result.now in
    let r = read_ready cs b.lines b.done b.free b.counts fronts piece c.requires.ready now c.index_mut-command.ensures.value in
    let counted = counted_of cs b.lines b.done b.free b.counts _ _ piece.command now fronts.loose r.has_command r.free_is in
    let some = r.has.1 in
    let n = get_or b.counts piece.command 0 - 1 in
    rw (c.skip_zero.ensures ∙ c.subtract.ensures) (ran_on cs now.queue _ piece.command now c.remove.new.self r.has_command b.lines b.done b.free b.counts fronts n r.free_is c.remove.ensures.len (omega (arith, counted)) (omega arith))

pub returns-then-left-gt0-clause-commands : goal.returns-then-left-gt0-clause-commands
returns-then-left-gt0-clause-commands c =
    let b = c.args.self.now in
    let cs = b.commands.items in
    let piece = c.args.piece in
    let fronts = c.requires.board in
    let now = c.index_mut-command.result.now in
    let r = read_ready cs b.lines b.done b.free b.counts fronts piece c.requires.ready now c.index_mut-command.ensures.value in
    after_at cs piece now c.remove.new.self r.has_command.is c.remove.ensures.others
