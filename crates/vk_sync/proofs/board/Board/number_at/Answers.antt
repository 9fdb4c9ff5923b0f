use Rattle.std.proofs.Common.{arith, ◌≡◌, ◌<◌, ◌∙◌, ap, sym, length, Some, [], get_or, List, ℕ}
use Rattle.std.specs.Prelude.{slice_get}
use Rattle.std.proofs.lemmas.List.{get_or_default}
use Rattle.vk_sync.proofs.MovingLemmas.{line_len, line_at}
use Rattle.vk_sync.proofs.board.Board.number_at.Goals as goal

pub returns-then-place-len-clause-some : goal.returns-then-place-len-clause-some
returns-then-place-len-clause-some c =
    let b = c.args.self.now in
    let lines = b.lines in
    let q = c.args.queue in
    let lt : q < length lines = let four = c.requires.loose.lines_len in omega arith in
    let line = get_or_default lines q c.index-self-queue.result [] lt in
    let e : slice_get (get_or lines q []) c.args.place ≡ Some c.at.result = ap (λ (ns : List ℕ). slice_get ns c.args.place) (sym line) ∙ c.at.ensures in
    line_at b.commands.items lines b.done b.free b.counts c.requires.loose q c.args.place c.at.result c.requires.queue e

pub returns-else-place-len-clause-none : goal.returns-else-place-len-clause-none
returns-else-place-len-clause-none c =
    let b = c.args.self.now in
    let lines = b.lines in
    let q = c.args.queue in
    let lt : q < length lines = let four = c.requires.loose.lines_len in omega arith in
    let line = ap length (get_or_default lines q c.index-self-queue.result [] lt) in
    let len = line_len b.commands.items lines b.done b.free b.counts c.requires.loose q c.requires.queue in
    omega (arith, line, len, c.if-place-len.false, c.len.ensures)
