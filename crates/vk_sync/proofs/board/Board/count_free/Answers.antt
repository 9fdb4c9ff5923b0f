use Rattle.std.proofs.Common.{arith, ◌<◌, ◌+◌, ◌∙◌, ap, sym, length, ℕ, get_or}
use Rattle.std.proofs.lemmas.List.{get_or-set_same, get_or-set_other}
use Rattle.vk_sync.specs.declared.board.Command.{Command}
use Rattle.vk_sync.proofs.MovingLemmas.{counted, counts_fit}
use Rattle.vk_sync.proofs.FrontLemmas.{place_within, read_command}
use Rattle.vk_sync.proofs.board.Board.count_free.Goals as goal

pub add-requires-clause-fits : goal.add-requires-clause-fits
add-requires-clause-fits c =
    let b = c.loop-number.self in
    let q = c.args.queue in
    let found = c.in-Some.ensures.some in
    let read = read_command b.commands.items q _ _ found.0 c.index.result.now found.1 c.index.ensures in
    let len = ap (λ (x : Command). length x.left) read in
    omega (arith, counts_fit b.commands.items b.lines b.done b.free b.counts q c.in-Some.number found.0 c.loop-number.invariant.0 c.requires.queue found.1 found.2, len, c.len-pieces.ensures)

pub loop-number-smaller : goal.loop-number-smaller
loop-number-smaller c =
    let b = c.loop-number.self in
    let q = c.args.queue in
    let found = c.in-Some.ensures.some in
    let four = c.loop-number.invariant.0.free_len in
    let lt : q < length b.free = omega (arith, c.requires.queue) in
    omega (arith, get_or-set_same b.free q (get_or b.free q 0 + 1) 0 lt, place_within b.commands.items q _ c.in-Some.number found.0 found.1)

pub loop-number-preserved : goal.loop-number-preserved
loop-number-preserved c =
    let b = c.loop-number.self in
    let q = c.args.queue in
    let found = c.in-Some.ensures.some in
    let read = read_command b.commands.items q _ _ found.0 c.index.result.now found.1 c.index.ensures in
    let len = c.len-pieces.ensures ∙ ap (λ (x : Command). length x.left) (sym read) in
    let n = get_or b.counts c.in-Some.number 0 + c.len-pieces.result in (
      rw c.add.ensures (counted b.commands.items b.lines b.done b.free b.counts q c.in-Some.number n found.0 c.loop-number.invariant.0 c.requires.queue found.1 found.2 (ap (λ (k : ℕ). get_or b.counts c.in-Some.number 0 + k) len)),
      c.loop-number.invariant.1,
      c.loop-number.invariant.2,
      λ p ne. get_or-set_other b.free q p (get_or b.free q 0 + 1) 0 ne ∙ c.loop-number.invariant.3 p ne,
    )
