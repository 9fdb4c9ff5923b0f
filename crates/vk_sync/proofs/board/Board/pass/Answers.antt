use Rattle.std.proofs.Common.{arith, ◌<◌, ◌+◌, ℕ, length, subst, get_or, refl}
use Rattle.std.proofs.lemmas.List.{get_or-set_same, get_or-set_other}
use Rattle.vk_sync.specs.Inner.Fronts.{HasCommand}
use Rattle.vk_sync.proofs.MovingLemmas.{passed}
use Rattle.vk_sync.proofs.FrontLemmas.{place_within}
use Rattle.vk_sync.proofs.board.Board.pass.Goals as goal

pub loop-self-smaller : goal.loop-self-smaller
loop-self-smaller c =
    let b = c.loop-self.self in
    let q = c.args.queue in
    let found = c.loop-self-test.ensures.yes refl in
    let four = c.loop-self.invariant.0.done_len in
    let lt : q < length b.done = omega (arith, c.requires.queue) in
    omega (arith, get_or-set_same b.done q (get_or b.done q 0 + 1) 0 lt, place_within b.commands.items q _ found.0 found.1 found.2)

pub loop-self-preserved : goal.loop-self-preserved
loop-self-preserved c =
    let b = c.loop-self.self in
    let q = c.args.queue in
    let found = c.loop-self-test.ensures.yes refl in (
      passed b.commands.items b.lines b.done b.free b.counts q found.0 found.1 c.loop-self.invariant.0 c.requires.queue found.2 found.3,
      λ p lt ne j d s. c.loop-self.invariant.1 p lt ne j d (subst (λ (k : ℕ). HasCommand b.commands.items p k j d) (get_or-set_other b.done q p (get_or b.done q 0 + 1) 0 ne) s),
      c.loop-self.invariant.2,
    )
