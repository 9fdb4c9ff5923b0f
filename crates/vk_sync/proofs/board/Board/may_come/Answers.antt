use Rattle.std.proofs.Common.{arith, ◌≡◌, ◌<◌, ◌+◌, ◌-◌, subst, sym, refl}
use Rattle.vk_sync.specs.declared.board.Command.{Command}
use Rattle.vk_sync.specs.Ready.{count_on}
use Rattle.vk_sync.specs.Inner.Fronts.{IsWithin}
use Rattle.vk_sync.proofs.FrontLemmas.{read_command}
use Rattle.vk_sync.proofs.PushLemmas.{known_of, comes_first, comes_after}
use Rattle.vk_sync.proofs.board.Board.may_come.Goals as goal

pub returns-then-count-eq0 : goal.returns-then-count-eq0
returns-then-count-eq0 c =
    let cs = c.args.self.now.commands.items in
    let before = c.args.before.now in
    let known = known_of cs before _ _ _ _ c.count_of.ensures c.count_of-2.ensures c.count_of-3.ensures c.count_of-4.ensures (c.is_within.ensures.0 c.if-not-is_within.false) in
    let none : count_on c.args.queue cs ≡ 0 = omega (arith, c.count_of-count.ensures, c.if-count-eq0.true) in
    ((λ holds. comes_first cs c.args.queue before (omega (arith, c.if-queue-ge4.false)) known none), λ comes. refl)

pub returns-in-Some : goal.returns-in-Some
returns-in-Some c =
    let cs = c.args.self.now.commands.items in
    let q = c.args.queue in
    let before = c.args.before.now in
    let known = known_of cs before _ _ _ _ c.count_of.ensures c.count_of-2.ensures c.count_of-3.ensures c.count_of-4.ensures (c.is_within.ensures.0 c.if-not-is_within.false) in
    let found = c.in-Some.ensures.some in
    let read = read_command cs q _ _ found.0 c.index.result.now found.1 c.index.ensures in
    let some : 0 < c.count_of-count.result = omega (arith, c.if-count-eq0.false) in
    let last : count_on q cs ≡ c.count_of-count.result - 1 + 1 = omega (arith, c.count_of-count.ensures, some) in
    let P : Command → Type 0 = λ x. IsWithin x.before before in (
      (λ holds. comes_after cs q _ _ before found.0 c.requires.sound (omega (arith, c.if-queue-ge4.false)) known found.1 last (subst P (sym read) (c.is_within-in-Some.ensures.0 holds))),
      λ comes. c.is_within-in-Some.ensures.1 (subst P read (comes.rising _ found.0 found.1.is found.1.on)),
    )
