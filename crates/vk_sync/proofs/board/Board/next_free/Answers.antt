use Rattle.std.proofs.Common.{arith, ◌≡◌, ◌<◌, ◌∙◌, sym, length, subst, true}
use Rattle.std.proofs.lemmas.Option.{slice_get_within}
use Rattle.vk_sync.specs.declared.board.Command.{Command}
use Rattle.vk_sync.specs.Inner.Fronts.{IsWithin}
use Rattle.vk_sync.proofs.FrontLemmas.{read_command, none_past, same_command}
use Rattle.vk_sync.proofs.board.Board.next_free.Goals as goal

pub returns-in_default-clause-none : goal.returns-in_default-clause-none
returns-in_default-clause-none c j d s within = none_past c.args.self.now.commands.items c.args.queue _ j d c.in_default.ensures.none s

pub index-requires : goal.index-requires
index-requires c =
    let found = c.in-Some.ensures.some in
    let lt : c.in-Some.number < length c.args.self.now.commands.items = slice_get_within c.args.self.now.commands.items c.in-Some.number found.0 found.1.is in
    omega arith

pub returns-then-is_within-clause-some : goal.returns-then-is_within-clause-some
returns-then-is_within-clause-some c =
    let b = c.args.self.now in
    let found = c.in-Some.ensures.some in
    let read = read_command b.commands.items c.args.queue _ _ found.0 c.index.result.now found.1 c.index.ensures in
    let P : Command → Type 0 = λ x. IsWithin x.before b.done in
    (found.0, found.1, subst P (sym read) (c.is_within.ensures.0 c.if-is_within.true))

pub returns-else-is_within-clause-none : goal.returns-else-is_within-clause-none
returns-else-is_within-clause-none c j d s within =
    let b = c.args.self.now in
    let found = c.in-Some.ensures.some in
    let read = read_command b.commands.items c.args.queue _ _ found.0 c.index.result.now found.1 c.index.ensures in
    let same = (same_command b.commands.items c.args.queue _ _ j found.0 d found.1 s).1 in
    let P : Command → Type 0 = λ x. IsWithin x.before b.done in
    let yes : c.is_within.result ≡ true = c.is_within.ensures.1 (subst P (sym same ∙ read) within) in
    let no = c.if-is_within.false in
    cc
