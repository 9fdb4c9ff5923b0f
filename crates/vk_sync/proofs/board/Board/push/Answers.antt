use Rattle.std.proofs.Common.{arith, ◌≡◌, ◌∙◌, ◌++◌, ◌∷◌, [], List, ℕ, ap, length, get_or}
use Rattle.vk_sync.specs.declared.board.Command.{Command}
use Rattle.vk_sync.proofs.PushLemmas.{pushed, pushed_done}
use Rattle.vk_sync.proofs.board.Board.push.Goals as goal

pub returns-clause-loose : goal.returns-clause-loose
returns-clause-loose c =
    let b = c.args.self.now in
    let cs = b.commands.items in
    let items : c.push.new.self.items ≡ cs ++ c.args.command ∷ [] = c.in_ok-push.ensures.items ∙ ap (λ (xs : List Command). xs ++ c.args.command ∷ []) c.reserve.ensures.items in
    let number : c.len-number.result ≡ length cs = omega arith in
    let line = get_or b.lines c.args.command.queue [] ++ c.len-number.result ∷ [] in
    rw (items, c.in_ok-note.ensures.lines, c.in_ok-note.ensures.counts) (pushed cs b.lines b.done b.free b.counts c.args.command line c.requires.board c.requires.comes c.requires.small (ap (λ (n : ℕ). get_or b.lines c.args.command.queue [] ++ n ∷ []) number))

pub returns-clause-others : goal.returns-clause-others
returns-clause-others c =
    let b = c.args.self.now in
    let cs = b.commands.items in
    let items : c.push.new.self.items ≡ cs ++ c.args.command ∷ [] = c.in_ok-push.ensures.items ∙ ap (λ (xs : List Command). xs ++ c.args.command ∷ []) c.reserve.ensures.items in
    rw items (pushed_done cs b.lines b.done b.free b.counts c.args.command c.requires.board)
