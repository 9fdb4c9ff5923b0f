use Rattle.std.proofs.Common.{arith, ◌<◌, ◌∙◌, ℕ, subst, sym, inl, inr}
use Rattle.std.proofs.lemmas.Bool.{cases_eq}
use Rattle.vk_sync.specs.Inner.Fronts.{HasCommand, IsFree}
use Rattle.vk_sync.proofs.board.Board.settle.Goals as goal

pub loop-each-preserved : goal.loop-each-preserved
loop-each-preserved c =
    let was = c.loop-each.self in
    let now = c.count_free.new.self in
    let e = c.count_free.ensures in
    let inv = c.loop-each.invariant in (
      e.loose,
      e.commands ∙ inv.1,
      λ q lt. rw (e.commands, e.done) (inv.2 q lt),
      λ q lt. elim (cases_eq q c.loop-each.each) [
        | inl same ↦ subst (λ (k : ℕ). IsFree now.commands.items now.done now.free k) (sym same) e.free
        | inr ne ↦ rw (e.commands, e.done) (λ j d s within. inv.3 q (let less : q < c.loop-each.each = omega arith in less) j d (subst (λ (k : ℕ). HasCommand was.commands.items q k j d) (e.others q ne) s) within)
      ],
    )
