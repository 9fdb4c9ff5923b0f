use Rattle.std.proofs.Common.{ℕ, Option, subst}
use Rattle.std.specs.Prelude.{IfSome}
use Rattle.vma_tlsf.specs.Inner.Steps.{IsHeld}
use Rattle.vma_tlsf.proofs.Made.{relinked_made}
use Rattle.vma_tlsf.proofs.steps.set_before.Goals as goal

pub returns-in-Some : goal.returns-in-Some
returns-in-Some c =
    let held : IsHeld c.args.nodes.now c.in-Some.next = subst (λ (o : Option ℕ). IfSome o (λ next. IsHeld c.args.nodes.now next)) c.in-Some.is c.requires in
    relinked_made c.args.nodes.now c.change.new.self c.args.after c.in-Some.next c.args.before c.in-Some.is held c.change.ensures
