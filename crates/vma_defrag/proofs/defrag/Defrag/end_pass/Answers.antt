use Rattle.std.proofs.Common.{◌≡◌, ℕ, Option, Some, sym, ap, subst, ◌∙◌}
use Rattle.vma_defrag.specs.State.{DefragState, PassState, moves_in, left_in}
use Rattle.vma_defrag.specs.Plans.{ArePlanned}
use Rattle.vma_defrag.specs.Bytes.{AreCopied}
use Rattle.vma_defrag.proofs.defrag.Defrag.end_pass.Goals as goal

pub end_open-requires-clause-copied : goal.end_open-requires-clause-copied
end_open-requires-clause-copied g c =
    let e : c.args.self.now.current ≡ Some c.in-Some.open = sym (ap (λ (d : DefragState). d.current) c.self.view_is) ∙ sym c.take.ensures.value ∙ c.in-Some.is in
    subst (λ (o : Option PassState). AreCopied c.args.pools.now c.args.memories.now (moves_in o) (left_in o)) e c.requires.copied

pub returns-clause-planned : goal.returns-clause-planned
returns-clause-planned g c =
    let e : c.args.self.now.current ≡ Some c.in-Some.open = sym (ap (λ (d : DefragState). d.current) c.self.view_is) ∙ sym c.take.ensures.value ∙ c.in-Some.is in
    let pool = ap (λ (d : DefragState). d.pool) c.self.view_is in
    c.end_open.ensures.planned c.self.inside.pool
    (subst (λ (o : Option PassState). ArePlanned c.args.pools.now c.self.inside.pool (moves_in o)) e (subst (λ (p : ℕ). ArePlanned c.args.pools.now p (moves_in c.args.self.now.current)) (sym pool) c.requires.planned))
