use Rattle.std.proofs.Common.{ℕ, ◌<◌, length, ap, subst, arith, rules}
use Rattle.std.proofs.lemmas.List.{get_or_default}
use Rattle.vma_defrag.specs.declared.open.Planned.{Planned}
use Rattle.vma_defrag.proofs.Indices.{AreIndexedTo, none-indexed, more-indexed, all-indexed}
use Rattle.vma_defrag.proofs.open.indices_of.Goals as goal

pub loop-index-init : goal.loop-index-init
loop-index-init c = none-indexed c.args.planned.now c.new-indices.result.entries (search rules)

pub loop-index-preserved : goal.loop-index-preserved
loop-index-preserved c =
    let ps = c.args.planned.now in let n = c.loop-index.index in let lt : n < length ps = c.loop-index-test.true in
    more-indexed ps c.requires.once n c.loop-index.indices c.insert.new.self lt c.loop-index.invariant _
    (λ p. ap (λ (q : Planned). q.allocation) (get_or_default ps n p _ lt)) c.in_ok-insert.ensures.updates

pub returns : goal.returns
returns c = all-indexed c.args.planned.now c.loop-index.indices.entries (subst (λ (n : ℕ). AreIndexedTo c.args.planned.now n c.loop-index.indices.entries) (omega (arith, c.loop-index-test.false, c.loop-index.auto.index-end)) c.loop-index.invariant)
