use Rattle.std.proofs.Common.{◌≡◌, ℕ, List, [], ◌∷◌, ◌++◌, length, refl, ap, subst, ◌∙◌, arith}
use Rattle.std.specs.Prelude.{Option}
use Rattle.std.proofs.lemmas.List.{map-append}
use Rattle.vk_model.specs.Memory.MoveTargets.{Moved}
use Rattle.vma_pools.specs.State.{PoolsState, released}
use Rattle.vma_defrag.specs.declared.open.Planned.{Planned}
use Rattle.vma_defrag.specs.Inner.Planned.{move_of, moves_of}
use Rattle.vma_defrag.specs.Inner.Choosing.{HasReserved}
use Rattle.vma_defrag.specs.Passes.{AreAlikePools}
use Rattle.vma_defrag.proofs.Chain.{IsLast, reserved-last}
use Rattle.vma_defrag.proofs.Cancelling.{alike-refl, back-alike, is-moving, stays}
use Rattle.vma_defrag.proofs.choosing.cancel_all.Goals as goal

-- the last of the moves that are left
last-of : (old now : PoolsState) (items rest : List Planned) (one : Planned) → items ≡ rest ++ one ∷ [] → HasReserved old now (moves_of items) → (u : PoolsState) × HasReserved old u (moves_of rest) × IsLast u now (move_of one)
last-of old now items rest one are h =
    reserved-last (moves_of rest) (move_of one) old now
    (subst (λ (l : List Moved). HasReserved old now l) (ap (λ (l : List Planned). moves_of l) are ∙ map-append move_of rest (one ∷ [])) h)

pub loop-one-init : goal.loop-one-init
loop-one-init g c = record { undone = λ old h. (c.args.pools.now, h, alike-refl c.args.pools.now); memories = refl; backs = c.requires.backs }

pub cancel-requires-clause-moving : goal.cancel-requires-clause-moving
cancel-requires-clause-moving g c =
    let n = c.loop-one.invariant.undone c.requires.reserved.0 c.requires.reserved.1 in
    let l = last-of c.requires.reserved.0 n.0 c.loop-one.planned.items c.pop.new.self.items c.in-Some.one c.in-Some.ensures.items n.1 in
    is-moving l.0 n.0 c.loop-one.pools (move_of c.in-Some.one) l.2 n.2

pub cancel-requires-clause-backs : goal.cancel-requires-clause-backs
cancel-requires-clause-backs g c = c.loop-one.invariant.backs

pub loop-one-preserved : goal.loop-one-preserved
loop-one-preserved g c =
    let n = c.loop-one.invariant.undone c.requires.reserved.0 c.requires.reserved.1 in
    let l = last-of c.requires.reserved.0 n.0 c.loop-one.planned.items c.pop.new.self.items c.in-Some.one c.in-Some.ensures.items n.1 in
    let none = stays l.0 n.0 c.loop-one.pools (move_of c.in-Some.one) l.2 n.2 c.cancel.new.self c.cancel.result c.cancel.ensures.cancelled in
    record {
      undone = λ old h.
          let m = c.loop-one.invariant.undone old h in
          let k = last-of old m.0 c.loop-one.planned.items c.pop.new.self.items c.in-Some.one c.in-Some.ensures.items m.1 in
          (k.0, k.1, back-alike k.0 m.0 c.loop-one.pools (move_of c.in-Some.one) k.2 m.2 c.cancel.new.self c.cancel.result c.cancel.ensures.cancelled);
      memories = c.cancel.ensures.memories ∙ ap (λ (o : Option ℕ). released c.loop-one.memories o) none ∙ c.loop-one.invariant.memories;
      backs = c.cancel.ensures.kept;
    }

none-left : (items : List Planned) → length items ≡ 0 → items ≡ []
none-left [] e = refl
none-left (p ∷ items) e = absurd (omega (arith, e))

pub returns-clause-alike : goal.returns-clause-alike
returns-clause-alike g c old h =
    let n = c.loop-one.invariant.undone old h in
    let last = rw c.in_default.is at c.pop.ensures.cases in
    let none = none-left c.loop-one.planned.items (omega (arith, last.0, c.loop-one.planned.ok)) in
    let same : n.0 ≡ old = (subst (λ (l : List Planned). HasReserved old n.0 (moves_of l)) none n.1).reserved in
    subst (λ (s : PoolsState). AreAlikePools s c.loop-one.pools) same n.2

pub returns-clause-memories : goal.returns-clause-memories
returns-clause-memories g c = c.loop-one.invariant.memories

pub returns-clause-backs : goal.returns-clause-backs
returns-clause-backs g c = c.loop-one.invariant.backs
