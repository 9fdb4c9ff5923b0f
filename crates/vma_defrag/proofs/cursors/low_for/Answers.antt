use Rattle.std.proofs.Common.{◌≡◌, ℕ, ◌+◌, ◌<◌, List, length, get_or, Bool, true, false, refl, sym, ap, subst, ◌∙◌, arith, inl, inr}
use Rattle.std.specs.Prelude.{◌↔◌, IsTrue}
use Rattle.std.proofs.lemmas.Bool.{both_ways, cases_lt}
use Rattle.std.proofs.lemmas.List.{get_or_default}
use Rattle.std.proofs.lemmas.List.Elements.{Contains-get_or}
use Rattle.vk_model.specs.declared.resource.Kind.TheVariants as kind
use Rattle.vk_model.specs.Memory.MoveTargets.{BlockStart}
use Rattle.vk_model.specs.Memory.Pools.{IsHigher}
use Rattle.vma_pools.specs.declared.pool.PoolPlace.{PoolPlace}
use Rattle.vma_pools.specs.declared.allocations.Asked.{Asked}
use Rattle.vma_pools.specs.Exhausted.{IsAsLarge}
use Rattle.vma_pools.specs.State.{request_in, start_of}
use Rattle.vma_defrag.specs.declared.cursors.Cursor.{Cursor}
use Rattle.vma_defrag.specs.Inner.Cursors.{BeginsAt}
use Rattle.vma_defrag.proofs.cursors.low_for.Goals as goal
use Rattle.vma_defrag.proofs.cursors.low_for.Goals.{then-serves+then-is_higher, else-serves, else-serves-via-then-serves+else-is_higher, else-serves-via-else-serves}

higher-through : (a b c : BlockStart) → IsHigher a b → IsHigher b c → IsHigher a c
higher-through a b c (inl x) (inl y) = inl (omega (arith, x, y))
higher-through a b c (inl x) (inr y) = inl (omega (arith, x, y.0))
higher-through a b c (inr x) (inl y) = inl (omega (arith, x.0, y))
higher-through a b c (inr x) (inr y) = inr (x.0 ∙ y.0, omega (arith, x.1, y.1))

abbrev first : Cursor
first = record { asked = record { size = 0; align = 0; kind = kind.Linear }; low = record { block = 0; start = 0 } }

-- no cursor of the first ones that serves a request is higher
abbrev AreLower : List Cursor → Asked → ℕ → PoolPlace → Type 0
AreLower cursors asked i low = (k : ℕ) (d : Cursor) → k < i → IsAsLarge (request_in (get_or cursors k d).asked) (request_in asked) → IsHigher (start_of (get_or cursors k d).low) (start_of low) → ⊥

one-more : (cursors : List Cursor) (asked : Asked) (i : ℕ) (one : Cursor) → i < length cursors → (low new : PoolPlace) → AreLower cursors asked i low → ((p : BlockStart) → IsHigher p (start_of new) → IsHigher p (start_of low))
    → (IsAsLarge (request_in (get_or cursors i one).asked) (request_in asked) → IsHigher (start_of (get_or cursors i one).low) (start_of new) → ⊥) → AreLower cursors asked (i + 1) new
one-more cursors asked i one there low new before up last k d lt = elim (cases_lt k i) [
  | inl less ↦ λ large higher. before k d less large (up _ higher)
  | inr more ↦ (let is : k ≡ i = omega (arith, lt, more) in
      let at : get_or cursors k d ≡ get_or cursors i one = ap (λ (j : ℕ). get_or cursors j d) is ∙ get_or_default cursors i d one there in
      subst (λ (c : Cursor). IsAsLarge (request_in c.asked) (request_in asked) → IsHigher (start_of c.low) (start_of new) → ⊥) (sym at) last)
]

itself : (a : BlockStart) → IsHigher a a → ⊥
itself a (inl x) = omega (arith, x)
itself a (inr x) = omega (arith, x.1)

no : (r : Bool) (P : Type 0) → r ≡ false → IsTrue r ↔ P → P → ⊥
no r P is both holds = let e : r ≡ true = both.1 holds in both_ways r is e

pub loop-cursor-preserved : goal.loop-cursor-preserved
loop-cursor-preserved c =
    let cs = c.args.cursors.now in let i = c.loop-cursor.cursor-index in let was = c.loop-cursor.low in let before = c.loop-cursor.invariant in
    let one : Cursor = get_or cs i first in let at = Contains-get_or cs i first c.loop-cursor-test.true in
    elim c.if-serves.branch [
      | then-serves+then-is_higher w ↦ record {
        begins = subst (λ (p : PoolPlace). BeginsAt cs c.args.asked p) (sym w.low-is) (inr (at.0, one, at.1, at.2, (c.serves.ensures.0 w.if-serves.true, refl)));
        highest = subst (λ (p : PoolPlace). AreLower cs c.args.asked (i + 1) p) (sym w.low-is)
            (one-more cs c.args.asked i first c.loop-cursor-test.true was one.low before.highest
            (λ p higher. higher-through p (start_of one.low) (start_of was) higher (w.is_higher.ensures.0 w.if-is_higher.true)) (λ large higher. itself (start_of one.low) higher));
      }
      | else-serves w ↦ record {
        begins = subst (λ (p : PoolPlace). BeginsAt cs c.args.asked p) (sym w.low-is) before.begins;
        highest = subst (λ (p : PoolPlace). AreLower cs c.args.asked (i + 1) p) (sym w.low-is)
            (one-more cs c.args.asked i first c.loop-cursor-test.true was was before.highest (λ p higher. higher)
            (λ large higher. elim w.else-serves.branch [
              | else-serves-via-then-serves+else-is_higher v ↦ no v.is_higher.result _ v.if-is_higher.false v.is_higher.ensures higher
              | else-serves-via-else-serves v ↦ no c.serves.result _ v.if-serves.false c.serves.ensures large
            ]));
      }
    ]
