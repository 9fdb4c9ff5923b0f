use Rattle.std.proofs.Common.{ℕ, ◌+◌, List, [], ◌∷◌, ◌++◌, length, get_or, true, false, refl, sym, ap, subst, ◌∙◌, arith}
use Rattle.vma_pools.specs.Listing.{AreByPlace}
use Rattle.vma_pools.specs.State.{PoolsState, Backs}
use Rattle.vma_pools.specs.Exhausted.{IsExhaustedBefore}
use Rattle.vma_defrag.specs.declared.open.Fate.TheVariants.{Made}
use Rattle.vma_defrag.specs.declared.open.Planned.{Planned}
use Rattle.vma_defrag.specs.Plans.{ArePlanned}
use Rattle.vma_defrag.specs.Inner.Planned.{moves_of}
use Rattle.vma_defrag.specs.Inner.Choosing.{HasReserved}
use Rattle.vma_defrag.proofs.Walk.{all-chosen, first-chosen}
use Rattle.vma_defrag.proofs.Searches.{no-cursors, same-cursors}
use Rattle.vma_defrag.proofs.Turns.{begins-turn, movable-turn, own-turn, passed-turn, ended-turn, limit-answer, moved-turn, none-answer, renamed, some-answer, target-turn}
use Rattle.vma_defrag.proofs.choosing.reserve_each.Goals as goal
use Rattle.vma_defrag.proofs.choosing.reserve_each.Goals.{then-is_passed+else-is_some, else-is_passed+in_ok-reserve+in_ok-to+in-Some, else-is_passed+in_ok-reserve+in_ok-to+in-None}

pub loop-allocation-init : goal.loop-allocation-init
loop-allocation-init g c = record {
  chosen = first-chosen c.args.pools.now c.args.pool c.args.limits.bytes c.args.limits.moves c.deref-allocation-items.result.now c.args.planned.now.items c.are_pools.ensures c.requires.general c.requires.planned
      (subst (λ (l : List ℕ). AreByPlace c.args.pools.now c.args.pool l) (sym c.deref-allocation-items.ensures.value) c.in_ok-listed.ensures) c.requires.none;
  cursors = no-cursors c.args.pools.now c.args.pool c.new-cursors.result.items c.new-cursors.ensures.items;
  backs = λ m backs. backs;
}

pub at-own-requires : goal.at-own-requires
at-own-requires g c =
    let ns = c.deref-allocation-items.result.now in let i = c.loop-allocation.allocation-index in
    movable-turn c.args.pools.now c.loop-allocation.pools c.args.pool c.args.limits.bytes c.args.limits.moves c.loop-allocation.bytes c.loop-allocation.planned.items ns i c.loop-allocation.invariant.chosen (get_or ns i 0) c.loop-allocation-test.true refl

pub lower_place-requires-clause-movable : goal.lower_place-requires-clause-movable
lower_place-requires-clause-movable g c =
    let ns = c.deref-allocation-items.result.now in let i = c.loop-allocation.allocation-index in
    movable-turn c.args.pools.now c.loop-allocation.pools c.args.pool c.args.limits.bytes c.args.limits.moves c.loop-allocation.bytes c.loop-allocation.planned.items ns i c.loop-allocation.invariant.chosen (get_or ns i 0) c.loop-allocation-test.true refl

pub reserve_lower-requires-clause-movable : goal.reserve_lower-requires-clause-movable
reserve_lower-requires-clause-movable g c =
    let ns = c.deref-allocation-items.result.now in let i = c.loop-allocation.allocation-index in
    movable-turn c.args.pools.now c.loop-allocation.pools c.args.pool c.args.limits.bytes c.args.limits.moves c.loop-allocation.bytes c.loop-allocation.planned.items ns i c.loop-allocation.invariant.chosen (get_or ns i 0) c.loop-allocation-test.true refl

pub lower_place-requires-clause-low : goal.lower_place-requires-clause-low
lower_place-requires-clause-low g c =
    let ns = c.deref-allocation-items.result.now in let i = c.loop-allocation.allocation-index in
    begins-turn c.args.pools.now c.loop-allocation.pools c.args.pool c.args.limits.bytes c.args.limits.moves c.loop-allocation.bytes c.loop-allocation.planned.items ns i c.loop-allocation.invariant.chosen (get_or ns i 0) c.loop-allocation-test.true refl
    c.at-own.result c.at-own.ensures c.loop-allocation.cursors.items c.loop-allocation.invariant.cursors c.low_for-low.result (rw c.deref.ensures.value at c.low_for-low.ensures.begins)

pub reserve_lower-requires-clause-low : goal.reserve_lower-requires-clause-low
reserve_lower-requires-clause-low g c =
    let ns = c.deref-allocation-items.result.now in let i = c.loop-allocation.allocation-index in
    begins-turn c.args.pools.now c.loop-allocation.pools c.args.pool c.args.limits.bytes c.args.limits.moves c.loop-allocation.bytes c.loop-allocation.planned.items ns i c.loop-allocation.invariant.chosen (get_or ns i 0) c.loop-allocation-test.true refl
    c.at-own.result c.at-own.ensures c.loop-allocation.cursors.items c.loop-allocation.invariant.cursors c.low_for-low.result (rw c.deref.ensures.value at c.low_for-low.ensures.begins)

pub returns-then-is_some-clause-chosen : goal.returns-then-is_some-clause-chosen
returns-then-is_some-clause-chosen g c =
    let ns = c.deref-allocation-items.result.now in let i = c.loop-allocation.allocation-index in
    let some = some-answer _ _ c.lower_place.result (sym c.is_some.ensures ∙ c.if-is_some.true) c.lower_place.ensures.lower in
    let over = limit-answer c.args.limits.bytes c.args.limits.moves c.loop-allocation.bytes (length c.loop-allocation.planned.items) c.len.result c.at-own.result.asked.size c.is_passed.result true
    (omega (arith, c.len.ensures, c.loop-allocation.planned.ok)) c.is_passed.ensures.passed c.if-is_passed.true in
    ended-turn c.args.pools.now c.loop-allocation.pools c.args.pool c.args.limits.bytes c.args.limits.moves c.loop-allocation.bytes c.loop-allocation.planned.items ns i c.loop-allocation.invariant.chosen (get_or ns i 0) c.loop-allocation-test.true refl
    c.at-own.result c.at-own.ensures over some.0 some.1

pub returns-then-is_some-clause-planned : goal.returns-then-is_some-clause-planned
returns-then-is_some-clause-planned g c = c.loop-allocation.invariant.chosen.planned

pub returns-then-is_some-clause-reserved : goal.returns-then-is_some-clause-reserved
returns-then-is_some-clause-reserved g c = c.loop-allocation.invariant.chosen.reserved

pub returns-in_err-reserve-clause-planned : goal.returns-in_err-reserve-clause-planned
returns-in_err-reserve-clause-planned g c =
    subst (λ (l : List Planned). ArePlanned c.loop-allocation.pools c.args.pool (moves_of l)) (sym c.reserve.ensures.items) c.loop-allocation.invariant.chosen.planned

pub returns-in_err-reserve-clause-reserved : goal.returns-in_err-reserve-clause-reserved
returns-in_err-reserve-clause-reserved g c =
    subst (λ (l : List Planned). HasReserved c.args.pools.now c.loop-allocation.pools (moves_of l)) (sym c.reserve.ensures.items) c.loop-allocation.invariant.chosen.reserved

pub returns-in_err-to-clause-planned : goal.returns-in_err-to-clause-planned
returns-in_err-to-clause-planned g c =
    subst (λ (s : PoolsState). ArePlanned s c.args.pool (moves_of c.reserve.new.self.items)) (sym c.in_err-to.ensures.err)
    (subst (λ (l : List Planned). ArePlanned c.loop-allocation.pools c.args.pool (moves_of l)) (sym c.reserve.ensures.items) c.loop-allocation.invariant.chosen.planned)

pub returns-in_err-to-clause-reserved : goal.returns-in_err-to-clause-reserved
returns-in_err-to-clause-reserved g c =
    subst (λ (s : PoolsState). HasReserved c.args.pools.now s (moves_of c.reserve.new.self.items)) (sym c.in_err-to.ensures.err)
    (subst (λ (l : List Planned). HasReserved c.args.pools.now c.loop-allocation.pools (moves_of l)) (sym c.reserve.ensures.items) c.loop-allocation.invariant.chosen.reserved)

pub returns-clause-chosen : goal.returns-clause-chosen
returns-clause-chosen g c =
    all-chosen c.args.pools.now c.loop-allocation.pools c.args.pool c.args.limits.bytes c.args.limits.moves c.loop-allocation.bytes c.loop-allocation.planned.items c.deref-allocation-items.result.now c.loop-allocation.allocation-index
    c.loop-allocation.invariant.chosen c.loop-allocation-test.false

pub returns-clause-planned : goal.returns-clause-planned
returns-clause-planned g c = c.loop-allocation.invariant.chosen.planned

pub returns-clause-reserved : goal.returns-clause-reserved
returns-clause-reserved g c = c.loop-allocation.invariant.chosen.reserved

pub loop-allocation-preserved : goal.loop-allocation-preserved
loop-allocation-preserved g c =
    let old = c.args.pools.now in let now = c.loop-allocation.pools in let p = c.args.pool in let mb = c.args.limits.bytes in let mm = c.args.limits.moves in
    let ns = c.deref-allocation-items.result.now in let i = c.loop-allocation.allocation-index in let b = c.loop-allocation.bytes in let ps = c.loop-allocation.planned.items in
    let own = c.at-own.result in let cs = c.loop-allocation.cursors.items in
    elim c.if-is_passed.branch [
      | then-is_passed+else-is_some w ↦ record {
        chosen = renamed old now c.if-is_passed.pools p mb mm b c.if-is_passed.bytes ps c.if-is_passed.planned.items ns (i + 1) w.pools-is w.bytes-is (ap (λ v. v.items) w.planned-is)
            (passed-turn old now p mb mm b ps ns i c.loop-allocation.invariant.chosen (get_or ns i 0) c.loop-allocation-test.true refl
            (none-answer _ _ w.lower_place.result (sym w.is_some.ensures ∙ w.if-is_some.false) w.lower_place.ensures.lower));
        cursors = same-cursors p now c.if-is_passed.pools w.keep.new.cursors.items c.if-is_passed.cursors.items w.pools-is (ap (λ v. v.items) w.cursors-is)
            (own-turn old now p mb mm b ps ns i c.loop-allocation.invariant.chosen (get_or ns i 0) c.loop-allocation-test.true refl own c.at-own.ensures cs c.loop-allocation.invariant.cursors
            (none-answer _ _ w.lower_place.result (sym w.is_some.ensures ∙ w.if-is_some.false) w.lower_place.ensures.exhausted) w.keep.new.cursors.items w.keep.ensures);
        backs = λ m backs. subst (λ (s : PoolsState). Backs s m) (sym w.pools-is) (c.loop-allocation.invariant.backs m backs);
      }
      | else-is_passed+in_ok-reserve+in_ok-to+in-Some w ↦ record {
        chosen = renamed old w.reserve_lower.new.self c.if-is_passed.pools p mb mm w.saturating_add-bytes.result c.if-is_passed.bytes w.push_reserved.new.self.items c.if-is_passed.planned.items ns (i + 1) w.pools-is w.bytes-is (ap (λ v. v.items) w.planned-is)
            (moved-turn old now p mb mm b ps ns i c.loop-allocation.invariant.chosen (get_or ns i 0) c.loop-allocation-test.true refl own c.at-own.ensures
            (limit-answer mb mm b (length ps) c.len.result own.asked.size c.is_passed.result false (omega (arith, c.len.ensures, c.loop-allocation.planned.ok)) c.is_passed.ensures.passed w.if-is_passed.false) c.is_passed.ensures.small
            w.reserve_lower.new.self w.in-Some.to (rw w.in-Some.is at w.in_ok-to.ensures.ok) w.saturating_add-bytes.result w.saturating_add-bytes.ensures w.push_reserved.new.self.items
            (w.push_reserved.ensures.items ∙ ap (λ (l : List Planned). l ++ record { allocation = get_or ns i 0; to = w.in-Some.to; bytes = own.asked.size; fate = Made } ∷ []) w.reserve.ensures.items));
        cursors = same-cursors p w.reserve_lower.new.self c.if-is_passed.pools w.keep-in-Some.new.cursors.items c.if-is_passed.cursors.items w.pools-is (ap (λ v. v.items) w.cursors-is)
            (target-turn old now p mb mm b ps ns i c.loop-allocation.invariant.chosen (get_or ns i 0) c.loop-allocation-test.true refl own c.at-own.ensures cs c.loop-allocation.invariant.cursors
            w.reserve_lower.new.self w.in-Some.to (rw w.in-Some.is at w.in_ok-to.ensures.ok) (rw w.in-Some.is at w.in_ok-to.ensures.exhausted).1 w.keep-in-Some.new.cursors.items w.keep-in-Some.ensures);
        backs = λ m backs. subst (λ (s : PoolsState). Backs s m) (sym w.pools-is) (w.reserve_lower.ensures.backs m (c.loop-allocation.invariant.backs m backs));
      }
      | else-is_passed+in_ok-reserve+in_ok-to+in-None w ↦ (let none = rw w.in-None.is at w.in_ok-to.ensures.ok in record {
        chosen = renamed old now c.if-is_passed.pools p mb mm b c.if-is_passed.bytes ps c.if-is_passed.planned.items ns (i + 1) (w.pools-is ∙ none.1) w.bytes-is (ap (λ v. v.items) w.planned-is ∙ w.reserve.ensures.items)
            (passed-turn old now p mb mm b ps ns i c.loop-allocation.invariant.chosen (get_or ns i 0) c.loop-allocation-test.true refl none.0);
        cursors = same-cursors p now c.if-is_passed.pools w.keep-in-None.new.cursors.items c.if-is_passed.cursors.items (w.pools-is ∙ none.1) (ap (λ v. v.items) w.cursors-is)
            (own-turn old now p mb mm b ps ns i c.loop-allocation.invariant.chosen (get_or ns i 0) c.loop-allocation-test.true refl own c.at-own.ensures cs c.loop-allocation.invariant.cursors
            (subst (λ (s : PoolsState). IsExhaustedBefore s (get_or ns i 0)) none.1 (rw w.in-None.is at w.in_ok-to.ensures.exhausted)) w.keep-in-None.new.cursors.items w.keep-in-None.ensures);
        backs = λ m backs. subst (λ (s : PoolsState). Backs s m) (sym (w.pools-is ∙ none.1)) (c.loop-allocation.invariant.backs m backs);
      })
    ]
