use Rattle.std.proofs.Common.{◌≡◌, ℕ, ◌+◌, List, ap, sym, subst, ◌∙◌, arith, Result, Ok, Err, true}
use Rattle.std.specs.Prelude.{OnOk}
use Rattle.std.specs.Result.{is_ok}
use Rattle.std.proofs.lemmas.List.{get_or-map, length-map}
use Rattle.vk_model.specs.Basics.{below}
use Rattle.vk_transfer.specs.Counted.{AreCounted}
use Rattle.vk_transfer.proofs.Counting.{more_counted, whole_sum}
use Rattle.vma_defrag.specs.State.{part_count}
use Rattle.vma_defrag.specs.Bytes.{no_move}
use Rattle.vma_defrag.specs.Inner.Planned.{move_of, moves_of}
use Rattle.vma_defrag.proofs.parts.Parts.of.Goals as goal

went-well : {A E P : Type 0} (r : Result A E) → true ≡ is_ok r → OnOk r P → P
went-well (Ok a) is p = p
went-well (Err e) is p = absurd cc

pub loop-one-preserved : goal.loop-one-preserved
loop-one-preserved c =
    let ps = c.args.planned.now in let ms = moves_of ps in let i = c.loop-one.one-index in
    subst (λ (l : List ℕ). AreCounted part_count ms (i + 1) l) (sym (went-well c.add.result c.in_ok-map_err.ensures.variant c.add.ensures.more))
    (more_counted part_count ms i c.parts_in.result no_move c.loop-one.counts (omega (arith, c.loop-one-test.true, length-map ps move_of)) c.loop-one.invariant
    (c.parts_in.ensures ∙ ap part_count (sym (get_or-map move_of ps i _ no_move c.loop-one-test.true))))

pub returns-clause-left : goal.returns-clause-left
returns-clause-left c =
    let ps = c.args.planned.now in let ms = moves_of ps in
    let all = subst (λ (n : ℕ). AreCounted part_count ms n c.loop-one.counts) (omega (arith, c.loop-one-test.false, c.loop-one.auto.one-index-end, length-map ps move_of)) c.loop-one.invariant in
    c.in_ok-left.ensures ∙ ap (λ (n : ℕ). below n) (c.all.ensures ∙ whole_sum part_count ms c.loop-one.counts all)
