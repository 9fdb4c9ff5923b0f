use Rattle.std.proofs.Common.{◌≡◌, ◌⊎◌, ◌+◌, ◌<◌, ◌≤◌, ℕ, Some, true, false, ⊎_elim, refl, sym, ap, ◌∙◌, subst, length, arith}
use Rattle.std.specs.Prelude.{slice_get}
use Rattle.std.proofs.lemmas.Bool.{cases_lt}
use Rattle.std.proofs.lemmas.Option.{slice_get_within, slice_get-get_or}
use Rattle.vk_order.specs.declared.acts.Row.{Row}
use Rattle.vk_order.proofs.SetLemmas.{is_step, step_on, links_end}
use Rattle.vk_order.proofs.before.is_before_by_links.Goals as goal

pub loop-middle-init : goal.loop-middle-init
loop-middle-init c = λ q r at set at_n kept k x lt le e. absurd (omega arith)

pub loop-middle-preserved : goal.loop-middle-preserved
loop-middle-preserved c = λ q r at set at_n kept k x lt le e.
    ⊎_elim
    (λ low. c.loop-middle.invariant q r at set at_n kept k x lt low e)
    (λ high.
    let same : c.loop-middle.middle ≡ k = omega arith in
    let there : slice_get c.args.rows.now c.loop-middle.middle ≡ Some x = ap (slice_get c.args.rows.now) same ∙ e in
    let off : is_step c.args.rows.now c.args.first q at set c.loop-middle.middle x c.args.second r ≡ false = sym (c.is_step.ensures q x r at there at_n set kept) ∙ c.if-is_step.false in
    subst (λ (i : ℕ). is_step c.args.rows.now c.args.first q at set i x c.args.second r ≡ false) same off)
    (cases_lt k c.loop-middle.middle)

pub returns-then-is_step : goal.returns-then-is_step
returns-then-is_step c = λ q r at at_n set kept.
    let low : c.loop-middle.middle < length c.args.rows.now = (let a = c.loop-middle-test.true in let b = slice_get_within c.args.rows.now c.args.second r at_n in omega arith) in
    let there = slice_get-get_or c.args.rows.now c.loop-middle.middle q low in
    let x : Row = Rattle.std.proofs.Common.get_or c.args.rows.now c.loop-middle.middle q in
    sym (step_on c.args.rows.now c.args.first q at set c.loop-middle.middle c.args.second x r there at_n (let a = c.loop-middle.auto.middle in omega arith) (sym (c.is_step.ensures q x r at there at_n set kept) ∙ c.if-is_step.true))

pub returns : goal.returns
returns c = λ q r at at_n set kept.
    sym (links_end c.args.rows.now c.args.first q at set c.args.second r at_n (λ k x lt le e. c.loop-middle.invariant q r at set at_n kept k x lt (let a = c.loop-middle-test.false in omega arith) e))
