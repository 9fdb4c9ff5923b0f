use Rattle.std.proofs.Common.{◌≡◌, ◌<◌, ◌≤◌, ◌∙◌, ◌⊎◌, inl, inr, ap, sym, ℕ, Some, slice_get, arith}
use Rattle.std.proofs.Math.Nat.{eq-or-lt_of_le}
use Rattle.std.proofs.lemmas.Option.{slice_get-get_or, slice_get_within}
use Rattle.vk_queues.specs.declared.lines.Line.{Line}
use Rattle.vk_queues.proofs.choosing.find_line.Goals as goal

pub returns-then-line-queue : goal.returns-then-line-queue
returns-then-line-queue c = (c.index-lines-k.result, slice_get-get_or c.args.lines.now c.loop-k.k c.index-lines-k.result c.loop-k-test.true ∙ ap Some (sym c.index-lines-k.is), c.if-line-queue.true)

pub loop-k-preserved : goal.loop-k-preserved
loop-k-preserved c = λ j line lt at same. go j line at same (eq-or-lt_of_le (let le : j ≤ c.loop-k.k = omega arith in le)) where
  go : (j : ℕ) (line : Line) → slice_get c.args.lines.now j ≡ Some line → line.queue ≡ c.args.queue → (j ≡ c.loop-k.k) ⊎ (j < c.loop-k.k) → ⊥
  go j line at same (inl here) =
      let is : Some line ≡ Some c.index-lines-k.result = sym at ∙ ap (λ (i : ℕ). slice_get c.args.lines.now i) here ∙ slice_get-get_or c.args.lines.now c.loop-k.k c.index-lines-k.result c.loop-k-test.true ∙ ap Some (sym c.index-lines-k.is) in
      let line_is : line ≡ c.index-lines-k.result = cc in
      c.if-line-queue.false (ap (λ (l : Line). l.queue) (sym line_is) ∙ same)
  go j line at same (inr early) = c.loop-k.invariant j line early at same

pub returns : goal.returns
returns c = λ k l at. c.loop-k.invariant k l (let lt = slice_get_within c.args.lines.now k l at in let end = c.loop-k-test.false in omega arith) at
