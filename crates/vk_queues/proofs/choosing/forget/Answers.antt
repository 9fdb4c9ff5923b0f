use Rattle.std.proofs.Common.{inl, inr, ◌∙◌, refl, ap, arith}
use Rattle.std.proofs.Math.Seq.{map-set_same}
use Rattle.vk_queues.specs.declared.lines.Line.{Line}
use Rattle.vk_queues.specs.Inner.Lined.{queued}
use Rattle.vk_queues.proofs.Lists.{set_cases}
use Rattle.vk_queues.proofs.Lining.{met_nowhere}
use Rattle.vk_queues.proofs.choosing.forget.Goals as goal

pub loop-k-preserved : goal.loop-k-preserved
loop-k-preserved c = (
  map-set_same queued c.loop-k.lines c.loop-k.k _ c.index-lines-k.result refl ∙ c.loop-k.invariant.0,
  λ j line lt at. elim (set_cases c.loop-k.lines c.loop-k.k j _ line at) [
    | inl same ↦ ap (λ (l : Line). l.met) same.1
    | inr other ↦ c.loop-k.invariant.1 j line (let ne = other.0 in omega arith) other.1
  ],
)

pub returns-clause-met : goal.returns-clause-met
returns-clause-met c = λ past. met_nowhere past c.loop-k.lines (λ k l lt at. c.loop-k.invariant.1 k l (let end = c.loop-k-test.false in omega arith) at)
