use Rattle.std.proofs.Common.{ℕ, List, length, ap, ◌∙◌, arith}
use Rattle.memory_steps.proofs.FillLemmas.{length_filled}
use Rattle.memory_steps.proofs.buffers.fill_words.Goals as goal

pub returns-clause-size : goal.returns-clause-size
returns-clause-size c = ap (λ (l : List ℕ). length l) c.fill.ensures ∙ length_filled c.args.region.now 0 c.args.words c.args.word (omega (arith, c.requires))
