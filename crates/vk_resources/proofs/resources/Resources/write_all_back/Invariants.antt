use Rattle.vk_resources.proofs.WritingBack.{WrittenSoFar}
use Rattle.vk_resources.proofs.resources.Resources.write_all_back.Given as goal

abbrev pub invariant-loop-index : goal.invariant-loop-index
invariant-loop-index l = WrittenSoFar l.passes.moving l.index l.initial.self l.self
