use Rattle.std.proofs.Common.{List, Option, length, sym, ap, ◌∙◌}
use Rattle.vk_lag.specs.declared.late.Late.{Late}
use Rattle.vk_lag.proofs.ChunkLemmas.{length-bytes_of}
use Rattle.vk_lag.proofs.chunks.Chunks.size.Goals as goal

pub returns : goal.returns
returns c = sym (length-bytes_of c.self.inside.size c.self.inside.marks.items c.self.inside.values.items c.self.inside.writers.items) ∙ ap (λ (l : List (Option Late)). length l) c.self.view_is
