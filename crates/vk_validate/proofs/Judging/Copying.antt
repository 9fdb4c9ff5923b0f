-- Commands that copy numbers, as they are judged.
use Rattle.std.proofs.Common.{◌≡◌, ℕ, List, [], ◌∷◌}
use Rattle.vk_model.specs.declared.command.BufferCopy.{BufferCopy}
use Rattle.vk_model.specs.declared.command.Cmd.{Cmd}
use Rattle.vk_model.specs.Sync.Node.{Runs, acts}
use Rattle.vk_model.specs.Trace.Point.{Past, Point, Run}
use Rattle.vk_history.proofs.Kept.CopySteps.{CopiesNumbers}
use Rattle.vk_validate.specs.Inner.Copies.{IsCopyBy}

-- one with a single act that copies numbers
pub copy_by : (past : Past) (p : Point) (c : Cmd) (s d : ℕ) (gs : List BufferCopy) → p.action ≡ Run c → acts (Run c) ≡ Runs c ∷ [] → CopiesNumbers past p c s d gs → IsCopyBy past p s d gs
copy_by past p c s d gs is one copies = record {
  command = c;
  runs = is;
  alone = one;
  writes = copies.writes;
  source_there = copies.source_there;
  destination_there = copies.destination_there;
  reads_fit = copies.reads_fit;
  writes_fit = copies.writes_fit;
}
