use Rattle.std.proofs.Common.{rules}
use Rattle.vk_image_bytes.specs.Ranges.{has_number}
use Rattle.vk_history.proofs.resource_contents.ResourceContents.define.Goals as goal

pub returns : goal.returns
returns c = record {
  hits = has_number c.ranges-ranges.result;
  reached = λ m is. (c.ranges-ranges.ensures.ranges m is).bytes;
  changed = search rules;
}
