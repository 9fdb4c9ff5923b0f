use Rattle.std.proofs.Common.{◌≤◌, ◌-◌, slice_index}
use Rattle.vk_image_transfer.specs.Inner.Lines.{line_place}
use Rattle.vk_image_transfer.specs.Rows.{AreWritten}
use Rattle.vk_image_transfer.proofs.moving.fill_texels.Given as goal

abbrev pub invariant-loop-x : goal.invariant-loop-x
invariant-loop-x l = record {
  within : l.x ≤ l.texels;
  written : AreWritten l.initial.region l.region l.x l.texel (line_place l.to) (λ x p. slice_index l.color p);
}

abbrev pub decreases-loop-x : goal.decreases-loop-x
decreases-loop-x l = l.texels - l.x
