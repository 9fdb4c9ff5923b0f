use Rattle.std.proofs.Common.{◌∙◌, sym}
use Rattle.vk_history.specs.PointViews.{past}
use Rattle.vk_laws.proofs.Forms.Lying.{copy_out, clear_out, copy_in_out, copy_out_out, copy_image_out}
use Rattle.vk_rules.proofs.subresources.of_command.Goals as goal

pub returns-in-Clear-clause-broken : goal.returns-in-Clear-clause-broken
returns-in-Clear-clause-broken c = let v = c.in-Clear in rw v.is (c.of_clear.ensures.broken ∙ rw c.as_slice.ensures (sym (clear_out (past c.args.history.now) v.image v.layout v.color v.ranges)))

pub returns-in-CopyIn-clause-broken : goal.returns-in-CopyIn-clause-broken
returns-in-CopyIn-clause-broken c = let v = c.in-CopyIn in rw v.is (c.of_regions.ensures.broken ∙ rw c.as_slice-in-CopyIn.ensures (sym (copy_in_out (past c.args.history.now) v.buffer v.image v.layout v.regions)))

pub returns-in-CopyOut-clause-broken : goal.returns-in-CopyOut-clause-broken
returns-in-CopyOut-clause-broken c = let v = c.in-CopyOut in rw v.is (c.of_regions-in-CopyOut.ensures.broken ∙ rw c.as_slice-in-CopyOut.ensures (sym (copy_out_out (past c.args.history.now) v.image v.layout v.buffer v.regions)))

pub returns-in-CopyImage-clause-broken : goal.returns-in-CopyImage-clause-broken
returns-in-CopyImage-clause-broken c = let v = c.in-CopyImage in rw v.is (c.of_copy.ensures.broken ∙ rw c.as_slice-in-CopyImage.ensures (sym (copy_image_out (past c.args.history.now) v.source v.source_layout v.destination v.destination_layout v.regions)))

pub returns-in-Copy-clause-broken : goal.returns-in-Copy-clause-broken
returns-in-Copy-clause-broken c = let v = c.in-Copy in rw v.is (sym (copy_out (past c.args.history.now) v.source v.destination v.regions))
