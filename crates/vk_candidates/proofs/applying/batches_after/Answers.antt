use Rattle.std.proofs.Common.{◌∙◌, sym, rules}
use Rattle.vk_candidates.specs.Edits.{batch_after}
use Rattle.vk_candidates.proofs.Changes.{at_index_past, put_back}
use Rattle.vk_candidates.proofs.applying.batches_after.Goals as goal

pub returns-then-at-len : goal.returns-then-at-len
returns-then-at-len c = sym (at_index_past (batch_after c.args.change c.args.at.place c.args.member.now) c.args.at.batch c.args.batches.items (search rules))

pub returns : goal.returns
returns c =
    c.in_ok-whole.ensures
    ∙ put_back (batch_after c.args.change c.args.at.place c.args.member.now) c.args.at.batch c.remove-batch.result c.in_ok-after.after c.args.batches.items _ (search rules) c.remove-batch.ensures.value c.remove-batch.ensures.items c.in_ok-after.ensures
