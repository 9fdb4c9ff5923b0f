use Rattle.std.proofs.Common.{◌∙◌, sym, rules}
use Rattle.vk_candidates.specs.Edits.{at_batch, batch_after}
use Rattle.vk_candidates.proofs.Changes.{at_index_past, put_back}
use Rattle.vk_candidates.proofs.applying.with_member.Goals as goal

pub returns-then-at-len : goal.returns-then-at-len
returns-then-at-len c = sym (at_index_past (at_batch (batch_after c.args.change c.args.at.place c.args.member.now) c.args.at.batch) c.args.at.entry c.args.trace.items (search rules))

pub returns : goal.returns
returns c =
    c.in_ok-whole.ensures
    ∙ put_back (at_batch (batch_after c.args.change c.args.at.place c.args.member.now) c.args.at.batch) c.args.at.entry c.remove-entry.result c.in_ok-after.after c.args.trace.items _ (search rules) c.remove-entry.ensures.value c.remove-entry.ensures.items c.in_ok-after.ensures
