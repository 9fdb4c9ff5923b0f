use Rattle.std.proofs.Common.{◌++◌, ◌∙◌, ap}
use Rattle.std.specs.Prelude.{string_bytes, codes}
use Rattle.std.specs.List.{flat_map}
use Rattle.vk_row_text.specs.declared.names.BatchName.TheVariants.{BatchWait, BatchSignal}
use Rattle.vk_row_text.specs.Texts.{batch_line, command_lines, submit_line}
use Rattle.vk_row_text.proofs.Joins.{five_more}
use Rattle.vk_row_text.proofs.batches.push_batch.Goals as goal

pub returns : goal.returns
returns c =
    let b = c.args.batch.now in
    five_more (string_bytes c.args.out.now) (batch_line b.entry b.batch b.queue) (flat_map (submit_line BatchWait) b.content.now.waits)
    (command_lines b.entry b.batch 0 b.content.now.commands) (flat_map (submit_line BatchSignal) b.content.now.signals) (codes "    END_BATCH\n")
    (string_bytes c.push_beginning.new.out) (string_bytes c.push_submits.new.out) (string_bytes c.push_commands.new.out) (string_bytes c.push_submits-2.new.out) (string_bytes c.push_str.new.self)
    c.in_ok-push_beginning.ensures
    (c.in_ok-push_submits.ensures ∙ ap (λ l. string_bytes c.push_beginning.new.out ++ flat_map (submit_line BatchWait) l) c.as_slice.ensures)
    (c.in_ok-push_commands.ensures ∙ ap (λ l. string_bytes c.push_submits.new.out ++ command_lines b.entry b.batch 0 l) c.as_slice-2.ensures)
    (c.in_ok-push_submits-2.ensures ∙ ap (λ l. string_bytes c.push_commands.new.out ++ flat_map (submit_line BatchSignal) l) c.as_slice-3.ensures)
    c.in_ok-push_str.ensures.bytes
