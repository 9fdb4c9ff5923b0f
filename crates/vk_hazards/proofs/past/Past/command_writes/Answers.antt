use Rattle.std.proofs.Common.{ℕ, ◌+◌, ◌%◌, List, map, subst, ap, ◌∙◌}
use Rattle.std.specs.List.{enumerate_from}
use Rattle.vk_model.specs.Basics.{below, byte_of}
use Rattle.vk_model.specs.World.Bytes.{in_buffer}
use Rattle.vk_model.specs.Sync.Access.{targets}
use Rattle.vk_hazards.specs.Areas.{AreAreas}
use Rattle.vk_model.specs.World.ByteWrites.{Value, byte_write, fill_size}
use Rattle.vk_hazards.proofs.CommandAreas.{written_by}
use Rattle.vk_hazards.proofs.past.Past.command_writes.Goals as goal

pub returns-in_ok-areas-in-Fill : goal.returns-in_ok-areas-in-Fill
returns-in_ok-areas-in-Fill c =
    let w = c.in-Fill in
    let size = c.filled-size.ensures ∙ ap (λ (m : ℕ). fill_size m w.offset w.size) c.buffer_size.ensures in
    written_by c.args.self.now c.in_ok-areas-in-Fill.areas.items _ _ w.is
    (subst (λ (n : ℕ). AreAreas c.in_ok-areas-in-Fill.areas.items (targets (map (λ k. byte_write (in_buffer w.buffer (w.offset + k)) (Value (byte_of w.word (k % 4)))) (below n)))) size (c.in_ok-areas-in-Fill.ensures w.word))

pub returns-in_ok-areas-in-Update : goal.returns-in_ok-areas-in-Update
returns-in_ok-areas-in-Update c =
    let w = c.in-Update in
    written_by c.args.self.now c.in_ok-areas-in-Update.areas.items _ _ w.is
    (subst (λ (l : List ℕ). AreAreas c.in_ok-areas-in-Update.areas.items (targets (map (λ p. byte_write (in_buffer w.buffer (w.offset + p.0)) (Value p.1)) (enumerate_from 0 l)))) c.as_slice.ensures c.in_ok-areas-in-Update.ensures)
