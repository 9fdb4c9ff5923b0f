use Rattle.std.proofs.Common.{◌≡◌, ℕ, Option, sym, ap, ◌∙◌}
use Rattle.vk_model.specs.declared.command.Cmd.TheVariants as cmd
use Rattle.vk_model.specs.Trace.Point.{Past}
use Rattle.vk_model.specs.World.ByteWrites.{buffer_size}
use Rattle.vk_history.specs.PointViews.{past}
use Rattle.vk_rules.specs.declared.items.Item.{Item}
use Rattle.vk_rules.specs.declared.ranges.PastBytes.{PastBytes}
use Rattle.vk_rules.specs.Ranges.{Named, IsPastOf, command_bytes}
use Rattle.vk_rules.proofs.ranges.of_copy.Goals as goal

of_its_buffer : (past : Past) (b size : ℕ) (names : Item → Option Named) (m : PastBytes) → m.buffer ≡ b → size ≡ buffer_size past b → IsPastOf size names m → IsPastOf (buffer_size past m.buffer) names m
of_its_buffer past b size names m its is reported = (reported.0, reported.1 ∙ is ∙ ap (buffer_size past) (sym its), reported.2)

pub returns-in-Some-clause-reported : goal.returns-in-Some-clause-reported
returns-in-Some-clause-reported c =
    let reported = c.in-Some.ensures.reported in
    of_its_buffer (past c.args.history.now) _ _ (command_bytes (cmd.Copy c.args.source c.args.destination c.args.regions.now)) c.in-Some.past reported.0 c.size.ensures (reported.1 c.args.destination)

pub returns-in_ok-past-in-None-clause-reported : goal.returns-in_ok-past-in-None-clause-reported
returns-in_ok-past-in-None-clause-reported c =
    let reported = c.in_ok-past-in-None.ensures.reported in
    of_its_buffer (past c.args.history.now) _ _ (command_bytes (cmd.Copy c.args.source c.args.destination c.args.regions.now)) c.in_ok-past-in-None.past reported.0 c.size-in-None.ensures (reported.1 c.args.source)
