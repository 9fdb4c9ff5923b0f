use Rattle.std.proofs.Common.{◌∙◌, ap, sym, List}
use Rattle.std.specs.List.{list_any}
use Rattle.vk_model.specs.declared.command.Cmd.{Cmd}
use Rattle.vk_model.specs.declared.command.Element.{Element}
use Rattle.vk_model.specs.World.Bytes.{resource_at}
use Rattle.vk_model.specs.Rules.Passes.{moves_now}
use Rattle.vk_model.specs.Sync.Access.{transition_bytes}
use Rattle.vk_model.specs.Sync.Node.{command_acts}
use Rattle.vk_history.specs.PointViews.{past}
use Rattle.vk_rules.specs.Passes.{acts_write}
use Rattle.vk_rules.proofs.Writing.Moving.{barrier_writes, command_writes, barrier_reported, command_reported}
use Rattle.vk_rules.proofs.passes.by_command.Goals as goal

pub returns-in-Barrier-clause-broken : goal.returns-in-Barrier-clause-broken
returns-in-Barrier-clause-broken c =
    let all = past c.args.history.now in
    let q = c.args.queue in
    c.by_elements.ensures.broken ∙ ap (λ (es : List Element). list_any (λ e. list_any (λ b. moves_now all (resource_at b)) (transition_bytes all q e)) es) c.as_slice.ensures
    ∙ barrier_writes all q (moves_now all) c.in-Barrier.elements ∙ ap (λ (x : Cmd). acts_write all q (moves_now all) (command_acts x)) (sym c.in-Barrier.is)

pub returns-in-Barrier-clause-written : goal.returns-in-Barrier-clause-written
returns-in-Barrier-clause-written c = barrier_reported (past c.args.history.now) c.args.queue c.args.command.now c.in-Barrier.elements c.as_slice.result.now c.by_elements.result c.in-Barrier.is c.as_slice.ensures c.by_elements.ensures.written

pub returns-in_default : goal.returns-in_default
returns-in_default c =
    let all = past c.args.history.now in
    let q = c.args.queue in
    let w = c.written.result in
    record {
      broken = c.written_in_pass.ensures.found ∙ command_writes all q (moves_now all) w c.args.command.now c.in_default.not-Barrier c.written.ensures;
      written = command_reported all q c.args.command.now w c.written_in_pass.result c.in_default.not-Barrier c.written.ensures c.written_in_pass.ensures.same;
      reported = c.written_in_pass.ensures.reported;
    }
