use Rattle.std.proofs.Common.{ap, sym, ◌∙◌, List}
use Rattle.std.specs.List.{list_any}
use Rattle.vk_model.specs.declared.command.Cmd.{Cmd}
use Rattle.vk_model.specs.declared.command.Element.{Element}
use Rattle.vk_model.specs.Basics.{among, option_list}
use Rattle.vk_model.specs.Trace.Point.{Run}
use Rattle.vk_model.specs.World.Ownership.{named_by}
use Rattle.vk_model.specs.Sync.Complete.{names}
use Rattle.vk_findings.proofs.CommandLemmas.{barrier_names, command_names}
use Rattle.vk_findings.proofs.submitted.names.Goals as goal

pub returns-in-Barrier : goal.returns-in-Barrier
returns-in-Barrier c =
    let r = c.args.resource in
    c.some_names.ensures ∙ ap (λ (es : List Element). list_any (λ e. among r (option_list (named_by e))) es) c.as_slice.ensures ∙ barrier_names r c.in-Barrier.elements ∙ ap (λ (x : Cmd). names r (Run x)) (sym c.in-Barrier.is)

pub returns-in_default : goal.returns-in_default
returns-in_default c = c.has.ensures ∙ c.used_by.ensures c.args.resource ∙ command_names c.args.resource c.args.command.now c.in_default.not-Barrier
