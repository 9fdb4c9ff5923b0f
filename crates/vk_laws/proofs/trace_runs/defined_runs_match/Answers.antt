use Rattle.std.proofs.Common.{◌≡◌, List, None}
use Rattle.vk_model.specs.declared.entry.Entry.{Entry}
use Rattle.vk_model.specs.Rules.Table.{first_fault}
use Rattle.vk_laws.proofs.Running.StageTasks.{Known, known_of}
use Rattle.vk_laws.proofs.Running.DefinedRuns.{allowed_too, ended}
use Rattle.vk_laws.proofs.trace_runs.defined_runs_match.Goals as goal

pub returns : goal.returns
returns c =
    let known : (t : List Entry) → first_fault t ≡ None → Known t = known_of c.before_is_path.ensures c.before_is_order.ensures.transitive c.before_is_order.ensures.forward c.growth_keeps.ensures c.no_fault_is_sound.ensures in
    record {
      allowed = λ t steps e run none. allowed_too (known t none) steps e run;
      whole = λ t steps e run none over. ended (known t none) steps e run over;
    }
