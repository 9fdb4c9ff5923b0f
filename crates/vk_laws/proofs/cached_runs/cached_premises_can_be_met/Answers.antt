use Rattle.std.specs.Prelude.{refl}
use Rattle.vk_model.specs.Sync.Edge.{meet, edge}
use Rattle.vk_model.specs.Sync.Before.{before}
use Rattle.vk_model.specs.Sync.Seen.{seen}
use Rattle.vk_model.specs.Rules.Table.{breaks, first_rule, fault, first_fault}
use Rattle.vk_laws.specs.DefinedRuns.{Enters}
use Rattle.vk_laws.proofs.cached_runs.cached_premises_can_be_met.Goals as goal

pub returns : goal.returns
unfolding meet edge before seen breaks first_rule fault first_fault
returns c = record {
  no_fault = refl;
  old_copy = (_, (_, ((refl, refl, refl), refl), (_, ((refl, refl, refl), refl), (_, ((refl, refl, refl), refl), (_, ((refl, refl, refl), refl), (_, ((refl, refl, refl), refl), (_, ((refl, refl), refl), (_, ((refl, refl, refl), refl), refl))))))), refl, refl);
  is_seen = (_, (_, ((refl, refl, refl), refl), (_, ((refl, refl, refl), refl), (_, ((refl, refl, refl), refl), (_, ((refl, refl, refl), refl), (_, ((refl, refl, refl), refl), (_, ((refl, refl), refl), (_, ((refl, refl, refl), refl), (_, ((refl, refl, refl), refl), refl)))))))), Enters _ _ refl refl, refl, refl);
}
