use Rattle.vk_model.proofs.Lists.Members.{place_has}
use Rattle.vk_model.specs.Run.Picks.{options}
use Rattle.vk_laws.proofs.Running.PickedSteps.{fits_allowed, option_fits, some_option}
use Rattle.vk_laws.proofs.Running.PickedRuns.{picked_lead, picked_run}
use Rattle.vk_laws.proofs.picked_runs.picks_are_runs.Goals as goal

pub returns : goal.returns
returns c = record {
  allowed = λ answer next s x k o is. fits_allowed s x o (option_fits s x answer next o (place_has (options answer next s x) k o is));
  there = λ answer next t steps s x xs run none left. some_option s x answer next (c.defined_runs_go_on.ensures t steps s x xs run none left);
  lead_on = λ answer next t steps s held x xs run none left. picked_lead answer next t (λ steps s x xs run left. c.defined_runs_go_on.ensures t steps s x xs run none left) steps s held x xs run left;
  runs = λ answer next t parts stop held none. picked_run answer next t (λ steps s x xs run left. c.defined_runs_go_on.ensures t steps s x xs run none left) parts stop held;
}
