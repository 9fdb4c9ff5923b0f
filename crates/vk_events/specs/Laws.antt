-- What happens, in the words of runs through caches, is what is free and wasn't seen to be.
use Rattle.std.specs.Prelude.{◌≡◌, []}
use Rattle.vk_model.specs.Sync.Node.{nodes}
use Rattle.vk_model.specs.Run.Runs.{Stage}
use Rattle.vk_model.specs.Run.CachedRuns.{node_happened, happening}
use Rattle.vk_events.specs.Happens.{is_finished, unseen}

-- From one stage of a run to another those happen that are free at the later one and hadn't happened at the earlier one.
abbrev pub HappeningIsUnseen : Type 0
HappeningIsUnseen = (s e : Stage) → happening s e ≡ unseen (nodes e.front.past) (is_finished e.front.past e.done) (node_happened s)

-- From a stage to itself nothing happens: what is free at it has happened.
abbrev pub NothingIsUnseen : Type 0
NothingIsUnseen = (s : Stage) → unseen (nodes s.front.past) (is_finished s.front.past s.done) (node_happened s) ≡ []
