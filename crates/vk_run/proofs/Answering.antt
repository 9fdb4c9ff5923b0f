-- What a replay reports is the answer.
use Rattle.std.proofs.Common.{◌≡◌, ℕ, List, length, sym, ap, ◌∙◌, Option, Some, None}
use Rattle.std.specs.Prelude.{MatchOption}
use Rattle.vk_model.specs.Memory.HeapSizes.{HeapSizes}
use Rattle.vk_model.specs.declared.entry.Entry.{Entry}
use Rattle.vk_model.specs.Rules.Table.{first_fault}
use Rattle.vk_model.specs.World.Meaning.{meaning}
use Rattle.vk_trace.specs.declared.printing.Outcome.{Outcome}
use Rattle.vk_trace.specs.declared.printing.Outcome.TheVariants as outcome
use Rattle.vk_cache_laws.specs.ThroughCaches.{CachedRunsReadTheMeaning, CachedRunsReadTheWhole, CachedRunsAreNotStuck}
use Rattle.vk_run.specs.Run.{Ends, IsAnswer, IsAnswerThroughCaches, HoldThroughCaches}

pub answered : (config : HeapSizes) (t : List Entry) (reads : List (ℕ × List ℕ)) (stop : Option ℕ) → first_fault t ≡ None → Ends config t stop → MatchOption stop (reads ≡ meaning t (length t)) (λ n. reads ≡ meaning t n) → IsAnswer config t (outcome.Reads reads stop)
answered config t reads None sound ends means = (sound, ends, means)
answered config t reads (Some n) sound ends means = (sound, ends, means)

-- and it holds on a device whose queues have caches
pub holds_through : (config : HeapSizes) (t : List Entry) (o : Outcome) → IsAnswer config t o → CachedRunsReadTheMeaning → CachedRunsReadTheWhole → CachedRunsAreNotStuck → IsAnswerThroughCaches t o
holds_through config t (outcome.Refused at rule) is some whole goes_on = tt
holds_through config t (outcome.Reads reads None) is some whole goes_on = record {
  same = λ first steps e run left. whole t first steps e run is.0 left ∙ sym is.2;
  goes_on = λ first steps s x xs run left. goes_on t first steps s x xs run is.0 left;
}
holds_through config t (outcome.Reads reads (Some n)) is some whole goes_on = record {
  same = λ first steps e run at. some t first steps e run is.0 ∙ ap (λ (k : ℕ). meaning t k) at ∙ sym is.2;
  goes_on = λ first steps s x xs run left. goes_on t first steps s x xs run is.0 left;
}
