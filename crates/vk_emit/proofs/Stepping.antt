-- Steps that are laid out one after another make the past of their points.
use Rattle.std.proofs.Common.{◌≡◌, List, [], ◌∷◌, ◌++◌}
use Rattle.std.proofs.lemmas.List.Sums.{fold-append}
use Rattle.vk_model.specs.Trace.Point.{Past}
use Rattle.vk_row_text.specs.declared.steps.Step.{Step}
use Rattle.vk_emit.specs.Steps.{past_with, after_step}

pub past_with-push : (past : Past) (steps : List Step) (s : Step) → past_with past (steps ++ s ∷ []) ≡ after_step (past_with past steps) s
past_with-push past steps s = fold-append after_step past steps (s ∷ [])
