-- What the steps of a plan are, as points of a trace.
use Rattle.std.specs.Prelude.{List, [], ◌∷◌}
use Rattle.std.specs.List.{fold}
use Rattle.vk_model.specs.Trace.Point.{Past}
use Rattle.vk_model.specs.Trace.Order.{host, started}
use Rattle.vk_queues.specs.PointViews.{batch_of}
use Rattle.vk_row_text.specs.declared.steps.Step.{Step}
use Rattle.vk_row_text.specs.declared.steps.Step.TheVariants as step

-- The past after a step: the point of an entry, or the waits, the commands and the signals of a batch (Vulkan, "Queue Submission").
abbrev pub after_step : Past → Step → Past
after_step past (step.Entry e x) = host e x.now ∷ past
after_step past (step.Batch b) = started (batch_of b) past

-- The past after steps, in their order.
abbrev pub past_with : Past → List Step → Past
past_with past steps = fold after_step past steps

-- The points of steps, the newest first.
abbrev pub past_of_steps : List Step → Past
past_of_steps steps = past_with [] steps
