use Rattle.std.proofs.Common.{map, Bool, ◌||◌, sym, ap, ◌∙◌}
use Rattle.std.specs.List.{list_any}
use Rattle.vk_model.specs.declared.command.ImageCopy.{ImageCopy}
use Rattle.vk_model.specs.World.Effect.{world}
use Rattle.vk_model.specs.Rules.Layouts.{bad_named}
use Rattle.vk_history.specs.PointViews.{past}
use Rattle.vk_rules.specs.Inner.Layouts.{source_part, destination_part}
use Rattle.vk_rules.proofs.PartLemmas.{any_of_two}
use Rattle.vk_rules.proofs.layouts.of_parts.Goals as goal

pub returns-in-CopyIn-clause-reported : goal.returns-in-CopyIn-clause-reported
returns-in-CopyIn-clause-reported c = rw c.in-CopyIn.is (rw (c.as_slice-in-CopyIn.ensures, c.code-in-CopyIn.ensures) at c.of_regions.ensures.reported)

pub returns-in-CopyOut-clause-reported : goal.returns-in-CopyOut-clause-reported
returns-in-CopyOut-clause-reported c = rw c.in-CopyOut.is (rw (c.as_slice-in-CopyOut.ensures, c.code-in-CopyOut.ensures) at c.of_regions-in-CopyOut.ensures.reported)

pub returns-in-Some-clause-reported : goal.returns-in-Some-clause-reported
returns-in-Some-clause-reported c =
    let v = c.in-CopyImage in
    let reported = c.in-Some.ensures.reported (map (destination_part v.destination v.destination_layout) v.regions) in
    rw v.is (rw (c.as_slice-in-CopyImage.ensures, c.code-in-CopyImage.ensures) at reported)

pub returns-in-None-clause-broken : goal.returns-in-None-clause-broken
returns-in-None-clause-broken c =
    let v = c.in-CopyImage in
    let wrong = bad_named (world (past c.args.history.now)) in
    let reads = source_part v.source v.source_layout in
    let writes = destination_part v.destination v.destination_layout in
    let read = rw (c.as_slice-in-CopyImage.ensures, c.code-in-CopyImage.ensures) at c.in-None.ensures.broken in
    let written = rw (c.as_slice-in-None.ensures, c.code-in-None.ensures) at c.of_destinations.ensures.broken in
    rw v.is (written ∙ ap (λ (b : Bool). b || list_any (λ (g : ImageCopy). wrong (writes g)) v.regions) read ∙ sym (any_of_two wrong reads writes v.regions))
