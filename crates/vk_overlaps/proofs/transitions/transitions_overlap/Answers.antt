use Rattle.std.proofs.Common.{◌≡◌, [], ap, sym, ◌∙◌}
use Rattle.std.proofs.lemmas.Result.{IfOk-weaker}
use Rattle.vk_model.specs.Basics.{some_pair}
use Rattle.vk_model.specs.Rules.Ranges.{transitions_meet}
use Rattle.vk_overlaps.specs.Extents.{parts_overlap}
use Rattle.vk_overlaps.proofs.ListPairs.{too_few}
use Rattle.vk_overlaps.proofs.Places.{transitions_alone}
use Rattle.vk_overlaps.proofs.transitions.transitions_overlap.Goals as goal

pub returns-then-elements-lt2 : goal.returns-then-elements-lt2
returns-then-elements-lt2 c = sym (too_few transitions_meet c.args.elements.now c.if-elements-lt2.true)

pub returns : goal.returns
returns c =
    IfOk-weaker c.overlap.result (λ found. found ≡ parts_overlap c.as_slice.result.now []) (λ found. found ≡ some_pair transitions_meet c.args.elements.now)
    (λ found e. e ∙ ap (λ ws. parts_overlap ws []) (c.as_slice.ensures.value ∙ c.in_ok-parts.ensures) ∙ transitions_alone c.args.elements.now)
    c.overlap.ensures
