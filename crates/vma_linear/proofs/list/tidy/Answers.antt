use Rattle.std.proofs.Common.{ap, sym, ◌∙◌, rules, length}
use Rattle.std.proofs.lemmas.Fn.{filter_same}
use Rattle.vma_linear.specs.declared.slots.Slot.{Slot}
use Rattle.vma_linear.proofs.Searching.{ordered_take}
use Rattle.vma_linear.proofs.Tidying.{ranges_of_live, live_slots}
use Rattle.vma_linear.proofs.list.tidy.Goals as goal

pub returns-then-saturating_sub-live-clause-same : goal.returns-then-saturating_sub-live-clause-same
returns-then-saturating_sub-live-clause-same c =
    ranges_of_live c.drop_end.new.slots.items _ (filter_same _ (λ (s : Slot). s.live) _ (λ x b f' k. search rules) _ _ c.retain.ensures.filtered) ∙ c.drop_end.ensures.same

pub returns-then-saturating_sub-live-clause-slots : goal.returns-then-saturating_sub-live-clause-slots
returns-then-saturating_sub-live-clause-slots c =
    live_slots _ c.drop_end.new.slots.items _ _ (ordered_take _ _ _ c.drop_end.ensures.front.0 c.requires.ordered c.drop_end.ensures.front.1)
    (filter_same _ (λ (s : Slot). s.live) _ (λ x b f' k. search rules) _ _ c.retain.ensures.filtered) (c.requires.count ∙ ap length (sym c.drop_end.ensures.same))
