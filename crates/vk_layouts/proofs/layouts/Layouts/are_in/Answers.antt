use Rattle.std.proofs.Common.{[], List, ℕ, arith, sym, ap, ◌∙◌, length, slice_index}
use Rattle.std.proofs.lemmas.List.{get_or_read}
use Rattle.vk_model.proofs.Lists.Truths.{no}
use Rattle.vk_layouts.specs.ImageLayouts.{ImageLayouts, layout_at}
use Rattle.vk_layouts.proofs.layouts.Layouts.are_in.Goals as goal

pub returns-then-not-are_in : goal.returns-then-not-are_in
returns-then-not-are_in c = (
  λ yes. no yes,
  λ all.
      let level = c.loop-level.level in
      let levels = ap (λ (s : ImageLayouts). length s.levels) c.self.view_is in
      let layers = ap (λ (s : ImageLayouts). s.layers) c.self.view_is in
      sym c.if-not-are_in.true ∙ c.are_in.ensures.1 (λ layer low high.
      let in_levels = (c.part-levels.ensures.numbers level).0 (omega arith, omega arith) in
      let in_layers = (c.part-layers.ensures.numbers layer).0 (low, high) in
      let there = in_levels.1 in
      let there' = in_layers.1 in
      let is = all level layer in_levels.0 in_layers.0 (omega arith) (omega arith) in
      let same = ap (λ (s : ImageLayouts). layout_at s level layer) c.self.view_is in
      ap (λ (there : List ℕ). slice_index there layer) (get_or_read c.self.inside.levels.items level _ (omega arith) c.index.ensures []) ∙ same ∙ is),
)
