use Rattle.std.proofs.Common.{◌∙◌, ap}
use Rattle.std.specs.Prelude.{ℕ, nat_lt}
use Rattle.vk_model.specs.Rules.Mapping.{maps, unmaps}
use Rattle.vk_history.specs.Counted.{count_mapping}
use Rattle.vk_history.specs.PointViews.{past}
use Rattle.vk_history.proofs.history.History.is_mapped.Goals as goal

pub returns : goal.returns
returns c =
    let now = rw c.self.view_is at c.self.invariant in
    let all = past c.args.self.now in
    c.is_open.ensures all now.1.mappings ∙ ap (λ (k : ℕ). nat_lt (count_mapping all unmaps k) (count_mapping all maps k)) (c.mapping-mapping.ensures all now.1.objects)
