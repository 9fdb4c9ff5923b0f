use Rattle.std.proofs.Common.{◌∙◌, sym, ap, Option}
use Rattle.vk_model.specs.World.Effect.{world}
use Rattle.vk_layouts.specs.ImageLayouts.{ImageLayouts}
use Rattle.vk_history.specs.Layouts.{kept_layout}
use Rattle.vk_history.proofs.Transitions.Undefined.{undefined_in}
use Rattle.vk_history.proofs.layouts.CurrentLayouts.is_in.Goals as goal

pub returns-in-None : goal.returns-in-None
returns-in-None c = λ past are.
    let none = c.in-None.ensures.value in
    c.is_in_undefined.ensures ∙ undefined_in (world past) c.args.image c.args.range.now c.args.layout (λ k m. sym (are.layouts_are c.args.image k m) ∙ ap (λ (o : Option ImageLayouts). kept_layout o k m) (sym none))
