use Rattle.std.proofs.Common.{◌≡◌, ◌∷◌, [], length, ap, sym, ◌∙◌, arith}
use Rattle.vk_model.specs.declared.command.Element.{Element}
use Rattle.vk_model.specs.Sync.Node.{Depends, Barrier}
use Rattle.vk_order.proofs.ActLemmas.{single_barrier}
use Rattle.vk_order.proofs.act.single_element.Goals as goal

pub returns : goal.returns
returns c =
    let one : length c.args.elements.now ≡ 1 = omega arith in
    single_barrier c.args.elements.now c.index-elements-0.result one ∙ ap (λ (e : Element). Depends Barrier e ∷ []) (sym c.index-elements-0.is)
