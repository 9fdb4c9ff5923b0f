use Rattle.std.proofs.Common.{◌≡◌, List, [], refl, ap, sym, ◌∙◌, subst}
use Rattle.std.specs.Option.{option_copied}
use Rattle.vk_history.specs.declared.last_uses.LastUse.{LastUse}
use Rattle.vk_history.specs.Uses.{AreLast, uses_in}
use Rattle.vk_history.proofs.Using.Lasts.{nothing_left}
use Rattle.vk_history.proofs.last_uses.LastUses.is_unfinished.Goals as goal

pub returns-in-Some : goal.returns-in-Some
returns-in-Some c = λ ns n new_node are.
    let at = sym c.get.ensures ∙ ap option_copied c.in-Some.is in
    let same : uses_in c.args.self.now c.args.resource ≡ c.as_slice.result.now = rw (at, uses_in) (sym c.as_slice.ensures.value) in
    c.is_some_left.ensures ns n c.args.resource new_node (subst (λ (l : List LastUse). AreLast l ns c.args.resource) same are)

pub returns-in-None : goal.returns-in-None
returns-in-None c = λ ns n new_node are.
    let at = sym c.get.ensures ∙ ap option_copied c.in-None.is in
    let same : uses_in c.args.self.now c.args.resource ≡ [] = rw (at, uses_in) refl in
    sym (nothing_left ns n c.args.resource c.args.new_node.now new_node (subst (λ (l : List LastUse). AreLast l ns c.args.resource) same are))
