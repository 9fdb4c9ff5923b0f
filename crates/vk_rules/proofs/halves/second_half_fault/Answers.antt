use Rattle.std.proofs.Common.{◌≡◌, ◌&&◌, Bool, true, not, refl, ap, sym, ◌∙◌, subst, Some, None, Option, option_map}
use Rattle.vk_model.specs.Basics.{holds}
use Rattle.vk_model.specs.Sync.Before.{before}
use Rattle.vk_model.specs.Sync.Node.{Node, nodes}
use Rattle.vk_model.specs.Rules.Owners.{is_released_for, is_release_of, release_before}
use Rattle.vk_model.specs.World.Bytes as world
use Rattle.vk_model.specs.World.Effect as effect
use Rattle.vk_model.proofs.Lists.Members.{found}
use Rattle.vk_order.specs.declared.parts.Spot.{Spot}
use Rattle.vk_history.specs.declared.owners.Owned.{Owned}
use Rattle.vk_history.specs.Owners.{kept_of, IsOwned, IsLastRelease}
use Rattle.vk_history.specs.PointViews.{past}
use Rattle.vk_rules.proofs.halves.second_half_fault.Goals as goal

some_same : {A : Type 0} {a b : A} → Some a ≡ Some b → a ≡ b
some_same {A} {a} {b} e = ap (λ (o : Option A). elim o [ None ↦ a | Some x ↦ x ]) e

pub returns-in_ok-is_before-in-Some-Released-clause-second : goal.returns-in_ok-is_before-in-Some-Released-clause-second
returns-in_ok-is_before-in-Some-Released-clause-second c = λ done all n after none.
    let before_it = past c.args.history.now in
    let r = c.args.resource in
    let release = c.in-Some-Released.release in
    let owned : IsOwned (Some (record { owner = world.Released release.family release.element.now; release = Some release.spot })) ((effect.world before_it).owner r) (nodes before_it) r =
    subst (λ (o : Option Owned). IsOwned (option_map kept_of o) ((effect.world before_it).owner r) (nodes before_it) r) (c.in-Some-Released.is ∙ ap Some c.in-Some-Released.field-0-is) c.owner.ensures in
    let last = owned.released (record { owner = world.Released release.family release.element.now; release = Some release.spot }) refl refl in
    let at : IsLastRelease (nodes before_it) r release.spot = subst (λ (s : Spot). IsLastRelease (nodes before_it) r s) (sym (some_same last.1)) last.2 in
    let there = (found (is_release_of r) (nodes before_it) at.node at.last).0 in
    let paired : is_released_for c.args.element.now ((effect.world before_it).owner r) ≡ true = ap (is_released_for c.args.element.now) (sym owned.owner) ∙ sym c.is_pair.ensures ∙ c.if-not-is_pair.false in
    let earlier_is : release_before all r n ≡ before all at.node n = ap (λ (o : Option Node). holds o (λ m. before all m n)) (after.releases r none ∙ at.last) in
    c.unordered.ensures.broken
    ∙ ap not
    (c.in_ok-is_before-in-Some-Released.ensures at.node _ refl after.apart there at.line at.place ∙ sym (after.alone at.node there) ∙ sym earlier_is ∙ sym (ap (λ (x : Bool). x && release_before all r n) paired))
