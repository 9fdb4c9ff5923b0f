use Rattle.std.proofs.Common.{◌≡◌, ◌∙◌, ℕ, List, [], ◌∷◌, ◌++◌, map, Some, sym, ap, subst}
use Rattle.std.specs.Prelude.{Contains}
use Rattle.std.specs.BTreeMap.{get}
use Rattle.std.specs.Ordering.{nat_cmp}
use Rattle.std.specs.Map.Iter.{deref_pair}
use Rattle.std.proofs.lemmas.List.{map-append}
use Rattle.std.proofs.lemmas.List.Elements.{All-contains}
use Rattle.std.proofs.lemmas.Map.Iter.{iter_end, iter_turn}
use Rattle.vk_model.proofs.Lists.Members.{place_has}
use Rattle.vk_backing.specs.Backed.{Backed}
use Rattle.vk_backing.proofs.Named.{AreNamed, all_named, more_named, none_named}
use Rattle.vk_backing.proofs.passes.resources_by_number.Goals as goal

pub loop-resource-init : goal.loop-resource-init
loop-resource-init c = none_named c.args.backing.now.allocations c.new-ids.result.entries c.new-ids.ensures.empty

pub loop-resource-preserved : goal.loop-resource-preserved
loop-resource-preserved c =
    let all = c.backing.inside.allocations.entries in
    let turn = iter_turn deref_pair all c.loop-resource.yielded _ c.loop-resource.resource-iterator c.next.new.self c.next.result (c.into_iter-resource-iterator.ensures.into_iter_gives ∙ c.iter-resource-items.ensures.rest) c.loop-resource.yielded_by _ c.in-Some.is c.next.ensures.steps in
    let there : Contains all (c.in-Some.resource.now, c.in-Some.allocation.now) = place_has all _ (c.in-Some.resource.now, c.in-Some.allocation.now) turn.1 in
    let found : get nat_cmp c.backing.inside.allocations c.in-Some.resource.now ≡ Some c.in-Some.allocation.now = All-contains (λ (e : ℕ × ℕ). get nat_cmp c.backing.inside.allocations e.0 ≡ Some e.1) all (c.in-Some.resource.now, c.in-Some.allocation.now) c.iter-resource-items.ensures.found there in
    subst (λ (l : List (ℕ × ℕ)). AreNamed c.args.backing.now.allocations l c.insert.new.self.entries) (sym (map-append deref_pair c.loop-resource.yielded _))
    (subst (λ (b : Backed). AreNamed b.allocations (map deref_pair c.loop-resource.yielded ++ (c.in-Some.resource.now, c.in-Some.allocation.now) ∷ []) c.insert.new.self.entries) c.backing.view_is
    (more_named all (map deref_pair c.loop-resource.yielded) c.loop-resource.ids c.insert.new.self c.in-Some.resource.now c.in-Some.allocation.now
    (subst (λ (b : Backed). AreNamed b.allocations (map deref_pair c.loop-resource.yielded) c.loop-resource.ids.entries) (sym c.backing.view_is) c.loop-resource.invariant) c.in_ok-insert.ensures.updates found))

pub returns-clause-named : goal.returns-clause-named
returns-clause-named c = λ a id is. c.loop-resource.invariant.found a id is

pub returns-clause-all : goal.returns-clause-all
returns-clause-all c =
    let all = c.backing.inside.allocations.entries in
    let ended = iter_end deref_pair all c.loop-resource.yielded _ c.loop-resource.resource-iterator c.next.new.self c.next.result (c.into_iter-resource-iterator.ensures.into_iter_gives ∙ c.iter-resource-items.ensures.rest) c.loop-resource.yielded_by c.in-None.is c.next.ensures.steps in
    let whole = ended.0 ∙ ap (λ (b : Backed). b.allocations) c.backing.view_is in
    λ a id is. all_named c.args.backing.now.allocations c.loop-resource.ids.entries (subst (λ (l : List (ℕ × ℕ)). AreNamed c.args.backing.now.allocations l c.loop-resource.ids.entries) whole c.loop-resource.invariant) a id is
