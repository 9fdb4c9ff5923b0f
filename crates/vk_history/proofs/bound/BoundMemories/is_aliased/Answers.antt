use Rattle.std.proofs.Common.{◌≡◌, ◌∙◌, ap, sym, subst, Option, Some, None}
use Rattle.std.specs.Option.{option_copied}
use Rattle.std.specs.Ordering.{nat_cmp}
use Rattle.std.specs.BTreeMap.{get}
use Rattle.vk_buffer.specs.BoundMemory.{BoundMemory, is_aliased}
use Rattle.vk_history.specs.Bound.{IsBoundAt}
use Rattle.vk_history.proofs.Living.Bound.{aliased_there, aliased_nowhere}
use Rattle.vk_history.proofs.bound.BoundMemories.is_aliased.Goals as goal

pub returns-in-Some : goal.returns-in-Some
returns-in-Some c = λ past r are size kind.
    let m = c.args.memory in
    let there : get nat_cmp c.args.self.now.memories m ≡ Some c.in-Some.bindings.now = sym c.get.ensures.value ∙ ap option_copied c.in-Some.is in
    let bound = subst (λ (o : Option BoundMemory). IsBoundAt o past m) there (are m) in
    c.is_aliased.ensures ∙ ap (is_aliased c.in-Some.bindings.now c.args.offset c.args.size) kind ∙ aliased_there c.in-Some.bindings.now past m c.args.offset c.args.size r bound size

pub returns-in-None : goal.returns-in-None
returns-in-None c = λ past r are size kind.
    let m = c.args.memory in
    let there : get nat_cmp c.args.self.now.memories m ≡ None = sym c.get.ensures.value ∙ ap option_copied c.in-None.is in
    aliased_nowhere past m c.args.offset r (subst (λ (o : Option BoundMemory). IsBoundAt o past m) there (are m))
