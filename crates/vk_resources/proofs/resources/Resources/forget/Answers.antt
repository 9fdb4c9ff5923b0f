use Rattle.std.proofs.Common.{◌≡◌, Some, ap, sym, ◌∙◌, subst}
use Rattle.vk_resources.specs.Held.{Held}
use Rattle.vk_resources.specs.Inner.Steps.{Forgets, cached_at}
use Rattle.vk_resources.proofs.CachedSteps.{forgot_consistent, forgets, forgets_none}
use Rattle.vk_resources.proofs.resources.Resources.forget.Goals as goal

pub invariant_of-self : goal.invariant_of-self
invariant_of-self c =
    let s : Held = record { memory = c.self.inside.memories; backed = c.self.inside.backing; resources = c.self.inside.resources.entries; shapes = c.self.inside.shapes.entries; cache = c.self.inside.cache } in
    let here : cached_at s c.args.id ≡ Some c.in-Some.buffer = ap (λ (h : Held). cached_at h c.args.id) c.self.view_is ∙ sym c.cached.ensures ∙ c.in-Some.is in
    forgot_consistent s c.self.invariant c.args.id c.in-Some.buffer here c.drop_range.new.self c.drop_range.ensures

pub returns-in-Some-clause-forgets : goal.returns-in-Some-clause-forgets
returns-in-Some-clause-forgets c =
    let s : Held = record { memory = c.self.inside.memories; backed = c.self.inside.backing; resources = c.self.inside.resources.entries; shapes = c.self.inside.shapes.entries; cache = c.self.inside.cache } in
    let here : cached_at s c.args.id ≡ Some c.in-Some.buffer = ap (λ (h : Held). cached_at h c.args.id) c.self.view_is ∙ sym c.cached.ensures ∙ c.in-Some.is in
    subst (λ (h : Held). Forgets h (record s { cache = c.drop_range.new.self }) c.args.id) c.self.view_is (forgets s c.self.invariant c.args.id c.in-Some.buffer here c.drop_range.new.self c.drop_range.ensures)

pub returns-in_default-clause-forgets : goal.returns-in_default-clause-forgets
returns-in_default-clause-forgets c = forgets_none c.args.self.now c.args.id (sym c.in_default.ensures)
