use Rattle.std.proofs.Common.{◌≡◌, ap, sym, ◌∙◌, subst, refl}
use Rattle.vk_resources.specs.Held.{Held}
use Rattle.vk_resources.specs.Inner.Steps.{IsEmpty, Forgets}
use Rattle.vk_resources.proofs.CachedSteps.{all_ended, bare_object, all_none}
use Rattle.vk_resources.proofs.resources.Resources.end.Goals as goal
use Rattle.vk_model.proofs.Lists.Keys.{other_key}

pub invariant_of-self : goal.invariant_of-self
invariant_of-self c =
    let n : Held = record { memory = c.self.inside.memories; backed = c.self.inside.backing; resources = c.self.inside.resources.entries; shapes = c.self.inside.shapes.entries; cache = c.self.inside.cache } in
    let s = c.args.self.now in
    let memory : n.memory ≡ s.memory = ap (λ (h : Held). h.memory) c.self.view_is ∙ c.forget.ensures.memory in
    let backed : n.backed ≡ s.backed = ap (λ (h : Held). h.backed) c.self.view_is ∙ c.forget.ensures.backed in
    let resources : n.resources ≡ s.resources = ap (λ (h : Held). h.resources) c.self.view_is ∙ c.forget.ensures.resources in
    let shapes : n.shapes ≡ s.shapes = ap (λ (h : Held). h.shapes) c.self.view_is ∙ c.forget.ensures.shapes in
    let forgets : Forgets s n c.args.id = subst (λ (h : Held). Forgets s h c.args.id) (sym c.self.view_is) c.forget.ensures.forgets in
    let empty : IsEmpty s c.args.id = c.requires.empty c.forget.ensures.consistent in
    let gone = c.remove.ensures.updates in
    let bare = c.remove-2.ensures.updates in
    let none = bare_object s n c.args.id memory backed resources shapes c.forget.ensures.consistent c.self.invariant forgets empty c.release.new.self c.release.new.memories c.release.result c.release.ensures.releases c.release.ensures.backed c.in-Some.object c.in-Some.is in
    (all_ended s n c.args.id memory backed resources shapes c.forget.ensures.consistent c.self.invariant forgets empty c.release.new.self c.release.new.memories c.release.result c.release.ensures.releases c.release.ensures.backed
    c.remove.new.self.entries c.remove-2.new.self.entries c.drop_range.new.self (all_none c.in-Some.object 0 9223372036854775808 n.cache c.drop_range.new.self c.drop_range.ensures none)
    gone.1 (λ b other. gone.2 b (other_key c.args.id b other)) bare.1 (λ b other. bare.2 b (other_key c.args.id b other)) c.release.ensures.whole c.release.ensures.allots).0

pub returns-in-Some-clause-ended : goal.returns-in-Some-clause-ended
returns-in-Some-clause-ended c =
    let n : Held = record { memory = c.self.inside.memories; backed = c.self.inside.backing; resources = c.self.inside.resources.entries; shapes = c.self.inside.shapes.entries; cache = c.self.inside.cache } in
    let s = c.args.self.now in
    let memory : n.memory ≡ s.memory = ap (λ (h : Held). h.memory) c.self.view_is ∙ c.forget.ensures.memory in
    let backed : n.backed ≡ s.backed = ap (λ (h : Held). h.backed) c.self.view_is ∙ c.forget.ensures.backed in
    let resources : n.resources ≡ s.resources = ap (λ (h : Held). h.resources) c.self.view_is ∙ c.forget.ensures.resources in
    let shapes : n.shapes ≡ s.shapes = ap (λ (h : Held). h.shapes) c.self.view_is ∙ c.forget.ensures.shapes in
    let forgets : Forgets s n c.args.id = subst (λ (h : Held). Forgets s h c.args.id) (sym c.self.view_is) c.forget.ensures.forgets in
    let empty : IsEmpty s c.args.id = c.requires.empty c.forget.ensures.consistent in
    let gone = c.remove.ensures.updates in
    let bare = c.remove-2.ensures.updates in
    let none = bare_object s n c.args.id memory backed resources shapes c.forget.ensures.consistent c.self.invariant forgets empty c.release.new.self c.release.new.memories c.release.result c.release.ensures.releases c.release.ensures.backed c.in-Some.object c.in-Some.is in
    (all_ended s n c.args.id memory backed resources shapes c.forget.ensures.consistent c.self.invariant forgets empty c.release.new.self c.release.new.memories c.release.result c.release.ensures.releases c.release.ensures.backed
    c.remove.new.self.entries c.remove-2.new.self.entries c.drop_range.new.self (all_none c.in-Some.object 0 9223372036854775808 n.cache c.drop_range.new.self c.drop_range.ensures none)
    gone.1 (λ b other. gone.2 b (other_key c.args.id b other)) bare.1 (λ b other. bare.2 b (other_key c.args.id b other)) c.release.ensures.whole c.release.ensures.allots).1

pub invariant_of-self-in_default : goal.invariant_of-self-in_default
invariant_of-self-in_default c =
    let n : Held = record { memory = c.self.inside.memories; backed = c.self.inside.backing; resources = c.self.inside.resources.entries; shapes = c.self.inside.shapes.entries; cache = c.self.inside.cache } in
    let s = c.args.self.now in
    let memory : n.memory ≡ s.memory = ap (λ (h : Held). h.memory) c.self.view_is ∙ c.forget.ensures.memory in
    let backed : n.backed ≡ s.backed = ap (λ (h : Held). h.backed) c.self.view_is ∙ c.forget.ensures.backed in
    let resources : n.resources ≡ s.resources = ap (λ (h : Held). h.resources) c.self.view_is ∙ c.forget.ensures.resources in
    let shapes : n.shapes ≡ s.shapes = ap (λ (h : Held). h.shapes) c.self.view_is ∙ c.forget.ensures.shapes in
    let forgets : Forgets s n c.args.id = subst (λ (h : Held). Forgets s h c.args.id) (sym c.self.view_is) c.forget.ensures.forgets in
    let empty : IsEmpty s c.args.id = c.requires.empty c.forget.ensures.consistent in
    let gone = c.remove.ensures.updates in
    let bare = c.remove-2.ensures.updates in
    (all_ended s n c.args.id memory backed resources shapes c.forget.ensures.consistent c.self.invariant forgets empty c.release.new.self c.release.new.memories c.release.result c.release.ensures.releases c.release.ensures.backed
    c.remove.new.self.entries c.remove-2.new.self.entries c.self.inside.cache (λ number k. refl)
    gone.1 (λ b other. gone.2 b (other_key c.args.id b other)) bare.1 (λ b other. bare.2 b (other_key c.args.id b other)) c.release.ensures.whole c.release.ensures.allots).0

pub returns-in_default-clause-ended : goal.returns-in_default-clause-ended
returns-in_default-clause-ended c =
    let n : Held = record { memory = c.self.inside.memories; backed = c.self.inside.backing; resources = c.self.inside.resources.entries; shapes = c.self.inside.shapes.entries; cache = c.self.inside.cache } in
    let s = c.args.self.now in
    let memory : n.memory ≡ s.memory = ap (λ (h : Held). h.memory) c.self.view_is ∙ c.forget.ensures.memory in
    let backed : n.backed ≡ s.backed = ap (λ (h : Held). h.backed) c.self.view_is ∙ c.forget.ensures.backed in
    let resources : n.resources ≡ s.resources = ap (λ (h : Held). h.resources) c.self.view_is ∙ c.forget.ensures.resources in
    let shapes : n.shapes ≡ s.shapes = ap (λ (h : Held). h.shapes) c.self.view_is ∙ c.forget.ensures.shapes in
    let forgets : Forgets s n c.args.id = subst (λ (h : Held). Forgets s h c.args.id) (sym c.self.view_is) c.forget.ensures.forgets in
    let empty : IsEmpty s c.args.id = c.requires.empty c.forget.ensures.consistent in
    let gone = c.remove.ensures.updates in
    let bare = c.remove-2.ensures.updates in
    (all_ended s n c.args.id memory backed resources shapes c.forget.ensures.consistent c.self.invariant forgets empty c.release.new.self c.release.new.memories c.release.result c.release.ensures.releases c.release.ensures.backed
    c.remove.new.self.entries c.remove-2.new.self.entries c.self.inside.cache (λ number k. refl)
    gone.1 (λ b other. gone.2 b (other_key c.args.id b other)) bare.1 (λ b other. bare.2 b (other_key c.args.id b other)) c.release.ensures.whole c.release.ensures.allots).1
