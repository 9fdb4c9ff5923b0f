use Rattle.std.proofs.Common.{◌≡◌, ℕ, List, sym, subst}
use Rattle.vk_model.specs.declared.resource.ImageInfo.{ImageInfo}
use Rattle.vk_resources.specs.Held.{Held, IsConsistent, AreShaped, placed_in}
use Rattle.vk_resources.specs.Inner.Steps.{PutReady}
use Rattle.vk_resources.proofs.Putting.{put_places, put_bare, put_shaped}
use Rattle.vk_resources.proofs.resources.Resources.put.Goals as goal
use Rattle.vk_model.proofs.Lists.Keys.{other_key}

pub invariant_of-self-in_default : goal.invariant_of-self-in_default
invariant_of-self-in_default c =
    let s : Held = record { memory = c.self.inside.memories; backed = c.self.inside.backing; resources = c.self.inside.resources.entries; shapes = c.self.inside.shapes.entries; cache = c.self.inside.cache } in
    let ready : PutReady s c.args.id c.args.placed c.args.shape = subst (λ (h : Held). IsConsistent h → PutReady h c.args.id c.args.placed c.args.shape) (sym c.self.view_is) c.requires.ready c.self.invariant in
    let updates = c.in_ok-insert.ensures.updates in
    let others : (q : ℕ) → (q ≡ c.args.id → ⊥) → placed_in c.insert.new.self.entries q ≡ placed_in s.resources q = λ q other. updates.2 q (other_key c.args.id q other) in
    let both = put_places s c.args.id c.args.placed c.args.shape c.self.invariant ready c.insert.new.self.entries updates.1 others in
    (both.0, both.1, put_bare s c.args.id c.args.placed c.args.shape c.self.invariant ready c.insert.new.self.entries updates.1 others)

pub invariant_of-self-in_err-insert-2 : goal.invariant_of-self-in_err-insert-2
invariant_of-self-in_err-insert-2 c =
    let s : Held = record { memory = c.self.inside.memories; backed = c.self.inside.backing; resources = c.self.inside.resources.entries; shapes = c.self.inside.shapes.entries; cache = c.self.inside.cache } in
    let ready : PutReady s c.args.id c.args.placed c.args.shape = subst (λ (h : Held). IsConsistent h → PutReady h c.args.id c.args.placed c.args.shape) (sym c.self.view_is) c.requires.ready c.self.invariant in
    let updates = c.in_ok-insert.ensures.updates in
    let others : (q : ℕ) → (q ≡ c.args.id → ⊥) → placed_in c.insert.new.self.entries q ≡ placed_in s.resources q = λ q other. updates.2 q (other_key c.args.id q other) in
    let both = put_places s c.args.id c.args.placed c.args.shape c.self.invariant ready c.insert.new.self.entries updates.1 others in
    (both.0, both.1, subst (λ (l : List (ℕ × ImageInfo)). AreShaped c.insert.new.self.entries l) (sym c.in_err-insert-2.ensures.err) (put_bare s c.args.id c.args.placed c.args.shape c.self.invariant ready c.insert.new.self.entries updates.1 others))

pub invariant_of-self-in_ok-insert-2 : goal.invariant_of-self-in_ok-insert-2
invariant_of-self-in_ok-insert-2 c =
    let s : Held = record { memory = c.self.inside.memories; backed = c.self.inside.backing; resources = c.self.inside.resources.entries; shapes = c.self.inside.shapes.entries; cache = c.self.inside.cache } in
    let ready : PutReady s c.args.id c.args.placed c.args.shape = subst (λ (h : Held). IsConsistent h → PutReady h c.args.id c.args.placed c.args.shape) (sym c.self.view_is) c.requires.ready c.self.invariant in
    let updates = c.in_ok-insert.ensures.updates in
    let others : (q : ℕ) → (q ≡ c.args.id → ⊥) → placed_in c.insert.new.self.entries q ≡ placed_in s.resources q = λ q other. updates.2 q (other_key c.args.id q other) in
    let both = put_places s c.args.id c.args.placed c.args.shape c.self.invariant ready c.insert.new.self.entries updates.1 others in
    let shapes = c.in_ok-insert-2.ensures.updates in (
      both.0,
      both.1,
      put_shaped s c.args.id c.args.placed c.args.shape c.self.invariant ready c.insert.new.self.entries updates.1 others c.in-Some.shape c.in-Some.is c.insert-in-Some.new.self.entries shapes.1 (λ q other. shapes.2 q (other_key c.args.id q other)),
    )
