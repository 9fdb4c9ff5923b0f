use Rattle.std.proofs.Common.{subst, IfOk}
use Rattle.vk_resources.specs.Held.{Held}
use Rattle.vk_resources.specs.Inner.Steps.{MadeOr}
use Rattle.vk_resources.proofs.Backing.{backed_with, made, own_stays, grown_consistent}
use Rattle.vk_resources.proofs.resources.Resources.allocate.Goals as goal

pub invariant_of-self : goal.invariant_of-self
invariant_of-self c =
    let old : Held = record { memory = c.self.inside.memories; backed = c.self.inside.backing; resources = c.self.inside.resources.entries; shapes = c.self.inside.shapes.entries; cache = c.self.inside.cache } in
    grown_consistent old c.self.invariant c.own.new.self c.own.new.memories c.own.ensures.grows c.own.ensures.backed

pub returns-clause-made : goal.returns-clause-made
returns-clause-made c =
    let old : Held = record { memory = c.self.inside.memories; backed = c.self.inside.backing; resources = c.self.inside.resources.entries; shapes = c.self.inside.shapes.entries; cache = c.self.inside.cache } in
    let new : Held = backed_with old c.own.new.self c.own.new.memories in
    subst (λ (s : Held). IfOk c.own.result (λ o. MadeOr o s new c.args.id c.args.memory_type c.args.size)) c.self.view_is
    (made old c.own.new.self c.own.new.memories c.own.ensures.backed c.args.id c.args.memory_type c.args.size c.own.result c.own.ensures.owns c.own.ensures.whole (own_stays old c.own.new.self c.own.new.memories c.own.ensures.backed c.self.invariant.0.backed_is c.own.ensures.grows c.args.id c.args.memory_type c.args.size c.own.result c.own.ensures.owns c.own.ensures.alone) c.own.ensures.allots)
