use Rattle.std.proofs.Common.{subst, IfOk}
use Rattle.vk_resources.specs.Held.{Held}
use Rattle.vk_resources.specs.Inner.Steps.{MadeOr}
use Rattle.vk_resources.proofs.Backing.{backed_with, made, dedicated_stays, grown_consistent}
use Rattle.vk_resources.proofs.resources.Resources.dedicate.Goals as goal

pub invariant_of-self : goal.invariant_of-self
invariant_of-self c =
    let old : Held = record { memory = c.self.inside.memories; backed = c.self.inside.backing; resources = c.self.inside.resources.entries; shapes = c.self.inside.shapes.entries; cache = c.self.inside.cache } in
    grown_consistent old c.self.invariant c.dedicate.new.self c.dedicate.new.memories c.dedicate.ensures.grows c.dedicate.ensures.backed

pub returns-clause-made : goal.returns-clause-made
returns-clause-made c =
    let old : Held = record { memory = c.self.inside.memories; backed = c.self.inside.backing; resources = c.self.inside.resources.entries; shapes = c.self.inside.shapes.entries; cache = c.self.inside.cache } in
    let new : Held = backed_with old c.dedicate.new.self c.dedicate.new.memories in
    subst (λ (s : Held). IfOk c.dedicate.result (λ o. MadeOr o s new c.args.id c.args.memory_type c.args.asked.size)) c.self.view_is
    (made old c.dedicate.new.self c.dedicate.new.memories c.dedicate.ensures.backed c.args.id c.args.memory_type c.args.asked.size c.dedicate.result c.dedicate.ensures.owns c.dedicate.ensures.whole (dedicated_stays old c.dedicate.new.self c.dedicate.new.memories c.dedicate.ensures.backed c.self.invariant.0.backed_is c.dedicate.ensures.grows c.args.id c.args.memory_type c.args.asked c.dedicate.result c.dedicate.ensures.owns c.dedicate.ensures.dedicated) c.dedicate.ensures.allots)
