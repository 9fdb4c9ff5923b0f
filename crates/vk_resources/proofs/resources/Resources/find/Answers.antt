use Rattle.std.proofs.Common.{subst, IfOk}
use Rattle.vk_resources.specs.Held.{Held}
use Rattle.vk_resources.specs.Inner.Steps.{FoundOr}
use Rattle.vk_resources.proofs.Backing.{backed_with, found, grown_consistent}
use Rattle.vk_resources.proofs.resources.Resources.find.Goals as goal

pub invariant_of-self : goal.invariant_of-self
invariant_of-self c =
    let old : Held = record { memory = c.self.inside.memories; backed = c.self.inside.backing; resources = c.self.inside.resources.entries; shapes = c.self.inside.shapes.entries; cache = c.self.inside.cache } in
    grown_consistent old c.self.invariant c.share.new.self c.share.new.memories c.share.ensures.grows c.share.ensures.backed

pub returns-clause-found : goal.returns-clause-found
returns-clause-found c =
    let old : Held = record { memory = c.self.inside.memories; backed = c.self.inside.backing; resources = c.self.inside.resources.entries; shapes = c.self.inside.shapes.entries; cache = c.self.inside.cache } in
    let new : Held = backed_with old c.share.new.self c.share.new.memories in
    subst (λ (s : Held). IfOk c.share.result (λ o. FoundOr o s new c.args.id c.args.pool c.args.asked c.args.upper)) c.self.view_is
    (found old c.share.new.self c.share.new.memories c.share.ensures.backed c.args.id c.args.pool c.args.asked c.args.upper c.share.result c.share.ensures.shares c.share.ensures.whole c.share.ensures.allots)
