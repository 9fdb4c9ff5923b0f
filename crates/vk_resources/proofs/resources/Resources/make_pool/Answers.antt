use Rattle.std.proofs.Common.{subst, OnOk}
use Rattle.vk_resources.specs.Held.{Held}
use Rattle.vk_resources.specs.Inner.Steps.{PoolMade}
use Rattle.vk_resources.proofs.Backing.{pooled}
use Rattle.vk_resources.proofs.resources.Resources.make_pool.Goals as goal

pub returns-clause-made : goal.returns-clause-made
returns-clause-made c =
    let old : Held = record { memory = c.self.inside.memories; backed = c.self.inside.backing; resources = c.self.inside.resources.entries; shapes = c.self.inside.shapes.entries; cache = c.self.inside.cache } in
    let new : Held = record old { backed = c.pool.new.self } in
    subst (λ (s : Held). OnOk c.pool.result (PoolMade s new c.args.id c.args.info)) c.self.view_is
    (pooled old c.pool.new.self c.args.id c.args.info c.pool.result c.self.invariant.0.backed_is c.pool.ensures.backed c.pool.ensures.makes c.pool.ensures.whole c.pool.ensures.allots)
