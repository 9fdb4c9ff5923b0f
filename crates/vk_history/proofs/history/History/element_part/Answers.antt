use Rattle.std.proofs.Common.{subst, Option}
use Rattle.vk_model.specs.Sync.Node.{nodes}
use Rattle.vk_order.specs.declared.parts.Part.{Part}
use Rattle.vk_order.specs.Frontiers.{MayBeKeptOf}
use Rattle.vk_history.specs.PointViews.{past}
use Rattle.vk_history.proofs.history.History.element_part.Goals as goal

pub returns-in-Some : goal.returns-in-Some
returns-in-Some c =
    let now = rw c.self.view_is at c.self.invariant in
    let earlier = past c.args.self.now in
    λ n is apart. (now.1.frontier, subst (λ (o : Option Part). MayBeKeptOf c.self.inside.tables.frontier (nodes earlier) n o) c.in-Some.is (c.in_ok-known.ensures (nodes earlier) n now.1.frontier is (c.in_ok-new_node.ensures.new_node (nodes earlier) n now.1.frontier is apart)))

pub returns : goal.returns
returns c =
    let now = rw c.self.view_is at c.self.invariant in
    let earlier = past c.args.self.now in
    λ n is apart. subst (λ (o : Option Part). MayBeKeptOf c.self.inside.tables.frontier (nodes earlier) n o) c.in-None.is (c.in_ok-known.ensures (nodes earlier) n now.1.frontier is (c.in_ok-new_node.ensures.new_node (nodes earlier) n now.1.frontier is apart))
