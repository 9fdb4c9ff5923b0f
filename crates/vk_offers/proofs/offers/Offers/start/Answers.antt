use Rattle.std.proofs.Common.{List, ap, sym, ◌∙◌, subst, refl, map, length}
use Rattle.std.proofs.lemmas.Result.{on_ok_weaker}
use Rattle.std.proofs.lemmas.List.{map-append}
use Rattle.vk_model.specs.Sync.Node.{Node, Runs, nodes}
use Rattle.vk_model.specs.Trace.PointViews.{point_of}
use Rattle.vk_order.specs.Frontiers.{IsFrontier}
use Rattle.vk_offers.proofs.Growing.{with_next}
use Rattle.vk_offers.proofs.Steps.{start_comes, begun, counts_of}
use Rattle.vk_offers.proofs.offers.Offers.start.Goals as goal

pub add-requires : goal.add-requires
add-requires c =
    let p = point_of c.args.point.now in
    let past = c.requires.0 in
    let is = c.requires.2.offers.frontier in
    let n : Node = record { number = length (nodes past); point = p; act = Runs c.args.command.now } in
    let counted = counts_of (nodes past) n c.in_ok-before.before c.before_is_order.ensures.forward (refl, is.numbers) (λ m q low there on. c.in_ok-before.ensures.first (nodes past) n m q is refl low there on) (λ q low. c.in_ok-before.ensures.there (nodes past) q is low) in
    start_comes c.growth_keeps.ensures c.before_is_order.ensures.forward c.commands_follow.ensures.commands c.commands_follow.ensures.ordered c.args.self.now p c.args.command.now c.args.pieces past c.requires.1 c.requires.2 c.in_ok-before.before counted

pub returns : goal.returns
returns c = on_ok_weaker c.add.result (λ added. λ past done m.
    let p = point_of c.args.point.now in
    let n : Node = record { number = length (nodes past); point = p; act = Runs c.args.command.now } in
    let is = m.offers.frontier in
    let counted = counts_of (nodes past) n c.in_ok-before.before c.before_is_order.ensures.forward (refl, is.numbers) (λ k q low there on. c.in_ok-before.ensures.first (nodes past) n k q is refl low there on) (λ q low. c.in_ok-before.ensures.there (nodes past) q is low) in
    begun c.growth_keeps.ensures c.before_is_order.ensures.forward c.commands_follow.ensures.commands c.commands_follow.ensures.ordered c.args.self.now p c.args.command.now c.args.pieces past done m c.in_ok-before.before counted _
    (subst (λ (ns : List Node). IsFrontier c.add_command.new.self ns) (sym (with_next c.growth_keeps.ensures c.before_is_order.ensures.forward past p c.args.command.now m.action m.run))
    (c.in_ok-before.ensures.added (nodes past) n m.offers.frontier refl)) (ap (λ items. map (λ d. Runs d.now) items) c.in_ok-push.ensures.items ∙ map-append (λ d. Runs d.now) c.args.self.now.commands.items _) added) c.add.ensures.ok
