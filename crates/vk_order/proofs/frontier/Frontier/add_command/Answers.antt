use Rattle.std.proofs.Common.{◌≡◌, ◌∷◌, ℕ, List, nat_lt, subst, length, refl, ap, sym, ◌∙◌, arith}
use Rattle.vk_model.specs.Sync.Node.{Node, Runs}
use Rattle.vk_model.specs.Sync.Edge.{edge}
use Rattle.vk_model.specs.Sync.Before.{IsNumbered}
use Rattle.vk_order.specs.declared.lines.Line.TheVariants.{Commands as OfCommands}
use Rattle.vk_model.specs.Trace.PointViews.{point_of}
use Rattle.vk_order.specs.Lines.{place}
use Rattle.vk_order.specs.Inner.Fronts.{IsFront}
use Rattle.vk_order.specs.Inner.Tallies.{lines_of}
use Rattle.vk_order.specs.Frontiers.{IsFrontier}
use Rattle.vk_order.proofs.PointLemmas.{plain_follows}
use Rattle.vk_order.proofs.NewNodeLemmas.{first_before}
use Rattle.vk_order.proofs.frontier.Frontier.add_command.Goals as goal

-- the front at hand is that of the command
module _ (c : goal.In_ok-add_at) (ns : List Node) (n : Node) (is : IsFrontier c.args.self.now ns) (node : n ≡ record { number = length ns; point = point_of c.args.point.now; act = Runs c.args.command.now }) where
  at_hand : IsFront ns (lines_of c.find_row.new.self.tallies.items) (λ k. edge ns k n) c.find_row.new.self.front
  at_hand = subst (λ (m : Node). IsFront ns (lines_of c.find_row.new.self.tallies.items) (λ k. edge ns k m) c.find_row.new.self.front) (sym node) (c.in_ok-at.ensures.front ns (plain_follows ns _ refl) is)

pub returns-clause-added : goal.returns-clause-added
returns-clause-added c = λ ns n is node. c.in_ok-add_at.ensures.kept ns n node (at_hand c ns n is node) (c.in_ok-at.ensures.kept ns is)

pub returns-clause-first : goal.returns-clause-first
returns-clause-first c = λ ns n m q is node low there on.
    let numbers : IsNumbered (n ∷ ns) = (ap (λ (k : Node). k.number) node, is.numbers) in
    let f = c.find_row.new.self in
    first_before ns n (lines_of f.tallies.items) (OfCommands q) f.front numbers (at_hand c ns n is node) m there on
    ∙ ap (λ (i : ℕ). nat_lt (place ns (OfCommands q) m.number) i) (sym (c.commands_at_hand-counts.ensures q low))

pub returns-clause-there : goal.returns-clause-there
returns-clause-there c = λ ns q is low.
    let f = c.find_row.new.self in
    let le = (c.in_ok-at.ensures.front ns (plain_follows ns _ refl) is).clock.join.bounded (OfCommands q) in
    let same = c.commands_at_hand-counts.ensures q low in
    omega arith
