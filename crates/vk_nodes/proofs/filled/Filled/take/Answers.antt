use Rattle.std.proofs.Common.{◌≡◌, refl, arith}
use Rattle.vk_nodes.proofs.FilledLemmas.{pop-room, pop-filled, pop-hands, next-filled, next-hands, none-left}
use Rattle.vk_nodes.proofs.filled.Filled.take.Goals as goal

pub name-slot-requires : goal.name-slot-requires
name-slot-requires c = pop-room _ _ c.self.view_is c.self.invariant c.if-self-gt0.true

pub invariant_of-self : goal.invariant_of-self
invariant_of-self c = pop-filled _ _ c.self.view_is c.self.invariant c.if-self-gt0.true _ _ _ c.name-slot.ensures c.hold.ensures.nodes c.hold.ensures.names

pub returns-then-self-gt0 : goal.returns-then-self-gt0
returns-then-self-gt0 c = pop-hands _ _ c.self.view_is c.self.invariant c.if-self-gt0.true _ _ _ c.name-slot.ensures c.hold.ensures.nodes c.hold.ensures.names c.empty.ensures

pub invariant_of-self-then-self : goal.invariant_of-self-then-self
invariant_of-self-then-self c = next-filled _ _ c.self.view_is c.self.invariant c.if-self.true _ _ c.hold-then-self.ensures.nodes c.hold-then-self.ensures.names

pub returns-then-self : goal.returns-then-self
returns-then-self c = next-hands _ _ c.self.view_is c.self.invariant c.if-self.true _ _ c.hold-then-self.ensures.nodes c.hold-then-self.ensures.names c.empty-then-self.ensures

pub returns : goal.returns
returns c = let none : c.self.inside.free ≡ 0 = omega (arith, c.if-self-gt0.false) in (none-left _ _ c.self.view_is c.self.invariant none c.if-self.false, refl)
