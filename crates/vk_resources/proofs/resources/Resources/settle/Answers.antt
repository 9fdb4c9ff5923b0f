use Rattle.std.proofs.Common.{ℕ, Option, sym, subst}
use Rattle.std.specs.Prelude.{IfSome}
use Rattle.vk_model.specs.Trace.Objects.{live}
use Rattle.vk_backing.specs.Passing.{ArePassing}
use Rattle.vk_backing.specs.PassSteps.{Closes}
use Rattle.vk_backing.proofs.Grown.{some_there}
use Rattle.vk_resources.specs.Held.{Held}
use Rattle.vk_resources.specs.Matches.{Stands}
use Rattle.vk_resources.specs.Inner.PassEnds.{HoldsNoneOf}
use Rattle.vk_resources.proofs.EndingPasses.{have_homes}
use Rattle.vk_resources.proofs.MovedPlaces.{HaveHomes, moved_consistent}
use Rattle.vk_resources.proofs.resources.Resources.settle.Goals as goal

pub invariant_of-self-2 : goal.invariant_of-self-2
invariant_of-self-2 c =
    let s : Held = record { memory = c.self.inside.memories; backed = c.self.inside.backing; resources = c.self.inside.resources.entries; shapes = c.self.inside.shapes.entries; cache = c.self.inside.cache } in
    let p = c.args.passes.now in let q = c.close.new.self in
    let moving = c.args.moving.now in let ignored = c.args.ignored.now in let destroyed = c.args.destroyed.now in
    let passing : ArePassing p s.backed = subst (λ (h : Held). ArePassing p h.backed) (sym c.self.view_is) c.requires.passing in
    let past = c.requires.stands.0 in
    let stands : Stands past s = subst (λ (h : Held). Stands past h) (sym c.self.view_is) c.requires.stands.1 in
    let homes : HaveHomes s = have_homes (live past) s stands.live in
    let unheld : HoldsNoneOf s moving destroyed = subst (λ (h : Held). HoldsNoneOf h moving destroyed) (sym c.self.view_is) c.requires.unheld in
    let open_id = some_there p.opened c.requires.open in
    let closes : Closes p q s.backed c.close.new.backing s.memory c.close.new.memories open_id.0 ignored destroyed =
    subst (λ (o : Option ℕ). IfSome o (λ i. Closes p q s.backed c.close.new.backing s.memory c.close.new.memories i ignored destroyed)) open_id.1 c.in_ok-close.ensures.closes in
    moved_consistent s c.self.invariant homes p q passing c.close.new.backing c.close.new.memories open_id.0 moving ignored destroyed c.requires.moving closes c.close.ensures.backed c.unplace.new.resources.entries c.place_anew.new.resources.entries c.unplace.ensures c.place_anew.ensures unheld
    c.unshape.new.shapes.entries c.unshape.ensures
