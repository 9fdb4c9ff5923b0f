use Rattle.std.proofs.Common.{◌∙◌, ap, refl, sym, subst}
use Rattle.vk_model.proofs.Lists.Keys.{other_key}
use Rattle.vk_backing.specs.Passing.{Passing, ArePassing}
use Rattle.vk_backing.specs.Allotted.{allotted}
use Rattle.vk_backing.specs.PassAllots.{UndefragAllots}
use Rattle.vk_backing.proofs.UndefragAllots.{undefrag_allotted}
use Rattle.vk_backing.proofs.Passing.{less_passing}
use Rattle.vk_backing.proofs.passes.Passes.end.Goals as goal

pub returns-clause-passing : goal.returns-clause-passing
returns-clause-passing c =
    let f = c.self.inside in let b = c.args.backing.now in let id = c.args.id in
    let old : Passing = record { defrags = f.defrags.entries; opened = f.opened; moving = f.moving.items } in
    let new : Passing = record { defrags = c.remove.new.self.entries; opened = f.opened; moving = f.moving.items } in
    let h : ArePassing old b = subst (λ (p : Passing). ArePassing p b) (sym c.self.view_is) c.requires.passing in
    let updates = c.remove.ensures.updates in
    less_passing old new b h refl refl id (λ is. c.requires.closed (ap (λ (p : Passing). p.opened) (sym c.self.view_is) ∙ is)) updates.1 (λ i other. updates.2 i (other_key id i other))

pub returns-clause-allots : goal.returns-clause-allots
returns-clause-allots c =
    let f = c.self.inside in let b = c.args.backing.now in let id = c.args.id in
    let old : Passing = record { defrags = f.defrags.entries; opened = f.opened; moving = f.moving.items } in
    let new : Passing = record { defrags = c.remove.new.self.entries; opened = f.opened; moving = f.moving.items } in
    let updates = c.remove.ensures.updates in
    λ m back. subst (λ (p : Passing). UndefragAllots (allotted b m) p new id) c.self.view_is
    (undefrag_allotted b m old new id (λ is. c.requires.closed (ap (λ (p : Passing). p.opened) (sym c.self.view_is) ∙ is)) updates.1 (λ i other. updates.2 i (other_key id i other)) refl refl)
