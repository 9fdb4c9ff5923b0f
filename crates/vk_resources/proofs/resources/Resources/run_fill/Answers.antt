use Rattle.std.proofs.Common.{sym, ap, ◌∙◌, subst}
use Rattle.vk_transfer.specs.Fills.{fill_piece}
use Rattle.vk_resources.specs.Held.{Held, flat}
use Rattle.vk_resources.specs.Inner.Steps.{IsPlaced, HasRun}
use Rattle.vk_resources.proofs.Commands.{fill_ran, with_bytes}
use Rattle.vk_resources.proofs.resources.Resources.run_fill.Goals as goal

pub invariant_of-self : goal.invariant_of-self
invariant_of-self c =
    let s : Held = record { memory = c.self.inside.memories; backed = c.self.inside.backing; resources = c.self.inside.resources.entries; shapes = c.self.inside.shapes.entries; cache = c.self.inside.cache } in
    let at : IsPlaced s c.args.buffer = subst (λ (h : Held). IsPlaced h c.args.buffer) (sym c.self.view_is) c.requires.placed in
    (fill_ran s c.self.invariant at.0 c.args.buffer at.1 c.args.fill c.args.number c.run_piece.new.region c.requires.whole c.requires.inside c.requires.piece (rw c.region_mut.ensures.value at c.run_piece.ensures.kept)).0

pub returns : goal.returns
returns c = λ b here.
    let s : Held = record { memory = c.self.inside.memories; backed = c.self.inside.backing; resources = c.self.inside.resources.entries; shapes = c.self.inside.shapes.entries; cache = c.self.inside.cache } in
    subst (λ (h : Held). HasRun h (with_bytes s c.args.buffer.object c.run_piece.new.region) (fill_piece b c.args.fill c.args.number)) c.self.view_is
    (fill_ran s c.self.invariant b c.args.buffer (ap (λ (h : Held). flat h b) c.self.view_is ∙ here) c.args.fill c.args.number c.run_piece.new.region c.requires.whole c.requires.inside c.requires.piece (rw c.region_mut.ensures.value at c.run_piece.ensures.kept)).1
