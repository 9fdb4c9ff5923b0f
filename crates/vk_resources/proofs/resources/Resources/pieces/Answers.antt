use Rattle.std.proofs.Common.{◌≡◌, ◌<◌, List, length, sym, ap, subst, ◌∙◌, refl, Some, None, Bor}
use Rattle.std.specs.Prelude.{option_map}
use Rattle.vk_model.specs.declared.command.Cmd.{Cmd}
use Rattle.vk_model.specs.declared.command.Cmd.TheVariants as cmd
use Rattle.vk_model.specs.declared.command.SubresourceRange.{SubresourceRange}
use Rattle.vk_model.specs.declared.resource.ImageInfo.{ImageInfo}
use Rattle.vk_image_transfer.specs.Pieces.{all_cleared}
use Rattle.vk_model.specs.Run.Pieces.{pieces}
use Rattle.vk_resources.specs.Held.{Held, shape_of}
use Rattle.vk_resources.specs.Matches.{MatchesLive}
use Rattle.vk_resources.specs.Fits.{FitsCommand, NamesLive}
use Rattle.vk_resources.proofs.ImageFitting.{regions_counted, clear_few, clear_counted, clear_none}
use Rattle.vk_resources.proofs.Fitting.{fill_counted, fill_none, update_counted}
use Rattle.vk_resources.proofs.resources.Resources.pieces.Goals as goal

pub returns-in-Some : goal.returns-in-Some
returns-in-Some c = λ past m fit alive.
    fill_counted past c.args.self.now m.live c.args.work.now c.in-Fill.buffer c.in-Fill.offset c.in-Fill.word c.in-Fill.size c.in-Some.placed c.pieces.result (sym c.work.view_is ∙ c.in-Fill.is) (sym c.buffer.ensures ∙ c.in-Some.is)
    (rw c.filling.ensures at (c.pieces.ensures c.in-Fill.buffer))

pub returns-in-None : goal.returns-in-None
returns-in-None c = λ past m fit alive.
    fill_none past c.args.self.now m.live c.args.work.now c.in-Fill.buffer c.in-Fill.offset c.in-Fill.word c.in-Fill.size (sym c.work.view_is ∙ c.in-Fill.is) (sym c.buffer.ensures ∙ c.in-None.is) alive

pub returns-in-Update : goal.returns-in-Update
returns-in-Update c = λ past m fit alive.
    update_counted past c.args.work.now c.in-Update.buffer c.in-Update.offset c.in-Update.bytes (record { offset = c.in-Update.offset; bytes = c.as_slice.result }) c.pieces-in-Update.result (sym c.work.view_is ∙ c.in-Update.is) refl c.as_slice.ensures c.pieces-in-Update.ensures

-- ---- clears

pub pieces-requires-in-Some-get-clause-few : goal.pieces-requires-in-Some-get-clause-few
pieces-requires-in-Some-get-clause-few c =
    let s : Held = record { memory = c.self.inside.memories; backed = c.self.inside.backing; resources = c.self.inside.resources.entries; shapes = c.self.inside.shapes.entries; cache = c.self.inside.cache } in
    let shaped : shape_of s c.in-Clear.image ≡ Some c.in-Some-get.shape.now = sym c.get.ensures.value ∙ ap (option_map (λ (b : Bor ImageInfo). b.now)) c.in-Some-get.is in
    let few = (clear_few c.requires.0 s (subst (λ (h : Held). MatchesLive c.requires.0 h) (sym c.self.view_is) c.requires.1.live) c.in-Clear.image c.in-Clear.layout c.in-Clear.color c.in-Clear.ranges c.self.invariant c.in-Some-get.shape.now shaped
    (subst (λ (y : Cmd). FitsCommand c.requires.0 y) (sym c.work.view_is ∙ c.in-Clear.is) c.requires.2)).1 in
    rw c.as_slice-in-Some-get.ensures few

pub returns-in-Some-get : goal.returns-in-Some-get
returns-in-Some-get c = λ past m fit alive.
    let s : Held = record { memory = c.self.inside.memories; backed = c.self.inside.backing; resources = c.self.inside.resources.entries; shapes = c.self.inside.shapes.entries; cache = c.self.inside.cache } in
    let shaped : shape_of s c.in-Clear.image ≡ Some c.in-Some-get.shape.now = sym c.get.ensures.value ∙ ap (option_map (λ (b : Bor ImageInfo). b.now)) c.in-Some-get.is in
    clear_counted past s (subst (λ (h : Held). MatchesLive past h) (sym c.self.view_is) m.live) c.in-Clear.image c.in-Clear.layout c.in-Clear.color c.in-Clear.ranges c.in-Some-get.shape.now c.pieces-in-Some-get.result shaped
    (c.pieces-in-Some-get.ensures.pieces c.in-Clear.image ∙ ap (λ (rs : List SubresourceRange). length (all_cleared c.in-Clear.image c.in-Clear.color c.in-Some-get.shape.now rs)) c.as_slice-in-Some-get.ensures)
    ∙ ap (λ (y : Cmd). length (pieces past y)) (sym (sym c.work.view_is ∙ c.in-Clear.is))

pub returns-in-None-get : goal.returns-in-None-get
returns-in-None-get c = λ past m fit alive.
    let none : shape_of c.args.self.now c.in-Clear.image ≡ None =
    ap (λ (h : Held). shape_of h c.in-Clear.image) (sym c.self.view_is) ∙ sym c.get.ensures.value ∙ ap (option_map (λ (b : Bor ImageInfo). b.now)) c.in-None-get.is in
    let count : 0 ≡ length (pieces past (cmd.Clear c.in-Clear.image c.in-Clear.layout c.in-Clear.color c.in-Clear.ranges)) = clear_none past c.args.self.now m.live c.in-Clear.image c.in-Clear.layout c.in-Clear.color c.in-Clear.ranges none
    (subst (λ (y : Cmd). 0 < length (pieces past y) → NamesLive past y) (sym c.work.view_is ∙ c.in-Clear.is) alive) in
    count ∙ ap (λ (y : Cmd). length (pieces past y)) (sym (sym c.work.view_is ∙ c.in-Clear.is))

-- ---- copies

pub returns-in_default : goal.returns-in_default
returns-in_default c = λ past m fit alive.
    c.pieces-in_default.ensures
    ∙ regions_counted past c.work.inside.command.now c.work.inside.regions c.work.invariant (subst (λ (y : Cmd). FitsCommand past y) (sym c.work.view_is) fit) c.in_default.not-Fill c.in_default.not-Update c.in_default.not-Clear
    ∙ ap (λ (y : Cmd). length (pieces past y)) c.work.view_is
