use Rattle.std.proofs.Common.{◌∷◌, [], sym, ap, ◌∙◌, Vec, Global}
use Rattle.std.proofs.lemmas.List.{append-nil}
use Rattle.vk_hazards.specs.declared.areas.Area.{Area}
use Rattle.vk_hazards.specs.Inner.Parts.{row_bytes}
use Rattle.vk_hazards.proofs.AreaLemmas.{added_at}
use Rattle.vk_hazards.proofs.regions.layer_rows.Goals as goal
use Rattle.vk_hazards.proofs.regions.layer_rows.Goals.{in-Some+in_ok-push, in_default}

pub loop-row-preserved : goal.loop-row-preserved
loop-row-preserved c =
    let old = c.loop-row.areas.items in
    elim c.match-row_area.branch [
      | in-Some+in_ok-push w ↦ added_at (λ y. row_bytes c.args.buffer c.args.texel c.args.region.now c.args.layer y) c.loop-row.row old _ (w.in-Some.area ∷ []) (ap (λ (v : Vec Area Global). v.items) w.areas-is ∙ w.in_ok-push.ensures.items) c.loop-row.invariant w.in-Some.ensures.some
      | in_default w ↦ added_at (λ y. row_bytes c.args.buffer c.args.texel c.args.region.now c.args.layer y) c.loop-row.row old _ [] (ap (λ (v : Vec Area Global). v.items) w.areas-is ∙ sym (append-nil old)) c.loop-row.invariant (c.row_area.ensures.none w.in_default.is)
    ]
