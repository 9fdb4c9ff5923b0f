use Rattle.std.proofs.Common.{◌∷◌, [], sym, ap, ◌∙◌, Vec, Global}
use Rattle.std.proofs.lemmas.List.{append-nil}
use Rattle.vk_hazards.specs.declared.areas.Area.{Area}
use Rattle.vk_hazards.specs.Inner.Parts.{level_part}
use Rattle.vk_hazards.proofs.AreaLemmas.{added_at}
use Rattle.vk_hazards.proofs.regions.levels.Goals as goal
use Rattle.vk_hazards.proofs.regions.levels.Goals.{in-Some+in_ok-push, in_default}

pub loop-index-preserved : goal.loop-index-preserved
loop-index-preserved c =
    let old = c.loop-index.areas.items in
    elim c.match-level_area.branch [
      | in-Some+in_ok-push w ↦ added_at (level_part c.args.image c.args.info.now c.args.range.now) c.loop-index.index old _ (w.in-Some.area ∷ []) (ap (λ (v : Vec Area Global). v.items) w.areas-is ∙ w.in_ok-push.ensures.items) c.loop-index.invariant w.in-Some.ensures.some
      | in_default w ↦ added_at (level_part c.args.image c.args.info.now c.args.range.now) c.loop-index.index old _ [] (ap (λ (v : Vec Area Global). v.items) w.areas-is ∙ sym (append-nil old)) c.loop-index.invariant (c.level_area.ensures.none w.in_default.is)
    ]
