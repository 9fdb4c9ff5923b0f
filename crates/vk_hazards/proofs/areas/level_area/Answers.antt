use Rattle.std.proofs.Common.{◌≡◌, ◌+◌, refl, arith, ap, ◌∙◌}
use Rattle.vk_model.specs.Trace.Image.{level_width, level_height}
use Rattle.vk_hazards.proofs.AreaLemmas.{area_of_box, level_same, no_level}
use Rattle.vk_hazards.proofs.areas.level_area.Goals as goal

pub returns-in_err-level-clause-none : goal.returns-in_err-level-clause-none
returns-in_err-level-clause-none c = λ e. no_level c.args.image c.args.index c.args.info.now c.args.range.now (let none = c.in_err-level.ensures in omega arith)

pub returns-clause-some : goal.returns-clause-some
returns-clause-some c =
    let r = c.args.range.now in
    let m = c.args.info.now in
    let level : c.in_ok-level.level ≡ r.first_level + c.args.index = c.in_ok-level.ensures.1 in
    let width : c.level_width.result ≡ level_width m (r.first_level + c.args.index) = c.level_width.ensures ∙ ap (level_width m) level in
    let height : c.level_height.result ≡ level_height m (r.first_level + c.args.index) = c.level_height.ensures ∙ ap (level_height m) level in
    level_same c.args.image c.args.index m r _
    (area_of_box c.args.image _ _ r.first_layer 0 0 r.layers (level_height m (r.first_level + c.args.index)) (level_width m (r.first_level + c.args.index)) _ refl level c.texel_size.ensures.size refl refl refl
    (record { inner = omega arith; outer = λ k a b. omega arith })
    (record { inner = omega (arith, width); outer = λ k a b. omega (arith, width) })
    (record { inner = omega (arith, height); outer = λ k a b. omega (arith, height) }))
