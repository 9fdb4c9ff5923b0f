use Rattle.std.proofs.Common.{◌≡◌, ◌*◌, [], ◌∷◌, ap, ◌∙◌, subst, arith, ℕ}
use Rattle.vk_model.specs.World.ByteWrites.{buffer_texel}
use Rattle.vk_model.specs.Sync.Access.{bytes_of}
use Rattle.vk_hazards.specs.Areas.{AreAreas}
use Rattle.vk_hazards.proofs.AreaLemmas.{empty_row, no_row, row_same}
use Rattle.vk_hazards.proofs.areas.row_area.Goals as goal
use Rattle.vk_hazards.proofs.areas.row_area.Goals.{then-region-eq0-via-then-region-eq0, then-region-eq0-via-else-region-eq0+then-texel-eq0}

pub returns-then-region-eq0-clause-none : goal.returns-then-region-eq0-clause-none
returns-then-region-eq0-clause-none c = λ e.
    let g = c.args.region.now in
    let t = c.args.texel in
    empty_row c.args.buffer t g c.args.layer c.args.row
    (elim c.then-region-eq0.branch [
      | then-region-eq0-via-then-region-eq0 w ↦ ap (λ (n : ℕ). n * t) w.if-region-eq0.true ∙ omega arith
      | then-region-eq0-via-else-region-eq0+then-texel-eq0 w ↦ ap (λ (n : ℕ). g.width * n) w.if-texel-eq0.true ∙ omega arith
    ])

pub returns-in_err-start-clause-none : goal.returns-in_err-start-clause-none
returns-in_err-start-clause-none c = λ e. no_row c.args.buffer c.args.texel c.args.region.now c.args.layer c.args.row (c.row_start.ensures.none c.in_err-start.was)

pub returns-clause-some : goal.returns-clause-some
returns-clause-some c =
    let g = c.args.region.now in
    let start : c.in_ok-start.start ≡ buffer_texel g c.args.texel c.args.layer c.args.row 0 0 = c.in_ok-start.ensures.some in
    let size : c.from.result * c.from-2.result ≡ g.width * c.args.texel = cc in
    row_same c.args.buffer c.args.texel g c.args.layer c.args.row (c.bytes.result ∷ [])
    (subst (λ (n : ℕ). AreAreas (c.bytes.result ∷ []) (bytes_of c.args.buffer n (g.width * c.args.texel))) start
    (subst (λ (n : ℕ). AreAreas (c.bytes.result ∷ []) (bytes_of c.args.buffer c.in_ok-start.start n)) size c.bytes.ensures))
