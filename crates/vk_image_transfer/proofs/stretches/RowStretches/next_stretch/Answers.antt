use Rattle.std.proofs.Common.{◌-◌, ◌+◌, ◌*◌, ℕ, List, ap, sym, subst, arith}
use Rattle.vk_transfer.specs.declared.stretches.Stretch.{Stretch}
use Rattle.vk_image_transfer.specs.Inner.Lines.{line_place, line_texel}
use Rattle.vk_image_transfer.specs.Stretches.{Takes, row_left}
use Rattle.vk_image_transfer.proofs.Walking.{taken}
use Rattle.vk_image_transfer.proofs.Writing.{run_ends}
use Rattle.vk_image_transfer.proofs.stretches.RowStretches.next_stretch.Goals as goal

pub overflow_mul-result : goal.overflow_mul-result
overflow_mul-result c =
    let run = c.together-run.ensures in
    let walked = c.self.invariant in
    let size = ap (λ (k : ℕ). k * c.self.inside.texel) c.from.ensures in
    omega (arith, size, run_ends c.self.inside.texel (line_place c.self.inside.line) c.self.inside.x c.together-run.result.texels c.self.inside.texels 18446744073709551615 c.together-run.result.at (line_texel c.self.inside.line) walked.fits.texel run.some run.ends run.together walked.fits.inside)

pub returns : goal.returns
returns c =
    let r = c.self.inside in
    let run = c.together-run.ensures in
    let new : List Stretch = row_left (line_place r.line) r.texel (r.x + c.together-run.result.texels) (r.texels - (r.x + c.together-run.result.texels)) in
    let stretch : ℕ → Stretch = λ n. record { at = c.together-run.result.at; size = n * r.texel } in
    subst (λ (old : List Stretch). Takes (stretch c.from.result) old new) c.self.view_is
    (subst (λ (n : ℕ). Takes (stretch n) (row_left (line_place r.line) r.texel r.x (r.texels - r.x)) new) (sym c.from.ensures)
    (taken r.line r.x r.texels r.texel c.self.invariant c.together-run.result.at c.together-run.result.texels run.some run.ends run.together))
