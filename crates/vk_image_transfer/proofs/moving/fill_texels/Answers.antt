use Rattle.std.proofs.Common.{◌≡◌, ◌≤◌, ℕ, ◌+◌, ◌*◌, ◌<◌, length, ap, arith}
use Rattle.std.proofs.lemmas.Nat.{le-div}
use Rattle.vk_image_transfer.specs.Inner.Lines.{line_place, line_texel}
use Rattle.vk_image_transfer.proofs.Writing.{first_at, together_at, together_ends, length_taken, few_bytes, filled, all_written}
use Rattle.vk_image_transfer.proofs.moving.fill_texels.Goals as goal

pub write-requires : goal.write-requires
write-requires c =
    let run = c.together-run.ensures in
    let size : c.from.result * c.args.texel ≡ c.min-count.result * c.args.texel = ap (λ (k : ℕ). k * c.args.texel) c.from.ensures in
    let few : c.min-count.result * c.args.texel ≤ 64 = few_bytes c.min-count.result c.args.texel (omega (arith, c.min-count.ensures)) in
    let at = first_at c.args.texel (line_place c.args.to.now) c.loop-x.x c.together-run.result.texels c.together-run.result.at (line_texel c.args.to.now) c.requires.room.texel run.some run.together in
    let ends = together_ends c.args.texel (line_place c.args.to.now) c.loop-x.x c.min-count.result c.args.texels (length c.args.region.now) (omega (arith, run.some, c.min-count.ensures, le-div 1 64 c.args.texel c.requires.some (omega (arith, c.requires.few)))) (omega (arith, run.ends, c.min-count.ensures))
    (λ k lt. together_at c.args.texel (line_place c.args.to.now) c.loop-x.x c.together-run.result.texels c.together-run.result.at (line_texel c.args.to.now) c.requires.room.texel run.some run.together k (omega (arith, lt, c.min-count.ensures))) c.requires.room.inside in
    let mid = c.loop-x.invariant.written.size in
    let long = length_taken c.args.color.now (c.from.result * c.args.texel) (omega (arith, size, few, c.fits-color)) in
    omega (arith, long, size, at, ends, mid)

pub loop-x-preserved : goal.loop-x-preserved
loop-x-preserved c =
    let run = c.together-run.ensures in
    let few : c.min-count.result * c.args.texel ≤ 64 = few_bytes c.min-count.result c.args.texel (omega (arith, c.min-count.ensures)) in
    let fits : c.loop-x.x + c.min-count.result ≤ c.args.texels = omega (arith, run.ends, c.min-count.ensures) in
    let at = first_at c.args.texel (line_place c.args.to.now) c.loop-x.x c.together-run.result.texels c.together-run.result.at (line_texel c.args.to.now) c.requires.room.texel run.some run.together in
    let together : (k : ℕ) → k < c.min-count.result → line_place c.args.to.now (c.loop-x.x + k) ≡ line_place c.args.to.now c.loop-x.x + k * c.args.texel =
    λ k lt. together_at c.args.texel (line_place c.args.to.now) c.loop-x.x c.together-run.result.texels c.together-run.result.at (line_texel c.args.to.now) c.requires.room.texel run.some run.together k (omega (arith, lt, c.min-count.ensures)) in
    let ends = together_ends c.args.texel (line_place c.args.to.now) c.loop-x.x c.min-count.result c.args.texels (length c.args.region.now) (omega (arith, run.some, c.min-count.ensures, le-div 1 64 c.args.texel c.requires.some (omega (arith, c.requires.few)))) fits together c.requires.room.inside in
    record {
      within = fits;
      written = filled c.args.texel c.args.texels (line_place c.args.to.now) c.args.color.now c.args.region.now c.loop-x.region c.write.new.self c.loop-x.x c.min-count.result c.together-run.result.at (c.from.result * c.args.texel)
          c.requires.some fits c.requires.apart c.loop-x.invariant.written (omega (arith, few, c.fits-color)) ends together
          (λ x p low lt. c.requires.repeats x p low (omega (arith, lt, c.fits-color)))
          at (ap (λ (k : ℕ). k * c.args.texel) c.from.ensures) c.write.ensures;
    }

pub returns : goal.returns
returns c = all_written c.loop-x.x c.args.texels (omega (arith, c.loop-x.invariant.within, c.loop-x-test.false)) c.loop-x.invariant.written
