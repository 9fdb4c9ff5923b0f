use Rattle.std.proofs.Common.{◌≡◌, ◌≤◌, ℕ, ap, ◌+◌, ◌*◌, length, sym, arith}
use Rattle.vk_image_transfer.specs.Inner.Lines.{line_place, line_texel}
use Rattle.vk_image_transfer.proofs.Writing.{first_at, together_at, run_ends, moved, all_written}
use Rattle.vk_image_transfer.proofs.moving.copy_texels_within.Goals as goal

pub overflow_mul-size : goal.overflow_mul-size
overflow_mul-size c =
    let run = c.together-written.ensures in
    let size = ap (λ (k : ℕ). k * c.args.texel) c.from.ensures in
    omega (arith, size, c.size-size.ensures, run_ends c.args.texel (line_place c.args.to.now) c.loop-x.x c.together-written.result.texels c.args.texels (length c.args.region.now) c.together-written.result.at (line_texel c.args.to.now) c.requires.room.texel run.some (omega (arith, run.ends, c.together-read.ensures.ends)) run.together c.requires.room.inside)

pub copy_within-requires-clause-room : goal.copy_within-requires-clause-room
copy_within-requires-clause-room c =
    let run = c.together-written.ensures in
    let size = ap (λ (k : ℕ). k * c.args.texel) c.from.ensures in
    let ends = run_ends c.args.texel (line_place c.args.to.now) c.loop-x.x c.together-written.result.texels c.args.texels (length c.args.region.now) c.together-written.result.at (line_texel c.args.to.now) c.requires.room.texel run.some (omega (arith, run.ends, c.together-read.ensures.ends)) run.together c.requires.room.inside in
    let mid : length c.loop-x.region ≡ length c.args.region.now = c.loop-x.invariant.written.size in
    omega (arith, size, ends, mid)

pub loop-x-preserved : goal.loop-x-preserved
loop-x-preserved c =
    let run = c.together-written.ensures in
    let first = c.together-read.ensures in
    let so_far = c.loop-x.invariant.written in
    let fits : c.loop-x.x + c.together-written.result.texels ≤ c.args.texels = omega (arith, run.ends, first.ends) in
    record {
      within = fits;
      written = moved c.args.texel c.args.texels (line_place c.args.to.now) (line_place c.args.from.now) c.args.region.now c.args.region.now c.loop-x.region c.loop-x.region c.copy_within.new.self c.loop-x.x c.together-written.result.texels c.together-written.result.at c.together-read.result.at (c.from.result * c.args.texel)
          c.requires.some run.some fits c.requires.apart so_far c.requires.room.inside (λ x lt. omega (arith, c.requires.read.inside x lt, so_far.size))
          (together_at c.args.texel (line_place c.args.to.now) c.loop-x.x c.together-written.result.texels c.together-written.result.at (line_texel c.args.to.now) c.requires.room.texel run.some run.together)
          (λ k lt. together_at c.args.texel (line_place c.args.from.now) c.loop-x.x c.together-read.result.texels c.together-read.result.at (line_texel c.args.from.now) c.requires.read.texel first.some first.together k (omega (arith, lt, run.ends)))
          (λ x p lt low. so_far.kept (line_place c.args.from.now x + p) (λ u q less high is. c.requires.lines_apart x u p q lt (omega (arith, less, fits)) low high (sym is)))
          (first_at c.args.texel (line_place c.args.to.now) c.loop-x.x c.together-written.result.texels c.together-written.result.at (line_texel c.args.to.now) c.requires.room.texel run.some run.together)
          (first_at c.args.texel (line_place c.args.from.now) c.loop-x.x c.together-read.result.texels c.together-read.result.at (line_texel c.args.from.now) c.requires.read.texel first.some first.together)
          (ap (λ (k : ℕ). k * c.args.texel) c.from.ensures) c.copy_within.ensures;
    }

pub returns : goal.returns
returns c = all_written c.loop-x.x c.args.texels (omega (arith, c.loop-x.invariant.within, c.loop-x-test.false)) c.loop-x.invariant.written
