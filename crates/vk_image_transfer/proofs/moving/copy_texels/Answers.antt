use Rattle.std.proofs.Common.{List, ◌≡◌, ◌≤◌, ℕ, ap, sym, subst, ◌+◌, ◌*◌, length, slice_index, refl, arith}
use Rattle.vk_image_tiles.specs.Rows.{ArePairs}
use Rattle.vk_image_transfer.specs.Inner.Lines.{line_place, line_texel}
use Rattle.vk_image_transfer.specs.Rows.{AreWritten}
use Rattle.vk_image_transfer.proofs.Writing.{first_at, together_at, run_ends, moved, pairs_moved, all_written}
use Rattle.vk_image_transfer.proofs.moving.copy_texels.Goals as goal

pub loop-x-preserved-in-loop-x : goal.loop-x-preserved-in-loop-x
loop-x-preserved-in-loop-x c =
    let left = c.if-texels-x-ge-PAIRED.true in
    let within = c.loop-x.invariant.within in
    let fits : c.loop-x.x + 8 ≤ c.args.texels = omega (arith, left, within) in
    let to : ArePairs (line_place c.args.to.now) c.args.texel c.loop-x.x c.in-Some-pairs.writes = subst (λ (t : ℕ). ArePairs (line_place c.args.to.now) t c.loop-x.x c.in-Some-pairs.writes) c.requires.room.texel c.in-Some-pairs.ensures in
    let of : ArePairs (line_place c.args.from.now) c.args.texel c.loop-x.x c.in-Some.reads = subst (λ (t : ℕ). ArePairs (line_place c.args.from.now) t c.loop-x.x c.in-Some.reads) c.requires.read.texel c.in-Some.ensures in
    record {
      within = fits;
      written = subst (λ (bytes : List ℕ). AreWritten c.args.destination.now bytes (c.loop-x.x + 8) c.args.texel (line_place c.args.to.now) (λ x p. slice_index c.args.source.now (line_place c.args.from.now x + p))) (sym c.copy_pairs.ensures)
          (pairs_moved c.args.texel c.args.texels (line_place c.args.to.now) (line_place c.args.from.now) c.args.source.now c.args.destination.now c.requires.some c.requires.apart c.requires.room.inside c.requires.read.inside c.loop-x.x fits c.in-Some.reads c.in-Some-pairs.writes c.loop-x.destination to of c.loop-x.invariant.written);
    }

pub overflow_mul-size : goal.overflow_mul-size
overflow_mul-size c =
    let run = c.together-written.ensures in
    let size = ap (λ (k : ℕ). k * c.args.texel) c.from.ensures in
    omega (arith, size, c.size-2.ensures, run_ends c.args.texel (line_place c.args.to.now) c.loop-x.x c.together-written.result.texels c.args.texels (length c.args.destination.now) c.together-written.result.at (line_texel c.args.to.now) c.requires.room.texel run.some (omega (arith, run.ends, c.together-read.ensures.ends)) run.together c.requires.room.inside)

pub copy_between-requires-clause-room : goal.copy_between-requires-clause-room
copy_between-requires-clause-room c =
    let run = c.together-written.ensures in
    let size = ap (λ (k : ℕ). k * c.args.texel) c.from.ensures in
    let ends = run_ends c.args.texel (line_place c.args.to.now) c.loop-x.x c.together-written.result.texels c.args.texels (length c.args.destination.now) c.together-written.result.at (line_texel c.args.to.now) c.requires.room.texel run.some (omega (arith, run.ends, c.together-read.ensures.ends)) run.together c.requires.room.inside in
    let mid : length c.loop-x.destination ≡ length c.args.destination.now = c.loop-x.invariant.written.size in
    omega (arith, size, ends, mid)

pub loop-x-preserved : goal.loop-x-preserved
loop-x-preserved c =
    let run = c.together-written.ensures in
    let first = c.together-read.ensures in
    let so_far = c.loop-x.invariant.written in
    let fits : c.loop-x.x + c.together-written.result.texels ≤ c.args.texels = omega (arith, run.ends, first.ends) in
    record {
      within = fits;
      written = moved c.args.texel c.args.texels (line_place c.args.to.now) (line_place c.args.from.now) c.args.source.now c.args.destination.now c.loop-x.destination c.args.source.now c.copy_between.new.into c.loop-x.x c.together-written.result.texels c.together-written.result.at c.together-read.result.at (c.from.result * c.args.texel)
          c.requires.some run.some fits c.requires.apart so_far c.requires.room.inside (c.requires.read.inside)
          (together_at c.args.texel (line_place c.args.to.now) c.loop-x.x c.together-written.result.texels c.together-written.result.at (line_texel c.args.to.now) c.requires.room.texel run.some run.together)
          (λ k lt. together_at c.args.texel (line_place c.args.from.now) c.loop-x.x c.together-read.result.texels c.together-read.result.at (line_texel c.args.from.now) c.requires.read.texel first.some first.together k (omega (arith, lt, run.ends)))
          (λ x p lt low. refl)
          (first_at c.args.texel (line_place c.args.to.now) c.loop-x.x c.together-written.result.texels c.together-written.result.at (line_texel c.args.to.now) c.requires.room.texel run.some run.together)
          (first_at c.args.texel (line_place c.args.from.now) c.loop-x.x c.together-read.result.texels c.together-read.result.at (line_texel c.args.from.now) c.requires.read.texel first.some first.together)
          (ap (λ (k : ℕ). k * c.args.texel) c.from.ensures) c.copy_between.ensures;
    }

pub returns : goal.returns
returns c = all_written c.loop-x.x c.args.texels (omega (arith, c.loop-x.invariant.within, c.loop-x-test.false)) c.loop-x.invariant.written
