use Rattle.std.proofs.Common.{◌&&◌, ◌==◌, ◌+◌, ap, arith}
use Rattle.vk_model.specs.declared.resource.ImageInfo.{ImageInfo}
use Rattle.vk_model.specs.Basics.{within}
use Rattle.vk_model.specs.World.Effect.{in_range}
use Rattle.vk_image_transfer.specs.Held.{ImageOf}
use Rattle.vk_lag.specs.Lags.{is_between}
use Rattle.vk_availability.specs.Inner.CatchingUp.{is_in_part}
use Rattle.vk_availability.proofs.Walking.{HasEnded, next_level, all_levels}
use Rattle.vk_availability.proofs.CatchingUp.{one_more, same_test}
use Rattle.vk_availability.proofs.ranges.catch_up_image.Goals as goal

pub loop-level-preserved : goal.loop-level-preserved
loop-level-preserved c =
    let first = c.args.range.first_level in
    let level = c.loop-level.level in
    let in_layers = within c.args.range.first_layer c.args.range.layers in
    one_more c.args.image (ImageOf c.args.shape.now) c.args.due (is_in_part (λ n a. is_between first level n && in_layers a)) (is_in_part (λ n a. n == level && in_layers a)) (is_in_part (λ n a. is_between first (level + 1) n && in_layers a)) c.args.lags.now c.loop-level.lags c.catch_up_level.new.lags c.loop-level.invariant c.catch_up_level.ensures
    (λ b k its place. next_level in_layers first level c.loop-level.auto.level b)

pub returns : goal.returns
returns c =
    let m = c.args.shape.now in
    let range = c.args.range in
    let last = c.loop-level.level in
    let levels = ap (λ (i : ImageInfo). i.levels) c.image-info.ensures.image in
    let ended : HasEnded range.first_level range.levels m.levels last = record {
      end = c.min-end.result;
      is = omega (arith, levels, c.saturating_add.ensures, c.min-end.ensures);
      done = c.loop-level-test.false;
      no_more = c.loop-level.auto.level-end;
    } in
    same_test c.args.image (ImageOf m) c.args.due (is_in_part (λ n a. is_between range.first_level last n && within range.first_layer range.layers a)) (in_range c.args.image range) c.args.lags.now c.loop-level.lags c.loop-level.invariant
    (λ b k its place. all_levels m c.image-info.ensures.shaped c.args.image range last ended b k its place)
