use Rattle.std.proofs.Common.{◌&&◌, ◌==◌, ◌+◌, ap, arith}
use Rattle.vk_model.specs.declared.resource.ImageInfo.{ImageInfo}
use Rattle.vk_model.specs.Basics.{within}
use Rattle.vk_image_transfer.specs.Held.{ImageOf}
use Rattle.vk_lag.specs.Lags.{is_between}
use Rattle.vk_availability.specs.Inner.CatchingUp.{is_in_part}
use Rattle.vk_availability.proofs.Walking.{HasEnded, next_layer, all_layers}
use Rattle.vk_availability.proofs.CatchingUp.{one_more, same_test}
use Rattle.vk_availability.proofs.ranges.catch_up_level.Goals as goal

pub loop-layer-preserved : goal.loop-layer-preserved
loop-layer-preserved c =
    let level = c.args.level in
    let first = c.args.range.first_layer in
    let layer = c.loop-layer.layer in
    one_more c.args.image (ImageOf c.args.shape.now) c.args.due (is_in_part (λ n a. n == level && is_between first layer a)) (is_in_part (λ n a. n == level && a == layer)) (is_in_part (λ n a. n == level && is_between first (layer + 1) a)) c.args.lags.now c.loop-layer.lags c.catch_up_part.new.lags c.loop-layer.invariant c.catch_up_part.ensures
    (λ b k its place. next_layer level first layer c.loop-layer.auto.layer b)

pub returns : goal.returns
returns c =
    let m = c.args.shape.now in
    let level = c.args.level in
    let first = c.args.range.first_layer in
    let count = c.args.range.layers in
    let last = c.loop-layer.layer in
    let layers = ap (λ (i : ImageInfo). i.layers) c.image-info.ensures.image in
    let ended : HasEnded first count m.layers last = record {
      end = c.min-end.result;
      is = omega (arith, layers, c.saturating_add.ensures, c.min-end.ensures);
      done = c.loop-layer-test.false;
      no_more = c.loop-layer.auto.layer-end;
    } in
    same_test c.args.image (ImageOf m) c.args.due (is_in_part (λ n a. n == level && is_between first last a)) (is_in_part (λ n a. n == level && within first count a)) c.args.lags.now c.loop-layer.lags c.loop-layer.invariant
    (λ b k its place. all_layers m c.image-info.ensures.shaped level first count last ended b k place)
