use Rattle.std.proofs.Common.{◌≡◌, ◌+◌, ◌&&◌, ◌==◌, sym, subst}
use Rattle.vk_image_transfer.specs.Held.{ImageOf}
use Rattle.vk_model.specs.declared.subresource.SubresourceLayout.{SubresourceLayout}
use Rattle.vk_lag.specs.Lags.{is_between}
use Rattle.vk_availability.specs.Inner.CatchingUp.{is_in_part}
use Rattle.vk_availability.proofs.Subresources.{in_part}
use Rattle.vk_availability.proofs.CatchingUp.{of_range}
use Rattle.vk_availability.proofs.ranges.catch_up_part.Goals as goal

pub returns : goal.returns
returns c =
    let part = c.subresource_layout-part.result in
    of_range c.args.image (ImageOf c.args.shape.now) c.args.due part.offset (part.offset + part.size) (is_in_part (λ l a. l == c.args.level && a == c.args.layer)) c.args.lags.now c.catch_up.new.self c.catch_up.ensures
    (λ b k its place.
    subst (λ (l : SubresourceLayout). is_in_part (λ n a. n == c.args.level && a == c.args.layer) b ≡ is_between l.offset (l.offset + l.size) k) (sym c.subresource_layout-part.ensures.layout)
    (in_part c.subresources_hold.ensures c.args.shape.now c.image-image.ensures.shaped c.args.level c.args.layer c.requires.level_there c.requires.layer_there b k place))
