use Rattle.std.proofs.Common.{◌≡◌, Bor, Option, Some, None, false, sym}
use Rattle.std.specs.Option.{is_some, option_copied}
use Rattle.vk_model.specs.declared.resource.ImageInfo.{ImageInfo}
use Rattle.vk_resources.specs.Held.{shape_of}
use Rattle.vk_availability.proofs.Freeing.{on_buffer}
use Rattle.vk_availability.proofs.happening.catch_up_on_buffer.Goals as goal

no_shape : (o : Option (Bor ImageInfo)) (m : Option ImageInfo) → false ≡ is_some o → option_copied o ≡ m → m ≡ None
no_shape None m e is = sym is
no_shape (Some x) m e is = absurd cc

pub returns-in-Some : goal.returns-in-Some
returns-in-Some c =
    let none : shape_of c.args.resources.now c.args.buffer ≡ None = no_shape c.shape.result (shape_of c.args.resources.now c.args.buffer) c.if-is_some.ensures c.shape.ensures in
    on_buffer c.args.resources.now c.args.buffer c.args.offset c.args.length c.args.due c.in-Some.spot none c.in-Some.ensures.there c.args.lags.now c.catch_up_buffer.new.lags c.catch_up_buffer.ensures
