use Rattle.std.proofs.Common.{◌∙◌, ℕ, List, ◌++◌, ◌∷◌, [], take, ap, sym}
use Rattle.std.proofs.lemmas.Grind.{take_at_read}
use Rattle.std.proofs.lemmas.Option.{get_or_from_slice_get, slice_get_within}
use Rattle.vk_backing.specs.Passing.{parts_left}
use Rattle.vk_device.proofs.device.Device.copies.Goals as goal

pub loop-place-preserved : goal.loop-place-preserved
loop-place-preserved c =
    let xs = parts_left c.args.self.now.passes in
    let low = slice_get_within xs c.loop-place.place c.nth_copy.result c.nth_copy.ensures in
    c.in_ok-push.ensures.items ∙ ap (λ (l : List ℕ). l ++ c.nth_copy.result ∷ []) c.loop-place.invariant
    ∙ sym ((take_at_read xs c.loop-place.place c.nth_copy.result low).1 ∙ ap (λ (y : ℕ). take c.loop-place.place xs ++ y ∷ []) (get_or_from_slice_get xs c.loop-place.place c.nth_copy.result c.nth_copy.result c.nth_copy.ensures))
