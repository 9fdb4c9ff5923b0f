use Rattle.std.proofs.Common.{◌≡◌, ◌<◌, ◌++◌, ◌∷◌, ◌∙◌, [], List, ap, sym, length, get_or}
use Rattle.std.specs.Prelude.{take}
use Rattle.std.proofs.lemmas.List.{take_more}
use Rattle.std.proofs.lemmas.Option.{slice_get_within, get_or_from_slice_get}
use Rattle.vk_sync.specs.declared.ready.Piece.{Piece}
use Rattle.vk_sync.specs.Ready.{ready}
use Rattle.vk_sync.proofs.ready.Ready.ready.Goals as goal

pub loop-place-preserved : goal.loop-place-preserved
loop-place-preserved c =
    let all = ready c.args.self.now in
    let n = c.loop-place.place in
    let p = c.nth.result in
    let lt : n < length all = slice_get_within all n p c.nth.ensures.piece in
    let last : get_or all n p ≡ p = get_or_from_slice_get all n p p c.nth.ensures.piece in
    c.in_ok-push.ensures.items ∙ ap (λ (ps : List Piece). ps ++ p ∷ []) c.loop-place.invariant ∙ ap (λ (x : Piece). take n all ++ x ∷ []) (sym last) ∙ sym (take_more all n p lt)
