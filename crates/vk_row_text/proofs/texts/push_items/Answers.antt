use Rattle.std.proofs.Common.{◌<◌, ◌++◌, ◌∙◌, sym, ap, take, length, List, ℕ, [], ◌∷◌}
use Rattle.std.proofs.lemmas.List.{take_more, flat_map_more}
use Rattle.std.specs.Prelude.{string_bytes}
use Rattle.std.specs.List.{flat_map}
use Rattle.vk_row_text.specs.declared.words.Call.{Call}
use Rattle.vk_row_text.specs.Words.{call_words}
use Rattle.vk_row_text.specs.Texts.{item_text}
use Rattle.vk_row_text.proofs.texts.push_items.Goals as goal

pub loop-item-preserved : goal.loop-item-preserved
loop-item-preserved c =
    let f = λ (i : Call). item_text (call_words i) in
    let items : List Call = c.args.items.now in
    let k : ℕ = c.loop-item.item-index in
    let x : Call = c.item-item.result in
    let below : k < length items = c.loop-item-test.true in
    let front : List Call = take k items in
    c.in_ok-push_item.ensures ∙ (ap (λ l. l ++ f x) c.loop-item.invariant ∙ (flat_map_more f (string_bytes c.args.out.now) front x
    ∙ ap (λ (l : List Call). string_bytes c.args.out.now ++ flat_map f l) (ap (λ (y : Call). front ++ (y ∷ [])) c.item-item.is ∙ sym (take_more items k x below))))
