use Rattle.std.proofs.Common.{◌++◌, ◌∙◌, sym, ap, map}
use Rattle.std.proofs.lemmas.List.Folds.{flat_map-map}
use Rattle.std.specs.Prelude.{string_bytes}
use Rattle.std.specs.List.{flat_map}
use Rattle.vk_row_text.specs.Words.{call_words}
use Rattle.vk_row_text.specs.Texts.{call_text, item_text}
use Rattle.vk_row_text.proofs.Joins.{two_more}
use Rattle.vk_row_text.proofs.texts.push_row.Goals as goal

pub returns : goal.returns
returns c =
    two_more (string_bytes c.args.out.now) (call_text (call_words c.args.row.now.call)) (flat_map item_text (map call_words c.args.row.now.items.items))
    (string_bytes c.push_call.new.out) (string_bytes c.push_items.new.out) c.in_ok-push_call.ensures
    (c.in_ok-push_items.ensures ∙ ap (λ l. string_bytes c.push_call.new.out ++ l) (ap (flat_map (λ i. item_text (call_words i))) c.as_slice.ensures.value ∙ sym (flat_map-map item_text call_words c.args.row.now.items.items)))
