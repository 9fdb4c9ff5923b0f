use Rattle.std.proofs.Common.{◌≡◌, ◌++◌, take}
use Rattle.std.specs.Prelude.{string_bytes}
use Rattle.std.specs.List.{flat_map}
use Rattle.vk_row_text.specs.Words.{call_words}
use Rattle.vk_row_text.specs.Texts.{item_text}
use Rattle.vk_row_text.proofs.texts.push_items.Given as goal

abbrev pub invariant-loop-item : goal.invariant-loop-item
invariant-loop-item l = string_bytes l.out ≡ string_bytes l.initial.out ++ flat_map (λ i. item_text (call_words i)) (take l.item-index l.items)
