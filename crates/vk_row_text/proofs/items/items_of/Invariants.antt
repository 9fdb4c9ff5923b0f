use Rattle.std.proofs.Common.{◌≡◌, map, take}
use Rattle.vk_row_text.specs.Words.{call_words}
use Rattle.vk_row_text.proofs.items.items_of.Given as goal

abbrev pub invariant-loop-value : goal.invariant-loop-value
invariant-loop-value g l = map call_words l.items.items ≡ map g.T.Item.item (take l.value-index l.values)
