-- Rows of a program in C, as names with words (profile).
use Rattle.std.specs.Prelude.{List, map}
use Rattle.vk_row_text.specs.declared.names.RowName.{RowName}
use Rattle.vk_row_text.specs.declared.words.Word.{Word}
use Rattle.vk_row_text.specs.declared.words.Call.{Call}
use Rattle.vk_row_text.specs.declared.words.Row.{Row}

-- A name with words.
abbrev pub CallWords : Type 0
CallWords = RowName × List Word

-- A row: a name with words, and its items.
abbrev pub RowWords : Type 0
RowWords = CallWords × List CallWords

-- What the code's rows are, in these words.
abbrev pub call_words : Call → CallWords
call_words c = (c.name, c.words.items)

-- The same with items.
abbrev pub row_words : Row → RowWords
row_words r = (call_words r.call, map call_words r.items.items)
