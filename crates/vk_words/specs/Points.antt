-- How points of a trace are called. The format is our own (profile).
use Rattle.std.specs.Prelude.{◌≡◌, ℕ, List, ◌++◌, codes, decimal}
use Rattle.vk_model.specs.declared.rule.At.{At}
use Rattle.vk_model.specs.declared.rule.At.TheVariants.{Entry, Command, Wait, Signal}

-- An item of a batch by the entry, the batch, a mark, and its place in the list (profile).
abbrev pub batch_item_text : ℕ → ℕ → List ℕ → ℕ → List ℕ
batch_item_text e b mark k = decimal e ++ codes "." ++ decimal b ++ mark ++ decimal k

-- A point of a trace; all numbers count from 0 (profile).
abbrev pub at_text : At → List ℕ
at_text (Entry e) = decimal e
at_text (Command e b c) = batch_item_text e b (codes ".") c
at_text (Wait e b k) = batch_item_text e b (codes ".w") k
at_text (Signal e b k) = batch_item_text e b (codes ".s") k

-- What kind of point it is (profile).
abbrev pub kind_text : At → List ℕ
kind_text (Entry e) = codes "entry "
kind_text (Command e b c) = codes "command "
kind_text (Wait e b k) = codes "wait "
kind_text (Signal e b k) = codes "signal "

-- A text begins with another one.
pub record BeginsWith (front text : List ℕ) : Type 0 where
  pub rest : List ℕ
  pub whole : text ≡ front ++ rest
