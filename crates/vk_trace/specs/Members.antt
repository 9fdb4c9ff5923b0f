-- How a value of JSON is read: an array by its members, one after the other, a word, a number.
use Rattle.std.specs.Prelude.{ℕ, ◌^◌, List, [], ◌∷◌, Option, Some, None, option_map, option_and_then, Result, Ok, Err, nat_lt, if◌then◌else◌, bytes_eq}
use Rattle.serde_json.specs.Data.{Data, Items, no_items, item}
use Rattle.hex.specs.Hex.{decode_of}
use Rattle.hex.specs.declared.error.FromHexError.{FromHexError}
use Rattle.serde_json.specs.Find.{as_array, as_number, as_u64, as_str}

-- What a value means, if it means anything.
abbrev pub Reader : Type 0 → Type 0
Reader A = Data → Option A

-- What the members at the front of an array mean, and the members after them.
abbrev pub Row : Type 0 → Type 0
Row A = List Data → Option (A × List Data)

-- goes on with what was read
infixl 10 ◌>>=◌
-- What is made of a value, if there is one.
abbrev pub ◌>>=◌ : {A B : Type 0} → Option A → (A → Option B) → Option B
(Some x) >>= next = next x
None >>= next = None

-- The values of an array as a list.
abbrev pub items_list : Items → List Data
items_list no_items = []
items_list (item d ds) = d ∷ items_list ds

-- The members of an array.
abbrev pub array_members : Reader (List Data)
array_members d = option_map items_list (as_array d)

-- The first member.
abbrev pub first_member : {A : Type 0} → Reader A → Row A
first_member read [] = None
first_member read (d ∷ ds) = read d >>= λ x. Some (x, ds)

-- There is no further member.
abbrev pub no_member : List Data → Option (Unit {0})
no_member [] = Some tt
no_member (d ∷ ds) = None

-- A row with no member yet, of what its members are put into.
abbrev pub from : {A : Type 0} → A → Row A
from x ds = Some (x, ds)

-- a row with one member more
infixl 20 ◌<*>◌
-- A row with one member more.
abbrev pub ◌<*>◌ : {A B : Type 0} → Row (A → B) → Reader A → Row B
◌<*>◌ row read ds = row ds >>= λ before. first_member read before.1 >>= λ x. Some (before.0 x.0, x.1)

-- The members of a row and no other.
abbrev pub only : {A : Type 0} → Row A → List Data → Option A
only row ds = row ds >>= λ x. no_member x.1 >>= λ _. Some x.0

-- An array with exactly the members of a row.
abbrev pub members : {A : Type 0} → Row A → Reader A
members row d = array_members d >>= only row

-- What is beside a word in a table.
abbrev pub at_word : {A : Type 0} → List (List ℕ × A) → List ℕ → Option A
at_word [] word = None
at_word ((w, x) ∷ table) word = if bytes_eq word w then Some x else at_word table word

-- One of the names of a table.
abbrev pub one_word : {A : Type 0} → List (List ℕ × A) → Reader A
one_word table d = as_str d >>= at_word table

-- A word and the members after it.
unfoldable pub word_and_members : Reader (List ℕ × List Data)
word_and_members d = array_members d >>= first_member as_str

-- The members after a word, by its row.
abbrev pub after_word : {A : Type 0} → List (List ℕ × Row A) → List ℕ → List Data → Option A
after_word rows word ds = at_word rows word >>= λ row. only row ds

-- An array that begins with one of these names, and has exactly the members of its row after it.
abbrev pub tagged : {A : Type 0} → List (List ℕ × Row A) → Reader A
tagged rows d = word_and_members d >>= λ x. after_word rows x.0 x.1

-- What each of the members means.
unfoldable pub each_member : {A : Type 0} → Reader A → List Data → Option (List A)
each_member read [] = Some []
each_member read (d ∷ ds) = read d >>= λ x. each_member read ds >>= λ xs. Some (x ∷ xs)

-- An array of these, of any length.
unfoldable pub list_of : {A : Type 0} → Reader A → Reader (List A)
list_of read d = array_members d >>= each_member read

-- What was decoded, if anything was.
abbrev pub decoded : Result (List ℕ) FromHexError → Option (List ℕ)
decoded (Ok bytes) = Some bytes
decoded (Err e) = None

-- Bytes as hex text of either case, two digits a byte (profile).
unfoldable pub bytes_value : Reader (List ℕ)
bytes_value d = as_str d >>= λ text. decoded (decode_of text)

-- A whole number below 2 ^ 64, written with no sign, point or exponent (profile).
abbrev pub u64_value : Reader ℕ
u64_value d = option_and_then as_u64 (as_number d)

-- Such a number below 2 ^ 32 (profile).
unfoldable pub u32_value : Reader ℕ
u32_value d = u64_value d >>= λ n. if nat_lt n (2 ^ 32) then Some n else None
