-- Basic notions on numbers and lists that several definitions use.
-- In all these files a comment names the chapter or section of the Vulkan 1.3 specification, or the page of the Vulkan Memory Allocator's documentation (VMA), that a definition comes from, and says `profile` where it is our own choice. One that names neither is a word for the definitions beside it.
use Rattle.std.specs.Prelude.{ℕ, ◌+◌, ◌-◌, ◌*◌, ◌/◌, ◌%◌, ◌^◌, List, [], ◌∷◌, map, Bool, true, false, ◌&&◌, ◌||◌, ◌==◌, nat_lt, nat_le, Option, Some, None, bit_and}
use Rattle.std.specs.List.{range_with_len, list_any, flat_map}

-- The numbers below n, rising.
abbrev pub below : ℕ → List ℕ
below n = range_with_len 0 n

-- Whether a number is among others.
abbrev pub among : ℕ → List ℕ → Bool
among x xs = list_any (λ y. x == y) xs

-- Whether some item of a list and a later one pass a test together.
abbrev pub some_pair : {A : Type 0} → (A → A → Bool) → List A → Bool
some_pair test [] = false
some_pair test (x ∷ xs) = list_any (test x) xs || some_pair test xs

-- The first item that passes a test; what comes after it isn't tested.
abbrev pub first_that : {A : Type 0} → (A → Bool) → List A → Option A
first_that test [] = None
first_that test (x ∷ xs) = elim (test x) [ true ↦ Some x | false ↦ first_that test xs ]

-- Whether a mask has every bit of another.
abbrev pub has_bits : ℕ → ℕ → Bool
has_bits mask bits = bit_and mask bits == bits

-- Whether a mask has a bit of another.
abbrev pub has_some : ℕ → ℕ → Bool
has_some mask bits = nat_lt 0 (bit_and mask bits)

-- Whether n is one of the `count` numbers from `low` on.
abbrev pub within : ℕ → ℕ → ℕ → Bool
within low count n = nat_le low n && nat_lt n (low + count)

-- The least multiple of a unit that isn't below n.
abbrev pub round_up : ℕ → ℕ → ℕ
round_up n unit = (n + (unit - 1)) / unit * unit

-- Byte k of a little-endian number.
abbrev pub byte_of : ℕ → ℕ → ℕ
byte_of n k = n / 256 ^ k % 256

-- Whether there is a value and it passes the test.
abbrev pub holds : {A : Type 0} → Option A → (A → Bool) → Bool
holds None test = false
holds (Some x) test = test x

-- A value as a list of one, and nothing as the empty list.
abbrev pub option_list : {A : Type 0} → Option A → List A
option_list None = []
option_list (Some x) = x ∷ []

-- What f makes of each cell of a grid of a by b by c by d, the last number running fastest.
abbrev pub grid : {A : Type 0} → ℕ → ℕ → ℕ → ℕ → (ℕ → ℕ → ℕ → ℕ → A) → List A
grid a b c d f = flat_map (λ i. flat_map (λ j. flat_map (λ k. map (λ l. f i j k l) (below d)) (below c)) (below b)) (below a)
