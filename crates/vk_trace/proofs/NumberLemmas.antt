-- Which numbers of JSON are whole and have no sign.
use Rattle.std.proofs.Common.{◌≡◌, ℕ, ◌+◌, ◌*◌, ◌<◌, ◌≤◌, ◌^◌, ◌%◌, ◌&&◌, ◌==◌, List, [], ◌∷◌, length, get_or, Bool, true, false, nat_lt, nat_le, take, drop, if◌then◌else◌, Float, ℤ, Option, Some, None, option_and_then, refl, sym, ap, ◌∙◌, subst, arith, eqb-true, append-nil, length-take}
use Rattle.std.specs.Int.{IsInRange}
use Rattle.std.proofs.lemmas.Float.Parse.{scan_numeral-text_of}
use Rattle.std.proofs.lemmas.Int.Digits.{digits_more, digits_value_more}
use Rattle.std.proofs.lemmas.Str.{digit_value_digit}
use Rattle.std.proofs.lemmas.Str.Parse.{digits_value_short, numerals_by_value, tells_digits}
use Rattle.std.specs.Char.{digit_value}
use Rattle.std.specs.Str.Parse.{AllDigits, IsNumeral, digits_value}
use Rattle.std.specs.Prelude.{SomeIff}
use Rattle.std.proofs.lemmas.Grind.{common_steps}
use Rattle.std.proofs.lemmas.Bool.Decides.{nat_tests}
use Rattle.std.specs.Float.Numeral.{scan_numeral, Parts, text_of}
use Rattle.std.specs.Float.{binary64, float_is_finite}
use Rattle.fast_float.specs.Text.{scan, digits_of, nearest, with_sign as sign, IsInteger}
use Rattle.serde_json.specs.Data.{unsigned, negative, float}
use Rattle.serde_json.specs.Find.{as_u64}
use Rattle.serde_json.specs.Read.{number_of, is_integer}

with_sign : (b c : Bool) (z : ℤ) (x : Float) → option_and_then as_u64 (if b then Some (negative z) else (if c then Some (float x) else None)) ≡ None
with_sign true c z x = refl
with_sign false true z x = refl
with_sign false false z x = refl

with_none : (b c : Bool) (n : ℕ) (x : Float) → option_and_then as_u64 (if b then Some (unsigned n) else (if c then Some (float x) else None)) ≡ (if b then Some n else None)
with_none true c n x = refl
with_none false true n x = refl
with_none false false n x = refl

-- a text with a minus begins with no digit
no_digits : (s : List ℕ) → get_or s 0 0 ≡ 45 → (scan s).whole ≡ []
unfolding scan_numeral
no_digits [] e = absurd (omega arith)
no_digits (x ∷ s) e = let P : ℕ → Type 0 = λ y. (scan (y ∷ s)).whole ≡ [] in subst P (sym e) refl

exact : (p : Parts) (o : Option ℕ) → SomeIff o (IsInteger p × (digits_of p < 2 ^ 64)) (digits_of p) → o ≡ (if is_integer p && nat_lt (digits_of p) (2 ^ 64) then Some (digits_of p) else None)
exact p (Some n) h = grind (arith, common_steps, nat_tests)
exact p None h = grind (arith, common_steps, nat_tests)

abbrev signed_nearest : Parts → Float
signed_nearest p = nearest binary64 true p

abbrev unsigned_nearest : Parts → Float
unsigned_nearest p = nearest binary64 false p

read_by : (s : List ℕ) (o : Option ℕ) (b : Bool) → (get_or s 0 0 == 45) ≡ b → SomeIff o (IsInteger (scan s) × (digits_of (scan s) < 2 ^ 64)) (digits_of (scan s)) → o ≡ option_and_then as_u64 (number_of s)
unfolding number_of
read_by s (Some n) true e h = let none = no_digits s (eqb-true _ _ e) in let never : ⊥ = omega (arith, h.0.0.0, ap length none) in absurd never
read_by s None true e h =
    let p = scan (drop 1 s) in
    rw e (sym (with_sign (is_integer p && nat_lt 0 (digits_of p) && nat_le (digits_of p) (2 ^ 63)) (float_is_finite (signed_nearest p)) (sign true (digits_of p)) (signed_nearest p)))
read_by s o false e h =
    let p = scan s in
    rw e (exact p o h ∙ sym (with_none (is_integer p && nat_lt (digits_of p) (2 ^ 64)) (float_is_finite (unsigned_nearest p)) (digits_of p) (unsigned_nearest p)))

-- what is read as a whole number is the number of the text
pub whole_read : (s text : List ℕ) (p : Parts) (o : Option ℕ) → s ≡ text → p ≡ scan s → SomeIff o (IsInteger p × (digits_of p < 2 ^ 64)) (digits_of p) → o ≡ option_and_then as_u64 (number_of text)
whole_read s text p o same scanned h =
    let P : Parts → Type 0 = λ q. SomeIff o (IsInteger q × (digits_of q < 2 ^ 64)) (digits_of q) in
    read_by s o (get_or s 0 0 == 45) refl (subst P scanned h) ∙ ap (λ t. option_and_then as_u64 (number_of t)) same

-- ---- digits alone

-- a byte that is no more than 9 above `0` is a digit, and that is its value
digit_is : (byte digit : ℕ) → byte < 256 → digit ≡ (byte + 208) % 256 → digit ≤ 9 → digit_value byte ≡ digit
digit_is byte digit small is low =
    let digits : IsInRange 48 57 byte = omega arith in
    omega (arith, digit_value_digit byte digits)

-- 18 digits leave room for one more
pub has_room : (ds : List ℕ) (i n : ℕ) → AllDigits 10 (take i ds) → n ≡ digits_value 10 (take i ds) → i ≤ 18 → n < 10 ^ 18
has_room ds i n h is few = rw is (digits_value_short (numerals_by_value (AllDigits 10) tells_digits) (take i ds) 18 h (omega (arith, length-take i ds)))

-- one digit more was read
pub reads_on : (ds : List ℕ) (i n digit : ℕ) → i < length ds → get_or ds i 0 < 256 → digit ≡ (get_or ds i 0 + 208) % 256 → digit ≤ 9
    → (n ≡ digits_value 10 (take i ds)) × AllDigits 10 (take i ds) → (n * 10 + digit ≡ digits_value 10 (take (i + 1) ds)) × AllDigits 10 (take (i + 1) ds)
reads_on ds i n digit lt small is low so_far =
    let value = digit_is (get_or ds i 0) digit small is low in
    let below : digit_value (get_or ds i 0) < 10 = omega arith in
    (rw (digits_value_more 10 ds i lt, value, sym so_far.0) refl, digits_more 10 ds i lt so_far.1 below)

-- the numeral that is digits alone
abbrev plain : List ℕ → Parts
plain ds = record { whole = ds; point = false; fraction = []; exponent_negative = false; exponent = []; len = length ds }

scan_digits : (ds : List ℕ) → AllDigits 10 ds → scan ds ≡ plain ds
scan_digits ds h =
    let text : text_of (plain ds) ≡ ds = append-nil ds in
    ap scan (sym text) ∙ scan_numeral-text_of (plain ds) (record { whole_digits = h; fraction_digits = tt; exponent_digits = tt; no_point = λ _. refl; no_exponent = λ _. refl; len_is = ap length (sym text) })

-- what digits alone write is the number of the text
pub digits_read : (s text : List ℕ) (n : ℕ) → s ≡ text → IsNumeral 10 s → digits_value 10 s ≡ n → n < 2 ^ 64 → option_and_then as_u64 (number_of text) ≡ Some n
digits_read s text n same h is small =
    let value : digits_of (plain s) ≡ n = ap (digits_value 10) (append-nil s) ∙ is in
    let fits : digits_of (plain s) < 2 ^ 64 = omega arith in
    sym (whole_read s text (plain s) (Some n) same (sym (scan_digits s h.1)) (((h.0, refl, refl), fits), sym value))
