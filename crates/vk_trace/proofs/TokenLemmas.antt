-- What the token at the front says of the value that comes next.
use Rattle.std.specs.Prelude.{OnOk}
use Rattle.std.proofs.Common.{Result, Ok, Err, ◌≡◌, ℕ, zero, suc, ◌+◌, ◌-◌, ◌<◌, ◌≤◌, ap₂, arith, List, [], ◌∷◌, length, Option, Some, None, option_map, option_and_then, Bor, refl, ap, ◌∙◌}
use Rattle.json.specs.Token.{Token}
use Rattle.json.specs.Json as json
use Rattle.json.specs.Reads.{token_of}
use Rattle.json.specs.declared.token.Token.{Token as Read}
use Rattle.json.specs.declared.token.Token.TheVariants.{BeginObject, EndObject, BeginArray, EndArray, Key, String, Number, Bool, Null, Bad}
use Rattle.json.specs.Json.{value, parse_map}
use Rattle.serde_json.specs.Data.{Num, Data, null, boolean, number, string, array, object, Items, Members, no_members}
use Rattle.serde_json.specs.Find.{as_str, as_u64}
use Rattle.serde_json.specs.Read.{of_json, of_members, converted, number_of}
use Rattle.serde_json.specs.View.{items_of}
use Rattle.vk_trace.specs.declared.errors.ReadTraceError.{ReadTraceError}
use Rattle.vk_trace.specs.declared.errors.ReadTraceError.TheVariants.{NotTrace, NoMemory}
use Rattle.vk_trace.specs.Inner.Gives.{Gives}
use Rattle.vk_trace.specs.Members.{array_members, items_list, u64_value}
use Rattle.vk_trace.specs.declared.tokens.Tokens.{Tokens}
use Rattle.vk_trace.specs.Inner.Ahead.{Found, or_null, value_found, members_found, levels, next, after, ahead, whole}

-- a reader that means nothing by null and by objects
pub record IsOfNoObject {B : Type 0} (read : Data → Option B) : Type 0 where
  pub no_null : read null ≡ None
  pub no_object : (ms : Members) → read (object ms) ≡ None

-- it means nothing by a value that begins with this token
abbrev pub Refuses : {B : Type 0} → (Data → Option B) → Token → Type 0
Refuses read Token.begin_object = Unit {0}
Refuses read Token.end_object = Unit {0}
Refuses read Token.begin_array = (ds : Items) → read (array ds) ≡ None
Refuses read Token.end_array = Unit {0}
Refuses read (Token.key s) = Unit {0}
Refuses read (Token.string s) = read (string s) ≡ None
Refuses read (Token.number s) = (n : Num) → read (number n) ≡ None
Refuses read (Token.boolean b) = read (boolean b) ≡ None
Refuses read Token.null = Unit {0}
Refuses read Token.bad = Unit {0}

module _ {B : Type 0} (read : Data → Option B) (by : IsOfNoObject read) where
  of_object : (ts : List Token) (o : Option Members) → read (or_null (option_map (λ b. (b, ts)) (option_map object o))).0 ≡ None
  of_object ts None = by.no_null
  of_object ts (Some ms) = by.no_object ms

  of_members_found : (o : Option (json.Members × List Token)) → read (or_null (converted of_json (parse_map json.object o))).0 ≡ None
  of_members_found None = by.no_null
  of_members_found (Some p) = of_object p.1 (of_members p.0 no_members)

  of_number : ((n : Num) → read (number n) ≡ None) → (ts : List Token) (o : Option Num) → read (or_null (option_map (λ b. (b, ts)) (option_map number o))).0 ≡ None
  of_number refuses ts None = by.no_null
  of_number refuses ts (Some n) = refuses n

  pub none_at_end : (depth : ℕ) → read (value_found depth []).0 ≡ None
  unfolding value_found value
  none_at_end zero = by.no_null
  none_at_end (suc d) = by.no_null

  pub none_at : (depth : ℕ) (t : Token) (ts : List Token) → Refuses read t → read (value_found depth (t ∷ ts)).0 ≡ None
  unfolding value_found value
  none_at zero Token.begin_object ts refuses = by.no_null
  none_at (suc d) Token.begin_object ts refuses = of_members_found (json.members (value d) (length ts) ts)
  none_at zero Token.end_object ts refuses = by.no_null
  none_at (suc d) Token.end_object ts refuses = by.no_null
  none_at zero Token.begin_array ts refuses = by.no_null
  none_at (suc d) Token.begin_array ts refuses = refuses _
  none_at zero Token.end_array ts refuses = by.no_null
  none_at (suc d) Token.end_array ts refuses = by.no_null
  none_at zero (Token.key s) ts refuses = by.no_null
  none_at (suc d) (Token.key s) ts refuses = by.no_null
  none_at zero (Token.string s) ts refuses = refuses
  none_at (suc d) (Token.string s) ts refuses = refuses
  none_at zero (Token.number s) ts refuses = of_number refuses ts (number_of s)
  none_at (suc d) (Token.number s) ts refuses = of_number refuses ts (number_of s)
  none_at zero (Token.boolean b) ts refuses = refuses
  none_at (suc d) (Token.boolean b) ts refuses = refuses
  none_at zero Token.null ts refuses = by.no_null
  none_at (suc d) Token.null ts refuses = by.no_null
  none_at zero Token.bad ts refuses = by.no_null
  none_at (suc d) Token.bad ts refuses = by.no_null

-- ---- the readers of one value

pub str_by : IsOfNoObject as_str
str_by = record { no_null = refl; no_object = λ ms. refl }

pub u64_by : IsOfNoObject u64_value
u64_by = record { no_null = refl; no_object = λ ms. refl }

pub array_by : IsOfNoObject array_members
array_by = record { no_null = refl; no_object = λ ms. refl }

-- ---- the values that are found

pub string_found : (depth : ℕ) (s : List ℕ) (ts : List Token) → value_found depth (Token.string s ∷ ts) ≡ (string s, Some ts)
unfolding value_found value
string_found zero s ts = refl
string_found (suc d) s ts = refl

pub number_found : (depth : ℕ) (s : List ℕ) (ts : List Token) → value_found depth (Token.number s ∷ ts) ≡ or_null (option_map (λ b. (b, ts)) (option_map number (number_of s)))
unfolding value_found value
number_found zero s ts = refl
number_found (suc d) s ts = refl

u64_of : (o : Option Num) (ts : List Token) → u64_value (or_null (option_map (λ b. (b, ts)) (option_map number o))).0 ≡ option_and_then as_u64 o
u64_of None ts = refl
u64_of (Some n) ts = refl

pub u64_found : (depth : ℕ) (s : List ℕ) (ts : List Token) → u64_value (value_found depth (Token.number s ∷ ts)).0 ≡ option_and_then as_u64 (number_of s)
u64_found depth s ts = ap (λ (p : Data × Option (List Token)). u64_value p.0) (number_found depth s ts) ∙ u64_of (number_of s) ts

rest_of : (o : Option Num) (n : ℕ) (ts : List Token) → option_and_then as_u64 o ≡ Some n → (or_null (option_map (λ b. (b, ts)) (option_map number o))).1 ≡ Some ts
rest_of None n ts e = absurd (cc)
rest_of (Some x) n ts e = refl

pub after_number : (depth : ℕ) (s : List ℕ) (n : ℕ) (ts : List Token) → option_and_then as_u64 (number_of s) ≡ Some n → (value_found depth (Token.number s ∷ ts)).1 ≡ Some ts
after_number depth s n ts e = ap (λ (p : Data × Option (List Token)). p.1) (number_found depth s ts) ∙ rest_of (number_of s) n ts e

items_list-items_of : (ds : List Data) → items_list (items_of ds) ≡ ds
items_list-items_of [] = refl
items_list-items_of (d ∷ ds) = ap (λ l. d ∷ l) (items_list-items_of ds)

pub members_of_array : (depth : ℕ) (ts : List Token) → array_members (value_found (suc depth) (Token.begin_array ∷ ts)).0 ≡ Some (members_found depth ts).0
unfolding value_found
members_of_array depth ts = ap Some (items_list-items_of _)

pub rest_of_array : (depth : ℕ) (ts : List Token) → (value_found (suc depth) (Token.begin_array ∷ ts)).1 ≡ (members_found depth ts).1
unfolding value_found
rest_of_array depth ts = refl

-- ---- the same of the tokens of a text

module _ {B : Type 0} (read : Data → Option B) (by : IsOfNoObject read) where
  pub none_left : (tokens : Tokens) → tokens.reader ≡ [] → read (next tokens) ≡ None
  unfolding next
  none_left tokens e = ap (λ ts. read (value_found (levels tokens) ts).0) e ∙ none_at_end read by (levels tokens)

  pub refused : (tokens : Tokens) (t : Token) (ts : List Token) → tokens.reader ≡ t ∷ ts → Refuses read t → read (next tokens) ≡ None
  unfolding next
  refused tokens t ts e refuses = ap (λ us. read (value_found (levels tokens) us).0) e ∙ none_at read by (levels tokens) t ts refuses

pub text_next : (tokens : Tokens) (s : List ℕ) (ts : List Token) → tokens.reader ≡ Token.string s ∷ ts → as_str (next tokens) ≡ Some s
unfolding next
text_next tokens s ts e = ap (λ us. as_str (value_found (levels tokens) us).0) e ∙ ap (λ (p : Found Data). as_str p.0) (string_found (levels tokens) s ts)

pub text_after : (tokens : Tokens) (s : List ℕ) (ts : List Token) → tokens.reader ≡ Token.string s ∷ ts → after tokens ≡ Some (record { reader = ts; nesting = tokens.nesting })
unfolding after
text_after tokens s ts e = ap (option_map (λ us. record { reader = us; nesting = tokens.nesting }))
    (ap (λ us. (value_found (levels tokens) us).1) e ∙ ap (λ (p : Found Data). p.1) (string_found (levels tokens) s ts))

pub number_next : (tokens : Tokens) (s : List ℕ) (ts : List Token) → tokens.reader ≡ Token.number s ∷ ts → u64_value (next tokens) ≡ option_and_then as_u64 (number_of s)
unfolding next
number_next tokens s ts e = ap (λ us. u64_value (value_found (levels tokens) us).0) e ∙ u64_found (levels tokens) s ts

pub number_after : (tokens : Tokens) (s : List ℕ) (n : ℕ) (ts : List Token) → tokens.reader ≡ Token.number s ∷ ts → option_and_then as_u64 (number_of s) ≡ Some n
    → after tokens ≡ Some (record { reader = ts; nesting = tokens.nesting })
unfolding after
number_after tokens s n ts e h = ap (option_map (λ us. record { reader = us; nesting = tokens.nesting }))
    (ap (λ us. (value_found (levels tokens) us).1) e ∙ after_number (levels tokens) s n ts h)

module _ (tokens : Tokens) (ts : List Token) (e : tokens.reader ≡ Token.begin_array ∷ ts) (deep : tokens.nesting < 127) where
  begun : levels tokens ≡ suc (127 - (tokens.nesting + 1))
  begun = omega arith

  pub begun_next : array_members (next tokens) ≡ Some (ahead (record { reader = ts; nesting = tokens.nesting + 1 }))
  unfolding next ahead
  begun_next = ap₂ (λ d us. array_members (value_found d us).0) begun e ∙ members_of_array (127 - (tokens.nesting + 1)) ts

  pub begun_after : after tokens ≡ whole (record { reader = ts; nesting = tokens.nesting + 1 })
  unfolding after whole
  begun_after =
      let back : tokens.nesting ≡ tokens.nesting + 1 - 1 = omega arith in
      ap₂ (λ n o. option_map (λ us. record { reader = us; nesting = n }) o) back
      (ap₂ (λ d us. (value_found d us).1) begun e ∙ rest_of_array (127 - (tokens.nesting + 1)) ts)

pub too_deep : (tokens : Tokens) (ts : List Token) → tokens.reader ≡ Token.begin_array ∷ ts → 127 ≤ tokens.nesting → array_members (next tokens) ≡ None
unfolding next value_found value
too_deep tokens ts e deep = let none : levels tokens ≡ 0 = omega arith in ap₂ (λ d us. array_members (value_found d us).0) none e

-- ---- a token of another kind

pub no_text : (t : Read) → ((x : Bor (List ℕ)) → t ≡ String x → ⊥) → Refuses as_str (token_of t)
no_text BeginObject other = tt
no_text EndObject other = tt
no_text BeginArray other = λ ds. refl
no_text EndArray other = tt
no_text (Key s) other = tt
no_text (String s) other = absurd (other s refl)
no_text (Number s) other = λ n. refl
no_text (Bool b) other = refl
no_text Null other = tt
no_text Bad other = tt

pub no_number : (t : Read) → ((x : Bor (List ℕ)) → t ≡ Number x → ⊥) → Refuses u64_value (token_of t)
no_number BeginObject other = tt
no_number EndObject other = tt
no_number BeginArray other = λ ds. refl
no_number EndArray other = tt
no_number (Key s) other = tt
no_number (String s) other = refl
no_number (Number s) other = absurd (other s refl)
no_number (Bool b) other = refl
no_number Null other = tt
no_number Bad other = tt

pub no_array : (t : Read) → (t ≡ BeginArray → ⊥) → Refuses array_members (token_of t)
no_array BeginObject other = tt
no_array EndObject other = tt
no_array BeginArray other = absurd (other refl)
no_array EndArray other = tt
no_array (Key s) other = tt
no_array (String s) other = refl
no_array (Number s) other = λ n. refl
no_array (Bool b) other = refl
no_array Null other = tt
no_array Bad other = tt

-- ---- a number that was read

pub number_gives : (tokens : Tokens) (s : List ℕ) (ts : List Token) → tokens.reader ≡ Token.number s ∷ ts → (r : Result ℕ ReadTraceError) → Gives (λ x. x) r (option_and_then as_u64 (number_of s)) → Gives (λ x. x) r (u64_value (next tokens))
number_gives tokens s ts e (Ok n) h = number_next tokens s ts e ∙ h
number_gives tokens s ts e (Err NoMemory) h = tt
number_gives tokens s ts e (Err NotTrace) h = number_next tokens s ts e ∙ h

pub number_rest : (tokens : Tokens) (s : List ℕ) (ts : List Token) → tokens.reader ≡ Token.number s ∷ ts → (r : Result ℕ ReadTraceError) → Gives (λ x. x) r (option_and_then as_u64 (number_of s))
    → OnOk r (after tokens ≡ Some (record { reader = ts; nesting = tokens.nesting }))
number_rest tokens s ts e (Ok n) h = number_after tokens s n ts e h
number_rest tokens s ts e (Err f) h = tt
