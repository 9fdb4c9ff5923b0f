-- The members that an array still has, one after the other.
use Rattle.std.specs.Prelude.{OnOk}
use Rattle.std.proofs.Common.{Result, Ok, Err, ◌≡◌, ℕ, zero, suc, ◌-◌, ◌<◌, ◌≤◌, List, [], ◌∷◌, length, Option, Some, None, option_map, refl, sym, ap, ◌∙◌, subst, arith}
use Rattle.std.proofs.lemmas.Option.{none-some, same_Some}
use Rattle.json.specs.Token.{Token}
use Rattle.json.specs.Json as json
use Rattle.json.specs.Json.{Parse, parse_map, after_end_array, items, items_step, value}
use Rattle.json.proofs.Grammar.{left, closed_array, skip_value-shorter}
use Rattle.serde_json.specs.Data.{Data, null, array, Items, item}
use Rattle.serde_json.specs.Read.{of_json, of_items, converted}
use Rattle.serde_json.specs.View.{items_of}
use Rattle.vk_trace.proofs.JsonLemmas.{converted_some, converted-array, item_read, item_refused}
use Rattle.vk_trace.specs.declared.tokens.Tokens.{Tokens}
use Rattle.vk_trace.specs.declared.errors.ReadTraceError.{ReadTraceError}
use Rattle.vk_trace.specs.declared.errors.ReadTraceError.TheVariants.{NotTrace, NoMemory}
use Rattle.vk_trace.specs.Members.{Reader, ◌>>=◌, first_member, no_member}
use Rattle.vk_trace.specs.Inner.Gives.{Gives}
use Rattle.vk_trace.specs.Inner.Ahead.{Found, or_null, front, with_more, members_step, members_within, as_array, value_found, members_found, levels, next, after, ahead, whole}

-- ---- what is found, as it is parsed

abbrev pub parsed : Found Data → Option (Data × List Token)
parsed found = option_map (λ rest. (found.0, rest)) found.1

abbrev items_parsed : Found (List Data) → Option (Items × List Token)
items_parsed found = option_map (λ rest. (items_of found.0, rest)) found.1

or_null_is : (o : Option (Data × List Token)) → o ≡ parsed (or_null o)
or_null_is None = refl
or_null_is (Some p) = refl

as_array_is : (ds : List Data) (o : Option (List Token)) → parse_map array (items_parsed (ds, o)) ≡ parsed (as_array (ds, o))
as_array_is ds None = refl
as_array_is ds (Some rest) = refl

one_item : (d : Data) (ds : List Data) (o : Option (List Token)) → parse_map (item d) (items_parsed (ds, o)) ≡ items_parsed (d ∷ ds, o)
one_item d ds None = refl
one_item d ds (Some rest) = refl

module _ (p : Parse json.Json) (v : List Token → Found Data) (same : (ts : List Token) → converted of_json (p ts) ≡ parsed (v ts)) where
  members_next : (n : ℕ) (ts : List Token) (d : Data) (o : Option (List Token)) → after_end_array ts ≡ None → v ts ≡ (d, o) → ((us : List Token) → converted of_items (items p n us) ≡ items_parsed (members_within v n us))
      → converted of_items (items p (suc n) ts) ≡ items_parsed (with_more (members_within v n) d o)
  members_next n ts d None going found before = item_refused p (suc n) ts going (same ts ∙ ap parsed found)
  members_next n ts d (Some rest) going found before =
      let some : 0 < suc n = omega arith in
      let less : suc n - 1 ≡ n = omega arith in
      item_read p (suc n) ts rest d some going (same ts ∙ ap parsed found)
      ∙ ap (λ m. parse_map (item d) (converted of_items (items p m rest))) less
      ∙ ap (parse_map (item d)) (before rest)
      ∙ one_item d (members_within v n rest).0 (members_within v n rest).1

  members_turn : (n : ℕ) (ts : List Token) (o : Option (List Token)) → after_end_array ts ≡ o → ((us : List Token) → converted of_items (items p n us) ≡ items_parsed (members_within v n us))
      → converted of_items (items p (suc n) ts) ≡ items_parsed (members_within v (suc n) ts)
  unfolding items members_within
  members_turn n ts None going before = members_next n ts (v ts).0 (v ts).1 going refl before ∙ ap (λ o. items_parsed (members_step v (members_within v n) ts o)) (sym going)
  members_turn n ts (Some rest) over before =
      ap (λ o. converted of_items (items_step p (items p n) ts o)) over ∙ ap (λ o. items_parsed (members_step v (members_within v n) ts o)) (sym over)

  members_are : (n : ℕ) (ts : List Token) → converted of_items (items p n ts) ≡ items_parsed (members_within v n ts)
  unfolding items members_within
  members_are zero ts = refl
  members_are (suc n) ts = members_turn n ts (after_end_array ts) refl (members_are n)

pub value_is : (depth : ℕ) (ts : List Token) → front depth ts ≡ parsed (value_found depth ts)
unfolding value value_found
value_is zero ts = or_null_is (front zero ts)
value_is (suc d) [] = or_null_is (front (suc d) [])
value_is (suc d) (Token.begin_object ∷ ts) = or_null_is (front (suc d) (Token.begin_object ∷ ts))
value_is (suc d) (Token.end_object ∷ ts) = or_null_is (front (suc d) (Token.end_object ∷ ts))
value_is (suc d) (Token.begin_array ∷ ts) =
    let found = members_within (value_found d) (length ts) ts in
    converted-array (items (value d) (length ts) ts)
    ∙ ap (parse_map array) (members_are (value d) (value_found d) (value_is d) (length ts) ts)
    ∙ as_array_is found.0 found.1
value_is (suc d) (Token.end_array ∷ ts) = or_null_is (front (suc d) (Token.end_array ∷ ts))
value_is (suc d) (Token.key s ∷ ts) = or_null_is (front (suc d) (Token.key s ∷ ts))
value_is (suc d) (Token.string s ∷ ts) = or_null_is (front (suc d) (Token.string s ∷ ts))
value_is (suc d) (Token.number s ∷ ts) = or_null_is (front (suc d) (Token.number s ∷ ts))
value_is (suc d) (Token.boolean b ∷ ts) = or_null_is (front (suc d) (Token.boolean b ∷ ts))
value_is (suc d) (Token.null ∷ ts) = or_null_is (front (suc d) (Token.null ∷ ts))
value_is (suc d) (Token.bad ∷ ts) = or_null_is (front (suc d) (Token.bad ∷ ts))

-- what was found to its end is a value of JSON
pub found_is : (depth : ℕ) (ts rest : List Token) → (value_found depth ts).1 ≡ Some rest → front depth ts ≡ Some ((value_found depth ts).0, rest)
found_is depth ts rest e = value_is depth ts ∙ ap (option_map (λ us. ((value_found depth ts).0, us))) e

found_shorter : (depth : ℕ) (ts rest : List Token) → (value_found depth ts).1 ≡ Some rest → length rest < length ts
found_shorter depth ts rest e =
    let j = converted_some of_json (value depth ts) (value_found depth ts).0 rest (found_is depth ts rest e) in
    skip_value-shorter depth ts rest (ap left j.1)

none_found : (depth : ℕ) → value_found depth [] ≡ (null, None)
unfolding value value_found
none_found zero = refl
none_found (suc d) = refl

none_at_end_array : (depth : ℕ) (ts : List Token) → (value_found depth (Token.end_array ∷ ts)).1 ≡ None
unfolding value value_found
none_at_end_array zero ts = refl
none_at_end_array (suc d) ts = refl

goes_on : (depth : ℕ) (ts rest : List Token) (o : Option (List Token)) → (value_found depth ts).1 ≡ Some rest → after_end_array ts ≡ o → after_end_array ts ≡ None
goes_on depth ts rest None e h = h
goes_on depth ts rest (Some us) e h =
    absurd (none-some rest (sym (none_at_end_array depth us) ∙ sym (ap (λ ws. (value_found depth ws).1) (closed_array ts us h)) ∙ e))

-- ---- a member after the other, in enough turns

module _ (depth : ℕ) where
  same_more : (n m : ℕ) (ts : List Token) (d : Data) (o : Option (List Token)) → (value_found depth ts).1 ≡ o
      → ((rest : List Token) → length rest < length ts → members_within (value_found depth) n rest ≡ members_within (value_found depth) m rest)
      → with_more (members_within (value_found depth) n) d o ≡ with_more (members_within (value_found depth) m) d o
  same_more n m ts d None e agree = refl
  same_more n m ts d (Some rest) e agree = ap (λ (found : Found (List Data)). (d ∷ found.0, found.1)) (agree rest (found_shorter depth ts rest e))

  same_step : (n m : ℕ) (ts : List Token) (o : Option (List Token))
      → ((rest : List Token) → length rest < length ts → members_within (value_found depth) n rest ≡ members_within (value_found depth) m rest)
      → members_step (value_found depth) (members_within (value_found depth) n) ts o ≡ members_step (value_found depth) (members_within (value_found depth) m) ts o
  same_step n m ts None agree = same_more n m ts (value_found depth ts).0 (value_found depth ts).1 refl agree
  same_step n m ts (Some rest) agree = refl

  at_end : (n : ℕ) → members_within (value_found depth) n [] ≡ (null ∷ [], None)
  unfolding members_within
  at_end zero = refl
  at_end (suc n) = ap (λ (found : Found Data). with_more (members_within (value_found depth) n) found.0 found.1) (none_found depth)

  enough : (n m : ℕ) (ts : List Token) → length ts ≤ n → length ts ≤ m → members_within (value_found depth) n ts ≡ members_within (value_found depth) m ts
  unfolding members_within
  enough n m [] le le2 = at_end n ∙ sym (at_end m)
  enough zero m (t ∷ ts) le le2 = let never : ⊥ = omega arith in absurd never
  enough (suc n) zero (t ∷ ts) le le2 = let never : ⊥ = omega arith in absurd never
  enough (suc n) (suc m) (t ∷ ts) le le2 = same_step n m (t ∷ ts) (after_end_array (t ∷ ts)) (λ rest lt. enough n m rest (omega arith) (omega arith))

  pub members_over : (ts rest : List Token) → after_end_array ts ≡ Some rest → members_found depth ts ≡ ([], Some rest)
  unfolding members_within
  members_over [] rest e = absurd (none-some rest e)
  members_over (t ∷ ts) rest e = ap (members_step (value_found depth) (members_within (value_found depth) (length ts)) (t ∷ ts)) e

  pub members_more : (ts rest : List Token) → (value_found depth ts).1 ≡ Some rest → members_found depth ts ≡ ((value_found depth ts).0 ∷ (members_found depth rest).0, (members_found depth rest).1)
  unfolding members_within
  members_more [] rest e = absurd (none-some rest (sym (ap (λ (found : Found Data). found.1) (none_found depth)) ∙ e))
  members_more (t ∷ ts) rest e =
      let v = value_found depth in
      let d = (v (t ∷ ts)).0 in
      let shorter = found_shorter depth (t ∷ ts) rest e in
      let le : length rest ≤ length ts = omega arith in
      ap (members_step v (members_within v (length ts)) (t ∷ ts)) (goes_on depth (t ∷ ts) rest (after_end_array (t ∷ ts)) e refl)
      ∙ ap (with_more (members_within v (length ts)) d) e
      ∙ ap (λ (found : Found (List Data)). (d ∷ found.0, found.1)) (enough (length ts) (length rest) rest le (omega arith))

  more_front : (more : List Token → Found (List Data)) (d : Data) (o : Option (List Token)) → (rest : List Data) × ((with_more more d o).0 ≡ d ∷ rest)
  more_front more d None = ([], refl)
  more_front more d (Some us) = ((more us).0, refl)

  -- where the array does not end, its next member is the next value
  pub members_front : (ts : List Token) → after_end_array ts ≡ None → (rest : List Data) × ((members_found depth ts).0 ≡ (value_found depth ts).0 ∷ rest)
  unfolding members_within
  members_front [] e = ([], ap (λ (found : Found Data). found.0 ∷ []) (sym (none_found depth)))
  members_front (t ∷ ts) e =
      let v = value_found depth in
      let step = members_step v (members_within v (length ts)) (t ∷ ts) in
      let here = more_front (members_within v (length ts)) (v (t ∷ ts)).0 (v (t ∷ ts)).1 in
      (here.0, ap (λ o. (step o).0) e ∙ here.1)

-- ---- the same of the tokens of a text

pub over_ahead : (tokens : Tokens) (ts : List Token) → after_end_array tokens.reader ≡ Some ts → ahead tokens ≡ []
unfolding ahead
over_ahead tokens ts e = ap (λ (found : Found (List Data)). found.0) (members_over (levels tokens) tokens.reader ts e)

pub over_whole : (tokens : Tokens) (ts : List Token) → after_end_array tokens.reader ≡ Some ts → whole tokens ≡ Some (record { reader = ts; nesting = tokens.nesting - 1 })
unfolding whole
over_whole tokens ts e = ap (λ (found : Found (List Data)). option_map (λ us. record { reader = us; nesting = tokens.nesting - 1 }) found.1) (members_over (levels tokens) tokens.reader ts e)

pub not_over : (tokens : Tokens) → after_end_array tokens.reader ≡ None → (rest : List Data) × (ahead tokens ≡ next tokens ∷ rest)
unfolding ahead next
not_over tokens e = members_front (levels tokens) tokens.reader e

-- there is a member where the array goes on
pub more_members : (tokens : Tokens) → after_end_array tokens.reader ≡ None → no_member (ahead tokens) ≡ None
more_members tokens e = let front = not_over tokens e in ap no_member front.1

-- the same where the tokens have another name
pub front_of : (now before : Tokens) → now ≡ before → after_end_array before.reader ≡ None → (rest : List Data) × (ahead before ≡ next now ∷ rest)
front_of now before same going = let front = not_over before going in (front.0, front.1 ∙ ap (λ (state : Tokens). next state ∷ front.0) (sym same))

-- what a value was taken from
pub record IsTaken (tokens left : Tokens) : Type 0 where
  pub ahead_is : ahead tokens ≡ next tokens ∷ ahead left
  pub whole_is : whole tokens ≡ whole left
  pub shorter : length left.reader < length tokens.reader

taken_at : (tokens : Tokens) (left : Tokens) (o : Option (List Token)) → (value_found (levels tokens) tokens.reader).1 ≡ o → option_map (λ us. record { reader = us; nesting = tokens.nesting }) o ≡ Some left → IsTaken tokens left
unfolding ahead next whole
taken_at tokens left None e h = absurd (none-some left h)
taken_at tokens left (Some ts) e h =
    let depth = levels tokens in
    let more = members_more depth tokens.reader ts e in
    let at : IsTaken tokens (record { reader = ts; nesting = tokens.nesting }) = record {
      ahead_is = ap (λ (found : Found (List Data)). found.0) more;
      whole_is = ap (λ (found : Found (List Data)). option_map (λ us. record { reader = us; nesting = tokens.nesting - 1 }) found.1) more;
      shorter = found_shorter depth tokens.reader ts e;
    } in
    subst (λ (state : Tokens). IsTaken tokens state) (same_Some {A = Tokens} (record { reader = ts; nesting = tokens.nesting }) left h) at

pub taken : (tokens left : Tokens) → after tokens ≡ Some left → IsTaken tokens left
unfolding after
taken tokens left e = taken_at tokens left (value_found (levels tokens) tokens.reader).1 refl e

-- a member that was taken is the first of those ahead
pub first_taken : {A : Type 0} (read : Reader A) (tokens left : Tokens) (x : A) → read (next tokens) ≡ Some x → after tokens ≡ Some left → first_member read (ahead tokens) ≡ Some (x, ahead left)
first_taken {A} read tokens left x means e =
    ap (first_member read) (taken tokens left e).ahead_is ∙ ap (λ (o : Option A). o >>= λ y. Some (y, ahead left)) means

first_refused_at : {A : Type 0} (read : Reader A) (tokens : Tokens) (o : Option (List Token)) → after_end_array tokens.reader ≡ o → read (next tokens) ≡ None → first_member read (ahead tokens) ≡ None
first_refused_at {A} read tokens None e means =
    let front = not_over tokens e in
    ap (first_member read) front.1 ∙ ap (λ (o : Option A). o >>= λ y. Some (y, front.0)) means
first_refused_at read tokens (Some ts) e means = ap (first_member read) (over_ahead tokens ts e)

-- a member that means nothing is the first of those ahead, or there is none
pub first_refused : {A : Type 0} (read : Reader A) (tokens : Tokens) → read (next tokens) ≡ None → first_member read (ahead tokens) ≡ None
first_refused read tokens means = first_refused_at read tokens (after_end_array tokens.reader) refl means

module _ {X A : Type 0} (seen : X → A) (read : Reader A) (tokens left : Tokens) where
  -- what a function that took a value returned, as the first of the members
  pub first_gives : (r : Result X ReadTraceError) → Gives seen r (read (next tokens)) → OnOk r (after tokens ≡ Some left) → Gives (λ x. (seen x, ahead left)) r (first_member read (ahead tokens))
  first_gives (Ok x) means rest = first_taken read tokens left (seen x) means rest
  first_gives (Err NoMemory) means rest = tt
  first_gives (Err NotTrace) means rest = first_refused read tokens means

pub first_rest : {X : Type 0} (tokens left : Tokens) (r : Result X ReadTraceError) → OnOk r (after tokens ≡ Some left) → OnOk r (whole tokens ≡ whole left)
first_rest tokens left (Ok x) rest = (taken tokens left rest).whole_is
first_rest tokens left (Err e) rest = tt
