-- What a whole text spells, by its first value and what is left after it.
use Rattle.std.specs.Prelude.{is_some, MatchOption}
use Rattle.std.proofs.Common.{Bool, true, ◌≡◌, ℕ, ◌-◌, List, [], ◌∷◌, Option, Some, None, option_map, option_and_then, refl, sym, ap, ◌∙◌, subst}
use Rattle.std.proofs.lemmas.Option.{none-some, same_Some}
use Rattle.std.proofs.lemmas.Bool.{false≢true}
use Rattle.json.specs.Token.{Token}
use Rattle.json.specs.Reads.{token_of}
use Rattle.json.specs.declared.token.Token.{Token as Read}
use Rattle.json.specs.Lex.{tokens as tokens_of}
use Rattle.json.specs.Json as json
use Rattle.serde_json.specs.Data.{Data}
use Rattle.serde_json.specs.Read.{of_json, converted, read}
use Rattle.vk_trace.specs.declared.tokens.Tokens.{Tokens}
use Rattle.vk_trace.specs.declared.errors.ReadTraceError.{ReadTraceError}
use Rattle.vk_trace.specs.declared.errors.ReadTraceError.TheVariants.{NotTrace, NoMemory}
use Rattle.vk_trace.specs.Inner.Gives.{Fails}
use Rattle.vk_trace.specs.Members.{Reader}
use Rattle.vk_trace.specs.Inner.Ahead.{value_found, levels, next, after}
use Rattle.vk_trace.proofs.JsonLemmas.{found, refused}
use Rattle.vk_trace.proofs.AheadLemmas.{parsed, value_is}

-- what is made of a value that is there
pub bound : {A B : Type 0} (f : A → Option B) (o : Option A) (y : B) → option_and_then f o ≡ Some y → (x : A) × (o ≡ Some x) × (f x ≡ Some y)
bound f None y e = absurd (none-some y e)
bound f (Some x) y e = (x, refl, e)

-- a token that was taken
pub some_token : (o : Option Read) (b : Bool) (ts us : List Token) → b ≡ is_some o → b ≡ true → MatchOption o (ts ≡ []) (λ t. ts ≡ token_of t ∷ us) → (t : Token) × (ts ≡ t ∷ us)
some_token None b ts us e holds h = absurd (false≢true (sym e ∙ holds))
some_token (Some t) b ts us e holds h = (token_of t, h)

-- a value with nothing after it
abbrev last_of : Data → Option (List Token) → Option Data
last_of d None = None
last_of d (Some []) = Some d
last_of d (Some (t ∷ ts)) = None

-- the value that a text is, after its first value was parsed
abbrev whole_of : Option (json.Json × List Token) → Option Data
whole_of o = option_and_then of_json (option_and_then (λ p. json.if_last p.0 p.1) o)

none_parsed : (d : Data) (o : Option (List Token)) → None ≡ parsed (d, o) → None ≡ last_of d o
none_parsed d None e = refl
none_parsed d (Some rest) e = absurd (none-some (d, rest) e)

last_parsed : (j : json.Json) (d : Data) (o : Option (List Token)) → option_map (λ b. (b, [])) (of_json j) ≡ parsed (d, o) → of_json j ≡ last_of d o
last_parsed j d None e = refused [] (of_json j) e
last_parsed j d (Some rest) e =
    let both = found j [] rest (of_json j) d e in
    both.1 ∙ ap (λ ts. last_of d (Some ts)) both.0

more_parsed : (j : json.Json) (t : Token) (ts : List Token) (d : Data) (o : Option (List Token)) → option_map (λ b. (b, t ∷ ts)) (of_json j) ≡ parsed (d, o) → None ≡ last_of d o
more_parsed j t ts d None e = refl
more_parsed j t ts d (Some rest) e = ap (λ us. last_of d (Some us)) (found j (t ∷ ts) rest (of_json j) d e).0

whole_is : (o : Option (json.Json × List Token)) (d : Data) (rest : Option (List Token)) → converted of_json o ≡ parsed (d, rest) → whole_of o ≡ last_of d rest
whole_is None d rest e = none_parsed d rest e
whole_is (Some (j, [])) d rest e = last_parsed j d rest e
whole_is (Some (j, t ∷ ts)) d rest e = more_parsed j t ts d rest e

read_is : (text : List ℕ) → read text ≡ last_of (value_found 127 (tokens_of text)).0 (value_found 127 (tokens_of text)).1
read_is text = whole_is (json.value 127 (tokens_of text)) (value_found 127 (tokens_of text)).0 (value_found 127 (tokens_of text)).1 (value_is 127 (tokens_of text))

module _ (text : List ℕ) (tokens : Tokens) (all : tokens.reader ≡ tokens_of text) (outside : tokens.nesting ≡ 0) where
  read_next : read text ≡ last_of (next tokens) (value_found (levels tokens) tokens.reader).1
  unfolding next
  read_next =
      let P : ℕ → List Token → Type 0 = λ n ts. read text ≡ last_of (value_found (127 - n) ts).0 (value_found (127 - n) ts).1 in
      subst (λ n. P n tokens.reader) (sym outside) (subst (P 0) (sym all) (read_is text))

  rest_at : (left : Tokens) (o : Option (List Token)) → option_map (λ ts. record { reader = ts; nesting = tokens.nesting }) o ≡ Some left → o ≡ Some left.reader
  rest_at left None e = absurd (none-some left e)
  rest_at left (Some ts) e = ap (λ (state : Tokens). Some state.reader) (same_Some {A = Tokens} (record { reader = ts; nesting = tokens.nesting }) left e)

  rest_is : (left : Tokens) → after tokens ≡ Some left → (value_found (levels tokens) tokens.reader).1 ≡ Some left.reader
  unfolding after
  rest_is left e = rest_at left (value_found (levels tokens) tokens.reader).1 e

  -- the first value is all
  pub text_is : (left : Tokens) → after tokens ≡ Some left → left.reader ≡ [] → read text ≡ Some (next tokens)
  text_is left e none = read_next ∙ ap (last_of (next tokens)) (rest_is left e) ∙ ap (λ ts. last_of (next tokens) (Some ts)) none

  -- more follows it
  pub more_than : (left : Tokens) (t : Token) (ts : List Token) → after tokens ≡ Some left → left.reader ≡ t ∷ ts → read text ≡ None
  more_than left t ts e more = read_next ∙ ap (last_of (next tokens)) (rest_is left e) ∙ ap (λ us. last_of (next tokens) (Some us)) more

  last_means : {A : Type 0} (means : Reader A) (d : Data) (o : Option (List Token)) → means d ≡ None → option_and_then means (last_of d o) ≡ None
  last_means means d None e = refl
  last_means means d (Some []) e = e
  last_means means d (Some (t ∷ ts)) e = refl

  -- the first value means nothing
  pub text_means_nothing : {A : Type 0} (means : Reader A) → means (next tokens) ≡ None → option_and_then means (read text) ≡ None
  text_means_nothing means e = ap (option_and_then means) read_next ∙ last_means means (next tokens) (value_found (levels tokens) tokens.reader).1 e

  pub text_fails : {A : Type 0} (means : Reader A) (e : ReadTraceError) → Fails e (means (next tokens)) → Fails e (option_and_then means (read text))
  text_fails means NoMemory h = tt
  text_fails means NotTrace h = text_means_nothing means h
