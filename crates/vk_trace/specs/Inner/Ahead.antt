-- What the tokens of a text spell from a place on: the value that comes next, and the members that an array still has.
use Rattle.std.specs.Prelude.{ℕ, zero, suc, ◌-◌, List, [], ◌∷◌, length, Option, Some, None, option_map}
use Rattle.json.specs.Token.{Token}
use Rattle.json.specs.Json.{value, after_end_array}
use Rattle.serde_json.specs.Data.{Data, null, array}
use Rattle.serde_json.specs.Read.{of_json, converted, max_depth}
use Rattle.serde_json.specs.View.{items_of}
use Rattle.vk_trace.specs.declared.tokens.Tokens.{Tokens}

-- What comes, and the tokens after it if all of it is JSON.
abbrev pub Found : Type 0 → Type 0
Found A = A × Option (List Token)

-- The value at the front, of at most this many levels, and the tokens after it.
abbrev pub front : ℕ → List Token → Option (Data × List Token)
front depth ts = converted of_json (value depth ts)

-- A value, or null where none was found.
abbrev pub or_null : Option (Data × List Token) → Found Data
or_null None = (null, None)
or_null (Some p) = (p.0, Some p.1)

-- A member, and those after it.
abbrev pub with_more : (List Token → Found (List Data)) → Data → Option (List Token) → Found (List Data)
with_more more d None = (d ∷ [], None)
with_more more d (Some rest) = (d ∷ (more rest).0, (more rest).1)

-- No member if the array ends here, or the next one and those after it.
abbrev pub members_step : (List Token → Found Data) → (List Token → Found (List Data)) → List Token → Option (List Token) → Found (List Data)
members_step next more ts (Some rest) = ([], Some rest)
members_step next more ts None = with_more more (next ts).0 (next ts).1

-- The members up to the end of the array, in at most this many turns.
unfoldable pub members_within : (List Token → Found Data) → ℕ → List Token → Found (List Data)
members_within next zero ts = (null ∷ [], None)
members_within next (suc n) ts = members_step next (members_within next n) ts (after_end_array ts)

-- An array of members.
abbrev pub as_array : Found (List Data) → Found Data
as_array found = (array (items_of found.0), found.1)

-- An array, whose members are these, or another value, or null where none comes.
abbrev pub value_step : (List Token → Found (List Data)) → (List Token → Option (Data × List Token)) → List Token → Found Data
value_step members other [] = or_null (other [])
value_step members other (Token.begin_object ∷ ts) = or_null (other (Token.begin_object ∷ ts))
value_step members other (Token.end_object ∷ ts) = or_null (other (Token.end_object ∷ ts))
value_step members other (Token.begin_array ∷ ts) = as_array (members ts)
value_step members other (Token.end_array ∷ ts) = or_null (other (Token.end_array ∷ ts))
value_step members other (Token.key s ∷ ts) = or_null (other (Token.key s ∷ ts))
value_step members other (Token.string s ∷ ts) = or_null (other (Token.string s ∷ ts))
value_step members other (Token.number s ∷ ts) = or_null (other (Token.number s ∷ ts))
value_step members other (Token.boolean b ∷ ts) = or_null (other (Token.boolean b ∷ ts))
value_step members other (Token.null ∷ ts) = or_null (other (Token.null ∷ ts))
value_step members other (Token.bad ∷ ts) = or_null (other (Token.bad ∷ ts))

-- The value at the front, of at most this many levels. Where a member of an array is none it is null, and the last.
unfoldable pub value_found : ℕ → List Token → Found Data
unfolding members_within
value_found zero ts = or_null (front zero ts)
value_found (suc depth) ts = value_step (λ us. members_within (value_found depth) (length us) us) (front (suc depth)) ts

-- The members that an array still has, each of at most this many levels.
abbrev pub members_found : ℕ → List Token → Found (List Data)
members_found depth ts = members_within (value_found depth) (length ts) ts

-- How many levels a value may have here.
abbrev pub levels : Tokens → ℕ
levels tokens = max_depth - tokens.nesting

-- The value that comes next.
unfoldable pub next : Tokens → Data
next tokens = (value_found (levels tokens) tokens.reader).0

-- The state behind the next value, if it is JSON.
unfoldable pub after : Tokens → Option Tokens
after tokens = option_map (λ ts. record { reader = ts; nesting = tokens.nesting }) (value_found (levels tokens) tokens.reader).1

-- The members that the array still has.
unfoldable pub ahead : Tokens → List Data
ahead tokens = (members_found (levels tokens) tokens.reader).0

-- The state behind the array, if the rest of it is JSON.
unfoldable pub whole : Tokens → Option Tokens
whole tokens = option_map (λ ts. record { reader = ts; nesting = tokens.nesting - 1 }) (members_found (levels tokens) tokens.reader).1
