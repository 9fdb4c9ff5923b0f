-- A number of bytes, or the word for all of them, as a token.
use Rattle.std.specs.Prelude.{OnOk}
use Rattle.std.proofs.Common.{◌≡◌, ℕ, List, [], ◌∷◌, codes, Option, Some, None, option_map, option_and_then, Result, Ok, Err, Bor, refl, sym, ap, ◌∙◌}
use Rattle.json.specs.Token.{Token}
use Rattle.json.specs.Reads.{token_of}
use Rattle.json.specs.declared.token.Token.{Token as Read}
use Rattle.json.specs.declared.token.Token.TheVariants.{BeginObject, EndObject, BeginArray, EndArray, Key, String, Number, Bool, Null, Bad}
use Rattle.serde_json.specs.Data.{Data}
use Rattle.serde_json.specs.Find.{as_str, as_u64}
use Rattle.serde_json.specs.Read.{number_of}
use Rattle.vk_model.specs.declared.command.Length.{Length}
use Rattle.vk_model.specs.declared.command.Length.TheVariants.{Bytes, Whole}
use Rattle.vk_trace.specs.declared.errors.ReadTraceError.{ReadTraceError}
use Rattle.vk_trace.specs.declared.errors.ReadTraceError.TheVariants.{NotTrace, NoMemory}
use Rattle.vk_trace.specs.declared.tokens.Tokens.{Tokens}
use Rattle.vk_trace.specs.Members.{at_word, u64_value}
use Rattle.vk_trace.specs.Trace.{length_or_whole}
use Rattle.vk_trace.specs.Inner.Ahead.{next, after}
use Rattle.vk_trace.specs.Inner.Gives.{Fails, Gives}
use Rattle.vk_trace.proofs.TokenLemmas.{IsOfNoObject, Refuses, str_by, refused, text_next, text_after, number_next, number_after}

pub length_by : IsOfNoObject length_or_whole
unfolding length_or_whole
length_by = record { no_null = refl; no_object = λ ms. refl }

pub no_length : (t : Read) → ((x : Bor (List ℕ)) → t ≡ String x → ⊥) → ((x : Bor (List ℕ)) → t ≡ Number x → ⊥) → Refuses length_or_whole (token_of t)
unfolding length_or_whole
no_length BeginObject no_string no_number = tt
no_length EndObject no_string no_number = tt
no_length BeginArray no_string no_number = λ ds. refl
no_length EndArray no_string no_number = tt
no_length (Key s) no_string no_number = tt
no_length (String s) no_string no_number = absurd (no_string s refl)
no_length (Number s) no_string no_number = absurd (no_number s refl)
no_length (Bool b) no_string no_number = refl
no_length Null no_string no_number = tt
no_length Bad no_string no_number = tt

by_word : (d : Data) (word : List ℕ) → as_str d ≡ Some word → length_or_whole d ≡ at_word ((codes "whole", Whole) ∷ []) word
unfolding length_or_whole
by_word d word e = rw e

by_number : (d : Data) (o : Option ℕ) → as_str d ≡ None → u64_value d ≡ o → length_or_whole d ≡ option_map Bytes o
unfolding length_or_whole
by_number d o none e = rw none (ap (option_map Bytes) e)

-- what a token leaves
left_by : (tokens left : Tokens) → left.nesting ≡ tokens.nesting → after tokens ≡ Some (record { reader = left.reader; nesting = tokens.nesting }) → after tokens ≡ Some left
left_by tokens left same e = e ∙ ap (λ n. Some (record { reader = left.reader; nesting = n })) (sym same)

module _ (tokens left : Tokens) (s : List ℕ) where
  pub word_gives : tokens.reader ≡ Token.string s ∷ left.reader → (r : Result Length ReadTraceError) → Gives (λ x. x) r (at_word ((codes "whole", Whole) ∷ []) s) → Gives (λ x. x) r (length_or_whole (next tokens))
  word_gives is (Ok x) h = by_word (next tokens) s (text_next tokens s left.reader is) ∙ h
  word_gives is (Err NoMemory) h = tt
  word_gives is (Err NotTrace) h = by_word (next tokens) s (text_next tokens s left.reader is) ∙ h

  pub word_rest : tokens.reader ≡ Token.string s ∷ left.reader → left.nesting ≡ tokens.nesting → (r : Result Length ReadTraceError) → OnOk r (after tokens ≡ Some left)
  word_rest is same (Ok x) = left_by tokens left same (text_after tokens s left.reader is)
  word_rest is same (Err e) = tt

  pub number_length : tokens.reader ≡ Token.number s ∷ left.reader → (o : Option ℕ) → option_and_then as_u64 (number_of s) ≡ o → length_or_whole (next tokens) ≡ option_map Bytes o
  number_length is o e = by_number (next tokens) o (refused as_str str_by tokens (Token.number s) left.reader is (λ n. refl)) (number_next tokens s left.reader is ∙ e)

  pub number_left : (n : ℕ) → tokens.reader ≡ Token.number s ∷ left.reader → left.nesting ≡ tokens.nesting → option_and_then as_u64 (number_of s) ≡ Some n → after tokens ≡ Some left
  number_left n is same e = left_by tokens left same (number_after tokens s n left.reader is e)

  pub number_fails : tokens.reader ≡ Token.number s ∷ left.reader → (e : ReadTraceError) → Fails e (option_and_then as_u64 (number_of s)) → Fails e (length_or_whole (next tokens))
  number_fails is NoMemory h = tt
  number_fails is NotTrace h = number_length is None h
