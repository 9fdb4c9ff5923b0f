use Rattle.std.proofs.Common.{◌≡◌, ◌++◌, ℕ, List, [], ◌∷◌, refl, ap, sym, ◌∙◌, string_bytes, append_assoc, rules, length, true}
use Rattle.std.proofs.lemmas.Bool.{eqb-true}
use Rattle.std.proofs.lemmas.List.{append-nil, nil_from_length}
use Rattle.hex.specs.Hex.{encode_with, encode_lower, lower_digits}
use Rattle.vk_words.proofs.digits.push_digits.Goals as goal

-- the digits of some bytes and of others are those of all of them
encode-append : (t xs ys : List ℕ) → encode_with t (xs ++ ys) ≡ encode_with t xs ++ encode_with t ys
unfolding encode_with
encode-append t [] ys = refl
encode-append t (x ∷ xs) ys = simp (encode-append t xs ys)

pub loop-rest-preserved : goal.loop-rest-preserved
loop-rest-preserved c =
    let out = string_bytes c.loop-rest.out in
    let part = c.split_at.result.0.now in
    let later = c.split_at.result.1.now in
    let more : string_bytes c.push_str.new.self ≡ out ++ encode_lower part = c.in_ok-push_str.ensures.bytes ∙ ap (λ (s : List ℕ). out ++ s) (c.as_str.ensures.value ∙ c.in_ok-digits.ensures) in
    let whole : encode_lower c.loop-rest.rest.now ≡ encode_lower part ++ encode_lower later = ap encode_lower c.split_at.ensures.by_index.0 ∙ encode-append lower_digits part later in
    ap (λ (s : List ℕ). s ++ encode_lower later) more ∙ append_assoc out (encode_lower part) (encode_lower later) ∙ ap (λ (s : List ℕ). out ++ s) (sym whole) ∙ c.loop-rest.invariant

pub returns : goal.returns
unfolding encode_with
returns c =
    let is : c.is_empty.result ≡ true = search rules in
    let none = nil_from_length c.loop-rest.rest.now (eqb-true (length c.loop-rest.rest.now) 0 (sym c.is_empty.ensures ∙ is)) in
    sym (append-nil (string_bytes c.loop-rest.out)) ∙ ap (λ (s : List ℕ). string_bytes c.loop-rest.out ++ encode_lower s) (sym none) ∙ c.loop-rest.invariant
