-- Which numbers are in a list; the numbers of some ids, in their order; and ids that have none any more.
use Rattle.std.proofs.Common.{◌≡◌, ℕ, ◌+◌, ◌<◌, List, [], ◌∷◌, ◌++◌, length, take, get_or, Option, None, refl, sym, ap, subst, ◌∙◌, inl, inr, ◌⊎◌}
use Rattle.std.specs.Prelude.{Contains}
use Rattle.std.specs.List.{filter_map, cons_option}
use Rattle.std.proofs.lemmas.Bool.{cases_eq}
use Rattle.std.proofs.lemmas.List.{take_more}
use Rattle.std.proofs.lemmas.List.Elements.{Contains-append_cases, Contains-append_left, Contains-append_right, filter_map-append}
use Rattle.vk_model.proofs.Lists.Members.{contains-cons, contains-head, contains-tail, none_in, only_one}
use Rattle.vk_backing.specs.Backed.{number_in}

-- a number is in a list, or isn't
pub listed_or : (xs : List ℕ) (x : ℕ) → Contains xs x ⊎ (Contains xs x → ⊥)
listed_or [] x = inr (λ there. none_in x there)
listed_or (y ∷ ys) x = elim (cases_eq y x) [
  | inl e ↦ inl (subst (λ (z : ℕ). Contains (y ∷ ys) z) e (contains-head y ys))
  | inr other ↦ elim (listed_or ys x) [
    | inl there ↦ inl (contains-tail y ys x there)
    | inr away ↦ inr (λ there. elim (contains-cons y ys x there) [ inl e ↦ other e | inr later ↦ away later ])
  ]
]

-- one id more
pub more_numbers : (h : ℕ → Option ℕ) (ids : List ℕ) (k : ℕ) (o : Option ℕ) → k < length ids → h (get_or ids k 0) ≡ o → filter_map h (take (k + 1) ids) ≡ filter_map h (take k ids) ++ cons_option o []
more_numbers h ids k o lt is =
    ap (λ (l : List ℕ). filter_map h l) (take_more ids k 0 lt) ∙ filter_map-append h (take k ids) _ ∙ ap (λ (o : Option ℕ). filter_map h (take k ids) ++ cons_option o []) is

-- some ids have no numbers any more, and the others those that they had
pub record AreForgotten (old new : List (ℕ × ℕ)) (ids : List ℕ) : Type 0 where
  pub gone : (i : ℕ) → Contains ids i → number_in new i ≡ None
  pub others : (i : ℕ) → (Contains ids i → ⊥) → number_in new i ≡ number_in old i

pub none_forgotten : (old : List (ℕ × ℕ)) → AreForgotten old old []
none_forgotten old = record { gone = λ i there. absurd (none_in i there); others = λ i away. refl }

pub more_forgotten : (old mid new : List (ℕ × ℕ)) (ids : List ℕ) (k : ℕ) → k < length ids → AreForgotten old mid (take k ids) → number_in new (get_or ids k 0) ≡ None → ((i : ℕ) → (i ≡ get_or ids k 0 → ⊥) → number_in new i ≡ number_in mid i) → AreForgotten old new (take (k + 1) ids)
more_forgotten old mid new ids k lt h none others = subst (λ (l : List ℕ). AreForgotten old new l) (sym (take_more ids k 0 lt)) (record {
  gone = λ i there. elim (cases_eq i id) [
    | inl e ↦ ap (λ (j : ℕ). number_in new j) e ∙ none
    | inr other ↦ elim (Contains-append_cases (take k ids) (id ∷ []) i there) [
      | inl seen ↦ others i other ∙ h.gone i seen
      | inr last ↦ absurd (other (sym (only_one id i last)))
    ]
  ];
  others = λ i away. others i (λ e. away (subst (λ (j : ℕ). Contains (take k ids ++ id ∷ []) j) (sym e) (Contains-append_right (take k ids) (id ∷ []) id (contains-head id [])))) ∙ h.others i (λ seen. away (Contains-append_left (take k ids) (id ∷ []) i seen));
})
  where
    id : ℕ
    id = get_or ids k 0
