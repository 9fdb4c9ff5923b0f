-- Lists of what has keys.
use Rattle.std.proofs.Common.{◌≡◌, ℕ, ◌+◌, List, [], ◌∷◌, ◌++◌, map, Bool, not, ◌==◌, Some, refl, sym, ap, subst, ◌∙◌, arith, inl, inr, ◌⊎◌}
use Rattle.std.specs.Prelude.{if◌then◌else◌, sum_by}
use Rattle.std.specs.List.{filter, find}
use Rattle.std.proofs.lemmas.Bool.{cases_eq, ne_eqb, eq-eqb}
use Rattle.std.proofs.lemmas.List.Sums.{sum_by-cons}

module _ {A : Type 0} (key : A → ℕ) where
  -- what has a key
  abbrev pub picked : ℕ → List A → List A
  picked k xs = filter (λ x. key x == k) xs

  -- what hasn't
  abbrev pub left : ℕ → List A → List A
  left k xs = filter (λ x. not (key x == k)) xs

  pub picked_in : (k : ℕ) (x : A) (xs : List A) → key x ≡ k → picked k (x ∷ xs) ≡ x ∷ picked k xs
  picked_in k x xs e = ap (λ (v : Bool). if v then x ∷ picked k xs else picked k xs) (eq-eqb (key x) k e)

  pub picked_out : (k : ℕ) (x : A) (xs : List A) → (key x ≡ k → ⊥) → picked k (x ∷ xs) ≡ picked k xs
  picked_out k x xs other = ap (λ (v : Bool). if v then x ∷ picked k xs else picked k xs) (ne_eqb (key x) k other)

  left_in : (k : ℕ) (x : A) (xs : List A) → (key x ≡ k → ⊥) → left k (x ∷ xs) ≡ x ∷ left k xs
  left_in k x xs other = ap (λ (v : Bool). if not v then x ∷ left k xs else left k xs) (ne_eqb (key x) k other)

  left_out : (k : ℕ) (x : A) (xs : List A) → key x ≡ k → left k (x ∷ xs) ≡ left k xs
  left_out k x xs e = ap (λ (v : Bool). if not v then x ∷ left k xs else left k xs) (eq-eqb (key x) k e)

  -- ---- one more

  pub push_here : (k : ℕ) (xs : List A) (y : A) → key y ≡ k → picked k (xs ++ y ∷ []) ≡ picked k xs ++ y ∷ []
  push_here k [] y e = picked_in k y [] e
  push_here k (x ∷ xs) y e = elim (cases_eq (key x) k) [
    | inl is ↦ picked_in k x (xs ++ y ∷ []) is ∙ ap (λ (l : List A). x ∷ l) (push_here k xs y e) ∙ sym (ap (λ (l : List A). l ++ y ∷ []) (picked_in k x xs is))
    | inr other ↦ picked_out k x (xs ++ y ∷ []) other ∙ push_here k xs y e ∙ sym (ap (λ (l : List A). l ++ y ∷ []) (picked_out k x xs other))
  ]

  pub push_other : (k : ℕ) (xs : List A) (y : A) → (key y ≡ k → ⊥) → picked k (xs ++ y ∷ []) ≡ picked k xs
  push_other k [] y e = picked_out k y [] e
  push_other k (x ∷ xs) y e = elim (cases_eq (key x) k) [
    | inl is ↦ picked_in k x (xs ++ y ∷ []) is ∙ ap (λ (l : List A). x ∷ l) (push_other k xs y e) ∙ sym (picked_in k x xs is)
    | inr other ↦ picked_out k x (xs ++ y ∷ []) other ∙ push_other k xs y e ∙ sym (picked_out k x xs other)
  ]

  -- ---- what is left

  pub left_none : (k : ℕ) (xs : List A) → picked k (left k xs) ≡ []
  left_none k [] = refl
  left_none k (x ∷ xs) = elim (cases_eq (key x) k) [
    | inl is ↦ ap (λ (l : List A). picked k l) (left_out k x xs is) ∙ left_none k xs
    | inr other ↦ ap (λ (l : List A). picked k l) (left_in k x xs other) ∙ picked_out k x (left k xs) other ∙ left_none k xs
  ]

  pub left_other : (k r : ℕ) (xs : List A) → (k ≡ r → ⊥) → picked k (left r xs) ≡ picked k xs
  left_other k r [] other = refl
  left_other k r (x ∷ xs) other = elim (cases_eq (key x) r) [
    | inl is ↦ ap (λ (l : List A). picked k l) (left_out r x xs is) ∙ left_other k r xs other ∙ sym (picked_out k x xs (λ e. other (sym e ∙ is)))
    | inr away ↦ ap (λ (l : List A). picked k l) (left_in r x xs away) ∙ elim (cases_eq (key x) k) [
      | inl is ↦ picked_in k x (left r xs) is ∙ ap (λ (l : List A). x ∷ l) (left_other k r xs other) ∙ sym (picked_in k x xs is)
      | inr apart ↦ picked_out k x (left r xs) apart ∙ left_other k r xs other ∙ sym (picked_out k x xs apart)
    ]
  ]

  -- ---- each changed

  pub picked_map : (g : A → A) → ((x : A) → key (g x) ≡ key x) → (k : ℕ) (xs : List A) → picked k (map g xs) ≡ map g (picked k xs)
  picked_map g keeps k [] = refl
  picked_map g keeps k (x ∷ xs) = elim (cases_eq (key x) k) [
    | inl is ↦ picked_in k (g x) (map g xs) (keeps x ∙ is) ∙ ap (λ (l : List A). g x ∷ l) (picked_map g keeps k xs) ∙ sym (ap (λ (l : List A). map g l) (picked_in k x xs is))
    | inr other ↦ picked_out k (g x) (map g xs) (λ e. other (sym (keeps x) ∙ e)) ∙ picked_map g keeps k xs ∙ sym (ap (λ (l : List A). map g l) (picked_out k x xs other))
  ]

  -- ---- the first with a key

  found_in : (k : ℕ) (x : A) (xs : List A) → key x ≡ k → find (λ y. key y == k) (x ∷ xs) ≡ Some x
  found_in k x xs e = ap (λ (v : Bool). if v then Some x else find (λ y. key y == k) xs) (eq-eqb (key x) k e)

  found_out : (k : ℕ) (x : A) (xs : List A) → (key x ≡ k → ⊥) → find (λ y. key y == k) (x ∷ xs) ≡ find (λ y. key y == k) xs
  found_out k x xs other = ap (λ (v : Bool). if v then Some x else find (λ y. key y == k) xs) (ne_eqb (key x) k other)

  head_is : (x y : A) (xs ys : List A) → x ∷ xs ≡ y ∷ ys → x ≡ y
  head_is x y xs ys e = cc

  tail_is : (x y : A) (xs ys : List A) → x ∷ xs ≡ y ∷ ys → xs ≡ ys
  tail_is x y xs ys e = cc

  pub found_some : (k : ℕ) (xs : List A) (q : A) → picked k xs ≡ q ∷ [] → find (λ y. key y == k) xs ≡ Some q
  found_some k [] q e = absurd cc
  found_some k (x ∷ xs) q e = elim (cases_eq (key x) k) [
    | inl is ↦ found_in k x xs is ∙ ap (λ (y : A). Some y) (head_is x q (picked k xs) [] (sym (picked_in k x xs is) ∙ e))
    | inr other ↦ found_out k x xs other ∙ found_some k xs q (sym (picked_out k x xs other) ∙ e)
  ]

  -- ---- what is in a list

  abbrev pub IsIn : A → List A → Type 0
  IsIn x [] = ⊥
  IsIn x (y ∷ ys) = (y ≡ x) ⊎ IsIn x ys

  in_picked : (x : A) (xs : List A) → IsIn x xs → IsIn x (picked (key x) xs)
  in_picked x [] is = is
  in_picked x (y ∷ ys) (inl e) = subst (λ (l : List A). IsIn x l) (sym (picked_in (key x) y ys (ap key e))) (inl e)
  in_picked x (y ∷ ys) (inr is) = elim (cases_eq (key y) (key x)) [
    | inl e ↦ subst (λ (l : List A). IsIn x l) (sym (picked_in (key x) y ys e)) (inr (in_picked x ys is))
    | inr other ↦ subst (λ (l : List A). IsIn x l) (sym (picked_out (key x) y ys other)) (in_picked x ys is)
  ]

  only_one : (q x : A) → IsIn x (q ∷ []) → q ≡ x
  only_one q x (inl e) = e
  only_one q x (inr none) = absurd none

  -- it is the one with its key
  pub in_one : (x q : A) (xs : List A) → IsIn x xs → picked (key x) xs ≡ q ∷ [] → q ≡ x
  in_one x q xs is e = only_one q x (subst (λ (l : List A). IsIn x l) e (in_picked x xs is))

  pub not_in : (x : A) (xs : List A) (k : ℕ) → key x ≡ k → IsIn x xs → picked k xs ≡ [] → ⊥
  not_in x xs k e is none = subst (λ (l : List A). IsIn x l) (ap (λ (j : ℕ). picked j xs) e ∙ none) (in_picked x xs is)

  -- ---- sums where one is changed

  pub sum_same : (f : A → ℕ) (g : A → A) (xs : List A) → ((x : A) → IsIn x xs → f (g x) ≡ f x) → sum_by f (map g xs) ≡ sum_by f xs
  sum_same f g [] same = refl
  sum_same f g (x ∷ xs) same =
      let a = sum_by-cons f (g x) (map g xs) in let b = sum_by-cons f x xs in let c = same x (inl refl) in let r = sum_same f g xs (λ y is. same y (inr is)) in omega (arith, a, b, c, r)

  pub sum_one : (f : A → ℕ) (g : A → A) (k : ℕ) (q : A) (xs : List A) → picked k xs ≡ q ∷ [] → ((x : A) → IsIn x xs → (key x ≡ k → ⊥) → f (g x) ≡ f x) → sum_by f (map g xs) + f q ≡ sum_by f xs + f (g q)
  sum_one f g k q [] e same = absurd cc
  sum_one f g k q (x ∷ xs) e same = elim (cases_eq (key x) k) [
    | inl is ↦ (let one = sym (picked_in k x xs is) ∙ e in
        let here = head_is x q (picked k xs) [] one in let none = tail_is x q (picked k xs) [] one in
        let a = sum_by-cons f (g x) (map g xs) in let b = sum_by-cons f x xs in
        let r = sum_same f g xs (λ y there. same y (inr there) (λ j. not_in y xs k j there none)) in
        let c : f q ≡ f x = ap f (sym here) in let d : f (g q) ≡ f (g x) = ap (λ (y : A). f (g y)) (sym here) in
        omega (arith, a, b, c, d, r))
    | inr other ↦ (let a = sum_by-cons f (g x) (map g xs) in let b = sum_by-cons f x xs in let c = same x (inl refl) other in
        let r = sum_one f g k q xs (sym (picked_out k x xs other) ∙ e) (λ y there. same y (inr there)) in omega (arith, a, b, c, r))
  ]
