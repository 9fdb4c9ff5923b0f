-- The first rule that passes a test, rule by rule.
use Rattle.std.proofs.Common.{◌≡◌, List, ◌∷◌, Bool, true, false, cond, Option, Some, refl, sym, ◌∙◌}
use Rattle.vk_model.specs.Basics.{first_that}

-- it is the first of a list, or one of the rest
pub first_yes : {A : Type 0} (test : A → Bool) (x : A) (xs : List A) → test x ≡ true → first_that test (x ∷ xs) ≡ Some x
first_yes test x xs e = rw (e, first_that) refl

pub first_no : {A : Type 0} (test : A → Bool) (x : A) (xs : List A) → test x ≡ false → first_that test (x ∷ xs) ≡ first_that test xs
first_no test x xs e = rw (e, first_that) refl

-- it is what a choice by the same test names
pub first_chosen : {A : Type 0} (test : A → Bool) (x : A) (xs : List A) (b : Bool) (rest : Option A) → test x ≡ b → rest ≡ first_that test xs → cond b (Some x) rest ≡ first_that test (x ∷ xs)
first_chosen test x xs true rest e is = sym (first_yes test x xs e)
first_chosen test x xs false rest e is = is ∙ sym (first_no test x xs e)
