-- What a test that fails says. Other crates cite it.
use Rattle.std.proofs.Common.{◌≡◌, List, Bool, false, Option, Some, None, refl}
use Rattle.std.specs.Prelude.{Contains, is_some}
use Rattle.std.specs.List.{list_any}
use Rattle.std.proofs.lemmas.Bool.{false_from_ne_true}
use Rattle.vk_model.proofs.Lists.Members.{member_passes}
use Rattle.vk_model.proofs.Lists.Truths.{clash}

-- what no item passes fails at a member
pub fails : {X : Type 0} (f : X → Bool) (xs : List X) (x : X) → list_any f xs ≡ false → Contains xs x → f x ≡ false
fails f xs x none c = false_from_ne_true (f x) (λ yes. clash (member_passes f xs x c yes) none)

-- what isn't there
pub none_there : {A : Type 0} (o : Option A) → is_some o ≡ false → o ≡ None
none_there None e = refl
none_there (Some x) e = absurd cc
