-- Tests on the areas of commands.
use Rattle.std.proofs.Common.{◌≡◌, List, [], ◌∷◌, map, Bool, false, refl, ◌∙◌}
use Rattle.std.specs.List.{list_any}
use Rattle.vk_model.specs.World.Areas.{Area}
use Rattle.vk_model.proofs.Lists.Members.{any_map}

-- a test that nothing passes
pub never : {A : Type 0} (test : A → Bool) → ((x : A) → test x ≡ false) → (xs : List A) → list_any test xs ≡ false
never test none [] = refl
never test none (x ∷ xs) = rw (none x, never test none xs) refl

-- areas of a form that fails a test
pub no_areas : {A : Type 0} (test : Area → Bool) (of : A → Area) → ((x : A) → test (of x) ≡ false) → (xs : List A) → list_any test (map of xs) ≡ false
no_areas test of none xs = any_map test of xs ∙ never (λ x. test (of x)) none xs
