-- Where two lists of dependencies differ.
use Rattle.std.proofs.Common.{◌≡◌, ℕ, zero, suc, ◌<◌, max, List, [], ◌∷◌, length, Bool, true, false, ◌&&◌, refl, arith}
use Rattle.std.specs.Prelude.{slice_get}
use Rattle.vk_model.specs.declared.command.Dependency.{Dependency}
use Rattle.vk_model.specs.Rules.Synchronization.{same_dependency, same_dependencies}
use Rattle.vk_rules.specs.Synchronization.{same_one}

pub differ : (ms es : List Dependency) (k : ℕ) → same_one (slice_get ms k) (slice_get es k) ≡ false → same_dependencies ms es ≡ false
differ [] [] k e = absurd cc
differ [] (e ∷ es) k d = refl
differ (m ∷ ms) [] k d = refl
differ (m ∷ ms) (e ∷ es) zero d = rw d refl
differ (m ∷ ms) (e ∷ es) (suc k) d = go (same_dependency m e) (differ ms es k d)
  where
    go : (b : Bool) → same_dependencies ms es ≡ false → (b && same_dependencies ms es) ≡ false
    go true rest = rest
    go false rest = refl

pub all_alike : (ms es : List Dependency) → ((j : ℕ) → j < max (length ms) (length es) → same_one (slice_get ms j) (slice_get es j) ≡ true) → same_dependencies ms es ≡ true
all_alike [] [] alike = refl
all_alike [] (e ∷ es) alike = let h = alike 0 (omega arith) in absurd cc
all_alike (m ∷ ms) [] alike = let h = alike 0 (omega arith) in absurd cc
all_alike (m ∷ ms) (e ∷ es) alike =
    let first : same_dependency m e ≡ true = alike 0 (omega arith) in
    rw first (all_alike ms es (λ j lt. alike (suc j) (omega arith)))
