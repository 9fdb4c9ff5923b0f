-- What becomes of the contents of a resource that are changed in their place.
use Rattle.std.proofs.Common.{◌≡◌, ◌≢◌, ℕ, ◌==◌, Option, Some}
use Rattle.std.specs.Prelude.{Result, Ok, Err, IfOk, OnOk, if◌then◌else◌}
use Rattle.vk_ids.proofs.ChangeLemmas.{changed, unchanged}
use Rattle.vk_history.specs.declared.resource_contents.ResourceContents.{ResourceContents}
use Rattle.vk_history.specs.Contents.{BecomesIn}

module _ {R E : Type 0} (result : Result R E) (is : R → ResourceContents → ResourceContents → Type 0) (old new : ℕ → Option ResourceContents) (id : ℕ) where
  -- where there are some, whatever is so of them
  pub changed_in : (was now : ResourceContents) → Some was ≡ old id → ((other : ℕ) → new other ≡ (if other == id then Some now else old other)) → IfOk result (λ r. is r was now)
      → record { here : IfOk result (λ r. BecomesIn (is r) (old id) (new id)); others : OnOk result ((other : ℕ) → other ≢ id → new other ≡ old other) }
  changed_in was now there one so = go result so where
    go : (r : Result R E) → IfOk r (λ r. is r was now) → record { here : IfOk r (λ r. BecomesIn (is r) (old id) (new id)); others : OnOk r ((other : ℕ) → other ≢ id → new other ≡ old other) }
    go (Ok x) so = record { here = rw (← there, changed old new id (Some now) one) so; others = unchanged old new id (Some now) one }
    go (Err e) so = record { here = tt; others = tt }
