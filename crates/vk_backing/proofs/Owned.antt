-- What ids have of their own, as it is found.
use Rattle.std.proofs.Common.{◌≡◌, ℕ, List, Option, Some, None, refl, ap}
use Rattle.std.specs.Option.{option_and_then, option_map}
use Rattle.vk_backing.specs.declared.backing.Own.{Own}
use Rattle.vk_backing.specs.Backed.{own_in, object_in, dedicated_in}

module _ (owned : List (ℕ × Own)) (id : ℕ) where
  pub object_is : (o : Option Own) → own_in owned id ≡ o → object_in owned id ≡ option_map (λ x. x.object) o
  object_is o e = ap (λ (x : Option Own). option_map (λ (y : Own). y.object) x) e

  pub dedicated_is : (o : Option Own) → own_in owned id ≡ o → dedicated_in owned id ≡ option_and_then (λ x. x.allocation) o
  dedicated_is o e = ap (λ (x : Option Own). option_and_then (λ (y : Own). y.allocation) x) e

  -- whoever has no memory object of its own has no allocation in one
  pub no_dedicated : object_in owned id ≡ None → dedicated_in owned id ≡ None
  no_dedicated none = go (own_in owned id) none
    where
      go : (o : Option Own) → option_map (λ x. x.object) o ≡ None → option_and_then (λ x. x.allocation) o ≡ None
      go None e = refl
      go (Some x) e = absurd cc
