-- Late bytes of many resources, all of which are changed.
use Rattle.std.proofs.Common.{◌≡◌, ℕ, List, [], ◌∷◌, Bool, true, false, length, Option, Some, refl, ap, sym, subst, ◌∙◌}
use Rattle.std.specs.Prelude.{if◌then◌else◌, unwrap_or}
use Rattle.std.specs.Map.{lookup}
use Rattle.std.specs.Map.Calls.{RetainsPairs}
use Rattle.std.specs.Ordering.{nat_cmp}
use Rattle.std.specs.BTreeMap.{is_at}
use Rattle.vk_lag.specs.declared.late.Late.{Late}
use Rattle.vk_lag.specs.declared.late.Due.{Due}
use Rattle.vk_lag.specs.Lags.{Lags, resource_in, late_in, caught_up}

-- memory has caught up with all bytes of a resource
pub record IsCaughtUp (due : Due) (old new : List (Option Late)) : Type 0 where
  pub len : length new ≡ length old
  pub bytes : (k : ℕ) → late_in new k ≡ caught_up due (late_in old k)

-- a closure makes memory catch up with the bytes of each resource, and keeps all of them
module _ {F : Type 0} (T : F → ℕ → List (Option Late) → Bool → List (Option Late) → F → Type 0) (due : Due) (f : F)
    (each : (id : ℕ) (old : List (Option Late)) (b : Bool) (new : List (Option Late)) (f' : F) → T f id old b new f' → (b ≡ true) × IsCaughtUp due old new × (f' ≡ f)) where
  pub all_caught_up : (old new : Lags) → RetainsPairs T f old new → (id : ℕ) → IsCaughtUp due (resource_in old id) (resource_in new id)
  all_caught_up [] new kept id = rw kept (record { len = refl; bytes = λ k. refl })
  all_caught_up (x ∷ xs) new kept id =
      subst (λ (n : Lags). IsCaughtUp due (resource_in (x ∷ xs) id) (resource_in n id)) (sym is)
      (go (all_caught_up xs kept.3 (subst (λ (g : F). RetainsPairs T g xs kept.3) its.2 kept.5) id) (is_at (nat_cmp id) x.0))
    where
      its : (kept.0 ≡ true) × IsCaughtUp due x.1 kept.1 × (kept.2 ≡ f)
      its = each x.0 x.1 kept.0 kept.1 kept.2 kept.4

      is : new ≡ (x.0, kept.1) ∷ kept.3
      is = kept.6 ∙ ap (λ (b : Bool). if b then (x.0, kept.1) ∷ kept.3 else kept.3) its.0

      go : IsCaughtUp due (resource_in xs id) (resource_in kept.3 id) → (b : Bool)
          → IsCaughtUp due (unwrap_or (if b then Some x.1 else lookup (is_at (nat_cmp id)) xs) []) (unwrap_or (if b then Some kept.1 else lookup (is_at (nat_cmp id)) kept.3) [])
      go rest true = its.1
      go rest false = rest
