-- What is known of a point that breaks none of the rules judged before those on accesses.
use Rattle.std.proofs.Common.{◌≡◌, ◌∙◌, ℕ, List, [], ◌∷◌, slice_get, cond, Bool, true, false, refl, ap, sym, Some, None, zero, suc}
use Rattle.std.specs.List.{find}
use Rattle.vk_model.specs.declared.rule.Rule.TheVariants as rule
use Rattle.vk_model.specs.Trace.Point.{Past, Point}
use Rattle.vk_model.specs.Rules.Ids.{breaks_live_id}
use Rattle.vk_model.specs.Rules.Ranges.{breaks_range, breaks_overlap, breaks_format, breaks_subresource}
use Rattle.vk_model.specs.Rules.Table.{breaks, fault}
use Rattle.vk_history.specs.Judged.{early_rules, first_among}
use Rattle.vk_history.proofs.Kept.NextPoint.{IsWithin}

none_passes : {A : Type 0} (test : A → Bool) (xs : List A) (x : A) (i : ℕ) → find test xs ≡ None → slice_get xs i ≡ Some x → test x ≡ false
none_passes test [] x i none at = absurd cc
none_passes {A} test (y ∷ ys) x i none at = go (test y) refl none i at (λ k. none_passes test ys x k) where
  go : (b : Bool) → test y ≡ b → cond b (Some y) (find test ys) ≡ None → (i : ℕ) → slice_get (y ∷ ys) i ≡ Some x → ((k : ℕ) → find test ys ≡ None → slice_get ys k ≡ Some x → test x ≡ false) → test x ≡ false
  go true e none i at rest = absurd cc
  go false e none zero at rest = let same : y ≡ x = cc in ap test (sym same) ∙ e
  go false e none (suc i) at rest = rest i none at

module _ (past : Past) (p : Point) (early : first_among early_rules past p ≡ None) where
  pub early_live : breaks_live_id past p ≡ false
  unfolding breaks
  early_live = none_passes (λ r. breaks r past p) early_rules rule.LiveId 1 early refl

  pub early_range : breaks_range past p ≡ false
  unfolding breaks
  early_range = none_passes (λ r. breaks r past p) early_rules rule.Range 12 early refl

  pub early_overlap : breaks_overlap past p ≡ false
  unfolding breaks
  early_overlap = none_passes (λ r. breaks r past p) early_rules rule.Overlap 14 early refl

  early_format : breaks_format past p ≡ false
  unfolding breaks
  early_format = none_passes (λ r. breaks r past p) early_rules rule.Format 15 early refl

  early_subresource : breaks_subresource past p ≡ false
  unfolding breaks
  early_subresource = none_passes (λ r. breaks r past p) early_rules rule.Subresource 16 early refl

  -- all that it names is there, and it reaches past nothing
  pub early_within : fault past ≡ None → IsWithin past p
  early_within faultless = record { faultless = faultless; live = early_live; range = early_range; format = early_format; subresource = early_subresource }
