-- What a queue wrote of one resource is written back.
use Rattle.std.proofs.Common.{◌≡◌, ℕ, List, Bool, true, false, ◌==◌, Option, Some, None, refl, ap, sym, subst, ◌∙◌}
use Rattle.std.specs.Prelude.{if◌then◌else◌}
use Rattle.std.proofs.lemmas.Bool.{eqb-true, eqb-false}
use Rattle.vk_model.specs.World.Bytes.{resource_at}
use Rattle.vk_cache_laws.specs.LateRuns.{LateByte, caught_all}
use Rattle.vk_resources.specs.Held.{Held}
use Rattle.vk_lag.specs.declared.late.Late as kept
use Rattle.vk_lag.specs.declared.late.Due.TheVariants as due
use Rattle.vk_lag.specs.Lags.{Lags, late_at, late_in, caught_up, Changes}
use Rattle.vk_availability.specs.AreLate.{late_byte}
use Rattle.vk_availability.specs.Touches.{WritesBack}

-- one byte
caught : (q : ℕ) (t : Bool) (o : Option kept.Late) → caught_all q t (late_byte o) ≡ late_byte (if t then caught_up (due.Of q) o else o)
caught q true None = refl
caught q false None = refl
caught q true (Some l) = go (l.writer.queue == q)
  where
    go : (b : Bool) → (if b then None else late_byte (Some l)) ≡ late_byte (if b then None else Some l)
    go true = refl
    go false = refl
caught q false (Some l) = refl

-- each byte when memory has caught up with one resource
module _ (r : ℕ) (change : Option kept.Late → Option kept.Late) (old new : Lags) (changes : Changes r (λ k b. change b) old new) where
  changed : (i k : ℕ) → late_at new i k ≡ (if i == r then change (late_at old i k) else late_at old i k)
  changed i k = go (i == r) refl
    where
      go : (b : Bool) → (i == r) ≡ b → late_at new i k ≡ (if b then change (late_at old i k) else late_at old i k)
      go true e = subst (λ (n : ℕ). late_at new n k ≡ change (late_at old n k)) (sym (eqb-true i r e)) (changes.bytes k)
      go false e = ap (λ (bytes : List (Option kept.Late)). late_in bytes k) (changes.others i (eqb-false i r e))

pub writes_back : (r q : ℕ) (old new : Lags) → Changes r (λ k b. caught_up (due.Of q) b) old new → (s : Held) → WritesBack s old new r q
writes_back r q old new changes s late are c k place =
    ap (λ (o : Option LateByte). caught_all q (resource_at c == r) o) (are c k place) ∙ caught q (resource_at c == r) (late_at old (resource_at c) k)
    ∙ ap late_byte (sym (changed r (caught_up (due.Of q)) old new changes (resource_at c) k))
