-- Live memory objects, and their bytes when some are put there.
use Rattle.std.proofs.Common.{◌≡◌, sym, inl, inr, ℕ, ◌<◌, List, length, refl, ap, ◌∙◌, get_or-set_same, get_or-set_other, Option, Some, None, Bool, true, false, eqb}
use Rattle.std.proofs.lemmas.Bool.{cases_lt, eqb-true, eqb-false}
use Rattle.std.proofs.lemmas.List.{get_or_past}
use Rattle.std.specs.Prelude.{IsSome}
use Rattle.vk_memory.specs.MemoryState.{MemoryState, IsLive, region_of, with_region, object_at, bytes_of, rewritten, type_in, type_of}
use Rattle.vk_memory.specs.declared.memories.Object.{Object}

-- a live object has a number that was given
pub live_below : (m : MemoryState) (o : ℕ) → IsLive m o → o < length m.objects
live_below m o live = elim (cases_lt o (length m.objects)) [
  | inl lt ↦ lt
  | inr le ↦ let none : IsSome {T = Object} None = rw (get_or_past m.objects o None le) at live in absurd cc
]

-- the bytes of a live object are those that were put there
rewritten_bytes : (o : Option Object) (bytes : List ℕ) → IsSome o → bytes_of (rewritten bytes o) ≡ bytes
rewritten_bytes (Some o) bytes live = refl
rewritten_bytes None bytes live = let none : IsSome {T = Object} None = live in absurd cc

pub region_of-same : (m : MemoryState) (o : ℕ) (bytes : List ℕ) → IsLive m o → region_of (with_region m o bytes) o ≡ bytes
region_of-same m o bytes live = ap bytes_of (get_or-set_same m.objects o (rewritten bytes (object_at m o)) None (live_below m o live)) ∙ rewritten_bytes (object_at m o) bytes live

pub region_of-other : (m : MemoryState) (o p : ℕ) (bytes : List ℕ) → (p ≡ o → ⊥) → region_of (with_region m o bytes) p ≡ region_of m p
region_of-other m o p bytes ne = ap bytes_of (get_or-set_other m.objects o p (rewritten bytes (object_at m o)) None ne)

-- no object's type changes with the bytes of one
rewritten_type : (o : Option Object) (bytes : List ℕ) → type_in (rewritten bytes o) ≡ type_in o
rewritten_type None bytes = refl
rewritten_type (Some o) bytes = refl

pub type_of-same : (m : MemoryState) (o p : ℕ) (bytes : List ℕ) → IsLive m o → type_of (with_region m o bytes) p ≡ type_of m p
type_of-same m o p bytes live = go (eqb p o) refl
  where
    go : (t : Bool) → eqb p o ≡ t → type_of (with_region m o bytes) p ≡ type_of m p
    go true e =
        let same = eqb-true p o e in
        ap (λ (k : ℕ). type_of (with_region m o bytes) k) same ∙ ap type_in (get_or-set_same m.objects o (rewritten bytes (object_at m o)) None (live_below m o live)) ∙ rewritten_type (object_at m o) bytes ∙ ap (λ (k : ℕ). type_of m k) (sym same)
    go false e = ap type_in (get_or-set_other m.objects o p (rewritten bytes (object_at m o)) None (eqb-false p o e))
