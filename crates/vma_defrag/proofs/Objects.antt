-- Memory objects that keep all but their bytes.
use Rattle.std.proofs.Common.{◌≡◌, ℕ, List, length, Option, Some, None, refl, sym, subst, ◌∙◌, inl, inr}
use Rattle.std.proofs.lemmas.Bool.{cases_eq}
use Rattle.std.proofs.lemmas.List.{length-set}
use Rattle.vk_memory.specs.declared.memories.Object.{Object}
use Rattle.vk_memory.specs.MemoryState.{MemoryState, IsLive, object_at, region_of, type_of, bytes_of, type_in, rewritten, with_region}
use Rattle.vk_memory.proofs.LiveObjects.{live_below}
use Rattle.vma_pools.proofs.NumberLemmas.{at-set, at-other}
use Rattle.vma_pools.specs.State.{PoolsState, Backs}
use Rattle.vma_defrag.specs.Bytes.{AreAlikeObjects, KeepsObjects}

alike_refl : (o : Option Object) → AreAlikeObjects o o
alike_refl None = tt
alike_refl (Some o) = (refl, refl, refl, refl)

alike_trans : (a b c : Option Object) → AreAlikeObjects a b → AreAlikeObjects b c → AreAlikeObjects a c
alike_trans None None None x y = tt
alike_trans (Some a) (Some b) (Some c) x y = (y.0 ∙ x.0, y.1 ∙ x.1, y.2 ∙ x.2, y.3 ∙ x.3)
alike_trans None None (Some c) x y = absurd y
alike_trans None (Some b) c x y = absurd x
alike_trans (Some a) None c x y = absurd x
alike_trans (Some a) (Some b) None x y = absurd y

pub keeps_refl : (m : MemoryState) → KeepsObjects m m
keeps_refl m = record { sizes = refl; count = refl; each = λ n. alike_refl (object_at m n) }

pub keeps_trans : (a b c : MemoryState) → KeepsObjects a b → KeepsObjects b c → KeepsObjects a c
keeps_trans a b c x y = record { sizes = y.sizes ∙ x.sizes; count = y.count ∙ x.count; each = λ n. alike_trans (object_at a n) (object_at b n) (object_at c n) (x.each n) (y.each n) }

alike_rewritten : (o : Option Object) (bytes : List ℕ) → length bytes ≡ length (bytes_of o) → AreAlikeObjects o (rewritten bytes o)
alike_rewritten None bytes long = tt
alike_rewritten (Some o) bytes long = (refl, refl, refl, long)

pub rewritten_keeps : (m : MemoryState) (n : ℕ) (bytes : List ℕ) → IsLive m n → length bytes ≡ length (region_of m n) → KeepsObjects m (with_region m n bytes)
rewritten_keeps m n bytes live long = record {
  sizes = refl;
  count = length-set m.objects n (rewritten bytes (object_at m n));
  each = λ k. elim (cases_eq k n) [
    | inl is ↦ subst (λ (j : ℕ). AreAlikeObjects (object_at m j) (object_at (with_region m n bytes) j)) (sym is)
        (subst (λ (o : Option Object). AreAlikeObjects (object_at m n) o) (sym (at-set m.objects n (rewritten bytes (object_at m n)) (live_below m n live))) (alike_rewritten (object_at m n) bytes long))
    | inr other ↦ subst (λ (o : Option Object). AreAlikeObjects (object_at m k) o) (sym (at-other m.objects n k (rewritten bytes (object_at m n)) other)) (alike_refl (object_at m k))
  ];
}

-- ---- what is the same of objects that are alike

same_length : (o p : Option Object) → AreAlikeObjects o p → length (bytes_of p) ≡ length (bytes_of o)
same_length None None a = refl
same_length (Some o) (Some p) a = a.3
same_length None (Some p) a = absurd a
same_length (Some o) None a = absurd a

same_type : (o p : Option Object) → AreAlikeObjects o p → type_in p ≡ type_in o
same_type None None a = refl
same_type (Some o) (Some p) a = a.0
same_type None (Some p) a = absurd a
same_type (Some o) None a = absurd a

module _ (m n : MemoryState) (keeps : KeepsObjects m n) where
  pub keeps_length : (k : ℕ) → length (region_of n k) ≡ length (region_of m k)
  keeps_length k = same_length (object_at m k) (object_at n k) (keeps.each k)

  keeps_type : (k : ℕ) → type_of n k ≡ type_of m k
  keeps_type k = same_type (object_at m k) (object_at n k) (keeps.each k)

  -- the objects back what they backed
  pub keeps_backs : (s : PoolsState) → Backs s m → Backs s n
  keeps_backs s h = record {
    own = λ i a k at lies. keeps_length k ∙ h.own i a k at lies;
    blocks = λ p k j at lt. let o = h.blocks p k j at lt in record { bytes = keeps_length _ ∙ o.bytes; kind = keeps_type _ ∙ o.kind };
    apart = h.apart;
  }
