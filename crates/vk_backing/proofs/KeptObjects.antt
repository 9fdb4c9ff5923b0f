-- What backs ids stays so where memory objects keep all but their bytes.
use Rattle.std.proofs.Common.{◌≡◌, ℕ, List, length, get_or, Bool, Option, Some, None, refl, sym, ap, subst, ◌∙◌}
use Rattle.std.specs.Prelude.{IsSome}
use Rattle.std.proofs.lemmas.Grind.{same_number_lists}
use Rattle.vk_memory.specs.declared.memories.Object.{Object}
use Rattle.vk_memory.specs.MemoryState.{MemoryState, IsLive, bytes_of, object_at}
use Rattle.vma_pools.specs.State.{Backs}
use Rattle.vma_defrag.specs.Bytes.{AreAlikeObjects, KeepsObjects}
use Rattle.vk_backing.specs.Backed.{Backed, AreSized, IsBacked}

alike_some : (o p : Option Object) → AreAlikeObjects o p → IsSome o → IsSome p
alike_some None p a some = absurd cc
alike_some (Some o) None a some = absurd a
alike_some (Some o) (Some p) a some = refl

alike_sized : (o : Option Object) (p : Object) → AreAlikeObjects o (Some p) → ((x : Object) → o ≡ Some x → length x.region ≡ x.size) → length p.region ≡ p.size
alike_sized None p a sized = absurd a
alike_sized (Some o) p a sized = a.3 ∙ sized o refl ∙ sym a.1

-- objects that are alike and have the same bytes are one
pub same_object : (o p : Option Object) → AreAlikeObjects o p → ((k : ℕ) → get_or (bytes_of p) k 0 ≡ get_or (bytes_of o) k 0) → p ≡ o
same_object None None a same = refl
same_object None (Some p) a same = absurd a
same_object (Some o) None a same = absurd a
same_object (Some o) (Some p) a same =
    ap (λ (t : ℕ). Some (record { memory_type = t; size = p.size; mapped = p.mapped; region = p.region })) a.0
    ∙ ap (λ (n : ℕ). Some (record { memory_type = o.memory_type; size = n; mapped = p.mapped; region = p.region })) a.1
    ∙ ap (λ (v : Bool). Some (record { memory_type = o.memory_type; size = o.size; mapped = v; region = p.region })) a.2
    ∙ ap (λ (r : List ℕ). Some (record { memory_type = o.memory_type; size = o.size; mapped = o.mapped; region = r })) (same_number_lists p.region o.region a.3 (λ k lt. same k))

module _ (m n : MemoryState) (keeps : KeepsObjects m n) where
  pub kept_sized : AreSized m → AreSized n
  kept_sized sized k p at = alike_sized (object_at m k) p (subst (λ (o : Option Object). AreAlikeObjects (object_at m k) o) at (keeps.each k)) (sized k)

  pub kept_live : (k : ℕ) → IsLive m k → IsLive n k
  kept_live k live = alike_some (object_at m k) (object_at n k) (keeps.each k) live

  pub kept_backed : (b : Backed) → Backs b.pools n → IsBacked b m → IsBacked b n
  kept_backed b backs h = record {
    pools = h.pools;
    backs = backs;
    matched = h.matched;
    sized = kept_sized h.sized;
    live = λ i k has. kept_live k (h.live i k has);
    own = h.own;
    apart = h.apart;
    dedicated = h.dedicated;
    either = h.either;
    named = h.named;
    one_pool = h.one_pool;
    shared = h.shared;
    one = h.one;
  }
