-- Memory objects, with one more.
use Rattle.std.proofs.Common.{◌≡◌, ℕ, ◌<◌, List, [], ◌∷◌, ◌++◌, map, length, Option, Some, None, refl, sym, ap, ◌∙◌, arith, inl, inr}
use Rattle.std.specs.Prelude.{IsSome, slice_index_or}
use Rattle.std.proofs.lemmas.List.{length-map, length-replicate, map-append, get_or_append_left}
use Rattle.vk_memory.specs.declared.memories.Object.{Object}
use Rattle.vk_memory.specs.MemoryState.{MemoryState, IsLive, object_at, fresh}
use Rattle.vma_pools.specs.State.{PoolsState, Alone, BlockOf, ArePools, Backs}
use Rattle.vma_pools.proofs.NumberLemmas.{at-more, at-old, at-new}
use Rattle.vma_pools.proofs.StateLemmas.{some-is}
use Rattle.vma_pools.proofs.BacksLemmas.{has-bytes, grown-region, grown-type}
use Rattle.vk_backing.specs.Backed.{AreSized}
use Rattle.vk_backing.specs.Allotted.{kind_of}

pub some_there : {A : Type 0} (o : Option A) → IsSome o → (x : A) × (o ≡ Some x)
some_there None h = absurd cc
some_there (Some x) h = (x, refl)

pub there_some : {A : Type 0} (o : Option A) (x : A) → o ≡ Some x → IsSome o
there_some o x e = rw e refl

module _ (m : MemoryState) (t size : ℕ) where
  abbrev pub grown : MemoryState
  grown = record m { objects = m.objects ++ Some (fresh t size) ∷ [] }

  pub grown_object : (n : ℕ) (o : Object) → object_at m n ≡ Some o → object_at grown n ≡ Some o
  grown_object n o at = at-old m.objects (Some (fresh t size)) n o at

  pub grown_live : (n : ℕ) → IsLive m n → IsLive grown n
  grown_live n live = let o = some_there (object_at m n) live in there_some (object_at grown n) o.0 (grown_object n o.0 o.1)

  pub new_live : IsLive grown (length m.objects)
  new_live = there_some (object_at grown (length m.objects)) (fresh t size) (at-new m.objects (Some (fresh t size)))

  pub grown_sized : AreSized m → AreSized grown
  grown_sized sized n o at = elim (at-more m.objects (Some (fresh t size)) n o at) [
    | inl old ↦ sized n o old
    | inr new ↦ (let is = some-is (fresh t size) o new.1 in ap (λ (x : Object). length x.region) (sym is) ∙ length-replicate size 205 ∙ ap (λ (x : Object). x.size) is)
  ]

  pub grown_backs : (s : PoolsState) → ArePools s → Backs s m → Backs s grown
  grown_backs s h backs = record {
    own = λ i a n at lies. ap length (grown-region m t size n (has-bytes s h m backs (Alone i) n (a, at, lies))) ∙ backs.own i a n at lies;
    blocks = λ p k j at lt.
        let o = backs.blocks p k j at lt in let some = has-bytes s h m backs (BlockOf p j) _ (k, at, lt, refl) in
        record { bytes = ap length (grown-region m t size _ some) ∙ o.bytes; kind = grown-type m t size _ some ∙ o.kind };
    apart = backs.apart;
  }

  -- ---- their kinds

  pub grown_kinds : map kind_of grown.objects ≡ map kind_of m.objects ++ Some (t, size) ∷ []
  grown_kinds = map-append kind_of m.objects (Some (fresh t size) ∷ [])

  pub kind_stays : (n : ℕ) → n < length m.objects → slice_index_or (map kind_of grown.objects) n None ≡ slice_index_or (map kind_of m.objects) n None
  kind_stays n lt = ap (λ (l : List (Option (ℕ × ℕ))). slice_index_or l n None) grown_kinds ∙ get_or_append_left (map kind_of m.objects) (Some (t, size) ∷ []) None n (omega (arith, lt, length-map m.objects kind_of))

  pub kind_new : slice_index_or (map kind_of grown.objects) (length m.objects) None ≡ Some (t, size)
  kind_new =
      ap (λ (l : List (Option (ℕ × ℕ))). slice_index_or l (length m.objects) None) grown_kinds
      ∙ ap (λ (n : ℕ). slice_index_or (map kind_of m.objects ++ Some (t, size) ∷ []) n None) (sym (length-map m.objects kind_of))
      ∙ at-new (map kind_of m.objects) (Some (t, size))
