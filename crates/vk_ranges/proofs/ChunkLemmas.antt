-- Runs in chunks: where an end is, and what a change of one chunk does to all runs.
use Rattle.std.proofs.Common.{◌≡◌, ◌<◌, ◌≤◌, ◌+◌, ◌-◌, ◌^◌, ◌⊎◌, ℕ, zero, suc, List, [], ◌∷◌, ◌++◌, length, drop, set, get_or, refl, sym, ap, ◌∙◌, subst, inl, inr, arith, append_assoc}
use Rattle.std.specs.Ordering.{nat_cmp}
use Rattle.std.specs.BTreeMap.{insert_entry}
use Rattle.std.specs.List.{insert, remove}
use Rattle.std.proofs.lemmas.Bool.{cases_lt}
use Rattle.std.proofs.lemmas.List.{get_or_default}
use Rattle.vk_ranges.specs.declared.chunk.Chunk.{Chunk}
use Rattle.vk_ranges.specs.Runs.{after}
use Rattle.vk_ranges.specs.Inner.Chunks.{AreRising, AreChunks, IsChunkOf, IsHalved, joined}
use Rattle.vk_ranges.proofs.TilingLemmas.{after_here, after_later}
use Rattle.vk_ranges.proofs.RisingLemmas.{IsLocal, local_both, rising_le, rising_from, rising_append, rising_below}

module _ {T : Type 0} where
  pub chunks_rising : (low : ℕ) (chunks : List (Chunk T)) → AreChunks low chunks → AreRising low (2 ^ 32) (joined chunks)
  chunks_rising low [] c = omega arith
  chunks_rising low (chunk ∷ chunks) c = rising_append low (chunk.last + 1) (2 ^ 32) chunk.runs.items (joined chunks) c.0 (chunks_rising (chunk.last + 1) chunks c.1)

  -- ---- where an end is

  pub chunk_is : (end at : ℕ) (chunks : List (Chunk T)) → at < length chunks → ((k : ℕ) (d : Chunk T) → k < at → (get_or chunks k d).last < end)
      → ((d : Chunk T) → end ≤ (get_or chunks at d).last) → IsChunkOf end at chunks
  chunk_is end at [] lt before here = absurd (omega arith)
  chunk_is end zero (chunk ∷ chunks) lt before here = here chunk
  chunk_is end (suc at) (chunk ∷ chunks) lt before here = (before zero chunk (omega arith), chunk_is end at chunks (omega arith) (λ k d less. before (suc k) d (omega arith)) here)

  -- the last one takes all up to the greatest index
  pub chunk_within : (low end at : ℕ) (chunks : List (Chunk T)) → AreChunks low chunks → low < 2 ^ 32 → end < 2 ^ 32 → at ≤ length chunks → ((k : ℕ) (d : Chunk T) → k < at → (get_or chunks k d).last < end) → at < length chunks
  chunk_within low end at [] c some lt le before = absurd (omega arith)
  chunk_within low end zero (chunk ∷ chunks) c some lt le before = omega arith
  chunk_within low end (suc at) (chunk ∷ []) c some lt le before = let last = c.1 in let less = before zero chunk (omega arith) in absurd (omega arith)
  chunk_within low end (suc at) (chunk ∷ next ∷ chunks) c some lt le before =
      let less = before zero chunk (omega arith) in
      let rest = chunk_within (chunk.last + 1) end at (next ∷ chunks) c.1 (omega arith) lt (omega arith) (λ k d lt'. before (suc k) d (omega arith)) in
      omega arith

  chunks_up : (low : ℕ) (chunks : List (Chunk T)) → AreChunks low chunks → (k : ℕ) (d : Chunk T) → k < length chunks → low ≤ (get_or chunks k d).last + 1
  chunks_up low [] c k d lt = absurd (omega arith)
  chunks_up low (chunk ∷ chunks) c zero d lt = rising_le low (chunk.last + 1) chunk.runs.items c.0
  chunks_up low (chunk ∷ chunks) c (suc k) d lt = let here = rising_le low (chunk.last + 1) chunk.runs.items c.0 in let next = chunks_up (chunk.last + 1) chunks c.1 k d (omega arith) in omega arith

  pub chunks_sorted : (low : ℕ) (chunks : List (Chunk T)) → AreChunks low chunks → (i j : ℕ) (d : Chunk T) → i ≤ j → j < length chunks → (get_or chunks i d).last ≤ (get_or chunks j d).last
  chunks_sorted low [] c i j d le lt = absurd (omega arith)
  chunks_sorted low (chunk ∷ chunks) c zero zero d le lt = omega arith
  chunks_sorted low (chunk ∷ chunks) c zero (suc j) d le lt = let next = chunks_up (chunk.last + 1) chunks c.1 j d (omega arith) in omega arith
  chunks_sorted low (chunk ∷ chunks) c (suc i) zero d le lt = absurd (omega arith)
  chunks_sorted low (chunk ∷ chunks) c (suc i) (suc j) d le lt = chunks_sorted (chunk.last + 1) chunks c.1 i j d (omega arith) (omega arith)

  -- the chunk before ends below
  pub chunk_after : (low end at : ℕ) (chunks : List (Chunk T)) (chunk front : Chunk T) → AreChunks low chunks → at < length chunks → chunk ≡ get_or chunks at chunk → end ≤ chunk.last → at ≡ 0 ⊎ ((front ≡ get_or chunks (at - 1) front) × (front.last < end))
      → IsChunkOf end at chunks
  chunk_after low end at chunks chunk front c lt found le before =
      chunk_is end at chunks lt
      (λ k d less. elim before [
        | inl none ↦ absurd (omega arith)
        | inr b ↦
            let below = b.1 in
            let up = chunks_sorted low chunks c k (at - 1) d (omega arith) (omega arith) in
            let same : front.last ≡ (get_or chunks (at - 1) d).last = ap (λ (x : Chunk T). x.last) (b.0 ∙ get_or_default chunks (at - 1) front d (omega arith)) in
            omega arith
      ])
      (λ d. let same : chunk.last ≡ (get_or chunks at d).last = ap (λ (x : Chunk T). x.last) (found ∙ get_or_default chunks at chunk d lt) in omega arith)

  -- a later end of the same chunk
  pub chunk_later : (first last at : ℕ) (chunks : List (Chunk T)) (chunk : Chunk T) → IsChunkOf first at chunks → first ≤ last → chunk ≡ get_or chunks at chunk → last ≤ chunk.last → IsChunkOf last at chunks
  chunk_later first last at [] chunk is le found to = absurd is
  chunk_later first last zero (x ∷ chunks) chunk is le found to = let same : chunk.last ≡ x.last = ap (λ (y : Chunk T). y.last) found in omega arith
  chunk_later first last (suc at) (x ∷ chunks) chunk is le found to = let below = is.0 in ((omega arith), chunk_later first last at chunks chunk is.1 le found to)

  -- one chunk of them
  pub chunk_rising : (low at : ℕ) (chunks : List (Chunk T)) (chunk : Chunk T) → AreChunks low chunks → at < length chunks → chunk ≡ get_or chunks at chunk → (from : ℕ) × (to : ℕ) × AreRising from to chunk.runs.items
  chunk_rising low at [] chunk c lt found = absurd (omega arith)
  chunk_rising low zero (x ∷ chunks) chunk c lt found = (low, x.last + 1, rw found c.0)
  chunk_rising low (suc at) (x ∷ chunks) chunk c lt found = chunk_rising (x.last + 1) at chunks chunk c.1 (omega arith) found

  -- ---- the runs after an index

  after_back : (index high : ℕ) (xs ys : List (ℕ × T)) → AreRising (index + 1) high ys → after index (xs ++ ys) ≡ after index xs ++ ys
  after_back index high [] [] r = refl
  after_back index high [] (y ∷ ys) r = let from = r.0 in after_here index y ys (omega arith)
  after_back index high (x ∷ xs) ys r =
      elim (cases_lt index x.0) [
        | inl here ↦ rw (after_here index x xs here) (after_here index x (xs ++ ys) here)
        | inr there ↦ rw (after_later index x xs there) (after_later index x (xs ++ ys) there ∙ after_back index high xs ys r)
      ]

  after_front : (index low high : ℕ) (xs ys : List (ℕ × T)) → AreRising low high xs → high ≤ index + 1 → after index (xs ++ ys) ≡ after index ys
  after_front index low high [] ys r le = refl
  after_front index low high (x ∷ xs) ys r le =
      let to = rising_le (x.0 + 1) high xs r.1 in
      after_later index x (xs ++ ys) (omega arith) ∙ after_front index (x.0 + 1) high xs ys r.1 le

  pub after_is : (low index at : ℕ) (chunks : List (Chunk T)) (chunk : Chunk T) → AreChunks low chunks → IsChunkOf index at chunks → chunk ≡ get_or chunks at chunk
      → after index chunk.runs.items ++ joined (drop (at + 1) chunks) ≡ after index (joined chunks)
  after_is low index at [] chunk c is found = absurd is
  after_is low index zero (x ∷ chunks) chunk c is found =
      ap (λ (y : Chunk T). after index y.runs.items ++ joined chunks) found
      ∙ sym (after_back index (2 ^ 32) x.runs.items (joined chunks) (rising_from (x.last + 1) (index + 1) (2 ^ 32) (joined chunks) (omega arith) (chunks_rising (x.last + 1) chunks c.1)))
  after_is low index (suc at) (x ∷ chunks) chunk c is found =
      let below = is.0 in
      let next : drop (suc at + 1) (x ∷ chunks) ≡ drop (at + 1) chunks = let e : suc at + 1 ≡ suc (at + 1) = omega arith in ap (λ n. drop n (x ∷ chunks)) e in
      ap (λ (ys : List (Chunk T)). after index chunk.runs.items ++ joined ys) next
      ∙ after_is (x.last + 1) index at chunks chunk c.1 is.1 found
      ∙ sym (after_front index low (x.last + 1) x.runs.items (joined chunks) c.0 (omega arith))

  -- ---- a chunk with other runs

  module _ (first last : ℕ) (change : List (ℕ × T) → List (ℕ × T)) (local : IsLocal first last change) where
    pub changed_joined : (low at : ℕ) (chunks : List (Chunk T)) (old new : Chunk T) → AreChunks low chunks → IsChunkOf first at chunks → IsChunkOf last at chunks → old ≡ get_or chunks at old → new.runs.items ≡ change old.runs.items
        → joined (set chunks at new) ≡ change (joined chunks)
    changed_joined low at [] old new c is ends found made = absurd is
    changed_joined low zero (chunk ∷ chunks) old new c is ends found made =
        ap (λ (xs : List (ℕ × T)). xs ++ joined chunks) (made ∙ ap (λ (x : Chunk T). change x.runs.items) found)
        ∙ sym (local.back (2 ^ 32) chunk.runs.items (joined chunks) (rising_from (chunk.last + 1) (last + 1) (2 ^ 32) (joined chunks) (omega arith) (chunks_rising (chunk.last + 1) chunks c.1)))
    changed_joined low (suc at) (chunk ∷ chunks) old new c is ends found made =
        let below = is.0 in
        ap (λ (xs : List (ℕ × T)). chunk.runs.items ++ xs) (changed_joined (chunk.last + 1) at chunks old new c.1 is.1 ends.1 found made)
        ∙ sym (local.front chunk.runs.items (joined chunks) (rising_below low (chunk.last + 1) first chunk.runs.items c.0 (omega arith)))

    pub changed_chunks : (low at : ℕ) (chunks : List (Chunk T)) (old new : Chunk T) → AreChunks low chunks → low ≤ first → IsChunkOf first at chunks → IsChunkOf last at chunks → old ≡ get_or chunks at old → new.last ≡ old.last
        → new.runs.items ≡ change old.runs.items → AreChunks low (set chunks at new)
    changed_chunks low at [] old new c le is ends found last_is made = absurd is
    changed_chunks low zero (chunk ∷ chunks) old new c le is ends found last_is made =
        let to : last < chunk.last + 1 = omega arith in
        let same_last : new.last ≡ chunk.last = last_is ∙ ap (λ (x : Chunk T). x.last) found in
        let same_runs : new.runs.items ≡ change chunk.runs.items = made ∙ ap (λ (x : Chunk T). change x.runs.items) found in
        rw (same_last, same_runs) (local.rising low (chunk.last + 1) chunk.runs.items c.0 le to, c.1)
    changed_chunks low (suc at) (chunk ∷ chunks) old new c le is ends found last_is made =
        let below = is.0 in
        (c.0, changed_chunks (chunk.last + 1) at chunks old new c.1 (omega arith) is.1 ends.1 found last_is made)

  pub inserted_both : (low high : ℕ × T) (at : ℕ) (chunks : List (Chunk T)) (seen old new : Chunk T) → AreChunks 0 chunks → IsChunkOf low.0 at chunks → low.0 < high.0 → seen ≡ get_or chunks at seen → high.0 ≤ seen.last → old ≡ get_or chunks at old → new.last ≡ old.last
      → new.runs.items ≡ insert_entry nat_cmp (insert_entry nat_cmp old.runs.items high.0 high.1) low.0 low.1
      → AreChunks 0 (set chunks at new) × (joined (set chunks at new) ≡ insert_entry nat_cmp (insert_entry nat_cmp (joined chunks) high.0 high.1) low.0 low.1)
  inserted_both low high at chunks seen old new c is lt saw to found last made =
      let both = λ (runs : List (ℕ × T)). insert_entry nat_cmp (insert_entry nat_cmp runs high.0 high.1) low.0 low.1 in
      let ends = chunk_later low.0 high.0 at chunks seen is (omega arith) saw to in (
        changed_chunks low.0 high.0 both (local_both low high lt) 0 at chunks old new c (omega arith) is ends found last made,
        changed_joined low.0 high.0 both (local_both low high lt) 0 at chunks old new c is ends found made,
      )

  -- ---- a chunk with the same runs

  pub same_joined : (at : ℕ) (chunks : List (Chunk T)) (old new : Chunk T) → at < length chunks → old ≡ get_or chunks at old → new.runs.items ≡ old.runs.items → joined (set chunks at new) ≡ joined chunks
  same_joined at [] old new lt found made = absurd (omega arith)
  same_joined zero (x ∷ chunks) old new lt found made = ap (λ (xs : List (ℕ × T)). xs ++ joined chunks) (made ∙ ap (λ (y : Chunk T). y.runs.items) found)
  same_joined (suc at) (x ∷ chunks) old new lt found made = ap (λ (xs : List (ℕ × T)). x.runs.items ++ xs) (same_joined at chunks old new (omega arith) found made)

  pub same_chunks : (low at : ℕ) (chunks : List (Chunk T)) (old new : Chunk T) → AreChunks low chunks → at < length chunks → old ≡ get_or chunks at old → new.last ≡ old.last → new.runs.items ≡ old.runs.items
      → AreChunks low (set chunks at new)
  same_chunks low at [] old new c lt found last made = absurd (omega arith)
  same_chunks low zero (x ∷ chunks) old new c lt found last made =
      let same_last : new.last ≡ x.last = last ∙ ap (λ (y : Chunk T). y.last) found in
      let same_runs : new.runs.items ≡ x.runs.items = made ∙ ap (λ (y : Chunk T). y.runs.items) found in
      rw (same_last, same_runs) c
  same_chunks low (suc at) (x ∷ chunks) old new c lt found last made = (c.0, same_chunks (x.last + 1) at chunks old new c.1 (omega arith) found last made)

  -- ---- a chunk with no runs goes

  pub emptied_joined : (at : ℕ) (chunks : List (Chunk T)) (chunk : Chunk T) → at < length chunks → chunk ≡ get_or chunks at chunk → chunk.runs.items ≡ [] → joined (remove chunks at) ≡ joined chunks
  emptied_joined at [] chunk lt found none = absurd (omega arith)
  emptied_joined zero (x ∷ chunks) chunk lt found none = ap (λ (xs : List (ℕ × T)). xs ++ joined chunks) (sym none ∙ ap (λ (y : Chunk T). y.runs.items) found)
  emptied_joined (suc at) (x ∷ chunks) chunk lt found none = ap (λ (xs : List (ℕ × T)). x.runs.items ++ xs) (emptied_joined at chunks chunk (omega arith) found none)

  pub emptied_chunks : (low at : ℕ) (chunks : List (Chunk T)) (chunk : Chunk T) → AreChunks low chunks → at + 1 < length chunks → AreChunks low (remove chunks at)
  emptied_chunks low at [] chunk c lt = absurd (omega arith)
  emptied_chunks low zero (x ∷ []) chunk c lt = absurd (omega arith)
  emptied_chunks low zero (x ∷ next ∷ chunks) chunk c lt =
      let le = rising_le low (x.last + 1) x.runs.items c.0 in
      (rising_from (x.last + 1) low (next.last + 1) next.runs.items le c.1.0, c.1.1)
  emptied_chunks low (suc at) (x ∷ chunks) chunk c lt = (c.0, emptied_chunks (x.last + 1) at chunks chunk c.1 (omega arith))

  -- ---- a chunk becomes two

  -- the chunks with one more after a place
  abbrev pub with_more : List (Chunk T) → ℕ → Chunk T → Chunk T → List (Chunk T)
  with_more chunks at kept more = insert (set chunks at kept) (suc at) more

  pub halved_joined : (at : ℕ) (chunks : List (Chunk T)) (old kept more : Chunk T) → at < length chunks → old ≡ get_or chunks at old → IsHalved old kept more → joined (with_more chunks at kept more) ≡ joined chunks
  halved_joined at [] old kept more lt found halved = absurd (omega arith)
  halved_joined zero (x ∷ chunks) old kept more lt found halved =
      sym (append_assoc kept.runs.items more.runs.items (joined chunks))
      ∙ ap (λ (xs : List (ℕ × T)). xs ++ joined chunks) (sym halved.whole ∙ ap (λ (y : Chunk T). y.runs.items) found)
  halved_joined (suc at) (x ∷ chunks) old kept more lt found halved =
      ap (λ (xs : List (ℕ × T)). x.runs.items ++ xs) (halved_joined at chunks old kept more (omega arith) found halved)

  pub halved_chunks : (low at : ℕ) (chunks : List (Chunk T)) (old kept more : Chunk T) → AreChunks low chunks → at < length chunks → old ≡ get_or chunks at old → IsHalved old kept more
      → AreChunks low (with_more chunks at kept more)
  halved_chunks low at [] old kept more c lt found halved = absurd (omega arith)
  halved_chunks low zero (x ∷ chunks) old kept more c lt found halved =
      let both = halved.rising low (rw found c.0) in
      let last : more.last ≡ x.last = halved.last ∙ ap (λ (y : Chunk T). y.last) found in
      (both.0, (subst (λ (n : ℕ). AreRising (kept.last + 1) (n + 1) more.runs.items) (sym halved.last) both.1, subst (λ (n : ℕ). AreChunks (n + 1) chunks) (sym last) c.1))
  halved_chunks low (suc at) (x ∷ chunks) old kept more c lt found halved = (c.0, halved_chunks (x.last + 1) at chunks old kept more c.1 (omega arith) found halved)

  pub halved_either : (end at : ℕ) (chunks : List (Chunk T)) (old kept more : Chunk T) → IsChunkOf end at chunks → old ≡ get_or chunks at old → IsHalved old kept more
      → IsChunkOf end at (with_more chunks at kept more) ⊎ IsChunkOf end (suc at) (with_more chunks at kept more)
  halved_either end at [] old kept more is found halved = absurd is
  halved_either end zero (x ∷ chunks) old kept more is found halved =
      let last : more.last ≡ x.last = halved.last ∙ ap (λ (y : Chunk T). y.last) found in
      elim (cases_lt kept.last end) [
        | inl after ↦ inr (after, omega arith)
        | inr here ↦ inl here
      ]
  halved_either end (suc at) (x ∷ chunks) old kept more is found halved =
      elim (halved_either end at chunks old kept more is.1 found halved) [
        | inl here ↦ inl (is.0, here)
        | inr after ↦ inr (is.0, after)
      ]

  pub chunk_to : (end at : ℕ) (chunks : List (Chunk T)) (chunk : Chunk T) → IsChunkOf end at chunks → chunk ≡ get_or chunks at chunk → end ≤ chunk.last
  chunk_to end at [] chunk is found = absurd is
  chunk_to end zero (x ∷ chunks) chunk is found = let same : chunk.last ≡ x.last = ap (λ (y : Chunk T). y.last) found in omega arith
  chunk_to end (suc at) (x ∷ chunks) chunk is found = chunk_to end at chunks chunk is.1 found

  pub chunk_past : (end at : ℕ) (chunks : List (Chunk T)) (chunk : Chunk T) → IsChunkOf end (suc at) chunks → chunk ≡ get_or chunks at chunk → chunk.last < end
  chunk_past end at [] chunk is found = absurd is
  chunk_past end zero (x ∷ chunks) chunk is found = let same : chunk.last ≡ x.last = ap (λ (y : Chunk T). y.last) found in let below = is.0 in omega arith
  chunk_past end (suc at) (x ∷ chunks) chunk is found = chunk_past end at chunks chunk is.1 found
