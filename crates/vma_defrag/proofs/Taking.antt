-- What is copied when the parts that are left are taken one after another.
use Rattle.std.proofs.Common.{◌≡◌, ℕ, ◌+◌, ◌*◌, ◌<◌, ◌≤◌, List, [], ◌∷◌, length, get_or, sum_by, Bool, true, false, not, ◌&&◌, ◌==◌, refl, sym, ap, subst, ◌∙◌, arith, inl, inr, ◌⊎◌}
use Rattle.std.specs.Prelude.{Contains, if◌then◌else◌}
use Rattle.std.proofs.lemmas.Bool.{cases_lt, ne_eqb}
use Rattle.std.proofs.lemmas.List.{get_or-map, get_or_default, length-map}
use Rattle.vk_memory.specs.MemoryState.{MemoryState}
use Rattle.vk_model.specs.Basics.{among}
use Rattle.vk_model.specs.declared.resource.Spot.{Spot}
use Rattle.vk_model.specs.Memory.MoveTargets.{Moved}
use Rattle.vk_model.proofs.Lists.Members.{filter_has, filtered, none_in}
use Rattle.vma_pools.specs.State.{PoolsState, ArePools, Backs}
use Rattle.vma_defrag.specs.declared.open.Fate.{Fate}
use Rattle.vma_defrag.specs.declared.open.Fate.TheVariants.{Made, Kept, Lost}
use Rattle.vma_defrag.specs.declared.open.Planned.{Planned}
use Rattle.vma_defrag.specs.State.{part_at, part_count}
use Rattle.vma_defrag.specs.Plans.{AreMatched, ArePlanned, IsMove}
use Rattle.vma_defrag.specs.Bytes.{no_move, part_size, AreCopied, AreAllCopied, CopiesPartOf, IsTargetByte, KeepsObjects, MovesBetween}
use Rattle.vma_defrag.specs.Ends.{is_made}
use Rattle.vma_defrag.specs.Inner.Planned.{move_of, moves_of}
use Rattle.vma_defrag.specs.Inner.Ending.{fate_in, HaveFates}
use Rattle.vma_defrag.specs.Inner.Copying.{none_planned, AreCopiedSoFar, AreTaken, CopiesIf, TakesPart}
use Rattle.vma_defrag.proofs.Objects.{keeps_refl, keeps_trans, keeps_backs}
use Rattle.vma_defrag.proofs.Spots.{from_size, to_size}
use Rattle.vma_defrag.proofs.Copying.{copied_keeps, copied_out}
use Rattle.vma_defrag.proofs.PartNumbers.{same_part, move_among}
use Rattle.vma_defrag.proofs.PartSteps.{is_move, part_step, source_free}

-- ---- fates

made_is : (ignored destroyed : List ℕ) (m : Moved) → fate_in ignored destroyed m.id ≡ Made → is_made ignored destroyed m ≡ true
made_is ignored destroyed m = go (among m.id ignored) (among m.id destroyed)
  where
    go : (v w : Bool) → (if v then Kept else if w then Lost else Made) ≡ Made → (not v && not w) ≡ true
    go true w e = absurd cc
    go false true e = absurd cc
    go false false e = refl

is_made_so : (ignored destroyed : List ℕ) (m : Moved) → is_made ignored destroyed m ≡ true → fate_in ignored destroyed m.id ≡ Made
is_made_so ignored destroyed m = go (among m.id ignored) (among m.id destroyed)
  where
    go : (v w : Bool) → (not v && not w) ≡ true → (if v then Kept else if w then Lost else Made) ≡ Made
    go true w e = absurd cc
    go false true e = absurd cc
    go false false e = refl

fate_of : (ignored destroyed : List ℕ) (planned : List Planned) → HaveFates ignored destroyed planned → (i : ℕ) → i < length (moves_of planned) → (get_or planned i none_planned).fate ≡ fate_in ignored destroyed (get_or (moves_of planned) i no_move).id
fate_of ignored destroyed planned fates i lt =
    let there : i < length planned = omega (arith, lt, length-map planned move_of) in
    fates i none_planned there ∙ ap (λ (m : Moved). fate_in ignored destroyed m.id) (sym (get_or-map move_of planned i none_planned no_move there))

-- ---- one part

module _ (s : PoolsState) (h : ArePools s) (pool : ℕ) (planned : List Planned) (plan : ArePlanned s pool (moves_of planned)) (matched : AreMatched s) (first : List ℕ) (m0 : MemoryState) (backs : Backs s m0) where
  abbrev ms : List Moved
  ms = moves_of planned

  abbrev mv : ℕ → Moved
  mv i = get_or ms i no_move

  pub none_taken : ((k : ℕ) → Contains first k → k < sum_by part_count ms) → AreTaken s planned first m0 0 first m0
  none_taken within = record {
    fewer = omega arith;
    within = within;
    objects = keeps_refl m0;
    copied = λ ignored destroyed fates copied. record {
      same = λ i at from to lt inside made between. copied i at from to lt inside between;
      rest = λ n k free. refl;
    };
  }

  -- a byte of what moves is no byte of a target
  source_no_target : (test : Moved → Bool) (i at : ℕ) (from to : Spot) → i < length ms → at < (mv i).bytes → MovesBetween s (mv i).id from to → IsTargetByte s ms test from.memory (from.offset + at) → ⊥
  source_no_target test i at from to lt inside between t =
      let j = t.there.0 in
      let of : mv j ≡ t.move = get_or_default ms j no_move t.move t.there.1 ∙ t.there.2 in
      let between' : MovesBetween s (mv j).id t.from t.to = subst (λ (m : Moved). MovesBetween s m.id t.from t.to) (sym of) t.between in
      let size = to_size s h pool (mv j) (is_move s h m0 backs matched pool ms plan j t.there.1) t.from t.to between' in
      let bytes = ap (λ (m : Moved). m.bytes) of in
      let its = from_size s h pool (mv i) (is_move s h m0 backs matched pool ms plan i lt) from to between in
      elim (source_free s h m0 backs matched pool ms plan i j from to t.from t.to lt t.there.1 between between' (sym t.object)) [
        | inl low ↦ absurd (omega (arith, low, t.low, its, inside))
        | inr high ↦ absurd (omega (arith, high, t.high, size, bytes))
      ]

  module _ (count : ℕ) (left : List ℕ) (m : MemoryState) (t : AreTaken s planned first m0 count left m) (new_left : List ℕ) (n : MemoryState) (takes : TakesPart s planned left new_left m n) where
    backs_now : Backs s m
    backs_now = keeps_backs m0 m t.objects s backs

    abbrev i0 : ℕ
    i0 = takes.index

    others_left : (p : ℕ) → Contains left p → (p ≡ takes.part → ⊥) → Contains new_left p
    others_left p there other = subst (λ (l : List ℕ). Contains l p) (sym takes.others) (filter_has (λ (k : ℕ). not (k == takes.part)) left p there (ap (λ (v : Bool). not v) (ne_eqb p takes.part other)))

    -- it was copied
    module _ (c : CopiesPartOf s (mv i0) takes.number m n) where
      its_move : IsMove s pool (mv i0)
      its_move = is_move s h m backs_now matched pool ms plan i0 takes.its.there

      copied_objects : KeepsObjects m0 n
      copied_objects = keeps_trans m0 m n t.objects (copied_keeps s h m backs_now matched pool (mv i0) its_move takes.number takes.its.within n c)

      part_inside : 4096 * takes.number + part_size (mv i0) takes.number ≤ (mv i0).bytes
      part_inside = omega (arith, takes.its.within)

      copied_more : (test : Moved → Bool) → test (mv i0) ≡ true → AreCopiedSoFar s ms test left m0 m → AreCopiedSoFar s ms test new_left m0 n
      copied_more test made before = record {
        same = λ i at from to lt inside passes between. elim (part_step s h m backs_now matched pool ms plan takes.part n i0 takes.number takes.its c i at from to lt inside between) [
          | inl copied ↦ inr (copied.2 ∙ before.rest from.memory (from.offset + at) (source_no_target test i at from to lt inside between))
          | inr stays ↦ elim (before.same i at from to lt inside passes between) [
            | inl there ↦ inl (others_left (part_at ms i at) there stays.0)
            | inr same ↦ inr (stays.1 ∙ same)
          ]
        ];
        rest = λ o k free. copied_out s h m backs_now matched pool (mv i0) its_move takes.number takes.its.within n c o k (λ same. outside o k free same) ∙ before.rest o k free;
      }
        where
          outside : (o k : ℕ) → (IsTargetByte s ms test o k → ⊥) → o ≡ c.to.memory → (k < c.to.offset + 4096 * takes.number) ⊎ (c.to.offset + 4096 * takes.number + part_size (mv i0) takes.number ≤ k)
          outside o k free same = elim (cases_lt k (c.to.offset + 4096 * takes.number)) [
            | inl low ↦ inl low
            | inr ge ↦ elim (cases_lt k (c.to.offset + 4096 * takes.number + part_size (mv i0) takes.number)) [
              | inl lt ↦ absurd (free (record {
                move = mv i0;
                there = move_among ms i0 takes.its.there;
                passes = made;
                from = c.from;
                to = c.to;
                between = c.between;
                object = sym same;
                low = omega (arith, ge);
                high = omega (arith, lt, part_inside);
              }))
              | inr high ↦ inr high
            ]
          ]

    -- it wasn't
    not_copied : n ≡ m → (test : Moved → Bool) → (test (mv i0) ≡ true → ⊥) → AreCopiedSoFar s ms test left m0 m → AreCopiedSoFar s ms test new_left m0 n
    not_copied same test lost before = subst (λ (x : MemoryState). AreCopiedSoFar s ms test new_left m0 x) (sym same) (record {
      same = λ i at from to lt inside passes between. elim (before.same i at from to lt inside passes between) [
        | inl there ↦ inl (others_left (part_at ms i at) there (λ is. lost (subst (λ (k : ℕ). test (mv k) ≡ true) (same_part ms takes.part i0 takes.number i at takes.its lt inside is).0 passes)))
        | inr equal ↦ inr equal
      ];
      rest = before.rest;
    })

    within_more : (k : ℕ) → Contains new_left k → k < sum_by part_count ms
    within_more k there = t.within k (filtered (λ (p : ℕ). not (p == takes.part)) left k (subst (λ (l : List ℕ). Contains l k) takes.others there)).0

    fewer_more : length new_left + (count + 1) ≡ length first
    fewer_more = omega (arith, takes.fewer, t.fewer)

    pub more_taken : AreTaken s planned first m0 (count + 1) new_left n
    more_taken = go (get_or planned i0 none_planned).fate refl takes.copies
      where
        go : (f : Fate) → (get_or planned i0 none_planned).fate ≡ f → CopiesIf f s (mv i0) takes.number m n → AreTaken s planned first m0 (count + 1) new_left n
        go Made e c = record {
          fewer = fewer_more;
          within = within_more;
          objects = copied_objects c;
          copied = λ ignored destroyed fates copied.
              copied_more c (is_made ignored destroyed) (made_is ignored destroyed (mv i0) (sym (fate_of ignored destroyed planned fates i0 takes.its.there) ∙ e)) (t.copied ignored destroyed fates copied);
        }
        go Kept e c = record {
          fewer = fewer_more;
          within = within_more;
          objects = subst (λ (x : MemoryState). KeepsObjects m0 x) (sym c) t.objects;
          copied = λ ignored destroyed fates copied. not_copied c (is_made ignored destroyed) (λ made. clash-kept (sym e ∙ fate_of ignored destroyed planned fates i0 takes.its.there ∙ is_made_so ignored destroyed (mv i0) made)) (t.copied ignored destroyed fates copied);
        }
          where
            clash-kept : Kept ≡ Made → ⊥
            clash-kept e = absurd cc
        go Lost e c = record {
          fewer = fewer_more;
          within = within_more;
          objects = subst (λ (x : MemoryState). KeepsObjects m0 x) (sym c) t.objects;
          copied = λ ignored destroyed fates copied. not_copied c (is_made ignored destroyed) (λ made. clash-lost (sym e ∙ fate_of ignored destroyed planned fates i0 takes.its.there ∙ is_made_so ignored destroyed (mv i0) made)) (t.copied ignored destroyed fates copied);
        }
          where
            clash-lost : Lost ≡ Made → ⊥
            clash-lost e = absurd cc

  -- ---- all parts

  none_left : (l : List ℕ) (k : ℕ) → length l ≡ 0 → Contains l k → ⊥
  none_left [] k e there = none_in k there
  none_left (x ∷ xs) k e there = absurd cc

  pub all_taken : (left : List ℕ) (m : MemoryState) → AreTaken s planned first m0 (length first) left m → (ignored destroyed : List ℕ) → HaveFates ignored destroyed planned → AreCopied s m0 ms first → AreAllCopied s ms (is_made ignored destroyed) m0 m
  all_taken left m t ignored destroyed fates copied =
      let so_far = t.copied ignored destroyed fates copied in
      record {
        objects = t.objects;
        same = λ move from to at there made between inside.
            let i = there.0 in
            let of : mv i ≡ move = get_or_default ms i no_move move there.1 ∙ there.2 in
            elim (so_far.same i at from to there.1 (subst (λ (x : Moved). at < x.bytes) (sym of) inside) (subst (λ (x : Moved). is_made ignored destroyed x ≡ true) (sym of) made) (subst (λ (x : Moved). MovesBetween s x.id from to) (sym of) between)) [
              | inl left' ↦ absurd (none_left left (part_at ms i at) (omega (arith, t.fewer)) left')
              | inr same ↦ same
            ];
        rest = so_far.rest;
      }
