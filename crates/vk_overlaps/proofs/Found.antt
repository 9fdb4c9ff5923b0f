-- A part that is found to overlap: along a walk, and on a side of a plane.
use Rattle.std.proofs.Common.{◌≡◌, ◌≤◌, ◌-◌, length, take, drop, arith, List, Option, [], ◌∷◌, ◌++◌, Bool, true, false, cond, IsTrue, refl, sym, ap, ◌∙◌, subst}
use Rattle.std.specs.Prelude.{IfSome, slice_index_or}
use Rattle.std.specs.List.{list_any, filter}
use Rattle.std.proofs.lemmas.Bool.{or_right}
use Rattle.std.proofs.lemmas.Option.{IfSome_then}
use Rattle.std.proofs.lemmas.List.{append_assoc, take_all}
use Rattle.std.proofs.lemmas.List.Elements.{filter-append}
use Rattle.std.proofs.lemmas.List.Folds.{list_any-append}
use Rattle.vk_model.proofs.Lists.Members.{some_member, member_passes, filtered}
use Rattle.vk_overlaps.specs.declared.extents.Extent.{Extent}
use Rattle.vk_overlaps.specs.Extents.{extents_meet, IsOverlapping}

-- a walk along a list goes on by an item
pub walks_on : {A : Type 0} (all seen rest : List A) → 1 ≤ length rest → all ≡ seen ++ rest → (done : List A) × (all ≡ done ++ take (length rest - 1) (drop 1 rest))
walks_on all seen [] some whole = absurd (omega (arith, some))
walks_on all seen (x ∷ rest) some whole =
    (seen ++ x ∷ [], whole ∙ sym (append_assoc seen (x ∷ []) rest) ∙ ap (λ l. seen ++ x ∷ [] ++ l) (sym (take_all (length (x ∷ rest) - 1) rest (omega arith))))

-- the part that a walk has come to overlaps where it meets one that is read
pub meets_read : (written seen rest read : List Extent) (d : Extent) → 1 ≤ length rest → written ≡ seen ++ rest → IsTrue (list_any (extents_meet (slice_index_or rest 0 d)) read) → IsOverlapping written read (slice_index_or rest 0 d)
meets_read written seen [] read d some whole h = absurd (omega (arith, some))
meets_read written seen (part ∷ rest) read d some whole h =
    let m = extents_meet part in
    let later : IsTrue (list_any m (rest ++ read)) = list_any-append m rest read ∙ or_right (list_any m rest) (list_any m read) h in
    record { before = seen; after = rest; whole = whole; meets = list_any-append m seen (rest ++ read) ∙ or_right (list_any m seen) (list_any m (rest ++ read)) later }

-- what some item that is kept passes, some item passes
some_kept : {A : Type 0} (t r : A → Bool) (xs : List A) → IsTrue (list_any t (filter r xs)) → IsTrue (list_any t xs)
some_kept t r xs h =
    let some = some_member t (filter r xs) h in
    member_passes t xs some.0 (filtered r xs some.0 some.1).0 some.2

-- what comes before an item that is kept and after it, and what is kept of both
record IsKept {A : Type 0} (r : A → Bool) (xs before : List A) (x : A) (after : List A) : Type 0 where
  first : List A
  last : List A
  whole : xs ≡ first ++ x ∷ last
  front : filter r first ≡ before
  back : filter r last ≡ after

kept_at : {A : Type 0} (r : A → Bool) (x : A) (after xs before : List A) → filter r xs ≡ before ++ x ∷ after → IsKept r xs before x after
kept_at r x after [] [] e = absurd cc
kept_at r x after [] (y ∷ before) e = absurd cc
kept_at {A} r x after (y ∷ xs) before e = go (r y) refl (kept_at r x after xs) before e
  where
    go : (b : Bool) → r y ≡ b → ((before : List A) → filter r xs ≡ before ++ x ∷ after → IsKept r xs before x after) → (before : List A) → cond b (y ∷ filter r xs) (filter r xs) ≡ before ++ x ∷ after → IsKept r (y ∷ xs) before x after
    go false is rest before e =
        let d = rest before e in
        record { first = y ∷ d.first; last = d.last; whole = ap (λ l. y ∷ l) d.whole; front = rw is d.front; back = d.back }
    go true is rest [] e =
        let same : y ≡ x = cc in
        record { first = []; last = xs; whole = ap (λ z. z ∷ xs) same; front = refl; back = cc }
    go true is rest (z ∷ before) e =
        let same : y ≡ z = cc in
        let d = rest before cc in
        record { first = y ∷ d.first; last = d.last; whole = ap (λ l. y ∷ l) d.whole; front = rw is (ap (λ l. y ∷ l) d.front ∙ ap (λ w. w ∷ before) same); back = d.back }

-- a part that overlaps among those that are kept does among all
of_kept : (r : Extent → Bool) (written read : List Extent) (part : Extent) → IsOverlapping (filter r written) (filter r read) part → IsOverlapping written read part
of_kept r written read part o =
    let d = kept_at r part o.after written o.before o.whole in
    let others : filter r (d.first ++ (d.last ++ read)) ≡ o.before ++ (o.after ++ filter r read) =
    filter-append r d.first (d.last ++ read) ∙ rw (filter-append r d.last read, d.front, d.back) refl in
    record { before = d.first; after = d.last; whole = d.whole; meets = some_kept (extents_meet part) r (d.first ++ (d.last ++ read)) (ap (list_any (extents_meet part)) others ∙ o.meets) }

-- the same, as a search says it
pub found_kept : (r : Extent → Bool) (written read w u : List Extent) → w ≡ filter r written → u ≡ filter r read → (found : Option Extent) → IfSome found (IsOverlapping w u) → IfSome found (IsOverlapping written read)
found_kept r written read w u w-is u-is found o =
    IfSome_then found o (λ part p. of_kept r written read part (subst (λ (l : List Extent). IsOverlapping l (filter r read) part) w-is (subst (λ (l : List Extent). IsOverlapping w l part) u-is p)))
