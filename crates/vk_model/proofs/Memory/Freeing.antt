-- Linear blocks when a range is given back.
use Rattle.std.proofs.Common.{◌≡◌, ℕ, zero, suc, ◌+◌, ◌<◌, ◌≤◌, List, [], ◌∷◌, ◌++◌, length, get_or, Bool, true, false, ◌&&◌, ◌==◌, not, refl, ap, sym, subst, ◌∙◌, arith, cond}
use Rattle.std.specs.Prelude.{All, AllPairs, if◌then◌else◌}
use Rattle.std.proofs.lemmas.List.{append-nil}
use Rattle.std.proofs.lemmas.List.Sorted.{IsPermutation-refl, IsPermutation-cons, IsPermutation-trans, IsPermutation-middle}
use Rattle.std.proofs.lemmas.List.Elements.{All-nil, All-cons, All-tail, All-head, All-filter, filter-append}
use Rattle.std.proofs.lemmas.List.Kept.{AllPairs-filter}
use Rattle.std.proofs.lemmas.Bool.{eqb-true, eqb-false, or_parts, both_ways, false_from_ne_true}
use Rattle.vk_model.specs.Memory.Suballocation.{Taken, IsSound, IsApart, IsTakenAt, TakesAway, ranges_meet, share_page, same_kind}
use Rattle.vk_model.specs.Memory.Room.{Linear, all_taken, last_start, is_none_left}
use Rattle.vk_model.specs.Memory.LinearBlocks.{others, lower_from_wrapped, after_free, Rises, Falls, IsLinearBlock}
use Rattle.vk_model.specs.Memory.PlaceLaws.{LinearFrees}
use Rattle.vk_model.proofs.World.BytePlaces.{common_meets}
use Rattle.vk_model.proofs.Memory.AllPairs.{pairs_first, pairs_rest}
use Rattle.vk_model.proofs.Memory.Ranges.{rises_up, rises_filter, falls_filter, last_filter, none_left, filter_none}

-- ---- taking out the range at a start

abbrev Sized : List Taken → Type 0
Sized ts = All (λ t. 0 < t.size) ts

-- two ranges of some bytes that start together conflict
pub not_together : (t u : Taken) → 0 < t.size → 0 < u.size → IsApart t u → t.start ≡ u.start → ⊥
not_together t u some more apart same =
    let meet = common_meets t.start t.size u.start u.size t.start (omega arith) (omega arith) (omega arith) (omega arith) in
    let none = (or_parts (ranges_meet t.start t.size u.start u.size) (not (same_kind t.kind u.kind) && share_page t.start t.size u.start u.size) apart).0 in
    both_ways (ranges_meet t.start t.size u.start u.size) none meet

all_others : (start : ℕ) (ts : List Taken) → All (λ t. t.start ≡ start → ⊥) ts → others start ts ≡ ts
all_others start [] apart = refl
all_others start (t ∷ ts) apart =
    let differ : (t.start == start) ≡ false = false_from_ne_true (t.start == start) (λ e. All-head (λ u. u.start ≡ start → ⊥) t ts apart (eqb-true t.start start e)) in
    rw differ (ap (λ us. t ∷ us) (all_others start ts (All-tail (λ u. u.start ≡ start → ⊥) t ts apart)))

rest_taken : (start : ℕ) (t : Taken) (ts : List Taken) → (t.start ≡ start → ⊥) → IsTakenAt start (t ∷ ts) → IsTakenAt start ts
rest_taken start t ts differ taken = at taken.0 taken.1 taken.2 taken.3 taken.4
  where
    at : (k : ℕ) (x : Taken) → k < length (t ∷ ts) → get_or (t ∷ ts) k x ≡ x → x.start ≡ start → IsTakenAt start ts
    at zero x there is starts = absurd (differ (ap (λ (u : Taken). u.start) is ∙ starts))
    at (suc k) x there is starts = (k, x, omega arith, is, starts)

take_out : (start : ℕ) (ts : List Taken) → Sized ts → AllPairs IsApart ts → IsTakenAt start ts → TakesAway ts (others start ts) start
take_out start [] sized pairs taken = absurd (omega (arith, taken.2))
take_out start (t ∷ ts) sized pairs taken =
    go (t.start == start) refl (λ left. take_out start ts (All-tail (λ u. 0 < u.size) t ts sized) (pairs_rest IsApart t ts pairs) left)
  where
    differ : t.start ≡ start → All (λ u. u.start ≡ start → ⊥) ts
    differ here = both ts (All-tail (λ u. 0 < u.size) t ts sized) (pairs_first IsApart t ts pairs)
      where
        both : (us : List Taken) → Sized us → All (IsApart t) us → All (λ u. u.start ≡ start → ⊥) us
        both [] s a = All-nil (λ u. u.start ≡ start → ⊥)
        both (u ∷ us) s a =
            All-cons (λ v. v.start ≡ start → ⊥) u us
            (λ same. not_together t u (All-head (λ v. 0 < v.size) t ts sized) (All-head (λ v. 0 < v.size) u us s) (All-head (IsApart t) u us a) (here ∙ sym same))
            (both us (All-tail (λ v. 0 < v.size) u us s) (All-tail (IsApart t) u us a))

    go : (b : Bool) → (t.start == start) ≡ b → (IsTakenAt start ts → TakesAway ts (others start ts) start) → TakesAway (t ∷ ts) (cond (not b) (t ∷ others start ts) (others start ts)) start
    go true e rest =
        let here : t.start ≡ start = eqb-true t.start start e in
        (t, here, rw (all_others start ts (differ here)) (IsPermutation-refl (t ∷ ts)))
    go false e rest =
        let r = rest (rest_taken start t ts (eqb-false t.start start e) taken) in (
          r.0,
          r.1,
          IsPermutation-trans (t ∷ ts) (t ∷ r.0 ∷ others start ts) (r.0 ∷ t ∷ others start ts)
              (IsPermutation-cons t ts (r.0 ∷ others start ts) r.2) (IsPermutation-middle (t ∷ []) r.0 (others start ts)),
        )

-- ---- what is left of a block

module _ (b : Linear) (start : ℕ) where
  abbrev left_of : Linear
  left_of = record b { lower = others start b.lower; wrapped = others start b.wrapped; upper = others start b.upper }

  left_taken : all_taken left_of ≡ others start (all_taken b)
  left_taken =
      let p = λ (t : Taken). not (t.start == start) in
      sym (filter-append p (b.lower ++ b.wrapped) b.upper ∙ ap (λ ts. ts ++ others start b.upper) (filter-append p b.lower b.wrapped))

-- what went round becomes the lower stack where nothing is left of that
module _ (b : Linear) (none : is_none_left b.lower ≡ true) where
  abbrev turned : Linear
  turned = record b { lower = b.wrapped; wrapped = [] }

  turned_taken : all_taken turned ≡ all_taken b
  turned_taken = ap (λ ts. ts ++ b.upper) (append-nil b.wrapped) ∙ ap (λ ts. (ts ++ b.wrapped) ++ b.upper) (sym (none_left b.lower none))

  turned_order : b.wrapped ++ b.lower ≡ b.wrapped
  turned_order = ap (λ ts. b.wrapped ++ ts) (none_left b.lower none) ∙ append-nil b.wrapped

pub round_taken : (b : Linear) → all_taken (lower_from_wrapped b) ≡ all_taken b
round_taken b = go (is_none_left b.lower) refl
  where
    go : (c : Bool) → is_none_left b.lower ≡ c → all_taken (if c then record b { lower = b.wrapped; wrapped = [] } else b) ≡ all_taken b
    go true e = turned_taken b e
    go false e = refl

pub linear_frees : LinearFrees
linear_frees b start h taken =
    let same : all_taken (after_free b start) ≡ others start (all_taken b) = round_taken (left_of b start) ∙ left_taken b start in
    subst (λ ts. TakesAway (all_taken b) ts start) (sym same) (take_out start (all_taken b) h.sized h.sound.apart taken)

-- ---- a block stays a linear block

module _ (b : Linear) (start : ℕ) (h : IsLinearBlock b) where
  abbrev rest : Linear
  rest = left_of b start

  abbrev is_other : Taken → Bool
  is_other t = not (t.start == start)

  rest_sized : Sized (all_taken rest)
  rest_sized = subst Sized (sym (left_taken b start)) (All-filter is_other (λ t. 0 < t.size) (all_taken b) h.sized)

  rest_sound : IsSound b.size (all_taken rest)
  rest_sound =
      let left : IsSound b.size (others start (all_taken b)) = record {
        inside = All-filter is_other (λ t. t.start + t.size ≤ b.size) (all_taken b) h.sound.inside;
        apart = AllPairs-filter IsApart is_other (all_taken b) h.sound.apart;
      } in
      subst (IsSound b.size) (sym (left_taken b start)) left

  rest_rises : Rises 0 (rest.wrapped ++ rest.lower) (last_start b.size rest.upper)
  rest_rises =
      let high = last_start b.size b.upper in
      rises_up 0 (rest.wrapped ++ rest.lower) high (last_start b.size rest.upper) (last_filter is_other b.size b.upper 0 h.falls)
      (subst (λ ts. Rises 0 ts high) (filter-append is_other b.wrapped b.lower) (rises_filter is_other 0 (b.wrapped ++ b.lower) high h.rises))

  rest_falls : Falls b.size rest.upper 0
  rest_falls = falls_filter is_other b.size b.upper 0 h.falls

  rest_stays : (c : Bool) → is_none_left rest.lower ≡ c → IsLinearBlock (if c then record rest { lower = rest.wrapped; wrapped = [] } else rest)
  rest_stays true e = record {
    sized = subst Sized (sym (turned_taken rest e)) rest_sized;
    sound = subst (IsSound b.size) (sym (turned_taken rest e)) rest_sound;
    rises = subst (λ ts. Rises 0 ts (last_start b.size rest.upper)) (turned_order rest e) rest_rises;
    falls = rest_falls;
    round = λ left. absurd cc;
  }
  rest_stays false e = record {
    sized = rest_sized;
    sound = rest_sound;
    rises = rest_rises;
    falls = rest_falls;
    round = λ left.
        let were = h.round (false_from_ne_true (is_none_left b.wrapped) (λ none. both_ways (is_none_left rest.wrapped) left (filter_none is_other b.wrapped none))) in
        (were.0, e, filter_none is_other b.upper were.2);
  }

pub stays_freed : (b : Linear) (start : ℕ) → IsLinearBlock b → IsLinearBlock (after_free b start)
stays_freed b start h = rest_stays b start h (is_none_left (left_of b start).lower) refl
