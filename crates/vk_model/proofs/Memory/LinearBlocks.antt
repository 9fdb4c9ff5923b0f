-- Linear blocks through requests and frees.
use Rattle.std.proofs.Common.{◌≡◌, ℕ, suc, ◌+◌, ◌<◌, ◌≤◌, List, [], ◌∷◌, ◌++◌, Bool, true, false, ◌&&◌, not, refl, ap, sym, subst, ◌∙◌, arith, cond, append_assoc}
use Rattle.std.specs.Prelude.{All, IsPermutation, reverse, Option, Some, None, if◌then◌else◌}
use Rattle.std.specs.List.{find}
use Rattle.std.specs.Option.{option_or}
use Rattle.std.proofs.lemmas.List.Sorted.{IsPermutation-sym, IsPermutation-middle, IsPermutation-to_front, All-permutation}
use Rattle.std.proofs.lemmas.List.Elements.{All-nil, All-cons}
use Rattle.std.proofs.lemmas.Bool.{and_parts, not-true}
use Rattle.vk_model.specs.Basics.{below}
use Rattle.vk_model.specs.Memory.Suballocation.{Taken, Request, Puts, taken_at}
use Rattle.vk_model.specs.Memory.Room.{Linear, all_taken, fits, lowest, highest, end_after, first_start, last_start, is_none_left, stack_place, ring_place, upper_place}
use Rattle.vk_model.specs.Memory.LinearBlocks.{empty_linear, with_lower, with_upper, IsLinearBlock}
use Rattle.vk_model.specs.Memory.PlaceLaws.{LinearTakes, LinearStays, Takes}
use Rattle.vk_model.proofs.Memory.Taken.{fitting, widened, putting_is_sound}
use Rattle.vk_model.proofs.Memory.Ranges.{rises_to_end, rises_push, rises_insert, falls_push, last_inside, last_pushed, first_inside, none_left}
use Rattle.vk_model.proofs.Memory.Freeing.{stays_freed}

-- ---- places

pub find_passes : (p : ℕ → Bool) (xs : List ℕ) (x : ℕ) → find p xs ≡ Some x → p x ≡ true
find_passes p [] x e = absurd cc
find_passes p (y ∷ ys) x e = go (p y) refl e (find_passes p ys x)
  where
    go : (b : Bool) → p y ≡ b → cond b (Some y) (find p ys) ≡ Some x → (find p ys ≡ Some x → p x ≡ true) → p x ≡ true
    go true q e rest = let same : y ≡ x = cc in ap p (sym same) ∙ q
    go false q e rest = rest e

chosen : (c : Bool) (o : Option ℕ) (start : ℕ) → (if c then o else None) ≡ Some start → (c ≡ true) × (o ≡ Some start)
chosen true o start e = (refl, e)
chosen false o start e = absurd cc

-- a place above or below the lower stack, while none has gone round
record OnStack (b : Linear) (r : Request) (start : ℕ) : Type 0 where
  none_round : is_none_left b.wrapped ≡ true
  fits_there : fits (all_taken b) r (end_after 0 b.lower) (last_start b.size b.upper) start ≡ true

on_stack : (b : Linear) (r : Request) (start : ℕ) → stack_place b r ≡ Some start → OnStack b r start
on_stack b r start e =
    let low = end_after 0 b.lower in
    let high = last_start b.size b.upper in
    let c = chosen (is_none_left b.wrapped) (lowest (all_taken b) r low high) start e in
    record { none_round = c.0; fits_there = find_passes (fits (all_taken b) r low high) (below (suc high)) start c.1 }

on_upper_stack : (b : Linear) (r : Request) (start : ℕ) → upper_place b r ≡ Some start → OnStack b r start
on_upper_stack b r start e =
    let low = end_after 0 b.lower in
    let high = last_start b.size b.upper in
    let c = chosen (is_none_left b.wrapped) (highest (all_taken b) r low high) start e in
    record { none_round = c.0; fits_there = find_passes (fits (all_taken b) r low high) (reverse (below (suc high))) start c.1 }

-- a place at the start of a ring
record InRing (b : Linear) (r : Request) (start : ℕ) : Type 0 where
  is_ring : b.ring ≡ true
  no_upper : is_none_left b.upper ≡ true
  some_lower : is_none_left b.lower ≡ false
  fits_there : fits (all_taken b) r (end_after 0 b.wrapped) (first_start 0 b.lower) start ≡ true

in_ring : (b : Linear) (r : Request) (start : ℕ) → ring_place b r ≡ Some start → InRing b r start
in_ring b r start e =
    let low = end_after 0 b.wrapped in
    let high = first_start 0 b.lower in
    let c = chosen (b.ring && is_none_left b.upper && not (is_none_left b.lower)) (lowest (all_taken b) r low high) start e in
    let two = and_parts (b.ring && is_none_left b.upper) (not (is_none_left b.lower)) c.0 in
    let one = and_parts b.ring (is_none_left b.upper) two.0 in
    record { is_ring = one.0; no_upper = one.1; some_lower = not-true (is_none_left b.lower) two.1; fits_there = find_passes (fits (all_taken b) r low high) (below (suc high)) start c.1 }

-- ---- a block with one more range

-- the range is added to one of the three lists
to_first : (xs ys zs : List Taken) (t : Taken) → IsPermutation (((xs ++ t ∷ []) ++ ys) ++ zs) (t ∷ ((xs ++ ys) ++ zs))
to_first xs ys zs t =
    let from : ((xs ++ t ∷ []) ++ ys) ++ zs ≡ xs ++ t ∷ (ys ++ zs) = simp append_assoc in
    let to : t ∷ ((xs ++ ys) ++ zs) ≡ t ∷ (xs ++ (ys ++ zs)) = simp append_assoc in
    rw (from, to) (IsPermutation-middle xs t (ys ++ zs))

to_second : (xs ys zs : List Taken) (t : Taken) → IsPermutation ((xs ++ (ys ++ t ∷ [])) ++ zs) (t ∷ ((xs ++ ys) ++ zs))
to_second xs ys zs t =
    let from : (xs ++ (ys ++ t ∷ [])) ++ zs ≡ xs ++ (ys ++ t ∷ zs) = simp append_assoc in
    let back : xs ++ (ys ++ t ∷ zs) ≡ (xs ++ ys) ++ t ∷ zs = sym (append_assoc xs ys (t ∷ zs)) in
    rw (from, back) (IsPermutation-middle (xs ++ ys) t zs)

to_third : (xs ys zs : List Taken) (t : Taken) → IsPermutation ((xs ++ ys) ++ (zs ++ t ∷ [])) (t ∷ ((xs ++ ys) ++ zs))
to_third xs ys zs t = rw (sym (append_assoc (xs ++ ys) zs (t ∷ []))) (IsPermutation-to_front ((xs ++ ys) ++ zs) t)

-- the bounds of a place lie in the block
in_block : (b : Linear) (r : Request) (low high start : ℕ) → high ≤ b.size → fits (all_taken b) r low high start ≡ true → fits (all_taken b) r 0 b.size start ≡ true
in_block b r low high start inside fit = widened (all_taken b) r low high b.size start inside fit

put : (b : Linear) (new : List Taken) (r : Request) (low high start : ℕ) → fits (all_taken b) r low high start ≡ true → IsPermutation new (taken_at start r ∷ all_taken b) → Puts (all_taken b) new r start
put b new r low high start fit added = let f = fitting (all_taken b) r low high start fit in record { aligned = f.aligned; added = added }

stack_bound : (b : Linear) → IsLinearBlock b → last_start b.size b.upper ≤ b.size
stack_bound b h = last_inside b.size b.upper 0 h.falls

ring_bound : (b : Linear) → IsLinearBlock b → first_start 0 b.lower ≤ b.size
ring_bound b h = omega (arith, first_inside 0 b.wrapped b.lower (last_start b.size b.upper) h.rises, stack_bound b h)

-- a request that takes a start, or none
taking : (b new : Linear) (r : Request) (start : ℕ) → fits (all_taken b) r 0 b.size start ≡ true → Puts (all_taken b) (all_taken new) r start → Takes b new r (Some start)
taking b new r start fit puts = record {
  fitting = λ k e. let same : start ≡ k = cc in subst (λ s. fits (all_taken b) r 0 b.size s ≡ true) same fit;
  taken = λ k e. let same : start ≡ k = cc in subst (λ s. Puts (all_taken b) (all_taken new) r s) same puts;
  none = λ e. absurd cc;
}

taking_none : (b : Linear) (r : Request) → Takes b b r None
taking_none b r = record { fitting = λ k e. absurd cc; taken = λ k e. absurd cc; none = λ e. refl }

takes_lower : (b : Linear) (r : Request) (s w : Option ℕ) → IsLinearBlock b → stack_place b r ≡ s → ring_place b r ≡ w → Takes b (with_lower b r s w) r (option_or s w)
takes_lower b r (Some start) w h e f =
    let p = on_stack b r start e in
    let low = end_after 0 b.lower in
    let high = last_start b.size b.upper in
    taking b (with_lower b r (Some start) w) r start (in_block b r low high start (stack_bound b h) p.fits_there)
    (put b (all_taken (with_lower b r (Some start) w)) r low high start p.fits_there (to_first b.lower b.wrapped b.upper (taken_at start r)))
takes_lower b r None (Some start) h e f =
    let p = in_ring b r start f in
    let low = end_after 0 b.wrapped in
    let high = first_start 0 b.lower in
    taking b (with_lower b r None (Some start)) r start (in_block b r low high start (ring_bound b h) p.fits_there)
    (put b (all_taken (with_lower b r None (Some start))) r low high start p.fits_there (to_second b.lower b.wrapped b.upper (taken_at start r)))
takes_lower b r None None h e f = taking_none b r

takes_upper : (b : Linear) (r : Request) (s : Option ℕ) → IsLinearBlock b → upper_place b r ≡ s → Takes b (with_upper b r s) r s
takes_upper b r (Some start) h e =
    let p = on_upper_stack b r start e in
    let low = end_after 0 b.lower in
    let high = last_start b.size b.upper in
    taking b (with_upper b r (Some start)) r start (in_block b r low high start (stack_bound b h) p.fits_there)
    (put b (all_taken (with_upper b r (Some start))) r low high start p.fits_there (to_third b.lower b.wrapped b.upper (taken_at start r)))
takes_upper b r None h e = taking_none b r

pub linear_takes : LinearTakes
linear_takes = record {
  lower = λ b r h. takes_lower b r (stack_place b r) (ring_place b r) h refl refl;
  upper = λ b r h. takes_upper b r (upper_place b r) h refl;
}

-- ---- a block stays a linear block

-- what holds of all ranges, when one of some bytes is put where it fits
more_sized : (old new : List Taken) (t : Taken) → 0 < t.size → IsPermutation new (t ∷ old) → All (λ u. 0 < u.size) old → All (λ u. 0 < u.size) new
more_sized old new t some added sized = All-permutation (λ u. 0 < u.size) (t ∷ old) new (IsPermutation-sym new (t ∷ old) added) (All-cons (λ u. 0 < u.size) t old some sized)

after_none : (b : Linear) → is_none_left b.wrapped ≡ true → end_after 0 (b.wrapped ++ b.lower) ≡ end_after 0 b.lower
after_none b e = ap (λ w. end_after 0 (w ++ b.lower)) (none_left b.wrapped e)

stays_lower : (b : Linear) (r : Request) (s w : Option ℕ) → 0 < r.size → IsLinearBlock b → stack_place b r ≡ s → ring_place b r ≡ w → IsLinearBlock (with_lower b r s w)
stays_lower b r (Some start) w some h e f =
    let p = on_stack b r start e in
    let t = taken_at start r in
    let new = with_lower b r (Some start) w in
    let takes = takes_lower b r (Some start) w h e f in
    let puts = takes.taken start refl in
    let fit = fitting (all_taken b) r (end_after 0 b.lower) (last_start b.size b.upper) start p.fits_there in
    record {
      sized = more_sized (all_taken b) (all_taken new) t some puts.added h.sized;
      sound = putting_is_sound b.size (all_taken b) (all_taken new) r start h.sound (takes.fitting start refl) puts;
      rises = rw (sym (append_assoc b.wrapped b.lower (t ∷ []))) (rises_push 0 (b.wrapped ++ b.lower) t (last_start b.size b.upper) (last_start b.size b.upper) (omega (arith, after_none b p.none_round, fit.above)) fit.below h.rises);
      falls = h.falls;
      round = λ left. absurd (let none = p.none_round in cc);
    }
stays_lower b r None (Some start) some h e f =
    let p = in_ring b r start f in
    let t = taken_at start r in
    let new = with_lower b r None (Some start) in
    let takes = takes_lower b r None (Some start) h e f in
    let puts = takes.taken start refl in
    let fit = fitting (all_taken b) r (end_after 0 b.wrapped) (first_start 0 b.lower) start p.fits_there in
    record {
      sized = more_sized (all_taken b) (all_taken new) t some puts.added h.sized;
      sound = putting_is_sound b.size (all_taken b) (all_taken new) r start h.sound (takes.fitting start refl) puts;
      rises = rw (append_assoc b.wrapped (t ∷ []) b.lower) (rises_insert 0 b.wrapped b.lower t (last_start b.size b.upper) p.some_lower fit.above fit.below h.rises);
      falls = h.falls;
      round = λ left. (p.is_ring, p.some_lower, p.no_upper);
    }
stays_lower b r None None some h e f = h

stays_upper : (b : Linear) (r : Request) (s : Option ℕ) → 0 < r.size → IsLinearBlock b → upper_place b r ≡ s → IsLinearBlock (with_upper b r s)
stays_upper b r (Some start) some h e =
    let p = on_upper_stack b r start e in
    let t = taken_at start r in
    let new = with_upper b r (Some start) in
    let takes = takes_upper b r (Some start) h e in
    let puts = takes.taken start refl in
    let fit = fitting (all_taken b) r (end_after 0 b.lower) (last_start b.size b.upper) start p.fits_there in
    record {
      sized = more_sized (all_taken b) (all_taken new) t some puts.added h.sized;
      sound = putting_is_sound b.size (all_taken b) (all_taken new) r start h.sound (takes.fitting start refl) puts;
      rises = rw (last_pushed b.size b.upper t) (rises_to_end 0 (b.wrapped ++ b.lower) (last_start b.size b.upper) start (omega (arith, after_none b p.none_round, fit.above)) h.rises);
      falls = falls_push b.size b.upper t 0 fit.below (omega arith) h.falls;
      round = λ left. absurd (let none = p.none_round in cc);
    }
stays_upper b r None some h e = h

first_block : (size : ℕ) (ring : Bool) → IsLinearBlock (empty_linear size ring)
first_block size ring = record {
  sized = All-nil (λ t. 0 < t.size);
  sound = record { inside = All-nil (λ t. t.start + t.size ≤ size); apart = λ i j d less there. absurd (omega arith) };
  rises = omega arith;
  falls = omega arith;
  round = λ left. absurd cc;
}

pub linear_stays : LinearStays
linear_stays = record {
  first = first_block;
  lower = λ b r some h. stays_lower b r (stack_place b r) (ring_place b r) some h refl refl;
  upper = λ b r some h. stays_upper b r (upper_place b r) some h refl;
  freed = stays_freed;
}
