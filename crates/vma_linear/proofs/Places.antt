-- The places of a linear block by the ranges next to its gaps.
use Rattle.std.proofs.Common.{◌≡◌, ℕ, suc, ◌+◌, ◌*◌, ◌/◌, ◌%◌, ◌<◌, ◌≤◌, List, [], ◌∷◌, ◌++◌, length, Bool, true, false, not, refl, ap, sym, subst, ◌∙◌, arith, inl, inr, ◌⊎◌}
use Rattle.std.specs.Prelude.{All, AllPairs, Contains, Option, Some, None, ◌&&◌, if◌then◌else◌}
use Rattle.std.proofs.lemmas.List.{get_or_append_left, get_or-append-add, length-append}
use Rattle.std.proofs.lemmas.List.Elements.{All-nil, All-cons, All-head, All-tail, All-append, All-weaker, All-contains}
use Rattle.std.proofs.lemmas.Bool.{and_from, le-leb, eq-eqb, not_from_false}
use Rattle.vk_model.specs.Memory.Suballocation.{Taken, Request, IsRequest, IsApart, conflict, taken_at, same_kind}
use Rattle.vk_model.specs.Memory.Room.{Linear, all_taken, fits, lowest, highest, end_after, first_start, last_start, is_none_left, stack_place, ring_place, upper_place}
use Rattle.vk_model.specs.Memory.LinearBlocks.{Rises, Falls, IsLinearBlock}
use Rattle.vk_model.proofs.Memory.AllPairs.{pairs_first, pairs_rest}
use Rattle.vk_model.proofs.Memory.Ranges.{none_left}
use Rattle.vk_model.proofs.Memory.Taken.{fitting}
use Rattle.vk_model.proofs.Lists.Members.{none_passes_any}
use Rattle.vma_linear.specs.Inner.Gaps.{free_from, free_to, lowest_in, highest_in, last_after, first_of}
use Rattle.vma_linear.proofs.Following.{Follows, follows_apart, follows_apart_turned, apart_follows, apart_follows_turned, follows_trans, from_follows, follows_from, to_follows, follows_to}
use Rattle.vma_linear.proofs.Finding.{InGap, lowest_is, highest_is}

abbrev pub Sized : List Taken → Type 0
Sized ts = All (λ t. 0 < t.size) ts

-- ---- the ranges next to a gap

-- all ranges of a list are before a gap, and one of them is next to it
abbrev pub IsBefore : Option Taken → List Taken → Type 0
IsBefore None ts = ts ≡ []
IsBefore (Some u) ts = Contains ts u × All (λ t. (t ≡ u) ⊎ Follows t u) ts

-- all are after it, and one of them is next to it
abbrev pub IsAfter : Option Taken → List Taken → Type 0
IsAfter None ts = ts ≡ []
IsAfter (Some u) ts = Contains ts u × All (λ t. (t ≡ u) ⊎ Follows u t) ts

abbrev pub end_of : Option Taken → ℕ
end_of None = 0
end_of (Some u) = u.start + u.size

abbrev pub start_of : ℕ → Option Taken → ℕ
start_of size None = size
start_of size (Some u) = u.start

before_apart : (o : Option Taken) (ts : List Taken) (x : Taken) → IsBefore o ts → Sized ts → 0 < x.size → free_from x.kind o ≤ x.start → All (λ t. IsApart x t) ts
before_apart None ts x is sized some le = subst (All (λ t. IsApart x t)) (sym is) (All-nil (λ t. IsApart x t))
before_apart (Some u) ts x is sized some le =
    let more = All-contains (λ t. 0 < t.size) ts u sized is.0 in
    let next = follows_from u x more le in
    All-weaker (λ t. (t ≡ u) ⊎ Follows t u) (λ t. IsApart x t) (λ t h. elim h [
      | inl same ↦ subst (λ v. IsApart x v) (sym same) (follows_apart_turned u x next)
      | inr f ↦ follows_apart_turned t x (follows_trans t u x more f next)
    ]) ts is.1

before_from : (o : Option Taken) (ts : List Taken) (x : Taken) → IsBefore o ts → Sized ts → 0 < x.size → end_of o ≤ x.start → All (λ t. IsApart x t) ts → free_from x.kind o ≤ x.start
before_from None ts x is sized some low apart = omega arith
before_from (Some u) ts x is sized some low apart =
    let more = All-contains (λ t. 0 < t.size) ts u sized is.0 in
    from_follows 0 u x more (apart_follows_turned u x more some low (All-contains (λ t. IsApart x t) ts u apart is.0))

after_apart : (size : ℕ) (o : Option Taken) (ts : List Taken) (x : Taken) → IsAfter o ts → Sized ts → 0 < x.size → x.start + x.size ≤ free_to size x.kind o → All (λ t. IsApart x t) ts
after_apart size None ts x is sized some le = subst (All (λ t. IsApart x t)) (sym is) (All-nil (λ t. IsApart x t))
after_apart size (Some u) ts x is sized some le =
    let more = All-contains (λ t. 0 < t.size) ts u sized is.0 in
    let next = follows_to size x u some le in
    All-weaker (λ t. (t ≡ u) ⊎ Follows u t) (λ t. IsApart x t) (λ t h. elim h [
      | inl same ↦ subst (λ v. IsApart x v) (sym same) (follows_apart x u next)
      | inr f ↦ follows_apart x t (follows_trans x u t more next f)
    ]) ts is.1

after_to : (size : ℕ) (o : Option Taken) (ts : List Taken) (x : Taken) → IsAfter o ts → Sized ts → 0 < x.size → x.start + x.size ≤ start_of size o → All (λ t. IsApart x t) ts → x.start + x.size ≤ free_to size x.kind o
after_to size None ts x is sized some high apart = high
after_to size (Some u) ts x is sized some high apart =
    let more = All-contains (λ t. 0 < t.size) ts u sized is.0 in
    to_follows size x u some (apart_follows x u some more high (All-contains (λ t. IsApart x t) ts u apart is.0))

free_from_end : (o : Option Taken) (ts : List Taken) (x : Taken) → IsBefore o ts → Sized ts → free_from x.kind o ≤ x.start → end_of o ≤ x.start
free_from_end None ts x is sized le = omega arith
free_from_end (Some u) ts x is sized le = (follows_from u x (All-contains (λ t. 0 < t.size) ts u sized is.0) le).after

free_to_start : (size : ℕ) (o : Option Taken) (x : Taken) → 0 < x.size → x.start + x.size ≤ free_to size x.kind o → x.start + x.size ≤ start_of size o
free_to_start size None x some le = le
free_to_start size (Some u) x some le = (follows_to size x u some le).after

free_to_le : (size : ℕ) (r : Request) (o : Option Taken) → free_to size r.kind o ≤ start_of size o
free_to_le size r None = omega arith
free_to_le size r (Some u) = go (same_kind r.kind u.kind)
  where
    go : (b : Bool) → (if b then u.start else u.start / 1024 * 1024) ≤ u.start
    go true = omega arith
    go false = omega arith

-- ---- what fits between them

module _ (befores afters taken : List Taken) (o p : Option Taken) (size : ℕ) (r : Request) (request : IsRequest r.size r.align)
    (is_before : IsBefore o befores) (is_after : IsAfter p afters) (sized_before : Sized befores) (sized_after : Sized afters)
    (parts : (x : Taken) → All (λ t. IsApart x t) taken → All (λ t. IsApart x t) befores × All (λ t. IsApart x t) afters)
    (whole : (x : Taken) → All (λ t. IsApart x t) befores → All (λ t. IsApart x t) afters → All (λ t. IsApart x t) taken) where
  abbrev test : ℕ → Bool
  test = fits taken r (end_of o) (start_of size p)

  abbrev Gap : ℕ → Type 0
  Gap y = InGap (free_from r.kind o) (free_to size r.kind p) r.size r.align y

  to_gap : (y : ℕ) → test y ≡ true → Gap y
  to_gap y e =
      let f = fitting taken r (end_of o) (start_of size p) y e in
      let both = parts (taken_at y r) f.apart in
      record {
        multiple = f.aligned;
        above = before_from o befores (taken_at y r) is_before sized_before request.some f.above both.0;
        under = after_to size p afters (taken_at y r) is_after sized_after request.some f.below both.1;
      }

  from_gap : (y : ℕ) → Gap y → test y ≡ true
  from_gap y g =
      let x = taken_at y r in
      let apart = whole x (before_apart o befores x is_before sized_before request.some g.above) (after_apart size p afters x is_after sized_after request.some g.under) in
      let low = free_from_end o befores x is_before sized_before g.above in
      let high = free_to_start size p x request.some g.under in
      and_from _ _ (and_from _ _ (and_from _ _ (eq-eqb (y % r.align) 0 g.multiple) (le-leb (end_of o) y low)) (le-leb (y + r.size) (start_of size p) high))
      (not_from_false _ (none_passes_any (λ t. conflict r.kind y r.size t.kind t.start t.size) taken (λ t in_it. All-contains (λ t. IsApart x t) taken t apart in_it)))

  pub lowest_fits : lowest taken r (end_of o) (start_of size p) ≡ lowest_in (free_from r.kind o) (free_to size r.kind p) r.size r.align
  lowest_fits = lowest_is test (free_from r.kind o) (free_to size r.kind p) r.size r.align (start_of size p) request (free_to_le size r p) to_gap from_gap

  pub highest_fits : highest taken r (end_of o) (start_of size p) ≡ highest_in (free_from r.kind o) (free_to size r.kind p) r.size r.align
  highest_fits = highest_is test (free_from r.kind o) (free_to size r.kind p) r.size r.align (start_of size p) request (free_to_le size r p) to_gap from_gap

-- ---- lists in order

-- the bounds of a gap by the ranges next to it
pub end_is : (o : Option Taken) (ts : List Taken) → end_after (end_of o) ts ≡ end_of (last_after o ts)
end_is o [] = refl
end_is o (t ∷ ts) = end_is (Some t) ts

pub last_is : (size : ℕ) (o : Option Taken) (ts : List Taken) → last_start (start_of size o) ts ≡ start_of size (last_after o ts)
last_is size o [] = refl
last_is size o (t ∷ ts) = last_is size (Some t) ts

first_is : (size : ℕ) (ts : List Taken) → is_none_left ts ≡ false → first_start 0 ts ≡ start_of size (first_of ts)
first_is size [] some = absurd cc
first_is size (t ∷ ts) some = refl

-- the last of some ranges, and how the others lie to it
record LastOf (R : Taken → Taken → Type 0) (o : Option Taken) (ts : List Taken) : Type 0 where
  last : Taken
  is : o ≡ Some last
  in_it : Contains ts last
  others : All (λ t. (t ≡ last) ⊎ R t last) ts

alone : (R : Taken → Taken → Type 0) (t : Taken) → LastOf R (Some t) (t ∷ [])
alone R t = record { last = t; is = refl; in_it = (0, omega arith, refl); others = All-cons (λ u. (u ≡ t) ⊎ R u t) t [] (inl refl) (All-nil (λ u. (u ≡ t) ⊎ R u t)) }

one_before : (R : Taken → Taken → Type 0) (o : Option Taken) (t : Taken) (ts : List Taken) (l : LastOf R o ts) → R t l.last → LastOf R o (t ∷ ts)
one_before R o t ts l r = record {
  last = l.last;
  is = l.is;
  in_it = (suc l.in_it.0, omega (arith, l.in_it.1), l.in_it.2);
  others = All-cons (λ u. (u ≡ l.last) ⊎ R u l.last) t ts (inr r) l.others;
}

pub rises_all : (low : ℕ) (ts : List Taken) (high : ℕ) → Rises low ts high → All (λ v. low ≤ v.start) ts
rises_all low [] high r = All-nil (λ v. low ≤ v.start)
rises_all low (t ∷ ts) high r =
    let above = r.0 in
    All-cons (λ v. low ≤ v.start) t ts above (All-weaker (λ v. t.start + t.size ≤ v.start) (λ v. low ≤ v.start) (λ v h. omega arith) ts (rises_all (t.start + t.size) ts high r.1))

falls_all : (high : ℕ) (ts : List Taken) (low : ℕ) → Falls high ts low → All (λ v. v.start + v.size ≤ high) ts
falls_all high [] low f = All-nil (λ v. v.start + v.size ≤ high)
falls_all high (t ∷ ts) low f =
    let under = f.0 in
    All-cons (λ v. v.start + v.size ≤ high) t ts under (All-weaker (λ v. v.start + v.size ≤ t.start) (λ v. v.start + v.size ≤ high) (λ v h. omega arith) ts (falls_all t.start ts low f.1))

rising_last : (low : ℕ) (t : Taken) (ts : List Taken) (high : ℕ) → Sized (t ∷ ts) → AllPairs IsApart (t ∷ ts) → Rises low (t ∷ ts) high → LastOf Follows (last_after (Some t) ts) (t ∷ ts)
rising_last low t [] high sized pairs rises = alone Follows t
rising_last low t (u ∷ ts) high sized pairs rises =
    let more = All-tail (λ v. 0 < v.size) t (u ∷ ts) sized in
    let rest = rising_last (t.start + t.size) u ts high more (pairs_rest IsApart t (u ∷ ts) pairs) rises.1 in
    let after = All-contains (λ v. t.start + t.size ≤ v.start) (u ∷ ts) rest.last (rises_all (t.start + t.size) (u ∷ ts) high rises.1) rest.in_it in
    let apart = All-contains (IsApart t) (u ∷ ts) rest.last (pairs_first IsApart t (u ∷ ts) pairs) rest.in_it in
    one_before Follows (last_after (Some u) ts) t (u ∷ ts) rest
    (apart_follows t rest.last (All-head (λ v. 0 < v.size) t (u ∷ ts) sized) (All-contains (λ v. 0 < v.size) (u ∷ ts) rest.last more rest.in_it) after apart)

abbrev Precedes : Taken → Taken → Type 0
Precedes t u = Follows u t

falling_last : (high : ℕ) (t : Taken) (ts : List Taken) (low : ℕ) → Sized (t ∷ ts) → AllPairs IsApart (t ∷ ts) → Falls high (t ∷ ts) low → LastOf Precedes (last_after (Some t) ts) (t ∷ ts)
falling_last high t [] low sized pairs falls = alone Precedes t
falling_last high t (u ∷ ts) low sized pairs falls =
    let more = All-tail (λ v. 0 < v.size) t (u ∷ ts) sized in
    let rest = falling_last t.start u ts low more (pairs_rest IsApart t (u ∷ ts) pairs) falls.1 in
    let after = All-contains (λ v. v.start + v.size ≤ t.start) (u ∷ ts) rest.last (falls_all t.start (u ∷ ts) low falls.1) rest.in_it in
    let apart = All-contains (IsApart t) (u ∷ ts) rest.last (pairs_first IsApart t (u ∷ ts) pairs) rest.in_it in
    one_before Precedes (last_after (Some u) ts) t (u ∷ ts) rest
    (apart_follows_turned rest.last t (All-contains (λ v. 0 < v.size) (u ∷ ts) rest.last more rest.in_it) (All-head (λ v. 0 < v.size) t (u ∷ ts) sized) after apart)

rising_before : (low : ℕ) (ts : List Taken) (high : ℕ) → Sized ts → AllPairs IsApart ts → Rises low ts high → IsBefore (last_after None ts) ts
rising_before low [] high sized pairs rises = refl
rising_before low (t ∷ ts) high sized pairs rises =
    let l = rising_last low t ts high sized pairs rises in
    subst (λ o. IsBefore o (t ∷ ts)) (sym l.is) (l.in_it, l.others)

falling_after : (high : ℕ) (ts : List Taken) (low : ℕ) → Sized ts → AllPairs IsApart ts → Falls high ts low → IsAfter (last_after None ts) ts
falling_after high [] low sized pairs falls = refl
falling_after high (t ∷ ts) low sized pairs falls =
    let l = falling_last high t ts low sized pairs falls in
    subst (λ o. IsAfter o (t ∷ ts)) (sym l.is) (l.in_it, l.others)

both_all : (P Q : Taken → Type 0) (ts : List Taken) → All P ts → All Q ts → All (λ t. P t × Q t) ts
both_all P Q ts p q = λ k d there. (p k d there, q k d there)

rising_after : (low : ℕ) (ts : List Taken) (high : ℕ) → Sized ts → AllPairs IsApart ts → Rises low ts high → IsAfter (first_of ts) ts
rising_after low [] high sized pairs rises = refl
rising_after low (t ∷ ts) high sized pairs rises =
    let some = All-head (λ v. 0 < v.size) t ts sized in
    let rest = both_all (λ v. t.start + t.size ≤ v.start) (λ v. (0 < v.size) × IsApart t v) ts (rises_all (t.start + t.size) ts high rises.1)
    (both_all (λ v. 0 < v.size) (IsApart t) ts (All-tail (λ v. 0 < v.size) t ts sized) (pairs_first IsApart t ts pairs)) in (
      (0, omega arith, refl),
      All-cons (λ v. (v ≡ t) ⊎ Follows t v) t ts (inl refl)
          (All-weaker (λ v. (t.start + t.size ≤ v.start) × ((0 < v.size) × IsApart t v)) (λ v. (v ≡ t) ⊎ Follows t v) (λ v h. inr (apart_follows t v some h.1.0 h.0 h.1.1)) ts rest),
    )

-- ---- parts of lists

pub all_left : (P : Taken → Type 0) (xs ys : List Taken) → All P (xs ++ ys) → All P xs
all_left P xs ys all = λ k d there. subst P (get_or_append_left xs ys d k there) (all k d (omega (arith, length-append xs ys)))

pub all_right : (P : Taken → Type 0) (xs ys : List Taken) → All P (xs ++ ys) → All P ys
all_right P xs ys all = λ k d there. subst P (get_or-append-add xs ys k d) (all (length xs + k) d (omega (arith, length-append xs ys)))

pairs_left : (xs ys : List Taken) → AllPairs IsApart (xs ++ ys) → AllPairs IsApart xs
pairs_left xs ys pairs = λ i j d less there.
    let first : i < length xs = omega arith in
    rw (get_or_append_left xs ys d i first, get_or_append_left xs ys d j there) at (pairs i j d less (omega (arith, length-append xs ys)))

pairs_right : (xs ys : List Taken) → AllPairs IsApart (xs ++ ys) → AllPairs IsApart ys
pairs_right xs ys pairs = λ i j d less there.
    rw (get_or-append-add xs ys i d, get_or-append-add xs ys j d) at (pairs (length xs + i) (length xs + j) d (omega arith) (omega (arith, length-append xs ys)))

pub rises_left : (low : ℕ) (xs ys : List Taken) (high : ℕ) → Rises low (xs ++ ys) high → Rises low xs (end_after low xs)
rises_left low [] ys high r = omega arith
rises_left low (x ∷ xs) ys high r = (r.0, rises_left (x.start + x.size) xs ys high r.1)

pub rises_right : (low : ℕ) (xs ys : List Taken) (high : ℕ) → Rises low (xs ++ ys) high → Rises (end_after low xs) ys high
rises_right low [] ys high r = r
rises_right low (x ∷ xs) ys high r = rises_right (x.start + x.size) xs ys high r.1

-- ---- the places of a block

module _ (b : Linear) (r : Request) (h : IsLinearBlock b) (request : IsRequest r.size r.align) where
  sized_lower : Sized b.lower
  sized_lower = all_left (λ t. 0 < t.size) b.lower b.wrapped (all_left (λ t. 0 < t.size) (b.lower ++ b.wrapped) b.upper h.sized)

  sized_wrapped : Sized b.wrapped
  sized_wrapped = all_right (λ t. 0 < t.size) b.lower b.wrapped (all_left (λ t. 0 < t.size) (b.lower ++ b.wrapped) b.upper h.sized)

  sized_upper : Sized b.upper
  sized_upper = all_right (λ t. 0 < t.size) (b.lower ++ b.wrapped) b.upper h.sized

  pairs_lower : AllPairs IsApart b.lower
  pairs_lower = pairs_left b.lower b.wrapped (pairs_left (b.lower ++ b.wrapped) b.upper h.sound.apart)

  pairs_wrapped : AllPairs IsApart b.wrapped
  pairs_wrapped = pairs_right b.lower b.wrapped (pairs_left (b.lower ++ b.wrapped) b.upper h.sound.apart)

  pairs_upper : AllPairs IsApart b.upper
  pairs_upper = pairs_right (b.lower ++ b.wrapped) b.upper h.sound.apart

  lower_before : IsBefore (last_after None b.lower) b.lower
  lower_before = rising_before (end_after 0 b.wrapped) b.lower (last_start b.size b.upper) sized_lower pairs_lower (rises_right 0 b.wrapped b.lower (last_start b.size b.upper) h.rises)

  lower_after : IsAfter (first_of b.lower) b.lower
  lower_after = rising_after (end_after 0 b.wrapped) b.lower (last_start b.size b.upper) sized_lower pairs_lower (rises_right 0 b.wrapped b.lower (last_start b.size b.upper) h.rises)

  wrapped_before : IsBefore (last_after None b.wrapped) b.wrapped
  wrapped_before = rising_before 0 b.wrapped (end_after 0 b.wrapped) sized_wrapped pairs_wrapped (rises_left 0 b.wrapped b.lower (last_start b.size b.upper) h.rises)

  upper_after : IsAfter (last_after None b.upper) b.upper
  upper_after = falling_after b.size b.upper 0 sized_upper pairs_upper h.falls

  -- what is apart from all, with none round
  middle_parts : (x : Taken) → All (λ t. IsApart x t) (all_taken b) → All (λ t. IsApart x t) b.lower × All (λ t. IsApart x t) b.upper
  middle_parts x all = (all_left (λ t. IsApart x t) b.lower b.wrapped (all_left (λ t. IsApart x t) (b.lower ++ b.wrapped) b.upper all), all_right (λ t. IsApart x t) (b.lower ++ b.wrapped) b.upper all)

  middle_whole : is_none_left b.wrapped ≡ true → (x : Taken) → All (λ t. IsApart x t) b.lower → All (λ t. IsApart x t) b.upper → All (λ t. IsApart x t) (all_taken b)
  middle_whole none x low high =
      let P = λ (t : Taken). IsApart x t in
      All-append P (b.lower ++ b.wrapped) b.upper (All-append P b.lower b.wrapped low (subst (All P) (sym (none_left b.wrapped none)) (All-nil P))) high

  ring_parts : (x : Taken) → All (λ t. IsApart x t) (all_taken b) → All (λ t. IsApart x t) b.wrapped × All (λ t. IsApart x t) b.lower
  ring_parts x all = (all_right (λ t. IsApart x t) b.lower b.wrapped (all_left (λ t. IsApart x t) (b.lower ++ b.wrapped) b.upper all), (middle_parts x all).0)

  ring_whole : is_none_left b.upper ≡ true → (x : Taken) → All (λ t. IsApart x t) b.wrapped → All (λ t. IsApart x t) b.lower → All (λ t. IsApart x t) (all_taken b)
  ring_whole none x round low =
      let P = λ (t : Taken). IsApart x t in
      All-append P (b.lower ++ b.wrapped) b.upper (All-append P b.lower b.wrapped low round) (subst (All P) (sym (none_left b.upper none)) (All-nil P))

  pub stack_is : stack_place b r ≡ (if is_none_left b.wrapped then lowest_in (free_from r.kind (last_after None b.lower)) (free_to b.size r.kind (last_after None b.upper)) r.size r.align else None)
  stack_is = go (is_none_left b.wrapped) refl
    where
      go : (c : Bool) → is_none_left b.wrapped ≡ c → (if c then lowest (all_taken b) r (end_after 0 b.lower) (last_start b.size b.upper) else None) ≡ (if c then lowest_in (free_from r.kind (last_after None b.lower)) (free_to b.size r.kind (last_after None b.upper)) r.size r.align else None)
      go true e =
          ap (λ low. lowest (all_taken b) r low (last_start b.size b.upper)) (end_is None b.lower)
          ∙ ap (λ high. lowest (all_taken b) r (end_of (last_after None b.lower)) high) (last_is b.size None b.upper)
          ∙ lowest_fits b.lower b.upper (all_taken b) (last_after None b.lower) (last_after None b.upper) b.size r request lower_before upper_after sized_lower sized_upper middle_parts (middle_whole e)
      go false e = refl

  pub upper_is : upper_place b r ≡ (if is_none_left b.wrapped then highest_in (free_from r.kind (last_after None b.lower)) (free_to b.size r.kind (last_after None b.upper)) r.size r.align else None)
  upper_is = go (is_none_left b.wrapped) refl
    where
      go : (c : Bool) → is_none_left b.wrapped ≡ c → (if c then highest (all_taken b) r (end_after 0 b.lower) (last_start b.size b.upper) else None) ≡ (if c then highest_in (free_from r.kind (last_after None b.lower)) (free_to b.size r.kind (last_after None b.upper)) r.size r.align else None)
      go true e =
          ap (λ low. highest (all_taken b) r low (last_start b.size b.upper)) (end_is None b.lower)
          ∙ ap (λ high. highest (all_taken b) r (end_of (last_after None b.lower)) high) (last_is b.size None b.upper)
          ∙ highest_fits b.lower b.upper (all_taken b) (last_after None b.lower) (last_after None b.upper) b.size r request lower_before upper_after sized_lower sized_upper middle_parts (middle_whole e)
      go false e = refl

  pub ring_is : is_none_left b.upper ≡ true → is_none_left b.lower ≡ false
      → lowest (all_taken b) r (end_after 0 b.wrapped) (first_start 0 b.lower) ≡ lowest_in (free_from r.kind (last_after None b.wrapped)) (free_to b.size r.kind (first_of b.lower)) r.size r.align
  ring_is none some =
      ap (λ low. lowest (all_taken b) r low (first_start 0 b.lower)) (end_is None b.wrapped)
      ∙ ap (λ high. lowest (all_taken b) r (end_of (last_after None b.wrapped)) high) (first_is b.size b.lower some)
      ∙ lowest_fits b.wrapped b.lower (all_taken b) (last_after None b.wrapped) (first_of b.lower) b.size r request wrapped_before lower_after sized_wrapped sized_lower ring_parts (ring_whole none)

-- ---- the places that are found

pub stack_found : (b v : Linear) (r : Request) (from to : ℕ) (o : Option ℕ) → IsLinearBlock b → IsRequest r.size r.align → b ≡ v → is_none_left b.wrapped ≡ true
    → from ≡ free_from r.kind (last_after None v.lower) → to ≡ free_to v.size r.kind (last_after None v.upper) → o ≡ lowest_in from to r.size r.align → o ≡ stack_place v r
stack_found b v r from to o h request same none is_from is_to found =
    let at_b : lowest_in (free_from r.kind (last_after None b.lower)) (free_to b.size r.kind (last_after None b.upper)) r.size r.align ≡ stack_place b r =
    sym (stack_is b r h request ∙ ap (λ k. if k then lowest_in (free_from r.kind (last_after None b.lower)) (free_to b.size r.kind (last_after None b.upper)) r.size r.align else None) none) in
    found ∙ ap (λ f. lowest_in f to r.size r.align) is_from ∙ ap (λ t. lowest_in (free_from r.kind (last_after None v.lower)) t r.size r.align) is_to
    ∙ subst (λ (w : Linear). lowest_in (free_from r.kind (last_after None w.lower)) (free_to w.size r.kind (last_after None w.upper)) r.size r.align ≡ stack_place w r) same at_b

pub upper_found : (b v : Linear) (r : Request) (from to : ℕ) (o : Option ℕ) → IsLinearBlock b → IsRequest r.size r.align → b ≡ v → is_none_left b.wrapped ≡ true
    → from ≡ free_from r.kind (last_after None v.lower) → to ≡ free_to v.size r.kind (last_after None v.upper) → o ≡ highest_in from to r.size r.align → o ≡ upper_place v r
upper_found b v r from to o h request same none is_from is_to found =
    let at_b : highest_in (free_from r.kind (last_after None b.lower)) (free_to b.size r.kind (last_after None b.upper)) r.size r.align ≡ upper_place b r =
    sym (upper_is b r h request ∙ ap (λ k. if k then highest_in (free_from r.kind (last_after None b.lower)) (free_to b.size r.kind (last_after None b.upper)) r.size r.align else None) none) in
    found ∙ ap (λ f. highest_in f to r.size r.align) is_from ∙ ap (λ t. highest_in (free_from r.kind (last_after None v.lower)) t r.size r.align) is_to
    ∙ subst (λ (w : Linear). highest_in (free_from r.kind (last_after None w.lower)) (free_to w.size r.kind (last_after None w.upper)) r.size r.align ≡ upper_place w r) same at_b

pub ring_found : (b v : Linear) (r : Request) (from to : ℕ) (o : Option ℕ) → IsLinearBlock b → IsRequest r.size r.align → b ≡ v
    → b.ring ≡ true → is_none_left b.upper ≡ true → is_none_left b.lower ≡ false
    → from ≡ free_from r.kind (last_after None b.wrapped) → to ≡ free_to b.size r.kind (first_of b.lower) → o ≡ lowest_in from to r.size r.align → o ≡ ring_place v r
ring_found b v r from to o h request same ring none some is_from is_to found =
    let may : (b.ring && is_none_left b.upper && not (is_none_left b.lower)) ≡ true = and_from _ _ (and_from _ _ ring none) (not_from_false _ some) in
    found ∙ ap (λ f. lowest_in f to r.size r.align) is_from ∙ ap (λ t. lowest_in (free_from r.kind (last_after None b.wrapped)) t r.size r.align) is_to
    ∙ sym (ring_is b r h request none some)
    ∙ sym (ap (λ k. if k then lowest (all_taken b) r (end_after 0 b.wrapped) (first_start 0 b.lower) else None) may)
    ∙ ap (λ w. ring_place w r) same
