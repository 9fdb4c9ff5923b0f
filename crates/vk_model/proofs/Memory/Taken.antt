-- Ranges that are taken in a block, in any order.
use Rattle.std.proofs.Common.{◌≡◌, ℕ, ◌+◌, ◌-◌, ◌/◌, ◌%◌, ◌≤◌, List, [], ◌∷◌, Bool, true, false, ◌||◌, ◌&&◌, ◌==◌, not, refl, ap, ◌∙◌, arith}
use Rattle.std.specs.Prelude.{All, IsPermutation, nat_lt, nat_le}
use Rattle.std.specs.List.{list_any}
use Rattle.std.proofs.Math.Bool.{and_comm}
use Rattle.std.proofs.lemmas.List.Sorted.{IsPermutation-sym, All-permutation}
use Rattle.std.proofs.lemmas.List.Elements.{All-from_recursion, All-cons, All-tail}
use Rattle.std.proofs.lemmas.List.Kept.{AllPairs-cons}
use Rattle.std.proofs.lemmas.Bool.{and_parts, and_from, or_parts, not-true, leb-true, le-leb, eqb-true}
use Rattle.vk_model.specs.declared.resource.Kind.{Kind}
use Rattle.vk_model.specs.declared.resource.Kind.TheVariants as kind
use Rattle.vk_model.specs.Memory.Suballocation.{Taken, Request, IsSound, IsApart, conflict, ranges_meet, share_page, same_kind, taken_at}
use Rattle.vk_model.specs.Memory.Room.{fits}
use Rattle.vk_model.specs.Memory.PlaceLaws.{PuttingIsSound, TakingAwayIsSound}
use Rattle.vk_model.proofs.Memory.AllPairs.{pairs_permuted, pairs_rest}

-- ---- conflicts go both ways

pub same_kind_turned : (k l : Kind) → same_kind k l ≡ same_kind l k
same_kind_turned kind.Linear kind.Linear = refl
same_kind_turned kind.Linear kind.Optimal = refl
same_kind_turned kind.Optimal kind.Linear = refl
same_kind_turned kind.Optimal kind.Optimal = refl

four : (a b c d : Bool) → (a && b && c && d) ≡ (b && a && d && c)
four true true c d = and_comm c d
four true false c d = refl
four false true c d = refl
four false false c d = refl

pub conflict_turned : (k : Kind) (a n : ℕ) (l : Kind) (b m : ℕ) → conflict k a n l b m ≡ conflict l b m k a n
conflict_turned k a n l b m =
    ap (λ v. v || not (same_kind k l) && share_page a n b m) (four (nat_lt 0 n) (nat_lt 0 m) (nat_lt a (b + m)) (nat_lt b (a + n)))
    ∙ ap (λ v. ranges_meet b m a n || not v && share_page a n b m) (same_kind_turned k l)
    ∙ ap (λ v. ranges_meet b m a n || not (same_kind l k) && v) (four (nat_lt 0 n) (nat_lt 0 m) (nat_le (a / 1024) ((b + m - 1) / 1024)) (nat_le (b / 1024) ((a + n - 1) / 1024)))

pub apart_turned : (t u : Taken) → IsApart t u → IsApart u t
apart_turned t u apart = conflict_turned u.kind u.start u.size t.kind t.start t.size ∙ apart

-- ---- sound blocks

pub sound_permuted : (size : ℕ) (xs ys : List Taken) → IsPermutation xs ys → IsSound size xs → IsSound size ys
sound_permuted size xs ys same sound = record {
  inside = All-permutation (λ r. r.start + r.size ≤ size) xs ys same sound.inside;
  apart = pairs_permuted IsApart apart_turned xs ys same sound.apart;
}

pub none_all : {A : Type 0} (p : A → Bool) (xs : List A) → list_any p xs ≡ false → All (λ x. p x ≡ false) xs
none_all p [] none = All-from_recursion (λ x. p x ≡ false) [] tt
none_all p (x ∷ xs) none = All-cons (λ y. p y ≡ false) x xs (or_parts (p x) (list_any p xs) none).0 (none_all p xs (or_parts (p x) (list_any p xs) none).1)

pub record Fitting (taken : List Taken) (r : Request) (low high start : ℕ) : Type 0 where
  pub aligned : start % r.align ≡ 0
  pub above : low ≤ start
  pub below : start + r.size ≤ high
  pub apart : All (IsApart (taken_at start r)) taken

pub fitting : (taken : List Taken) (r : Request) (low high start : ℕ) → fits taken r low high start ≡ true → Fitting taken r low high start
fitting taken r low high start h =
    let three = and_parts (start % r.align == 0 && nat_le low start && nat_le (start + r.size) high) (not (list_any (λ t. conflict r.kind start r.size t.kind t.start t.size) taken)) h in
    let two = and_parts (start % r.align == 0 && nat_le low start) (nat_le (start + r.size) high) three.0 in
    let one = and_parts (start % r.align == 0) (nat_le low start) two.0 in
    record {
      aligned = eqb-true (start % r.align) 0 one.0;
      above = leb-true low start one.1;
      below = leb-true (start + r.size) high two.1;
      apart = none_all (λ t. conflict r.kind start r.size t.kind t.start t.size) taken (not-true (list_any (λ t. conflict r.kind start r.size t.kind t.start t.size) taken) three.1);
    }

pub widened : (taken : List Taken) (r : Request) (low high size start : ℕ) → high ≤ size → fits taken r low high start ≡ true → fits taken r 0 size start ≡ true
widened taken r low high size start inside h =
    let f = fitting taken r low high start h in
    let none = not (list_any (λ t. conflict r.kind start r.size t.kind t.start t.size) taken) in
    let below = f.below in
    let three = and_parts (start % r.align == 0 && nat_le low start && nat_le (start + r.size) high) none h in
    let two = and_parts (start % r.align == 0 && nat_le low start) (nat_le (start + r.size) high) three.0 in
    let one = and_parts (start % r.align == 0) (nat_le low start) two.0 in
    and_from _ _ (and_from _ _ (and_from _ _ one.0 (le-leb 0 start (omega arith))) (le-leb (start + r.size) size (omega arith))) three.1

pub putting_is_sound : PuttingIsSound
putting_is_sound size old new r start sound fit puts =
    let f = fitting old r 0 size start fit in
    let more : IsSound size (taken_at start r ∷ old) = record {
      inside = All-cons (λ t. t.start + t.size ≤ size) (taken_at start r) old f.below sound.inside;
      apart = AllPairs-cons IsApart (taken_at start r) old f.apart sound.apart;
    } in
    sound_permuted size (taken_at start r ∷ old) new (IsPermutation-sym new (taken_at start r ∷ old) puts.added) more

pub taking_away_is_sound : TakingAwayIsSound
taking_away_is_sound size old new start sound away =
    let all = sound_permuted size old (away.0 ∷ new) away.2 sound in
    record { inside = All-tail (λ t. t.start + t.size ≤ size) away.0 new all.inside; apart = pairs_rest IsApart away.0 new all.apart }
