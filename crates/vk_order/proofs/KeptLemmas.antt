-- Kept clocks, and the joins that they are made of: lists of counts by the index of a line.
use Rattle.std.proofs.Common.{◌≡◌, ℕ, zero, suc, ◌+◌, ◌≤◌, List, [], ◌∷◌, length, get_or, Bool, true, false, ◌&&◌, ◌||◌, Option, Some, None, refl, ap, sym, ◌∙◌, arith}
use Rattle.std.specs.Prelude.{◌==◌, Contains, max, slice_get, slice_index_or, if◌then◌else◌}
use Rattle.std.specs.Option.{option_map_or}
use Rattle.std.proofs.lemmas.Bool.{eq-eqb, ne_eqb}
use Rattle.std.proofs.lemmas.List.Quantifiers.{position-Some}
use Rattle.std.proofs.lemmas.Option.{slice_get_within, slice_get-get_or}
use Rattle.vk_model.specs.Basics.{holds}
use Rattle.vk_model.specs.Sync.Node.{Node, Hosts, Waits, Signals, Runs, Depends, Barrier, SetOf, AwaitOf}
use Rattle.vk_model.proofs.Lists.Truths.{no}
use Rattle.vk_order.specs.declared.lines.Line.{Line}
use Rattle.vk_order.specs.Lines.{line_of, class_of, is_of_sets, same_line, on_line, place}
use Rattle.vk_order.specs.Inner.Clocks.{Clock, IsClock, IsJoin, joined, itself}
use Rattle.vk_order.specs.Inner.Kept.{clock_at, IsKeptJoin, IsOwn}
use Rattle.vk_order.specs.Inner.Places.{index_in}
use Rattle.vk_order.proofs.ClockLemmas.{line_same, is_on, of_on, joins_meet, join_same}

-- ---- equal clocks

pub join_as : (ns : List Node) (test : Node → Bool) (f g : Clock) → ((l : Line) → f l ≡ g l) → IsJoin ns test f → IsJoin ns test g
join_as ns test f g same j = record {
  counts = λ l m c on. ((λ h. let lt = (j.counts l m c on).0 h in let e = same l in omega arith), (λ lt. (j.counts l m c on).1 (let e = same l in omega arith)));
  bounded = λ l. let le = j.bounded l in let e = same l in omega arith;
}

pub clock_as : (ns : List Node) (n : Node) (f g : Clock) → ((l : Line) → f l ≡ g l) → IsClock ns n f → IsClock ns n g
clock_as ns n f g same j = record {
  counts = λ l m c on. ((λ h. let lt = (j.counts l m c on).0 h in let e = same l in omega arith), (λ lt. (j.counts l m c on).1 (let e = same l in omega arith)));
  bounded = λ l. let le = j.bounded l in let e = same l in omega arith;
}

-- ---- where a line is

pub at_max : (ls : List Line) (both first second : List ℕ) → ((i : ℕ) → slice_index_or both i 0 ≡ max (slice_index_or first i 0) (slice_index_or second i 0)) → (l : Line) → clock_at ls both l ≡ joined (clock_at ls first) (clock_at ls second) l
at_max ls both first second counts l = go (index_in ls l)
  where
    go : (o : Option ℕ) → option_map_or (λ i. slice_index_or both i 0) o 0 ≡ max (option_map_or (λ i. slice_index_or first i 0) o 0) (option_map_or (λ i. slice_index_or second i 0) o 0)
    go None = omega arith
    go (Some i) = counts i

-- a line that is found is the one that is there
pub found_line : (ls : List Line) (l : Line) (i : ℕ) → index_in ls l ≡ Some i → slice_get ls i ≡ Some l
found_line ls l i e =
    let r = position-Some (λ m. same_line m l) ls i l e in
    slice_get-get_or ls i l r.0 ∙ ap Some (line_same (get_or ls i l) l r.1)

abbrev pub no_counts : List ℕ
no_counts = []

pub nil : (i : ℕ) → slice_index_or no_counts i 0 ≡ 0
nil zero = refl
nil (suc i) = refl

pub none_of : (ls : List Line) (l : Line) → clock_at ls [] l ≡ 0
none_of ls l = go (index_in ls l)
  where
    go : (o : Option ℕ) → option_map_or (λ i. slice_index_or no_counts i 0) o 0 ≡ 0
    go None = refl
    go (Some i) = nil i

-- the join over no node
pub join_none : (ns : List Node) (ls : List Line) → IsKeptJoin ns ls (λ k. false) []
join_none ns ls = record {
  join = record {
    counts = λ l m c on. ((λ (k, there, is, way). no is), (λ lt. absurd (let e = none_of ls l in omega arith)));
    bounded = λ l. let e = none_of ls l in omega arith;
  };
  short = omega arith;
}

pub joins_kept : (ns : List Node) (ls : List Line) (f g : Node → Bool) (first second both : List ℕ) → ((i : ℕ) → slice_index_or both i 0 ≡ max (slice_index_or first i 0) (slice_index_or second i 0))
    → length both ≡ max (length first) (length second) → IsKeptJoin ns ls f first → IsKeptJoin ns ls g second → IsKeptJoin ns ls (λ k. f k || g k) both
joins_kept ns ls f g first second both counts len i j = record {
  join = join_as ns (λ k. f k || g k) (joined (clock_at ls first) (clock_at ls second)) (clock_at ls both) (λ l. sym (at_max ls both first second counts l)) (joins_meet ns f g (clock_at ls first) (clock_at ls second) i.join j.join);
  short = let a = i.short in let b = j.short in omega arith;
}

pub same_kept : (ns : List Node) (ls : List Line) (f g : Node → Bool) (clock : List ℕ) → ((k : Node) → Contains ns k → f k ≡ g k) → IsKeptJoin ns ls f clock → IsKeptJoin ns ls g clock
same_kept ns ls f g clock same j = record { join = join_same ns f g (clock_at ls clock) same j.join; short = j.short }

-- ---- a node by itself

pub own_line : (ns : List Node) (ls : List Line) (n : Node) (clock own : List ℕ) (at : ℕ) (line : Line) → index_in ls line ≡ Some at → line_of n ≡ Some line
    → ((i : ℕ) → slice_index_or own i 0 ≡ (if i == at then place ns line n.number + 1 else slice_index_or clock i 0)) → length own ≡ max (length clock) (at + 1) → length clock ≤ length ls → IsOwn ns ls n clock own
own_line ns ls n clock own at line is on counts len short = record { counts = each; short = let lt = slice_get_within ls at line (found_line ls line at is) in omega arith }
  where
    each : (l : Line) → clock_at ls own l ≡ itself ns n (clock_at ls clock) l
    each l = go (index_in ls l) refl (on_line l n) refl
      where
        same : (t : Bool) → on_line l n ≡ t → t ≡ true → line ≡ l
        same t e f = let r = of_on l n (e ∙ f) in cc

        differ : (i : ℕ) → index_in ls l ≡ Some i → on_line l n ≡ false → (i == at) ≡ false
        differ i e off = ne_eqb i at (λ h. no (sym off ∙ is_on l n (on ∙ ap Some (other i e h))))
          where
            other : (i : ℕ) → index_in ls l ≡ Some i → i ≡ at → line ≡ l
            other i e h = let a = found_line ls l i e in let b = found_line ls line at is in let c : slice_get ls i ≡ slice_get ls at = ap (slice_get ls) h in cc

        go : (o : Option ℕ) → index_in ls l ≡ o → (t : Bool) → on_line l n ≡ t → option_map_or (λ i. slice_index_or own i 0) o 0 ≡ (if t then place ns l n.number + 1 else option_map_or (λ i. slice_index_or clock i 0) o 0)
        go None e true f = absurd (let r = same true f refl in let b : index_in ls l ≡ Some at = ap (index_in ls) (sym r) ∙ is in cc)
        go None e false f = refl
        go (Some i) e true f =
            let r = same true f refl in
            let b : index_in ls l ≡ Some at = ap (index_in ls) (sym r) ∙ is in
            let here : i ≡ at = cc in
            counts i ∙ rw (eq-eqb i at here) (ap (λ (m : Line). place ns m n.number + 1) r)
        go (Some i) e false f = counts i ∙ rw (differ i e f) refl

-- one that is on no line
pub own_none : (ns : List Node) (ls : List Line) (n : Node) (clock : List ℕ) → line_of n ≡ None → length clock ≤ length ls → IsOwn ns ls n clock clock
own_none ns ls n clock off short = record { counts = λ l. go l (line_of n) off; short = short }
  where
    go : (l : Line) (o : Option Line) → o ≡ None → clock_at ls clock l ≡ (if holds o (same_line l) then place ns l n.number + 1 else clock_at ls clock l)
    go l None e = refl
    go l (Some m) e = absurd cc

pub place_within : (ns : List Node) (l : Line) (k : ℕ) → place ns l k ≤ length ns
place_within [] l k = omega arith
place_within (n ∷ ns) l k = let le = place_within ns l k in elim (Rattle.std.specs.Prelude.nat_lt n.number k && on_line l n) as (λ t. (if t then place ns l k + 1 else place ns l k) ≤ length (n ∷ ns)) [ true ↦ omega arith | false ↦ omega arith ]

set_line : (q : ℕ) (a : Rattle.vk_model.specs.Sync.Node.Act) → is_of_sets (Rattle.vk_order.specs.Lines.class_on q a) ≡ true → Rattle.vk_order.specs.Lines.line_on q a ≡ None
set_line q (Hosts x) e = no e
set_line q (Waits s) e = no e
set_line q (Signals s) e = no e
set_line q (Runs c) e = no e
set_line q (Depends Barrier x) e = no e
set_line q (Depends (SetOf v k) x) e = refl
set_line q (Depends (AwaitOf v k) x) e = no e

true_line : (q : ℕ) (a : Rattle.vk_model.specs.Sync.Node.Act) → is_of_sets (Rattle.vk_order.specs.Lines.class_on q a) ≡ false → Rattle.vk_order.specs.Lines.line_on q a ≡ Some (Rattle.vk_order.specs.Lines.class_on q a)
true_line q (Hosts x) e = refl
true_line q (Waits s) e = refl
true_line q (Signals s) e = refl
true_line q (Runs c) e = refl
true_line q (Depends Barrier x) e = refl
true_line q (Depends (SetOf v k) x) e = no (sym e)
true_line q (Depends (AwaitOf v k) x) e = refl

pub no_line_of : (n : Node) (line : Line) → class_of n ≡ line → is_of_sets line ≡ true → line_of n ≡ None
no_line_of n line is e = set_line n.point.queue n.act (ap is_of_sets is ∙ e)

pub its_line : (n : Node) (line : Line) → class_of n ≡ line → is_of_sets line ≡ false → line_of n ≡ Some line
its_line n line is e = true_line n.point.queue n.act (ap is_of_sets is ∙ e) ∙ ap Some is

class_is : (q : ℕ) (a : Rattle.vk_model.specs.Sync.Node.Act) (l : Line) → Rattle.vk_order.specs.Lines.line_on q a ≡ Some l → Rattle.vk_order.specs.Lines.class_on q a ≡ l
class_is q (Hosts x) l e = cc
class_is q (Waits s) l e = cc
class_is q (Signals s) l e = cc
class_is q (Runs c) l e = cc
class_is q (Depends Barrier x) l e = cc
class_is q (Depends (SetOf v k) x) l e = absurd cc
class_is q (Depends (AwaitOf v k) x) l e = cc

-- the line of a node
pub line_class : (n : Node) (l : Line) → line_of n ≡ Some l → class_of n ≡ l
line_class n l e = class_is n.point.queue n.act l e
