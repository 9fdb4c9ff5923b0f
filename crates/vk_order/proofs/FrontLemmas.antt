-- Fronts, and what they are made of.
use Rattle.std.proofs.Common.{◌≡◌, ℕ, List, [], ◌∷◌, Bool, true, false, ◌||◌, Option, Some, None, refl, ap, sym, ◌∙◌, subst, arith}
use Rattle.std.specs.Prelude.{Contains, max, map}
use Rattle.vk_model.specs.Sync.Node.{Node}
use Rattle.vk_model.specs.Sync.Before.{IsNumbered}
use Rattle.vk_order.specs.declared.lines.Line.{Line}
use Rattle.vk_order.specs.declared.counts.Counts.{Counts}
use Rattle.vk_order.specs.declared.fronts.Front.{Front}
use Rattle.vk_order.specs.Inner.Clocks.{IsWhole, joined, extended}
use Rattle.vk_order.specs.Inner.Counts.{count_in, AreJoinedCounts}
use Rattle.vk_order.specs.Inner.Kept.{clock_at, IsKeptJoin}
use Rattle.vk_order.specs.Inner.Rows.{Knowledge, IsKeptRow, AreJoined}
use Rattle.vk_order.specs.Inner.Fronts.{clock_in, row_in, IsFront, IsNamed, IsOwnFront}
use Rattle.vk_order.proofs.CountLemmas.{joined_clocks, joined_rows}
use Rattle.vk_order.proofs.ClockLemmas.{join_stays, join_grows}
use Rattle.vk_order.proofs.KeptLemmas.{join_as, at_max, join_none, joins_kept, same_kept}
use Rattle.vk_order.proofs.RowJoins.{rows_same, rows_as, rows_meet, rows_stay, rows_grow, rows_none}
use Rattle.std.proofs.Math.Bool.{or-false}

-- ---- lists of counts, joined

-- each list of a front has
pub record AreJoinedFronts (first second both : Front) : Type 0 where
  pub clock : AreJoined (clock_in first) (clock_in second) (clock_in both)
  pub rows : (g : Knowledge) → AreJoined (row_in g first) (row_in g second) (row_in g both)

pub fronts_joined : (first second both : Front) → AreJoinedCounts first.counts.items second.counts.items both.counts.items → AreJoinedFronts first second both
fronts_joined first second both are = record {
  clock = joined_clocks first.counts.items second.counts.items both.counts.items are;
  rows = λ g. joined_rows g first.counts.items second.counts.items both.counts.items are;
}

-- ---- rows

row_joined : (g : Knowledge) (ns : List Node) (ls : List Line) (f h : Node → Bool) (first second both : List ℕ) → AreJoined first second both → IsKeptRow g ns ls f first → IsKeptRow g ns ls h second → IsKeptRow g ns ls (λ k. f k || h k) both
row_joined g ns ls f h first second both are i j = record {
  join = rows_as g ns (λ k. f k || h k) (joined (clock_at ls first) (clock_at ls second)) (clock_at ls both) (λ l. sym (at_max ls both first second are.counts l)) (rows_meet g ns f h (clock_at ls first) (clock_at ls second) i.join j.join);
  short = let a = i.short in let b = j.short in let e = are.long in omega arith;
}

row_same : (g : Knowledge) (ns : List Node) (ls : List Line) (f h : Node → Bool) (row : List ℕ) → ((k : Node) → Contains ns k → f k ≡ h k) → IsKeptRow g ns ls f row → IsKeptRow g ns ls h row
row_same g ns ls f h row same j = record { join = rows_same g ns f h (clock_at ls row) same j.join; short = j.short }

-- ---- fronts

pub front_same : (ns : List Node) (ls : List Line) (f h : Node → Bool) (x : Front) → ((k : Node) → Contains ns k → f k ≡ h k) → IsFront ns ls f x → IsFront ns ls h x
front_same ns ls f h x same is = record { clock = same_kept ns ls f h (clock_in x) same is.clock; rows = λ g. row_same g ns ls f h (row_in g x) same (is.rows g) }

pub front_items : (ns : List Node) (ls : List Line) (test : Node → Bool) (x y : Front) → y.counts.items ≡ x.counts.items → IsFront ns ls test x → IsFront ns ls test y
front_items ns ls test x y e is = record {
  clock = subst (λ (c : List Counts). IsKeptJoin ns ls test (map (λ d. d.clock) c)) (sym e) is.clock;
  rows = λ g. subst (λ (c : List Counts). IsKeptRow g ns ls test (map (count_in g) c)) (sym e) (is.rows g);
}

pub front_none : (ns : List Node) (ls : List Line) (x : Front) → x.counts.items ≡ [] → IsFront ns ls (λ k. false) x
front_none ns ls x e = record {
  clock = subst (λ (c : List Counts). IsKeptJoin ns ls (λ k. false) (map (λ d. d.clock) c)) (sym e) (join_none ns ls);
  rows = λ g. subst (λ (c : List Counts). IsKeptRow g ns ls (λ k. false) (map (count_in g) c)) (sym e) (rows_none g ns ls);
}

-- a front that comes after the nodes of two tests, or after those of the second alone where there are none of the first
pub front_taken : (ns : List Node) (ls : List Line) (f h : Node → Bool) (x : Front) (first : Bool) → (first ≡ true → (k : Node) → f k ≡ false) → (first ≡ true → IsFront ns ls h x) → (first ≡ false → IsFront ns ls (λ k. f k || h k) x) → IsFront ns ls (λ k. f k || h k) x
front_taken ns ls f h x true none alone both = front_same ns ls h (λ k. f k || h k) x (λ k there. sym (ap (λ (t : Bool). t || h k) (none refl k))) (alone refl)
front_taken ns ls f h x false none alone both = both refl

pub fronts_both : (ns : List Node) (ls : List Line) (f h : Node → Bool) (first second both : Front) → AreJoinedFronts first second both → IsFront ns ls f first → IsFront ns ls h second → IsFront ns ls (λ k. f k || h k) both
fronts_both ns ls f h first second both are i j = record {
  clock = joins_kept ns ls f h (clock_in first) (clock_in second) (clock_in both) are.clock.counts are.clock.long i.clock j.clock;
  rows = λ g. row_joined g ns ls f h (row_in g first) (row_in g second) (row_in g both) (are.rows g) (i.rows g) (j.rows g);
}

pub named_both : (ns : List Node) (ls : List Line) (f h : Node → Bool) (x : Front) → ((k : Node) → Contains ns k → h k ≡ false) → IsFront ns ls f x → IsFront ns ls (λ k. f k || h k) x
named_both ns ls f h x none is = front_same ns ls f (λ k. f k || h k) x (λ k c. sym (ap (λ (t : Bool). f k || t) (none k c) ∙ or-false (f k))) is

-- ---- one node more

module _ (ns : List Node) (ls : List Line) (test : Node → Bool) (n : Node) (numbers : IsNumbered (n ∷ ns)) where
  pub front_stays : (x : Front) → test n ≡ false → IsFront ns ls test x → IsFront (n ∷ ns) ls test x
  front_stays x fails is = record {
    clock = record { join = join_stays ns test n (clock_at ls (clock_in x)) numbers is.clock.join fails; short = is.clock.short };
    rows = λ g. record { join = rows_stay g ns test n (clock_at ls (row_in g x)) numbers (is.rows g).join fails; short = (is.rows g).short };
  }

  pub front_grows : (x own both : Front) → AreJoinedFronts x own both → test n ≡ true → IsWhole (n ∷ ns) test → IsFront ns ls test x → IsOwnFront ns ls n own → IsFront (n ∷ ns) ls test both
  front_grows x own both are passes whole is of = record {
    clock = record {
      join = join_as (n ∷ ns) test (extended ns test n (clock_at ls of.before) (clock_at ls (clock_in x))) (clock_at ls (clock_in both)) grown
          (join_grows ns test n (clock_at ls of.before) (clock_at ls (clock_in x)) numbers whole of.clock is.clock.join);
      short = let a = is.clock.short in let b = of.own.short in let e = are.clock.long in omega arith;
    };
    rows = λ g. record {
      join = rows_as g (n ∷ ns) test (joined (clock_at ls (row_in g x)) (clock_at ls (row_in g own))) (clock_at ls (row_in g both)) (λ l. sym (at_max ls (row_in g both) (row_in g x) (row_in g own) (are.rows g).counts l))
          (rows_grow g ns test n (clock_at ls (row_in g x)) numbers (is.rows g).join (clock_at ls (row_in g own)) (of.rows g) passes);
      short = let a = (is.rows g).short in let b = of.short g in let e = (are.rows g).long in omega arith;
    };
  }
    where
      grown : (l : Line) → extended ns test n (clock_at ls of.before) (clock_at ls (clock_in x)) l ≡ clock_at ls (clock_in both) l
      grown l =
          rw passes (ap (λ (i : ℕ). max (clock_at ls (clock_in x) l) i) (sym (of.own.counts l)))
          ∙ sym (at_max ls (clock_in both) (clock_in x) (clock_in own) are.clock.counts l)

  pub named_stays : (o : Option Front) → test n ≡ false → IsNamed ns ls test o → IsNamed (n ∷ ns) ls test o
  named_stays None fails none = λ k c. Rattle.std.proofs.Common.⊎_elim (λ e. ap test (sym e) ∙ fails) (λ there. none k there) (Rattle.vk_model.proofs.Lists.Members.contains-cons n ns k c)
  named_stays (Some x) fails is = front_stays x fails is

pub named_same : (ns : List Node) (ls : List Line) (f h : Node → Bool) (o : Option Front) → ((k : Node) → Contains ns k → f k ≡ h k) → IsNamed ns ls f o → IsNamed ns ls h o
named_same ns ls f h None same none = λ k c. sym (same k c) ∙ none k c
named_same ns ls f h (Some x) same is = front_same ns ls f h x same is
