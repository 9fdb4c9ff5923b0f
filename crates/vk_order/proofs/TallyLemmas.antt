-- Tallies of lines: their joins, one line more, one node more.
use Rattle.std.proofs.Common.{◌≡◌, ◌≢◌, ◌⊎◌, inl, inr, ⊎_elim, ℕ, ◌+◌, ◌-◌, ◌<◌, ◌≤◌, ◌^◌, List, [], ◌∷◌, ◌++◌, length, length-append, take, get_or, Bool, true, false, ◌&&◌, ◌||◌, IsTrue, Option, Some, None, refl, ap, sym, ◌∙◌, subst, arith, zero, suc}
use Rattle.std.specs.Prelude.{nat_lt, Contains, min, slice_get, slice_set, is_some, if◌then◌else◌}
use Rattle.std.specs.Option.{option_map}
use Rattle.std.specs.List.{list_any}
use Rattle.std.proofs.lemmas.Bool.{and_parts, and_from}
use Rattle.std.proofs.lemmas.List.{take_all, map-append}
use Rattle.std.proofs.lemmas.Option.{slice_get-get_or, slice_get-map}
use Rattle.std.proofs.Math.Seq.{map-set_same}
use Rattle.vk_model.specs.Basics.{holds}
use Rattle.vk_model.specs.Sync.Node.{Node}
use Rattle.vk_model.proofs.Lists.Members.{contains-cons, place_has, member_passes, some_member}
use Rattle.vk_model.proofs.Lists.Truths.{no, bool_same}
use Rattle.vk_order.specs.declared.acts.Row.{Row}
use Rattle.vk_order.specs.declared.lines.Line.{Line}
use Rattle.vk_order.specs.declared.fronts.Front.{Front}
use Rattle.vk_order.specs.declared.tallies.LineTally.{LineTally}
use Rattle.vk_order.specs.declared.names.Names.{Names}
use Rattle.vk_order.specs.NodeViews.{act_of, node_of}
use Rattle.vk_order.specs.Lines.{line_of, class_of, class_on, is_of_sets, same_line, on_line, place}
use Rattle.vk_order.specs.Inner.Leads.{line_leads}
use Rattle.vk_order.specs.Inner.Links.{by_name}
use Rattle.vk_order.specs.Inner.Clocks.{IsWhole}
use Rattle.vk_order.specs.Inner.Kept.{clock_at}
use Rattle.vk_order.specs.Inner.Places.{index_in}
use Rattle.vk_order.specs.Inner.Fronts.{clock_in, row_in, IsFront, IsNamed}
use Rattle.vk_order.specs.Inner.Names.{IsNames}
use Rattle.vk_order.specs.Inner.Tallies.{lines_of, IsLineTally, IsTallied, IsComing}
use Rattle.vk_order.proofs.ClockLemmas.{line_itself, line_same, is_on, of_on, lines_whole, place-own}
use Rattle.vk_order.proofs.KeptLemmas.{join_as, found_line, line_class, its_line, no_line_of, place_within}
use Rattle.vk_order.proofs.ListLemmas.{clock_push, index_same, now_listed, still_listed}
use Rattle.vk_order.proofs.RowJoins.{rows_as}
use Rattle.vk_order.proofs.FrontLemmas.{front_same, front_stays}
use Rattle.vk_order.proofs.OwnLemmas.{lines_length, tally_at, none_there, no_place, count_there, index_low, class_coming}
use Rattle.vk_order.proofs.PlaceLemmas.{place-top}
use Rattle.vk_model.proofs.Lists.Items.{push_cases, some_same}
use Rattle.std.proofs.lemmas.List.Folds.{list_any_more}
use Rattle.std.proofs.Math.Bool.{or-false, and-false}

-- ---- the joins of the lines that pass a test

-- the nodes of the first lines, of those that pass
abbrev pub of_first : (Line → Bool) → List LineTally → ℕ → Node → Bool
of_first passes ts i k = list_any (λ t. passes t.line && same_line t.line (class_of k)) (take i ts)

-- what comes after the nodes that lead to a row
abbrev pub Found : List LineTally → Names → Row → Front → Type 0
Found ts names row x = (ns : List Node) (j : ℕ) → IsTallied ns ts → IsNames ns (lines_of ts) names → IsFront ns (lines_of ts) (λ k. line_leads row.point.queue (act_of row.act) (class_of k) || by_name ns k (node_of j row)) x

pub none_past : (ts : List LineTally) (passes : Line → Bool) (i : ℕ) (d : LineTally) (k : Node) → i < length ts → passes (get_or ts i d).line ≡ false → of_first passes ts i k ≡ false → of_first passes ts (i + 1) k ≡ false
none_past ts passes i d k lt is none =
    list_any_more (λ t. passes t.line && same_line t.line (class_of k)) ts i d lt ∙ ap (λ (b : Bool). of_first passes ts i k || (b && same_line (get_or ts i d).line (class_of k))) is ∙ or-false (of_first passes ts i k) ∙ none

module _ (ns : List Node) (ts : List LineTally) (passes : Line → Bool) where
  pub front_on : (i : ℕ) (d : LineTally) (x : Front) → i < length ts → passes (get_or ts i d).line ≡ true
      → IsFront ns (lines_of ts) (λ k. of_first passes ts i k || same_line (get_or ts i d).line (class_of k)) x → IsFront ns (lines_of ts) (of_first passes ts (i + 1)) x
  front_on i d x lt is front =
      let t : LineTally = get_or ts i d in
      front_same ns (lines_of ts) (λ k. of_first passes ts i k || same_line t.line (class_of k)) (of_first passes ts (i + 1)) x
      (λ k c. sym (list_any_more (λ t. passes t.line && same_line t.line (class_of k)) ts i d lt ∙ ap (λ (b : Bool). of_first passes ts i k || (b && same_line t.line (class_of k))) is)) front

  pub front_past : (i : ℕ) (d : LineTally) (x : Front) → i < length ts → passes (get_or ts i d).line ≡ false → IsFront ns (lines_of ts) (of_first passes ts i) x → IsFront ns (lines_of ts) (of_first passes ts (i + 1)) x
  front_past i d x lt is front =
      front_same ns (lines_of ts) (of_first passes ts i) (of_first passes ts (i + 1)) x
      (λ k c. sym (list_any_more (λ t. passes t.line && same_line t.line (class_of k)) ts i d lt ∙ ap (λ (b : Bool). of_first passes ts i k || (b && same_line (get_or ts i d).line (class_of k))) is ∙ or-false (of_first passes ts i k))) front

  pub front_all : (i : ℕ) (x : Front) → IsTallied ns ts → length ts ≤ i → IsFront ns (lines_of ts) (of_first passes ts i) x → IsFront ns (lines_of ts) (λ k. passes (class_of k)) x
  front_all i x tallied le front = front_same ns (lines_of ts) (of_first passes ts i) (λ k. passes (class_of k)) x same front
    where
      there : (k : Node) → Contains ns k → (t : LineTally) × Contains ts t × (t.line ≡ class_of k)
      there k c = go (index_in (lines_of ts) (class_of k)) refl (tallied.listed k c)
        where
          go : (o : Option ℕ) → index_in (lines_of ts) (class_of k) ≡ o → IsTrue (is_some o) → (t : LineTally) × Contains ts t × (t.line ≡ class_of k)
          go None e is = no is
          go (Some j) e is = let r = tally_at ts (class_of k) j e in (r.0, place_has ts j r.0 r.1, r.2)

      same : (k : Node) → Contains ns k → of_first passes ts i k ≡ passes (class_of k)
      same k c =
          ap (list_any (λ t. passes t.line && same_line t.line (class_of k))) (take_all i ts le)
          ∙ bool_same _ _
          (λ h. let r = some_member _ ts h in let both = and_parts (passes r.0.line) (same_line r.0.line (class_of k)) r.2 in ap passes (sym (line_same r.0.line (class_of k) both.1)) ∙ both.0)
          (λ h. let r = there k c in member_passes _ ts r.0 r.1 (and_from (passes r.0.line) (same_line r.0.line (class_of k)) (ap passes r.2 ∙ h) (ap (λ (l : Line). same_line l (class_of k)) r.2 ∙ line_itself (class_of k))))

-- ---- one line more

module _ (ns : List Node) (ls : List Line) (m : Line) where
  longer : (i : ℕ) → i ≤ length ls → i ≤ length (ls ++ m ∷ [])
  longer i le = let e = length-append ls (m ∷ []) in omega arith

  pub front_listed : (test : Node → Bool) (x : Front) → IsFront ns ls test x → IsFront ns (ls ++ m ∷ []) test x
  front_listed test x is = record {
    clock = record {
      join = join_as ns test (clock_at ls (clock_in x)) (clock_at (ls ++ m ∷ []) (clock_in x)) (clock_push ls m (clock_in x) is.clock.short) is.clock.join;
      short = longer (length (clock_in x)) is.clock.short;
    };
    rows = λ g. record {
      join = rows_as g ns test (clock_at ls (row_in g x)) (clock_at (ls ++ m ∷ []) (row_in g x)) (clock_push ls m (row_in g x) (is.rows g).short) (is.rows g).join;
      short = longer (length (row_in g x)) (is.rows g).short;
    };
  }

  named_listed : (test : Node → Bool) (o : Option Front) → IsNamed ns ls test o → IsNamed ns (ls ++ m ∷ []) test o
  named_listed test None none = none
  named_listed test (Some x) is = front_listed test x is

  pub names_listed : (names : Rattle.vk_order.specs.declared.names.Names.Names) → IsNames ns ls names → IsNames ns (ls ++ m ∷ []) names
  names_listed names is = record {
    submits = λ e. named_listed _ _ (is.submits e);
    sets = λ v k. named_listed _ _ (is.sets v k);
    signals = record { each = λ s u. named_listed _ _ (is.signals.each s u); some = is.signals.some };
    initials = is.initials;
  }

pub listing : (ns : List Node) (ts : List LineTally) (t : LineTally) → index_in (lines_of ts) t.line ≡ None → IsFront ns (lines_of ts) (λ k. false) t.front → t.count ≡ 0 → IsTallied ns ts → IsTallied ns (ts ++ t ∷ [])
listing ns ts t none empty zero_count tallied = record {
  each = λ i u e. rw names_are (⊎_elim (λ h. old i u h) (λ h. subst (λ (x : LineTally). IsLineTally ns (lines_of ts ++ t.line ∷ []) x) h.1 new) (push_cases ts t u i e));
  apart = λ i u e. rw names_are (⊎_elim (λ h. index_same (lines_of ts) t.line u.line i (tallied.apart i u h)) (λ h. last i u h) (push_cases ts t u i e));
  listed = λ k c. rw names_are (still_listed (lines_of ts) t.line (class_of k) (tallied.listed k c));
}
  where
    names_are : lines_of (ts ++ t ∷ []) ≡ lines_of ts ++ t.line ∷ []
    names_are = map-append (λ (x : LineTally). x.line) ts (t ∷ [])

    old : (i : ℕ) (u : LineTally) → slice_get ts i ≡ Some u → IsLineTally ns (lines_of ts ++ t.line ∷ []) u
    old i u h = let is = tallied.each i u h in record { front = front_listed ns (lines_of ts) t.line (λ k. same_line u.line (class_of k)) u.front is.front; count = is.count }

    new : IsLineTally ns (lines_of ts ++ t.line ∷ []) t
    new = record {
      front = front_listed ns (lines_of ts) t.line (λ k. same_line t.line (class_of k)) t.front
          (front_same ns (lines_of ts) (λ k. false) (λ k. same_line t.line (class_of k)) t.front (λ k c. sym (none_there ns ts tallied t.line none k c)) empty);
      count = zero_count ∙ sym (no_place ns ts tallied t.line none (length ns));
    }

    last : (i : ℕ) (u : LineTally) → (i ≡ length ts) × (t ≡ u) → index_in (lines_of ts ++ t.line ∷ []) u.line ≡ Some i
    last i u h = ap (λ (x : LineTally). index_in (lines_of ts ++ t.line ∷ []) x.line) (sym h.1) ∙ now_listed (lines_of ts) t.line none ∙ ap Some (lines_length ts ∙ sym h.0)

pub now_there : (ts : List LineTally) (t : LineTally) → index_in (lines_of ts) t.line ≡ None → index_in (lines_of (ts ++ t ∷ [])) t.line ≡ Some (length ts)
now_there ts t none = rw (map-append (λ (x : LineTally). x.line) ts (t ∷ [])) (now_listed (lines_of ts) t.line none ∙ ap Some (lines_length ts))

pub line_there : (ts : List LineTally) (line : Line) (at : ℕ) (t : LineTally) → index_in (lines_of ts) line ≡ Some at → slice_get ts at ≡ Some t → t.line ≡ line
line_there ts line at t found here = let r = tally_at ts line at found in ap (λ (x : LineTally). x.line) (some_same t r.0 (sym here ∙ r.1)) ∙ r.2

-- ---- one node more

set_cases : {A : Type 0} (xs : List A) (i : ℕ) (y z : A) (j : ℕ) → slice_get (slice_set xs i y) j ≡ Some z → ((j ≡ i) × (y ≡ z)) ⊎ ((j ≢ i) × (slice_get xs j ≡ Some z))
set_cases [] i y z j e = absurd cc
set_cases (x ∷ xs) zero y z zero e = inl (refl, cc)
set_cases (x ∷ xs) zero y z (suc j) e = inr ((λ h. omega arith), e)
set_cases (x ∷ xs) (suc i) y z zero e = inr ((λ h. omega arith), e)
set_cases (x ∷ xs) (suc i) y z (suc j) e = ⊎_elim (λ h. inl (let a = h.0 in omega arith, h.1)) (λ h. inr ((λ g. h.0 (omega arith)), h.1)) (set_cases xs i y z j e)

pub lines-set : (ts : List LineTally) (line : Line) (at : ℕ) (u : LineTally) → index_in (lines_of ts) line ≡ Some at → u.line ≡ line → lines_of (slice_set ts at u) ≡ lines_of ts
lines-set ts line at u found is =
    let low : at < length ts = index_low ts line at found in
    let that : Some (get_or ts at u).line ≡ Some line = sym (ap (option_map (λ t. t.line)) (slice_get-get_or ts at u low)) ∙ sym (slice_get-map (λ t. t.line) ts at) ∙ found_line (lines_of ts) line at found in
    map-set_same (λ t. t.line) ts at u u (is ∙ sym (some_same (get_or ts at u).line line that))

module _ (ns : List Node) (ts : List LineTally) (n : Node) (row : Row) (known own : Front) (coming : IsComing ns (lines_of ts) n row known) (tallied : IsTallied ns ts) where
  abbrev ls : List Line
  ls = lines_of ts

  abbrev line : Line
  line = class_on row.point.queue (act_of row.act)

  class : class_of n ≡ line
  class = class_coming ns ls n row known coming

  pub line_whole : (l : Line) → IsWhole (n ∷ ns) (λ k. same_line l (class_of k))
  line_whole l = lines_whole (n ∷ ns) (λ k. same_line l (class_of k)) (same_line l) (λ k m c on. ap (same_line l) (line_class k m on))

  not_on : (l : Line) → same_line l (class_of n) ≡ false → on_line l n ≡ false
  not_on l off = go (on_line l n) refl
    where
      go : (b : Bool) → on_line l n ≡ b → on_line l n ≡ false
      go false e = e
      go true e = no (sym off ∙ ap (same_line l) (line_class n l (of_on l n e)) ∙ line_itself l)

  top : (l : Line) → place ns l (length (n ∷ ns)) ≡ place ns l (length ns)
  top l = place-top ns coming.numbers.1 l (length (n ∷ ns)) (omega arith)

  other : (t : LineTally) → same_line t.line (class_of n) ≡ false → IsLineTally ns ls t → IsLineTally (n ∷ ns) ls t
  other t off is = record {
    front = front_stays ns ls (λ k. same_line t.line (class_of k)) n coming.numbers t.front off is.front;
    count = is.count ∙ sym (rw (not_on t.line off, and-false (nat_lt n.number (length (n ∷ ns)))) (top t.line));
  }

  module _ (at : ℕ) (found : index_in (lines_of ts) (class_on row.point.queue (act_of row.act)) ≡ Some at) (t u : LineTally) (here : slice_get ts at ≡ Some t) (line_is : u.line ≡ class_on row.point.queue (act_of row.act))
      (grows : (test : Node → Bool) → test n ≡ true → IsWhole (n ∷ ns) test → IsFront ns (lines_of ts) test t.front → IsFront (n ∷ ns) (lines_of ts) test u.front)
      (count_is : u.count ≡ (if is_of_sets (class_on row.point.queue (act_of row.act)) then t.count else min (t.count + 1) (2 ^ 32 - 1))) where
    passes : same_line u.line (class_of n) ≡ true
    passes = ap (λ (l : Line). same_line l (class_of n)) line_is ∙ ap (same_line line) class ∙ line_itself line

    old_line : t.line ≡ u.line
    old_line = let r = tally_at ts line at found in let same : r.0 ≡ t = some_same r.0 t (sym r.1 ∙ here) in ap (λ (x : LineTally). x.line) (sym same) ∙ r.2 ∙ sym line_is

    total : (b : Bool) → is_of_sets line ≡ b → (if b then t.count else min (t.count + 1) (2 ^ 32 - 1)) ≡ place (n ∷ ns) line (length (n ∷ ns))
    total true e =
        let off : on_line line n ≡ false = none (line_of n) (no_line_of n line class e) in
        count_there ns ts tallied line at t found here ∙ sym (top line) ∙ sym (rw (off, and-false (nat_lt n.number (length (n ∷ ns)))) refl)
      where
        none : (o : Option Line) → o ≡ None → holds o (same_line line) ≡ false
        none None e = refl
        none (Some m) e = absurd cc
    total false e =
        let on : on_line line n ≡ true = is_on line n (its_line n line class e) in
        let one : place (n ∷ ns) line (length (n ∷ ns)) ≡ place ns line (length (n ∷ ns)) + 1 = place-own n ns coming.numbers.0 line on in
        let low = place_within ns line (length ns) in
        let few = coming.few in
        let k = count_there ns ts tallied line at t found here in
        let e2 = top line in omega arith

    new : IsLineTally (n ∷ ns) ls u
    new = record {
      front = grows (λ k. same_line u.line (class_of k)) passes (line_whole u.line) (subst (λ (l : Line). IsFront ns ls (λ k. same_line l (class_of k)) t.front) old_line (tallied.each at t here).front);
      count = count_is ∙ total (is_of_sets line) refl ∙ ap (λ (l : Line). place (n ∷ ns) l (length (n ∷ ns))) (sym line_is);
    }

    lines_same : lines_of (slice_set ts at u) ≡ lines_of ts
    lines_same = lines-set ts line at u found line_is

    all_there : (i : ℕ) (x : LineTally) → slice_get (slice_set ts at u) i ≡ Some x → IsLineTally (n ∷ ns) ls x
    all_there i x e = go (set_cases ts at u x i e)
      where
        go : ((i ≡ at) × (u ≡ x)) ⊎ ((i ≢ at) × (slice_get ts i ≡ Some x)) → IsLineTally (n ∷ ns) ls x
        go (inl a) = subst (λ (y : LineTally). IsLineTally (n ∷ ns) ls y) a.1 new
        go (inr a) = other x (differ (same_line x.line (class_of n)) refl) (tallied.each i x a.1)
          where
            differ : (b : Bool) → same_line x.line (class_of n) ≡ b → same_line x.line (class_of n) ≡ false
            differ false f = f
            differ true f =
                let e1 : x.line ≡ line = line_same x.line (class_of n) f ∙ class in
                let e2 : index_in ls x.line ≡ Some i = tallied.apart i x a.1 in
                let e3 : index_in ls x.line ≡ Some at = ap (index_in ls) e1 ∙ found in
                absurd (a.0 cc)

    all_apart : (i : ℕ) (x : LineTally) → slice_get (slice_set ts at u) i ≡ Some x → index_in ls x.line ≡ Some i
    all_apart i x e = go (slice_get ts i) refl (sym (slice_get-map (λ t. t.line) ts i) ∙ ap (λ (l : List Line). slice_get l i) (sym lines_same) ∙ slice_get-map (λ t. t.line) (slice_set ts at u) i ∙ ap (option_map (λ t. t.line)) e)
      where
        go : (o : Option LineTally) → slice_get ts i ≡ o → option_map (λ t. t.line) o ≡ Some x.line → index_in ls x.line ≡ Some i
        go None f is = absurd cc
        go (Some old) f is = let same : old.line ≡ x.line = cc in sym (ap (index_in ls) same) ∙ tallied.apart i old f

    pub tallied_more : IsTallied (n ∷ ns) (slice_set ts at u)
    tallied_more = record {
      each = λ i x e. rw lines_same (all_there i x e);
      apart = λ i x e. rw lines_same (all_apart i x e);
      listed = λ k c. rw lines_same (⊎_elim
          (λ e. ap (λ (x : Node). is_some (index_in ls (class_of x))) (sym e) ∙ ap (λ (l : Line). is_some (index_in ls l)) class ∙ ap is_some found)
          (λ older. tallied.listed k older)
          (contains-cons n ns k c));
    }
