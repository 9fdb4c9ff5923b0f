-- The last nodes that name a resource, as nodes come.
use Rattle.std.proofs.Common.{◌≡◌, inl, ⊎_elim, ◌<◌, ◌≤◌, ◌+◌, ℕ, ◌==◌, List, [], ◌∷◌, ◌++◌, Bool, true, false, not, ◌&&◌, ◌||◌, IsTrue, length, refl, ap, sym, ◌∙◌, subst, arith, Option, Some, slice_get, get_or, drop, map}
use Rattle.std.specs.Prelude.{Contains, nat_lt, if◌then◌else◌}
use Rattle.std.specs.List.{list_any, enumerate_from}
use Rattle.std.proofs.lemmas.Option.{slice_get-get_or, get_or_from_slice_get}
use Rattle.std.proofs.lemmas.Bool.{cases_lt, lt-ltb, eq-eqb, and_parts, and_from, or_parts, false_from_ne_true}
use Rattle.std.proofs.lemmas.List.Folds.{list_any-append}
use Rattle.std.proofs.lemmas.List.{drop_all, drop_more}
use Rattle.vk_model.specs.Basics.{among, option_list}
use Rattle.std.proofs.Math.Bool.{and-false}
use Rattle.vk_model.specs.declared.command.Cmd.{Cmd}
use Rattle.vk_model.specs.declared.command.Cmd.TheVariants as cmd
use Rattle.vk_model.specs.declared.command.Dependency.{Dependency}
use Rattle.vk_model.specs.declared.command.Element.{Element}
use Rattle.vk_model.specs.declared.command.Element.TheVariants as element
use Rattle.vk_model.specs.World.Ownership.{dependency_of, named_by, uses}
use Rattle.vk_model.specs.Sync.Complete.{named_by_act}
use Rattle.vk_model.specs.Trace.Point.{Point}
use Rattle.vk_model.specs.Sync.Node.{Node, Act, Runs, Role, Depends, Barrier, with_acts, acts, command_acts}
use Rattle.vk_model.specs.Sync.Before.{before, IsNumbered}
use Rattle.vk_model.proofs.Lists.Members.{none_in, contains-cons, contains-head, contains-tail, member_passes, some_member}
use Rattle.vk_model.proofs.Lists.Truths.{clash}
use Rattle.vk_model.proofs.Sync.Numbers.{number_below}
use Rattle.vk_order.specs.declared.lines.Line.{Line}
use Rattle.vk_order.specs.declared.new_node.NewNode.{NewNode}
use Rattle.vk_order.specs.declared.frontier.Frontier.{Frontier}
use Rattle.vk_order.specs.Frontiers.{IsNewNode, IsFrontier}
use Rattle.vk_order.specs.declared.lines.Line.TheVariants.{Commands as OfCommands, Elements as OfElements}
use Rattle.vk_order.specs.Lines.{line_of, line_on, class_on, has_transfer, has_host, place, on_line, same_bit}
use Rattle.vk_order.proofs.PlaceLemmas.{place-older, place-grows, first_on_line}
use Rattle.vk_history.specs.declared.last_uses.LastUse.{LastUse}
use Rattle.vk_history.specs.declared.last_uses.ElementCounts.{ElementCounts}
use Rattle.vk_history.specs.declared.last_uses.LastUses.{LastUses}
use Rattle.vk_history.specs.Uses.{AreLast, AreKeptNow, IsKeptNow, names_it, uses_in, elements_on, AreElementCounts}

-- one that is kept twice
pub twice_kept : (xs ys zs : List LastUse) (u : LastUse) → IsKeptNow xs ys u → IsKeptNow ys zs u → IsKeptNow xs zs u
twice_kept xs ys zs u a b = record {
  here = b.here;
  known = λ v c. ⊎_elim (λ same. inl same) (λ there. a.known v there) (b.known v c);
  kept = λ v c. ⊎_elim (λ same. inl same) (λ there. b.kept v there) (a.kept v c);
}

-- ---- a node comes

module _ (ns : List Node) (n : Node) (numbers : IsNumbered (n ∷ ns)) (r : ℕ) where
  below : (m : Node) → Contains ns m → m.number ≤ length ns
  below m c = let lt = number_below ns numbers.1 m c in omega (arith, lt)

  stays : (l : Line) (m : Node) → Contains ns m → place (n ∷ ns) l m.number ≡ place ns l m.number
  stays l m c = place-older n ns numbers.0 l m.number (below m c)

  -- one that names the resource
  pub named_step : (old new : List LastUse) (u : LastUse) → line_of n ≡ Some u.line → u.place ≡ place ns u.line (length ns) → IsTrue (names_it r n) → IsKeptNow old new u → AreLast old ns r → AreLast new (n ∷ ns) r
  named_step old new u on at named k are = record { sound = sound; whole = whole } where
    own : place (n ∷ ns) u.line n.number ≡ u.place
    own = place-older n ns numbers.0 u.line n.number (let e = numbers.0 in omega (arith, e)) ∙ ap (place ns u.line) numbers.0 ∙ sym at

    sound : (v : LastUse) → Contains new v → (m : Node) × Contains (n ∷ ns) m × IsTrue (names_it r m) × (line_of m ≡ Some v.line) × (place (n ∷ ns) v.line m.number ≡ v.place)
    sound v c = ⊎_elim
        (λ same. (n, contains-head n ns, named, on ∙ ap (λ (w : LastUse). Some w.line) (sym same), ap (λ l. place (n ∷ ns) l n.number) (ap (λ (w : LastUse). w.line) same) ∙ own ∙ ap (λ (w : LastUse). w.place) (sym same)))
        (λ there. let s = are.sound v there in (s.0, contains-tail n ns s.0 s.1, s.2, s.3, stays v.line s.0 s.1 ∙ s.4))
        (k.known v c)

    whole : (m : Node) → Contains (n ∷ ns) m → IsTrue (names_it r m) → (v : LastUse) × Contains new v × (line_of m ≡ Some v.line) × (place (n ∷ ns) v.line m.number ≤ v.place)
    whole m c h = ⊎_elim
        (λ same. (u, k.here, ap line_of (sym same) ∙ on, let e : place (n ∷ ns) u.line m.number ≡ u.place = ap (λ (x : Node). place (n ∷ ns) u.line x.number) (sym same) ∙ own in omega (arith, e)))
        (λ there. old_one m there (are.whole m there h))
        (contains-cons n ns m c)
      where
        old_one : (m : Node) → Contains ns m → ((v : LastUse) × Contains old v × (line_of m ≡ Some v.line) × (place ns v.line m.number ≤ v.place)) → (v : LastUse) × Contains new v × (line_of m ≡ Some v.line) × (place (n ∷ ns) v.line m.number ≤ v.place)
        old_one m there w = ⊎_elim
            (λ same. (u, k.here, w.2 ∙ ap Some same, let e = stays u.line m there in let top = place-grows ns u.line m.number (length ns) (below m there) in omega (arith, e, top, at)))
            (λ kept. (w.0, kept, w.2, let e = stays w.0.line m there in let le = w.3 in omega (arith, e, le)))
            (k.kept w.0 w.1)

  -- one that doesn't
  pub other_step : (kept : List LastUse) → names_it r n ≡ false → AreLast kept ns r → AreLast kept (n ∷ ns) r
  other_step kept other are = record {
    sound = λ v c. let s = are.sound v c in (s.0, contains-tail n ns s.0 s.1, s.2, s.3, stays v.line s.0 s.1 ∙ s.4);
    whole = λ m c h. ⊎_elim
        (λ same. clash (ap (names_it r) same ∙ h) other)
        (λ there. let w = are.whole m there h in (w.0, w.1, w.2, let e = stays w.0.line m there in let le = w.3 in omega (arith, e, le)))
        (contains-cons n ns m c);
  }

-- ---- what is left

-- whether some node that names the resource isn't before the next one
abbrev pub is_left : ℕ → List Node → Node → Node → Bool
is_left r ns n m = names_it r m && not (before (n ∷ ns) m n)

pub one_left : (kept : List LastUse) (ns : List Node) (n : Node) (r : ℕ) (u : LastUse) → AreLast kept ns r → Contains kept u
    → ((m : Node) → Contains ns m → line_of m ≡ Some u.line → place ns u.line m.number ≡ u.place → before (n ∷ ns) m n ≡ false) → list_any (is_left r ns n) ns ≡ true
one_left kept ns n r u are c left = let s = are.sound u c in member_passes (is_left r ns n) ns s.0 s.1 (and_from (names_it r s.0) (not (before (n ∷ ns) s.0 n)) s.2 (ap not (left s.0 s.1 s.3 s.4)))

pub none_left : (kept : List LastUse) (ns : List Node) (n : Node) (r : ℕ) (s : NewNode) → IsNewNode ns n s → AreLast kept ns r
    → ((u : LastUse) → Contains kept u → (m : Node) → Contains ns m → line_of m ≡ Some u.line → place ns u.line m.number ≡ u.place → before (n ∷ ns) m n ≡ true) → list_any (is_left r ns n) ns ≡ false
none_left kept ns n r s new_node are done = false_from_ne_true (list_any (is_left r ns n) ns) (λ h.
    let x = some_member (is_left r ns n) ns h in
    let both = and_parts (names_it r x.0) (not (before (n ∷ ns) x.0 n)) x.2 in
    let w = are.whole x.0 x.1 both.0 in
    let d = are.sound w.0 w.1 in
    let first = first_on_line ns n s new_node w.0.line x.0 d.0 x.1 d.1 w.2 d.3 (let le = w.3 in let e = d.4 in omega (arith, le, e)) (done w.0 w.1 d.0 d.1 d.3 d.4) in
    clash both.1 (ap not first))

-- ---- what two calls keep

pub both_kept : (old mid new : LastUses) (xs ys : List ℕ) (u : LastUse) → AreKeptNow old mid xs u → AreKeptNow mid new ys u → AreKeptNow old new (xs ++ ys) u
both_kept old mid new xs ys u first second = record {
  these = λ r h. these r (among r xs) refl (among r ys) refl (split r ∙ h);
  others = λ r h. let parts = or_parts (among r xs) (among r ys) (split r ∙ h) in second.others r parts.1 ∙ first.others r parts.0;
} where
  split : (r : ℕ) → (among r xs || among r ys) ≡ among r (xs ++ ys)
  split r = sym (list_any-append (λ y. r == y) xs ys)

  these : (r : ℕ) (a : Bool) → among r xs ≡ a → (b : Bool) → among r ys ≡ b → (among r xs || among r ys) ≡ true → IsKeptNow (uses_in old r) (uses_in new r) u
  these r true e true f h = twice_kept (uses_in old r) (uses_in mid r) (uses_in new r) u (first.these r e) (second.these r f)
  these r true e false f h = subst (λ (l : List LastUse). IsKeptNow (uses_in old r) l u) (sym (second.others r f)) (first.these r e)
  these r false e true f h = subst (λ (l : List LastUse). IsKeptNow l (uses_in new r) u) (first.others r e) (second.these r f)
  these r false e false f h = clash h (rw (e, f) refl)

pub contains_at : (xs : List LastUse) (u : LastUse) → Contains xs u → (i : ℕ) × (slice_get xs i ≡ Some u)
contains_at xs u c = (c.0, slice_get-get_or xs c.0 u c.1 ∙ ap Some c.2)

-- ---- the ones that were gone through

abbrev pub IsDone : NewNode → LastUse → Type 0
IsDone s u = (ns : List Node) (n m : Node) → IsNewNode ns n s → Contains ns m → line_of m ≡ Some u.line → place ns u.line m.number ≡ u.place → before (n ∷ ns) m n ≡ true

pub next_done : (kept : List LastUse) (k : ℕ) (d : LastUse) (s : NewNode) → IsDone s (get_or kept k d) → ((i : ℕ) (u : LastUse) → i < k → slice_get kept i ≡ Some u → IsDone s u) → (i : ℕ) (u : LastUse) → i < k + 1 → slice_get kept i ≡ Some u → IsDone s u
next_done kept k d s here done i u lt is = ⊎_elim
    (λ old. done i u old is)
    (λ ge. let same : i ≡ k = omega (arith, lt, ge) in subst (IsDone s) (get_or_from_slice_get kept k u d (ap (slice_get kept) (sym same) ∙ is)) here)
    (cases_lt i k)

pub nothing_left : (ns : List Node) (n : Node) (r : ℕ) (s : NewNode) → IsNewNode ns n s → AreLast [] ns r → list_any (is_left r ns n) ns ≡ false
nothing_left ns n r s new_node are = none_left [] ns n r s new_node are (λ u c. absurd (none_in u c))

-- ---- how many elements there are

module _ (ns : List Node) (n : Node) (numbers : IsNumbered (n ∷ ns)) where
  -- no node has a number past the last
  top : (ms : List Node) → IsNumbered ms → (l : Line) (k : ℕ) → length ms ≤ k → place ms l k ≡ place ms l (length ms)
  top [] all l k le = refl
  top (m ∷ ms) all l k le =
      let one : nat_lt m.number k ≡ true = lt-ltb m.number k (let e = all.0 in omega (arith, e, le)) in
      let two : nat_lt m.number (length (m ∷ ms)) ≡ true = lt-ltb m.number (length (m ∷ ms)) (let e = all.0 in omega (arith, e)) in
      rw (one, two, top ms all.1 l k (omega (arith, le)), top ms all.1 l (length (m ∷ ms)) (omega arith)) refl

  pub counts_own : (l : Line) → on_line l n ≡ true → place (n ∷ ns) l (length (n ∷ ns)) ≡ place ns l (length ns) + 1
  counts_own l on = let one : nat_lt n.number (length (n ∷ ns)) ≡ true = lt-ltb n.number (length (n ∷ ns)) (let e = numbers.0 in omega (arith, e)) in rw (one, on) (ap (λ k. k + 1) (top ns numbers.1 l (length (n ∷ ns)) (omega arith)))

  pub counts_others : (l : Line) → on_line l n ≡ false → place (n ∷ ns) l (length (n ∷ ns)) ≡ place ns l (length ns)
  counts_others l off = rw (off, and-false (nat_lt n.number (length (n ∷ ns)))) (top ns numbers.1 l (length (n ∷ ns)) (omega arith))

-- an element of a barrier comes
pub element_counted : (ns : List Node) (n : Node) → IsNumbered (n ∷ ns) → (e : Element) (q : ℕ) → n.point.queue ≡ q → n.act ≡ Depends Barrier e → (old new : ElementCounts)
    → ((u i : Bool) → elements_on new u i ≡ elements_on old u i + (if same_bit u (has_transfer (dependency_of e).destination_stages.0) && same_bit i (has_host (dependency_of e).destination_stages.0) then 1 else 0))
    → AreElementCounts old q ns → AreElementCounts new q (n ∷ ns)
element_counted ns n numbers e q on is old new step are u i = go (same_bit u (has_transfer s) && same_bit i (has_host s)) refl where
  s : ℕ
  s = (dependency_of e).destination_stages.0

  line : line_of n ≡ Some (OfElements q (has_transfer s) (has_host s))
  line = ap (λ (a : Act). line_on n.point.queue a) is ∙ ap (λ k. Some (OfElements k (has_transfer s) (has_host s))) on

  own : on_line (OfElements q u i) n ≡ (same_bit u (has_transfer s) && same_bit i (has_host s))
  own = rw (line, eq-eqb q q refl) refl

  go : (b : Bool) → (same_bit u (has_transfer s) && same_bit i (has_host s)) ≡ b → elements_on new u i ≡ place (n ∷ ns) (OfElements q u i) (length (n ∷ ns))
  go true h = step u i ∙ rw h (ap (λ k. k + 1) (are u i) ∙ sym (counts_own ns n numbers (OfElements q u i) (own ∙ h)))
  go false h = step u i ∙ rw h (let e = are u i in let f = counts_others ns n numbers (OfElements q u i) (own ∙ h) in omega (arith, e, f))

pub some_step : (ns : List Node) (n : Node) → IsNumbered (n ∷ ns) → (r : ℕ) (e : Element) (q : ℕ) → n.point.queue ≡ q → n.act ≡ Depends Barrier e → (old new : LastUses) (u : LastUse)
    → u.line ≡ class_on q (Depends Barrier e) → u.place ≡ place ns (class_on q (Depends Barrier e)) (length ns) → (o : Option ℕ) → o ≡ named_by e → AreKeptNow old new (option_list o) u → AreLast (uses_in old r) ns r → AreLast (uses_in new r) (n ∷ ns) r
some_step ns n numbers r e q on is old new u line at o its_name kept are = go (among r (option_list o)) refl where
  names : names_it r n ≡ among r (option_list o)
  names = ap (λ (a : Act). among r (named_by_act a)) is ∙ ap (λ (k : Option ℕ). among r (option_list k)) (sym its_name)

  its : line_of n ≡ Some u.line
  its = ap (λ (a : Act). line_on n.point.queue a) is ∙ ap (λ k. line_on k (Depends Barrier e)) on ∙ ap Some (sym line)

  go : (b : Bool) → among r (option_list o) ≡ b → AreLast (uses_in new r) (n ∷ ns) r
  go true h = named_step ns n numbers r (uses_in old r) (uses_in new r) u its (at ∙ ap (λ l. place ns l (length ns)) (sym line)) (names ∙ h) (kept.these r h) are
  go false h = subst (λ (l : List LastUse). AreLast l (n ∷ ns) r) (sym (kept.others r h)) (other_step ns n numbers r (uses_in old r) (names ∙ h) are)

-- ---- the elements of a barrier, one after another

abbrev pub HaveCome : ElementCounts → LastUses → LastUses → Frontier → ℕ → List Element → List Element → Type 0
HaveCome counts first now f q rest all =
    (ns : List Node) (p : Point) (r : ℕ) → IsFrontier f ns → p.queue ≡ q → AreLast (uses_in first r) ns r
    → (ms : List Node) × IsNumbered ms × AreElementCounts counts q ms × AreLast (uses_in now r) ms r × (with_acts p (map (Depends Barrier) rest) ms ≡ with_acts p (map (Depends Barrier) all) ns)

abbrev pub OneComes : ElementCounts → ElementCounts → LastUses → LastUses → ℕ → Element → Type 0
OneComes before after old new q e =
    (ns : List Node) (n : Node) (r : ℕ) → IsNumbered (n ∷ ns) → n.point.queue ≡ q → n.act ≡ Depends Barrier e → AreElementCounts before q ns → AreLast (uses_in old r) ns r
    → AreElementCounts after q (n ∷ ns) × AreLast (uses_in new r) (n ∷ ns) r

pub one_more : (before after : ElementCounts) (first old new : LastUses) (f : Frontier) (q : ℕ) (xs : List Element) (i : ℕ) (d e : Element) → i < length xs → e ≡ get_or xs i d
    → OneComes before after old new q e → HaveCome before first old f q (drop i xs) xs → HaveCome after first new f q (drop (i + 1) xs) xs
one_more before after first old new f q xs i d e lt here step come ns p r frontier on are =
    let h = come ns p r frontier on are in
    let n : Node = record { number = length h.0; point = p; act = Depends Barrier e } in
    let s = step h.0 n r (refl, h.1) on refl h.2 h.3 in
    (n ∷ h.0, (refl, h.1), s.0, s.1, ap (λ (l : List Element). with_acts p (map (Depends Barrier) l) h.0) (ap (λ (x : Element). x ∷ drop (i + 1) xs) here ∙ sym (drop_more xs i d lt)) ∙ h.4)

pub all_come : (counts : ElementCounts) (first now : LastUses) (f : Frontier) (q : ℕ) (xs : List Element) (i : ℕ) → length xs ≤ i → HaveCome counts first now f q (drop i xs) xs
    → (ns : List Node) (p : Point) (r : ℕ) → IsFrontier f ns → p.queue ≡ q → AreLast (uses_in first r) ns r → AreLast (uses_in now r) (with_acts p (map (Depends Barrier) xs) ns) r
all_come counts first now f q xs i ge come ns p r frontier on are =
    let h = come ns p r frontier on are in
    subst (λ (l : List Node). AreLast (uses_in now r) l r) (ap (λ (l : List Element). with_acts p (map (Depends Barrier) l) h.0) (sym (drop_all i xs ge)) ∙ h.4) h.3

-- one element on all memory
pub memory_comes : (kept : List LastUse) (r : ℕ) (p : Point) (ns : List Node) (d : Dependency) → IsNumbered ns → AreLast kept ns r → AreLast kept (with_acts p (map (Depends Barrier) (element.Memory d ∷ [])) ns) r
memory_comes kept r p ns d numbers are =
    let n : Node = record { number = length ns; point = p; act = Depends Barrier (element.Memory d) } in
    other_step ns n (refl, numbers) r kept refl are

-- ---- other commands

pub events_come : (role : ℕ → Role) (kept : List LastUse) (r : ℕ) (p : Point) (k : ℕ) (ms : List Dependency) (ns : List Node) → IsNumbered ns → AreLast kept ns r
    → AreLast kept (with_acts p (map (λ x. Depends (role x.0) (element.Memory x.1)) (enumerate_from k ms)) ns) r
events_come role kept r p k [] ns numbers are = are
events_come role kept r p k (m ∷ ms) ns numbers are =
    let n : Node = record { number = length ns; point = p; act = Depends (role k) (element.Memory m) } in
    events_come role kept r p (k + 1) ms (n ∷ ns) (refl, numbers) (other_step ns n (refl, numbers) r kept refl are)

-- a clear or copy comes
pub plain_comes : (c : Cmd) → ((es : List Element) → c ≡ cmd.Barrier es → ⊥) → ((v : ℕ) (ms : List Dependency) → c ≡ cmd.Set v ms → ⊥) → ((v : ℕ) (ms : List Dependency) → c ≡ cmd.Await v ms → ⊥)
    → (ns : List Node) (p : Point) (r : ℕ) → IsNumbered ns → (old new : LastUses) (u : LastUse) (ids : List ℕ) → ids ≡ uses c → u.line ≡ OfCommands p.queue → u.place ≡ place ns (OfCommands p.queue) (length ns)
    → AreKeptNow old new ids u → AreLast (uses_in old r) ns r → AreLast (uses_in new r) (with_acts p (command_acts c) ns) r
plain_comes c barrier set_of await_of ns p r numbers old new u ids are_ids line at kept are = subst (λ (l : List Act). AreLast (uses_in new r) (with_acts p l ns) r) (sym (alone c barrier set_of await_of)) (go (among r ids) refl) where
  alone : (c : Cmd) → ((es : List Element) → c ≡ cmd.Barrier es → ⊥) → ((v : ℕ) (ms : List Dependency) → c ≡ cmd.Set v ms → ⊥) → ((v : ℕ) (ms : List Dependency) → c ≡ cmd.Await v ms → ⊥) → command_acts c ≡ Runs c ∷ []
  alone (cmd.Barrier es) b s a = absurd (b es refl)
  alone (cmd.Set v ms) b s a = absurd (s v ms refl)
  alone (cmd.Await v ms) b s a = absurd (a v ms refl)
  alone (cmd.Fill i o n w) b s a = refl
  alone (cmd.Update i o bytes) b s a = refl
  alone (cmd.Copy i d gs) b s a = refl
  alone (cmd.Clear i l color rs) b s a = refl
  alone (cmd.CopyIn i j l gs) b s a = refl
  alone (cmd.CopyOut i l j gs) b s a = refl
  alone (cmd.CopyImage i l d m gs) b s a = refl

  n : Node
  n = record { number = length ns; point = p; act = Runs c }

  go : (b : Bool) → among r ids ≡ b → AreLast (uses_in new r) (n ∷ ns) r
  go true h = named_step ns n (refl, numbers) r (uses_in old r) (uses_in new r) u (ap Some (sym line)) (at ∙ ap (λ l. place ns l (length ns)) (sym line)) (ap (among r) (sym are_ids) ∙ h) (kept.these r h) are
  go false h = subst (λ (l : List LastUse). AreLast l (n ∷ ns) r) (sym (kept.others r h)) (other_step ns n (refl, numbers) r (uses_in old r) (ap (among r) (sym are_ids) ∙ h) are)

-- a point of one act that names nothing
pub quiet_comes : (kept : List LastUse) (r : ℕ) (p : Point) (a : Act) (ns : List Node) → IsNumbered ns → acts p.action ≡ a ∷ [] → among r (named_by_act a) ≡ false → AreLast kept ns r → AreLast kept (with_acts p (acts p.action) ns) r
quiet_comes kept r p a ns numbers alone none are =
    subst (λ (l : List Act). AreLast kept (with_acts p l ns) r) (sym alone) (other_step ns (record { number = length ns; point = p; act = a }) (refl, numbers) r kept none are)
