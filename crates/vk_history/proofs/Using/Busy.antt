-- Which resources are busy: a command that names them waits, or one of its nodes isn't before the next entry.
use Rattle.std.proofs.Common.{◌≡◌, ⊎_elim, ℕ, List, [], ◌∷◌, Bool, true, false, not, ◌&&◌, ◌||◌, ◌==◌, IsTrue, length, refl, ap, sym, ◌∙◌, subst, arith, nat_lt}
use Rattle.std.specs.Prelude.{Contains, if◌then◌else◌}
use Rattle.std.specs.List.{list_any, list_all, flat_map, sum_by}
use Rattle.std.proofs.lemmas.Bool.{and_parts, and_from, lt-ltb, ltb-true, not-true, or_left, or_right, or_cases, false_from_ne_true}
use Rattle.std.proofs.Math.Bool.{and-false}
use Rattle.std.proofs.lemmas.List.Sums.{sum_by-cons}
use Rattle.vk_model.specs.declared.entry.Entry.{Entry}
use Rattle.vk_model.specs.declared.entry.Entry.TheVariants as entry
use Rattle.vk_model.specs.Basics.{among}
use Rattle.vk_model.specs.Trace.Point.{Past, Point, Action, Host, host_of}
use Rattle.vk_model.specs.Trace.Structure.{IsOrdered}
use Rattle.vk_model.specs.Rules.Ids.{until}
use Rattle.vk_model.specs.Sync.Node.{Node, Hosts, nodes, acts, with_acts, same_place}
use Rattle.vk_model.specs.Sync.Before.{before}
use Rattle.vk_model.specs.Sync.Complete.{named_by_act, names, nodes_for, is_complete, is_busy, submitted}
use Rattle.vk_model.proofs.Lists.Members.{none_in, contains-cons, contains-head, contains-tail, filtered, filter_has, flat_from, flat_has, some_member, member_passes, all_passes}
use Rattle.vk_model.proofs.Lists.Truths.{clash, bool_same}
use Rattle.vk_model.proofs.Trace.Structure.{is_of_batch, follows_at}
use Rattle.vk_laws.proofs.Living.Coming.{until_there, comes_on}
use Rattle.vk_laws.proofs.Living.Submitted.{is_submitted}
use Rattle.vk_laws.proofs.Living.Unended.{runs_of}
use Rattle.vk_laws.proofs.Nodes.Points.{at_point, comes_at}
use Rattle.vk_history.proofs.Living.Counting.{any_counted}
use Rattle.vk_history.proofs.Using.Lasts.{is_left}
use Rattle.vk_touches.specs.Touched.{next_node}
use Rattle.vk_history.specs.Uses.{names_it, times_named, times_waiting}
use Rattle.vk_history.proofs.Using.Waiting.{quiet_node, place_itself, has_some_node, none_counted}

any_same : (f g : Point → Bool) (xs : List Point) → ((x : Point) → f x ≡ g x) → list_any f xs ≡ list_any g xs
any_same f g [] same = refl
any_same f g (x ∷ xs) same = rw (same x, any_same f g xs same) refl

not_all : (f : Node → Bool) (xs : List Node) → list_all f xs ≡ false → (x : Node) × Contains xs x × (f x ≡ false)
not_all f [] h = absurd cc
not_all f (x ∷ xs) h = go (f x) refl (not_all f xs) where
  go : (b : Bool) → f x ≡ b → (list_all f xs ≡ false → (y : Node) × Contains xs y × (f y ≡ false)) → (y : Node) × Contains (x ∷ xs) y × (f y ≡ false)
  go false e rest = (x, contains-head x xs, e)
  go true e rest = let y = rest (rw e at h) in (y.0, contains-tail x xs y.0 y.1, y.2)

weighs : (f : Point → ℕ) (xs : List Point) → nat_lt 0 (sum_by f xs) ≡ true → (x : Point) × Contains xs x × (nat_lt 0 (f x) ≡ true)
weighs f [] h = absurd cc
weighs f (x ∷ xs) h = go (nat_lt 0 (f x)) refl (weighs f xs) where
  go : (b : Bool) → nat_lt 0 (f x) ≡ b → (nat_lt 0 (sum_by f xs) ≡ true → (y : Point) × Contains xs y × (nat_lt 0 (f y) ≡ true)) → (y : Point) × Contains (x ∷ xs) y × (nat_lt 0 (f y) ≡ true)
  go true e rest = (x, contains-head x xs, e)
  go false e rest =
      let none = none_counted (f x) e in
      let split = sum_by-cons f x xs in
      let more = ltb-true 0 (sum_by f (x ∷ xs)) h in
      let y = rest (lt-ltb 0 (sum_by f xs) (omega (arith, none, split, more))) in
      (y.0, contains-tail x xs y.0 y.1, y.2)

weighed : (f : Point → ℕ) (xs : List Point) (x : Point) → Contains xs x → nat_lt 0 (f x) ≡ true → nat_lt 0 (sum_by f xs) ≡ true
weighed f [] x c h = absurd (none_in x c)
weighed f (y ∷ ys) x c h = lt-ltb 0 (sum_by f (y ∷ ys)) (⊎_elim
    (λ same. let split = sum_by-cons f y ys in let e : f y ≡ f x = ap f same in let lt = ltb-true 0 (f x) h in omega (arith, split, e, lt))
    (λ later. let split = sum_by-cons f y ys in let lt = ltb-true 0 (sum_by f ys) (weighed f ys x later h) in omega (arith, split, lt))
    (contains-cons y ys x c))

-- an action names a resource where it does so at least once
names_times : (r : ℕ) (d : Action) → names r d ≡ nat_lt 0 (times_named r d)
names_times r d = bool_same (names r d) (nat_lt 0 (times_named r d)) to from where
  to : names r d ≡ true → nat_lt 0 (times_named r d) ≡ true
  to h =
      let a = some_member (λ a. among r (named_by_act a)) (acts d) h in
      let i = some_member (λ i. r == i) (named_by_act a.0) a.2 in
      sym (any_counted (λ i. r == i) (flat_map named_by_act (acts d))) ∙ member_passes (λ i. r == i) (flat_map named_by_act (acts d)) i.0 (flat_has named_by_act (acts d) a.0 i.0 a.1 i.1) i.2

  from : nat_lt 0 (times_named r d) ≡ true → names r d ≡ true
  from h =
      let i = some_member (λ i. r == i) (flat_map named_by_act (acts d)) (any_counted (λ i. r == i) (flat_map named_by_act (acts d)) ∙ h) in
      let a = flat_from named_by_act (acts d) i.0 i.1 in
      member_passes (λ a. among r (named_by_act a)) (acts d) a.0 a.1 (member_passes (λ i. r == i) (named_by_act a.0) i.0 a.2 i.2)

module _ (past : Past) (p : Point) (x : Entry) (o : IsOrdered past) (is : p.action ≡ Host x) (r : ℕ) where
  abbrev n : Node
  n = next_node past p (Hosts x)

  abbrev waits : Bool
  waits = nat_lt 0 (sum_by (times_waiting (nodes past) r) (submitted past))

  all_nodes : nodes (p ∷ past) ≡ n ∷ nodes past
  all_nodes = ap (λ (d : Action). with_acts p (acts d) (nodes past)) is

  its_nodes : (y : Point) → nodes_for (n ∷ nodes past) y r ≡ nodes_for (nodes past) y r
  its_nodes y = quiet_node n (nodes past) y r refl

  abbrev ends : Node → Bool
  ends m = before (n ∷ nodes past) m n

  -- by the nodes so far
  abbrev unfinished : Point → Bool
  unfinished y = names r y.action && not (nat_lt 0 (length (nodes_for (nodes past) y r)) && list_all ends (nodes_for (nodes past) y r))

  by_nodes : is_busy past (nodes (p ∷ past)) n r ≡ list_any unfinished (submitted past)
  by_nodes =
      ap (λ (ns : List Node). list_any (λ y. names r y.action && not (is_complete ns n y r)) (submitted past)) all_nodes
      ∙ any_same (λ y. names r y.action && not (is_complete (n ∷ nodes past) n y r)) unfinished (submitted past) (λ y. ap (λ (l : List Node). names r y.action && not (nat_lt 0 (length l) && list_all ends l)) (its_nodes y))

  to : list_any unfinished (submitted past) ≡ true → (waits || list_any (is_left r (nodes past) n) (nodes past)) ≡ true
  to h =
      let y = some_member unfinished (submitted past) h in
      let parts = and_parts (names r y.0.action) (not (nat_lt 0 (length (nodes_for (nodes past) y.0 r)) && list_all ends (nodes_for (nodes past) y.0 r))) y.2 in
      go y.0 y.1 parts.0 (nodes_for (nodes past) y.0 r) refl parts.1
    where
      go : (y : Point) → Contains (submitted past) y → names r y.action ≡ true → (l : List Node) → nodes_for (nodes past) y r ≡ l → not (nat_lt 0 (length l) && list_all ends l) ≡ true → (waits || list_any (is_left r (nodes past) n) (nodes past)) ≡ true
      go y c named [] e left = or_left waits _ (weighed (times_waiting (nodes past) r) (submitted past) y c (ap (λ (l : List Node). nat_lt 0 (if nat_lt 0 (length l) then 0 else times_named r y.action)) e ∙ sym (names_times r y.action) ∙ named))
      go y c named (m ∷ l) e left =
          let some = not_all ends (m ∷ l) (not-true _ (subst (λ (b : Bool). not (b && list_all ends (m ∷ l)) ≡ true) (has_some_node (m ∷ l) m (contains-head m l)) left)) in
          let f = filtered (λ m. same_place m.point y && among r (named_by_act m.act)) (nodes past) some.0 (subst (λ (k : List Node). Contains k some.0) (sym e) some.1) in
          or_right waits _ (member_passes (is_left r (nodes past) n) (nodes past) some.0 f.0 (and_from (names_it r some.0) (not (ends some.0)) (and_parts (same_place some.0.point y) (names_it r some.0) f.1).1 (ap not some.2)))

  from : (waits || list_any (is_left r (nodes past) n) (nodes past)) ≡ true → list_any unfinished (submitted past) ≡ true
  from h = ⊎_elim waiting left (or_cases waits (list_any (is_left r (nodes past) n) (nodes past)) h) where
    waiting : waits ≡ true → list_any unfinished (submitted past) ≡ true
    waiting w =
        let y = weighs (times_waiting (nodes past) r) (submitted past) w in
        let s = unstarted y.0 (nat_lt 0 (length (nodes_for (nodes past) y.0 r))) refl y.2 in
        member_passes unfinished (submitted past) y.0 y.1 (and_from (names r y.0.action) _ (names_times r y.0.action ∙ s.1) (ap (λ b. not (b && list_all ends (nodes_for (nodes past) y.0 r))) s.0))
      where
        unstarted : (y : Point) (b : Bool) → nat_lt 0 (length (nodes_for (nodes past) y r)) ≡ b → nat_lt 0 (if nat_lt 0 (length (nodes_for (nodes past) y r)) then 0 else times_named r y.action) ≡ true
            → (nat_lt 0 (length (nodes_for (nodes past) y r)) ≡ false) × (nat_lt 0 (times_named r y.action) ≡ true)
        unstarted y true e h = absurd (let no : nat_lt 0 0 ≡ true = rw e at h in cc)
        unstarted y false e h = (e, rw e at h)

    left : list_any (is_left r (nodes past) n) (nodes past) ≡ true → list_any unfinished (submitted past) ≡ true
    left l =
        let m = some_member (is_left r (nodes past) n) (nodes past) l in
        let parts = and_parts (names_it r m.0) (not (ends m.0)) m.2 in
        let at = at_point past m.0 m.1 in
        let here = comes_at past m.0 at in
        let run = runs_of at.at.action m.0.act at.acted r parts.0 in
        let follows = follows_at past at.past at.at o here in
        let of = is_of_batch at.past at.at at.at.action (ap host_of run.1) follows.0 in
        let there = is_submitted past (until at.at.entry at.past) at.past at.at run.0 of run.1 (comes_on past at.past (until at.at.entry at.past) at.at _ here (until_there at.past follows.1 at.at.entry (entry.Submit at.at.queue of.batches) of.submitted)) in
        let named : names r at.at.action ≡ true = member_passes (λ a. among r (named_by_act a)) (acts at.at.action) m.0.act at.acted parts.0 in
        let kept = filter_has (λ k. same_place k.point at.at && among r (named_by_act k.act)) (nodes past) m.0 m.1 (and_from (same_place m.0.point at.at) (names_it r m.0) (subst (λ (y : Point). IsTrue (same_place y at.at)) (sym at.pointed) (place_itself at.at)) parts.0) in
        let unended : list_all ends (nodes_for (nodes past) at.at r) ≡ false = false_from_ne_true _ (λ all. clash (all_passes ends (nodes_for (nodes past) at.at r) m.0 all kept) (not-true (ends m.0) parts.1)) in
        member_passes unfinished (submitted past) at.at there (and_from (names r at.at.action) _ named (rw (unended, and-false (nat_lt 0 (length (nodes_for (nodes past) at.at r)))) refl))

  pub busy_is : is_busy past (nodes (p ∷ past)) n r ≡ (waits || list_any (is_left r (nodes past) n) (nodes past))
  busy_is = by_nodes ∙ bool_same _ _ to from
