-- Which objects are live after a point, and how many of them pass a test.
use Rattle.std.proofs.Common.{◌≡◌, ◌+◌, ℕ, List, [], ◌∷◌, ◌++◌, map, Bool, true, false, not, ◌&&◌, ◌||◌, ◌==◌, cond, refl, ap, sym, ◌∙◌, subst, arith, Option, Some, None}
use Rattle.std.specs.Prelude.{Contains, count_by, nat_eq, is_some, option_and_then, if◌then◌else◌}
use Rattle.std.specs.List.{list_any, filter, filter_map, find, cons_option}
use Rattle.std.proofs.lemmas.Bool.{eqb-true, eq-eqb, false_from_ne_true, or_parts, or_from, not-false}
use Rattle.std.proofs.lemmas.List.Elements.{Contains-append_right}
use Rattle.vk_model.specs.declared.entry.Entry.{Entry}
use Rattle.vk_model.specs.declared.entry.Entry.TheVariants as entry
use Rattle.vk_model.specs.declared.rule.Rule.TheVariants as rule
use Rattle.vk_model.specs.Basics.{holds, among, some_pair}
use Rattle.vk_model.specs.Trace.Point.{Past, Point, Action, Host, host_of, entries}
use Rattle.vk_model.specs.Trace.Objects.{made, made_by, ended, ended_by, live, live_of, resource_in}
use Rattle.vk_model.specs.Rules.Ids.{Asked, is_dead, is_memory, is_resource, is_pool, is_defrag, asked_by, asked_by_entry, breaks_live_id, lists_stray, until}
use Rattle.vk_model.specs.Rules.Ranges.{breaks_overlap, lists_twice}
use Rattle.vk_model.specs.Rules.Fault.{newest, older}
use Rattle.vk_model.specs.Rules.Table.{breaks}
use Rattle.vk_model.proofs.Lists.Members.{contains-head, contains-tail, filtered, filter_has, member_passes, map_has, only_one, none_in}
use Rattle.vk_model.proofs.Lists.Truths.{clash}
use Rattle.vk_model.proofs.Rules.Fault.{unbroken_of_none}
use Rattle.vk_laws.proofs.Nodes.Steady.{IsNew, IsLive, new_ids, live_ids}
use Rattle.vk_history.specs.Judged.{IsJudged}
use Rattle.vk_history.proofs.Kept.NextPoint.{unbroken}
use Rattle.vk_history.proofs.Living.Counting.{count-cons, count_same, both_kept, among_has, among_from, apart_filter, apart_end, all_taken}

-- ---- ids that were made

-- the ids of all objects that were made
abbrev pub ids : Past → List ℕ
ids past = filter_map made_by (entries past)

-- what was made is among them
found_among : (xs : List Entry) (i : ℕ) → is_some (find (λ x. holds (made_by x) (λ j. i == j)) xs) ≡ among i (filter_map made_by xs)
found_among [] i = refl
found_among (x ∷ xs) i = go (made_by x) (found_among xs i) where
  pick : (b : Bool) → is_some (find (λ x. holds (made_by x) (λ j. i == j)) xs) ≡ among i (filter_map made_by xs)
      → is_some (cond b (Some x) (find (λ x. holds (made_by x) (λ j. i == j)) xs)) ≡ (b || among i (filter_map made_by xs))
  pick true e = refl
  pick false e = e

  go : (o : Option ℕ) → is_some (find (λ x. holds (made_by x) (λ j. i == j)) xs) ≡ among i (filter_map made_by xs)
      → is_some (cond (holds o (λ j. i == j)) (Some x) (find (λ x. holds (made_by x) (λ j. i == j)) xs)) ≡ among i (cons_option o (filter_map made_by xs))
  go None e = e
  go (Some j) e = pick (i == j) e

pub made_among : (past : Past) (i : ℕ) → is_some (made past i) ≡ among i (ids past)
made_among past i = found_among (entries past) i

-- no id is made twice
pub ids_apart : (past : Past) → IsNew past → some_pair nat_eq (ids past) ≡ false
ids_apart [] new = refl
ids_apart (p ∷ past) new = go (host_of p.action) refl (ids_apart past (λ b q c. new b q (older c))) where
  by_id : (x : Entry) → host_of p.action ≡ Some x → (o : Option ℕ) → made_by x ≡ o → some_pair nat_eq (ids past) ≡ false → some_pair nat_eq (cons_option o (ids past)) ≡ false
  by_id x is None e rest = rest
  by_id x is (Some i) e rest =
      let unmade : is_some (made past i) ≡ false = false_from_ne_true (is_some (made past i)) (λ h. new past p newest (rw (is, e) h)) in
      or_from (among i (ids past)) (some_pair nat_eq (ids past)) (sym (made_among past i) ∙ unmade) rest

  go : (h : Option Entry) → host_of p.action ≡ h → some_pair nat_eq (ids past) ≡ false → some_pair nat_eq (filter_map made_by (cons_option h (entries past))) ≡ false
  go None is rest = rest
  go (Some x) is rest = by_id x is (made_by x) refl rest

-- ---- ids that are live, by what an entry ends

-- what is asked of an id that an entry ends
abbrev pub ends_as : Entry → Entry → Bool
ends_as (entry.Free m) = is_memory
ends_as (entry.Destroy r) = is_resource
ends_as (entry.DropPool p) = is_pool
ends_as (entry.EndPass d kept lost) = is_resource
ends_as (entry.EndDefrag d) = is_defrag
ends_as _ = λ _. false

-- what is live was made, and hasn't ended
pub record IsAlive (past : Past) (i : ℕ) (kind : Entry → Bool) : Type 0 where
  pub object : Entry
  pub made_it : made past i ≡ Some object
  pub unended : ended past i ≡ false
  pub is_kind : kind object ≡ true

pub is_alive : (past : Past) (i : ℕ) (kind : Entry → Bool) → holds (live past i) kind ≡ true → IsAlive past i kind
is_alive past i kind h = go (ended past i) refl (made past i) refl h where
  go : (b : Bool) → ended past i ≡ b → (m : Option Entry) → made past i ≡ m → holds (if b then None else m) kind ≡ true → IsAlive past i kind
  go true e m f h = absurd cc
  go false e None f h = absurd cc
  go false e (Some x) f h = record { object = x; made_it = f; unended = e; is_kind = h }

-- a host entry names live ids
pub host_alive : (past : Past) (p : Point) (x : Entry) → p.action ≡ Host x → breaks_live_id past p ≡ false → list_any (is_dead past) (asked_by_entry x) ≡ false
host_alive past p x is e = (or_parts (list_any (is_dead past) (asked_by_entry x)) (lists_stray past x) (subst (λ (d : Action). (list_any (is_dead (if is_some (host_of d) then past else until p.entry past)) (asked_by d) || holds (host_of d) (lists_stray past)) ≡ false) is e)).0

-- one that is asked for is live
pub asked_alive : (past : Past) (asked : Asked) (i : ℕ) (kind : Entry → Bool) → list_any (is_dead past) asked ≡ false → Contains asked (i, kind) → holds (live past i) kind ≡ true
asked_alive past asked i kind alive c = not-false (holds (live past i) kind) (false_from_ne_true (is_dead past (i, kind)) (λ h. clash (member_passes (is_dead past) asked (i, kind) c h) alive))

one_alive : (past : Past) (e i : ℕ) (kind : Entry → Bool) → list_any (is_dead past) ((e, kind) ∷ []) ≡ false → Contains (e ∷ []) i → holds (live past i) kind ≡ true
one_alive past e i kind alive c = subst (λ (k : ℕ). holds (live past k) kind ≡ true) (only_one e i c) (asked_alive past ((e, kind) ∷ []) e kind alive (contains-head (e, kind) []))

pub ended_alive : (past : Past) (x : Entry) (i : ℕ) → list_any (is_dead past) (asked_by_entry x) ≡ false → Contains (ended_by x) i → holds (live past i) (ends_as x) ≡ true
ended_alive past (entry.Free m) i alive c = one_alive past m i is_memory alive c
ended_alive past (entry.Destroy r) i alive c = one_alive past r i is_resource alive c
ended_alive past (entry.DropPool q) i alive c = one_alive past q i is_pool alive c
ended_alive past (entry.EndPass d kept lost) i alive c =
    asked_alive past (asked_by_entry (entry.EndPass d kept lost)) i is_resource alive
    (contains-tail (d, is_defrag) (map (λ r. (r, is_resource)) (kept ++ lost)) (i, is_resource) (map_has (λ r. (r, is_resource)) (kept ++ lost) i (Contains-append_right kept lost i c)))
ended_alive past (entry.EndDefrag d) i alive c = one_alive past d i is_defrag alive c
ended_alive past _ i alive c = absurd (none_in i c)

-- what was made is still made after a point
pub still_made : (past : Past) (p : Point) (i : ℕ) → is_some (made past i) ≡ true → is_some (made (p ∷ past) i) ≡ true
still_made past p i there = go (host_of p.action) where
  pick : (x : Entry) (b : Bool) → is_some (cond b (Some x) (made past i)) ≡ true
  pick x true = refl
  pick x false = there

  go : (h : Option Entry) → is_some (find (λ x. holds (made_by x) (λ j. i == j)) (cons_option h (entries past))) ≡ true
  go None = there
  go (Some x) = pick x (holds (made_by x) (λ j. i == j))

-- what has ended was made
pub ended_made : (past : Past) → IsLive past → (i : ℕ) → ended past i ≡ true → is_some (made past i) ≡ true
ended_made [] alive i e = absurd cc
ended_made (p ∷ past) alive i e = still_made past p i (go p.action refl (ended_made past (λ b q c. alive b q (older c)) i) e) where
  by_host : (x : Entry) → p.action ≡ Host x → (b : Bool) → among i (ended_by x) ≡ b → (ended past i ≡ true → is_some (made past i) ≡ true) → (b || ended past i) ≡ true → is_some (made past i) ≡ true
  by_host x is false a rest h = rest h
  by_host x is true a rest h =
      let none_dead = host_alive past p x is (false_from_ne_true (breaks_live_id past p) (alive past p newest)) in
      let it = is_alive past i (ends_as x) (ended_alive past x i none_dead (among_from i (ended_by x) a)) in
      ap is_some it.made_it

  go : (d : Action) → p.action ≡ d → (ended past i ≡ true → is_some (made past i) ≡ true) → list_any (λ x. among i (ended_by x)) (cons_option (host_of d) (entries past)) ≡ true → is_some (made past i) ≡ true
  go (Host x) is rest h = by_host x is (among i (ended_by x)) refl rest h
  go _ is rest h = rest h

-- ---- a host entry that breaks no rule

ends_none : (x : Entry) (i : ℕ) → made_by x ≡ Some i → ended_by x ≡ []
ends_none (entry.Free m) i e = absurd cc
ends_none (entry.Destroy r) i e = absurd cc
ends_none (entry.DropPool p) i e = absurd cc
ends_none (entry.EndPass d kept lost) i e = absurd cc
ends_none (entry.EndDefrag d) i e = absurd cc
ends_none _ i e = refl

-- what makes a resource makes an id
pub resources_make : (y : Entry) → is_some (resource_in y) ≡ true → is_some (made_by y) ≡ true
resources_make (entry.Buffer i b) h = refl
resources_make (entry.Image i m) h = refl
resources_make _ h = absurd cc

-- an entry ends no id twice
pub ended_apart : (x : Entry) → lists_twice x ≡ false → some_pair nat_eq (ended_by x) ≡ false
ended_apart (entry.EndPass d kept lost) once = apart_end kept lost once
ended_apart (entry.Free m) once = refl
ended_apart (entry.Destroy r) once = refl
ended_apart (entry.DropPool p) once = refl
ended_apart (entry.EndDefrag d) once = refl
ended_apart _ once = refl

module _ (past : Past) (p : Point) (j : IsJudged (p ∷ past)) where
  pub all_new : IsNew (p ∷ past)
  all_new = new_ids (p ∷ past) (unbroken_of_none (p ∷ past) j.faultless)

  pub all_live : IsLive (p ∷ past)
  all_live = live_ids (p ∷ past) (unbroken_of_none (p ∷ past) j.faultless)

  pub live_now : breaks_live_id past p ≡ false
  unfolding breaks
  live_now = unbroken past p j.faultless rule.LiveId

  pub no_overlap : breaks_overlap past p ≡ false
  unfolding breaks
  no_overlap = unbroken past p j.faultless rule.Overlap

  -- what was made stays what it is
  pub made_old : (i : ℕ) → is_some (made past i) ≡ true → made (p ∷ past) i ≡ made past i
  made_old i there = go (host_of p.action) refl where
    by_id : (x : Entry) → host_of p.action ≡ Some x → (o : Option ℕ) → made_by x ≡ o → cond (holds o (λ j. i == j)) (Some x) (made past i) ≡ made past i
    by_id x is None e = refl
    by_id x is (Some k) e = pick (i == k) refl where
      pick : (b : Bool) → (i == k) ≡ b → cond b (Some x) (made past i) ≡ made past i
      pick false f = refl
      pick true f = absurd (all_new past p newest (rw (is, e, ← eqb-true i k f) there))

    go : (h : Option Entry) → host_of p.action ≡ h → find (λ x. holds (made_by x) (λ j. i == j)) (cons_option h (entries past)) ≡ made past i
    go None is = refl
    go (Some x) is = by_id x is (made_by x) refl

  module _ (x : Entry) (is : p.action ≡ Host x) where
    pub none_dead : list_any (is_dead past) (asked_by_entry x) ≡ false
    none_dead = host_alive past p x is live_now

    pub once : lists_twice x ≡ false
    once = (or_parts (lists_twice x) false (rw is at no_overlap)).0

    pub entries_now : entries (p ∷ past) ≡ x ∷ entries past
    entries_now = rw is refl

    ended_now : (i : ℕ) → ended (p ∷ past) i ≡ (among i (ended_by x) || ended past i)
    ended_now i = rw is refl

    -- an old id is live where it was and isn't ended here
    pub live_old : (i : ℕ) → is_some (made past i) ≡ true → live (p ∷ past) i ≡ (if among i (ended_by x) then None else live past i)
    live_old i there = rw (ended_now i, made_old i there) (go (among i (ended_by x)) (ended past i)) where
      go : (a b : Bool) → (if a || b then None else made past i) ≡ (if a then None else if b then None else made past i)
      go true b = refl
      go false b = refl

    -- what is made wasn't made before
    pub unmade : (i : ℕ) → made_by x ≡ Some i → is_some (made past i) ≡ false
    unmade i by = false_from_ne_true (is_some (made past i)) (λ h. all_new past p newest (rw (is, by) h))

    -- the object that is made is live
    pub live_new : (i : ℕ) → made_by x ≡ Some i → live (p ∷ past) i ≡ Some x
    live_new i by =
        let unended : ended past i ≡ false = false_from_ne_true (ended past i) (λ h. clash (ended_made past (λ b q c. all_live b q (older c)) i h) (unmade i by)) in
        rw (ended_now i, ends_none x i by, unended, is, by, eq-eqb i i refl) refl

    pub made_new : (i : ℕ) → made_by x ≡ Some i → made (p ∷ past) i ≡ Some x
    made_new i by = rw (is, by, eq-eqb i i refl) refl

    module _ {A : Type 0} (kind : Entry → Option A) where
      abbrev lives : Past → ℕ → Bool
      lives b i = is_some (option_and_then kind (live b i))

      -- of the old ids those are live that were and aren't ended
      old_live : filter (lives (p ∷ past)) (ids past) ≡ filter (λ i. not (among i (ended_by x))) (live_of kind past)
      old_live = both_kept (λ i. not (among i (ended_by x))) (lives past) (lives (p ∷ past)) (ids past) (λ i c. ap (λ o. is_some (option_and_then kind o)) (live_old i (made_among past i ∙ among_has i (ids past) c)) ∙ go (among i (ended_by x)) (live past i)) where
        go : (a : Bool) (o : Option Entry) → is_some (option_and_then kind (if a then None else o)) ≡ (not a && is_some (option_and_then kind o))
        go true o = refl
        go false o = refl

      -- the live objects of a kind: the one that is made, and the old ones that aren't ended
      pub live_next : live_of kind (p ∷ past) ≡ cons_option (if is_some (kind x) then made_by x else None) (filter (λ i. not (among i (ended_by x))) (live_of kind past))
      live_next = ap (λ es. filter (lives (p ∷ past)) (filter_map made_by es)) entries_now ∙ by_id (made_by x) refl where
        by_id : (o : Option ℕ) → made_by x ≡ o → filter (lives (p ∷ past)) (cons_option o (ids past)) ≡ cons_option (if is_some (kind x) then o else None) (filter (λ i. not (among i (ended_by x))) (live_of kind past))
        by_id None by = go (is_some (kind x)) where
          go : (b : Bool) → filter (lives (p ∷ past)) (ids past) ≡ cons_option (if b then None else None) (filter (λ i. not (among i (ended_by x))) (live_of kind past))
          go true = old_live
          go false = old_live
        by_id (Some i) by = rw (live_new i by) (go (is_some (kind x))) where
          go : (b : Bool) → cond b (i ∷ filter (lives (p ∷ past)) (ids past)) (filter (lives (p ∷ past)) (ids past)) ≡ cons_option (if b then Some i else None) (filter (λ i. not (among i (ended_by x))) (live_of kind past))
          go true = ap (λ ys. i ∷ ys) old_live
          go false = old_live

      -- what is live of the kind was made
      pub live_was_made : (b : Past) (i : ℕ) → Contains (live_of kind b) i → is_some (made b i) ≡ true
      live_was_made b i c = made_among b i ∙ among_has i (ids b) (filtered (lives b) (ids b) i c).0

      pub live_apart : some_pair nat_eq (live_of kind past) ≡ false
      live_apart = apart_filter (lives past) (ids past) (ids_apart past (λ b q c. all_new b q (older c)))

      -- how many live objects of the kind pass a test that only such objects pass
      module _ (creators : (y : Entry) → is_some (kind y) ≡ true → is_some (made_by y) ≡ true) (test : Option Entry → Bool) (none : test None ≡ false) (only : (y : Entry) → test (Some y) ≡ true → is_some (kind y) ≡ true) where
        abbrev passes : Past → ℕ → Bool
        passes b i = test (made b i)

        -- those that stay
        abbrev stay : List ℕ
        stay = filter (λ i. not (among i (ended_by x))) (live_of kind past)

        there : (e : ℕ) → Contains (ended_by x) e → passes past e ≡ true → among e (live_of kind past) ≡ true
        there e c h =
            let it = is_alive past e (ends_as x) (ended_alive past x e none_dead c) in
            let alive : live past e ≡ Some it.object = rw (it.unended, it.made_it) refl in
            among_has e (live_of kind past) (filter_has (lives past) (ids past) e (among_from e (ids past) (sym (made_among past e) ∙ ap is_some it.made_it)) (rw alive (only it.object (rw it.made_it at h))))

        same_old : count_by (passes (p ∷ past)) (filter (λ i. not (among i (ended_by x))) (live_of kind past)) ≡ count_by (passes past) (filter (λ i. not (among i (ended_by x))) (live_of kind past))
        same_old = count_same (passes (p ∷ past)) (passes past) _ (λ i c. ap test (made_old i (live_was_made past i (filtered (λ i. not (among i (ended_by x))) (live_of kind past) i c).0)))

        pub count_next : count_by (passes (p ∷ past)) (live_of kind (p ∷ past)) + count_by (passes past) (ended_by x) ≡ count_by (passes past) (live_of kind past) + cond (test (Some x)) 1 0
        count_next =
            let left = all_taken (passes past) (ended_by x) (live_of kind past) (ended_apart x once) live_apart there in
            ap (λ ys. count_by (passes (p ∷ past)) ys + count_by (passes past) (ended_by x)) live_next ∙ by_kind (is_some (kind x)) refl (made_by x) refl left
          where
            by_kind : (b : Bool) → is_some (kind x) ≡ b → (o : Option ℕ) → made_by x ≡ o → count_by (passes past) stay + count_by (passes past) (ended_by x) ≡ count_by (passes past) (live_of kind past)
                → count_by (passes (p ∷ past)) (cons_option (if b then o else None) stay) + count_by (passes past) (ended_by x) ≡ count_by (passes past) (live_of kind past) + cond (test (Some x)) 1 0
            by_kind false k o by left =
                let fails : test (Some x) ≡ false = false_from_ne_true (test (Some x)) (λ h. clash (only x h) k) in
                rw fails (let same = same_old in omega (arith, left, same))
            by_kind true k None by left = absurd (let some = creators x k in let bad : false ≡ true = rw by at some in cc)
            by_kind true k (Some i) by left =
                let first = count-cons (passes (p ∷ past)) i stay in
                let passes_here : ◌≡◌ {A = ℕ} (cond (passes (p ∷ past) i) 1 0) (cond (test (Some x)) 1 0) = ap (λ (o : Option Entry). cond (test o) 1 0) (made_new i by) in
                let same = same_old in
                omega (arith, left, first, passes_here, same)

  -- a point of a batch changes no object
  module _ (quiet : host_of p.action ≡ None) where
    pub same_entries : entries (p ∷ past) ≡ entries past
    same_entries = rw quiet refl

    pub same_made : (i : ℕ) → made (p ∷ past) i ≡ made past i
    same_made i = rw quiet refl
