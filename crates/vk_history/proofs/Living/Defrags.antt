-- Defragmentations and their passes, after a point and of a past.
use Rattle.std.proofs.Common.{◌≡◌, ◌+◌, ◌-◌, ℕ, List, [], ◌∷◌, Bool, true, false, ◌&&◌, ◌==◌, nat_lt, cond, refl, ap, sym, ◌∙◌, subst, arith, Option, Some, None}
use Rattle.std.specs.Prelude.{Contains, count_by, is_some, option_map, option_and_then, if◌then◌else◌}
use Rattle.std.proofs.lemmas.Bool.{eqb-true, eq-eqb, false_from_ne_true, not-false, and_parts, and_from}
use Rattle.std.proofs.lemmas.Bool.Decides.{nat_tests}
use Rattle.vk_model.specs.declared.entry.Entry.{Entry}
use Rattle.vk_model.specs.declared.entry.Entry.TheVariants as entry
use Rattle.vk_model.specs.declared.rule.Rule.TheVariants as rule
use Rattle.vk_model.specs.Basics.{holds, among}
use Rattle.vk_model.specs.Trace.Point.{Past, Point, Host, host_of, entries}
use Rattle.vk_model.specs.Trace.Objects.{made, made_by, ended, ended_by, live, live_of, defrag_in}
use Rattle.vk_model.specs.Rules.Ids.{is_memory, is_pool, is_defrag, is_resource, asked_by_entry}
use Rattle.vk_model.specs.Rules.Passes as passes
use Rattle.vk_model.specs.Rules.Passes.{is_of_pool, count_of, begins, finishes, pool_of_defrag, in_pass, some_pass, pool_in_pass, has_defrag}
use Rattle.vk_model.specs.Rules.Table.{breaks}
use Rattle.vk_model.proofs.Lists.Members.{contains-head, filtered, filter_has, member_passes, some_member, none_passes_any}
use Rattle.vk_model.proofs.Lists.Truths.{clash, bool_same}
use Rattle.vk_history.specs.declared.defrags.Defrags.{Defrags}
use Rattle.vk_history.specs.declared.defrags.OpenPass.{OpenPass}
use Rattle.vk_history.specs.Counted.{AreDefrags, DefragsBy, count_at, is_id, is_pass, pass_after, pass_begun, defrag_ended}
use Rattle.vk_history.specs.Judged.{IsJudged}
use Rattle.vk_history.proofs.Kept.NextPoint.{unbroken}
use Rattle.vk_history.proofs.Living.Counting.{count-cons, count_same, any_counted, among_from, swapped}
use Rattle.vk_history.proofs.Living.LiveIds.{ids, made_among, ends_as, IsAlive, is_alive, asked_alive, ended_alive, none_dead, live_old, count_next}
use Rattle.vk_history.proofs.Living.Occupants.{none_ended}

-- ---- the defragmentations of a past

-- what is live is what was made
live_is : {A : Type 0} (kind : Entry → Option A) (past : Past) (i : ℕ) → is_some (option_and_then kind (live past i)) ≡ true → live past i ≡ made past i
live_is kind past i h = go (ended past i) h where
  go : (b : Bool) → is_some (option_and_then kind (if b then None else made past i)) ≡ true → (if b then None else made past i) ≡ made past i
  go true h = absurd cc
  go false h = refl

was_made : (past : Past) (i : ℕ) → is_some (option_and_then defrag_in (live past i)) ≡ true → is_some (made past i) ≡ true
was_made past i h = go (made past i) (ap (λ (o : Option Entry). is_some (option_and_then defrag_in o)) (sym (live_is defrag_in past i h)) ∙ h) where
  go : (o : Option Entry) → is_some (option_and_then defrag_in o) ≡ true → is_some o ≡ true
  go None h = absurd cc
  go (Some x) h = refl

-- one whose pool is there is among them
listed : (past : Past) (d q : ℕ) → pool_of_defrag past d ≡ Some q → Contains (passes.defrags past) d
listed past d q is =
    let lives : is_some (option_and_then defrag_in (live past d)) ≡ true = ap is_some is in
    filter_has (λ i. is_some (option_and_then defrag_in (live past i))) (ids past) d (among_from d (ids past) (sym (made_among past d) ∙ was_made past d lives)) lives

-- whether an object is a defragmentation of a pool
module _ (k : ℕ) where
  abbrev of_pool : Option Entry → Bool
  of_pool o = is_id k (option_and_then defrag_in o)

  pool_count : (past : Past) → count_by (is_of_pool past k) (passes.defrags past) ≡ count_by (λ d. of_pool (made past d)) (live_of defrag_in past)
  pool_count past = count_same (is_of_pool past k) (λ d. of_pool (made past d)) (live_of defrag_in past) (λ d c. ap of_pool (live_is defrag_in past d (filtered (λ i. is_some (option_and_then defrag_in (live past i))) (ids past) d c).1))

  only : (y : Entry) → of_pool (Some y) ≡ true → is_some (defrag_in y) ≡ true
  only (entry.Defrag i q b m) h = refl
  only _ h = absurd cc

  creators : (y : Entry) → is_some (defrag_in y) ≡ true → is_some (made_by y) ≡ true
  creators (entry.Defrag i q b m) h = refl
  creators _ h = absurd cc

  no_memory : (y : Entry) → is_memory y ≡ true → of_pool (Some y) ≡ false
  no_memory (entry.Memory i m) h = refl
  no_memory _ h = absurd cc

  no_pool : (y : Entry) → is_pool y ≡ true → of_pool (Some y) ≡ false
  no_pool (entry.Pool i m) h = refl
  no_pool _ h = absurd cc

  no_resource : (y : Entry) → is_resource y ≡ true → of_pool (Some y) ≡ false
  no_resource (entry.Buffer i b) h = refl
  no_resource (entry.Image i m) h = refl
  no_resource _ h = absurd cc

  module _ (past : Past) (p : Point) (j : IsJudged (p ∷ past)) where
    abbrev ended_here : Entry → ℕ
    ended_here x = cond (is_id k (option_and_then (λ d. option_and_then defrag_in (made past d)) (defrag_ended x))) 1 0

    ended_count : (x : Entry) → p.action ≡ Host x → count_by (λ i. of_pool (made past i)) (ended_by x) ≡ ended_here x
    ended_count (entry.EndDefrag d) is = omega arith
    ended_count (entry.Free m) is = none_ended past p j (entry.Free m) is of_pool no_memory
    ended_count (entry.DropPool q) is = none_ended past p j (entry.DropPool q) is of_pool no_pool
    ended_count (entry.Destroy r) is = none_ended past p j (entry.Destroy r) is of_pool no_resource
    ended_count (entry.EndPass d kept lost) is = none_ended past p j (entry.EndPass d kept lost) is of_pool no_resource
    ended_count _ is = refl

    host_pools : (x : Entry) → p.action ≡ Host x → (old new : ℕ) → old ≡ count_by (is_of_pool past k) (passes.defrags past) → new ≡ old + cond (of_pool (Some x)) 1 0 - ended_here x → new ≡ count_by (is_of_pool (p ∷ past) k) (passes.defrags (p ∷ past))
    host_pools x is old new was now =
        let next = count_next past p j x is defrag_in creators of_pool refl only in
        let same = ended_count x is in
        let before = pool_count past in
        let after = pool_count (p ∷ past) in
        omega (arith, next, same, was, now, before, after)

-- ---- passes

-- how many entries begin or end passes of a defragmentation
count_form : (past : Past) (p : Point) (x : Entry) → p.action ≡ Host x → (form : Entry → Option ℕ) (d : ℕ) → count_of (p ∷ past) d form ≡ cond (holds (form x) (λ e. e == d)) 1 0 + count_of past d form
count_form past p x is form d =
    let now : entries (p ∷ past) ≡ x ∷ entries past = rw is refl in
    ap (count_by (λ y. holds (form y) (λ e. e == d))) now ∙ count-cons (λ y. holds (form y) (λ e. e == d)) x (entries past)

module _ (s : Defrags) (past : Past) (are : AreDefrags s past) where
  pub in_pass_is : (d : ℕ) → is_pass s.pass d ≡ in_pass past d
  in_pass_is d = go (is_pass s.pass d) (are.begun d) where
    go : (b : Bool) → count_of past d begins ≡ count_of past d finishes + cond b 1 0 → b ≡ nat_lt (count_of past d finishes) (count_of past d begins)
    go true e = grind (arith, nat_tests)
    go false e = grind (arith, nat_tests)

  pub has_defrag_is : (q : ℕ) → nat_lt 0 (count_at s.pools q) ≡ has_defrag past q
  has_defrag_is q = ap (nat_lt 0) (are.pools q) ∙ sym (any_counted (is_of_pool past q) (passes.defrags past))

  pub some_pass_is : is_some s.pass ≡ some_pass past
  some_pass_is = go s.pass refl where
    go : (o : Option OpenPass) → s.pass ≡ o → is_some o ≡ some_pass past
    go None e = sym (none_passes_any (in_pass past) (passes.defrags past) (λ d c. sym (in_pass_is d) ∙ ap (λ (o : Option OpenPass). is_pass o d) e))
    go (Some o) e = sym (member_passes (in_pass past) (passes.defrags past) o.defrag (listed past o.defrag o.pool (are.going o e)) (sym (in_pass_is o.defrag) ∙ ap (λ (u : Option OpenPass). is_pass u o.defrag) e ∙ eq-eqb o.defrag o.defrag refl))

  pub pool_in_pass_is : (q : ℕ) → holds s.pass (λ o. o.pool == q) ≡ pool_in_pass past q
  pool_in_pass_is q = go s.pass refl where
    none : s.pass ≡ None → (d : ℕ) → (in_pass past d && is_of_pool past q d) ≡ false
    none e d = ap (λ b. b && is_of_pool past q d) (sym (in_pass_is d) ∙ ap (λ (o : Option OpenPass). is_pass o d) e)

    forth : (o : OpenPass) → s.pass ≡ Some o → (o.pool == q) ≡ true → pool_in_pass past q ≡ true
    forth o e h =
        let here : in_pass past o.defrag ≡ true = sym (in_pass_is o.defrag) ∙ ap (λ (u : Option OpenPass). is_pass u o.defrag) e ∙ eq-eqb o.defrag o.defrag refl in
        let of : is_of_pool past q o.defrag ≡ true = ap (is_id q) (are.going o e) ∙ swapped q o.pool ∙ h in
        member_passes (λ d. in_pass past d && is_of_pool past q d) (passes.defrags past) o.defrag (listed past o.defrag o.pool (are.going o e)) (and_from (in_pass past o.defrag) (is_of_pool past q o.defrag) here of)

    back : (o : OpenPass) → s.pass ≡ Some o → pool_in_pass past q ≡ true → (o.pool == q) ≡ true
    back o e h =
        let it = some_member (λ d. in_pass past d && is_of_pool past q d) (passes.defrags past) h in
        let both = and_parts (in_pass past it.0) (is_of_pool past q it.0) it.2 in
        let same : o.defrag ≡ it.0 = eqb-true o.defrag it.0 (sym (ap (λ (u : Option OpenPass). is_pass u it.0) e) ∙ in_pass_is it.0 ∙ both.0) in
        let of : is_of_pool past q o.defrag ≡ true = rw same both.1 in
        swapped o.pool q ∙ sym (ap (is_id q) (are.going o e)) ∙ of

    go : (u : Option OpenPass) → s.pass ≡ u → holds u (λ o. o.pool == q) ≡ pool_in_pass past q
    go None e = sym (none_passes_any (λ d. in_pass past d && is_of_pool past q d) (passes.defrags past) (λ d c. none e d))
    go (Some o) e = bool_same (o.pool == q) (pool_in_pass past q) (forth o e) (back o e)

-- what an entry ends is no defragmentation, where it isn't asked to be one
ends_other : (x : Entry) → ((d : ℕ) → x ≡ entry.EndDefrag d → ⊥) → (y : Entry) → ends_as x y ≡ true → is_defrag y ≡ false
ends_other (entry.EndDefrag d) other y h = absurd (other d refl)
ends_other (entry.Free m) other (entry.Memory i n) h = refl
ends_other (entry.Free m) other _ h = absurd cc
ends_other (entry.DropPool q) other (entry.Pool i n) h = refl
ends_other (entry.DropPool q) other _ h = absurd cc
ends_other (entry.Destroy r) other (entry.Buffer i b) h = refl
ends_other (entry.Destroy r) other (entry.Image i m) h = refl
ends_other (entry.Destroy r) other _ h = absurd cc
ends_other (entry.EndPass d kept lost) other (entry.Buffer i b) h = refl
ends_other (entry.EndPass d kept lost) other (entry.Image i m) h = refl
ends_other (entry.EndPass d kept lost) other _ h = absurd cc
ends_other _ other y h = absurd cc

module _ (past : Past) (p : Point) (j : IsJudged (p ∷ past)) (old : Defrags) (are : AreDefrags old past) where
  -- no entry breaks PASS_STATE
  state : passes.breaks_pass_state past p ≡ false
  unfolding breaks
  state = unbroken past p j.faultless rule.PassState

  -- the defragmentation of a pass goes on, where it isn't ended
  going_on : (x : Entry) → p.action ≡ Host x → (o : OpenPass) → old.pass ≡ Some o → among o.defrag (ended_by x) ≡ false → pool_of_defrag (p ∷ past) o.defrag ≡ Some o.pool
  going_on x is o e out =
      let there = was_made past o.defrag (ap is_some (are.going o e)) in
      ap (option_and_then defrag_in) (live_old past p j x is o.defrag there) ∙ ap (λ (b : Bool). option_and_then defrag_in (if b then None else live past o.defrag)) out ∙ are.going o e

  unended : (x : Entry) → p.action ≡ Host x → ((d : ℕ) → x ≡ entry.EndDefrag d → ⊥) → (o : OpenPass) → old.pass ≡ Some o → among o.defrag (ended_by x) ≡ false
  unended x is other o e = false_from_ne_true (among o.defrag (ended_by x)) (λ h.
      let it = is_alive past o.defrag (ends_as x) (ended_alive past x o.defrag (none_dead past p j x is) (among_from o.defrag (ended_by x) h)) in
      let alive : live past o.defrag ≡ Some it.object = rw (it.unended, it.made_it) refl in
      let defrags : is_some (defrag_in it.object) ≡ true = rw alive at (ap is_some (are.going o e)) in
      clash defrags (ends_other x other it.object it.is_kind))

  -- what an entry that begins and ends no pass leaves
  record Leaves (new : Option OpenPass) : Type 0 where
    begun : (d : ℕ) → count_of (p ∷ past) d begins ≡ count_of (p ∷ past) d finishes + (if is_pass new d then 1 else 0)
    going : (o : OpenPass) → new ≡ Some o → pool_of_defrag (p ∷ past) o.defrag ≡ Some o.pool

  stays : (x : Entry) → p.action ≡ Host x → begins x ≡ None → finishes x ≡ None → ((o : OpenPass) → old.pass ≡ Some o → among o.defrag (ended_by x) ≡ false) → Leaves old.pass
  stays x is no_begin no_end out = record {
    begun = λ d.
        let one = count_form past p x is begins d in
        let two = count_form past p x is finishes d in
        let none : ◌≡◌ {A = ℕ} (cond (holds (begins x) (λ e. e == d)) 1 0) 0 = rw no_begin refl in
        let none_too : ◌≡◌ {A = ℕ} (cond (holds (finishes x) (λ e. e == d)) 1 0) 0 = rw no_end refl in
        let was = are.begun d in
        omega (arith, one, two, none, none_too, was);
    going = λ o e. going_on x is o e (out o e);
  }

  -- a pass begins
  no_pass : (d : ℕ) → p.action ≡ Host (entry.Pass d) → old.pass ≡ None
  no_pass d is = go old.pass (some_pass_is old past are ∙ rw is at state) where
    go : (o : Option OpenPass) → is_some o ≡ false → o ≡ None
    go None h = refl
    go (Some o) h = absurd cc

  begins_pass : (d : ℕ) → p.action ≡ Host (entry.Pass d) → Leaves (pass_begun past d)
  begins_pass d is = go (is_alive past d is_defrag (asked_alive past (asked_by_entry (entry.Pass d)) d is_defrag (none_dead past p j (entry.Pass d) is) (contains-head (d, is_defrag) []))) where
    begun_by : (it : IsAlive past d is_defrag) (q : ℕ) → defrag_in it.object ≡ Some q → Leaves (Some (record { defrag = d; pool = q }))
    begun_by it q e = record {
      begun = λ f.
          let one = count_form past p (entry.Pass d) is begins f in
          let two = count_form past p (entry.Pass d) is finishes f in
          let was = are.begun f in
          let none : ◌≡◌ {A = ℕ} (cond (is_pass old.pass f) 1 0) 0 = ap (λ (o : Option OpenPass). cond (is_pass o f) 1 0) (no_pass d is) in
          omega (arith, one, two, was, none);
      going = λ o same.
          let is_o : ◌≡◌ {A = OpenPass} (record { defrag = d; pool = q }) o = cc in
          let alive : live past d ≡ Some it.object = rw (it.unended, it.made_it) refl in
          let next : live (p ∷ past) d ≡ live past d = live_old past p j (entry.Pass d) is d (ap is_some it.made_it) in
          subst (λ (u : OpenPass). pool_of_defrag (p ∷ past) u.defrag ≡ Some u.pool) is_o (ap (option_and_then defrag_in) (next ∙ alive) ∙ e);
    }

    by_pool : (it : IsAlive past d is_defrag) (u : Option ℕ) → defrag_in it.object ≡ u → Leaves (pass_begun past d)
    by_pool it None e = absurd (let some = it.is_kind in let bad : false ≡ true = rw e at some in cc)
    by_pool it (Some q) e = subst Leaves (sym (ap (λ (o : Option Entry). option_map (λ q. record { defrag = d; pool = q }) (option_and_then defrag_in o)) it.made_it ∙ ap (option_map (λ q. record { defrag = d; pool = q })) e)) (begun_by it q e)

    go : IsAlive past d is_defrag → Leaves (pass_begun past d)
    go it = by_pool it (defrag_in it.object) refl

  -- a pass ends
  only_pass : (o : Option OpenPass) (d : ℕ) → is_pass o d ≡ true → (e : ℕ) → is_pass o e ≡ (d == e)
  only_pass None d h e = absurd cc
  only_pass (Some o) d h e = ap (λ k. k == e) (eqb-true o.defrag d h)

  ends_pass : (d : ℕ) (kept lost : List ℕ) → p.action ≡ Host (entry.EndPass d kept lost) → Leaves None
  ends_pass d kept lost is = record {
    begun = λ f.
        let one = count_form past p (entry.EndPass d kept lost) is begins f in
        let two = count_form past p (entry.EndPass d kept lost) is finishes f in
        let was = are.begun f in
        let inside : is_pass old.pass d ≡ true = in_pass_is old past are d ∙ not-false (in_pass past d) (rw is at state) in
        let same : ◌≡◌ {A = ℕ} (cond (is_pass old.pass f) 1 0) (cond (d == f) 1 0) = ap (λ b. cond b 1 0) (only_pass old.pass d inside f) in
        omega (arith, one, two, was, same);
    going = λ o same. absurd cc;
  }

  -- a defragmentation ends
  ends_defrag : (d : ℕ) → p.action ≡ Host (entry.EndDefrag d) → Leaves old.pass
  ends_defrag d is = stays (entry.EndDefrag d) is refl refl (λ o e.
      let outside : is_pass old.pass d ≡ false = in_pass_is old past are d ∙ rw is at state in
      let other : (o.defrag == d) ≡ false = sym (ap (λ (u : Option OpenPass). is_pass u d) e) ∙ outside in
      rw other refl)

  leaves : (x : Entry) → p.action ≡ Host x → Leaves (pass_after past x old.pass)
  leaves (entry.Pass d) is = begins_pass d is
  leaves (entry.EndPass d kept lost) is = ends_pass d kept lost is
  leaves (entry.EndDefrag d) is = ends_defrag d is
  leaves (entry.Free m) is = stays (entry.Free m) is refl refl (unended (entry.Free m) is (λ d e. cc))
  leaves (entry.DropPool q) is = stays (entry.DropPool q) is refl refl (unended (entry.DropPool q) is (λ d e. cc))
  leaves (entry.Destroy r) is = stays (entry.Destroy r) is refl refl (unended (entry.Destroy r) is (λ d e. cc))
  leaves x is = stays x is refl refl (λ o e. refl)

  pub host_defrags : (x : Entry) → p.action ≡ Host x → (new : Defrags) → DefragsBy past x old.pools new.pools → new.pass ≡ pass_after past x old.pass → AreDefrags new (p ∷ past)
  host_defrags x is new pools pass = record {
    pools = λ k. host_pools k past p j x is (count_at old.pools k) (count_at new.pools k) (are.pools k) (pools k);
    begun = now.begun;
    going = now.going;
  } where
    now : Leaves new.pass
    now = subst Leaves (sym pass) (leaves x is)

  pub quiet_defrags : host_of p.action ≡ None → AreDefrags old (p ∷ past)
  quiet_defrags quiet = record {
    pools = λ k. are.pools k ∙ rw quiet refl;
    begun = λ d. rw quiet (are.begun d);
    going = λ o e. rw quiet (are.going o e);
  }
