-- What began a defragmentation or a pass that hasn't ended is found.
use Rattle.std.proofs.Common.{◌≡◌, ⊎_elim, ℕ, List, [], ◌∷◌, Bool, true, false, ◌&&◌, cond, Option, Some, None, is_some, refl, ap, sym, ◌∙◌}
use Rattle.std.specs.Prelude.{◌==◌, Contains, option_and_then, option_map}
use Rattle.std.specs.List.{find, filter_map}
use Rattle.std.proofs.lemmas.Bool.{and_from, and_parts, eqb-true, eq-eqb, false_from_ne_true}
use Rattle.vk_model.specs.declared.entry.Entry.{Entry}
use Rattle.vk_model.specs.Basics.{holds}
use Rattle.vk_model.specs.Trace.Point.{Past, Point, host_of, entries, on_host}
use Rattle.vk_model.specs.Trace.Objects.{made_by, live, defrag_in}
use Rattle.vk_model.specs.Rules.Passes.{begins, defrags, in_pass, is_of_pool, pool_of_defrag}
use Rattle.vk_model.proofs.Lists.Members.{none_in, contains-cons, chosen_from, filtered, found, some_member}
use Rattle.vk_model.proofs.Lists.Truths.{clash, no}
use Rattle.vk_model.specs.declared.point.Point.{Point as ProgramPoint}
use Rattle.vk_model.specs.Trace.PointViews.{point_of}
use Rattle.vk_history.proofs.Living.Residents.{named}
use Rattle.vk_findings.specs.declared.begun.Begun.{Begun}
use Rattle.vk_findings.specs.declared.begun.Sought.{Sought}
use Rattle.vk_findings.specs.declared.begun.Sought.TheVariants as sought
use Rattle.vk_findings.specs.Defrags.{IsOpenDefrag, IsOpenPass, of_defrag}
use Rattle.vk_findings.specs.Inner.Begun.{IsBegun, begins_sought, form_of, is_sought, is_there}
use Rattle.vk_findings.proofs.PassLemmas.{pass_begun}

-- ---- finding

-- an item that passes is found, or one before it
some_found : {X : Type 0} (f : X → Bool) (xs : List X) (x : X) → Contains xs x → f x ≡ true → is_some (find f xs) ≡ true
some_found f [] x c h = absurd (none_in x c)
some_found f (y ∷ ys) x c h = go (f y) refl (λ later. some_found f ys x later h)
  where
    go : (b : Bool) → f y ≡ b → (Contains ys x → is_some (find f ys) ≡ true) → is_some (cond b (Some y) (find f ys)) ≡ true
    go true e rest = refl
    go false e rest = ⊎_elim (λ (same : y ≡ x). clash (ap f same ∙ h) e) rest (contains-cons y ys x c)

module _ (form : Entry → Option ℕ) (test : ℕ → Bool) where
  -- an entry of this form, among those of points
  entry_point : (past : Past) (x : Entry) → Contains (entries past) x → (p : Point) × Contains past p × (host_of p.action ≡ Some x)
  entry_point past x c = chosen_from (λ p. host_of p.action) past x c

  -- an id that passes the test is found by its point
  id_found : (past : Past) (d : ℕ) → Contains (filter_map form (entries past)) d → test d ≡ true → is_some (find (on_host (λ x. holds (form x) test)) past) ≡ true
  id_found past d c h =
      let x = chosen_from form (entries past) d c in
      let p = entry_point past x.0 x.1 in
      some_found (on_host (λ x. holds (form x) test)) past p.0 p.1 (ap (λ (o : Option Entry). holds o (λ x. holds (form x) test)) p.2 ∙ ap (λ (o : Option ℕ). holds o test) x.2 ∙ h)

  -- where one of a form with this id is found, so is one that passes a test that the id passes
  test_found : (past : Past) (d : ℕ) → is_some (find (on_host (of_defrag form d)) past) ≡ true → test d ≡ true → is_some (find (on_host (λ x. holds (form x) test)) past) ≡ true
  test_found past d h passes =
      let p = got (find (on_host (of_defrag form d)) past) h in
      let f = found (on_host (of_defrag form d)) past p.0 p.1 in
      some_found (on_host (λ x. holds (form x) test)) past p.0 f.0 (by_host (host_of p.0.action) f.1)
    where
      got : {X : Type 0} (o : Option X) → is_some o ≡ true → (x : X) × (o ≡ Some x)
      got None e = absurd cc
      got (Some x) e = (x, refl)

      by_form : (o : Option ℕ) → holds o (λ e. e == d) ≡ true → holds o test ≡ true
      by_form None e = absurd cc
      by_form (Some j) e = ap test (eqb-true j d e) ∙ passes

      by_host : (o : Option Entry) → holds o (of_defrag form d) ≡ true → holds o (λ x. holds (form x) test) ≡ true
      by_host None e = absurd cc
      by_host (Some x) e = by_form (form x) e

  -- the newest of a form whose id passes a test is the newest with that id
  newest_same : (past : Past) (q : Point) (d : ℕ) → find (on_host (λ x. holds (form x) test)) past ≡ Some q → option_and_then form (host_of q.action) ≡ Some d → find (on_host (of_defrag form d)) past ≡ Some q
  newest_same [] q d e is = absurd cc
  newest_same (p ∷ past) q d e is = go (on_host (λ x. holds (form x) test) p) refl e (λ at. newest_same past q d at is)
    where
      itself : (o : Option Entry) → option_and_then form o ≡ Some d → holds o (of_defrag form d) ≡ true
      itself None e = absurd cc
      itself (Some x) e = ap (λ (o : Option ℕ). holds o (λ j. j == d)) e ∙ eq-eqb d d refl

      passes : (o : Option Entry) → option_and_then form o ≡ Some d → holds o (λ x. holds (form x) test) ≡ test d
      passes None e = absurd cc
      passes (Some x) e = ap (λ (o : Option ℕ). holds o test) e

      by_form : (o : Option ℕ) → test d ≡ true → holds o test ≡ false → holds o (λ j. j == d) ≡ false
      by_form None t e = refl
      by_form (Some j) t e = false_from_ne_true (j == d) (λ h. clash (ap test (eqb-true j d h) ∙ t) e)

      by_host : (o : Option Entry) → test d ≡ true → holds o (λ x. holds (form x) test) ≡ false → holds o (of_defrag form d) ≡ false
      by_host None t e = refl
      by_host (Some x) t e = by_form (form x) t e

      go : (b : Bool) → on_host (λ x. holds (form x) test) p ≡ b → cond b (Some p) (find (on_host (λ x. holds (form x) test)) past) ≡ Some q
          → (find (on_host (λ x. holds (form x) test)) past ≡ Some q → find (on_host (of_defrag form d)) past ≡ Some q) → cond (on_host (of_defrag form d) p) (Some p) (find (on_host (of_defrag form d)) past) ≡ Some q
      go true e at rest =
          let same : p ≡ q = cc in
          ap (λ (b : Bool). cond b (Some p) (find (on_host (of_defrag form d)) past)) (itself (host_of p.action) (ap (λ (r : Point). option_and_then form (host_of r.action)) same ∙ is)) ∙ ap Some same
      go false e at rest =
          let f = found (on_host (λ x. holds (form x) test)) past q at in
          let t : test d ≡ true = sym (passes (host_of q.action) is) ∙ f.1 in
          ap (λ (b : Bool). cond b (Some p) (find (on_host (of_defrag form d)) past)) (by_host (host_of p.action) t e) ∙ rest at

-- ---- what is sought is found

module _ (past : Past) where
  of_pool_made : (d : ℕ) → Contains (defrags past) d → Contains (filter_map made_by (entries past)) d
  of_pool_made d c = (filtered (λ i. is_some (option_and_then defrag_in (live past i))) (filter_map made_by (entries past)) d c).0

  open_one : (d : ℕ) → Contains (defrags past) d → is_some (pool_of_defrag past d) ≡ true
  open_one d c = (filtered (λ i. is_some (option_and_then defrag_in (live past i))) (filter_map made_by (entries past)) d c).1

  pub there_found : (s : Sought) → is_there past s ≡ true → is_some (find (on_host (begins_sought past s)) past) ≡ true
  there_found (sought.Defrag p) h =
      let d = some_member (is_of_pool past p) (defrags past) h in
      id_found made_by (is_of_pool past p) past d.0 (of_pool_made d.0 d.1) d.2
  there_found sought.AnyPass h =
      let d = some_member (in_pass past) (defrags past) h in
      test_found begins (is_sought past sought.AnyPass) past d.0 (pass_begun past d.0 d.2) (and_from (is_some (pool_of_defrag past d.0)) (in_pass past d.0) (open_one d.0 d.1) d.2)
  there_found (sought.PassIn p) h =
      let d = some_member (λ d. in_pass past d && is_of_pool past p d) (defrags past) h in
      let both = and_parts (in_pass past d.0) (is_of_pool past p d.0) d.2 in
      test_found begins (is_sought past (sought.PassIn p)) past d.0 (pass_begun past d.0 both.0) (and_from (is_of_pool past p d.0) (in_pass past d.0) both.1 both.0)
  there_found (sought.PassOf e) h = test_found begins (is_sought past (sought.PassOf e)) past e (pass_begun past e h) (and_from (e == e) (in_pass past e) (eq-eqb e e refl) h)

  -- its id is that of its point
  pub sought_id : (s : Sought) (q : Point) → find (on_host (begins_sought past s)) past ≡ Some q → is_some (option_and_then (form_of s) (host_of q.action)) ≡ true
  sought_id s q e = by_host (host_of q.action) (found (on_host (begins_sought past s)) past q e).1
    where
      by_form : (o : Option ℕ) → holds o (is_sought past s) ≡ true → is_some o ≡ true
      by_form None h = absurd cc
      by_form (Some d) h = refl

      by_host : (o : Option Entry) → holds o (begins_sought past s) ≡ true → is_some (option_and_then (form_of s) o) ≡ true
      by_host None h = absurd cc
      by_host (Some x) h = by_form (form_of s x) h

  pub is_begun : (s : Sought) (q : ProgramPoint) (d : ℕ) → find (on_host (begins_sought past s)) past ≡ Some (point_of q) → option_and_then (form_of s) (host_of (point_of q).action) ≡ Some d → IsBegun past s (record { defrag = d; point = q })
  is_begun s q d e is = (by_host (host_of (point_of q).action) (found (on_host (begins_sought past s)) past (point_of q) e).1 is, newest_same (form_of s) (is_sought past s) past (point_of q) d e is)
    where
      by_host : (o : Option Entry) → holds o (begins_sought past s) ≡ true → option_and_then (form_of s) o ≡ Some d → is_sought past s d ≡ true
      by_host None h is = absurd cc
      by_host (Some x) h is = sym (ap (λ (o : Option ℕ). holds o (is_sought past s)) is) ∙ h

-- ---- what a walk over the points finds

module _ (past older : Past) (s : Sought) (newest : Option ProgramPoint) (same : older ≡ past) (is : option_map point_of newest ≡ find (on_host (begins_sought past s)) older) where
  pub newest_is : option_map point_of newest ≡ find (on_host (begins_sought past s)) past
  newest_is = is ∙ ap (find (on_host (begins_sought past s))) same

  -- where it finds none there is none
  pub none_there : newest ≡ None → is_there past s ≡ true → ⊥
  none_there none there =
      let bad : false ≡ true = ap (λ (o : Option ProgramPoint). is_some (option_map point_of o)) (sym none) ∙ ap is_some newest_is ∙ there_found past s there in
      no bad

  module _ (q : ProgramPoint) (at : newest ≡ Some q) where
    pub point_is : find (on_host (begins_sought past s)) past ≡ Some (point_of q)
    point_is = sym newest_is ∙ ap (option_map point_of) at

    pub id_is : (o : Option ℕ) → o ≡ option_and_then (form_of s) (host_of (point_of q).action) → o ≡ None → ⊥
    id_is o by none =
        let bad : false ≡ true = ap is_some (sym none) ∙ ap is_some by ∙ sought_id past s (point_of q) point_is in
        no bad

-- ---- what is reported

module _ (past : Past) (b : Begun) where
  pub open_defrag_is : (p : ℕ) → IsBegun past (sought.Defrag p) b → IsOpenDefrag past (record { defrag = b.defrag; pool = p; begun = b.point })
  open_defrag_is p is = record { pool = named (pool_of_defrag past b.defrag) p is.0; begun = is.1 }

  pub any_pass_is : IsBegun past sought.AnyPass b → (is_some (pool_of_defrag past b.defrag) ≡ true) × IsOpenPass past (record { defrag = b.defrag; begun = b.point })
  any_pass_is is = let both = and_parts (is_some (pool_of_defrag past b.defrag)) (in_pass past b.defrag) is.0 in (both.0, record { open_now = both.1; begun = is.1 })

  pub pass_in_is : (p : ℕ) → IsBegun past (sought.PassIn p) b → (pool_of_defrag past b.defrag ≡ Some p) × IsOpenPass past (record { defrag = b.defrag; begun = b.point })
  pass_in_is p is = let both = and_parts (is_of_pool past p b.defrag) (in_pass past b.defrag) is.0 in (named (pool_of_defrag past b.defrag) p both.0, record { open_now = both.1; begun = is.1 })

  pub pass_of_is : (e : ℕ) → IsBegun past (sought.PassOf e) b → (b.defrag ≡ e) × IsOpenPass past (record { defrag = b.defrag; begun = b.point })
  pass_of_is e is = let both = and_parts (b.defrag == e) (in_pass past b.defrag) is.0 in (eqb-true b.defrag e both.0, record { open_now = both.1; begun = is.1 })
