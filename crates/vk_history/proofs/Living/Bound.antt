-- What is bound in each memory object after a point, and ALIASED by it.
use Rattle.std.proofs.Common.{◌≡◌, ⊎_elim, min, ◌/◌, ◌-◌, ◌+◌, ◌≤◌, ◌<◌, ℕ, List, [], ◌∷◌, ◌++◌, Bool, true, false, not, ◌&&◌, ◌||◌, ◌==◌, nat_lt, cond, refl, ap, sym, ◌∙◌, subst, arith, Option, Some, None}
use Rattle.std.specs.Prelude.{Result, Ok, Contains, count_by, is_some, option_and_then, if◌then◌else◌}
use Rattle.std.specs.List.{list_any}
use Rattle.std.specs.Ordering.{nat_cmp}
use Rattle.std.specs.BTreeMap.{get, insert_entry, is_at}
use Rattle.std.specs.Map.{remove_entry}
use Rattle.std.proofs.lemmas.Bool.{eqb-true, eq-eqb, ne_eqb, eqb-false, or_left, ltb-false, lt-ltb, le-leb, cases_lt, false_from_ne_true, or_parts, and_from, not-false}
use Rattle.std.proofs.lemmas.List.Elements.{Contains-append_right}
use Rattle.vk_model.specs.declared.entry.Entry.{Entry}
use Rattle.vk_model.specs.declared.entry.Entry.TheVariants as entry
use Rattle.vk_model.specs.declared.resource.Kind.{Kind}
use Rattle.vk_model.specs.declared.resource.Need.{Need}
use Rattle.vk_model.specs.declared.resource.MemoryInfo.{MemoryInfo}
use Rattle.vk_model.specs.declared.resource.Place.{Place}
use Rattle.vk_model.specs.declared.resource.Place.TheVariants as place
use Rattle.vk_model.specs.declared.rule.Rule.{Rule}
use Rattle.vk_model.specs.declared.rule.Rule.TheVariants as rule
use Rattle.vk_model.specs.Basics.{holds}
use Rattle.vk_model.specs.Memory.Addresses.{need_of}
use Rattle.vk_model.specs.Memory.Suballocation.{conflict, ranges_meet, same_kind, share_page}
use Rattle.vk_model.specs.Trace.Point.{Past, Point, Action, Host, host_of}
use Rattle.vk_model.specs.Trace.Objects.{Resource, of_buffer, of_image, made, live, memory, memory_in, ended_by, live_resources, resource_in, resource, bound_at, pool_at, pool_of, defrag_in}
use Rattle.vk_model.specs.Rules.Ids.{is_memory, is_pool, is_defrag, is_resource, is_dead, is_stray, asked_by, asked_by_entry, lists_stray, until}
use Rattle.vk_model.specs.Rules.Binding as binding
use Rattle.vk_model.specs.Rules.Table.{breaks}
use Rattle.vk_model.proofs.Lists.Members.{contains-head, filter_has, member_passes, any_same}
use Rattle.vk_model.proofs.Lists.Truths.{clash}
use Rattle.vk_buffer.specs.BoundMemory.{BoundMemory, refusal, is_wrong_type, ends_past, is_misplaced, is_aliased, conflicts_with, with_bound, without}
use Rattle.vk_buffer.specs.Requirements.{need_or}
use Rattle.vk_buffer.specs.declared.bindings.BoundResource.{BoundResource}
use Rattle.vk_history.specs.declared.bound.BoundMemories.{BoundMemories}
use Rattle.vk_history.specs.Bound.{AreBound, AreOthers, BindsBy, UnbindsBy, IsBindOf, IsUnbindOf, IsBoundAt, IsBoundIn, IsMadeIn, ChangesBound, count_bound, is_bound}
use Rattle.vk_history.specs.Judged.{IsJudged}
use Rattle.vk_history.proofs.Kept.NextPoint.{unbroken}
use Rattle.vk_history.proofs.Living.Counting.{count_same, among_from, any_counted}
use Rattle.vk_history.proofs.Living.Entries.{none_counted, split_counted, one_counted, has_key, inserted, removed}
use Rattle.vk_history.proofs.Living.LiveIds.{ids, is_alive, ended_alive, none_dead, live_now, made_old, made_new, unmade, resources_make, count_next, made_among}
use Rattle.vk_history.proofs.Living.Occupants.{count_none, none_ended}

-- ---- resources that are bound

abbrev Test : Type 0
Test = ℕ × BoundResource → Bool

module _ (m : ℕ) (t : Test) where
  only : (y : Entry) → is_bound m t (Some y) ≡ true → is_some (resource_in y) ≡ true
  only (entry.Buffer i b) h = refl
  only (entry.Image i n) h = refl
  only _ h = absurd cc

  no_memory : (y : Entry) → is_memory y ≡ true → is_bound m t (Some y) ≡ false
  no_memory (entry.Memory i n) h = refl
  no_memory _ h = absurd cc

  no_pool : (y : Entry) → is_pool y ≡ true → is_bound m t (Some y) ≡ false
  no_pool (entry.Pool i n) h = refl
  no_pool _ h = absurd cc

  no_defrag : (y : Entry) → is_defrag y ≡ true → is_bound m t (Some y) ≡ false
  no_defrag (entry.Defrag i q b n) h = refl
  no_defrag _ h = absurd cc

-- what an entry takes away from a count
abbrev gone : Past → ℕ → Test → Entry → ℕ
gone past m t (entry.Destroy r) = cond (is_bound m t (made past r)) 1 0
gone past m t _ = 0

-- where a resource is, that may not be there
abbrev placed : Option Resource → Option (ℕ × ℕ)
placed o = option_and_then (λ q. bound_at q.place) o

placed_none : (m : ℕ) (t : Test) (o : Option Resource) → placed o ≡ None → holds o (λ r. holds (bound_at r.place) (λ s. m == s.0 && t (s.1, record { size = r.size; kind = r.kind }))) ≡ false
placed_none m t None e = refl
placed_none m t (Some r) e = ap (λ (u : Option (ℕ × ℕ)). holds u (λ s. m == s.0 && t (s.1, record { size = r.size; kind = r.kind }))) e

placed_other : (m n a : ℕ) (t : Test) (o : Option Resource) → placed o ≡ Some (n, a) → (m ≡ n → ⊥) → holds o (λ r. holds (bound_at r.place) (λ s. m == s.0 && t (s.1, record { size = r.size; kind = r.kind }))) ≡ false
placed_other m n a t None e other = absurd cc
placed_other m n a t (Some r) e other = ap (λ (u : Option (ℕ × ℕ)). holds u (λ s. m == s.0 && t (s.1, record { size = r.size; kind = r.kind }))) e ∙ ap (λ b. b && t (a, record { size = r.size; kind = r.kind })) (ne_eqb m n other)

placed_here : (m a : ℕ) (o : Option Resource) → placed o ≡ Some (m, a) → holds o (λ r. holds (bound_at r.place) (λ s. m == s.0 && s.1 == a)) ≡ true
placed_here m a None e = absurd cc
placed_here m a (Some r) e = ap (λ (u : Option (ℕ × ℕ)). holds u (λ s. m == s.0 && s.1 == a)) e ∙ and_from (m == m) (a == a) (eq-eqb m m refl) (eq-eqb a a refl)

-- two tests at once
both_bound : (m : ℕ) (f g : Test) (o : Option Entry) → is_bound m (λ e. f e && g e) o ≡ (is_bound m f o && is_bound m g o)
both_bound m f g o = by_resource (option_and_then resource_in o) where
  parts : (a b c : Bool) → (a && (b && c)) ≡ ((a && b) && (a && c))
  parts true b c = refl
  parts false b c = refl

  by_place : (r : Resource) (u : Option (ℕ × ℕ)) → holds u (λ s. m == s.0 && (f (s.1, record { size = r.size; kind = r.kind }) && g (s.1, record { size = r.size; kind = r.kind })))
      ≡ (holds u (λ s. m == s.0 && f (s.1, record { size = r.size; kind = r.kind })) && holds u (λ s. m == s.0 && g (s.1, record { size = r.size; kind = r.kind })))
  by_place r None = refl
  by_place r (Some s) = parts (m == s.0) (f (s.1, record { size = r.size; kind = r.kind })) (g (s.1, record { size = r.size; kind = r.kind }))

  by_resource : (q : Option Resource) → holds q (λ r. holds (bound_at r.place) (λ s. m == s.0 && (f (s.1, record { size = r.size; kind = r.kind }) && g (s.1, record { size = r.size; kind = r.kind }))))
      ≡ (holds q (λ r. holds (bound_at r.place) (λ s. m == s.0 && f (s.1, record { size = r.size; kind = r.kind }))) && holds q (λ r. holds (bound_at r.place) (λ s. m == s.0 && g (s.1, record { size = r.size; kind = r.kind }))))
  by_resource None = refl
  by_resource (Some r) = by_place r (bound_at r.place)

-- what isn't refused lies in the object, and in conflict with nothing there
unrefused : (s : BoundMemory) (o : ℕ) (need : Need) (k : Kind) → refusal s o need k ≡ None → (ends_past s o need ≡ false) × (is_aliased s o need.size k ≡ false)
unrefused s o need k e = go (is_wrong_type s need) (ends_past s o need) (is_misplaced s o need) (is_aliased s o need.size k) e where
  go : (a b c d : Bool) → ◌≡◌ {A = Option Rule} (if a then Some rule.MemoryType else (if b then Some rule.BindRange else (if c then Some rule.BindAlign else (if d then Some rule.Aliased else None)))) None → (b ≡ false) × (d ≡ false)
  go true b c d e = absurd cc
  go false true c d e = absurd cc
  go false false true d e = absurd cc
  go false false false true e = absurd cc
  go false false false false e = (refl, refl)

module _ (past : Past) (p : Point) (j : IsJudged (p ∷ past)) where
  -- a resource that an end of a pass destroys is in a pool
  pooled : (o : Option Resource) (f : ℕ → Bool) → holds (option_and_then (λ r. pool_at r.place) o) f ≡ true → placed o ≡ None
  pooled None f h = refl
  pooled (Some r) f h = by_place r.place h where
    by_place : (q : Place) → holds (pool_at q) f ≡ true → bound_at q ≡ None
    by_place (place.Memory m a) h = absurd cc
    by_place (place.Pool q) h = refl
    by_place (place.PoolUpper q) h = refl
    by_place (place.Dedicated t) h = refl

  lost_unbound : (d : ℕ) (kept lost : List ℕ) → p.action ≡ Host (entry.EndPass d kept lost) → (m : ℕ) (t : Test) (i : ℕ) → Contains lost i → is_bound m t (made past i) ≡ false
  lost_unbound d kept lost is m t i c =
      let stray = (or_parts (list_any (is_dead past) (asked_by_entry (entry.EndPass d kept lost))) (lists_stray past (entry.EndPass d kept lost)) (subst (λ (e : Action). (list_any (is_dead (if is_some (host_of e) then past else until p.entry past)) (asked_by e) || holds (host_of e) (lists_stray past)) ≡ false) is (live_now past p j))).1 in
      let within = not-false (holds (pool_of past i) (λ q. holds (option_and_then defrag_in (live past d)) (λ u. q == u))) (false_from_ne_true (is_stray past d i) (λ h. clash (member_passes (is_stray past d) (kept ++ lost) i (Contains-append_right kept lost i c) h) stray)) in
      placed_none m t (resource past i) (pooled (resource past i) (λ q. holds (option_and_then defrag_in (live past d)) (λ u. q == u)) within)

  gone_count : (x : Entry) → p.action ≡ Host x → (m : ℕ) (t : Test) → count_by (λ i. is_bound m t (made past i)) (ended_by x) ≡ gone past m t x
  gone_count (entry.Free n) is m t = none_ended past p j (entry.Free n) is (is_bound m t) (no_memory m t)
  gone_count (entry.DropPool q) is m t = none_ended past p j (entry.DropPool q) is (is_bound m t) (no_pool m t)
  gone_count (entry.EndDefrag d) is m t = none_ended past p j (entry.EndDefrag d) is (is_bound m t) (no_defrag m t)
  gone_count (entry.EndPass d kept lost) is m t = count_none (λ i. is_bound m t (made past i)) lost (λ i c. lost_unbound d kept lost is m t i c)
  gone_count (entry.Destroy r) is m t = omega arith
  gone_count _ is m t = refl

  next : (x : Entry) → p.action ≡ Host x → (m : ℕ) (t : Test) → count_bound (p ∷ past) m t + gone past m t x ≡ count_bound past m t + cond (is_bound m t (Some x)) 1 0
  next x is m t =
      let all = count_next past p j x is resource_in resources_make (is_bound m t) refl (only m t) in
      let same = gone_count x is m t in
      omega (arith, all, same)

  still_memory : (m : ℕ) → is_some (memory past m) ≡ true → is_some (memory (p ∷ past) m) ≡ true
  still_memory m h = ap (λ (o : Option Entry). is_some (option_and_then memory_in o)) (made_old past p j m (there (made past m) h)) ∙ h where
    there : (o : Option Entry) → is_some (option_and_then memory_in o) ≡ true → is_some o ≡ true
    there None h = absurd cc
    there (Some y) h = refl

  -- what is bound in an object stays, where no count changes
  kept : (o : Option BoundMemory) (m : ℕ) → ((t : Test) → count_bound (p ∷ past) m t ≡ count_bound past m t) → IsBoundAt o past m → IsBoundAt o (p ∷ past) m
  kept None m same none = λ t. same t ∙ none t
  kept (Some s) m same is = record { made = still_memory m is.made; counts = λ t. is.counts t ∙ sym (same t); offsets = is.offsets; sizes = is.sizes; ends = is.ends; limit = is.limit }

  kept_in : (old new : BoundMemories) (m : ℕ) → get nat_cmp new.memories m ≡ get nat_cmp old.memories m → ((t : Test) → count_bound (p ∷ past) m t ≡ count_bound past m t) → AreBound old past → IsBoundAt (get nat_cmp new.memories m) (p ∷ past) m
  kept_in old new m same counts are = subst (λ (o : Option BoundMemory). IsBoundAt o (p ∷ past) m) (sym same) (kept (get nat_cmp old.memories m) m counts (are m))

  -- ---- a resource is bound

  module _ (x : Entry) (is : p.action ≡ Host x) (r : Resource) (makes : resource_in x ≡ Some r) (none_gone : (m : ℕ) (t : Test) → gone past m t x ≡ 0) where
    abbrev value : BoundResource
    value = record { size = r.size; kind = r.kind }

    more : (m : ℕ) (t : Test) → count_bound (p ∷ past) m t ≡ count_bound past m t + cond (is_bound m t (Some x)) 1 0
    more m t = let all = next x is m t in let none = none_gone m t in omega (arith, all, none)

    unbound : (m : ℕ) (t : Test) → is_bound m t (Some x) ≡ false → count_bound (p ∷ past) m t ≡ count_bound past m t
    unbound m t fails = let all = more m t in let none : ◌≡◌ {A = ℕ} (cond (is_bound m t (Some x)) 1 0) 0 = ap (λ b. cond b 1 0) fails in omega (arith, all, none)

    bound_in : (s : BoundMemory) (m a : ℕ) → bound_at r.place ≡ Some (m, a) → IsBoundIn s past m → refusal s a (need_of r) r.kind ≡ None → 0 < r.size → IsBoundIn (with_bound s a value) (p ∷ past) m
    bound_in s m a at are free some = record {
      made = still_memory m are.made;
      counts = λ t.
          let here : is_bound m t (Some x) ≡ t (a, value) = ap (λ (o : Option Resource). holds o (λ q. holds (bound_at q.place) (λ u. m == u.0 && t (u.1, record { size = q.size; kind = q.kind })))) makes ∙ ap (λ (o : Option (ℕ × ℕ)). holds o (λ u. m == u.0 && t (u.1, value))) at ∙ ap (λ b. b && t (a, value)) (eq-eqb m m refl) in
          let same : ◌≡◌ {A = ℕ} (cond (is_bound m t (Some x)) 1 0) (cond (t (a, value)) 1 0) = ap (λ b. cond b 1 0) here in
          let all = more m t in
          let put = ins t in
          let was = are.counts t in
          omega (arith, same, all, put, was);
      offsets = λ q. at_most q (a == q) refl;
      sizes =
          let put = ins (λ e. e.1.size == 0) in
          let none : ◌≡◌ {A = ℕ} (cond (r.size == 0) 1 0) 0 = ap (λ b. cond b 1 0) (ne_eqb r.size 0 (λ e. omega (arith, e, some))) in
          let was = are.sizes in
          omega (arith, put, none, was);
      ends =
          let put = ins (λ e. nat_lt s.size (e.0 + e.1.size)) in
          let none : ◌≡◌ {A = ℕ} (cond (nat_lt s.size (a + r.size)) 1 0) 0 = ap (λ b. cond b 1 0) (unrefused s a (need_of r) r.kind free).0 in
          let was = are.ends in
          omega (arith, put, none, was);
      limit = are.limit;
    } where
      meets : (e : ℕ × BoundResource) → 0 < e.1.size → (e.0 == a) ≡ true → conflicts_with a r.size r.kind e ≡ true
      meets e size h =
          let same : e.0 ≡ a = eqb-true e.0 a h in
          or_left (ranges_meet a r.size e.0 e.1.size) (not (same_kind r.kind e.1.kind) && share_page a r.size e.0 e.1.size)
          (and_from _ _ (and_from _ _ (and_from _ _ (lt-ltb 0 r.size some) (lt-ltb 0 e.1.size size)) (lt-ltb a (e.0 + e.1.size) (omega (arith, same, size)))) (lt-ltb e.0 (a + r.size) (omega (arith, same, some))))

      absent : count_by (has_key a) s.bound ≡ 0
      absent = count_none (has_key a) s.bound (λ e c. false_from_ne_true (has_key a e) (λ h.
          let not_zero = eqb-false e.1.size 0 (none_counted (λ d. d.1.size == 0) s.bound e are.sizes c) in
          let size : 0 < e.1.size = omega (arith, not_zero) in
          clash (member_passes (conflicts_with a r.size r.kind) s.bound e c (meets e size h)) (unrefused s a (need_of r) r.kind free).1))

      ins : (t : Test) → count_by t (insert_entry nat_cmp s.bound a value) ≡ cond (t (a, value)) 1 0 + count_by t s.bound
      ins t = inserted t a value s.bound absent

      at_most : (q : ℕ) (b : Bool) → (a == q) ≡ b → count_by (has_key q) (insert_entry nat_cmp s.bound a value) ≤ 1
      at_most q true e =
          let put = ins (has_key q) in
          let one : ◌≡◌ {A = ℕ} (cond (a == q) 1 0) 1 = ap (λ b. cond b 1 0) e in
          let none : count_by (has_key q) s.bound ≡ 0 = ap (λ k. count_by (has_key k) s.bound) (sym (eqb-true a q e)) ∙ absent in
          omega (arith, put, one, none)
      at_most q false e =
          let put = ins (has_key q) in
          let zero : ◌≡◌ {A = ℕ} (cond (a == q) 1 0) 0 = ap (λ b. cond b 1 0) e in
          let was = are.offsets q in
          omega (arith, put, zero, was)

    bound_at_place : (old new : BoundMemories) (m a : ℕ) → bound_at r.place ≡ Some (m, a) → (u v : Option BoundMemory) → IsBindOf u v a (need_of r) r.kind → IsBoundAt u past m → IsBoundAt v (p ∷ past) m
    bound_at_place old new m a at None v by are = absurd by
    bound_at_place old new m a at (Some s) v by are = subst (λ (o : Option BoundMemory). IsBoundAt o (p ∷ past) m) (sym by.2) (bound_in s m a at are by.0 by.1)

    pub binds : (old new : BoundMemories) → BindsBy old new r → AreBound old past → AreBound new (p ∷ past)
    binds old new by are = λ m. go m (bound_at r.place) refl where
      go : (m : ℕ) (o : Option (ℕ × ℕ)) → bound_at r.place ≡ o → IsBoundAt (get nat_cmp new.memories m) (p ∷ past) m
      go m None at = kept_in old new m (by.nowhere at m) (λ t. unbound m t (ap (λ (o : Option Resource). holds o (λ q. holds (bound_at q.place) (λ u. m == u.0 && t (u.1, record { size = q.size; kind = q.kind })))) makes ∙ placed_none m t (Some r) at)) are
      go m (Some s) at = pick (m == s.0) refl where
        pick : (b : Bool) → (m == s.0) ≡ b → IsBoundAt (get nat_cmp new.memories m) (p ∷ past) m
        pick true e =
            let here : bound_at r.place ≡ Some (m, s.1) = at ∙ ap (λ (k : ℕ). Some (k, s.1)) (sym (eqb-true m s.0 e)) in
            bound_at_place old new m s.1 here (get nat_cmp old.memories m) (get nat_cmp new.memories m) ((by.here m s.1 here).0) (are m)
        pick false e = kept_in old new m ((by.here s.0 s.1 at).1 m (eqb-false m s.0 e)) (λ t. unbound m t (ap (λ (o : Option Resource). holds o (λ q. holds (bound_at q.place) (λ u. m == u.0 && t (u.1, record { size = q.size; kind = q.kind })))) makes ∙ placed_other m s.0 s.1 t (Some r) at (eqb-false m s.0 e))) are

  -- ---- a resource ends

  module _ (r : ℕ) (is : p.action ≡ Host (entry.Destroy r)) where
    less : (m : ℕ) (t : Test) → count_bound (p ∷ past) m t + cond (is_bound m t (made past r)) 1 0 ≡ count_bound past m t
    less m t = let all = next (entry.Destroy r) is m t in omega (arith, all)

    unfound : (m : ℕ) (t : Test) → is_bound m t (made past r) ≡ false → count_bound (p ∷ past) m t ≡ count_bound past m t
    unfound m t fails = let all = less m t in let none : ◌≡◌ {A = ℕ} (cond (is_bound m t (made past r)) 1 0) 0 = ap (λ b. cond b 1 0) fails in omega (arith, all, none)

    alive : Contains (live_resources past) r
    alive =
        let it = is_alive past r is_resource (ended_alive past (entry.Destroy r) r (none_dead past p j (entry.Destroy r) is) (contains-head r [])) in
        let there : live past r ≡ Some it.object = rw (it.unended, it.made_it) refl in
        filter_has (λ i. is_some (option_and_then resource_in (live past i))) (ids past) r (among_from r (ids past) (sym (made_among past r) ∙ ap is_some it.made_it)) (rw there it.is_kind)

    left_in : (s : BoundMemory) (m a : ℕ) → placed (resource past r) ≡ Some (m, a) → IsBoundIn s past m → IsBoundIn (without s a) (p ∷ past) m
    left_in s m a at are = record {
      made = still_memory m are.made;
      counts = counts;
      offsets = λ q. let now = counts (has_key q) in let all = less m (has_key q) in let was = are.counts (has_key q) in let most = are.offsets q in omega (arith, now, all, was, most);
      sizes = let now = counts (λ e. e.1.size == 0) in let all = less m (λ e. e.1.size == 0) in let was = are.counts (λ e. e.1.size == 0) in let none = are.sizes in omega (arith, now, all, was, none);
      ends = let now = counts (λ e. nat_lt s.size (e.0 + e.1.size)) in let all = less m (λ e. nat_lt s.size (e.0 + e.1.size)) in let was = are.counts (λ e. nat_lt s.size (e.0 + e.1.size)) in let none = are.ends in omega (arith, now, all, was, none);
      limit = are.limit;
    } where
      counts : (t : Test) → count_by t (remove_entry (is_at (nat_cmp a)) s.bound) ≡ count_bound (p ∷ past) m t
      counts t =
          let left = removed t a s.bound (are.offsets a) in
          let parts = split_counted t (λ e. not (has_key a e) && t e) (λ e. has_key a e && t e) s.bound (λ e. halves (has_key a e) (t e)) in
          let here = are.counts (λ e. has_key a e && t e) in
          let both = count_same (λ i. is_bound m (λ e. has_key a e && t e) (made past i)) (λ i. is_bound m (has_key a) (made past i) && is_bound m t (made past i)) (live_resources past) (λ i c. both_bound m (has_key a) t (made past i)) in
          let keyed = are.counts (has_key a) in
          let most = are.offsets a in
          let few : count_bound past m (has_key a) ≤ 1 = omega (arith, keyed, most) in
          let one = one_counted (λ i. is_bound m (has_key a) (made past i)) (λ i. is_bound m t (made past i)) (live_resources past) r alive (placed_here m a (resource past r) at) few in
          let was = are.counts t in
          let all = less m t in
          omega (arith, left, parts, here, both, one, was, all)
        where
          halves : (a b : Bool) → ◌≡◌ {A = ℕ} (cond b 1 0) (cond (not a && b) 1 0 + cond (a && b) 1 0)
          halves true true = omega arith
          halves true false = omega arith
          halves false true = omega arith
          halves false false = omega arith

    left_at : (m a : ℕ) → placed (resource past r) ≡ Some (m, a) → (u v : Option BoundMemory) → IsUnbindOf u v a → IsBoundAt u past m → IsBoundAt v (p ∷ past) m
    left_at m a at None v by none = subst (λ (o : Option BoundMemory). IsBoundAt o (p ∷ past) m) (sym by) (λ t. let all = less m t in let was = none t in omega (arith, all, was))
    left_at m a at (Some s) v by are = subst (λ (o : Option BoundMemory). IsBoundAt o (p ∷ past) m) (sym by) (left_in s m a at are)

    pub unbinds : (old new : BoundMemories) → UnbindsBy old new (placed (resource past r)) → AreBound old past → AreBound new (p ∷ past)
    unbinds old new by are = λ m. go m (placed (resource past r)) refl where
      go : (m : ℕ) (o : Option (ℕ × ℕ)) → placed (resource past r) ≡ o → IsBoundAt (get nat_cmp new.memories m) (p ∷ past) m
      go m None at = kept_in old new m (by.nowhere at m) (λ t. unfound m t (placed_none m t (resource past r) at)) are
      go m (Some s) at = pick (m == s.0) refl where
        pick : (b : Bool) → (m == s.0) ≡ b → IsBoundAt (get nat_cmp new.memories m) (p ∷ past) m
        pick true e =
            let here : placed (resource past r) ≡ Some (m, s.1) = at ∙ ap (λ (k : ℕ). Some (k, s.1)) (sym (eqb-true m s.0 e)) in
            left_at m s.1 here (get nat_cmp old.memories m) (get nat_cmp new.memories m) ((by.here m s.1 here).0) (are m)
        pick false e = kept_in old new m ((by.here s.0 s.1 at).1 m (eqb-false m s.0 e)) (λ t. unfound m t (placed_other m s.0 s.1 t (resource past r) at (eqb-false m s.0 e))) are

  -- ---- a memory object is made

  module _ (i : ℕ) (info : MemoryInfo) (is : p.action ≡ Host (entry.Memory i info)) where
    same_counts : (m : ℕ) (t : Test) → count_bound (p ∷ past) m t ≡ count_bound past m t
    same_counts m t = let all = next (entry.Memory i info) is m t in omega (arith, all)

    none_there : (o : Option BoundMemory) → IsBoundAt o past i → (t : Test) → count_bound past i t ≡ 0
    none_there None none t = none t
    none_there (Some s) are t = clash (there (made past i) are.made) (unmade past p j (entry.Memory i info) is i refl) where
      there : (o : Option Entry) → is_some (option_and_then memory_in o) ≡ true → is_some o ≡ true
      there None h = absurd cc
      there (Some y) h = refl

    small : info.size ≤ 67108864
    unfolding breaks
    small = ltb-false 67108864 info.size (or_parts (info.size == 0) (nat_lt 67108864 info.size) (rw is at (unbroken past p j.faultless rule.MemorySize))).1

    new_memory : (old : BoundMemories) → AreBound old past → IsBoundIn (record { size = info.size; memory_type = info.memory_type; bound = [] }) (p ∷ past) i
    new_memory old are = record {
      made = ap (λ (o : Option Entry). is_some (option_and_then memory_in o)) (made_new past p j (entry.Memory i info) is i refl);
      counts = λ t. sym (same_counts i t ∙ none_there (get nat_cmp old.memories i) (are i) t);
      offsets = λ o. omega arith;
      sizes = refl;
      ends = refl;
      limit = small;
    }

    makes_memory : (old new : BoundMemories) → IsMadeIn old new i info → AreBound old past → AreBound new (p ∷ past)
    makes_memory old new by are = λ m. pick m (m == i) refl where
      pick : (m : ℕ) (b : Bool) → (m == i) ≡ b → IsBoundAt (get nat_cmp new.memories m) (p ∷ past) m
      pick m true e = subst (λ (k : ℕ). IsBoundAt (get nat_cmp new.memories k) (p ∷ past) k) (sym (eqb-true m i e)) (subst (λ (o : Option BoundMemory). IsBoundAt o (p ∷ past) i) (sym by.here) (new_memory old are))
      pick m false e = kept_in old new m (by.others m (eqb-false m i e)) (same_counts m) are

  -- ---- any point

  stay : (x : Entry) → p.action ≡ Host x → ((m : ℕ) (t : Test) → gone past m t x ≡ 0) → ((m : ℕ) (t : Test) → is_bound m t (Some x) ≡ false) → (old new : BoundMemories) → ((m : ℕ) → get nat_cmp new.memories m ≡ get nat_cmp old.memories m) → AreBound old past → AreBound new (p ∷ past)
  stay x is no_end no_bind old new same are = λ m. kept_in old new m (same m) (λ t.
      let all = next x is m t in
      let none = no_end m t in
      let none_too : ◌≡◌ {A = ℕ} (cond (is_bound m t (Some x)) 1 0) 0 = ap (λ b. cond b 1 0) (no_bind m t) in
      omega (arith, all, none, none_too)) are

  pub host_bound : (x : Entry) → p.action ≡ Host x → (old new : BoundMemories) → ChangesBound past x old new → AreBound old past → AreBound new (p ∷ past)
  host_bound (entry.Memory i info) is old new by are = makes_memory i info is old new by are
  host_bound (entry.Buffer i b) is old new by are = binds (entry.Buffer i b) is (of_buffer b) refl (λ m t. refl) old new by are
  host_bound (entry.Image i n) is old new by are = binds (entry.Image i n) is (of_image n) refl (λ m t. refl) old new by are
  host_bound (entry.Destroy r) is old new by are = unbinds r is old new by are
  host_bound x is old new by are = stay x is (λ m t. refl) (λ m t. refl) old new by are

  pub quiet_bound : host_of p.action ≡ None → (old : BoundMemories) → AreBound old past → AreBound old (p ∷ past)
  quiet_bound quiet old are = λ m. kept_in old old m refl (λ t. rw quiet refl) are

-- ---- what a call binds

pub answered : (u : Option Rule) (n need : Need) → ◌≡◌ {A = Result Need Rule} (Ok need) (need_or u n) → need ≡ n
answered None n need e = cc
answered (Some r) n need e = absurd cc

pub bound_by : (old new : BoundMemories) (r : Resource) (m a : ℕ) (need : Need) (k : Kind) → bound_at r.place ≡ Some (m, a) → need ≡ need_of r → k ≡ r.kind → IsBindOf (get nat_cmp old.memories m) (get nat_cmp new.memories m) a need k → AreOthers old new m → BindsBy old new r
bound_by old new r m a need k at need_is kind_is by others = record {
  here = λ n b e.
      let same : ◌≡◌ {A = ℕ × ℕ} (m, a) (n, b) = inside (sym at ∙ e) in
      subst (λ (s : ℕ × ℕ). IsBindOf (get nat_cmp old.memories s.0) (get nat_cmp new.memories s.0) s.1 (need_of r) r.kind × AreOthers old new s.0) same
      (subst (λ (l : Kind). IsBindOf (get nat_cmp old.memories m) (get nat_cmp new.memories m) a (need_of r) l) kind_is (subst (λ (d : Need). IsBindOf (get nat_cmp old.memories m) (get nat_cmp new.memories m) a d k) need_is by), others);
  nowhere = λ e. absurd (let bad : ◌≡◌ {A = Option (ℕ × ℕ)} (Some (m, a)) None = sym at ∙ e in cc);
} where
  inside : {A : Type 0} {x y : A} → Some x ≡ Some y → x ≡ y
  inside e = cc

-- ---- ALIASED

-- a range is as good as one that ends just past the greatest object
conflict_same : (k : Kind) (o n : ℕ) (l : Kind) (b m : ℕ) → b + m ≤ 67108864 → conflict k o (min n 67108865) l b m ≡ conflict k o n l b m
conflict_same k o n l b m fits = ⊎_elim
    (λ small. let same : min n 67108865 ≡ n = omega (arith, small) in ap (λ s. conflict k o s l b m) same)
    (λ large.
    let most : min n 67108865 ≡ 67108865 = omega (arith, large) in
    let least : 67108865 ≤ n = omega (arith, large) in
    ap (λ s. conflict k o s l b m) most ∙ both 67108865 n (omega arith) least)
    (cases_lt n 67108866)
  where
    both : (s n : ℕ) → 67108865 ≤ s → 67108865 ≤ n → conflict k o s l b m ≡ conflict k o n l b m
    both s n from_s from_n =
        rw (
          lt-ltb 0 s (omega (arith, from_s)),
          lt-ltb 0 n (omega (arith, from_n)),
          lt-ltb b (o + s) (omega (arith, from_s, fits)),
          lt-ltb b (o + n) (omega (arith, from_n, fits)),
          le-leb (b / 1024) ((o + s - 1) / 1024) (omega (arith, from_s, fits)),
          le-leb (b / 1024) ((o + n - 1) / 1024) (omega (arith, from_n, fits)),
        ) refl

pub aliased_there : (s : BoundMemory) (past : Past) (m o n : ℕ) (r : Resource) → IsBoundIn s past m → n ≡ min r.size 67108865 → is_aliased s o n r.kind ≡ binding.is_aliased past r m o
aliased_there s past m o n r are n_is =
    ap (λ z. is_aliased s o z r.kind) n_is
    ∙ any_same (conflicts_with o (min r.size 67108865) r.kind) (conflicts_with o r.size r.kind) s.bound (λ e c.
    let inside : e.0 + e.1.size ≤ s.size = ltb-false s.size (e.0 + e.1.size) (none_counted (λ d. nat_lt s.size (d.0 + d.1.size)) s.bound e are.ends c) in
    let limit = are.limit in
    conflict_same r.kind o r.size e.1.kind e.0 e.1.size (omega (arith, inside, limit)))
    ∙ any_counted (conflicts_with o r.size r.kind) s.bound ∙ ap (nat_lt 0) (are.counts (conflicts_with o r.size r.kind))
    ∙ sym (any_counted (λ i. is_bound m (conflicts_with o r.size r.kind) (made past i)) (live_resources past))

pub aliased_nowhere : (past : Past) (m o : ℕ) (r : Resource) → IsBoundAt None past m → false ≡ binding.is_aliased past r m o
aliased_nowhere past m o r none = sym (any_counted (λ i. is_bound m (conflicts_with o r.size r.kind) (made past i)) (live_resources past) ∙ ap (nat_lt 0) (none (conflicts_with o r.size r.kind)))
