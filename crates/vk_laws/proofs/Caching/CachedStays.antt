-- Whether the host caches a resource stays as it was when the resource was made.
use Rattle.std.proofs.Common.{◌≡◌, ℕ, List, [], ◌∷◌, ◌++◌, Bool, true, false, cond, IsTrue, Option, Some, None, refl, ap, sym, ◌∙◌, subst}
use Rattle.std.specs.Prelude.{Contains, ◌==◌, is_some, option_and_then, option_map, if◌then◌else◌}
use Rattle.std.specs.List.{find, cons_option}
use Rattle.std.proofs.lemmas.Bool.{or_left}
use Rattle.vk_model.specs.declared.entry.Entry.{Entry}
use Rattle.vk_model.specs.declared.entry.Entry.TheVariants as entry
use Rattle.vk_model.specs.declared.resource.Place.{Place}
use Rattle.vk_model.specs.declared.resource.Place.TheVariants as place
use Rattle.vk_model.specs.Basics.{holds}
use Rattle.vk_model.specs.Trace.Point.{Past, Action, Host, Wait, Run, Signal, host_of, entries}
use Rattle.vk_model.specs.Trace.Objects.{made_by, made, live, Resource, resource_in, pool_in, memory_in, type_at, is_cached}
use Rattle.vk_model.specs.Rules.Ids.{is_dead, asked_by, asked_by_entry, asked_by_place, is_pool, is_memory, judged_in, until}
use Rattle.vk_model.specs.Rules.Fault.{newest, older}
use Rattle.vk_model.proofs.Lists.Members.{contains-head, member_passes}
use Rattle.vk_model.proofs.Lists.Truths.{unless}
use Rattle.vk_laws.proofs.Nodes.Steady.{IsNew, made_step, made_up, live_made, IsLive}

-- the pool or memory object of a resource was made
abbrev PlaceMade : Past → Place → Type 0
PlaceMade past p = (i : ℕ) (k : Entry → Bool) → Contains (asked_by_place p) (i, k) → (x : Entry) × (made past i ≡ Some x)

asked_place : (x : Entry) (r : Resource) → resource_in x ≡ Some r → asked_by_entry x ≡ asked_by_place r.place
asked_place (entry.Buffer i b) r e = ap (λ (s : Option Resource). elim s [ None ↦ [] | Some r ↦ asked_by_place r.place ]) e
asked_place (entry.Image i m) r e = ap (λ (s : Option Resource). elim s [ None ↦ [] | Some r ↦ asked_by_place r.place ]) e
asked_place _ r e = absurd cc

place_made : (past : Past) (i : ℕ) (x : Entry) (r : Resource) → IsNew past → IsLive past → made past i ≡ Some x → resource_in x ≡ Some r → PlaceMade past r.place
place_made [] i x r new alive is res = absurd cc
place_made (q ∷ past) i x r new alive is res = go (λ e. place_made past i x r (λ b s c. new b s (older c)) (λ b s c. alive b s (older c)) e res) q.action refl is
  where
    up : PlaceMade past r.place → PlaceMade (q ∷ past) r.place
    up rest j k c = let m = rest j k c in (m.0, made_step past q j m.0 (new past q newest) m.1)

    here : (y : Entry) → q.action ≡ Host y → y ≡ x → PlaceMade (q ∷ past) r.place
    here y action same = up (λ j k c.
        let asked : Contains (asked_by q.action) (j, k) = subst (λ (d : Action). Contains (asked_by d) (j, k)) (sym action) (subst (λ (l : List (ℕ × (Entry → Bool))). Contains l (j, k)) (sym (asked_place y r (ap resource_in same ∙ res))) c) in
        let judged : judged_in past q ≡ past = ap (λ (d : Action). if is_some (host_of d) then past else until q.entry past) action in
        live_made past j k (unless (holds (live past j) k) (λ dead.
        alive past q newest (or_left _ _ (member_passes (is_dead (judged_in past q)) (asked_by q.action) (j, k) asked (subst (λ (l : Past). IsTrue (is_dead l (j, k))) (sym judged) dead))))))

    by_id : (made past i ≡ Some x → PlaceMade past r.place) → (y : Entry) → q.action ≡ Host y → (b : Bool) → cond b (Some y) (made past i) ≡ Some x → PlaceMade (q ∷ past) r.place
    by_id rest y action true e = here y action (let same : y ≡ x = cc in same)
    by_id rest y action false e = up (rest e)

    go : (made past i ≡ Some x → PlaceMade past r.place) → (d : Action) → q.action ≡ d → find (λ x. holds (made_by x) (λ j. i == j)) (cons_option (host_of d) (entries past)) ≡ Some x → PlaceMade (q ∷ past) r.place
    go rest (Host y) action e = by_id rest y action (holds (made_by y) (λ j. i == j)) e
    go rest (Wait s) action e = up (rest e)
    go rest (Run c) action e = up (rest e)
    go rest (Signal s) action e = up (rest e)

module _ (more past : Past) (new : IsNew (more ++ past)) (alive : IsLive past) (new_past : IsNew past) where
  same_made : (i : ℕ) (x : Entry) → made past i ≡ Some x → made (more ++ past) i ≡ made past i
  same_made i x is = made_up more past i x new is ∙ sym is

  type_stays : (p : Place) → PlaceMade past p → type_at (more ++ past) p ≡ type_at past p
  type_stays (place.Dedicated t) known = refl
  type_stays (place.Pool q) known = let m = known q is_pool (contains-head (q, is_pool) []) in ap (λ (o : Option Entry). option_map (λ x. x.memory_type) (option_and_then pool_in o)) (same_made q m.0 m.1)
  type_stays (place.PoolUpper q) known = let m = known q is_pool (contains-head (q, is_pool) []) in ap (λ (o : Option Entry). option_map (λ x. x.memory_type) (option_and_then pool_in o)) (same_made q m.0 m.1)
  type_stays (place.Memory m o) known = let k = known m is_memory (contains-head (m, is_memory) []) in ap (λ (o : Option Entry). option_map (λ x. x.memory_type) (option_and_then memory_in o)) (same_made m k.0 k.1)

  pub cached_stays : (i : ℕ) (x : Entry) → made past i ≡ Some x → is_cached (more ++ past) i ≡ is_cached past i
  cached_stays i x is = ap (λ (t : Option ℕ). holds t (λ u. u == 2)) (ap (λ (o : Option Entry). option_and_then (λ r. type_at (more ++ past) r.place) (option_and_then resource_in o)) (made_up more past i x new is)
      ∙ by_resource (resource_in x) refl
      ∙ sym (ap (λ (o : Option Entry). option_and_then (λ r. type_at past r.place) (option_and_then resource_in o)) is))
    where
      by_resource : (o : Option Resource) → resource_in x ≡ o → option_and_then (λ r. type_at (more ++ past) r.place) (resource_in x) ≡ option_and_then (λ r. type_at past r.place) (resource_in x)
      by_resource None e = rw e refl
      by_resource (Some r) e = rw e (type_stays r.place (place_made past i x r new_past alive is e))
