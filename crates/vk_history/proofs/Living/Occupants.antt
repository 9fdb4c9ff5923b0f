-- Live resources by where they are, after a point.
use Rattle.std.proofs.Common.{◌≡◌, ◌+◌, ◌-◌, ℕ, List, [], ◌∷◌, Bool, true, false, cond, refl, ap, ◌∙◌, arith, Option, Some, None}
use Rattle.std.specs.Prelude.{Contains, count_by, is_some, option_and_then}
use Rattle.vk_model.specs.declared.entry.Entry.{Entry}
use Rattle.vk_model.specs.declared.entry.Entry.TheVariants as entry
use Rattle.vk_model.specs.declared.resource.Place.{Place}
use Rattle.vk_model.specs.Trace.Point.{Past, Point, Host, host_of}
use Rattle.vk_model.specs.Trace.Objects.{made, ended_by, live_resources, resource_in, memory_of, pool_of, pool_at}
use Rattle.vk_model.specs.Rules.Ids.{is_memory, is_pool, is_defrag}
use Rattle.vk_model.proofs.Lists.Members.{contains-head, contains-tail}
use Rattle.vk_history.specs.declared.occupants.Occupants.{Occupants}
use Rattle.vk_history.specs.Counted.{AreOccupants, OccupiesBy, count_at, destroyed_by, is_id, memory_at}
use Rattle.vk_history.specs.Judged.{IsJudged}
use Rattle.vk_history.proofs.Living.Counting.{count-cons}
use Rattle.vk_history.proofs.Living.LiveIds.{ends_as, is_alive, ended_alive, none_dead, resources_make, count_next}

-- a count where nothing passes
pub count_none : {A : Type 0} (f : A → Bool) (xs : List A) → ((x : A) → Contains xs x → f x ≡ false) → count_by f xs ≡ 0
count_none f [] none = refl
count_none f (x ∷ xs) none =
    let rest = count_none f xs (λ y c. none y (contains-tail x xs y c)) in
    let fails : ◌≡◌ {A = ℕ} (cond (f x) 1 0) 0 = ap (λ b. cond b 1 0) (none x (contains-head x xs)) in
    let first = count-cons f x xs in
    omega (arith, first, fails, rest)

-- what an entry ends passes no test that no object of its kind does
pub none_ended : (past : Past) (p : Point) (j : IsJudged (p ∷ past)) (x : Entry) (is : p.action ≡ Host x) (test : Option Entry → Bool) → ((y : Entry) → ends_as x y ≡ true → test (Some y) ≡ false)
    → count_by (λ i. test (made past i)) (ended_by x) ≡ 0
none_ended past p j x is test none = count_none (λ i. test (made past i)) (ended_by x) (λ i c.
    let it = is_alive past i (ends_as x) (ended_alive past x i (none_dead past p j x is) c) in
    ap test it.made_it ∙ none it.object it.is_kind)

-- whether an object is a resource at an id
module _ (at : Place → Option ℕ) (k : ℕ) where
  abbrev at_id : Option Entry → Bool
  at_id o = is_id k (option_and_then (λ r. at r.place) (option_and_then resource_in o))

  only : (y : Entry) → at_id (Some y) ≡ true → is_some (resource_in y) ≡ true
  only (entry.Buffer i b) h = refl
  only (entry.Image i m) h = refl
  only _ h = absurd cc

  no_memory : (y : Entry) → is_memory y ≡ true → at_id (Some y) ≡ false
  no_memory (entry.Memory i m) h = refl
  no_memory _ h = absurd cc

  no_pool : (y : Entry) → is_pool y ≡ true → at_id (Some y) ≡ false
  no_pool (entry.Pool i m) h = refl
  no_pool _ h = absurd cc

  no_defrag : (y : Entry) → is_defrag y ≡ true → at_id (Some y) ≡ false
  no_defrag (entry.Defrag i q b m) h = refl
  no_defrag _ h = absurd cc

  module _ (past : Past) (p : Point) (j : IsJudged (p ∷ past)) where
    -- only resources that are destroyed count among what is ended
    destroyed_count : (x : Entry) → p.action ≡ Host x → count_by (λ i. at_id (made past i)) (ended_by x) ≡ count_by (λ i. at_id (made past i)) (destroyed_by x)
    destroyed_count (entry.Free m) is = none_ended past p j (entry.Free m) is at_id no_memory
    destroyed_count (entry.DropPool q) is = none_ended past p j (entry.DropPool q) is at_id no_pool
    destroyed_count (entry.EndDefrag d) is = none_ended past p j (entry.EndDefrag d) is at_id no_defrag
    destroyed_count (entry.Destroy r) is = refl
    destroyed_count (entry.EndPass d kept lost) is = refl
    destroyed_count _ is = refl

    -- a count after a host entry
    host_count : (x : Entry) → p.action ≡ Host x → (old new : ℕ) → old ≡ count_by (λ i. at_id (made past i)) (live_resources past) → new ≡ old + cond (at_id (Some x)) 1 0 - count_by (λ i. at_id (made past i)) (destroyed_by x)
        → new ≡ count_by (λ i. at_id (made (p ∷ past) i)) (live_resources (p ∷ past))
    host_count x is old new was now =
        let next = count_next past p j x is resource_in resources_make at_id refl only in
        let same = destroyed_count x is in
        omega (arith, next, same, was, now)

module _ (past : Past) (p : Point) (j : IsJudged (p ∷ past)) (old new : Occupants) where
  pub host_occupied : (x : Entry) → p.action ≡ Host x → OccupiesBy memory_of memory_at past x old.memories new.memories → OccupiesBy pool_of pool_at past x old.pools new.pools → AreOccupants old past → AreOccupants new (p ∷ past)
  host_occupied x is memories pools are = record {
    memories = λ k. host_count memory_at k past p j x is (count_at old.memories k) (count_at new.memories k) (are.memories k) (memories k);
    pools = λ k. host_count pool_at k past p j x is (count_at old.pools k) (count_at new.pools k) (are.pools k) (pools k);
  }

  pub quiet_occupied : host_of p.action ≡ None → AreOccupants old past → AreOccupants old (p ∷ past)
  quiet_occupied quiet are = record {
    memories = λ k. are.memories k ∙ rw quiet refl;
    pools = λ k. are.pools k ∙ rw quiet refl;
  }
