-- A resource that is destroyed is in use where it is live and busy; a pool is busy where one of its resources is.
use Rattle.std.proofs.Common.{◌≡◌, ℕ, List, ◌∷◌, Bool, true, ◌&&◌, ◌==◌, refl, ap, sym, ◌∙◌, subst, Option, Some, None}
use Rattle.std.specs.Prelude.{Contains, option_and_then, is_some}
use Rattle.std.specs.List.{list_any, filter_map}
use Rattle.std.proofs.lemmas.Bool.{eqb-true, eq-eqb, and_parts, and_from}
use Rattle.std.proofs.Math.Bool.{or-false}
use Rattle.vk_model.specs.declared.entry.Entry.{Entry}
use Rattle.vk_model.specs.Basics.{holds}
use Rattle.vk_model.specs.Trace.Point.{Past, Point, Action, Host, host_of, entries}
use Rattle.vk_model.specs.Trace.Objects.{live, live_resources, made_by, pool_of, resource_in}
use Rattle.vk_model.specs.Rules.Ids.{is_resource}
use Rattle.vk_model.specs.Rules.Passes.{pass_of, pool_of_defrag, passes_busy}
use Rattle.vk_model.specs.Sync.Node.{Node, Hosts, nodes, acts}
use Rattle.vk_model.specs.Sync.Complete.{is_busy, some_busy}
use Rattle.vk_model.proofs.Lists.Members.{some_member, member_passes, filtered, only_one}
use Rattle.vk_model.proofs.Lists.Truths.{bool_same}
use Rattle.vk_laws.proofs.Living.Alive.{is_alive, among_live}
use Rattle.vk_touches.specs.Touched.{next_node}
use Rattle.vk_history.proofs.Living.Residents.{named}
use Rattle.vk_rules.specs.declared.passes.Passing.{Passing}
use Rattle.vk_rules.specs.Passes.{IsBusyResident}
use Rattle.vk_rules.specs.Inner.Passes.{IsPassing}
use Rattle.vk_rules.specs.Inner.RuleParts.{is_resident_busy}
use Rattle.vk_touches.proofs.Touching.LastHazards.{one_next}

-- of a list, only a number itself counts
only_itself : (r : ℕ) (f : ℕ → Bool) (xs : List ℕ) → list_any (λ s. r == s && f s) xs ≡ (list_any (λ s. r == s) xs && f r)
only_itself r f xs = bool_same _ _
    (λ h. let s = some_member (λ s. r == s && f s) xs h in
    let parts = and_parts (r == s.0) (f s.0) s.2 in
    and_from (list_any (λ s. r == s) xs) (f r) (member_passes (λ s. r == s) xs s.0 s.1 parts.0) (ap f (eqb-true r s.0 parts.0) ∙ parts.1))
    (λ h. let parts = and_parts (list_any (λ s. r == s) xs) (f r) h in
    let s = some_member (λ s. r == s) xs parts.0 in
    member_passes (λ s. r == s && f s) xs s.0 s.1 (and_from (r == s.0) (f s.0) s.2 (ap f (sym (eqb-true r s.0 s.2)) ∙ parts.1)))

-- a live resource is among the live ones
live_is : (past : Past) (r : ℕ) → list_any (λ s. r == s) (live_resources past) ≡ holds (live past r) is_resource
live_is past r = bool_same _ _
    (λ h. let s = some_member (λ s. r == s) (live_resources past) h in
    let kept = (filtered (λ i. is_some (option_and_then resource_in (live past i))) (filter_map made_by (entries past)) s.0 s.1).1 in
    turned (live past r) (ap (λ i. is_some (option_and_then resource_in (live past i))) (eqb-true r s.0 s.2) ∙ kept))
    (λ h. member_passes (λ s. r == s) (live_resources past) r (among_live past r (is_alive past r is_resource h)) (eq-eqb r r refl))
  where
    turned : (o : Option Entry) → is_some (option_and_then resource_in o) ≡ true → holds o is_resource ≡ true
    turned None h = absurd cc
    turned (Some x) h = h

pub destroyed_busy : (past : Past) (p : Point) (x : Entry) (r : ℕ) → p.action ≡ Host x
    → some_busy past p (λ s. r == s) ≡ (holds (live past r) is_resource && is_busy past (nodes (p ∷ past)) (next_node past p (Hosts x)) r)
destroyed_busy past p x r is =
    let n = next_node past p (Hosts x) in
    ap (list_any (λ n. list_any (λ s. r == s && is_busy past (nodes (p ∷ past)) n s) (live_resources past))) (one_next past p (Hosts x) (ap acts is))
    ∙ or-false (list_any (λ s. r == s && is_busy past (nodes (p ∷ past)) n s) (live_resources past))
    ∙ only_itself r (is_busy past (nodes (p ∷ past)) n) (live_resources past)
    ∙ ap (λ b. b && is_busy past (nodes (p ∷ past)) n r) (live_is past r)

-- some member of one list passes a test where some member of another one passes another test
either_some : (f g : ℕ → Bool) (xs ys : List ℕ) → ((r : ℕ) → Contains xs r → f r ≡ true → Contains ys r × (g r ≡ true)) → ((r : ℕ) → Contains ys r → g r ≡ true → Contains xs r × (f r ≡ true))
    → list_any f xs ≡ list_any g ys
either_some f g xs ys on back = bool_same _ _
    (λ h. let s = some_member f xs h in let t = on s.0 s.1 s.2 in member_passes g ys s.0 t.0 t.1)
    (λ h. let s = some_member g ys h in let t = back s.0 s.1 s.2 in member_passes f xs s.0 t.0 t.1)

-- the live resources of a pool are among those that were created in it
pub pool_busy : (past : Past) (p : Point) (x : Entry) (q : ℕ) (residents : List ℕ) → p.action ≡ Host x → ((r : ℕ) → pool_of past r ≡ Some q → Contains residents r)
    → some_busy past p (λ r. holds (pool_of past r) (λ s. q == s)) ≡ list_any (is_resident_busy past p x q) residents
pool_busy past p x q residents is all =
    let n = next_node past p (Hosts x) in
    let busy : ℕ → Bool = is_busy past (nodes (p ∷ past)) n in
    let here : ℕ → Bool = λ r. holds (pool_of past r) (λ s. q == s) in
    let alive : ℕ → Bool = λ r. holds (live past r) is_resource in
    ap (list_any (λ n. list_any (λ r. here r && is_busy past (nodes (p ∷ past)) n r) (live_resources past))) (one_next past p (Hosts x) (ap acts is))
    ∙ or-false (list_any (λ r. here r && busy r) (live_resources past))
    ∙ either_some (λ r. here r && busy r) (is_resident_busy past p x q) (live_resources past) residents
    (λ r c h. (
      all r (named (pool_of past r) q (and_parts (here r) (busy r) h).0),
      and_from (alive r && here r) (busy r) (and_from (alive r) (here r) (sym (live_is past r) ∙ member_passes (λ s. r == s) (live_resources past) r c (eq-eqb r r refl)) (and_parts (here r) (busy r) h).0) (and_parts (here r) (busy r) h).1,
    ))
    (λ r c h. let first = and_parts (alive r && here r) (busy r) h in let two = and_parts (alive r) (here r) first.0 in
    (among_live past r (is_alive past r is_resource two.0), and_from (here r) (busy r) two.1 first.1))

-- the same, by whether one is found
pub passes_busy_is : (past : Past) (p : Point) (x : Entry) (q : ℕ) (residents : List ℕ) (b : Bool) → p.action ≡ Host x → Some q ≡ option_and_then (pool_of_defrag past) (pass_of x) → ((r : ℕ) → pool_of past r ≡ Some q → Contains residents r)
    → b ≡ list_any (is_resident_busy past p x q) residents → b ≡ passes_busy past p x
passes_busy_is past p x q residents b is of all by =
    by ∙ sym (pool_busy past p x q residents is all) ∙ ap (λ (o : Option ℕ). holds o (λ q. some_busy past p (λ r. holds (pool_of past r) (λ s. q == s)))) of

-- what is reported of one that is found
pub busy_resident : (past : Past) (p : Point) (x : Entry) (s : Passing) (r : ℕ) → p.action ≡ Host x → IsPassing past x s → is_resident_busy past p x s.pool r ≡ true
    → IsBusyResident past p (record { defrag = s.defrag; pool = s.pool; resource = r })
busy_resident past p x s r is of h =
    let n = next_node past p (Hosts x) in
    let alive : Bool = holds (live past r) is_resource in
    let here : Bool = holds (pool_of past r) (λ t. s.pool == t) in
    let first = and_parts (alive && here) (is_busy past (nodes (p ∷ past)) n r) h in
    let two = and_parts alive here first.0 in
    record {
      pass = ap (λ (a : Action). option_and_then pass_of (host_of a)) is ∙ of.0;
      pool = of.1;
      lies = named (pool_of past r) s.pool two.1;
      lives = turned (live past r) two.0;
      busy = λ m c. subst (λ (k : Node). is_busy past (nodes (p ∷ past)) k r ≡ true) (only_one n m (subst (λ (l : List Node). Contains l m) (one_next past p (Hosts x) (ap acts is)) c)) first.1;
    }
  where
    turned : (o : Option Entry) → holds o is_resource ≡ true → is_some (option_and_then resource_in o) ≡ true
    turned None h = absurd cc
    turned (Some y) h = h
