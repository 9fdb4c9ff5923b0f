-- A resource that a host entry of an unbroken past ends isn't busy there.
use Rattle.std.proofs.Common.{◌≡◌, ℕ, List, [], ◌∷◌, ◌++◌, map, length, Bool, true, false, not, ◌&&◌, ◌||◌, ◌==◌, IsTrue, refl, ap, sym, ◌∙◌, subst, arith, Option, Some, None}
use Rattle.std.specs.Prelude.{Contains}
use Rattle.std.specs.List.{list_any}
use Rattle.std.proofs.lemmas.Bool.{eqb-true, eq-eqb, false_from_ne_true, and_from}
use Rattle.std.proofs.lemmas.List.Elements.{Contains-append_right}
use Rattle.vk_model.specs.declared.entry.Entry.{Entry}
use Rattle.vk_model.specs.declared.entry.Entry.TheVariants as entry
use Rattle.vk_model.specs.declared.rule.Rule.{Rule}
use Rattle.vk_model.specs.declared.rule.Rule.TheVariants as rule
use Rattle.vk_model.specs.Basics.{holds, among}
use Rattle.vk_model.specs.Trace.Point.{Past, Point, Action, Host, host_of}
use Rattle.vk_model.specs.Trace.Objects.{ended_by, live_resources, pool_of}
use Rattle.vk_model.specs.Sync.Node.{Node, Hosts, nodes, with_acts, acts}
use Rattle.vk_model.specs.Sync.Complete.{is_busy, some_busy}
use Rattle.vk_model.specs.Rules.Ids.{is_memory, is_pool, is_defrag, is_resource, asked_by_entry, is_stray, breaks_live_id}
use Rattle.vk_model.specs.Rules.Passes.{pool_of_defrag, passes_busy, breaks_pass_busy}
use Rattle.vk_model.specs.Rules.Hazards.{ends_used, breaks_in_use}
use Rattle.vk_model.specs.Rules.Table.{breaks}
use Rattle.vk_model.proofs.Lists.Members.{contains-head, contains-tail, map_has, member_passes, some_member}
use Rattle.vk_model.proofs.Sync.NewNodes.{found_new}
use Rattle.vk_laws.proofs.Living.Alive.{IsAlive, is_alive, among_live, host_names_live, host_lists_own}

-- the node of a host entry that comes next
abbrev pub host_node : Past → Point → Entry → Node
host_node past p x = record { number = length (nodes past); point = p; act = Hosts x }

pub host_node_there : (past : Past) (p : Point) (x : Entry) → p.action ≡ Host x → Contains (nodes (p ∷ past)) (host_node past p x)
host_node_there past p x is = subst (λ (d : Action). Contains (with_acts p (acts d) (nodes past)) (host_node past p x)) (sym is) (contains-head (host_node past p x) (nodes past))

module _ (past : Past) (p : Point) (x : Entry) (is : p.action ≡ Host x) where
  -- where no live resource that passes a test is busy, one that passes isn't
  pub not_busy : (test : ℕ → Bool) (r : ℕ) → IsAlive past r is_resource → IsTrue (test r) → (IsTrue (some_busy past p test) → ⊥) → is_busy past (nodes (p ∷ past)) (host_node past p x) r ≡ false
  not_busy test r alive passes none = false_from_ne_true (is_busy past (nodes (p ∷ past)) (host_node past p x) r) (λ busy. none
      (found_new (λ n. list_any (λ r. test r && is_busy past (nodes (p ∷ past)) n r) (live_resources past)) past p (host_node past p x) (host_node_there past p x is) (omega arith)
      (member_passes (λ r. test r && is_busy past (nodes (p ∷ past)) (host_node past p x) r) (live_resources past) r (among_live past r alive)
      (and_from (test r) (is_busy past (nodes (p ∷ past)) (host_node past p x) r) passes busy))))

  -- what an entry did to a resource that it ended
  pub data Ended (r : ℕ) : Type 0 where
    idle : IsAlive past r is_resource → is_busy past (nodes (p ∷ past)) (host_node past p x) r ≡ false → Ended r
    other : (kind : Entry → Bool) → IsAlive past r kind → ((y : Entry) → IsTrue (kind y) → IsTrue (is_resource y) → ⊥) → Ended r

  no_memory : (y : Entry) → IsTrue (is_memory y) → IsTrue (is_resource y) → ⊥
  no_memory (entry.Memory i m) h g = cc
  no_memory _ h g = cc

  no_pool : (y : Entry) → IsTrue (is_pool y) → IsTrue (is_resource y) → ⊥
  no_pool (entry.Pool i m) h g = cc
  no_pool _ h g = cc

  no_defrag : (y : Entry) → IsTrue (is_defrag y) → IsTrue (is_resource y) → ⊥
  no_defrag (entry.Defrag i q b m) h g = cc
  no_defrag _ h g = cc

  one : (r e : ℕ) → IsTrue (among r (e ∷ [])) → r ≡ e
  one r e h = go (r == e) refl h
    where
      go : (b : Bool) → (r == e) ≡ b → IsTrue (list_any (λ y. r == y) (e ∷ [])) → r ≡ e
      go true same h = eqb-true r e same
      go false same h = let no : (false || false) ≡ true = subst (λ (b : Bool). (b || false) ≡ true) same h in absurd cc

  module _ (sound : (k : Rule) → IsTrue (breaks k past p) → ⊥) where
    live_kept : IsTrue (breaks_live_id past p) → ⊥
    unfolding breaks
    live_kept h = sound rule.LiveId h

    in_use_kept : IsTrue (breaks_in_use past p) → ⊥
    unfolding breaks
    in_use_kept h = sound rule.InUse h

    pass_kept : IsTrue (breaks_pass_busy past p) → ⊥
    unfolding breaks
    pass_kept h = sound rule.PassBusy h

    asked : (i : ℕ) (kind : Entry → Bool) → Contains (asked_by_entry x) (i, kind) → IsAlive past i kind
    asked i kind c = is_alive past i kind (host_names_live past p x is live_kept i kind c)

    not_used : IsTrue (ends_used past p x) → ⊥
    not_used h = in_use_kept (subst (λ (d : Action). IsTrue (holds (host_of d) (ends_used past p))) (sym is) h)

    pub no_pass : IsTrue (passes_busy past p x) → ⊥
    no_pass h = pass_kept (subst (λ (d : Action). IsTrue (holds (host_of d) (passes_busy past p))) (sym is) h)

    one_asked : (r e : ℕ) (kind : Entry → Bool) → asked_by_entry x ≡ (e, kind) ∷ [] → r ≡ e → IsAlive past r kind
    one_asked r e kind same at = asked r kind (subst (λ (l : List (ℕ × (Entry → Bool))). Contains l (r, kind)) (sym same) (subst (λ (i : ℕ). Contains {X = ℕ × (Entry → Bool)} ((i, kind) ∷ []) (r, kind)) at (contains-head (r, kind) [])))

    -- a resource that a pass has lost is of the pool of its defragmentation
    of_pool : (d r : ℕ) → IsTrue (not (is_stray past d r)) → (IsTrue (holds (pool_of_defrag past d) (λ q. some_busy past p (λ r. holds (pool_of past r) (λ s. q == s)))) → ⊥) → IsAlive past r is_resource
        → is_busy past (nodes (p ∷ past)) (host_node past p x) r ≡ false
    of_pool d r own none alive = go (pool_of past r) refl (pool_of_defrag past d) own none
      where
        go : (o : Option ℕ) → pool_of past r ≡ o → (u : Option ℕ) → IsTrue (not (not (holds o (λ p. holds u (λ q. p == q))))) → (IsTrue (holds u (λ q. some_busy past p (λ r. holds (pool_of past r) (λ s. q == s)))) → ⊥)
            → is_busy past (nodes (p ∷ past)) (host_node past p x) r ≡ false
        go None e u own none = absurd cc
        go (Some k) e None own none = absurd cc
        go (Some k) e (Some q) own none = by_pool (k == q) refl own
          where
            by_pool : (b : Bool) → (k == q) ≡ b → IsTrue (not (not b)) → is_busy past (nodes (p ∷ past)) (host_node past p x) r ≡ false
            by_pool false f own = absurd cc
            by_pool true f own = not_busy (λ r. holds (pool_of past r) (λ s. q == s)) r alive (rw e (eq-eqb q k (sym (eqb-true k q f)))) none

    pub when_ended : (r : ℕ) → IsTrue (among r (ended_by x)) → Ended r
    when_ended r h = go x refl h
      where
        lost : (d : ℕ) (kept gone : List ℕ) → x ≡ entry.EndPass d kept gone → IsTrue (among r gone) → Ended r
        lost d kept gone same h =
            let m = some_member (λ y. r == y) gone h in
            let listed : Contains (kept ++ gone) r = Contains-append_right kept gone r (subst (λ (i : ℕ). Contains gone i) (sym (eqb-true r m.0 m.2)) m.1) in
            let alive : IsAlive past r is_resource = asked r is_resource (subst (λ (y : Entry). Contains (asked_by_entry y) (r, is_resource)) (sym same)
            (contains-tail (d, is_defrag) (map (λ r. (r, is_resource)) (kept ++ gone)) (r, is_resource) (map_has (λ r. (r, is_resource)) (kept ++ gone) r listed))) in
            let own : IsTrue (not (is_stray past d r)) = ap not (false_from_ne_true (is_stray past d r) (λ stray. host_lists_own past p (entry.EndPass d kept gone) (is ∙ ap Host same) live_kept (member_passes (is_stray past d) (kept ++ gone) r listed stray))) in
            idle alive (of_pool d r own (subst (λ (y : Entry). IsTrue (passes_busy past p y) → ⊥) same no_pass) alive)

        go : (y : Entry) → x ≡ y → IsTrue (among r (ended_by y)) → Ended r
        go (entry.Free m) same h = other is_memory (one_asked r m is_memory (ap asked_by_entry same) (one r m h)) no_memory
        go (entry.DropPool q) same h = other is_pool (one_asked r q is_pool (ap asked_by_entry same) (one r q h)) no_pool
        go (entry.EndDefrag d) same h = other is_defrag (one_asked r d is_defrag (ap asked_by_entry same) (one r d h)) no_defrag
        go (entry.Destroy d) same h =
            let alive : IsAlive past r is_resource = one_asked r d is_resource (ap asked_by_entry same) (one r d h) in
            idle alive (not_busy (λ s. d == s) r alive (eq-eqb d r (sym (one r d h))) (subst (λ (y : Entry). IsTrue (ends_used past p y) → ⊥) same not_used))
        go (entry.EndPass d kept gone) same h = lost d kept gone same h
        go _ same h = absurd cc
