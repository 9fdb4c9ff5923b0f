-- A trace without a fault has no hazard between two nodes, and what is seen is before.
use Rattle.std.proofs.Common.{◌≡◌, ◌⊎◌, inl, inr, ⊎_elim, ◌<◌, ◌≤◌, [], ◌∷◌, ◌++◌, length, Bool, ◌&&◌, ◌||◌, not, IsTrue, refl, ap, sym, ◌∙◌, subst, arith}
use Rattle.std.specs.Prelude.{Contains}
use Rattle.std.specs.List.{list_any}
use Rattle.std.proofs.lemmas.Bool.{lt-ltb, eqb-true, and_parts, or_cases, and_from}
use Rattle.vk_model.specs.World.Bytes.{Byte, resource_at}
use Rattle.vk_model.specs.Trace.Objects.{is_cached}
use Rattle.vk_model.specs.Trace.Point.{Past, Point}
use Rattle.vk_model.specs.Sync.Node.{Node, Act, Hosts, Waits, Signals, Runs, Depends, nodes, same_node}
use Rattle.vk_model.specs.Sync.Edge.{edge, is_host}
use Rattle.vk_model.specs.Sync.Before.{before, direct}
use Rattle.vk_model.specs.Sync.Seen.{Access, Read, Write, seen, available_by, visible_by}
use Rattle.vk_model.specs.Sync.Access.{reads, writes, is_in, share, precedes, war, raw, waw, hazard}
use Rattle.vk_model.specs.Rules.Fault.{Comes, newest, older}
use Rattle.vk_model.specs.Laws.{BeforeIsPath, BeforeIsTransitive, GrowthKeeps, Keeps}
use Rattle.vk_laws.specs.Trace.{HasNoHazard}
use Rattle.vk_model.proofs.Lists.Members.{member_passes, some_member}
use Rattle.vk_model.proofs.Lists.Truths.{unless}
use Rattle.vk_model.proofs.Sync.Numbers.{numbered, unique}
use Rattle.vk_model.proofs.Sync.NewNodes.{found_new}

-- ---- orders

module _ (paths : BeforeIsPath) (past : Past) where
  pub edge_before : (m n : Node) → Contains (nodes past) m → Contains (nodes past) n → IsTrue (edge (nodes past) m n) → IsTrue (before (nodes past) m n)
  edge_before m n cm cn e = (paths past m n cm cn).1 (direct cm cn e)

  pub host_in_order : (m n : Node) → Contains (nodes past) m → Contains (nodes past) n → IsTrue (is_host m.act) → IsTrue (is_host n.act) → m.number < n.number → IsTrue (before (nodes past) m n)
  unfolding edge
  host_in_order m n cm cn hm hn lt = edge_before m n cm cn (rw (lt-ltb m.number n.number lt, hm, hn) refl)

  module _ (joins : BeforeIsTransitive) where
    -- the same node, or before it
    abbrev pub Reaches : Node → Node → Type 0
    Reaches m n = (m.number ≡ n.number) ⊎ IsTrue (before (nodes past) m n)

    pub reaches_before : (l m n : Node) → Contains (nodes past) l → Contains (nodes past) m → Contains (nodes past) n → Reaches l m → IsTrue (before (nodes past) m n) → IsTrue (before (nodes past) l n)
    reaches_before l m n cl cm cn (inl e) b = subst (λ (x : Node). IsTrue (before (nodes past) x n)) (unique (nodes past) (numbered past) m l cm cl (sym e)) b
    reaches_before l m n cl cm cn (inr d) b = joins past l m n cl cm cn d b

    pub before_reaches : (l m n : Node) → Contains (nodes past) l → Contains (nodes past) m → Contains (nodes past) n → IsTrue (before (nodes past) l m) → Reaches m n → IsTrue (before (nodes past) l n)
    before_reaches l m n cl cm cn b (inl e) = subst (λ (x : Node). IsTrue (before (nodes past) l x)) (unique (nodes past) (numbered past) m n cm cn e) b
    before_reaches l m n cl cm cn b (inr d) = joins past l m n cl cm cn b d

    pub reaches_join : (l m n : Node) → Contains (nodes past) l → Contains (nodes past) m → Contains (nodes past) n → Reaches l m → Reaches m n → Reaches l n
    reaches_join l m n cl cm cn p q = ⊎_elim
        (λ e. subst (λ (x : Node). Reaches x n) (unique (nodes past) (numbered past) m l cm cl (sym e)) q)
        (λ b. inr (before_reaches l m n cl cm cn b q)) p

    pub by_number : (m n : Node) → IsTrue (same_node m n) → Reaches m n
    by_number m n h = inl (eqb-true m.number n.number h)

    module _ (cached : Byte → Bool) where
      available_reaches : (w p : Node) (act : Act) (b : Byte) → Contains (nodes past) w → Contains (nodes past) p → IsTrue (available_by cached (nodes past) w act b p) → Reaches w p
      available_reaches w p (Runs c) b cw cp h = inr (edge_before w p cw cp (and_parts _ _ h).0)
      available_reaches w p (Depends r e) b cw cp h = by_number w p h
      available_reaches w p (Hosts x) b cw cp h = inr (and_parts _ _ (and_parts _ _ h).0).1
      available_reaches w p (Waits s) b cw cp h = absurd cc
      available_reaches w p (Signals s) b cw cp h = absurd cc

      visible_reaches : (w a q : Node) (act : Act) (k : Access) (b : Byte) → Contains (nodes past) q → Contains (nodes past) a → IsTrue (visible_by cached (nodes past) w a act k b q) → Reaches q a
      visible_reaches w a q (Runs c) k b cq ca h = inr (edge_before q a cq ca (and_parts _ _ h).0)
      visible_reaches w a q (Depends r e) k b cq ca h = by_number q a h
      visible_reaches w a q (Hosts x) k b cq ca h = inr (and_parts _ _ (and_parts _ _ (and_parts _ _ h).0).0).0
      visible_reaches w a q (Waits s) k b cq ca h = absurd cc
      visible_reaches w a q (Signals s) k b cq ca h = absurd cc

      pub or_before : (m n : Node) → IsTrue (same_node m n || before (nodes past) m n) → Reaches m n
      or_before m n h = ⊎_elim (λ e. by_number m n e) (λ b. inr b) (or_cases (same_node m n) (before (nodes past) m n) h)

      pub seen_before : (w a : Node) (k : Access) (b : Byte) → Contains (nodes past) w → Contains (nodes past) a → w.number < a.number → IsTrue (seen cached (nodes past) w a k b) → IsTrue (before (nodes past) w a)
      unfolding seen
      seen_before w a k b cw ca lt h =
          let p = some_member _ (nodes past) h in
          let first = and_parts _ _ p.2 in
          let q = some_member _ (nodes past) first.1 in
          let second = and_parts _ _ q.2 in
          let third = and_parts _ _ second.0 in
          let wp = available_reaches w p.0 w.act b cw p.1 first.0 in
          let pq = or_before p.0 q.0 third.0 in
          let qa = visible_reaches w a q.0 a.act k b q.1 ca third.1 in
          ⊎_elim (λ e. absurd (omega arith)) (λ b. b) (reaches_join w q.0 a cw q.1 ca (reaches_join w p.0 q.0 cw p.1 q.1 wp pq) qa)

-- ---- no hazards

pub split_at : (all past : Past) (p : Point) → Comes all past p → (more : Past) × (all ≡ more ++ p ∷ past)
split_at all past p newest = ([], refl)
split_at (q ∷ all) past p (older h) = let r = split_at all past p h in (q ∷ r.0, ap (λ (l : Past). q ∷ l) r.1)

module _ (keeps : GrowthKeeps) (all past : Past) (p : Point) (comes : Comes all past p) where
  whole : Keeps (nodes (p ∷ past)) (nodes all)
  whole = let s = split_at all past p comes in subst (λ (l : Past). Keeps (nodes (p ∷ past)) (nodes l)) (sym s.1) (keeps (p ∷ past) s.0)

  pub before_in_all : (x y : Node) → Contains (nodes (p ∷ past)) y → IsTrue (before (nodes (p ∷ past)) x y) → IsTrue (before (nodes all) x y)
  before_in_all x y c h = whole.orders x y c ∙ h

  pub seen_in_all : (cached : Byte → Bool) (x y : Node) (k : Access) (b : Byte) → Contains (nodes (p ∷ past)) y → IsTrue (seen cached (nodes (p ∷ past)) x y k b) → IsTrue (seen cached (nodes all) x y k b)
  seen_in_all cached x y k b c h = whole.visibilities cached x y k b c ∙ h

module _ (past : Past) (p : Point) (x y : Node) (cx : Contains (nodes (p ∷ past)) x) (cy : Contains (nodes (p ∷ past)) y) (new : length (nodes past) ≤ y.number) (first : IsTrue (precedes x y)) where
  found_hazard : (kind : Past → Node → Node → Bool) → IsTrue (kind (p ∷ past) x y) → IsTrue (hazard kind past p)
  found_hazard kind h =
      found_new (λ y. list_any (λ x. precedes x y && kind (p ∷ past) x y) (nodes (p ∷ past))) past p y cy new
      (member_passes (λ x. precedes x y && kind (p ∷ past) x y) (nodes (p ∷ past)) x cx (and_from (precedes x y) (kind (p ∷ past) x y) first h))

module _ (keeps : GrowthKeeps) (all : Past) (past : Past) (p : Point) (comes : Comes all past p) (x y : Node) (cx : Contains (nodes (p ∷ past)) x) (cy : Contains (nodes (p ∷ past)) y) (new : length (nodes past) ≤ y.number) (first : IsTrue (precedes x y)) where
  abbrev now_seen : Access → Byte → Bool
  now_seen k b = seen (λ c. is_cached (p ∷ past) (resource_at c)) (nodes (p ∷ past)) x y k b

  pub no_hazard : (IsTrue (hazard war past p) → ⊥) → (IsTrue (hazard raw past p) → ⊥) → (IsTrue (hazard waw past p) → ⊥) → HasNoHazard all (p ∷ past) x y
  no_hazard no_war no_raw no_waw = record {
    read_first = λ b hb cb. before_in_all keeps all past p comes x y cy
        (unless (before (nodes (p ∷ past)) x y) (λ n. no_war (found_hazard past p x y cx cy new first war
        (and_from (share (reads (p ∷ past) x) (writes (p ∷ past) y)) (not (before (nodes (p ∷ past)) x y)) (member_passes (λ d. is_in d (writes (p ∷ past) y)) (reads (p ∷ past) x) b cb hb) n))));
    read_after = λ b hb cb. seen_in_all keeps all past p comes (λ c. is_cached (p ∷ past) (resource_at c)) x y Read b cy
        (unless (now_seen Read b) (λ n. no_raw (found_hazard past p x y cx cy new first raw
        (member_passes (λ d. is_in d (writes (p ∷ past) x) && not (now_seen Read d)) (reads (p ∷ past) y) b cb (and_from _ _ hb n)))));
    written_after = λ b hb cb. seen_in_all keeps all past p comes (λ c. is_cached (p ∷ past) (resource_at c)) x y Write b cy
        (unless (now_seen Write b) (λ n. no_waw (found_hazard past p x y cx cy new first waw
        (member_passes (λ d. is_in d (writes (p ∷ past) x) && not (now_seen Write d)) (writes (p ∷ past) y) b cb (and_from _ _ hb n)))));
  }
