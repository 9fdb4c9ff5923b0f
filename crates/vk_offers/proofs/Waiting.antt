-- A wait of the host looks at the commands before it alone.
use Rattle.std.proofs.Common.{◌≡◌, ⊎_elim, ℕ, ◌<◌, List, [], ◌∷◌, ◌++◌, map, length, Bool, not, ◌||◌, IsTrue, None, refl, ap, sym, ◌∙◌, subst, arith}
use Rattle.std.specs.Prelude.{Contains, ◌==◌}
use Rattle.std.specs.List.{list_all}
use Rattle.std.proofs.lemmas.Bool.{eqb-true, eq-eqb}
use Rattle.std.proofs.lemmas.List.{append_assoc}
use Rattle.vk_model.specs.declared.entry.Entry.{Entry}
use Rattle.vk_model.specs.declared.entry.Entry.TheVariants as entry
use Rattle.vk_model.specs.declared.entry.SemaphoreValue.{SemaphoreValue}
use Rattle.vk_model.specs.Basics.{below}
use Rattle.vk_model.specs.World.ByteWrites.{ByteWrite}
use Rattle.vk_model.specs.Trace.Point.{Past, Point, host_of, entries}
use Rattle.vk_model.specs.Trace.Order.{host}
use Rattle.vk_model.specs.Trace.Structure.{IsOfBatch, IsOrdered}
use Rattle.vk_model.specs.Sync.Node.{Node, Act, Hosts, Waits, Signals, Runs, Depends, nodes}
use Rattle.vk_model.specs.Sync.Before.{before}
use Rattle.vk_model.specs.Rules.Fault.{Comes, IsUnbroken}
use Rattle.vk_model.specs.Laws.{GrowthKeeps, BeforeLeadsOn}
use Rattle.vk_model.specs.Run.Runs.{Name, is_done, node_pieces, is_free, Stage, past_with, may_go}
use Rattle.vk_model.proofs.Lists.Members.{contains-cons, contains-head, all_passes, each_of}
use Rattle.vk_model.proofs.Lists.Truths.{implied, implies, bool_same}
use Rattle.vk_model.proofs.Trace.Growing.{Grows, Quiet, entry_grows, still_has}
use Rattle.vk_model.proofs.Trace.Once.{entry_once, was_before}
use Rattle.vk_model.proofs.Trace.Structure.{entry_below, follows_at, is_of_batch}
use Rattle.vk_laws.proofs.Nodes.Newer.{old_or_newer}
use Rattle.vk_laws.proofs.Nodes.Points.{AtPoint, at_point, comes_at}
use Rattle.vk_laws.proofs.Nodes.Prefixes.{old_has, is_old, same_before, same_pieces}
use Rattle.vk_laws.proofs.Nodes.Steady.{new_ids, live_ids, comes_here}
use Rattle.vk_laws.proofs.Nodes.Submits.{in_past}
use Rattle.vk_offers.specs.IsOffers.{host_node, is_free_next}

turned : (a b : Bool) → a ≡ b → IsTrue a → IsTrue b
turned a b e h = sym e ∙ h

module _ (keeps : GrowthKeeps) (leads : BeforeLeadsOn) (s : Stage) (ws : List SemaphoreValue) (sound : IsUnbroken (past_with s (entry.Wait ws))) (ordered : IsOrdered (past_with s (entry.Wait ws)))
    (counted : s.count ≡ length (entries s.front.past)) where
  abbrev x : Entry
  x = entry.Wait ws

  abbrev old : Past
  old = s.front.past

  abbrev now : Past
  now = past_with s x

  abbrev own : Node
  own = host_node old s.count x

  -- after the wait come points of batches alone
  batches : Grows Quiet (host s.count x ∷ old) now
  batches = entry_grows s.count x s.front

  whole : now ≡ (batches.newer ++ host s.count x ∷ []) ++ old
  whole = batches.whole ∙ sym (append_assoc batches.newer (host s.count x ∷ []) old)

  old_ordered : IsOrdered old
  old_ordered = (follows_at now old (host s.count x) ordered (subst (λ (l : Past). Comes l old (host s.count x)) (sym batches.whole) (comes_here batches.newer old (host s.count x)))).1

  -- ---- the wait's own node

  there : (m : Node) → Contains (nodes old) m → Contains (nodes now) m
  there m c = old_has keeps now (batches.newer ++ host s.count x ∷ []) old whole m c

  own_there : Contains (nodes now) own
  own_there = old_has keeps now batches.newer (host s.count x ∷ old) batches.whole own (contains-head own (nodes old))

  -- older nodes are of older entries
  low : (m : Node) → Contains (nodes old) m → m.point.entry < s.count
  low m c =
      let a = at_point old m c in
      let lt = entry_below old old_ordered a.at (in_past old m a) in
      let same : m.point.entry ≡ a.at.entry = ap (λ (q : Point). q.entry) a.pointed in
      omega (arith, lt, counted, same)

  -- a wait has no batches, so no other node is of its entry
  alone : (m : Node) → Contains (nodes now) m → m.point.entry ≡ s.count → own ≡ m
  alone m c here = ⊎_elim
      (λ known. ⊎_elim (λ same. same)
      (λ older. absurd (let lt = low m older in omega (arith, lt, here)))
      (contains-cons own (nodes old) m known))
      (λ new. absurd (no_submit (is_of_batch a.past a.at a.at.action (subst (λ (q : Point). host_of q.action ≡ None) a.pointed new.0) (follows_at now a.past a.at ordered (comes_at now m a)).0)))
      (old_or_newer Quiet (host s.count x ∷ old) now batches m c)
    where
      a : AtPoint now m
      a = at_point now m c

      no_submit : IsOfBatch a.past a.at → ⊥
      no_submit f =
          let number : a.at.entry ≡ s.count = ap (λ (q : Point). q.entry) (sym a.pointed) ∙ here in
          let submit : Contains now (host s.count (entry.Submit a.at.queue f.batches)) =
          subst (λ (k : ℕ). Contains now (host k (entry.Submit a.at.queue f.batches))) number (was_before now a.past a.at _ (comes_at now m a) f.submitted) in
          let wait : Contains now (host s.count x) = still_has Quiet (host s.count x ∷ old) now batches (host s.count x) (contains-head (host s.count x) old) in
          let same : x ≡ entry.Submit a.at.queue f.batches = entry_once now ordered s.count _ _ wait submit in
          cc

  by_own : may_go s x ≡ is_free now s.done own
  by_own = bool_same (may_go s x) (is_free now s.done own)
      (λ may. implied (own.point.entry == s.count) (is_free now s.done own) (eq-eqb s.count s.count refl) (all_passes (λ n. not (n.point.entry == s.count) || is_free now s.done n) (nodes now) own may own_there))
      (λ free. each_of (λ n. not (n.point.entry == s.count) || is_free now s.done n) (nodes now)
      (λ n c. implies (n.point.entry == s.count) (is_free now s.done n) (λ here. subst (λ (k : Node). IsTrue (is_free now s.done k)) (alone n c (eqb-true n.point.entry s.count here)) free)))

  -- ---- what is before it

  same_names : (m : Node) → Contains (nodes old) m → node_pieces now m m.act ≡ node_pieces old m m.act
  same_names m c = go m.act refl
    where
      go : (a : Act) → m.act ≡ a → node_pieces now m a ≡ node_pieces old m a
      go (Runs d) act =
          ap (λ (ps : List (List ByteWrite)). map (λ k. (m.number, k)) (below (length ps)))
          (same_pieces now (batches.newer ++ host s.count x ∷ []) old whole (new_ids now sound) (live_ids now sound) m d c act)
      go (Hosts y) act = refl
      go (Waits w) act = refl
      go (Signals w) act = refl
      go (Depends r e) act = refl

  -- whether a node that was there leaves it free
  abbrev leaves : Node → Bool
  leaves m = not (before (own ∷ nodes old) m own) || list_all (is_done s.done) (node_pieces old m m.act)

  same_leaves : (m : Node) → Contains (nodes old) m → (not (before (nodes now) m own) || list_all (is_done s.done) (node_pieces now m m.act)) ≡ leaves m
  same_leaves m c =
      ap (λ (b : Bool). not b || list_all (is_done s.done) (node_pieces now m m.act)) (same_before keeps now batches.newer (host s.count x ∷ old) batches.whole m own (contains-head own (nodes old)))
      ∙ ap (λ (xs : List Name). not (before (own ∷ nodes old) m own) || list_all (is_done s.done) xs) (same_names m c)

  from_old : is_free now s.done own ≡ is_free_next old s.done own
  from_old = bool_same (is_free now s.done own) (is_free_next old s.done own)
      (λ free. each_of _ (nodes old) (λ m c. turned _ (leaves m) (same_leaves m c) (all_passes (λ n. not (before (nodes now) n own) || list_all (is_done s.done) (node_pieces now n n.act)) (nodes now) m free (there m c))))
      (λ free. each_of (λ n. not (before (nodes now) n own) || list_all (is_done s.done) (node_pieces now n n.act)) (nodes now)
      (λ m c. implies (before (nodes now) m own) (list_all (is_done s.done) (node_pieces now m m.act)) (λ first.
      let lt = leads (nodes now) m own first in
      let known = is_old keeps now (batches.newer ++ host s.count x ∷ []) old whole m c lt in
      implied (before (nodes now) m own) (list_all (is_done s.done) (node_pieces now m m.act)) first
      (turned (leaves m) _ (sym (same_leaves m known)) (all_passes leaves (nodes old) m free known)))))

  pub wait_goes : may_go s x ≡ is_free_next old s.done own
  wait_goes = by_own ∙ from_old
