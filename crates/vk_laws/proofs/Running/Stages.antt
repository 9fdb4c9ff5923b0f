-- Where a stage of a run is in its trace.
use Rattle.std.proofs.Common.{◌≡◌, ◌⊎◌, ⊎_elim, ℕ, ◌+◌, ◌<◌, ◌≤◌, List, [], ◌∷◌, ◌++◌, length, true, false, Some, None, refl, ap, sym, ◌∙◌, subst, arith, append_assoc, length-append}
use Rattle.std.specs.Prelude.{Contains}
use Rattle.std.proofs.lemmas.List.{append-nil, length-reverse}
use Rattle.vk_model.specs.declared.entry.Entry.{Entry}
use Rattle.vk_model.specs.declared.entry.Entry.TheVariants as entry
use Rattle.vk_model.specs.Trace.Point.{Past, Point, Action, Host, host_of, entries}
use Rattle.vk_model.specs.Trace.Order.{Front, host, after_entry, order_from, order}
use Rattle.vk_model.specs.Trace.Structure.{IsOfBatch, Follows, IsOrdered}
use Rattle.vk_model.specs.Sync.Node.{Node, Act, Hosts, nodes, acts}
use Rattle.vk_model.specs.Laws.{GrowthKeeps}
use Rattle.vk_model.specs.Run.Runs.{Stage, start, entered, past_with, is_host_wait}
use Rattle.vk_model.proofs.Lists.Members.{contains-cons, contains-head}
use Rattle.vk_model.proofs.Lists.Pairs.{Each}
use Rattle.vk_model.proofs.Trace.Growing.{Grows, Quiet, entry_grows, order_grows, order_append, still_has}
use Rattle.vk_model.proofs.Trace.Structure.{more_entries, entry_below, follows_at, is_of_batch, order_ordered, order_has_entries}
use Rattle.vk_model.proofs.Trace.Once.{entry_once, was_before}
use Rattle.vk_laws.proofs.Nodes.Actions.{host_action}
use Rattle.vk_laws.proofs.Nodes.Newer.{old_or_newer}
use Rattle.vk_laws.proofs.Nodes.Points.{AtPoint, at_point, comes_at}
use Rattle.vk_laws.proofs.Nodes.Submits.{in_past}
use Rattle.vk_laws.proofs.Nodes.Prefixes.{has_more}

-- if a point is a host entry, its number isn't below this
abbrev pub From : ℕ → Point → Type 0
From k p = (x : Entry) → p.action ≡ Host x → k ≤ p.entry

entries_grow : (newer past : Past) → length (entries past) ≤ length (entries (newer ++ past))
entries_grow [] past = omega arith
entries_grow (p ∷ newer) past = let le = entries_grow newer past in let more = more_entries (newer ++ past) p.action in omega (arith, le, more)

-- host entries that come have later numbers
newer_from : (newer past : Past) → IsOrdered (newer ++ past) → Each (From (length (entries past))) newer
newer_from [] past ordered = tt
newer_from (p ∷ newer) past ordered = (
  λ x is.
      let f : p ≡ host (length (entries (newer ++ past))) x = subst (λ (d : Action). Follows (newer ++ past) p d) is ordered.0 in
      let number : p.entry ≡ length (entries (newer ++ past)) = ap (λ (q : Point). q.entry) f in
      let le = entries_grow newer past in
      omega (arith, number, le),
  newer_from newer past ordered.1,
)

module _ (keeps : GrowthKeeps) (t : List Entry) where
  abbrev all : Past
  all = order t

  abbrev empty : Front
  empty = record { past = []; waiting = [] }

  -- the entries that were entered, and those to come, are the trace
  pub record Placed (s : Stage) : Type 0 where
    pub gone : List Entry
    pub split : t ≡ gone ++ s.left
    pub count : 0 + length gone ≡ s.count
    pub front : s.front ≡ order_from 0 empty gone

  pub start_placed : Placed (start t)
  start_placed = record { gone = []; split = refl; count = refl; front = refl }

  past_is : (s : Stage) (p : Placed s) → s.front.past ≡ order p.gone
  past_is s p = ap (λ (f : Front). f.past) p.front

  pub ordered_past : (s : Stage) → Placed s → IsOrdered s.front.past
  ordered_past s p = subst IsOrdered (sym (past_is s p)) (order_ordered p.gone)

  counted : (s : Stage) (p : Placed s) → length (entries s.front.past) ≡ s.count
  counted s p =
      let size = ap length (order_has_entries p.gone) ∙ length-reverse p.gone in
      let same = p.count in
      let past = ap (λ (l : Past). length (entries l)) (past_is s p) in
      omega (arith, size, same, past)

  -- the trace goes on by points, of which host entries are those to come
  pub later : (s : Stage) → Placed s → Grows (From s.count) s.front.past all
  later s p =
      let g = order_grows (0 + length p.gone) (order_from 0 empty p.gone) s.left in
      let whole : all ≡ g.0 ++ s.front.past = ap order p.split ∙ ap (λ (f : Front). f.past) (order_append 0 empty p.gone s.left) ∙ g.1 ∙ ap (λ (l : Past). g.0 ++ l) (sym (past_is s p)) in
      record {
        newer = g.0;
        whole = whole;
        each = subst (λ (k : ℕ). Each (From k) g.0) (counted s p) (newer_from g.0 s.front.past (subst IsOrdered whole (order_ordered t)));
      }

  -- and a stage's past has points of those that were applied
  pub low : (s : Stage) → Placed s → (n : Node) → Contains (nodes s.front.past) n → n.point.entry < s.count
  low s p n c =
      let a = at_point s.front.past n c in
      let lt = entry_below s.front.past (ordered_past s p) a.at (in_past s.front.past n a) in
      let size = counted s p in
      let same : n.point.entry ≡ a.at.entry = ap (λ (q : Point). q.entry) a.pointed in
      omega (arith, lt, size, same)

  -- where no entry is left, a stage's past is the trace
  pub whole_past : (s : Stage) → Placed s → s.left ≡ [] → s.front.past ≡ all
  whole_past s p left = past_is s p ∙ ap order (sym (p.split ∙ ap (λ (l : List Entry). p.gone ++ l) left ∙ append-nil p.gone))

  module _ (s : Stage) (p : Placed s) (x : Entry) (xs : List Entry) (left : s.left ≡ x ∷ xs) where
    unfoldable pub next_placed : Placed (entered s x xs)
    next_placed = record {
      gone = p.gone ++ x ∷ [];
      split = p.split ∙ ap (λ (l : List Entry). p.gone ++ l) left ∙ sym (append_assoc p.gone (x ∷ []) xs);
      count = let same = p.count in let more = length-append p.gone (x ∷ []) in omega (arith, same, more);
      front = ap (λ (k : ℕ). after_entry k x s.front) (sym p.count) ∙ ap (after_entry (0 + length p.gone) x) p.front ∙ sym (order_append 0 empty p.gone (x ∷ []));
    }

    batches : Grows Quiet (host s.count x ∷ s.front.past) (past_with s x)
    batches = entry_grows s.count x s.front

    -- the node of the entry
    abbrev pub entry_node : Node
    entry_node = record { number = length (nodes s.front.past); point = host s.count x; act = Hosts x }

    -- what was there before the entry still is
    pub still_there : (n : Node) → Contains (nodes (host s.count x ∷ s.front.past)) n → Contains (nodes (past_with s x)) n
    still_there n c = subst (λ (l : Past). Contains (nodes l) n) (sym batches.whole) (has_more keeps batches.newer (host s.count x ∷ s.front.past) n c)

    pub entry_present : Contains (nodes (past_with s x)) entry_node
    entry_present = still_there entry_node (contains-head entry_node (nodes s.front.past))

    -- a host entry that has been applied then is this one, or was before
    pub entries_then : (m : Node) (y : Entry) → Contains (nodes all) m → m.act ≡ Hosts y → m.point.entry < s.count + 1 → (entry_node ≡ m) ⊎ Contains (nodes s.front.past) m
    entries_then m y c act lt =
        ⊎_elim
        (λ here. ⊎_elim
        (λ old. contains-cons entry_node (nodes s.front.past) m old)
        (λ h. absurd (let some : host_of m.point.action ≡ Some y = ap host_of (is_entry h.1) in let none = h.0 in cc))
        (old_or_newer Quiet (host s.count x ∷ s.front.past) (past_with s x) batches m here))
        (λ h. let le : s.count + 1 ≤ m.point.entry = h.0 y (is_entry h.1) in absurd (omega (arith, lt, le)))
        (old_or_newer (From (s.count + 1)) (past_with s x) all (later (entered s x xs) next_placed) m c)
      where
        is_entry : Contains (acts m.point.action) m.act → m.point.action ≡ Host y
        is_entry h = host_action m.point.action y (subst (λ (a : Act). Contains (acts m.point.action) a) act h)

    -- a wait of the host has no batches, so no other node is of its entry
    pub wait_alone : is_host_wait x ≡ true → (m : Node) → Contains (nodes (past_with s x)) m → m.point.entry ≡ s.count → entry_node ≡ m
    wait_alone waits m c here = ⊎_elim
        (λ old. ⊎_elim (λ same. same)
        (λ older. absurd (let lt = low s p m older in omega (arith, lt, here)))
        (contains-cons entry_node (nodes s.front.past) m old))
        (λ new. absurd (no_submit (is_of_batch a.past a.at a.at.action (subst (λ (q : Point). host_of q.action ≡ None) a.pointed new.0) (follows_at now a.past a.at ordered (comes_at now m a)).0)))
        (old_or_newer Quiet (host s.count x ∷ s.front.past) now batches m c)
      where
        now : Past
        now = past_with s x

        ordered : IsOrdered now
        ordered = ordered_past (entered s x xs) next_placed

        a : AtPoint now m
        a = at_point now m c

        no_submit : IsOfBatch a.past a.at → ⊥
        no_submit f =
            let number : a.at.entry ≡ s.count = ap (λ (q : Point). q.entry) (sym a.pointed) ∙ here in
            let submit : Contains now (host s.count (entry.Submit a.at.queue f.batches)) = subst (λ (k : ℕ). Contains now (host k (entry.Submit a.at.queue f.batches))) number (was_before now a.past a.at _ (comes_at now m a) f.submitted) in
            let wait : Contains now (host s.count x) = still_has Quiet (host s.count x ∷ s.front.past) now batches (host s.count x) (contains-head (host s.count x) s.front.past) in
            let same : x ≡ entry.Submit a.at.queue f.batches = entry_once now ordered s.count _ _ wait submit in
            let no : is_host_wait x ≡ false = ap is_host_wait same in
            cc
