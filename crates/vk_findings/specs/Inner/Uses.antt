-- Which nodes and submitted commands use resources.
use Rattle.std.specs.Prelude.{◌≡◌, ◌<◌, ◌||◌, ◌&&◌, ◌==◌, ◌∷◌, [], ℕ, Bool, true, false, nat_lt, Contains, length}
use Rattle.vk_model.specs.declared.entry.Entry.{Entry}
use Rattle.vk_model.specs.Basics.{among, holds}
use Rattle.vk_model.specs.Trace.Point.{Past, Point, Host}
use Rattle.vk_model.specs.Sync.Node.{Node, Hosts, nodes, next_nodes}
use Rattle.vk_model.specs.Sync.Before.{before}
use Rattle.vk_model.specs.Sync.Complete.{named_by_act, nodes_for, is_complete}
use Rattle.vk_order.specs.NodeViews.{nodes_after}
use Rattle.vk_findings.specs.declared.timeline.Progress.{Progress}
use Rattle.vk_findings.specs.declared.timeline.Progress.TheVariants as progress
use Rattle.vk_findings.specs.declared.timeline.Timeline.{Timeline}
use Rattle.vk_findings.specs.declared.named.Named.{Named}
use Rattle.vk_findings.specs.declared.named.Spot.{Spot}

-- Whether a resource is one of two.
abbrev pub has : Named → ℕ → Bool
has n r = holds n.first (λ s. r == s) || holds n.second (λ s. r == s)

-- The rows are those of the nodes of a past, and the order is that of these with the nodes of a point that comes next, the first of which has this number.
pub record IsTimeline (t : Timeline) (past : Past) (p : Point) : Type 0 where
  pub rows : nodes_after [] t.rows.items ≡ nodes past
  pub order : t.order ≡ nodes (p ∷ past)
  pub last : t.last ≡ length (nodes past)

-- Whether a point is at a place of a batch.
abbrev pub at_spot : Spot → Point → Bool
at_spot s q = q.entry == s.entry && q.batch == s.batch && q.place == s.place

-- Whether a node is of the command there and names a resource.
abbrev pub uses_at : Spot → ℕ → Node → Bool
uses_at s r m = at_spot s m.point && among r (named_by_act m.act)

-- A point is at a place of a batch.
pub record IsAt (s : Spot) (q : Point) : Type 0 where
  pub entry : q.entry ≡ s.entry
  pub batch : q.batch ≡ s.batch
  pub place : q.place ≡ s.place

-- A command that is there isn't known complete for a resource at a point that comes next; whether it was started.
abbrev pub IsIncomplete : Past → Point → Spot → ℕ → Bool → Type 0
IsIncomplete past p s r started = (q : Point) → IsAt s q
    → ((n : Node) → Contains (next_nodes past p) n → is_complete (nodes (p ∷ past)) n q r ≡ false) × (started ≡ nat_lt 0 (length (nodes_for (nodes (p ∷ past)) q r)))

-- A command that is there is known complete for a resource at a point that comes next.
abbrev pub IsComplete : Past → Point → Spot → ℕ → Type 0
IsComplete past p s r = (q : Point) → IsAt s q → (n : Node) → Contains (next_nodes past p) n → is_complete (nodes (p ∷ past)) n q r ≡ true

-- How far it has come.
abbrev pub IsProgress : Past → Point → Spot → ℕ → Progress → Type 0
IsProgress past p s r progress.Waiting = IsIncomplete past p s r false
IsProgress past p s r progress.Started = IsIncomplete past p s r true
IsProgress past p s r progress.Complete = IsComplete past p s r

-- A node of this number, if it is of the command there and names a resource, comes before that of a host entry that comes next.
abbrev pub IsBeforeAt : Timeline → Spot → ℕ → ℕ → Type 0
IsBeforeAt t s r k = (past : Past) (p : Point) (x : Entry) → p.action ≡ Host x → IsTimeline t past p → (m : Node) → Contains (nodes past) m → m.number ≡ k → uses_at s r m ≡ true
    → before (nodes (p ∷ past)) m (record { number = length (nodes past); point = p; act = Hosts x }) ≡ true

-- Each below this number does.
abbrev pub AreBeforeTo : Timeline → Spot → ℕ → ℕ → Type 0
AreBeforeTo t s r k = (i : ℕ) → i < k → IsBeforeAt t s r i
