-- Which resources submitted commands use: how often those that still wait name each, and where the last nodes that name it are.
use Rattle.std.specs.Prelude.{◌≡◌, ◌⊎◌, ◌≤◌, ◌==◌, ℕ, List, [], Bool, true, false, IsTrue, Contains, length, nat_lt, count_by, Some, None, if◌then◌else◌}
use Rattle.std.specs.List.{flat_map, sum_by}
use Rattle.vk_ids.specs.Ids.{value_of}
use Rattle.vk_model.specs.declared.command.Cmd.{Cmd}
use Rattle.vk_model.specs.declared.command.Element.{Element}
use Rattle.vk_model.specs.declared.entry.Batch.{Batch}
use Rattle.vk_model.specs.declared.entry.Entry.{Entry}
use Rattle.vk_model.specs.declared.entry.Entry.TheVariants as entry
use Rattle.vk_model.specs.Basics.{among}
use Rattle.vk_model.specs.Trace.Point.{Past, Point, Action, Run}
use Rattle.vk_model.specs.World.Ownership.{named_by}
use Rattle.vk_model.specs.Sync.Node.{Node, nodes, acts}
use Rattle.vk_model.specs.Sync.Complete.{named_by_act, nodes_for, submitted}
use Rattle.vk_order.specs.declared.lines.Line.TheVariants.{Elements as OfElements}
use Rattle.vk_order.specs.Lines.{line_of, place}
use Rattle.vk_history.specs.declared.counts.Counts.{Counts}
use Rattle.vk_history.specs.declared.last_uses.ElementCounts.{ElementCounts}
use Rattle.vk_history.specs.declared.last_uses.LastUse.{LastUse}
use Rattle.vk_history.specs.declared.last_uses.LastUses.{LastUses}
use Rattle.vk_history.specs.declared.uses.Uses.{Uses}
use Rattle.vk_history.specs.Counted.{count_at, is_id}

-- ---- commands that wait

-- How often an action names a resource.
abbrev pub times_named : ℕ → Action → ℕ
times_named r d = count_by (λ i. r == i) (flat_map named_by_act (acts d))

-- How often elements of a barrier do.
abbrev pub times_by : ℕ → List Element → ℕ
times_by r es = count_by (λ e. is_id r (named_by e)) es

-- How often these commands do, and those of batches.
abbrev pub times_of : ℕ → List Cmd → ℕ
times_of r cs = sum_by (λ c. times_named r (Run c)) cs

abbrev pub times_in : ℕ → List Batch → ℕ
times_in r bs = sum_by (λ b. times_of r b.commands) bs

-- How often what an entry submits does.
abbrev pub times_submitted : ℕ → Entry → ℕ
times_submitted r (entry.Submit q bs) = times_in r bs
times_submitted r _ = 0

-- How often a submitted command names a resource, while it waits; once it is started, it doesn't count.
abbrev pub times_waiting : List Node → ℕ → Point → ℕ
times_waiting ns r p = if nat_lt 0 (length (nodes_for ns p r)) then 0 else times_named r p.action

-- How often the commands that wait name each resource.
abbrev pub AreWaiting : Counts → Past → Type 0
AreWaiting counts past = (r : ℕ) → count_at counts r ≡ sum_by (times_waiting (nodes past) r) (submitted past)

-- ---- the last nodes

-- Whether a node names a resource.
abbrev pub names_it : ℕ → Node → Bool
names_it r m = among r (named_by_act m.act)

-- The uses that are kept of a resource.
abbrev pub uses_in : LastUses → ℕ → List LastUse
uses_in uses r = elim (value_of uses.uses r) [ None ↦ [] | Some kept ↦ kept.items ]

-- What is kept of a resource: each is where a node that names it is, and no node that names it is later on its line than what is kept of the line.
pub record AreLast (kept : List LastUse) (ns : List Node) (r : ℕ) : Type 0 where
  pub sound : (u : LastUse) → Contains kept u → (m : Node) × Contains ns m × IsTrue (names_it r m) × (line_of m ≡ Some u.line) × (place ns u.line m.number ≡ u.place)
  pub whole : (m : Node) → Contains ns m → IsTrue (names_it r m) → (u : LastUse) × Contains kept u × (line_of m ≡ Some u.line) × (place ns u.line m.number ≤ u.place)

-- One use is kept in the place of what was kept of its line.
pub record IsKeptNow (old new : List LastUse) (u : LastUse) : Type 0 where
  pub here : Contains new u
  pub known : (v : LastUse) → Contains new v → (v ≡ u) ⊎ Contains old v
  pub kept : (v : LastUse) → Contains old v → (v.line ≡ u.line) ⊎ Contains new v

-- It is kept of these resources, and nothing changes of the others.
pub record AreKeptNow (old new : LastUses) (ids : List ℕ) (u : LastUse) : Type 0 where
  pub these : (r : ℕ) → among r ids ≡ true → IsKeptNow (uses_in old r) (uses_in new r) u
  pub others : (r : ℕ) → among r ids ≡ false → uses_in new r ≡ uses_in old r

-- How many elements a queue's lines have, by whether their destination stages have transfers and the host.
abbrev pub elements_on : ElementCounts → Bool → Bool → ℕ
elements_on counts true true = counts.both
elements_on counts true false = counts.transfers
elements_on counts false true = counts.host
elements_on counts false false = counts.neither

-- The same of the nodes of a queue so far.
abbrev pub AreElementCounts : ElementCounts → ℕ → List Node → Type 0
AreElementCounts counts q ns = (t h : Bool) → elements_on counts t h ≡ place ns (OfElements q t h) (length ns)

-- How resources are used after what has happened.
pub record AreUses (uses : Uses) (past : Past) : Type 0 where
  pub waiting : AreWaiting uses.waiting past
  pub last : (r : ℕ) → AreLast (uses_in uses.last r) (nodes past) r
