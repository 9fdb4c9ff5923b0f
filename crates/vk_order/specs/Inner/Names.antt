-- Nodes that lead to later ones by a name: submits, elements of sets, signals.
use Rattle.std.specs.Prelude.{◌≡◌, ◌∷◌, ◌&&◌, ◌==◌, ℕ, Bool, false, not, List, Some, None, Contains, nat_le}
use Rattle.std.specs.Ordering.{nat_cmp}
use Rattle.std.specs.BTreeMap.{BTreeMap, get}
use Rattle.vk_ids.specs.declared.map.IdMap.{IdMap}
use Rattle.vk_ids.specs.Ids.{value_of}
use Rattle.vk_model.specs.Basics.{holds}
use Rattle.vk_model.specs.Sync.Node.{Node, Act, Depends, SetOf}
use Rattle.vk_model.specs.Sync.Edge.{is_submit, signaled_by, initial_by, is_least, is_enough}
use Rattle.vk_model.specs.Sync.Before.{IsNumbered}
use Rattle.vk_order.specs.declared.acts.Row.{Row}
use Rattle.vk_order.specs.declared.lines.Line.{Line}
use Rattle.vk_order.specs.declared.fronts.Front.{Front}
use Rattle.vk_order.specs.declared.keyed.Keyed.{Keyed}
use Rattle.vk_order.specs.declared.names.Names.{Names}
use Rattle.vk_model.specs.Trace.PointViews.{point_of}
use Rattle.vk_order.specs.NodeViews.{act_of}
use Rattle.vk_order.specs.Prefixes.{submits}
use Rattle.vk_order.specs.Inner.Fronts.{IsNamed, IsOwnFront}
use Rattle.vk_order.specs.Inner.Keyed.{front_at}

-- Whether an act is element k of a set of event v.
abbrev pub is_set_of : ℕ → ℕ → Act → Bool
is_set_of v k (Depends (SetOf u i) e) = u == v && i == k
is_set_of v k _ = false

-- Whether an act signals value u to semaphore s.
abbrev pub signals_value : ℕ → ℕ → Act → Bool
signals_value s u a = holds (signaled_by a) (λ x. x.0 == s && x.1 == u)

-- Whether a wait for a value of semaphore s hangs on the signal of node m (Vulkan, "Semaphore Waiting").
abbrev pub is_awaited_for : List Node → ℕ → ℕ → Node → Bool
is_awaited_for ns s v m = holds (signaled_by m.act) (λ x. x.0 == s && is_least ns s v x.1 && not (is_enough ns s v))

-- The fronts of submits by their entries.
abbrev pub AreSubmits : List Node → List Line → BTreeMap ℕ Front → Type 0
AreSubmits ns ls fronts = (e : ℕ) → IsNamed ns ls (submits e) (get nat_cmp fronts e)

-- The fronts of elements of sets by their events and indices.
abbrev pub AreSets : List Node → List Line → Keyed → Type 0
AreSets ns ls fronts = (v k : ℕ) → IsNamed ns ls (λ n. is_set_of v k n.act) (front_at fronts v k)

-- The fronts of signals by their semaphores and values; each is of a node.
pub record AreSignals (ns : List Node) (ls : List Line) (fronts : Keyed) : Type 0 where
  pub each : (s u : ℕ) → IsNamed ns ls (λ n. signals_value s u n.act) (front_at fronts s u)
  pub some : (s u : ℕ) (f : Front) → front_at fronts s u ≡ Some f → (k : Node) × Contains ns k × (signaled_by k.act ≡ Some (s, u))

-- The greatest initial values of semaphores.
abbrev pub AreInitials : List Node → IdMap ℕ → Type 0
AreInitials ns values = (s v : ℕ) → is_enough ns s v ≡ holds (value_of values s) (nat_le v)

-- What is known of the nodes that have names.
pub record IsNames (ns : List Node) (ls : List Line) (names : Names) : Type 0 where
  pub submits : AreSubmits ns ls names.submits
  pub sets : AreSets ns ls names.sets
  pub signals : AreSignals ns ls names.signals
  pub initials : AreInitials ns names.initials

-- An act leads to no later one by a name, and gives no semaphore a value.
pub record IsNameless (a : Act) : Type 0 where
  pub submit : is_submit a ≡ false
  pub set : (v k : ℕ) → is_set_of v k a ≡ false
  pub signal : signaled_by a ≡ None
  pub initial : (s : ℕ) → initial_by s a ≡ None

-- A row comes next, as node n, with its own front.
pub record IsNext (ns : List Node) (ls : List Line) (n : Node) (row : Row) (own : Front) : Type 0 where
  pub numbers : IsNumbered (n ∷ ns)
  pub point : n.point ≡ point_of row.point
  pub act : n.act ≡ act_of row.act
  pub front : IsOwnFront ns ls n own
