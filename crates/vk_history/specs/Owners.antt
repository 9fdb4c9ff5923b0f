-- Who owns each resource, and where its last release is.
use Rattle.std.specs.Prelude.{◌≡◌, ℕ, List, ◌&&◌, Bool, true, false, Option, Some, None, option_map, if◌then◌else◌}
use Rattle.std.specs.List.{find}
use Rattle.vk_ids.specs.Ids.{value_of}
use Rattle.vk_model.specs.declared.command.Element.{Element}
use Rattle.vk_model.specs.declared.command.Element.TheVariants as element
use Rattle.vk_model.specs.declared.command.Families.{Families}
use Rattle.vk_model.specs.Trace.Objects.{is_exclusive}
use Rattle.vk_model.specs.Trace.Point.{Past}
use Rattle.vk_model.specs.World.Bytes as world
use Rattle.vk_model.specs.World.Effect as effect
use Rattle.vk_model.specs.World.Ownership.{Transfer, Stays, Release, Acquire, Neither, transfer, families_of, named_by, is_transition}
use Rattle.vk_model.specs.Rules.Owners.{is_released, is_release_of}
use Rattle.vk_model.specs.Sync.Node.{Node, nodes}
use Rattle.vk_order.specs.declared.parts.Spot.{Spot}
use Rattle.vk_order.specs.Lines.{line_of, place}
use Rattle.vk_history.specs.declared.owners.Owned.{Owned}
use Rattle.vk_history.specs.declared.owners.Owned.TheVariants as owned
use Rattle.vk_history.specs.declared.owners.Owners.{Owners}
use Rattle.vk_history.specs.Counted.{is_id}

-- ---- what is kept

-- What is kept of a resource: its owner, and where it is released the node of its last release.
pub record Kept : Type 0 where
  pub owner : world.Owner
  pub release : Option Spot

abbrev pub kept_of : Owned → Kept
kept_of (owned.Family f) = record { owner = world.Family f; release = None }
kept_of (owned.Released r) = record { owner = world.Released r.family r.element.now; release = Some r.spot }

abbrev pub kept_at : Owners → ℕ → Option Kept
kept_at owners r = option_map kept_of (value_of owners.owned r)

-- The owner; nobody is where nothing is kept.
abbrev pub owner_now : Option Kept → world.Owner
owner_now None = world.Nobody
owner_now (Some k) = k.owner

-- The last of some nodes that releases resource r is at a spot.
pub record IsLastRelease (ns : List Node) (r : ℕ) (s : Spot) : Type 0 where
  pub node : Node
  pub last : find (is_release_of r) ns ≡ Some node
  pub line : line_of node ≡ Some s.line
  pub place : place ns s.line node.number ≡ s.place

-- What is kept of resource r after some nodes: its owner, and where it is released its last release (Vulkan, "Queue Family Ownership Transfer").
pub record IsOwned (kept : Option Kept) (is_owner : world.Owner) (ns : List Node) (r : ℕ) : Type 0 where
  pub owner : owner_now kept ≡ is_owner
  pub released : (k : Kept) → kept ≡ Some k → is_released k.owner ≡ true → (s : Spot) × (k.release ≡ Some s) × IsLastRelease ns r s

-- The same of each resource, by these owners.
abbrev pub AreOwned : Owners → (ℕ → world.Owner) → List Node → Type 0
AreOwned owners owner ns = (r : ℕ) → IsOwned (kept_at owners r) (owner r) ns r

-- The owners after what has happened.
abbrev pub AreOwners : Owners → Past → Type 0
AreOwners owners past = AreOwned owners (effect.world past).owner (nodes past)

-- ---- what changes

-- A family owns a resource.
abbrev pub owned_by : ℕ → Kept
owned_by f = record { owner = world.Family f; release = None }

-- A family has released it with an element, whose node is at a spot.
abbrev pub released_by : ℕ → Element → Spot → Kept
released_by f e s = record { owner = world.Released f e; release = Some s }

-- Whether a resource is one of a queue family at a time, and this is it.
abbrev pub is_taken : Past → ℕ → Option ℕ → Bool
is_taken past r id = is_id r id && is_exclusive past r

-- Whether an element is a layout transition (Vulkan, "Image Layout Transitions").
abbrev pub is_transition_of : Element → Bool
is_transition_of (element.Image e) = is_transition e
is_transition_of _ = false

-- What an element, at a spot on a queue of family f, makes of what is kept of resource r, which it names: a transition within a family is a use (Vulkan, "Queue Family Ownership Transfer").
abbrev pub after_half : Past → ℕ → Element → Spot → ℕ → Transfer → Option Kept → Option Kept
after_half past f e s r Stays kept = if is_transition_of e && is_exclusive past r then Some (owned_by f) else kept
after_half past f e s r Release kept = Some (released_by f e s)
after_half past f e s r Acquire kept = Some (owned_by f)
after_half past f e s r Neither kept = kept

-- What an element does with ownership on a queue of family f.
abbrev pub half_of : ℕ → Option Families → Transfer
half_of f None = Stays
half_of f (Some t) = transfer f t

-- What it makes of what is kept of any resource.
abbrev pub after_element : Past → ℕ → Element → Spot → ℕ → Option Kept → Option Kept
after_element past f e s r kept = if is_id r (named_by e) then after_half past f e s r (half_of f (families_of e)) kept else kept
