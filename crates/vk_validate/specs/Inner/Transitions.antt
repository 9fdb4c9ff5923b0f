-- What is found in the bytes that the layout transitions of a barrier read and write.
use Rattle.std.specs.Prelude.{◌≡◌, ◌⊎◌, ◌≤◌, ◌&&◌, ◌∷◌, ℕ, [], length, Bool, true, false, not, Some}
use Rattle.vk_model.specs.declared.command.Element.{Element}
use Rattle.vk_model.specs.declared.command.Element.TheVariants as element
use Rattle.vk_model.specs.declared.command.ImageElement.{ImageElement}
use Rattle.vk_model.specs.declared.resource.ImageInfo.{ImageInfo}
use Rattle.vk_model.specs.Trace.Objects.{image}
use Rattle.vk_model.specs.Trace.Point.{Past, Point}
use Rattle.vk_model.specs.World.Ownership.{is_transition, is_release}
use Rattle.vk_model.specs.Sync.Access.{transition_bytes}
use Rattle.vk_model.specs.Sync.Node.{Node, Depends, Barrier, nodes}
use Rattle.vk_image_bytes.specs.Ranges.{AreRanges}
use Rattle.vk_order.specs.Frontiers.{IsFrontier, IsNewNode}
use Rattle.vk_order.specs.Wide.{IsApartFrom}
use Rattle.vk_order.specs.Inner.Parts.{IsPart}
use Rattle.vk_order.specs.Inner.Tallies.{lines_of}
use Rattle.vk_order.specs.declared.new_node.NewNode.{NewNode}
use Rattle.vk_touches.specs.declared.touches.LastTouches.{LastTouches}
use Rattle.vk_touches.specs.declared.transitions.TransitionAccess.{TransitionAccess}
use Rattle.vk_touches.specs.Conflicts.{FoundAt, FoundInRanges, IsEarly, MissesAt}
use Rattle.vk_touches.specs.Touched.{next_node}
use Rattle.vk_history.specs.Contents.{AreBytesOf, AreContentsOf, AreShort}
use Rattle.vk_validate.specs.declared.rules.hazards.barriers.Moved.{Moved}

-- The bytes of the levels and layers that an image element names, of an image that was made.
pub record AreCovered (past : Past) (e : ImageElement) (x : Moved) : Type 0 where
  pub info : ImageInfo
  pub made : image past e.image ≡ Some info
  pub named : x.image ≡ e.image
  pub kept : AreContentsOf x.contents.now past e.image
  pub short : AreShort x.ranges
  pub ranges : AreRanges info e.range x.ranges

-- The bytes of an element's layout transition on a queue: that of an ownership transfer is at its acquire (profile).
pub record AreMoved (past : Past) (q : ℕ) (e : Element) (x : Moved) : Type 0 where
  pub on : ImageElement
  pub is : e ≡ element.Image on
  pub moves : (is_transition on && not (is_release q (element.Image on))) ≡ true
  pub covered : AreCovered past on x

-- Whether one of the bytes of a transition is such, or none is.
abbrev pub FoundInMoved : (ℕ → Bool → LastTouches → Type 0) → Bool → Moved → Type 0
FoundInMoved is answer x = FoundInRanges (λ t low high. high ≤ length x.contents.now.touches → FoundAt is t x.contents.now.touches low high) answer x.ranges

-- The node of an element of a barrier that comes next, taken alone.
abbrev pub node_alone : Past → Point → Element → Node
node_alone past p e = next_node past p (Depends Barrier e)

-- Whether the transition of such an element, if it is one, has a byte whose last read, or last transition, it doesn't come after.
abbrev pub FindsEarly : Past → Point → Bool → Element → Type 0
FindsEarly past p answer e =
    ((transition_bytes past p.queue e ≡ []) × (answer ≡ false))
    ⊎ ((x : Moved) × AreMoved past p.queue e x × (IsApartFrom (nodes past) (node_alone past p e) → (s : NewNode) × IsNewNode (nodes past) (node_alone past p e) s × FoundInMoved (λ k. IsEarly s) answer x))

-- How the transition of an element on an image accesses it.
pub record IsTransitionAccess (past : Past) (n : Node) (i : ℕ) (x : TransitionAccess) : Type 0 where
  pub frontier : IsFrontier x.frontier.now (nodes past)
  pub part : IsPart (n ∷ nodes past) (lines_of x.frontier.now.tallies.items) n x.part.now
  pub bytes : AreBytesOf past i x.bytes

-- Whether it has a byte whose last write by a command, or last transition, it doesn't see.
abbrev pub FindsMissed : Past → Point → Bool → Element → Type 0
FindsMissed past p answer e =
    ((transition_bytes past p.queue e ≡ []) × (answer ≡ false))
    ⊎ ((x : Moved) × AreMoved past p.queue e x × (IsApartFrom (nodes past) (node_alone past p e) → (y : TransitionAccess) × IsTransitionAccess past (node_alone past p e) x.image y × FoundInMoved (MissesAt y) answer x))
