-- The owner of a resource and what elements do with it, as the definitions have them.
use Rattle.std.specs.Prelude.{◌≡◌, ℕ, ◌==◌, Bool, if◌then◌else◌, Option, Some, None, option_map}
use Rattle.vk_model.specs.declared.command.Element.{Element}
use Rattle.vk_model.specs.World.Bytes as bytes
use Rattle.vk_model.specs.World.Bytes.{Byte, World, resource_at}
use Rattle.vk_model.specs.World.Effect.{without}
use Rattle.vk_model.specs.World.Ownership as ownership
use Rattle.vk_model.specs.World.Ownership.{named_by, families_of}
use Rattle.vk_model.specs.Rules.Owners.{is_pair}
use Rattle.vk_layouts.specs.declared.ownership.Owner.{Owner}
use Rattle.vk_layouts.specs.declared.ownership.Owner.TheVariants as owner
use Rattle.vk_layouts.specs.declared.ownership.Transfer.{Transfer}
use Rattle.vk_layouts.specs.declared.ownership.Transfer.TheVariants as transfer

-- The owner of the definitions (Vulkan, "Resource Sharing Mode").
abbrev pub owner_of : Owner → bytes.Owner
owner_of owner.Nobody = bytes.Nobody
owner_of (owner.Family f) = bytes.Family f
owner_of (owner.Released r) = bytes.Released r.family r.element

-- The node of the release that an element is the other half of (Vulkan, "Queue Family Ownership Transfer").
abbrev pub release_of : Element → Owner → Option ℕ
release_of e (owner.Released r) = if is_pair r.element e then Some r.node else None
release_of e _ = None

-- What an element does, as the definitions have it (Vulkan, "Queue Family Ownership Transfer").
abbrev pub transfer_of : Transfer → ownership.Transfer
transfer_of transfer.Stays = ownership.Stays
transfer_of transfer.Release = ownership.Release
transfer_of transfer.Acquire = ownership.Acquire
transfer_of transfer.Neither = ownership.Neither

-- An element names a resource, and does this on a queue of family f (Vulkan, "Queue Family Ownership Transfer").
pub record IsHalf (f resource : ℕ) (t : ownership.Transfer) (e : Element) : Type 0 where
  pub named : named_by e ≡ Some resource
  pub does : option_map (ownership.transfer f) (families_of e) ≡ Some t

-- The bytes when those of a resource are lost, or none.
abbrev pub contents_after : Bool → ℕ → World → Byte → Option ℕ
contents_after lost resource w = if lost then without (λ b. resource_at b == resource) w.value else w.value
