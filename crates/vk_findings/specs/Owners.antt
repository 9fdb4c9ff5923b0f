-- OWNER_PAIR: who owns a resource, and since when.
use Rattle.std.specs.Prelude.{ℕ, ◌&&◌, ◌||◌, ◌==◌, [], ◌∷◌, Bool, true, false, Option, Some, None, if◌then◌else◌}
use Rattle.std.specs.List.{list_any}
use Rattle.vk_model.specs.declared.command.Element.{Element}
use Rattle.vk_model.specs.declared.command.Element.TheVariants as element
use Rattle.vk_model.specs.Basics.{holds, among}
use Rattle.vk_model.specs.Trace.Objects.{is_exclusive}
use Rattle.vk_model.specs.Trace.Point.{Past, Point, on_command}
use Rattle.vk_model.specs.World.Bytes as world
use Rattle.vk_model.specs.World.Ownership.{Transfer, Stays, Release, Acquire, Neither, transfer_on, named_by, uses, elements_of, is_transition}
use Rattle.vk_findings.specs.declared.owners.Holder.{Holder}
use Rattle.vk_findings.specs.declared.owners.Holder.TheVariants as holder

-- ---- since when

-- Whether an element is a layout transition (Vulkan, "Image Layout Transitions").
abbrev pub is_transition_of : Element → Bool
is_transition_of (element.Image e) = is_transition e
is_transition_of _ = false

-- Whether an element that does this with ownership changes the owner of its resource: a transfer does, and a transition within a family where the resource is exclusive (Vulkan, "Queue Family Ownership Transfer").
abbrev pub takes_half : Bool → Element → Transfer → Bool
takes_half exclusive e Stays = exclusive && is_transition_of e
takes_half exclusive e Release = true
takes_half exclusive e Acquire = true
takes_half exclusive e Neither = false

-- Whether an element on a queue changes the owner of resource r.
abbrev pub takes_by : Bool → ℕ → ℕ → Element → Bool
takes_by exclusive q r e = holds (named_by e) (λ i. r == i) && takes_half exclusive e (transfer_on q e)

-- Whether a point does: a clear or copy command that uses an exclusive resource, or such an element (Vulkan, "Resource Sharing Mode").
abbrev pub takes : Bool → ℕ → Point → Bool
takes exclusive r p = on_command (λ c. (exclusive && among r (uses c)) || list_any (takes_by exclusive p.queue r) (elements_of c)) p

-- The newest point of a past that did.
abbrev pub owned_since : Past → ℕ → Option Point
owned_since [] r = None
owned_since (p ∷ past) r = if takes (is_exclusive past r) r p then Some p else owned_since past r

-- ---- who

-- The owner of the definitions (Vulkan, "Resource Sharing Mode").
abbrev pub holder_of : Holder → world.Owner
holder_of holder.Nobody = world.Nobody
holder_of (holder.Family f) = world.Family f
holder_of (holder.Released f e) = world.Released f e.now
