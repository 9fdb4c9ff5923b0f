-- USAGE: which usages are compared.
use Rattle.std.specs.Prelude.{◌≡◌, ℕ, ◌==◌, true, Option, Some, None, option_map, option_and_then, slice_get, if◌then◌else◌}
use Rattle.vk_model.specs.declared.command.Cmd.{Cmd}
use Rattle.vk_model.specs.declared.command.Element.{Element}
use Rattle.vk_model.specs.declared.command.Element.TheVariants as element
use Rattle.vk_model.specs.declared.entry.Entry.{Entry}
use Rattle.vk_model.specs.Trace.Point.{Past, Action, Host, Run}
use Rattle.vk_model.specs.Trace.Objects.{resource, resource_in}
use Rattle.vk_model.specs.World.Ownership.{elements_of, is_transition}
use Rattle.vk_model.specs.Rules.Sizes.{is_outside, sources, destinations, lacks}
use Rattle.vk_rules.specs.declared.usages.Purpose.{Purpose}
use Rattle.vk_rules.specs.declared.usages.Purpose.TheVariants as purpose
use Rattle.vk_rules.specs.declared.usages.UsageLack.{UsageLack}
use Rattle.vk_rules.specs.declared.usages.UsageMeasure.{UsageMeasure}
use Rattle.vk_rules.specs.declared.usages.UsageMeasure.TheVariants as measure

-- The image that an element brings to TRANSFER_SRC_OPTIMAL 6 or TRANSFER_DST_OPTIMAL 7, and the usage that this needs: TRANSFER_SRC 1 or TRANSFER_DST 2 (Vulkan, "Image Layouts").
abbrev pub layout_need : Element → Option (ℕ × ℕ)
layout_need (element.Image e) =
    if is_transition e then (if e.new_layout == 6 then Some (e.image, 1) else (if e.new_layout == 7 then Some (e.image, 2) else None)) else None
layout_need _ = None

-- The resource that a command uses for something, and the usage that this needs (Vulkan, "Buffers" and "Images").
abbrev pub needed_for : Cmd → Purpose → Option (ℕ × ℕ)
needed_for c purpose.Source = option_map (λ r. (r, 1)) (slice_get (sources c) 0)
needed_for c purpose.Destination = option_map (λ r. (r, 2)) (slice_get (destinations c) 0)
needed_for c (purpose.Layout k) = option_and_then layout_need (slice_get (elements_of c) k)

-- A resource has this usage, and lacks one.
abbrev pub HasUsage : Past → UsageLack → Type 0
HasUsage past m = (option_map (λ u. u.0) m.usage ≡ option_map (λ r. r.usage) (resource past m.resource)) × (lacks past m.needed.0 m.resource ≡ true)

-- A command uses this resource for something, which needs a usage that it lacks.
abbrev pub IsLack : Past → Cmd → UsageLack → Type 0
IsLack past c m = (needed_for c m.purpose ≡ Some (m.resource, m.needed.0)) × HasUsage past m

-- The usage of the resource that an entry makes.
abbrev pub made_usage : Entry → Option ℕ
made_usage x = option_map (λ r. r.usage) (resource_in x)

-- What is reported of an action that breaks USAGE.
abbrev pub IsUsage : Past → Action → UsageMeasure → Type 0
IsUsage past (Host x) (measure.Made u) = (made_usage x ≡ Some u.0) × (is_outside 3 u.0 ≡ true)
IsUsage past (Run c) (measure.Lacks m) = IsLack past c m
IsUsage past _ _ = ⊥
