-- Parts of what is reported of usages, as single functions find them.
use Rattle.std.specs.Prelude.{◌≡◌, ℕ, Option, Some, None}
use Rattle.vk_model.specs.declared.command.Element.{Element}
use Rattle.vk_model.specs.Trace.Point.{Past}
use Rattle.vk_rules.specs.declared.usages.Purpose.{Purpose}
use Rattle.vk_rules.specs.declared.usages.Purpose.TheVariants as purpose
use Rattle.vk_rules.specs.declared.usages.UsageLack.{UsageLack}
use Rattle.vk_rules.specs.Usages.{layout_need, HasUsage}

-- It is this resource that lacks this usage.
abbrev pub IsLackOf : Past → Purpose → ℕ → ℕ → UsageLack → Type 0
IsLackOf past w r bit m = (m.purpose ≡ w) × (m.resource ≡ r) × (m.needed.0 ≡ bit) × HasUsage past m

-- What a copy needs of its source and its destination.
abbrev pub copy_need : ℕ → ℕ → Purpose → Option (ℕ × ℕ)
copy_need s d purpose.Source = Some (s, 1)
copy_need s d purpose.Destination = Some (d, 2)
copy_need s d (purpose.Layout k) = None

-- It is the source of a copy that lacks its usage, or the destination.
abbrev pub AreLacks : Past → ℕ → ℕ → UsageLack → Type 0
AreLacks past s d m = (copy_need s d m.purpose ≡ Some (m.resource, m.needed.0)) × HasUsage past m

-- It is the image of element k that lacks the usage for its layout.
abbrev pub IsElementLack : Past → ℕ → Element → UsageLack → Type 0
IsElementLack past k e m = (m.purpose ≡ purpose.Layout k) × (layout_need e ≡ Some (m.resource, m.needed.0)) × HasUsage past m
