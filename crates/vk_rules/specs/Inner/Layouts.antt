-- Parts of what is reported of layouts, as single functions find them.
use Rattle.std.specs.Prelude.{◌≡◌, ℕ, Bool, true, false, Some}
use Rattle.vk_model.specs.declared.command.BufferImageCopy.{BufferImageCopy}
use Rattle.vk_model.specs.declared.command.Element.{Element}
use Rattle.vk_model.specs.declared.command.ImageCopy.{ImageCopy}
use Rattle.vk_model.specs.declared.command.SubresourceRange.{SubresourceRange}
use Rattle.vk_model.specs.World.Bytes.{World}
use Rattle.vk_model.specs.Rules.Layouts.{Named, named, is_allowed, has_other_layout}
use Rattle.vk_rules.specs.declared.layouts.NamedPart.{NamedPart}
use Rattle.vk_rules.specs.declared.transitions.Transition.{Transition}
use Rattle.vk_rules.specs.declared.layouts.WrongLayout.{WrongLayout}
use Rattle.vk_rules.specs.declared.layouts.WrongLayout.TheVariants as wrong
use Rattle.vk_rules.specs.Layouts.{transition_in}

-- Element k is this transition, and a test finds it wrong.
abbrev pub IsWrongAt : (Element → Bool) → ℕ → Element → Transition → Type 0
IsWrongAt is_wrong k e t = (t.element ≡ k) × (transition_in k e ≡ Some t) × (is_wrong e ≡ true)

-- This part is named in a layout that isn't allowed for its use, or in which some of it isn't.
abbrev pub IsWrongOne : World → NamedPart → WrongLayout → Type 0
IsWrongOne w part (wrong.Unallowed n) = (n ≡ part) × (is_allowed part.is_written part.layout ≡ false)
IsWrongOne w part (wrong.Other n) = (n ≡ part) × (has_other_layout w part.image part.range part.layout ≡ true)
IsWrongOne w part (wrong.Transition t) = ⊥

-- A range of a clear.
abbrev pub cleared_part : ℕ → ℕ → SubresourceRange → Named
cleared_part i l r = record { image = i; layout = l; range = r; written = true }

-- The image side of a region of a copy between a buffer and an image.
abbrev pub region_part : ℕ → ℕ → Bool → BufferImageCopy → Named
region_part i l written g = named i l written g.level g.first_layer g.layers

-- What a region of an image copy reads.
abbrev pub source_part : ℕ → ℕ → ImageCopy → Named
source_part i l g = named i l false g.source_level g.source_first_layer g.layers

-- What it writes.
abbrev pub destination_part : ℕ → ℕ → ImageCopy → Named
destination_part i l g = named i l true g.destination_level g.destination_first_layer g.layers
