-- Areas of the code, as the definitions have them.
use Rattle.std.specs.Prelude.{ℕ, if◌then◌else◌}
use Rattle.vk_model.specs.declared.command.Element.{Element}
use Rattle.vk_model.specs.declared.command.Element.TheVariants as element
use Rattle.vk_model.specs.Trace.Image.{texel}
use Rattle.vk_model.specs.World.Areas as spec
use Rattle.vk_model.specs.World.Ownership.{is_transition}
use Rattle.vk_overlaps.specs.Boxes.{box_of}
use Rattle.vk_findings.specs.declared.areas.Area.{Area}
use Rattle.vk_findings.specs.declared.areas.Area.TheVariants as area

abbrev pub area_of : Area → spec.Area
area_of (area.Bytes b o n) = spec.Bytes b o n
area_of (area.Rows b f g) = spec.Rows b (texel f) g
area_of (area.Texels i k) = spec.Texels i (box_of k)
area_of (area.Subresources i r) = spec.Subresources i r

-- The subresources of an element that is a layout transition; of another one no bytes, which meet nothing.
abbrev pub transition_area : Element → spec.Area
transition_area (element.Image e) = if is_transition e then spec.Subresources e.image e.range else spec.Bytes 0 0 0
transition_area _ = spec.Bytes 0 0 0

-- An id, as a byte that only it has.
abbrev pub id_area : ℕ → spec.Area
id_area id = spec.Bytes id 0 1
