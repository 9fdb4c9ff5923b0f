-- The rules on layouts: LAYOUT, OLD_LAYOUT.
use Rattle.std.specs.Prelude.{ℕ, ◌+◌, List, [], ◌∷◌, ◌++◌, map, Bool, true, false, not, ◌&&◌, ◌||◌, ◌==◌, if◌then◌else◌}
use Rattle.std.specs.List.{list_any}
use Rattle.vk_model.specs.declared.command.Cmd.{Cmd}
use Rattle.vk_model.specs.declared.command.Cmd.TheVariants as cmd
use Rattle.vk_model.specs.declared.command.Element.{Element}
use Rattle.vk_model.specs.declared.command.Element.TheVariants as element
use Rattle.vk_model.specs.declared.command.SubresourceRange.{SubresourceRange}
use Rattle.vk_model.specs.Basics.{among, below}
use Rattle.vk_model.specs.Trace.Point.{Past, Point, on_command}
use Rattle.vk_model.specs.World.Bytes.{World}
use Rattle.vk_model.specs.World.Effect.{world}
use Rattle.vk_model.specs.World.Ownership.{elements_of, is_transition, is_acquire}

-- ---- LAYOUT

-- Subresources of an image that a command names in a layout, as what it writes or as what it reads.
pub record Named : Type 0 where
  pub image : ℕ
  pub layout : ℕ
  pub range : SubresourceRange
  pub written : Bool

-- Layers of one level of an image in a layout.
abbrev pub named : ℕ → ℕ → Bool → ℕ → ℕ → ℕ → Named
named i l written level layer layers = record { image = i; layout = l; range = record { first_level = level; levels = 1; first_layer = layer; layers = layers }; written = written }

-- The subresources that a command names, and in which layouts (Vulkan, "Clear Commands" and "Copy Commands").
abbrev pub layouts_named : Cmd → List Named
layouts_named (cmd.Clear i l color rs) = map (λ r. record { image = i; layout = l; range = r; written = true }) rs
layouts_named (cmd.CopyIn b i l gs) = map (λ g. named i l true g.level g.first_layer g.layers) gs
layouts_named (cmd.CopyOut i l b gs) = map (λ g. named i l false g.level g.first_layer g.layers) gs
layouts_named (cmd.CopyImage s l d m gs) =
    map (λ g. named s l false g.source_level g.source_first_layer g.layers) gs
    ++ map (λ g. named d m true g.destination_level g.destination_first_layer g.layers) gs
layouts_named _ = []

-- GENERAL 1 is for both, TRANSFER_SRC_OPTIMAL 6 to be read, TRANSFER_DST_OPTIMAL 7 to be written (Vulkan, "Image Layouts").
abbrev pub is_allowed : Bool → ℕ → Bool
is_allowed written l = l == 1 || l == (if written then 7 else 6)

-- Whether some subresource of a range is in another layout.
abbrev pub has_other_layout : World → ℕ → SubresourceRange → ℕ → Bool
has_other_layout w i r l = list_any (λ k. list_any (λ m. not (w.layout i (r.first_level + k) (r.first_layer + m) == l)) (below r.layers)) (below r.levels)

-- Whether a layout isn't allowed for its use or isn't current.
abbrev pub bad_named : World → Named → Bool
bad_named w x = not (is_allowed x.written x.layout) || has_other_layout w x.image x.range x.layout

-- Whether a number is a layout of the profile (Vulkan, "Image Layouts").
abbrev pub is_layout : ℕ → Bool
is_layout l = among l (0 ∷ 1 ∷ 6 ∷ 7 ∷ [])

-- A transition between layouts that aren't known, or to UNDEFINED (Vulkan, "Image Memory Barriers").
abbrev pub bad_transition : Element → Bool
bad_transition (element.Image e) = is_transition e && (not (is_layout e.old_layout) || not (is_layout e.new_layout) || e.new_layout == 0)
bad_transition _ = false

-- Whether a command names a layout wrongly, in the world before it.
abbrev pub bad_layout : World → Cmd → Bool
bad_layout w c = list_any (bad_named w) (layouts_named c) || list_any bad_transition (elements_of c)

-- LAYOUT: a layout that isn't allowed for its use or isn't current, or a transition between layouts that it can't have (Vulkan, "Image Layouts").
abbrev pub breaks_layout : Past → Point → Bool
breaks_layout past p = on_command (bad_layout (world past)) p

-- ---- OLD_LAYOUT

-- A transition whose old layout is neither UNDEFINED nor current; that of an ownership transfer is tested at its release (Vulkan, "Image Memory Barriers"; at the release alone: profile).
abbrev pub bad_old_layout : World → ℕ → Element → Bool
bad_old_layout w q (element.Image e) = is_transition e && not (is_acquire q (element.Image e)) && not (e.old_layout == 0) && has_other_layout w e.image e.range e.old_layout
bad_old_layout w q _ = false

-- OLD_LAYOUT: a transition from a layout that isn't the subresources' current one (Vulkan, "Image Memory Barriers").
abbrev pub breaks_old_layout : Past → Point → Bool
breaks_old_layout past p = on_command (λ c. list_any (bad_old_layout (world past) p.queue) (elements_of c)) p
