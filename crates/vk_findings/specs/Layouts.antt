-- LAYOUT and OLD_LAYOUT: the layout that a subresource is in, and since when.
use Rattle.std.specs.Prelude.{◌≡◌, ℕ, ◌&&◌, ◌||◌, ◌==◌, Bool, false, option_map, IsTrue}
use Rattle.std.specs.List.{find, list_any}
use Rattle.vk_model.specs.declared.command.Element.{Element}
use Rattle.vk_model.specs.declared.command.Element.TheVariants as element
use Rattle.vk_model.specs.declared.command.SubresourceRange.{SubresourceRange}
use Rattle.vk_model.specs.Basics.{within}
use Rattle.vk_model.specs.Trace.Point.{Past, Point, Action, on_command}
use Rattle.vk_model.specs.World.Effect.{world}
use Rattle.vk_model.specs.World.Ownership.{elements_of, is_acquire, is_transition}
use Rattle.vk_model.specs.Trace.PointViews.{point_of}
use Rattle.vk_rules.specs.Layouts.{IsWrongLayout, IsOldTransition}
use Rattle.vk_rules.specs.declared.layouts.WrongLayout.TheVariants as wrong
use Rattle.vk_findings.specs.declared.layouts.LayoutState.{LayoutState}
use Rattle.vk_findings.specs.declared.layouts.LayoutState.TheVariants as state
use Rattle.vk_findings.specs.declared.layouts.NamedLayout.{NamedLayout}
use Rattle.vk_findings.specs.declared.layouts.OldLayout.{OldLayout}
use Rattle.vk_findings.specs.declared.subresources.CurrentLayout.{CurrentLayout}

-- ---- since when

-- Whether an element is a layout transition that takes place on a queue: that of an ownership transfer does so at the acquire alone (Vulkan, "Queue Family Ownership Transfer"; at the acquire: profile).
abbrev pub takes_place : ℕ → Element → Bool
takes_place q (element.Image e) = is_transition e && (e.families.source == e.families.destination || is_acquire q (element.Image e))
takes_place q _ = false

-- Whether an element names a subresource of an image (Vulkan, "Image Memory Barriers").
abbrev pub names_at : ℕ → ℕ → ℕ → Element → Bool
names_at i level layer (element.Image e) = i == e.image && within e.range.first_level e.range.levels level && within e.range.first_layer e.range.layers layer
names_at i level layer _ = false

-- Whether it is a transition of it that takes place on a queue.
abbrev pub changes_at : ℕ → ℕ → ℕ → ℕ → Element → Bool
changes_at q i level layer e = takes_place q e && names_at i level layer e

-- Whether a point has a layout transition of a subresource (Vulkan, "Image Layout Transitions").
abbrev pub transitions : ℕ → ℕ → ℕ → Point → Bool
transitions i level layer p = on_command (λ c. list_any (changes_at p.queue i level layer) (elements_of c)) p

-- The layout of a subresource of an image, and the newest point with a transition of it (Vulkan, "Image Layouts").
pub record IsCurrent (past : Past) (i : ℕ) (f : CurrentLayout) : Type 0 where
  pub layout : (world past).layout i f.level f.layer ≡ f.layout
  pub since : option_map point_of f.since ≡ find (transitions i f.level f.layer) past

-- ---- LAYOUT

-- The subresource is the first one of its part.
pub record IsFirstOf (n : NamedLayout) : Type 0 where
  pub level : n.found.level ≡ n.part.range.first_level
  pub layer : n.found.layer ≡ n.part.range.first_layer

-- A subresource of a range is in another layout than one.
pub record IsOtherIn (r : SubresourceRange) (named : ℕ) (f : CurrentLayout) : Type 0 where
  pub level : IsTrue (within r.first_level r.levels f.level)
  pub layer : IsTrue (within r.first_layer r.layers f.layer)
  pub other : (f.layout == named) ≡ false

-- What is reported of an action that breaks LAYOUT: what is in a wrong layout, and the layout of a subresource of it.
abbrev pub IsLayout : Past → Action → LayoutState → Type 0
IsLayout past a (state.Unallowed n) = IsWrongLayout past a (wrong.Unallowed n.part) × IsCurrent past n.part.image n.found × IsFirstOf n
IsLayout past a (state.Other n) = IsWrongLayout past a (wrong.Other n.part) × IsCurrent past n.part.image n.found × IsOtherIn n.part.range n.part.layout n.found
IsLayout past a (state.Transition t) = IsWrongLayout past a (wrong.Transition t)

-- ---- OLD_LAYOUT

-- What is reported of a point that breaks OLD_LAYOUT: a transition whose old layout has to be current, and a subresource that isn't in it.
pub record IsOldLayout (past : Past) (p : Point) (o : OldLayout) : Type 0 where
  pub transition : IsOldTransition past p o.transition
  pub current : IsCurrent past o.transition.image o.found
  pub other : IsOtherIn o.transition.range o.transition.old_layout o.found
