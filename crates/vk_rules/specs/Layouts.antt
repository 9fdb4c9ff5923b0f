-- LAYOUT and OLD_LAYOUT: which layout is wrong.
use Rattle.std.specs.Prelude.{◌≡◌, ℕ, List, Bool, true, false, Option, Some, None, slice_get}
use Rattle.vk_model.specs.declared.command.Cmd.{Cmd}
use Rattle.vk_model.specs.declared.command.Element.{Element}
use Rattle.vk_model.specs.declared.command.Element.TheVariants as element
use Rattle.vk_model.specs.Trace.Point.{Past, Point, Action, Run}
use Rattle.vk_model.specs.World.Bytes.{World}
use Rattle.vk_model.specs.World.Effect.{world}
use Rattle.vk_model.specs.World.Ownership.{elements_of}
use Rattle.vk_model.specs.Rules.Layouts.{Named, layouts_named, is_allowed, has_other_layout, bad_transition, bad_old_layout}
use Rattle.vk_rules.specs.declared.layouts.NamedPart.{NamedPart}
use Rattle.vk_rules.specs.declared.transitions.Transition.{Transition}
use Rattle.vk_rules.specs.declared.layouts.WrongLayout.{WrongLayout}
use Rattle.vk_rules.specs.declared.layouts.WrongLayout.TheVariants as wrong

-- ---- transitions

-- The image, the subresources and the layouts of element k.
abbrev pub transition_in : ℕ → Element → Option Transition
transition_in k (element.Image e) = Some (record { element = k; image = e.image; range = e.range; old_layout = e.old_layout; new_layout = e.new_layout })
transition_in k _ = None

-- One of some elements is this transition, and a test finds it wrong.
pub record IsWrongTransition (is_wrong : Element → Bool) (es : List Element) (t : Transition) : Type 0 where
  pub element : Element
  pub is : slice_get es t.element ≡ Some element
  pub transition : transition_in t.element element ≡ Some t
  pub wrong : is_wrong element ≡ true

-- ---- OLD_LAYOUT

-- What is reported of a point that breaks OLD_LAYOUT: an element of its command is this transition, whose old layout has to be current and isn't.
abbrev pub IsOldTransition : Past → Point → Transition → Type 0
IsOldTransition past p t = (c : Cmd) × (p.action ≡ Run c) × IsWrongTransition (bad_old_layout (world past) p.queue) (elements_of c) t

-- ---- LAYOUT

-- Subresources that a command names in a layout, as the definitions have them.
abbrev pub named_of : NamedPart → Named
named_of n = record { image = n.image; layout = n.layout; range = n.range; written = n.is_written }

-- One of some parts of images is named in a layout that isn't allowed for its use, or in which some of it isn't.
abbrev pub IsWrongPart : World → List Named → WrongLayout → Type 0
IsWrongPart w parts (wrong.Unallowed n) = (slice_get parts n.index ≡ Some (named_of n)) × (is_allowed n.is_written n.layout ≡ false)
IsWrongPart w parts (wrong.Other n) = (slice_get parts n.index ≡ Some (named_of n)) × (has_other_layout w n.image n.range n.layout ≡ true)
IsWrongPart w parts (wrong.Transition t) = ⊥

-- What is reported of a command that breaks LAYOUT.
abbrev pub IsWrongLayoutBy : World → Cmd → WrongLayout → Type 0
IsWrongLayoutBy w c (wrong.Unallowed n) = IsWrongPart w (layouts_named c) (wrong.Unallowed n)
IsWrongLayoutBy w c (wrong.Other n) = IsWrongPart w (layouts_named c) (wrong.Other n)
IsWrongLayoutBy w c (wrong.Transition t) = IsWrongTransition bad_transition (elements_of c) t

-- Of an action.
abbrev pub IsWrongLayout : Past → Action → WrongLayout → Type 0
IsWrongLayout past (Run c) s = IsWrongLayoutBy (world past) c s
IsWrongLayout past _ s = ⊥
