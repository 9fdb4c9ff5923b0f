-- What points do to the layout of one subresource.
use Rattle.std.specs.Prelude.{◌≡◌, ℕ, List, [], ◌∷◌, Bool, false, ◌==◌, if◌then◌else◌, IsTrue}
use Rattle.std.specs.List.{find, fold, list_any}
use Rattle.vk_model.specs.declared.command.Element.{Element}
use Rattle.vk_model.specs.declared.command.Element.TheVariants as element
use Rattle.vk_model.specs.Basics.{within}
use Rattle.vk_model.specs.Trace.Point.{Past, Point, Action, Run, on_command}
use Rattle.vk_model.specs.World.Effect.{world}
use Rattle.vk_model.specs.World.Ownership.{elements_of}
use Rattle.vk_findings.specs.declared.subresources.CurrentLayout.{CurrentLayout}
use Rattle.vk_findings.specs.Layouts.{takes_place, changes_at, transitions}

-- The elements of a barrier; an action that is none has none.
abbrev pub elements_in : Action → List Element
elements_in (Run c) = elements_of c
elements_in _ = []

-- The layout to which an element brings what it is on.
abbrev pub new_layout_of : Element → ℕ
new_layout_of (element.Image e) = e.new_layout
new_layout_of _ = 0

-- The layout of a subresource after an element.
abbrev pub layout_by : ℕ → ℕ → ℕ → ℕ → ℕ → Element → ℕ
layout_by q i k l before e = if changes_at q i k l e then new_layout_of e else before

-- After a point.
abbrev pub layout_by_point : ℕ → ℕ → ℕ → Point → ℕ → ℕ
layout_by_point i k l p before = fold (layout_by p.queue i k l) before (elements_in p.action)

-- After a past.
abbrev pub layout_in : ℕ → ℕ → ℕ → Past → ℕ
layout_in i k l [] = 0
layout_in i k l (p ∷ past) = layout_by_point i k l p (layout_in i k l past)

-- Whether some transition takes place at a point.
abbrev pub takes_some : Point → Bool
takes_some p = on_command (λ c. list_any (takes_place p.queue) (elements_of c)) p

-- Points show the layouts of a past: they have all its transitions.
pub record ShowLayouts (kept past : Past) : Type 0 where
  pub layouts : (i k l : ℕ) → layout_in i k l kept ≡ (world past).layout i k l
  pub since : (i k l : ℕ) → find (transitions i k l) kept ≡ find (transitions i k l) past

-- A layer of a level is in another layout than one.
pub record IsOtherAt (k first count named : ℕ) (f : CurrentLayout) : Type 0 where
  pub level : f.level ≡ k
  pub layer : IsTrue (within first count f.layer)
  pub other : (f.layout == named) ≡ false
