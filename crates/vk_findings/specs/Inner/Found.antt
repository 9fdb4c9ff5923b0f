-- What is found among areas.
use Rattle.std.specs.Prelude.{◌≡◌, ◌<◌, ◌≤◌, ℕ, List, Some, IsTrue, slice_get}
use Rattle.vk_model.specs.declared.command.Element.{Element}
use Rattle.vk_model.specs.World.Areas.{Area, areas_meet}
use Rattle.vk_findings.specs.declared.finder.Met.{Met}
use Rattle.vk_findings.specs.declared.finder.Pair.{Pair}
use Rattle.vk_findings.specs.declared.pairs.Overlap.{Overlap}
use Rattle.vk_findings.specs.Commons.{IsIn, AreMet}
use Rattle.vk_findings.specs.Parts.{AreMeetingAreas, AreMeetingTransitions, AreEqualIds}

-- An area meets the one of this number, and both have this.
pub record IsMet (a : Area) (others : List Area) (m : Met) : Type 0 where
  pub other : Area
  pub other_is : slice_get others m.number ≡ Some other
  pub meet : IsTrue (areas_meet a other)
  pub in_one : IsIn a m.common
  pub in_other : IsIn other m.common

-- It comes from this number on.
pub record IsMetFrom (a : Area) (others : List Area) (from : ℕ) (m : Met) : Type 0 where
  pub later : from ≤ m.number
  pub met : IsMet a others m

abbrev pub IsPair : List Area → List Area → Pair → Type 0
IsPair ones others q = AreMet areas_meet IsIn ones others q.one q.other q.common

-- The one comes before the other.
abbrev pub IsRising : List Area → Pair → Type 0
IsRising areas q = (q.one < q.other) × IsPair areas areas q

abbrev pub IsAmong : List Area → List Area → Overlap → Type 0
IsAmong written read o = AreMeetingAreas written read o.one o.other o.common

abbrev pub IsOfElements : List Element → Overlap → Type 0
IsOfElements es o = AreMeetingTransitions es o.one o.other o.common

abbrev pub IsOfIds : List ℕ → Overlap → Type 0
IsOfIds ids o = AreEqualIds ids o.one o.other o.common
