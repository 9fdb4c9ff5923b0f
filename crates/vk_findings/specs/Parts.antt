-- Two parts of a point that overlap.
use Rattle.std.specs.Prelude.{◌<◌, ◌++◌, ◌⊎◌, ℕ, List, nat_eq}
use Rattle.vk_model.specs.declared.command.Cmd.{Cmd}
use Rattle.vk_model.specs.declared.command.Element.{Element}
use Rattle.vk_model.specs.declared.entry.Entry.{Entry}
use Rattle.vk_model.specs.declared.entry.Entry.TheVariants as entry
use Rattle.vk_model.specs.Trace.Point.{Past, Action, Host, Run}
use Rattle.vk_model.specs.World.Areas.{Area, areas_read, areas_written, areas_meet}
use Rattle.vk_model.specs.World.Ownership.{elements_of}
use Rattle.vk_model.specs.Rules.Ranges.{transitions_meet}
use Rattle.vk_findings.specs.declared.commons.Common.{Common}
use Rattle.vk_findings.specs.declared.pairs.Part.{Part}
use Rattle.vk_findings.specs.declared.pairs.Part.TheVariants as part
use Rattle.vk_findings.specs.declared.pairs.Overlap.{Overlap}
use Rattle.vk_findings.specs.Commons.{IsIn, IsNamedBy, IsId, AreMet}

-- Of areas that are written and read: two that are written, or one that is and one that is read, meet (Vulkan, "Copy Commands").
abbrev pub AreMeetingAreas : List Area → List Area → Part → Part → Common → Type 0
AreMeetingAreas written read (part.Written i) (part.Written j) x = (i < j) × AreMet areas_meet IsIn written written i j x
AreMeetingAreas written read (part.Written i) (part.Read j) x = AreMet areas_meet IsIn written read i j x
AreMeetingAreas written read _ _ x = ⊥

-- Of elements: two layout transitions meet (profile).
abbrev pub AreMeetingTransitions : List Element → Part → Part → Common → Type 0
AreMeetingTransitions es (part.Transition i) (part.Transition j) x = (i < j) × AreMet transitions_meet IsNamedBy es es i j x
AreMeetingTransitions es _ _ x = ⊥

-- Of ids: two are equal (VMA, "Defragmentation").
abbrev pub AreEqualIds : List ℕ → Part → Part → Common → Type 0
AreEqualIds ids (part.Listed i) (part.Listed j) x = (i < j) × AreMet nat_eq IsId ids ids i j x
AreEqualIds ids _ _ x = ⊥

-- Of a command: areas or transitions.
abbrev pub IsOverlapIn : Past → Cmd → Overlap → Type 0
IsOverlapIn past c o = AreMeetingAreas (areas_written past c) (areas_read past c) o.one o.other o.common ⊎ AreMeetingTransitions (elements_of c) o.one o.other o.common

-- Of a host entry: ids that an end of a pass lists.
abbrev pub IsListedTwice : Entry → Overlap → Type 0
IsListedTwice (entry.EndPass d kept lost) o = AreEqualIds (kept ++ lost) o.one o.other o.common
IsListedTwice _ o = ⊥

-- Of an action.
abbrev pub IsOverlap : Past → Action → Overlap → Type 0
IsOverlap past (Host x) o = IsListedTwice x o
IsOverlap past (Run c) o = IsOverlapIn past c o
IsOverlap past _ o = ⊥
