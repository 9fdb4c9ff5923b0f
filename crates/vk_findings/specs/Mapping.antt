-- MAP_STATE: how often a resource's memory was mapped and unmapped.
use Rattle.std.specs.Prelude.{◌≡◌, ◌||◌, ◌==◌, ℕ, Bool, option_map, nat_lt}
use Rattle.std.specs.List.{find}
use Rattle.vk_model.specs.declared.entry.Entry.{Entry}
use Rattle.vk_model.specs.Basics.{holds}
use Rattle.vk_model.specs.Trace.Point.{Past, Action, Host, on_host}
use Rattle.vk_model.specs.Rules.Mapping.{mapping, maps, unmaps, count_for}
use Rattle.vk_model.specs.Trace.PointViews.{point_of}
use Rattle.vk_rules.specs.Mapping.{IsBadMapping}
use Rattle.vk_findings.specs.declared.mappings.MapState.{MapState}

-- Whether an entry maps or unmaps what is mapped with a resource (Vulkan, "Host Access to Device Memory Objects"; VMA, "Memory mapping").
abbrev pub moves_mapping : Past → ℕ → Entry → Bool
moves_mapping past r x = holds (maps x) (λ b. mapping past b == mapping past r) || holds (unmaps x) (λ b. mapping past b == mapping past r)

-- How often what is mapped with a resource was mapped and unmapped, whether that is more often mapped (VMA, "Memory mapping", on counting), and the newest point that did so.
pub record AreMoves (past : Past) (m : MapState) : Type 0 where
  pub maps : m.maps ≡ count_for past m.found.resource maps
  pub unmaps : m.unmaps ≡ count_for past m.found.resource unmaps
  pub mapped : m.found.is_mapped ≡ nat_lt m.unmaps m.maps
  pub since : option_map point_of m.since ≡ find (on_host (moves_mapping past m.found.resource)) past

-- What is reported of an action that breaks MAP_STATE.
abbrev pub IsMapState : Past → Action → MapState → Type 0
IsMapState past (Host x) m = IsBadMapping past x m.found × AreMoves past m
IsMapState past _ m = ⊥
