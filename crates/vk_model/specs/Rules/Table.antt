-- All rules in the order of test, and the first fault of a trace.
use Rattle.std.specs.Prelude.{List, [], ◌∷◌, Bool, Option, Some, None, option_map}
use Rattle.vk_model.specs.declared.entry.Entry.{Entry}
use Rattle.vk_model.specs.declared.rule.At.{At}
use Rattle.vk_model.specs.declared.rule.Rule.{Rule}
use Rattle.vk_model.specs.declared.rule.Rule.TheVariants as rule
use Rattle.vk_model.specs.Basics.{first_that}
use Rattle.vk_model.specs.Trace.Point.{Past, Point, at_of}
use Rattle.vk_model.specs.Trace.Order.{order}
use Rattle.vk_model.specs.Rules.Ids.{breaks_new_id, breaks_live_id, breaks_queue, breaks_queue_kind}
use Rattle.vk_model.specs.Rules.Sizes.{breaks_size, breaks_usage, breaks_memory_type, breaks_memory_size, breaks_pool_size}
use Rattle.vk_model.specs.Rules.Binding.{breaks_bind_range, breaks_bind_align, breaks_aliased}
use Rattle.vk_model.specs.Rules.Ranges.{breaks_range, breaks_align, breaks_overlap, breaks_format, breaks_subresource}
use Rattle.vk_model.specs.Rules.Layouts.{breaks_layout, breaks_old_layout}
use Rattle.vk_model.specs.Rules.Owners.{breaks_owner_whole, breaks_owner_pair}
use Rattle.vk_model.specs.Rules.Synchronization.{breaks_stage, breaks_event_state, breaks_event_dependency, breaks_signal_value, breaks_signal_order, breaks_wait_before_signal, breaks_wait_never}
use Rattle.vk_model.specs.Rules.Mapping.{breaks_map_state, breaks_host_visible}
use Rattle.vk_model.specs.Rules.Passes.{breaks_pool_kind, breaks_pass_state, breaks_pass_busy, breaks_pass_write}
use Rattle.vk_model.specs.Rules.Hazards.{breaks_hazard_war, breaks_hazard_raw, breaks_hazard_waw, breaks_in_use, breaks_read_undefined}
use Rattle.vk_model.specs.Rules.Traces.{breaks_limit}

-- Whether a point that comes next breaks a rule: a row for each rule. A rule that doesn't speak of a point isn't broken by it.
unfoldable pub breaks : Rule → Past → Point → Bool
breaks rule.NewId = breaks_new_id
breaks rule.LiveId = breaks_live_id
breaks rule.Queue = breaks_queue
breaks rule.QueueKind = breaks_queue_kind
breaks rule.Size = breaks_size
breaks rule.Usage = breaks_usage
breaks rule.MemoryType = breaks_memory_type
breaks rule.MemorySize = breaks_memory_size
breaks rule.PoolSize = breaks_pool_size
breaks rule.BindRange = breaks_bind_range
breaks rule.BindAlign = breaks_bind_align
breaks rule.Aliased = breaks_aliased
breaks rule.Range = breaks_range
breaks rule.Align = breaks_align
breaks rule.Overlap = breaks_overlap
breaks rule.Format = breaks_format
breaks rule.Subresource = breaks_subresource
breaks rule.Stage = breaks_stage
breaks rule.Layout = breaks_layout
breaks rule.OldLayout = breaks_old_layout
breaks rule.OwnerWhole = breaks_owner_whole
breaks rule.OwnerPair = breaks_owner_pair
breaks rule.EventState = breaks_event_state
breaks rule.EventDependency = breaks_event_dependency
breaks rule.SignalValue = breaks_signal_value
breaks rule.SignalOrder = breaks_signal_order
breaks rule.WaitBeforeSignal = breaks_wait_before_signal
breaks rule.WaitNever = breaks_wait_never
breaks rule.MapState = breaks_map_state
breaks rule.HostVisible = breaks_host_visible
breaks rule.PoolKind = breaks_pool_kind
breaks rule.PassState = breaks_pass_state
breaks rule.PassBusy = breaks_pass_busy
breaks rule.PassWrite = breaks_pass_write
breaks rule.HazardWar = breaks_hazard_war
breaks rule.HazardRaw = breaks_hazard_raw
breaks rule.HazardWaw = breaks_hazard_waw
breaks rule.InUse = breaks_in_use
breaks rule.ReadUndefined = breaks_read_undefined
breaks rule.Limit = breaks_limit

-- The rules in the order in which they are tested at a point (profile).
abbrev pub rules : List Rule
rules = rule.NewId ∷ rule.LiveId ∷ rule.Queue ∷ rule.QueueKind ∷ rule.Size ∷ rule.Usage ∷ rule.MemoryType ∷ rule.MemorySize ∷ rule.PoolSize
    ∷ rule.BindRange ∷ rule.BindAlign ∷ rule.Aliased ∷ rule.Range ∷ rule.Align ∷ rule.Overlap ∷ rule.Format ∷ rule.Subresource ∷ rule.Stage
    ∷ rule.Layout ∷ rule.OldLayout ∷ rule.OwnerWhole ∷ rule.OwnerPair ∷ rule.EventState ∷ rule.EventDependency ∷ rule.SignalValue
    ∷ rule.SignalOrder ∷ rule.WaitBeforeSignal ∷ rule.WaitNever ∷ rule.MapState ∷ rule.HostVisible ∷ rule.PoolKind ∷ rule.PassState
    ∷ rule.PassBusy ∷ rule.PassWrite ∷ rule.HazardWar ∷ rule.HazardRaw ∷ rule.HazardWaw ∷ rule.InUse ∷ rule.ReadUndefined ∷ rule.Limit ∷ []

-- The first rule that a point breaks (profile).
unfoldable pub first_rule : Past → Point → Option Rule
first_rule past p = first_that (λ r. breaks r past p) rules

-- The first point of a past that breaks a rule, with its first rule.
unfoldable pub fault : Past → Option (At × Rule)
fault [] = None
fault (p ∷ past) = elim (fault past) [ Some f ↦ Some f | None ↦ option_map (λ r. (at_of p, r)) (first_rule past p) ]

-- The first fault of a trace: its first point in reference order that breaks a rule, with the first rule that it breaks (profile).
unfoldable pub first_fault : List Entry → Option (At × Rule)
first_fault t = fault (order t)
