-- What a byte remembers of who touched it.
use Rattle.std.specs.Prelude.{ℕ, ◌==◌, if◌then◌else◌, Bool, false, Some, None}
use Rattle.std.specs.Option.{option_or}
use Rattle.vk_touches.specs.declared.touches.Spot.{Spot}
use Rattle.vk_touches.specs.declared.touches.Touch.{Touch}
use Rattle.vk_touches.specs.declared.touches.Touch.TheVariants as touch
use Rattle.vk_touches.specs.declared.touches.QueueReads.{QueueReads}
use Rattle.vk_touches.specs.declared.touches.LastTouches.{LastTouches}

-- Of a byte that nobody touched.
abbrev pub untouched : LastTouches
untouched = record { write = None; is_invalidated = false; host_write = None; flush = None; transition = None; host_read = None; reads = record { first = None; second = None; third = None; fourth = None } }

-- The last reads of each queue, after one by the command of a queue that has this place.
abbrev pub with_read : QueueReads → ℕ → ℕ → QueueReads
with_read r q k =
    if q == 0 then record r { first = Some k }
    else if q == 1 then record r { second = Some k }
    else if q == 2 then record r { third = Some k }
    else if q == 3 then record r { fourth = Some k }
    else r

-- What a byte remembers after the node of a spot has touched it.
abbrev pub with_touch : LastTouches → Touch → Spot → LastTouches
with_touch t touch.Write s = record t { write = Some s; is_invalidated = false }
with_touch t touch.HostWrite s = record t { host_write = Some s; flush = None }
with_touch t touch.HostRead s = record t { host_read = Some s.place }
with_touch t (touch.Read q) s = record t { reads = with_read t.reads q s.place }

-- What it remembers after the host entry of a spot has flushed it: the first flush counts (Vulkan, "Host Access to Device Memory Objects").
abbrev pub with_flush : LastTouches → Spot → LastTouches
with_flush t s = record t { flush = option_or t.flush (Some s) }

-- What it remembers after the layout transition of a spot has read and written it (Vulkan, "Image Layout Transitions").
abbrev pub with_transition : LastTouches → Spot → LastTouches
with_transition t s = record t { transition = Some s }

-- What it remembers after a host entry has invalidated it, which sees the last write by a command or not: the last invalidation counts (Vulkan, "Host Access to Device Memory Objects").
abbrev pub with_invalidation : LastTouches → Bool → LastTouches
with_invalidation t sees = record t { is_invalidated = sees }
