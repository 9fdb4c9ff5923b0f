-- Kinds of rules whose sentences stand together.
use Rattle.std.specs.Prelude.{Bool, true, false}
use Rattle.vk_model.specs.declared.rule.Rule.{Rule}
use Rattle.vk_model.specs.declared.rule.Rule.TheVariants as rule

-- Whether a rule is about what a resource or a memory object asks for.
abbrev pub is_of_memory : Rule → Bool
is_of_memory rule.Usage = true
is_of_memory rule.MemoryType = true
is_of_memory rule.MemorySize = true
is_of_memory rule.PoolSize = true
is_of_memory _ = false

-- Whether a rule is about where a resource lies in its memory object.
abbrev pub is_of_binding : Rule → Bool
is_of_binding rule.BindRange = true
is_of_binding rule.BindAlign = true
is_of_binding rule.Aliased = true
is_of_binding _ = false

-- Whether a rule is about the bytes, texels and stages that are named.
abbrev pub is_of_parts : Rule → Bool
is_of_parts rule.Range = true
is_of_parts rule.Align = true
is_of_parts rule.Overlap = true
is_of_parts rule.Format = true
is_of_parts rule.Subresource = true
is_of_parts rule.Stage = true
is_of_parts _ = false

-- Whether a rule is about layouts and ownership.
abbrev pub is_of_layouts : Rule → Bool
is_of_layouts rule.Layout = true
is_of_layouts rule.OldLayout = true
is_of_layouts rule.OwnerWhole = true
is_of_layouts rule.OwnerPair = true
is_of_layouts _ = false

-- Whether a rule is about events and semaphores.
abbrev pub is_of_signals : Rule → Bool
is_of_signals rule.EventState = true
is_of_signals rule.EventDependency = true
is_of_signals rule.SignalValue = true
is_of_signals rule.SignalOrder = true
is_of_signals rule.WaitBeforeSignal = true
is_of_signals rule.WaitNever = true
is_of_signals _ = false

-- Whether a rule is about mapped memory.
abbrev pub is_of_maps : Rule → Bool
is_of_maps rule.MapState = true
is_of_maps rule.HostVisible = true
is_of_maps _ = false

-- Whether a rule is about pools and their passes.
abbrev pub is_of_pools : Rule → Bool
is_of_pools rule.PoolKind = true
is_of_pools rule.PassState = true
is_of_pools rule.PassBusy = true
is_of_pools rule.PassWrite = true
is_of_pools _ = false

-- Whether a rule is about what has to come before a point.
abbrev pub is_of_orders : Rule → Bool
is_of_orders rule.HazardWar = true
is_of_orders rule.HazardRaw = true
is_of_orders rule.HazardWaw = true
is_of_orders rule.InUse = true
is_of_orders rule.ReadUndefined = true
is_of_orders _ = false
