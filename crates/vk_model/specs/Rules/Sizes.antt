-- The rules on sizes, usages and memory: SIZE, USAGE, MEMORY_TYPE, MEMORY_SIZE, POOL_SIZE.
use Rattle.std.specs.Prelude.{ℕ, ◌+◌, ◌*◌, ◌%◌, List, [], ◌∷◌, length, Bool, false, not, ◌&&◌, ◌||◌, ◌==◌, nat_lt, nat_le, option_and_then}
use Rattle.std.specs.List.{list_any}
use Rattle.vk_model.specs.declared.command.Cmd.{Cmd}
use Rattle.vk_model.specs.declared.command.Cmd.TheVariants as cmd
use Rattle.vk_model.specs.declared.command.Element.{Element}
use Rattle.vk_model.specs.declared.command.Element.TheVariants as element
use Rattle.vk_model.specs.declared.command.Length.{Length}
use Rattle.vk_model.specs.declared.command.Length.TheVariants as length_of
use Rattle.vk_model.specs.declared.entry.Entry.{Entry}
use Rattle.vk_model.specs.declared.entry.Entry.TheVariants as entry
use Rattle.vk_model.specs.declared.resource.PoolInfo.{PoolInfo}
use Rattle.vk_model.specs.declared.resource.ImageInfo.{ImageInfo}
use Rattle.vk_model.specs.declared.resource.Kind.{Kind}
use Rattle.vk_model.specs.declared.resource.Kind.TheVariants as kind
use Rattle.vk_model.specs.Basics.{holds, has_bits}
use Rattle.vk_model.specs.Trace.Image.{most_levels}
use Rattle.vk_model.specs.Trace.Point.{Past, Point, on_host, on_command}
use Rattle.vk_model.specs.Trace.Objects.{resource_in, resource, pool, pool_at, type_at}
use Rattle.vk_model.specs.World.ByteWrites.{buffer_size}
use Rattle.vk_model.specs.World.Ownership.{elements_of, is_transition}

-- ---- SIZE

-- Whether a count is 0 or over its limit.
abbrev pub is_outside : ℕ → ℕ → Bool
is_outside most n = n == 0 || nat_lt most n

-- A linear image has one level and one layer; an optimal one at most the levels that its sides allow (Vulkan, "Images"; one of each: profile).
abbrev pub bad_levels : Kind → ImageInfo → Bool
bad_levels kind.Linear m = not (m.levels == 1 && m.layers == 1)
bad_levels kind.Optimal m = is_outside (most_levels m.width m.height) m.levels

-- Sides of 1 to 4,096 texels, 1 to 256 layers (Vulkan, "Images"; the limits: profile).
abbrev pub bad_image : ImageInfo → Bool
bad_image m = is_outside 4096 m.width || is_outside 4096 m.height || is_outside 256 m.layers || bad_levels m.tiling m

-- Blocks of a multiple of 1,024 bytes up to 16,777,216, and at most 64 of them (VMA, "Custom memory pools"; the numbers: profile).
abbrev pub bad_pool : PoolInfo → Bool
bad_pool p = not (p.block_size % 1024 == 0) || is_outside 16777216 p.block_size || is_outside 64 p.block_limit

-- Whether a list is empty.
abbrev pub is_empty_list : {A : Type 0} → List A → Bool
is_empty_list xs = length xs == 0

-- Whether a length is of no byte; one to the end never is.
abbrev pub is_zero : Length → Bool
is_zero (length_of.Bytes n) = n == 0
is_zero length_of.Whole = false

-- Whether a fill of a buffer of this size writes no word, though it begins inside: one to the end with 1 to 3 bytes left does (Vulkan, "Filling Buffers"). One that begins at the end or past it breaks RANGE alone (profile).
abbrev pub fills_none : ℕ → ℕ → Length → Bool
fills_none size o (length_of.Bytes n) = n == 0
fills_none size o length_of.Whole = nat_lt o size && nat_lt size (o + 4)

-- Sizes of host entries (Vulkan, "Buffers", "Images" and "Semaphores"; for accesses of no byte: profile).
abbrev pub bad_entry_size : Entry → Bool
bad_entry_size (entry.Pool i p) = bad_pool p
bad_entry_size (entry.Buffer i b) = b.size == 0
bad_entry_size (entry.Image i m) = bad_image m
bad_entry_size (entry.Write b o bytes) = is_empty_list bytes
bad_entry_size (entry.Read b o n) = n == 0
bad_entry_size (entry.Flush b o n) = is_zero n
bad_entry_size (entry.Invalidate b o n) = is_zero n
bad_entry_size (entry.Wait ws) = is_empty_list ws
bad_entry_size _ = false

-- A buffer element of no byte (Vulkan, "Buffer Memory Barriers").
abbrev pub is_empty_element : Element → Bool
is_empty_element (element.Buffer e) = is_zero e.size
is_empty_element _ = false

-- Sizes of commands: an update has 1 to 65,536 bytes, and lists of regions and ranges aren't empty (Vulkan, "Clear Commands" and "Copy Commands").
abbrev pub bad_command_size : Past → Cmd → Bool
bad_command_size past (cmd.Fill b o n w) = fills_none (buffer_size past b) o n
bad_command_size past (cmd.Update b o bytes) = is_outside 65536 (length bytes)
bad_command_size past (cmd.Copy s d gs) = is_empty_list gs || list_any (λ g. g.size == 0) gs
bad_command_size past (cmd.Clear i l color rs) = is_empty_list rs
bad_command_size past (cmd.CopyIn b i l gs) = is_empty_list gs
bad_command_size past (cmd.CopyOut i l b gs) = is_empty_list gs
bad_command_size past (cmd.CopyImage s l d m gs) = is_empty_list gs
bad_command_size past (cmd.Barrier es) = list_any is_empty_element es
bad_command_size past _ = false

-- SIZE: a size or count that is 0 or over its limit (Vulkan, valid usage of each call; the limits: profile).
abbrev pub breaks_size : Past → Point → Bool
breaks_size past p = on_host bad_entry_size p || on_command (bad_command_size past) p

-- ---- USAGE

-- What a command copies from (Vulkan, "Copy Commands").
abbrev pub sources : Cmd → List ℕ
sources (cmd.Copy s d gs) = s ∷ []
sources (cmd.CopyIn b i l gs) = b ∷ []
sources (cmd.CopyOut i l b gs) = i ∷ []
sources (cmd.CopyImage s l d m gs) = s ∷ []
sources _ = []

-- What a command writes to (Vulkan, "Clear Commands" and "Copy Commands").
abbrev pub destinations : Cmd → List ℕ
destinations (cmd.Fill b o n w) = b ∷ []
destinations (cmd.Update b o bytes) = b ∷ []
destinations (cmd.Copy s d gs) = d ∷ []
destinations (cmd.Clear i l color rs) = i ∷ []
destinations (cmd.CopyIn b i l gs) = i ∷ []
destinations (cmd.CopyOut i l b gs) = b ∷ []
destinations (cmd.CopyImage s l d m gs) = d ∷ []
destinations _ = []

-- Whether a resource hasn't a usage: TRANSFER_SRC 1 or TRANSFER_DST 2 (Vulkan, "Buffers" and "Images").
abbrev pub lacks : Past → ℕ → ℕ → Bool
lacks past bit r = not (holds (resource past r) (λ x. has_bits x.usage bit))

-- A transition to TRANSFER_SRC_OPTIMAL 6 or TRANSFER_DST_OPTIMAL 7 without that usage (Vulkan, "Image Layouts").
abbrev pub layout_lacks : Past → Element → Bool
layout_lacks past (element.Image e) = is_transition e && (e.new_layout == 6 && lacks past 1 e.image || e.new_layout == 7 && lacks past 2 e.image)
layout_lacks past _ = false

-- Whether a command or one of its elements names a resource without the usage that it needs.
abbrev pub bad_usage : Past → Cmd → Bool
bad_usage past c = list_any (lacks past 1) (sources c) || list_any (lacks past 2) (destinations c) || list_any (layout_lacks past) (elements_of c)

-- USAGE: a resource made with no or an unknown usage, or used without the usage that it needs (Vulkan, "Buffers", "Images" and valid usage of each command).
abbrev pub breaks_usage : Past → Point → Bool
breaks_usage past p = on_host (λ x. holds (resource_in x) (λ r. is_outside 3 r.usage)) p || on_command (bad_usage past) p

-- ---- MEMORY_TYPE, MEMORY_SIZE and POOL_SIZE

-- Whether a memory type is allowed for a resource: linear ones have all three, optimal ones type 0 (Vulkan, "Resource Memory Association", on `memoryTypeBits`; which: profile).
abbrev pub allows : Kind → ℕ → Bool
allows kind.Linear t = nat_lt t 3
allows kind.Optimal t = t == 0

-- Whether an entry names a memory type over 2, or one that isn't allowed for its resource.
abbrev pub bad_type : Past → Entry → Bool
bad_type past (entry.Pool i p) = nat_le 3 p.memory_type
bad_type past (entry.Memory i m) = nat_le 3 m.memory_type
bad_type past x = holds (resource_in x) (λ r. holds (type_at past r.place) (λ t. not (allows r.kind t)))

-- MEMORY_TYPE: a memory type that isn't there or isn't allowed (Vulkan, "Device Memory" and "Resource Memory Association").
abbrev pub breaks_memory_type : Past → Point → Bool
breaks_memory_type past p = on_host (bad_type past) p

-- A memory object of 0 bytes, or it or what a resource asks over 67,108,864 bytes (Vulkan, "Device Memory", on `maxMemoryAllocationSize`; the number: profile).
abbrev pub bad_memory_size : Entry → Bool
bad_memory_size (entry.Memory i m) = is_outside 67108864 m.size
bad_memory_size x = holds (resource_in x) (λ r. nat_lt 67108864 r.size)

-- MEMORY_SIZE: a memory object or a resource of a size that no device has (Vulkan, "Device Memory").
abbrev pub breaks_memory_size : Past → Point → Bool
breaks_memory_size past p = on_host bad_memory_size p

-- A resource that asks for more than half a block of its pool.
abbrev pub over_half : Past → Entry → Bool
over_half past x = holds (resource_in x) (λ r. holds (option_and_then (pool past) (pool_at r.place)) (λ p. nat_lt p.block_size (2 * r.size)))

-- POOL_SIZE: a resource that asks for more than half a block of its pool; dedicated memory is asked for by name (VMA, "Custom memory pools"; refused here: profile).
abbrev pub breaks_pool_size : Past → Point → Bool
breaks_pool_size past p = on_host (over_half past) p
