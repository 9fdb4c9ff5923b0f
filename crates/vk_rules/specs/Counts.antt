-- SIZE: which numbers are compared.
use Rattle.std.specs.Prelude.{◌≡◌, ℕ, ◌-◌, ◌%◌, ◌≢◌, ◌||◌, List, length, Bool, true, Option, Some, None, option_map, option_and_then, slice_get, nat_lt, if◌then◌else◌}
use Rattle.vk_model.specs.declared.command.Cmd.{Cmd}
use Rattle.vk_model.specs.declared.command.Cmd.TheVariants as cmd
use Rattle.vk_model.specs.declared.command.BufferCopy.{BufferCopy}
use Rattle.vk_model.specs.declared.command.Element.{Element}
use Rattle.vk_model.specs.declared.command.Element.TheVariants as element
use Rattle.vk_model.specs.declared.command.Length.{Length}
use Rattle.vk_model.specs.declared.command.Length.TheVariants as length_of
use Rattle.vk_model.specs.declared.entry.Entry.{Entry}
use Rattle.vk_model.specs.declared.entry.Entry.TheVariants as entry
use Rattle.vk_model.specs.declared.resource.ImageInfo.{ImageInfo}
use Rattle.vk_model.specs.declared.resource.Kind.{Kind}
use Rattle.vk_model.specs.declared.resource.Kind.TheVariants as kind
use Rattle.vk_model.specs.declared.resource.PoolInfo.{PoolInfo}
use Rattle.vk_model.specs.Basics.{holds}
use Rattle.vk_model.specs.Trace.Image.{most_levels}
use Rattle.vk_model.specs.Trace.Point.{Past, Action, Host, Run}
use Rattle.vk_model.specs.World.ByteWrites.{buffer_size}
use Rattle.vk_rules.specs.declared.items.Item.{Item}
use Rattle.vk_rules.specs.declared.items.Item.TheVariants as item
use Rattle.vk_rules.specs.declared.counts.Quantity.{Quantity}
use Rattle.vk_rules.specs.declared.counts.Quantity.TheVariants as quantity
use Rattle.vk_rules.specs.declared.counts.Amount.{Amount}
use Rattle.vk_rules.specs.declared.counts.SizeMeasure.{SizeMeasure}
use Rattle.vk_rules.specs.declared.counts.SizeMeasure.TheVariants as measure

-- A number, with its least and its greatest value; some have no greatest.
pub record Limits : Type 0 where
  pub value : ℕ
  pub least : ℕ
  pub most : Option ℕ

abbrev pub limits : ℕ → ℕ → Option ℕ → Limits
limits value least most = record { value = value; least = least; most = most }

-- A number that must not be 0.
abbrev pub some_of : ℕ → Limits
some_of n = limits n 1 None

-- A number that must be from 1 to a limit.
abbrev pub up_to : ℕ → ℕ → Limits
up_to most n = limits n 1 (Some most)

-- Whether a number is under its least value or over its greatest.
abbrev pub is_out : ℕ → ℕ → Option ℕ → Bool
is_out value least most = nat_lt value least || holds most (λ n. nat_lt n value)

-- ---- the numbers of each form

-- Those of a pool: blocks of up to 16,777,216 bytes, and at most 64 of them (VMA, "Custom memory pools"; the numbers: profile).
abbrev pub pool_limits : PoolInfo → Item → Quantity → Option Limits
pool_limits p item.Only quantity.BlockBytes = Some (up_to 16777216 p.block_size)
pool_limits p item.Only quantity.Blocks = Some (up_to 64 p.block_limit)
pool_limits p _ _ = None

-- The most layers of an image: a linear one has one (Vulkan, "Images"; the numbers: profile).
abbrev pub layer_limit : Kind → ℕ
layer_limit kind.Linear = 1
layer_limit kind.Optimal = 256

-- The most levels of an image: a linear one has one (Vulkan, "Images" and "Image Mip Level Sizing"; one: profile).
abbrev pub level_limit : Kind → ImageInfo → ℕ
level_limit kind.Linear m = 1
level_limit kind.Optimal m = most_levels m.width m.height

-- Those of an image: sides of up to 4,096 texels, layers and levels (Vulkan, "Images"; the limits: profile).
abbrev pub image_limits : ImageInfo → Item → Quantity → Option Limits
image_limits m item.Only quantity.Columns = Some (up_to 4096 m.width)
image_limits m item.Only quantity.Rows = Some (up_to 4096 m.height)
image_limits m item.Only quantity.Layers = Some (up_to (layer_limit m.tiling) m.layers)
image_limits m item.Only quantity.Levels = Some (up_to (level_limit m.tiling m) m.levels)
image_limits m _ _ = None

-- The bytes of a length; one to the end is never of none.
abbrev pub length_limits : Length → Option Limits
length_limits (length_of.Bytes n) = Some (some_of n)
length_limits length_of.Whole = None

-- Those of a host entry.
abbrev pub host_limits : Entry → Item → Quantity → Option Limits
host_limits (entry.Pool i p) q w = pool_limits p q w
host_limits (entry.Buffer i b) item.Only quantity.Bytes = Some (some_of b.size)
host_limits (entry.Image i m) q w = image_limits m q w
host_limits (entry.Write b o bytes) item.Only quantity.Bytes = Some (some_of (length bytes))
host_limits (entry.Read b o n) item.Only quantity.Bytes = Some (some_of n)
host_limits (entry.Flush b o n) item.Only quantity.Bytes = length_limits n
host_limits (entry.Invalidate b o n) item.Only quantity.Bytes = length_limits n
host_limits (entry.Wait ws) item.Only quantity.Items = Some (some_of (length ws))
host_limits _ _ _ = None

-- The bytes of a fill in a buffer of a size: one to the end has those that are left, and writes no word where they are 1 to 3 (Vulkan, "Filling Buffers").
abbrev pub fill_limits : ℕ → ℕ → Length → Item → Quantity → Option Limits
fill_limits size o (length_of.Bytes n) item.Only quantity.Bytes = Some (some_of n)
fill_limits size o length_of.Whole item.Only quantity.Bytes = if nat_lt o size then Some (limits (size - o) 4 None) else None
fill_limits size o n _ _ = None

-- The regions of a copy, and the bytes of each.
abbrev pub copy_limits : List BufferCopy → Item → Quantity → Option Limits
copy_limits gs item.Only quantity.Items = Some (some_of (length gs))
copy_limits gs (item.Region k) quantity.Bytes = option_map (λ g. some_of g.size) (slice_get gs k)
copy_limits gs _ _ = None

-- The bytes of a dependency element.
abbrev pub element_limits : Element → Option Limits
element_limits (element.Buffer e) = length_limits e.size
element_limits _ = None

-- The bytes of each element of a barrier.
abbrev pub elements_limits : List Element → Item → Quantity → Option Limits
elements_limits es (item.Element k) quantity.Bytes = option_and_then element_limits (slice_get es k)
elements_limits es _ _ = None

-- Those of a command: an update has at most 65,536 bytes (Vulkan, "Clear Commands" and "Copy Commands").
abbrev pub command_limits : Past → Cmd → Item → Quantity → Option Limits
command_limits past (cmd.Fill b o n w) q v = fill_limits (buffer_size past b) o n q v
command_limits past (cmd.Update b o bytes) item.Only quantity.Bytes = Some (up_to 65536 (length bytes))
command_limits past (cmd.Copy s d gs) q v = copy_limits gs q v
command_limits past (cmd.Clear i l color rs) item.Only quantity.Items = Some (some_of (length rs))
command_limits past (cmd.CopyIn b i l gs) item.Only quantity.Items = Some (some_of (length gs))
command_limits past (cmd.CopyOut i l b gs) item.Only quantity.Items = Some (some_of (length gs))
command_limits past (cmd.CopyImage s l d m gs) item.Only quantity.Items = Some (some_of (length gs))
command_limits past (cmd.Barrier es) q v = elements_limits es q v
command_limits past _ _ _ = None

-- ---- what is reported

-- This is one of some numbers, and it is under its least value or over its greatest.
abbrev pub IsAmount : (Item → Quantity → Option Limits) → Amount → Type 0
IsAmount numbers m = (numbers m.item m.quantity ≡ Some (limits m.value m.least m.most)) × (is_out m.value m.least m.most ≡ true)

-- The same, and there is nothing else to report.
abbrev pub IsSizeOf : (Item → Quantity → Option Limits) → SizeMeasure → Type 0
IsSizeOf numbers (measure.Amount m) = IsAmount numbers m
IsSizeOf numbers (measure.Block n) = ⊥

-- What is reported of a pool: one of its numbers, or the bytes of a block, which aren't a multiple of 1,024.
abbrev pub IsPoolSize : PoolInfo → SizeMeasure → Type 0
IsPoolSize p (measure.Amount m) = IsAmount (pool_limits p) m
IsPoolSize p (measure.Block n) = (p.block_size ≡ n) × (n % 1024 ≢ 0)

-- What is reported of a host entry.
abbrev pub IsHostSize : Entry → SizeMeasure → Type 0
IsHostSize (entry.Pool i p) m = IsPoolSize p m
IsHostSize x m = IsSizeOf (host_limits x) m

-- What is reported of an action that breaks SIZE.
abbrev pub IsSize : Past → Action → SizeMeasure → Type 0
IsSize past (Host x) m = IsHostSize x m
IsSize past (Run c) m = IsSizeOf (command_limits past c) m
IsSize past _ m = ⊥
