-- Memory that the host reaches through a cache: which flush and which invalidation count.
use Rattle.std.specs.Prelude.{◌≡◌, ◌<◌, ◌≤◌, List, Bool, true, false, IsTrue, Contains}
use Rattle.vk_model.specs.World.Bytes.{Byte}
use Rattle.vk_model.specs.Sync.Node.{Node}
use Rattle.vk_model.specs.Sync.Edge.{is_host}
use Rattle.vk_model.specs.Sync.Before.{IsNumbered}
use Rattle.vk_model.specs.Sync.Seen.{Access, Read, seen, flushes, invalidates}

-- The host reaches no byte through a cache.
abbrev pub uncached : Byte → Bool
uncached b = false

-- Node f is the first flush of a byte after node w (Vulkan, "Host Access to Device Memory Objects").
pub record IsFirstFlush (ns : List Node) (b : Byte) (w f : Node) : Type 0 where
  pub there : Contains ns f
  pub flushing : IsTrue (flushes f.act b)
  pub later : w.number < f.number
  pub first : (g : Node) → Contains ns g → IsTrue (flushes g.act b) → w.number < g.number → f.number ≤ g.number

-- Node f is the last invalidation of a byte before node a (Vulkan, "Host Access to Device Memory Objects").
pub record IsLastInvalidation (ns : List Node) (b : Byte) (f a : Node) : Type 0 where
  pub there : Contains ns f
  pub invalidating : IsTrue (invalidates f.act b)
  pub earlier : f.number < a.number
  pub last : (g : Node) → Contains ns g → IsTrue (invalidates g.act b) → g.number < a.number → g.number ≤ f.number

-- A command or transition sees a host write of cached memory exactly where it would see one by the first flush after it, of memory without a cache (Vulkan, "Host Write Ordering Guarantees").
abbrev pub FlushedSeen : Type 0
FlushedSeen = (ns : List Node) (w f a : Node) (cached : Byte → Bool) (k : Access) (b : Byte) → IsNumbered ns → Contains ns w → Contains ns a → IsTrue (is_host w.act) → is_host a.act ≡ false → cached b ≡ true
    → IsFirstFlush ns b w f → seen cached ns w a k b ≡ seen uncached ns f a k b

-- It sees none that wasn't flushed.
abbrev pub UnflushedSeen : Type 0
UnflushedSeen = (ns : List Node) (w a : Node) (cached : Byte → Bool) (k : Access) (b : Byte) → IsNumbered ns → Contains ns w → IsTrue (is_host w.act) → cached b ≡ true
    → ((g : Node) → Contains ns g → w.number < g.number → flushes g.act b ≡ false) → seen cached ns w a k b ≡ false

-- A host read of cached memory sees of a command's or transition's writes exactly those that a read at the last invalidation before it would see of memory without a cache (Vulkan, "Host Access to Device Memory Objects").
abbrev pub InvalidatedSeen : Type 0
InvalidatedSeen = (ns : List Node) (w f a : Node) (cached : Byte → Bool) (b : Byte) → IsNumbered ns → Contains ns w → Contains ns a → is_host w.act ≡ false → IsTrue (is_host a.act) → cached b ≡ true
    → IsLastInvalidation ns b f a → seen cached ns w a Read b ≡ seen uncached ns w f Read b

-- And none where there is no invalidation before it.
abbrev pub UninvalidatedSeen : Type 0
UninvalidatedSeen = (ns : List Node) (w a : Node) (cached : Byte → Bool) (b : Byte) → IsNumbered ns → Contains ns a → IsTrue (is_host a.act) → cached b ≡ true
    → ((g : Node) → Contains ns g → g.number < a.number → invalidates g.act b ≡ false) → seen cached ns w a Read b ≡ false
