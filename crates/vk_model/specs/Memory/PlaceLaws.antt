-- Laws of places: of texels in images, of ranges in blocks, and of blocks in pools.
use Rattle.std.specs.Prelude.{◌≡◌, ℕ, ◌+◌, ◌<◌, ◌≤◌, List, Bool, false, Option, Some, None, IsTrue, All, ◌↔◌}
use Rattle.vk_model.specs.declared.resource.PoolInfo.{PoolInfo}
use Rattle.vk_model.specs.declared.resource.ImageInfo.{ImageInfo}
use Rattle.vk_model.specs.declared.subresource.SubresourceLayout.{SubresourceLayout}
use Rattle.vk_model.specs.Trace.Image.{texel, level_width, level_height, image_size}
use Rattle.vk_model.specs.Rules.Sizes.{bad_image}
use Rattle.vk_model.specs.Memory.Suballocation.{Taken, Request, IsSound, IsTakenAt, Puts, TakesAway}
use Rattle.vk_model.specs.Memory.Room.{Linear, Block, BlockHolds, all_taken, fits, lower_place, upper_place}
use Rattle.vk_model.specs.Memory.Addresses.{address, subresource_layout}
use Rattle.vk_model.specs.Memory.LinearBlocks.{empty_linear, after_lower, after_upper, after_free, IsLinearBlock}
use Rattle.vk_model.specs.Memory.MoveTargets.{Numbered, BlockStart, Resident, move_target}
use Rattle.vk_model.specs.Memory.Pools.{Pool, empty_pool, pool_with, pool_without, new_block, BlockGives, Gives, IsPool, rank}

-- ---- texels

-- A byte of an image: the level, the layer and the place of its texel, and which byte of the texel it is.
pub record TexelByte : Type 0 where
  pub level : ℕ
  pub layer : ℕ
  pub x : ℕ
  pub y : ℕ
  pub texel_byte : ℕ

-- An image that breaks no rule SIZE has this byte.
pub record HasByte (i : ImageInfo) (b : TexelByte) : Type 0 where
  pub shaped : bad_image i ≡ false
  pub level_there : b.level < i.levels
  pub layer_there : b.layer < i.layers
  pub x_there : b.x < level_width i b.level
  pub y_there : b.y < level_height i b.level
  pub texel_byte_there : b.texel_byte < texel i.format

-- Where the byte lies, counted from the image's first.
abbrev pub byte_address : ImageInfo → TexelByte → ℕ
byte_address i b = address i i.tiling b.level b.layer b.x b.y + b.texel_byte

-- No two texels of an image share a byte, and no byte is two of a texel's.
abbrev pub TexelsApart : Type 0
TexelsApart = (i : ImageInfo) (b c : TexelByte) → HasByte i b → HasByte i c → byte_address i b ≡ byte_address i c → b ≡ c

-- All texels lie in the bytes that the image asks for.
abbrev pub TexelsInside : Type 0
TexelsInside = (i : ImageInfo) (b : TexelByte) → HasByte i b → byte_address i b < image_size i i.tiling

-- A byte lies in a subresource, and that lies in the bytes of its image.
pub record LiesIn (at : ℕ) (l : SubresourceLayout) (size : ℕ) : Type 0 where
  pub from : l.offset ≤ at
  pub to : at < l.offset + l.size
  pub inside : l.offset + l.size ≤ size

-- A subresource has the texels of its level and layer.
abbrev pub SubresourcesHold : Type 0
SubresourcesHold = (i : ImageInfo) (b : TexelByte) → HasByte i b → LiesIn (byte_address i b) (subresource_layout i i.tiling b.level b.layer) (image_size i i.tiling)

-- ---- blocks

-- A range that is put where it fits keeps a block sound.
abbrev pub PuttingIsSound : Type 0
PuttingIsSound = (size : ℕ) (old new : List Taken) (r : Request) (start : ℕ) → IsSound size old → IsTrue (fits old r 0 size start) → Puts old new r start → IsSound size new

-- A range that is taken away keeps a block sound.
abbrev pub TakingAwayIsSound : Type 0
TakingAwayIsSound = (size : ℕ) (old new : List Taken) (start : ℕ) → IsSound size old → TakesAway old new start → IsSound size new

-- ---- linear blocks

-- A request takes one more range, where it fits, or changes nothing where it has no place.
pub record Takes (old new : Linear) (r : Request) (place : Option ℕ) : Type 0 where
  pub fitting : (start : ℕ) → place ≡ Some start → IsTrue (fits (all_taken old) r 0 old.size start)
  pub taken : (start : ℕ) → place ≡ Some start → Puts (all_taken old) (all_taken new) r start
  pub none : place ≡ None → new ≡ old

-- What a request takes of a linear block is what is asked, at its place, and nothing else.
pub record LinearTakes : Type 0 where
  pub lower : (b : Linear) (r : Request) → IsLinearBlock b → Takes b (after_lower b r) r (lower_place b r)
  pub upper : (b : Linear) (r : Request) → IsLinearBlock b → Takes b (after_upper b r) r (upper_place b r)

-- Freeing takes away just the range at its start.
abbrev pub LinearFrees : Type 0
LinearFrees = (b : Linear) (start : ℕ) → IsLinearBlock b → IsTakenAt start (all_taken b) → TakesAway (all_taken b) (all_taken (after_free b start)) start

-- A linear block stays one: at first, and through every request of some bytes and every free.
pub record LinearStays : Type 0 where
  pub first : (size : ℕ) (ring : Bool) → IsLinearBlock (empty_linear size ring)
  pub lower : (b : Linear) (r : Request) → 0 < r.size → IsLinearBlock b → IsLinearBlock (after_lower b r)
  pub upper : (b : Linear) (r : Request) → 0 < r.size → IsLinearBlock b → IsLinearBlock (after_upper b r)
  pub freed : (b : Linear) (start : ℕ) → IsLinearBlock b → IsLinearBlock (after_free b start)

-- ---- pools

-- A pool stays one: at first, when a request of some bytes is put where the pool gives it a place, and through every free; and the number of its next block never falls.
pub record PoolStays : Type 0 where
  pub first : (info : PoolInfo) → IsPool (empty_pool info)
  pub taken : (p : Pool) (r : Request) (upper : Bool) (s : BlockStart) → 0 < r.size → IsPool p → Gives p r upper s → IsPool (pool_with p r upper s)
  pub given_back : (p : Pool) (s : BlockStart) → IsPool p → IsPool (pool_without p s)
  pub numbers_rise : (p : Pool) (r : Request) (upper : Bool) (s : BlockStart) → p.next ≤ (pool_with p r upper s).next

-- A block holds a request exactly where it gives it a start; and a new block holds every request that isn't larger than it.
pub record BlocksGive : Type 0 where
  pub held : (k : Block) (r : Request) (upper : Bool) → BlockHolds k r upper ↔ ((start : ℕ) × BlockGives k r upper start)
  pub new : (info : PoolInfo) (r : Request) (upper : Bool) → r.size ≤ info.block_size → BlockHolds (new_block info) r upper

-- Where all blocks have one size, the place that a resource of at least 16 bytes moves to has a lower rank than its own.
abbrev pub RanksFall : Type 0
RanksFall = (size : ℕ) (blocks : List Numbered) (a : Resident) (s : BlockStart) → 16 ≤ a.request.size → All (λ b. b.size ≡ size) blocks
    → move_target blocks a ≡ Some s → rank size blocks s < rank size blocks a.from
