-- What a piece of a command on an image asks of resources, and does to them.
use Rattle.std.specs.Prelude.{◌≡◌, ℕ, ◌<◌, ◌*◌, List, All, Some, slice_get}
use Rattle.std.specs.List.{sum_by}
use Rattle.vk_model.specs.declared.command.Cmd.{Cmd}
use Rattle.vk_model.specs.declared.command.BufferImageCopy.{BufferImageCopy}
use Rattle.vk_model.specs.declared.command.ImageCopy.{ImageCopy}
use Rattle.vk_model.specs.declared.command.SubresourceRange.{SubresourceRange}
use Rattle.vk_model.specs.declared.resource.ImageInfo.{ImageInfo}
use Rattle.vk_model.specs.Trace.Image.{texel}
use Rattle.vk_model.specs.Trace.Point.{Past}
use Rattle.vk_model.specs.World.Areas.{row_count, region_box, source_box, destination_box}
use Rattle.vk_model.specs.World.ByteWrites.{ByteWrite}
use Rattle.vk_model.specs.Run.Pieces.{pieces}
use Rattle.vk_transfer.specs.Ran.{HaveRun}
use Rattle.vk_image_transfer.specs.Pieces.{RangeFits, range_rows}
use Rattle.vk_image_transfer.specs.Rows.{BoxFits, RegionFits}
use Rattle.vk_resources.specs.declared.resources.Placed.{Placed}
use Rattle.vk_resources.specs.Held.{Held, placed, shape_of, byte_at}
use Rattle.vk_resources.specs.Matches.{Stands}
use Rattle.vk_resources.specs.Fits.{FitsCommand, KeepsApart}
use Rattle.vk_resources.specs.Rest.{KeepsRest, is_written}
use Rattle.vk_resources.specs.Inner.Steps.{KeepsPlaces}

-- An image is there, of this shape and at this place.
pub record IsPicture (s : Held) (i : ℕ) (m : ImageInfo) (p : Placed) : Type 0 where
  pub shaped : shape_of s i ≡ Some m
  pub here : placed s i ≡ Some p

-- An image is there.
pub record HasPicture (s : Held) (i : ℕ) : Type 0 where
  pub image : ImageInfo
  pub place : Placed
  pub is : IsPicture s i image place

-- A piece of a clear is one of its ranges, each of which lies in the image (Vulkan, "Clearing Images Outside a Render Pass Instance").
pub record ClearReady (s : Held) (i : ℕ) (rs : List SubresourceRange) (k : ℕ) : Type 0 where
  pub to : HasPicture s i
  pub ranges : All (RangeFits to.image) rs
  pub piece : k < sum_by (range_rows to.image) rs

-- A piece of a copy between a buffer of some bytes and an image is one of its regions, each of which lies in both (Vulkan, "Copying Data Between Buffers and Images").
pub record RegionsReady (s : Held) (size i : ℕ) (gs : List BufferImageCopy) (k : ℕ) : Type 0 where
  pub with : HasPicture s i
  pub fits : All (λ g. BoxFits with.image (region_box g) × RegionFits g (texel with.image.format) size) gs
  pub piece : k < sum_by row_count gs

-- The same of some buffer.
abbrev pub MayCopyIn : (s : Held) (i : ℕ) (gs : List BufferImageCopy) (k : ℕ) → Type 0
MayCopyIn s i gs k = (size : ℕ) × RegionsReady s size i gs k

-- Two images are there, with texels of one size (Vulkan, "Copying Data Between Images", on size-compatible formats).
pub record ArePictures (s : Held) (a b : ℕ) : Type 0 where
  pub from : HasPicture s a
  pub to : HasPicture s b
  pub texels : texel from.image.format ≡ texel to.image.format

-- A region of a copy between images lies in both; within one image what is read isn't written (Vulkan, "Copying Data Between Images").
abbrev pub FitsPictures : (s : Held) (a b : ℕ) → ArePictures s a b → ImageCopy → Type 0
FitsPictures s a b p g = BoxFits p.from.image (source_box g) × BoxFits p.to.image (destination_box g) × KeepsApart a b g

-- A row of a region of a copy between images is there, and the region fits.
pub record ImageRowReady (s : Held) (a b : ℕ) (g : ImageCopy) (k : ℕ) : Type 0 where
  pub pictures : ArePictures s a b
  pub fits : FitsPictures s a b pictures g
  pub row : k < g.layers * g.height
  pub columns : 0 < g.width

-- A piece of a command has been run, and nothing else has changed (Vulkan, "Clear Commands" and "Copy Commands").
pub record HasRunPiece (old new : Held) (c : Cmd) (k : ℕ) : Type 0 where
  pub ran : (past : Past) (ms : List ByteWrite) → Stands past old → FitsCommand past c → slice_get (pieces past c) k ≡ Some ms → HaveRun ms (byte_at old) (byte_at new)
  pub keeps : KeepsPlaces old new
  pub cache : new.cache ≡ old.cache
  pub rest : (past : Past) (ms : List ByteWrite) → Stands past old → FitsCommand past c → slice_get (pieces past c) k ≡ Some ms → KeepsRest old new (is_written ms)
