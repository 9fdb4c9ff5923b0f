-- The pieces that commands are run in.
use Rattle.std.specs.Prelude.{ℕ, zero, suc, ◌+◌, ◌*◌, List, [], ◌∷◌, map, take, drop, length, Option, Some, None}
use Rattle.std.specs.List.{flat_map}
use Rattle.vk_model.specs.declared.command.Cmd.{Cmd}
use Rattle.vk_model.specs.declared.command.Cmd.TheVariants as cmd
use Rattle.vk_model.specs.declared.command.SubresourceRange.{SubresourceRange}
use Rattle.vk_model.specs.declared.resource.ImageInfo.{ImageInfo}
use Rattle.vk_model.specs.Basics.{below}
use Rattle.vk_model.specs.Trace.Image.{texel, level_width}
use Rattle.vk_model.specs.Trace.Point.{Past}
use Rattle.vk_model.specs.Trace.Objects.{image}
use Rattle.vk_model.specs.World.ByteWrites.{ByteWrite, byte_writes, clear_write, level_bytes, copy_writes, copy_in_writes, copy_out_writes, copy_image_writes}

-- A list in chunks of n items, the last one maybe shorter; the first number is at least how many chunks there are.
abbrev pub chunks : {A : Type 0} → ℕ → ℕ → List A → List (List A)
chunks zero n xs = []
chunks (suc k) n [] = []
chunks (suc k) n (x ∷ xs) = take n (x ∷ xs) ∷ chunks k n (drop n (x ∷ xs))

-- A list in chunks of n items, n above 0.
abbrev pub cut : {A : Type 0} → ℕ → List A → List (List A)
cut n xs = chunks (length xs) n xs

-- The bytes of a row of texels.
abbrev pub row_bytes : Option ImageInfo → ℕ → ℕ
row_bytes None w = 0
row_bytes (Some m) w = w * texel m.format

-- The rows of level k of a range that is cleared.
abbrev pub level_pieces : ℕ → List ℕ → ImageInfo → SubresourceRange → ℕ → List (List ByteWrite)
level_pieces i color m r k = cut (level_width m k * texel m.format) (map (clear_write m color) (level_bytes i m r k))

-- The rows of a range that is cleared.
abbrev pub clear_pieces : ℕ → List ℕ → Option ImageInfo → SubresourceRange → List (List ByteWrite)
clear_pieces i color None r = []
clear_pieces i color (Some m) r = flat_map (λ k. level_pieces i color m r (r.first_level + k)) (below r.levels)

-- The pieces of a command: each row of a region or range, or 4,096 bytes at most. In order they are its byte writes; run in any order they have its effect (profile).
abbrev pub pieces : Past → Cmd → List (List ByteWrite)
pieces past (cmd.Copy s d gs) = flat_map (λ g. cut 4096 (copy_writes s d g)) gs
pieces past (cmd.CopyIn b i l gs) = flat_map (λ g. cut (row_bytes (image past i) g.width) (copy_in_writes b i (image past i) g)) gs
pieces past (cmd.CopyOut i l b gs) = flat_map (λ g. cut (row_bytes (image past i) g.width) (copy_out_writes i b (image past i) g)) gs
pieces past (cmd.CopyImage s l d m gs) = flat_map (λ g. cut (row_bytes (image past d) g.width) (copy_image_writes s d (image past d) g)) gs
pieces past (cmd.Clear i l color rs) = flat_map (clear_pieces i color (image past i)) rs
pieces past c = cut 4096 (byte_writes past c)
