-- Of which resource bytes are written.
use Rattle.std.specs.Prelude.{◌≡◌, ◌&&◌, ℕ, List, Bool, nat_lt, Option}
use Rattle.std.specs.List.{list_any}
use Rattle.vk_model.specs.declared.command.BufferCopy.{BufferCopy}
use Rattle.vk_model.specs.declared.command.BufferImageCopy.{BufferImageCopy}
use Rattle.vk_model.specs.declared.command.ImageCopy.{ImageCopy}
use Rattle.vk_model.specs.declared.command.SubresourceRange.{SubresourceRange}
use Rattle.vk_model.specs.Basics.{holds}
use Rattle.vk_model.specs.World.Bytes.{Byte, resource_at}

-- A resource is that of some bytes, each of which has the same; there is none where there is no byte.
abbrev pub IsResourceOf : Option ℕ → List Byte → Type 0
IsResourceOf r bs = (f : ℕ → Bool) → holds r f ≡ list_any (λ b. f (resource_at b)) bs

-- Whether some region has a byte, some range a subresource, or some region a texel.
abbrev pub some_bytes : List BufferCopy → Bool
some_bytes gs = list_any (λ g. nat_lt 0 g.size) gs

abbrev pub some_subresource : List SubresourceRange → Bool
some_subresource rs = list_any (λ r. nat_lt 0 r.levels && nat_lt 0 r.layers) rs

abbrev pub some_texel : List BufferImageCopy → Bool
some_texel gs = list_any (λ g. nat_lt 0 g.layers && nat_lt 0 g.height && nat_lt 0 g.width) gs

abbrev pub some_copied : List ImageCopy → Bool
some_copied gs = list_any (λ g. nat_lt 0 g.layers && nat_lt 0 g.height && nat_lt 0 g.width) gs
