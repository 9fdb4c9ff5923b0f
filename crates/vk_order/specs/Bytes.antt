-- What bytes of the code mean.
use Rattle.vk_model.specs.World.Bytes as world
use Rattle.vk_order.specs.declared.bytes.Byte.{Byte}
use Rattle.vk_order.specs.declared.bytes.Byte.TheVariants as byte

-- The byte of the definitions.
abbrev pub byte_of : Byte → world.Byte
byte_of (byte.Buffer b k) = world.in_buffer b k
byte_of (byte.Texel i k l x y p) = world.in_image i k l x y p
