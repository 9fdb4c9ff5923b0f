-- Bytes that nodes access, as ranges and boxes.
use Rattle.std.specs.Prelude.{◌≡◌, ◌<◌, ◌^◌, ◌-◌, ℕ, List, Bool, true, false, ◌&&◌, ◌==◌, nat_le, nat_lt}
use Rattle.std.specs.List.{list_any}
use Rattle.vk_model.specs.World.Bytes.{Byte, in_buffer, in_image}
use Rattle.vk_model.specs.Sync.Access.{is_in}
use Rattle.vk_hazards.specs.declared.areas.Area.{Area}
use Rattle.vk_hazards.specs.declared.areas.Area.TheVariants as area

-- Whether a number is from one on and below another.
abbrev pub is_between : (low high k : ℕ) → Bool
is_between low high k = nat_le low k && nat_lt k high

-- Whether an area has a byte.
abbrev pub has : Area → Byte → Bool
has (area.Bytes b low high) (in_buffer c k) = b == c && is_between low high k
has (area.Bytes b low high) (in_image i a l x y p) = false
has (area.Texels t) (in_buffer c k) = false
has (area.Texels t) (in_image i a l x y p) = t.image == i && t.level == a && is_between t.first_layer t.end_layer l && is_between t.left t.right x && is_between t.top t.bottom y && nat_lt p t.texel

-- Whether one of some areas has a byte.
abbrev pub have : List Area → Byte → Bool
have areas b = list_any (λ a. has a b) areas

-- A byte whose place is given by numbers below the greatest ones of 64 and 32 bits, as that of every byte inside a resource is.
abbrev pub IsNumbered : Byte → Type 0
IsNumbered (in_buffer b k) = k < 2 ^ 64 - 1
IsNumbered (in_image i a l x y p) = (a < 2 ^ 32) × (l < 2 ^ 32 - 1) × (x < 2 ^ 32 - 1) × (y < 2 ^ 32 - 1)

-- Areas have bytes of a list alone, and all of them that are numbered.
pub record AreAreas (areas : List Area) (bs : List Byte) : Type 0 where
  pub inside : (b : Byte) → have areas b ≡ true → is_in b bs ≡ true
  pub whole : (b : Byte) → IsNumbered b → is_in b bs ≡ true → have areas b ≡ true
