-- The bytes of a resource that an access has, by their numbers.
use Rattle.std.proofs.Common.{◌≡◌, ◌∙◌, ℕ, length, true, sym, subst}
use Rattle.std.specs.Prelude.{is_some}
use Rattle.vk_model.specs.Trace.Objects.{buffer}
use Rattle.vk_model.specs.Trace.Point.{Past}
use Rattle.vk_model.specs.World.Bytes.{in_buffer}
use Rattle.vk_touches.specs.declared.bytes.Bytes.{Bytes}
use Rattle.vk_touches.specs.Bytes.{numbered_byte, HaveNumbers}
use Rattle.vk_history.specs.declared.resource_contents.ResourceContents.{ResourceContents}
use Rattle.vk_history.specs.Contents.{AreBytesOf, AreContentsOf}
use Rattle.vk_history.proofs.Making.Numbers.{byte_of_buffer}

-- of a buffer they are its bytes
pub buffer_bytes : (past : Past) (b : ℕ) → is_some (buffer past b) ≡ true → (own : Bytes) → AreBytesOf past b own → (k : ℕ) → numbered_byte own k ≡ in_buffer b k
buffer_bytes past b there own are k = are.byte k ∙ byte_of_buffer past b there k

-- what is kept of them has their numbers
pub kept_numbers : (past : Past) (r : ℕ) (c : ResourceContents) → AreContentsOf c past r → (own : Bytes) → AreBytesOf past r own → HaveNumbers own (length c.touches)
kept_numbers past r c kept own are = subst (λ (n : ℕ). HaveNumbers own n) (sym kept.touches_size) are.numbers
