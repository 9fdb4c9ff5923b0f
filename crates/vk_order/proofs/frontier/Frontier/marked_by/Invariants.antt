use Rattle.std.proofs.Common.{◌≡◌, ◌<◌, ℕ, Some, slice_get}
use Rattle.vk_order.specs.declared.parts.Part.{Part as AnyPart}
use Rattle.vk_order.specs.Bytes.{byte_of}
use Rattle.vk_order.specs.Inner.Alone.{NeverMarks}
use Rattle.vk_order.proofs.frontier.Frontier.marked_by.Given as goal

abbrev pub invariant-loop-index : goal.invariant-loop-index
invariant-loop-index l = (i : ℕ) (x : AnyPart) → i < l.index → slice_get l.parts i ≡ Some x → NeverMarks l.self l.part l.write (byte_of l.byte) x
