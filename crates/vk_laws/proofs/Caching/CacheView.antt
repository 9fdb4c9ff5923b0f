-- What a cache shows.
use Rattle.std.proofs.Common.{◌≡◌, ℕ, Option, Some, sym, ap, ◌∙◌}
use Rattle.vk_model.specs.Run.Caches.{value_through}
use Rattle.vk_laws.specs.Reader.{held_as, held_of}
use Rattle.vk_laws.specs.declared.reader.Copied.{Copied}

pub same_view : (x : Copied) (o : Option Copied) (y z : ℕ) → o ≡ Some x → y ≡ z → value_through (held_as x) y ≡ value_through (held_of o) z
same_view x o y z e f = ap (λ (o : Option Copied). value_through (held_of o) y) (sym e) ∙ ap (λ (z : ℕ). value_through (held_of o) z) f
