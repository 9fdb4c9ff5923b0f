-- Parts of what is reported of ownership, as single functions find them.
use Rattle.std.specs.Prelude.{◌≡◌, ℕ, ◌==◌, ◌&&◌, false, Some, option_map}
use Rattle.vk_model.specs.declared.command.Element.{Element}
use Rattle.vk_model.specs.Trace.Point.{Past}
use Rattle.vk_model.specs.Trace.Objects.{image}
use Rattle.vk_model.specs.World.ByteWrites.{buffer_size}
use Rattle.vk_model.specs.Rules.Owners.{is_all}
use Rattle.vk_rules.specs.declared.transfers.PartTransfer.{PartTransfer}
use Rattle.vk_rules.specs.declared.transfers.PartTransfer.TheVariants as transfer
use Rattle.vk_rules.specs.Owners.{transferred_bytes, transferred_range, is_whole}
use Rattle.vk_rules.specs.Ranges.{named}

-- Element k transfers this, and it isn't all of the resource.
abbrev pub IsPartAt : Past → ℕ → Element → PartTransfer → Type 0
IsPartAt past k e (transfer.Bytes m) =
    (m.element ≡ k) × (transferred_bytes e ≡ Some (named m.buffer m.offset m.bytes))
    × (m.size ≡ buffer_size past m.buffer) × ((m.offset == 0 && is_all m.size m.bytes) ≡ false)
IsPartAt past k e (transfer.Subresources m) =
    (m.element ≡ k) × (transferred_range e ≡ Some (m.image, m.range))
    × (option_map (λ i. i.levels) (image past m.image) ≡ Some m.levels) × (option_map (λ i. i.layers) (image past m.image) ≡ Some m.layers) × (is_whole m.levels m.layers m.range ≡ false)
