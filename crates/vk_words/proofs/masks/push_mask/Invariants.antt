use Rattle.std.proofs.Common.{◌≡◌, ◌++◌, ◌-◌, ◌^◌, map, drop, string_bytes}
use Rattle.std.specs.Int.RustNames.{bit_and}
use Rattle.bitflags.specs.Sets.{known_bits}
use Rattle.vk_words.specs.MaskText.{names_text, mask_text}
use Rattle.vk_words.proofs.masks.push_mask.Given as goal

abbrev pub invariant-loop-flag : goal.invariant-loop-flag
invariant-loop-flag g l =
    g.F.Flags.exact → string_bytes l.out ++ names_text l.begun (map (λ f. (f.name.now, g.F.Flags.set_of f.value)) (drop l.flag-index l.flags)) (g.F.Flags.set_of l.fn.mask)
    (bit_and (g.F.Flags.set_of l.fn.mask) (2 ^ 32 - 1 - known_bits g.F.Flags.table)) ≡ string_bytes l.fn.out ++ mask_text g.F.Flags.table (g.F.Flags.set_of l.fn.mask)
