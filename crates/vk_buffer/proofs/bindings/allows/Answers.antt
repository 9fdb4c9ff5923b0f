use Rattle.std.proofs.lemmas.Bool.{le-ltb}
use Rattle.vk_buffer.proofs.Types.{no_bit_above}
use Rattle.vk_buffer.proofs.bindings.allows.Goals as goal

pub returns-else-memory_type-lt-MASK_BITS : goal.returns-else-memory_type-lt-MASK_BITS
returns-else-memory_type-lt-MASK_BITS c = rw (no_bit_above c.args.types 32 c.args.memory_type c.ranges.types.fits c.if-memory_type-lt-MASK_BITS.false) (le-ltb c.args.memory_type 32 c.if-memory_type-lt-MASK_BITS.false)
