use Rattle.std.proofs.Common.{◌≡◌, ℕ, [], ◌∷◌, false, refl, subst, arith}
use Rattle.vk_model.specs.declared.resource.Kind.TheVariants as kind
use Rattle.vk_model.specs.Memory.Suballocation.{Request, IsTakenAt, taken_at}
use Rattle.vk_model.specs.Memory.Room.{Block, General}
use Rattle.vk_model.specs.Memory.Pools.{block_taken, block_with}
use Rattle.vma_blocks.specs.Alike.{IsAlike}
use Rattle.vma_blocks.specs.Blocks.{block_of}
use Rattle.vma_blocks.proofs.BlockLemmas.{alike_taken}
use Rattle.allocator_tests.proofs.blocks.nothing_left.Goals as goal

abbrev whole : Request
whole = record { size = 64; align = 16; kind = kind.Linear }

all_there : (before after : Block) (start : ℕ) → before ≡ General 64 [] → IsAlike (block_with before whole false start) after → IsTakenAt start (block_taken after)
all_there before after start is with_all =
    alike_taken (General 64 (taken_at start whole ∷ [])) after start (subst (λ b. IsAlike (block_with b whole false start) after) is with_all) (0, taken_at start whole, omega arith, refl, refl)

pub free-requires : goal.free-requires
free-requires c = all_there (block_of c.in-Ok.block) (block_of c.allocate.new.self) c.in_ok-all.all c.in-Ok.ensures c.in_ok-all.ensures.ok.1
