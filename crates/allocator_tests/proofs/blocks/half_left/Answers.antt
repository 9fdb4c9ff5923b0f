use Rattle.std.proofs.Common.{◌≡◌, ℕ, ◌==◌, [], ◌∷◌, Bool, false, refl, ap, subst, arith}
use Rattle.std.specs.Prelude.{Some}
use Rattle.vk_model.specs.declared.resource.Kind.TheVariants as kind
use Rattle.vk_model.specs.Memory.Suballocation.{Request, IsTakenAt, taken_at}
use Rattle.vk_model.specs.Memory.Room.{Block, General, Stack, Linear}
use Rattle.vk_model.specs.Memory.LinearBlocks.{empty_linear}
use Rattle.vk_model.specs.Memory.Pools.{BlockGives, block_taken, block_with}
use Rattle.vma_blocks.specs.Alike.{IsAlike}
use Rattle.vma_blocks.specs.Blocks.{block_of}
use Rattle.allocator_tests.proofs.blocks.half_left.Goals as goal

same_stack : (c : Linear) (n : Block) → IsAlike (Stack c) n → n ≡ Stack c
same_stack c (General size taken) alike = absurd alike
same_stack c (Stack d) alike = ap Stack alike

abbrev half : Request
half = record { size = 32; align = 16; kind = kind.Linear }

module _ (ring : Bool) where
  abbrev one : Linear
  one = record { size = 64; ring = ring; lower = taken_at 0 half ∷ []; wrapped = []; upper = [] }

  abbrev two : Linear
  two = record { size = 64; ring = ring; lower = taken_at 0 half ∷ taken_at 32 half ∷ []; wrapped = []; upper = [] }

  first_there : (before after last : Block) (first second : ℕ) → before ≡ Stack (empty_linear 64 ring) → BlockGives before half false first → IsAlike (block_with before half false first) after → IsAlike (block_with after half false second) last → IsTakenAt first (block_taken last)
  first_there before after last first second is gives with_first with_second =
      let place : Some 0 ≡ Some first = subst (λ b. BlockGives b half false first) is gives in
      let at : 0 ≡ first = cc in
      let is_one : after ≡ Stack one = same_stack one after (subst (λ b. IsAlike (block_with b half false first) after) is with_first) in
      let is_two : last ≡ Stack two = same_stack two last (subst (λ b. IsAlike (block_with b half false second) last) is_one with_second) in
      rw is_two (0, taken_at 0 half, omega arith, refl, at)

pub free-requires : goal.free-requires
free-requires c =
    first_there (c.args.block_limit == 1) (block_of c.in-Ok.block) (block_of c.allocate.new.self) (block_of c.allocate-2.new.self) c.in_ok-first.first c.in_ok-_second._second
    c.in-Ok.ensures c.in_ok-first.ensures.ok.0 c.in_ok-first.ensures.ok.1 c.in_ok-_second.ensures.ok.1
