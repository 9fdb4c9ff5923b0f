-- Where the resources of a pool and the targets of moves are in its blocks. Other crates cite it.
use Rattle.std.proofs.Common.{◌≡◌, ℕ, ◌+◌, ◌≤◌, List, [], ◌∷◌, Bool, true, false, ◌==◌, refl, ap, sym, ◌∙◌, subst, arith}
use Rattle.std.specs.Prelude.{All, Contains, if◌then◌else◌}
use Rattle.std.proofs.lemmas.List.Elements.{All-head, All-tail, All-contains}
use Rattle.vk_model.specs.Memory.Suballocation.{Taken, Request, taken_at}
use Rattle.vk_model.specs.Memory.Room.{Block, General, Stack}
use Rattle.vk_model.specs.Memory.MoveTargets.{Numbered, BlockStart, reserved}
use Rattle.vk_model.specs.Memory.Pools.{PoolBlock, block_bytes, block_taken, block_with, with_change, in_block, numbered_blocks, IsSoundBlock}
use Rattle.vk_model.specs.Memory.PassLaws.{PlacesLieInside}
use Rattle.vk_model.proofs.Lists.Members.{mapped_from}
use Rattle.vk_model.proofs.Memory.PassMoves.{with_range}
use Rattle.vk_model.proofs.Memory.PoolNumbers.{numbered}

-- ---- the ranges of a block lie in it

sound_inside : (k : Block) → IsSoundBlock k → All (λ t. t.start + t.size ≤ block_bytes k) (block_taken k)
sound_inside (General size taken) sound = sound.1.inside
sound_inside (Stack b) sound = sound.sound.inside

pub places_lie_inside : PlacesLieInside
places_lie_inside size p a pool sizes some at =
    let b = mapped_from numbered p.blocks at.block at.there in
    let sound = All-contains (λ (c : PoolBlock). IsSoundBlock c.block) p.blocks b.0 pool.sound b.1 in
    let bytes = All-contains (λ (c : PoolBlock). block_bytes c.block ≡ size) p.blocks b.0 sizes b.1 in
    let range = subst (λ (n : Numbered). Contains n.taken (taken_at a.from.start a.request)) (sym b.2) at.range in
    let ends = All-contains (λ (t : Taken). t.start + t.size ≤ block_bytes b.0.block) (block_taken b.0.block) (taken_at a.from.start a.request) (sound_inside b.0.block sound) range in
    record { block = at.block; there = at.there; number = at.number; inside = omega (arith, ends, bytes, some) }

-- ---- a target that is taken in a block that stands is reserved

-- a block that can be defragmented
pub record IsGeneral (b : PoolBlock) : Type 0 where
  pub size : ℕ
  pub taken : List Taken
  pub is : b.block ≡ General size taken

module _ (s : BlockStart) (r : Request) where
  abbrev taking : Block → Block
  taking b = block_with b r false s.start

  one_reserved : (b : PoolBlock) → IsGeneral b → numbered (with_change taking s.block b) ≡ with_range s r (numbered b)
  one_reserved b h = go (b.number == s.block)
    where
      changed : (k : Block) → k ≡ General h.size h.taken → numbered (record b { block = block_with k r false s.start }) ≡ record { number = b.number; size = block_bytes k; taken = taken_at s.start r ∷ block_taken k }
      changed k is = rw is refl

      go : (t : Bool) → numbered (if t then record b { block = taking b.block } else b) ≡ (if t then record (numbered b) { taken = taken_at s.start r ∷ (numbered b).taken } else numbered b)
      go true = changed b.block h.is
      go false = refl

  pub taken_reserved : (blocks : List PoolBlock) → All IsGeneral blocks → numbered_blocks (in_block taking s.block blocks) ≡ reserved s r (numbered_blocks blocks)
  taken_reserved [] all = refl
  taken_reserved (b ∷ bs) all =
      let one = one_reserved b (All-head IsGeneral b bs all) in
      let rest = taken_reserved bs (All-tail IsGeneral b bs all) in
      ap (λ (n : Numbered). n ∷ numbered_blocks (in_block taking s.block bs)) one ∙ ap (λ (ns : List Numbered). with_range s r (numbered b) ∷ ns) rest
