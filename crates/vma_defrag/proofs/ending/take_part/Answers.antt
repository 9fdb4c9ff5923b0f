use Rattle.std.proofs.Common.{◌≡◌, ◌<◌, length, get_or, sym, subst, arith, inl, inr}
use Rattle.std.proofs.lemmas.List.{get_or-map, length-map}
use Rattle.vk_memory.specs.MemoryState.{MemoryState}
use Rattle.vk_model.specs.Memory.MoveTargets.{Moved}
use Rattle.vk_model.proofs.Lists.Members.{place_has}
use Rattle.vma_defrag.specs.declared.open.Fate.{Fate}
use Rattle.vma_defrag.specs.declared.open.Fate.TheVariants.{Made}
use Rattle.vma_defrag.specs.Bytes.{no_move}
use Rattle.vma_defrag.specs.Inner.Planned.{move_of, moves_of}
use Rattle.vma_defrag.specs.Inner.Copying.{CopiesIf, none_planned}
use Rattle.vma_defrag.proofs.ending.take_part.Goals.{in-Made, in-Kept}
use Rattle.vma_defrag.proofs.ending.take_part.Goals as goal

pub find-its-requires-clause-below : goal.find-its-requires-clause-below
find-its-requires-clause-below g c = c.requires.within c.nth-part.result (place_has c.args.parts.now.left 0 c.nth-part.result c.nth-part.ensures)

pub finish-requires : goal.finish-requires
finish-requires g c = place_has c.args.parts.now.left 0 c.nth-part.result c.nth-part.ensures

pub returns-clause-taken : goal.returns-clause-taken
returns-clause-taken g c =
    let s = c.args.pools.now in let old = c.args.memories.now in let new = c.match-one.memories in let number = c.find-its.result.number in
    let planned = c.args.planned.now in let i = c.find-its.result.index in
    let there : i < length planned = omega (arith, c.find-its.ensures.there, length-map planned move_of) in
    let one_is : get_or (moves_of planned) i no_move ≡ move_of (get_or planned i none_planned) = get_or-map move_of planned i none_planned no_move there in
    record {
      part = c.nth-part.result;
      there = place_has c.args.parts.now.left 0 c.nth-part.result c.nth-part.ensures;
      others = c.finish.ensures.left;
      fewer = c.finish.ensures.fewer;
      index = i;
      number = c.find-its.result.number;
      its = c.find-its.ensures;
      copies = elim c.match-one.branch [
        | in-Made w ↦
            subst (λ (f : Fate). CopiesIf f s (get_or (moves_of planned) i no_move) number old new) (sym w.in-Made.is)
            (subst (λ (m : Moved). CopiesIf Made s m number old new) (sym one_is) (subst (λ (m : MemoryState). CopiesIf Made s (move_of (get_or planned i none_planned)) number old m) (sym w.memories-is) w.copy_bytes.ensures))
        | in-Kept w ↦ elim w.in-Kept.is [
          | inl is ↦ subst (λ (f : Fate). CopiesIf f s (get_or (moves_of planned) i no_move) number old new) (sym is) w.memories-is
          | inr is ↦ subst (λ (f : Fate). CopiesIf f s (get_or (moves_of planned) i no_move) number old new) (sym is) w.memories-is
        ]
      ];
    }
