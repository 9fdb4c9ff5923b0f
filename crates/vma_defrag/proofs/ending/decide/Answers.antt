use Rattle.std.proofs.Common.{List, map, sym, ap, subst, ◌∙◌}
use Rattle.vma_defrag.specs.declared.open.Fate.TheVariants.{Kept, Lost}
use Rattle.vma_defrag.specs.declared.open.Planned.{Planned}
use Rattle.vma_defrag.specs.Inner.Planned.{moves_of, AreIndexed}
use Rattle.vma_defrag.specs.Inner.Ending.{marked, HaveFates}
use Rattle.vma_defrag.proofs.Marking.{marked_indexed, marked_moves, all_decided}
use Rattle.vma_defrag.proofs.ending.decide.Goals as goal

pub mark-requires-2 : goal.mark-requires-2
mark-requires-2 c =
    subst (λ (l : List Planned). AreIndexed l c.args.by_number.now.entries) (sym c.mark.ensures) (marked_indexed Lost c.args.destroyed.now c.args.planned.now.items c.args.by_number.now.entries c.requires.indexed)

pub returns-clause-moves : goal.returns-clause-moves
returns-clause-moves c =
    ap moves_of c.mark-2.ensures ∙ marked_moves Kept c.args.ignored.now c.mark.new.planned.items ∙ ap moves_of c.mark.ensures ∙ marked_moves Lost c.args.destroyed.now c.args.planned.now.items

pub returns-clause-fates : goal.returns-clause-fates
returns-clause-fates c =
    subst (λ (l : List Planned). HaveFates c.args.ignored.now c.args.destroyed.now l)
    (sym (c.mark-2.ensures ∙ ap (λ (l : List Planned). map (marked c.args.ignored.now Kept) l) c.mark.ensures)) (all_decided c.args.ignored.now c.args.destroyed.now c.args.planned.now.items c.requires.made)
