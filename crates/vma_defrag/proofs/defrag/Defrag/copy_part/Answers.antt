use Rattle.std.proofs.Common.{◌≡◌, ℕ, List, Option, Some, sym, ap, subst, ◌∙◌}
use Rattle.vk_model.specs.Memory.MoveTargets.{Moved}
use Rattle.vma_defrag.specs.State.{DefragState, PassState, moves_in, left_in}
use Rattle.vma_defrag.specs.Plans.{ArePlanned}
use Rattle.vma_defrag.specs.Bytes.{AreCopied}
use Rattle.vma_defrag.proofs.Objects.{keeps_backs}
use Rattle.vma_defrag.proofs.Copying.{copied_keeps}
use Rattle.vma_defrag.proofs.PartSteps.{is_move, part_copied}
use Rattle.vma_defrag.proofs.defrag.Defrag.copy_part.Goals as goal

-- the pass that is open
open_is : (d : DefragState) (o : Option PassState) (p : PassState) → o ≡ d.current → o ≡ Some p → d.current ≡ Some p
open_is d o p view is = sym view ∙ is

pub returns-clause-agree : goal.returns-clause-agree
returns-clause-agree g c = λ before.
    let s = c.args.pools.now in let pass = c.in-Some.open in
    let e = open_is c.args.self.now c.self.inside.current pass (ap (λ (d : DefragState). d.current) c.self.view_is) c.in-Some.is in
    let plan = subst (λ (o : Option PassState). ArePlanned s c.args.self.now.pool (moves_in o)) e c.requires.planned in
    let old = subst (λ (o : Option PassState). AreCopied s c.args.memories.now (moves_in o) (left_in o)) e before in
    let new = part_copied s c.are_pools.ensures c.args.memories.now c.requires.backs c.requires.matched c.args.self.now.pool pass.moves plan pass.left c.args.part c.copy.new.memories old c.copy.ensures.copies in
    subst (λ (ms : List Moved). AreCopied s c.copy.new.memories ms c.copy.new.self.left) (sym c.copy.ensures.moves)
    (subst (λ (l : List ℕ). AreCopied s c.copy.new.memories pass.moves l) (sym c.copy.ensures.left) new)

pub returns-clause-backs : goal.returns-clause-backs
returns-clause-backs g c =
    let s = c.args.pools.now in let pass = c.in-Some.open in let copies = c.copy.ensures.copies in
    let e = open_is c.args.self.now c.self.inside.current pass (ap (λ (d : DefragState). d.current) c.self.view_is) c.in-Some.is in
    let plan = subst (λ (o : Option PassState). ArePlanned s c.args.self.now.pool (moves_in o)) e c.requires.planned in
    let its = is_move s c.are_pools.ensures c.args.memories.now c.requires.backs c.requires.matched c.args.self.now.pool pass.moves plan copies.index copies.its.there in
    keeps_backs c.args.memories.now c.copy.new.memories
    (copied_keeps s c.are_pools.ensures c.args.memories.now c.requires.backs c.requires.matched c.args.self.now.pool _ its copies.number copies.its.within c.copy.new.memories copies.copies) s c.requires.backs
