use Rattle.std.proofs.Common.{◌≡◌, ℕ, ◌<◌, List, length, sum_by, sym, ap, subst, ◌∙◌}
use Rattle.vk_memory.specs.MemoryState.{MemoryState}
use Rattle.vk_model.specs.Memory.MoveTargets.{Moved}
use Rattle.vma_pools.specs.State.{PoolsState}
use Rattle.vma_defrag.specs.declared.open.Planned.{Planned}
use Rattle.vma_defrag.specs.State.{PassState, part_count}
use Rattle.vma_defrag.specs.Bytes.{AreAllCopied, AreCopied}
use Rattle.vma_defrag.specs.Ends.{is_made}
use Rattle.vma_defrag.specs.Inner.Planned.{moves_of}
use Rattle.vma_defrag.specs.Inner.Ending.{AreSettled, HaveFates}
use Rattle.vma_defrag.proofs.PassEnds.{none_planned, still_listed, has_ended, bytes_stay}
use Rattle.vma_defrag.proofs.ending.end_open.Goals as goal

pub copy_rest-requires-clause-within : goal.copy_rest-requires-clause-within
copy_rest-requires-clause-within g c = λ k there.
    subst (λ (l : List Moved). k < sum_by part_count l) (sym (ap moves_of c.deref.ensures.value ∙ c.decide.ensures.moves)) (c.open.invariant.within k there)

-- the moves that are made were copied
all_copied : (s : PoolsState) (m copied : MemoryState) (ms : List Moved) (ps : List Planned) → moves_of ps ≡ ms → (seen : List Planned) → seen ≡ ps → (left kept : List ℕ) → left ≡ kept → (ignored destroyed : List ℕ) → HaveFates ignored destroyed ps → AreCopied s m ms left
    → ((ignored destroyed : List ℕ) → HaveFates ignored destroyed seen → AreCopied s m (moves_of seen) kept → AreAllCopied s (moves_of seen) (is_made ignored destroyed) m copied) → AreAllCopied s (moves_of ps) (is_made ignored destroyed) m copied
all_copied s m copied ms ps is seen e left kept l ignored destroyed fates before all =
    subst (λ (x : List Planned). AreAllCopied s (moves_of x) (is_made ignored destroyed) m copied) e
    (all ignored destroyed (subst (λ (x : List Planned). HaveFates ignored destroyed x) (sym e) fates)
    (subst (λ (x : List Planned). AreCopied s m (moves_of x) kept) (sym e) (subst (λ (x : List Moved). AreCopied s m x kept) (sym is) (subst (λ (x : List ℕ). AreCopied s m ms x) l before))))

pub end_all-requires-clause-listed : goal.end_all-requires-clause-listed
end_all-requires-clause-listed g c =
    let s = c.args.pools.now in let ms = c.args.open.moves in let ps = c.decide.new.planned.items in let its = c.requires.planned in
    let is : moves_of ps ≡ ms = c.decide.ensures.moves ∙ ap (λ (p : PassState). p.moves) c.open.view_is in
    let mid = c.settle_all.new.pools in let between = c.settle_all.new.memories in let copied = c.copy_rest.new.memories in
    let settled = subst (λ (l : List Planned). AreSettled s copied l (length l) mid between) c.deref-2.ensures.value c.settle_all.ensures in (
      its.0,
      still_listed s mid mid copied copied between between ms ps is settled its.0 c.args.destroyed.now its.1 its.2,
      none_planned s mid mid copied copied between between ms ps is settled its.0 its.1,
    )

pub returns-clause-ended : goal.returns-clause-ended
returns-clause-ended g c =
    let s = c.args.pools.now in let ms = c.args.open.moves in let ps = c.decide.new.planned.items in let m = c.args.memories.now in
    let is : moves_of ps ≡ ms = c.decide.ensures.moves ∙ ap (λ (p : PassState). p.moves) c.open.view_is in
    let mid = c.settle_all.new.pools in let between = c.settle_all.new.memories in let copied = c.copy_rest.new.memories in
    let settled = subst (λ (l : List Planned). AreSettled s copied l (length l) mid between) c.deref-2.ensures.value c.settle_all.ensures in
    has_ended s mid c.end_all.new.pools m copied between c.end_all.new.memories ms ps is settled c.args.ignored.now c.args.destroyed.now c.decide.ensures.fates
    (all_copied s m copied ms ps is c.deref.result.now c.deref.ensures.value c.args.open.left c.open.inside.prepared.parts.left (sym (ap (λ (p : PassState). p.left) c.open.view_is)) c.args.ignored.now c.args.destroyed.now c.decide.ensures.fates c.requires.copied c.copy_rest.ensures.copied)
    c.end_all.ensures

pub returns-clause-bytes : goal.returns-clause-bytes
returns-clause-bytes g c =
    let s = c.args.pools.now in let ms = c.args.open.moves in let ps = c.decide.new.planned.items in let m = c.args.memories.now in
    let is : moves_of ps ≡ ms = c.decide.ensures.moves ∙ ap (λ (p : PassState). p.moves) c.open.view_is in
    let mid = c.settle_all.new.pools in let between = c.settle_all.new.memories in let copied = c.copy_rest.new.memories in
    let settled = subst (λ (l : List Planned). AreSettled s copied l (length l) mid between) c.deref-2.ensures.value c.settle_all.ensures in
    bytes_stay s mid c.end_all.new.pools m copied between c.end_all.new.memories ms ps is settled c.args.ignored.now c.args.destroyed.now c.decide.ensures.fates
    (all_copied s m copied ms ps is c.deref.result.now c.deref.ensures.value c.args.open.left c.open.inside.prepared.parts.left (sym (ap (λ (p : PassState). p.left) c.open.view_is)) c.args.ignored.now c.args.destroyed.now c.decide.ensures.fates c.requires.copied c.copy_rest.ensures.copied)
    c.end_all.ensures c.are_pools.ensures c.are_pools-2.ensures c.requires.backs c.end_all.ensures.backs c.requires.matched c.requires.planned.0 c.requires.planned.1 c.requires.planned.2

pub returns-clause-planned : goal.returns-clause-planned
returns-clause-planned g c = λ pool plan.
    let s = c.args.pools.now in let ms = c.args.open.moves in let ps = c.decide.new.planned.items in
    let is : moves_of ps ≡ ms = c.decide.ensures.moves ∙ ap (λ (p : PassState). p.moves) c.open.view_is in
    let mid = c.settle_all.new.pools in let between = c.settle_all.new.memories in let copied = c.copy_rest.new.memories in
    let settled = subst (λ (l : List Planned). AreSettled s copied l (length l) mid between) c.deref-2.ensures.value c.settle_all.ensures in
    c.end_all.ensures.planned pool (none_planned s mid mid copied copied between between ms ps is settled pool plan)
