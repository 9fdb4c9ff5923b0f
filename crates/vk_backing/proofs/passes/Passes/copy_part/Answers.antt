use Rattle.std.proofs.Common.{◌≡◌, ◌∙◌, ℕ, not, true, ◌==◌, get_or, Option, Some, ap, refl, sym, subst}
use Rattle.std.proofs.lemmas.List.{get_or_default}
use Rattle.std.specs.Prelude.{Contains}
use Rattle.std.specs.List.{filter}
use Rattle.vma_defrag.specs.State.{DefragState, left_in, moves_in}
use Rattle.vma_defrag.specs.Plans.{ArePlanned}
use Rattle.vma_pools.specs.State.{Backs}
use Rattle.vma_defrag.specs.Bytes.{byte_in, no_move, AreCopied, CopiesPart, IsTargetByte}
use Rattle.vk_backing.specs.Backed.{Backed, IsBacked}
use Rattle.vk_backing.specs.PassSteps.{Copies}
use Rattle.vk_backing.specs.Passing.{Passing, ArePassing, open_defrag, left_by, moves_by}
use Rattle.vk_backing.proofs.CopyKeeps.{part_bytes, part_objects, part_own, part_rest}
use Rattle.vk_backing.specs.Allotted.{allotted}
use Rattle.vk_backing.specs.PassAllots.{StaysAllotted}
use Rattle.vk_backing.proofs.CopyAllots.{copy_allotted}
use Rattle.vk_backing.proofs.KeptObjects.{kept_backed}
use Rattle.vk_backing.proofs.OpenPass.{left_moves, left_parts, left_passing, left_pools, lent}
use Rattle.vk_backing.proofs.Passing.{open_is, open_planned}
use Rattle.vk_backing.proofs.passes.Passes.copy_part.Goals as goal

pub copy_part-requires-clause-left : goal.copy_part-requires-clause-left
copy_part-requires-clause-left c =
    let f = c.self.inside in let d = c.in-Some-get_mut.defrag.now in
    let old : Passing = record { defrags = f.defrags.entries; opened = f.opened; moving = f.moving.items } in
    let is : open_defrag old ≡ Some d = open_is old c.in-Some.id c.in-Some.is ∙ sym c.in-Some-get_mut.ensures.value in
    subst (λ (o : Option DefragState). Contains (left_by o) c.args.part) (ap open_defrag (sym c.self.view_is) ∙ is) c.requires.left

pub copy_part-requires-clause-planned : goal.copy_part-requires-clause-planned
copy_part-requires-clause-planned c =
    let f = c.self.inside in let b = c.args.backing.now in let d = c.in-Some-get_mut.defrag.now in
    let old : Passing = record { defrags = f.defrags.entries; opened = f.opened; moving = f.moving.items } in
    let h : ArePassing old b = subst (λ (p : Passing). ArePassing p b) (sym c.self.view_is) c.requires.passing in
    let is : open_defrag old ≡ Some d = open_is old c.in-Some.id c.in-Some.is ∙ sym c.in-Some-get_mut.ensures.value in
    subst (λ (x : Backed). ArePlanned x.pools d.pool (moves_in d.current)) (sym c.backing.view_is) (open_planned old b h d is)

pub returns-clause-passing : goal.returns-clause-passing
returns-clause-passing c =
    let f = c.self.inside in let b = c.args.backing.now in let d = c.in-Some-get_mut.defrag.now in let id = c.in-Some.id in
    let old : Passing = record { defrags = f.defrags.entries; opened = f.opened; moving = f.moving.items } in
    let m = c.get_mut.follows.lender c.copy_part.new.self in
    let new : Passing = record { defrags = m.entries; opened = f.opened; moving = f.moving.items } in
    let h : ArePassing old b = subst (λ (p : Passing). ArePassing p b) (sym c.self.view_is) c.requires.passing in
    let writes = lent f.defrags m id c.copy_part.new.self d (c.get_mut.follows.holds c.copy_part.new.self) (sym c.in-Some-get_mut.ensures.value) in
    left_passing old new b h id d c.in-Some.is (sym c.in-Some-get_mut.ensures.value) (filter (λ k. not (k == c.args.part)) (left_in d.current)) (writes.0 ∙ ap (λ (x : DefragState). Some x) c.copy_part.ensures.left) writes.1 refl refl

pub returns-clause-copies : goal.returns-clause-copies
returns-clause-copies c =
    let f = c.self.inside in let b = c.args.backing.now in let d = c.in-Some-get_mut.defrag.now in let id = c.in-Some.id in
    let old : Passing = record { defrags = f.defrags.entries; opened = f.opened; moving = f.moving.items } in
    let m = c.get_mut.follows.lender c.copy_part.new.self in
    let new : Passing = record { defrags = m.entries; opened = f.opened; moving = f.moving.items } in
    let h : ArePassing old b = subst (λ (p : Passing). ArePassing p b) (sym c.self.view_is) c.requires.passing in
    let writes = lent f.defrags m id c.copy_part.new.self d (c.get_mut.follows.holds c.copy_part.new.self) (sym c.in-Some-get_mut.ensures.value) in
    let here = writes.0 ∙ ap (λ (x : DefragState). Some x) c.copy_part.ensures.left in
    let is : open_defrag old ≡ Some d = open_is old id c.in-Some.is ∙ sym c.in-Some-get_mut.ensures.value in
    let left = filter (λ k. not (k == c.args.part)) (left_in d.current) in
    let now : CopiesPart b.pools (moves_in d.current) c.args.part c.args.memories.now c.copy_part.new.memories = subst (λ (x : Backed). CopiesPart x.pools (moves_in d.current) c.args.part c.args.memories.now c.copy_part.new.memories) c.backing.view_is c.copy_part.ensures.copies in
    let its = (open_planned old b h d is).each now.index no_move now.its.there in let mv = get_or (moves_in d.current) now.index no_move in
    subst (λ (p : Passing). Copies p new b c.args.part c.args.memories.now c.copy_part.new.memories) c.self.view_is (record {
      moves = left_moves old new b h id d c.in-Some.is (sym c.in-Some-get_mut.ensures.value) left here writes.1 refl refl;
      left = left_parts old new b h id d c.in-Some.is (sym c.in-Some-get_mut.ensures.value) left here writes.1 refl refl ∙ ap (λ (o : Option DefragState). filter (λ k. not (k == c.args.part)) (left_by o)) (sym is);
      pools = left_pools old new b h id d c.in-Some.is (sym c.in-Some-get_mut.ensures.value) left here writes.1 refl refl;
      opened = refl;
      moving = refl;
      copies = subst (λ (o : Option DefragState). CopiesPart b.pools (moves_by o) c.args.part c.args.memories.now c.copy_part.new.memories) (sym is) now;
      objects = part_objects b c.args.memories.now c.requires.backed d.pool mv its now.number now.its.within c.copy_part.new.memories now.copies;
      rest = subst (λ (o : Option DefragState). (n k : ℕ) → (IsTargetByte b.pools (moves_by o) (λ x. true) n k → ⊥) → byte_in c.copy_part.new.memories n k ≡ byte_in c.args.memories.now n k) (sym is)
          (part_rest b c.args.memories.now c.requires.backed d.pool mv its now.number now.its.within c.copy_part.new.memories now.copies (moves_in d.current) (now.index, now.its.there, get_or_default (moves_in d.current) now.index mv no_move now.its.there));
      bytes = part_bytes b c.args.memories.now c.requires.backed d.pool mv its now.number now.its.within c.copy_part.new.memories now.copies;
      own = part_own b c.args.memories.now c.requires.backed d.pool mv its now.number now.its.within c.copy_part.new.memories now.copies;
    })

pub returns-clause-agree : goal.returns-clause-agree
returns-clause-agree c =
    let f = c.self.inside in let b = c.args.backing.now in let d = c.in-Some-get_mut.defrag.now in let id = c.in-Some.id in
    let old : Passing = record { defrags = f.defrags.entries; opened = f.opened; moving = f.moving.items } in
    let m = c.get_mut.follows.lender c.copy_part.new.self in
    let new : Passing = record { defrags = m.entries; opened = f.opened; moving = f.moving.items } in
    let writes = lent f.defrags m id c.copy_part.new.self d (c.get_mut.follows.holds c.copy_part.new.self) (sym c.in-Some-get_mut.ensures.value) in
    let is : open_defrag old ≡ Some d = open_is old id c.in-Some.is ∙ sym c.in-Some-get_mut.ensures.value in
    let now : open_defrag new ≡ Some c.copy_part.new.self = open_is new id c.in-Some.is ∙ writes.0 in
    λ agree.
    subst (λ (o : Option DefragState). AreCopied b.pools c.copy_part.new.memories (moves_by o) (left_by o)) (sym now)
    (subst (λ (x : Backed). AreCopied x.pools c.copy_part.new.memories (moves_in c.copy_part.new.self.current) (left_in c.copy_part.new.self.current)) c.backing.view_is
    (c.copy_part.ensures.agree
    (subst (λ (x : Backed). AreCopied x.pools c.args.memories.now (moves_in d.current) (left_in d.current)) (sym c.backing.view_is)
    (subst (λ (o : Option DefragState). AreCopied b.pools c.args.memories.now (moves_by o) (left_by o)) (ap open_defrag (sym c.self.view_is) ∙ is) agree))))

pub returns-clause-backed : goal.returns-clause-backed
returns-clause-backed c =
    let f = c.self.inside in let b = c.args.backing.now in let d = c.in-Some-get_mut.defrag.now in let m = c.args.memories.now in
    let old : Passing = record { defrags = f.defrags.entries; opened = f.opened; moving = f.moving.items } in
    let h : ArePassing old b = subst (λ (p : Passing). ArePassing p b) (sym c.self.view_is) c.requires.passing in
    let is : open_defrag old ≡ Some d = open_is old c.in-Some.id c.in-Some.is ∙ sym c.in-Some-get_mut.ensures.value in
    let copies : CopiesPart b.pools (moves_in d.current) c.args.part m c.copy_part.new.memories = subst (λ (x : Backed). CopiesPart x.pools (moves_in d.current) c.args.part m c.copy_part.new.memories) c.backing.view_is c.copy_part.ensures.copies in
    let back : IsBacked b m = c.requires.backed in
    let keeps = part_objects b m back d.pool (get_or (moves_in d.current) copies.index no_move) ((open_planned old b h d is).each copies.index no_move copies.its.there) copies.number copies.its.within c.copy_part.new.memories copies.copies in
    kept_backed m c.copy_part.new.memories keeps b (subst (λ (x : Backed). Backs x.pools c.copy_part.new.memories) c.backing.view_is c.copy_part.ensures.backs) back

pub returns-clause-allots : goal.returns-clause-allots
returns-clause-allots c =
    let f = c.self.inside in let b = c.args.backing.now in let d = c.in-Some-get_mut.defrag.now in let id = c.in-Some.id in
    let old : Passing = record { defrags = f.defrags.entries; opened = f.opened; moving = f.moving.items } in
    let m = c.get_mut.follows.lender c.copy_part.new.self in
    let new : Passing = record { defrags = m.entries; opened = f.opened; moving = f.moving.items } in
    let writes = lent f.defrags m id c.copy_part.new.self d (c.get_mut.follows.holds c.copy_part.new.self) (sym c.in-Some-get_mut.ensures.value) in
    let here = writes.0 ∙ ap (λ (x : DefragState). Some x) c.copy_part.ensures.left in
    let left = filter (λ k. not (k == c.args.part)) (left_in d.current) in
    let copies : Copies old new b c.args.part c.args.memories.now c.copy_part.new.memories =
    subst (λ (p : Passing). Copies p new b c.args.part c.args.memories.now c.copy_part.new.memories) (sym c.self.view_is) (returns-clause-copies c) in
    subst (λ (p : Passing). StaysAllotted (allotted b c.args.memories.now) p (allotted b c.copy_part.new.memories) new) c.self.view_is
    (copy_allotted b c.args.memories.now c.copy_part.new.memories old new c.args.part copies id c.in-Some.is d (sym c.in-Some-get_mut.ensures.value) left here writes.1)
