use Rattle.std.proofs.Common.{◌≡◌, ◌∙◌, ◌<◌, ℕ, ◌+◌, List, length, get_or, Option, Some, None, sym, ap, subst, arith}
use Rattle.std.proofs.lemmas.List.{get_or_default}
use Rattle.std.specs.Prelude.{IsSome}
use Rattle.std.specs.BTreeMap.{get}
use Rattle.std.specs.Ordering.{nat_cmp}
use Rattle.vma_defrag.specs.Bytes.{no_move}
use Rattle.vma_defrag.specs.State.{moves_in}
use Rattle.vk_backing.proofs.Named.{AreMoversTo, all_movers, more_movers, no_movers}
use Rattle.vk_backing.proofs.passes.movers.Goals as goal

pub loop-index-init : goal.loop-index-init
loop-index-init c = no_movers c.args.backing.now c.new-moving.result.items (moves_in c.args.defrag.now.current) c.new-moving.ensures.items

pub unreachable-requires : goal.unreachable-requires
unreachable-requires c =
    let moves = moves_in c.args.defrag.now.current in
    let m = get_or moves c.loop-index.index no_move in
    let lt : c.loop-index.index < length moves = omega (arith, c.loop-index-test.true, c.moves-index-end.ensures) in
    let its = c.requires.named m (c.loop-index.index, lt, get_or_default moves c.loop-index.index m no_move lt) in
    let some : IsSome (get nat_cmp c.in_ok-ids.ids m.id) = c.in_ok-ids.ensures.all m.id its.0 its.1 in
    let none : get nat_cmp c.in_ok-ids.ids m.id ≡ None = ap (λ (n : ℕ). get nat_cmp c.in_ok-ids.ids n) (sym c.nth_move-its.ensures.its) ∙ sym c.in_default.ensures.value in
    not_both (get nat_cmp c.in_ok-ids.ids m.id) some none
  where
    not_both : (o : Option ℕ) → IsSome o → o ≡ None → ⊥
    not_both None some none = absurd cc
    not_both (Some x) some none = absurd cc

pub loop-index-preserved : goal.loop-index-preserved
loop-index-preserved c =
    let moves = moves_in c.args.defrag.now.current in
    let m = get_or moves c.loop-index.index no_move in
    let found : get nat_cmp c.in_ok-ids.ids m.id ≡ Some c.in-Some.resource.now = ap (λ (n : ℕ). get nat_cmp c.in_ok-ids.ids n) (sym c.nth_move-its.ensures.its) ∙ sym c.in-Some.ensures.value in
    subst (λ (ids : List ℕ). AreMoversTo c.args.backing.now ids moves (c.loop-index.index + 1)) (sym c.in_ok-push.ensures.items)
    (more_movers c.args.backing.now c.loop-index.moving.items moves c.loop-index.index c.in-Some.resource.now c.loop-index.invariant (c.in_ok-ids.ensures.named m.id c.in-Some.resource.now found))

pub returns : goal.returns
returns c = let a = c.loop-index.auto.index-end in let b = c.loop-index-test.false in
    all_movers c.args.backing.now c.loop-index.moving.items (moves_in c.args.defrag.now.current) c.loop-index.index (omega (arith, a, b, c.moves-index-end.ensures)) c.loop-index.invariant
