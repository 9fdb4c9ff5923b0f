use Rattle.std.proofs.Common.{◌≡◌, ◌∙◌, ◌<◌, ℕ, List, length, get_or, ap, sym, subst, arith}
use Rattle.std.proofs.lemmas.List.{get_or_default}
use Rattle.vk_model.specs.Memory.MoveTargets.{Moved}
use Rattle.vma_defrag.specs.State.{moves_in}
use Rattle.vma_defrag.specs.Bytes.{no_move, MovesBetween}
use Rattle.vma_defrag.specs.Plans.{ArePlanned}
use Rattle.vk_backing.specs.Backed.{Backed, LiesIn}
use Rattle.vk_backing.specs.Passing.{Passing, moves_by, open_moves}
use Rattle.vk_backing.proofs.Passing.{open_planned, mover_lies}
use Rattle.vk_backing.proofs.passes.Passes.nth_move.Goals as goal

pub nth_move-its-requires-clause-planned : goal.nth_move-its-requires-clause-planned
nth_move-its-requires-clause-planned c =
    let p = c.args.self.now in let b = c.args.backing.now in let d = c.opened_defrag-defrag.result.now in
    subst (λ (x : Backed). ArePlanned x.pools d.pool (moves_in d.current)) (sym c.backing.view_is) (open_planned p b c.requires.passing d c.opened_defrag-defrag.ensures)

pub returns : goal.returns
returns c =
    let p = c.args.self.now in let b = c.args.backing.now in let d = c.opened_defrag-defrag.result.now in
    let g = c.nth_move-its.ensures in
    let from = c.nth_move-its.result.from in let to = c.nth_move-its.result.to in
    let long : length p.moving ≡ length (open_moves p) = c.requires.passing.movers.long in
    let moves : open_moves p ≡ moves_in d.current = ap moves_by c.opened_defrag-defrag.ensures in
    let here : c.args.index < length (moves_in d.current) = omega (arith, c.requires.there, long, ap (λ (l : List Moved). length l) moves) in
    let its : get_or p.moving c.args.index 0 ≡ c.index.result.now =
    get_or_default p.moving c.args.index 0 c.index.result.now c.requires.there ∙ ap (λ (q : Passing). get_or q.moving c.args.index c.index.result.now) (sym c.self.view_is) ∙ sym c.index.ensures in
    let between : MovesBetween b.pools (get_or (moves_in d.current) c.args.index no_move).id from to = subst (λ (x : Backed). MovesBetween x.pools (get_or (moves_in d.current) c.args.index no_move).id from to) c.backing.view_is
    (subst (λ (n : ℕ). MovesBetween c.backing.inside.pools n from to) g.its g.between) in
    record {
      its = its;
      pool = d.pool;
      lies = subst (λ (n : ℕ). LiesIn b n d.pool from) its (mover_lies p b c.requires.passing d c.opened_defrag-defrag.ensures c.args.index here from to between);
      between = subst (λ (ms : List Moved). MovesBetween b.pools (get_or ms c.args.index no_move).id from to) (sym moves) between;
    }
