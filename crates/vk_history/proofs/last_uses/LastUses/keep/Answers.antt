use Rattle.std.proofs.Common.{List, ap, subst}
use Rattle.std.proofs.lemmas.Result.{on_ok_weaker}
use Rattle.vk_history.specs.declared.last_uses.LastUse.{LastUse}
use Rattle.vk_history.specs.Uses.{IsKeptNow}
use Rattle.vk_history.proofs.Using.Keeping.{items_of, kept_at_one}
use Rattle.vk_history.proofs.last_uses.LastUses.keep.Goals as goal

pub returns-in-Some : goal.returns-in-Some
returns-in-Some c = on_ok_weaker c.keep_in.result (λ kept.
    let now = c.keep_in.new.kept in
    let before = ap items_of c.in-Some.ensures.value in
    kept_at_one c.args.self.now _ c.args.id now c.args.last (rw c.in-Some.is at (c.get_mut.follows.holds now)) (subst (λ (l : List LastUse). IsKeptNow l now.items c.args.last) before kept)) c.keep_in.ensures
