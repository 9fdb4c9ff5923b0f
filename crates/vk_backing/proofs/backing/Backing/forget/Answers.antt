use Rattle.std.proofs.Common.{ℕ, List, [], sym, ap, subst}
use Rattle.std.specs.Prelude.{Contains}
use Rattle.std.proofs.lemmas.List.{take_all}
use Rattle.vk_model.proofs.Lists.Keys.{other_key}
use Rattle.vk_backing.specs.Backed.{Backed}
use Rattle.vk_backing.proofs.Numbers.{AreForgotten, more_forgotten, none_forgotten}
use Rattle.vk_backing.proofs.backing.Backing.forget.Goals as goal

pub loop-id-init : goal.loop-id-init
loop-id-init c = record {
  owned = ap (λ (b : Backed). b.owned) c.self.view_is;
  pools = ap (λ (b : Backed). b.pools) c.self.view_is;
  numbers = ap (λ (b : Backed). b.numbers) c.self.view_is;
  forgotten = subst (λ (b : Backed). AreForgotten b.allocations c.self.inside.allocations.entries []) c.self.view_is (none_forgotten c.self.inside.allocations.entries);
}

pub loop-id-preserved : goal.loop-id-preserved
loop-id-preserved c = record {
  owned = c.loop-id.invariant.owned;
  pools = c.loop-id.invariant.pools;
  numbers = c.loop-id.invariant.numbers;
  forgotten = let u = c.remove.ensures.updates in more_forgotten c.args.self.now.allocations c.loop-id.self-inside.allocations.entries c.remove.new.self.entries c.args.ids.now c.loop-id.id-index c.loop-id-test.true c.loop-id.invariant.forgotten u.1 (λ i other. u.2 i (other_key _ i other));
}

pub returns-clause-gone : goal.returns-clause-gone
returns-clause-gone c = λ i there. c.loop-id.invariant.forgotten.gone i (subst (λ (l : List ℕ). Contains l i) (sym (take_all c.loop-id.id-index c.args.ids.now c.loop-id-test.false)) there)

pub returns-clause-others : goal.returns-clause-others
returns-clause-others c = λ i away. c.loop-id.invariant.forgotten.others i (λ there. away (subst (λ (l : List ℕ). Contains l i) (take_all c.loop-id.id-index c.args.ids.now c.loop-id-test.false) there))
