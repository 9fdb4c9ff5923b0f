use Rattle.std.proofs.Common.{[], List, refl, sym, subst}
use Rattle.vk_order.specs.declared.tallies.LineTally.{LineTally}
use Rattle.vk_order.specs.Inner.Tallies.{lines_of, IsTallied}
use Rattle.vk_model.proofs.Lists.Members.{none_in}
use Rattle.vk_order.proofs.PartLemmas.{parts_none}
use Rattle.vk_order.proofs.frontier.Frontier.new.Goals as goal

nothing : IsTallied [] []
nothing = record { each = λ i t e. absurd cc; apart = λ i t e. absurd cc; listed = λ k c. absurd (none_in k c) }

pub returns : goal.returns
returns c = record {
  numbers = tt;
  total = refl;
  tallied = subst (λ (l : List LineTally). IsTallied [] l) (sym c.new.ensures.items) nothing;
  names = c.new-2.ensures (lines_of c.new.result.items);
  parts = parts_none (lines_of c.new.result.items) c.new-3.result c.new-3.ensures;
}
