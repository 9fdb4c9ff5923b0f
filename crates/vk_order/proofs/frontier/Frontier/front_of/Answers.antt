use Rattle.std.proofs.Common.{List, subst}
use Rattle.vk_order.specs.declared.tallies.LineTally.{LineTally}
use Rattle.vk_order.proofs.TallyLemmas.{Found}
use Rattle.vk_order.proofs.frontier.Frontier.front_of.Goals as goal

pub returns : goal.returns
returns c = λ ns j is. subst (λ (l : List LineTally). Found l c.args.self.now.names c.args.row.now c.find_front.new.front) c.as_slice.ensures.value c.in_ok-find_front.ensures ns j is.tallied is.names
