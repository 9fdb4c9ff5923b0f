use Rattle.std.proofs.Common.{refl}
use Rattle.vk_model.specs.Sync.Edge.{edge, meet}
use Rattle.vk_model.specs.Sync.Before.{before}
use Rattle.vk_model.specs.Sync.Seen.{seen}
use Rattle.vk_order.proofs.laws.counterexamples.Goals as goal

pub returns : goal.returns
unfolding edge meet before seen
returns c = record {
  same_line = refl;
  later_leads = refl;
  earlier_not = refl;
  later_set = refl;
  earlier_set = refl;
  later_wait = refl;
  earlier_wait = refl;
  host_sees = refl;
  host_seen = refl;
  command_unseen = refl;
}
