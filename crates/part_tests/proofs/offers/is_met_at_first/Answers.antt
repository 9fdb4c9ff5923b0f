use Rattle.std.proofs.Common.{refl, []}
use Rattle.vk_offers.specs.IsOffers.{host_node}
use Rattle.part_tests.proofs.offers.is_met_at_first.Goals as goal

pub is_met-requires : goal.is_met-requires
is_met-requires c = ([], [], host_node [] 0 c.args.entry.now, c.new-offers.ensures, refl, c.in_ok-before.ensures [] [] c.new-offers.ensures)
