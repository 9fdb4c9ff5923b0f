use Rattle.std.proofs.Common.{[], ◌∷◌, length, ap, false, refl, arith, slice_index}
use Rattle.vk_model.proofs.Lists.Members.{none_in}
use Rattle.vk_events.proofs.EventLemmas.{zeros}
use Rattle.vk_events.proofs.events.Events.new.Goals as goal

pub returns : goal.returns
returns c finished = record {
  numbers = tt;
  total = refl;
  four = refl;
  started = λ q on. zeros q on;
  counts = [];
  fronts = 0 ∷ 0 ∷ 0 ∷ 0 ∷ [];
  taken = λ i. false;
  hanging = c.new.ensures (slice_index (0 ∷ 0 ∷ 0 ∷ 0 ∷ []));
  all = record {
    counts_len = refl;
    events_len = ap length c.new-2.ensures.items;
    counted = λ i n d at own. absurd cc;
    described = λ i n e at own. absurd cc;
  };
  are_fronts = record {
    first = λ m q on at line low. absurd (none_in m at);
    next = λ m q on at line same. absurd (none_in m at);
    there = λ q on. let z = zeros q on in omega arith;
    commands = λ m at open'. absurd (none_in m at);
  };
  left_are = refl;
}
