use Rattle.std.proofs.Common.{List, subst}
use Rattle.vk_order.specs.declared.counts.Counts.{Counts}
use Rattle.vk_order.specs.declared.fronts.Front.{Front}
use Rattle.vk_order.specs.Inner.Counts.{AreJoinedCounts}
use Rattle.vk_order.proofs.FrontLemmas.{AreJoinedFronts, fronts_joined, fronts_both, front_grows}
use Rattle.vk_order.proofs.fronts.Front.join.Goals as goal

abbrev result_of : (c : goal.In_ok-join_in) → Front
result_of c = record { counts = c.join_in.new.all }

are : (c : goal.In_ok-join_in) → AreJoinedFronts c.args.self.now c.args.other.now (result_of c)
are c = fronts_joined c.args.self.now c.args.other.now (result_of c)
    (subst (λ (l : List Counts). AreJoinedCounts c.args.self.now.counts.items l c.join_in.new.all.items) c.as_slice.ensures.value c.in_ok-join_in.ensures)

pub returns-clause-both : goal.returns-clause-both
returns-clause-both c = λ ns ls f g i j. fronts_both ns ls f g c.args.self.now c.args.other.now (result_of c) (are c) i j

pub returns-clause-grown : goal.returns-clause-grown
returns-clause-grown c = λ ns ls test n numbers passes whole is of. front_grows ns ls test n numbers c.args.self.now c.args.other.now (result_of c) (are c) passes whole is of
