use Rattle.std.proofs.Common.{Option, subst}
use Rattle.std.specs.Prelude.{is_some}
use Rattle.vk_model.specs.Rules.Owners.{bad_pair}
use Rattle.vk_model.specs.Trace.PointViews.{point_of}
use Rattle.vk_history.specs.PointViews.{past}
use Rattle.vk_rules.specs.declared.owners.OwnerFault.{OwnerFault}
use Rattle.vk_rules.specs.Inner.Owners.{Judges}
use Rattle.vk_rules.proofs.halves.unpaired_of.Goals as goal

pub returns-in-Some-clause-judges : goal.returns-in-Some-clause-judges
returns-in-Some-clause-judges c =
    let before_it = past c.args.history.now in
    let e = c.args.element.now in
    subst (λ (o : Option OwnerFault). Judges (λ all w n. bad_pair before_it all w n e) before_it (point_of c.args.point.now) e c.args.changed.now c.fault_of.new.changed (is_some o)) c.in-Some.is c.in_ok-fault.ensures.judges

pub returns-in-None-clause-judges : goal.returns-in-None-clause-judges
returns-in-None-clause-judges c =
    let before_it = past c.args.history.now in
    let e = c.args.element.now in
    subst (λ (o : Option OwnerFault). Judges (λ all w n. bad_pair before_it all w n e) before_it (point_of c.args.point.now) e c.args.changed.now c.fault_of.new.changed (is_some o)) c.in-None.is c.in_ok-fault.ensures.judges
