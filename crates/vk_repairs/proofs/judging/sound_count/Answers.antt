use Rattle.std.proofs.Common.{◌∙◌, ap, sym, arith, length}
use Rattle.std.proofs.lemmas.List.{take_all}
use Rattle.vk_queues.specs.PointViews.{past_of}
use Rattle.vk_repairs.proofs.Starts.{whole, start_found}
use Rattle.vk_repairs.proofs.judging.sound_count.Goals as goal

pub returns-in_default-clause-start : goal.returns-in_default-clause-start
returns-in_default-clause-start c =
    ap past_of (take_all (length c.args.points.now) c.args.points.now (omega arith))
    ∙ sym (whole (past_of c.args.points.now) (sym c.requires.fault ∙ c.in_default.is))

pub returns-clause-start : goal.returns-clause-start
returns-clause-start c = start_found c.args.points.now (c.in-Some.at, c.in-Some.field-0-1) c.place_of.result c.requires.ordered (sym c.requires.fault ∙ c.in-Some.is) c.place_of.ensures.there
