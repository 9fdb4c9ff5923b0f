use Rattle.std.proofs.Common.{sym, ◌∙◌}
use Rattle.vk_layouts.proofs.Others.{answered, refuted}
use Rattle.vk_layouts.proofs.layouts.Layouts.is_in.Goals as goal

pub returns-then-may_be_in : goal.returns-then-may_be_in
returns-then-may_be_in c = λ w image shows.
    answered c.args.self.now w image c.args.range.now c.args.layout c.are_in.result c.may_be_in.ensures.layers shows (sym c.may_be_in.ensures.may ∙ c.if-may_be_in.true) c.are_in.ensures

pub returns-else-may_be_in : goal.returns-else-may_be_in
returns-else-may_be_in c = λ w image shows.
    c.if-may_be_in.false ∙ refuted c.args.self.now w image c.args.range.now c.args.layout c.may_be_in.ensures.layers shows (sym c.may_be_in.ensures.may ∙ c.if-may_be_in.false)
