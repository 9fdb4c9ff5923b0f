use Rattle.std.proofs.Common.{◌≡◌, ◌∙◌, ap, sym, subst}
use Rattle.std.specs.Prelude.{string_bytes}
use Rattle.std.specs.Option.{option_map}
use Rattle.vk_queues.specs.PointViews.{past_of}
use Rattle.vk_findings.specs.Reports.{fault_in}
use Rattle.vk_explain.specs.Explained.{Explains, judgment_of}
use Rattle.vk_explain.specs.declared.explaining.Judgment.{Judgment}
use Rattle.vk_explain.proofs.Verdicts.{explains}
use Rattle.vk_explain.proofs.explaining.explained.Goals as goal

pub report_of-requires : goal.report_of-requires
report_of-requires c = ap past_of c.as_slice.ensures.value ∙ c.in_ok-points.ensures.order

pub returns : goal.returns
returns c =
    let P : Judgment → Type 0 = λ j. Explains c.args.form c.args.input.now (string_bytes c.in_ok-text.text) j in
    let fault = option_map fault_in c.in_ok-report.report in
    subst P (sym (c.judgment_by-judgment.ensures ∙ ap judgment_of c.fault_of.ensures)) (explains c.args.form c.args.input.now (string_bytes c.in_ok-text.text) c.args.trace.now fault c.requires c.in_ok-report.ensures.exact c.in_ok-text.ensures)
