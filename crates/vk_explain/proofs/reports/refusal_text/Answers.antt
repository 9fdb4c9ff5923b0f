use Rattle.std.proofs.Common.{◌≡◌, ◌++◌, ap, ◌∙◌}
use Rattle.std.specs.Prelude.{string_bytes}
use Rattle.vk_explain.proofs.Refusals.{text_is}
use Rattle.vk_explain.proofs.reports.refusal_text.Goals as goal

pub returns : goal.returns
returns c =
    let r = c.args.report.now in
    text_is c.args.trace.now r.at r.rule r.fact r.links
    (string_bytes c.in_ok-point.point) (string_bytes c.in_ok-ruled.ruled) (string_bytes c.in_ok-points.points) (string_bytes c.in_ok-more.more)
    (string_bytes c.in_ok-text.text) (string_bytes c.push_str.new.self) (string_bytes c.push_str-2.new.self) (string_bytes c.push_str-3.new.self) (string_bytes c.push_str-4.new.self)
    c.in_ok-point.ensures c.requires.so.so c.requires.so.linked c.in_ok-text.ensures
    (c.in_ok-push_str.ensures.bytes ∙ ap (λ s. string_bytes c.in_ok-text.text ++ s) c.as_str.ensures.value)
    c.in_ok-ruled.ensures
    (c.in_ok-push_str-2.ensures.bytes ∙ ap (λ s. string_bytes c.push_str.new.self ++ s) c.as_str-2.ensures.value)
    (c.in_ok-push_str-3.ensures.bytes ∙ ap (λ s. string_bytes c.push_str-2.new.self ++ s) c.as_str-3.ensures.value)
    (c.in_ok-push_str-4.ensures.bytes ∙ ap (λ s. string_bytes c.push_str-3.new.self ++ s) c.as_str-4.ensures.value)
