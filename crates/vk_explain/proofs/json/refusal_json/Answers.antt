use Rattle.std.proofs.Common.{◌≡◌, ◌++◌, ap, ◌∙◌}
use Rattle.std.specs.Prelude.{string_bytes}
use Rattle.vk_explain.proofs.Refusals.{json_is}
use Rattle.vk_explain.proofs.json.refusal_json.Goals as goal

pub returns : goal.returns
returns c =
    let r = c.args.report.now in
    json_is c.args.trace.now r.at r.rule r.fact r.links (string_bytes c.push_end.new.members) (string_bytes c.in_ok-text.text) (string_bytes c.push_str.new.self)
    c.requires.so.so c.requires.so.linked c.in_ok-text.ensures (c.in_ok-push_str.ensures.bytes ∙ ap (λ s. string_bytes c.in_ok-text.text ++ s) c.as_str.ensures.value)
