use Rattle.std.proofs.Common.{◌∙◌, ◌++◌, ap}
use Rattle.vk_words.specs.Points.{at_text}
use Rattle.vk_calls.proofs.Calling.{behind}
use Rattle.vk_calls.proofs.names.behind_name.Goals as goal

pub returns-in-Some : goal.returns-in-Some
returns-in-Some c =
    behind c.args.text.now (at_text c.args.at) c.as_bytes.result.now c.in-Some.after.now (c.as_bytes.ensures.value ∙ (c.in_ok-push_at.ensures ∙ ap (λ l. l ++ at_text c.args.at) c.new-name.ensures.bytes))
    c.in-Some.ensures.cases.0 c.in-Some.ensures.cases.1
