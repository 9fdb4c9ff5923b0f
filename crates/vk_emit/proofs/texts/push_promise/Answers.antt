use Rattle.std.proofs.Common.{◌≡◌, ◌++◌, ◌∙◌, List, ℕ, sym, ap}
use Rattle.std.specs.Prelude.{codes, string_bytes}
use Rattle.std.proofs.lemmas.Result.{on_ok_weaker}
use Rattle.vk_emit.specs.Programs.{stop_text, promise_text}
use Rattle.vk_emit.proofs.Joins.{two_more, on_success}
use Rattle.vk_emit.proofs.texts.push_promise.Goals as goal

pub returns-in_ok-push_str-in-Reads : goal.returns-in_ok-push_str-in-Reads
returns-in_ok-push_str-in-Reads c =
    let out : List ℕ = string_bytes c.args.out.now in
    on_ok_weaker c.push_stop.result
    (λ last.
    two_more out (codes ", and the bytes that its reads have to give.\n") (stop_text c.in-Reads.stop)
    (string_bytes c.push_str.new.self) (string_bytes c.push_stop.new.out) c.in_ok-push_str-in-Reads.ensures.bytes last
    ∙ ap (λ outcome. out ++ promise_text outcome) (sym c.in-Reads.is))
    c.push_stop.ensures

pub returns-in-Refused : goal.returns-in-Refused
returns-in-Refused c =
    let out : List ℕ = string_bytes c.args.out.now in
    on_ok_weaker c.push_str-in-Refused.result (λ last. last ∙ ap (λ outcome. out ++ promise_text outcome) (sym c.in-Refused.is))
    (on_success c.push_str-in-Refused.result (string_bytes c.push_str-in-Refused.new.self) (out ++ codes ". It breaks a rule: nothing is promised of its reads.\n") out c.push_str-in-Refused.ensures.bytes)
