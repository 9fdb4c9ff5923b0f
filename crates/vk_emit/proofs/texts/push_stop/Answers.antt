use Rattle.std.proofs.Common.{◌≡◌, ◌++◌, ◌∙◌, List, ℕ, sym, ap}
use Rattle.std.specs.Prelude.{codes, decimal, string_bytes}
use Rattle.std.proofs.lemmas.Result.{on_ok_weaker}
use Rattle.vk_emit.specs.Programs.{stop_text}
use Rattle.vk_emit.proofs.Joins.{three_more, on_success}
use Rattle.vk_emit.proofs.texts.push_stop.Goals as goal

pub returns : goal.returns
returns c =
    let out : List ℕ = string_bytes c.args.out.now in
    on_ok_weaker c.push_str-2.result
    (λ last.
    three_more out (codes "// Entry ") (decimal c.in-Some.stop) (codes " of the trace finds no room: what comes before it is performed.\n")
    (string_bytes c.push_str.new.self) (string_bytes c.push_number.new.out) (string_bytes c.push_str-2.new.self)
    c.in_ok-push_str.ensures.bytes c.in_ok-push_number.ensures last
    ∙ ap (λ stop. out ++ stop_text stop) (sym c.in-Some.is))
    (on_success c.push_str-2.result (string_bytes c.push_str-2.new.self) (string_bytes c.push_number.new.out ++ codes " of the trace finds no room: what comes before it is performed.\n") (string_bytes c.push_number.new.out) c.push_str-2.ensures.bytes)
