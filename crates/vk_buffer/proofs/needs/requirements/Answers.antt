use Rattle.std.proofs.Common.{◌≡◌, refl, ap, sym, ◌∙◌, arith, inl, inr}
use Rattle.vk_model.specs.Memory.Addresses.{need_of}
use Rattle.vk_model.specs.Trace.Objects.{of_buffer}
use Rattle.vk_buffer.specs.Requirements.{need_or}
use Rattle.vk_buffer.proofs.Asked.{asks_nothing, asks_usage, asks_much, asks_well}
use Rattle.vk_buffer.proofs.needs.requirements.Goals as goal
use Rattle.vk_buffer.proofs.needs.requirements.Goals.{then-usage-eq0-via-then-usage-eq0, then-usage-eq0-via-else-usage-eq0+then-usage-gt-KNOWN_USAGES}

pub returns-then-size-eq0-clause-answer : goal.returns-then-size-eq0-clause-answer
returns-then-size-eq0-clause-answer c = λ b is_size is_usage past p makes.
    sym (ap (λ r. need_or r (need_of (of_buffer b))) (asks_nothing past p b makes (is_size ∙ c.if-size-eq0.true)))

pub returns-then-usage-eq0-clause-answer : goal.returns-then-usage-eq0-clause-answer
returns-then-usage-eq0-clause-answer c = λ b is_size is_usage past p makes.
    let same : b.usage.0 ≡ c.args.usage.0 = ap (λ u. u.0) is_usage in
    sym (ap (λ r. need_or r (need_of (of_buffer b))) (asks_usage past p b makes (λ e. c.if-size-eq0.false (sym is_size ∙ e)) (elim c.then-usage-eq0.branch [
      | then-usage-eq0-via-then-usage-eq0 w ↦ inl (omega arith)
      | then-usage-eq0-via-else-usage-eq0+then-usage-gt-KNOWN_USAGES w ↦ inr (omega arith)
    ])))

pub returns-then-size-gt-GREATEST_SIZE-clause-answer : goal.returns-then-size-gt-GREATEST_SIZE-clause-answer
returns-then-size-gt-GREATEST_SIZE-clause-answer c = λ b is_size is_usage past p makes.
    let same : b.usage.0 ≡ c.args.usage.0 = ap (λ u. u.0) is_usage in
    sym (ap (λ r. need_or r (need_of (of_buffer b))) (asks_much past p b makes (λ e. omega arith) (λ e. omega arith) (omega arith) (omega arith)))

pub returns-clause-answer : goal.returns-clause-answer
returns-clause-answer c = λ b is_size is_usage past p makes.
    let same : b.usage.0 ≡ c.args.usage.0 = ap (λ u. u.0) is_usage in
    sym (ap (λ r. need_or r (need_of (of_buffer b))) (asks_well past p b makes (λ e. omega arith) (λ e. omega arith) (omega arith) (omega arith)) ∙ rw is_size refl)
