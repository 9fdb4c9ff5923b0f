use Rattle.std.proofs.Common.{◌≡◌, ◌+◌, ℕ, length, nat_lt, ap, sym, arith}
use Rattle.std.proofs.lemmas.Bool.{lt-ltb}
use Rattle.vk_model.specs.Run.Runs.{offered, parts_left}
use Rattle.vk_cached_device.proofs.device.CachedDevice.has_steps.Goals as goal

pub returns-then-offered_count-gt0 : goal.returns-then-offered_count-gt0
returns-then-offered_count-gt0 c = λ t steps s led.
    let many = c.offered_count.ensures.named t steps s led in
    let some = c.if-offered_count-gt0.true in
    sym (lt-ltb 0 (length (offered s.front.past s.done) + length (parts_left s)) (omega (arith, many, some)))

pub returns : goal.returns
returns c = λ t steps s led.
    let many = c.offered_count.ensures.named t steps s led in
    let none = c.if-offered_count-gt0.false in
    let parts = c.copies_left.ensures.named t steps s led in
    ap (λ (n : ℕ). nat_lt 0 n) (let same : c.copies_left.result ≡ length (offered s.front.past s.done) + length (parts_left s) = omega (arith, many, none, parts) in same)
