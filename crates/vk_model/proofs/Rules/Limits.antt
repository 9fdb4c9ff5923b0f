-- What lies within a limit. Other crates cite it.
use Rattle.std.proofs.Common.{◌≡◌, ℕ, ◌+◌, ◌<◌, ◌≤◌, ◌==◌, false, arith}
use Rattle.std.specs.Prelude.{nat_lt}
use Rattle.std.proofs.lemmas.Bool.{or_parts, eqb-false, ltb-false}
use Rattle.vk_model.specs.Rules.Ranges.{is_beyond}

-- a count that isn't beyond the limit is of some, and ends there
pub within_limit : (limit from count : ℕ) → is_beyond limit from count ≡ false → (0 < count) × (from + count ≤ limit)
within_limit limit from count e =
    let parts = or_parts (count == 0) (nat_lt limit (from + count)) e in
    let some = eqb-false count 0 parts.0 in
    (omega arith, ltb-false limit (from + count) parts.1)
