-- Bits of the mask of memory types.
use Rattle.std.proofs.Common.{◌≡◌, ℕ, ◌/◌, ◌%◌, ◌^◌, ◌<◌, ◌≤◌, false, ◌==◌, ap, arith, lit<}
use Rattle.std.proofs.Math.Nat.{pow-le-pow_right, div-eq_of_lt}
use Rattle.vk_model.specs.Memory.Addresses.{bit}

-- a number below 2 ^ j has no bit from j on
pub no_bit_above : (n j t : ℕ) → n < 2 ^ j → j ≤ t → (bit n t == 1) ≡ false
no_bit_above n j t fits above =
    let more : 2 ^ j ≤ 2 ^ t = pow-le-pow_right (lit< tt) above in
    let none : n / 2 ^ t ≡ 0 = div-eq_of_lt (omega arith) in
    ap (λ (i : ℕ). i % 2 == 1) none
