use Rattle.std.proofs.Common.{◌≡◌, ℕ, ◌+◌, true, length, not, ◌&&◌, ◌==◌, Some}
use Rattle.std.specs.Prelude.{if◌then◌else◌, slice_index}
use Rattle.vk_image_transfer.specs.Stretches.{is_among}
use Rattle.vk_lag.specs.Lags.{resource_in, late_at}
use Rattle.vk_availability.proofs.pieces.make_late_in.Given as goal

-- The bytes that were walked are late, and those that are left are among the first ones.
abbrev pub invariant-loop-stretch : goal.invariant-loop-stretch
invariant-loop-stretch l = record {
  resource : l.written.resource ≡ l.initial.written.resource;
  among : (k : ℕ) → is_among l.written.left k ≡ true → is_among l.initial.written.left k ≡ true;
  room : (id : ℕ) → length (resource_in l.lags id) ≡ length (resource_in l.initial.lags id);
  bytes : (id k : ℕ)
      → late_at l.lags id k
      ≡ (if l.initial.written.resource == id && (is_among l.initial.written.left k && not (is_among l.written.left k)) then Some (record { writer = l.writer; value = slice_index l.region (l.base + k) }) else late_at l.initial.lags id k);
}

abbrev pub decreases-loop-stretch : goal.decreases-loop-stretch
decreases-loop-stretch l = length l.written.left
