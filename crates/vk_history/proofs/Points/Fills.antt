-- What a fill reaches.
use Rattle.std.proofs.Common.{◌≡◌, ◌≤◌, ◌+◌, ◌-◌, ◌*◌, ◌/◌, ℕ, Bool, true, false, refl, arith, ◌||◌}
use Rattle.std.specs.Prelude.{nat_lt, nat_le}
use Rattle.std.proofs.Math.Nat.{div-mul-le_self}
use Rattle.std.proofs.lemmas.Bool.Decides.{nat_tests}
use Rattle.vk_model.specs.declared.command.Cmd.TheVariants as cmd
use Rattle.vk_model.specs.declared.command.Length.{Length}
use Rattle.vk_model.specs.declared.command.Length.TheVariants as length_of
use Rattle.vk_model.specs.Trace.Point.{Past}
use Rattle.vk_model.specs.World.ByteWrites.{buffer_size}
use Rattle.vk_model.specs.Rules.Ranges.{command_past, ends_past}

whole_past : (size o : ℕ) → (nat_lt size (o + (size - o) / 4 * 4) || nat_le size o) ≡ nat_le size o
whole_past size o = let le : (size - o) / 4 * 4 ≤ size - o = div-mul-le_self (size - o) 4 in grind (arith, nat_tests)

-- a fill reaches past its buffer where its range does
pub fill_range : (past : Past) (b o : ℕ) (n : Length) (w : ℕ) → command_past past (cmd.Fill b o n w) ≡ ends_past (buffer_size past b) o n
fill_range past b o (length_of.Bytes n) w = three (nat_lt (buffer_size past b) (o + n)) where
  three : (b : Bool) → ((b || false) || false || false || false) ≡ b
  three true = refl
  three false = refl
fill_range past b o length_of.Whole w = three (nat_lt (buffer_size past b) (o + (buffer_size past b - o) / 4 * 4)) (nat_le (buffer_size past b) o) (whole_past (buffer_size past b) o) where
  three : (b c : Bool) → (b || c) ≡ c → ((b || false) || c || false || false) ≡ c
  three true true e = refl
  three false true e = refl
  three false false e = refl
  three true false e = e
