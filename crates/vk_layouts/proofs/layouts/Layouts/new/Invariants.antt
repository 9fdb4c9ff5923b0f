use Rattle.std.proofs.Common.{◌≡◌, length, replicate}
use Rattle.std.specs.Prelude.{All}
use Rattle.vk_layouts.proofs.layouts.Layouts.new.Given as goal

abbrev pub invariant-loop-level : goal.invariant-loop-level
invariant-loop-level l =
    record {
      len : length l.list.items ≡ l._level;
      undefined : All (λ level. level ≡ replicate l.layers 0) l.list.items;
    }
