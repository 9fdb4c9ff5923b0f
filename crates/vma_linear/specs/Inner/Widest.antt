-- The widest gap between ranges one after another.
use Rattle.std.specs.Prelude.{ℕ, ◌+◌, ◌-◌, List, [], ◌∷◌, max}
use Rattle.vk_model.specs.Memory.Suballocation.{Taken}

-- The widest gap from one bound to another, between ranges that rise.
abbrev pub widest_up : ℕ → List Taken → ℕ → ℕ
widest_up low [] high = high - low
widest_up low (t ∷ ts) high = max (t.start - low) (widest_up (t.start + t.size) ts high)

-- The widest gap from one bound to another, between ranges that fall.
abbrev pub widest_down : ℕ → List Taken → ℕ → ℕ
widest_down low [] high = high - low
widest_down low (t ∷ ts) high = max (high - (t.start + t.size)) (widest_down low ts t.start)
