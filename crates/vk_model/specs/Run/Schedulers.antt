-- What the seeded scheduler answers, by the generator that it holds.
use Rattle.std.specs.Prelude.{ℕ, List, [], ◌∷◌}
use Rattle.rand_core.specs.Pcg32Seed.{pcg32_seed}
use Rattle.rand_pcg.specs.Lcg.{Lcg}
use Rattle.rand_pcg.specs.Pcg.{pcg32, pcg32_of_seed}

-- A generator as whole numbers: its state and its increment (profile).
abbrev pub numbers_of : Lcg → List ℕ
numbers_of g = g.state ∷ g.increment ∷ []

-- The generator that a seed gives: PCG with words of 32 bits, as `rand_pcg` seeds it (profile).
abbrev pub seeded_by : ℕ → Lcg
seeded_by seed = pcg32_of_seed (pcg32_seed 16 seed)

-- The next word of the generator of these numbers, for any number of options; 0 for what are no generator's numbers (profile).
abbrev pub word_of : List ℕ → ℕ → ℕ
word_of (state ∷ increment ∷ []) n = (pcg32 (record { state = state; increment = increment })).0
word_of held n = 0

-- The numbers of the generator after that word (profile).
abbrev pub after_word : List ℕ → ℕ → List ℕ
after_word (state ∷ increment ∷ []) n = numbers_of (pcg32 (record { state = state; increment = increment })).1
after_word held n = held
