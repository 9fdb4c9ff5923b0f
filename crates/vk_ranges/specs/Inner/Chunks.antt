-- Runs in chunks: their ends rise, and each chunk has those up to its last one.
use Rattle.std.specs.Prelude.{ℕ, zero, suc, ◌≡◌, ◌<◌, ◌≤◌, ◌+◌, ◌^◌, List, [], ◌∷◌, ◌++◌}
use Rattle.vk_ranges.specs.declared.chunk.Chunk.{Chunk}

module _ {T : Type 0} where
  -- The ends of the runs rise, from `low` on and below `high`. (profile)
  abbrev pub AreRising : ℕ → ℕ → List (ℕ × T) → Type 0
  AreRising low high [] = low ≤ high
  AreRising low high (run ∷ runs) = (low ≤ run.0) × AreRising (run.0 + 1) high runs

  -- The ends of the runs rise. (profile)
  abbrev pub AreSorted : List (ℕ × T) → Type 0
  AreSorted runs = (low : ℕ) × (high : ℕ) × AreRising low high runs

  -- The runs of the chunks, one chunk after another. (profile)
  abbrev pub joined : List (Chunk T) → List (ℕ × T)
  joined [] = []
  joined (chunk ∷ chunks) = chunk.runs.items ++ joined chunks

  -- The ends rise from `low` on. Each chunk has those up to its last one, and the last chunk all up to the greatest index. (profile)
  abbrev pub AreChunks : ℕ → List (Chunk T) → Type 0
  AreChunks low [] = low ≡ 2 ^ 32
  AreChunks low (chunk ∷ chunks) = AreRising low (chunk.last + 1) chunk.runs.items × AreChunks (chunk.last + 1) chunks

  -- The chunk at this place is the first that an end may be in. (profile)
  abbrev pub IsChunkOf : ℕ → ℕ → List (Chunk T) → Type 0
  IsChunkOf end at [] = ⊥
  IsChunkOf end zero (chunk ∷ chunks) = end ≤ chunk.last
  IsChunkOf end (suc at) (chunk ∷ chunks) = (chunk.last < end) × IsChunkOf end at chunks

  -- That many runs end before the index, and those after them at it or later. (profile)
  abbrev pub IsPlaceOf : ℕ → ℕ → List (ℕ × T) → Type 0
  IsPlaceOf end zero [] = Unit {0}
  IsPlaceOf end zero (run ∷ runs) = end ≤ run.0
  IsPlaceOf end (suc place) [] = ⊥
  IsPlaceOf end (suc place) (run ∷ runs) = (run.0 < end) × IsPlaceOf end place runs

  -- That many runs end before `low`, and those after them after `high`. (profile)
  abbrev pub IsGapOf : ℕ → ℕ → ℕ → List (ℕ × T) → Type 0
  IsGapOf low high zero [] = Unit {0}
  IsGapOf low high zero (run ∷ runs) = high < run.0
  IsGapOf low high (suc place) [] = ⊥
  IsGapOf low high (suc place) (run ∷ runs) = (run.0 < low) × IsGapOf low high place runs

  -- A chunk became two: it kept the first runs, and the others are in one after it. (profile)
  pub record IsHalved (old kept more : Chunk T) : Type 0 where
    pub whole : old.runs.items ≡ kept.runs.items ++ more.runs.items
    pub last : more.last ≡ old.last
    pub rising : (low : ℕ) → AreRising low (old.last + 1) old.runs.items → AreRising low (kept.last + 1) kept.runs.items × AreRising (kept.last + 1) (old.last + 1) more.runs.items
