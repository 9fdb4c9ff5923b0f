-- What is taken for granted of the points that come. Points that break no rule have it.
use Rattle.std.specs.Prelude.{[], ◌∷◌, ⊤, Bool, true, false}
use Rattle.vk_model.specs.declared.entry.Entry.{Entry}
use Rattle.vk_model.specs.declared.entry.Entry.TheVariants as entry
use Rattle.vk_model.specs.Trace.Point.{Past, Action, Host, Wait, Run, Signal}
use Rattle.vk_resources.specs.Fits.{IsUnused, FitsCommand, FitsEntry}

-- Whether an entry begins or ends a defragmentation or a pass of one (VMA, "Defragmentation").
abbrev pub is_of_passes : Entry → Bool
is_of_passes (entry.Defrag i p b m) = true
is_of_passes (entry.Pass d) = true
is_of_passes (entry.EndPass d kept lost) = true
is_of_passes (entry.EndDefrag d) = true
is_of_passes _ = false

-- A defragmentation has a new id; what else entries of passes ask is asked of passes, and not of resources.
abbrev pub FitsHost : Past → Entry → Type 0
FitsHost past (entry.Defrag i p b m) = IsUnused past i
FitsHost past (entry.Pass d) = ⊤
FitsHost past (entry.EndPass d kept lost) = ⊤
FitsHost past (entry.EndDefrag d) = ⊤
FitsHost past x = FitsEntry past x

-- Waits and signals of batches ask nothing.
abbrev pub FitsAction : Past → Action → Type 0
FitsAction past (Host x) = FitsHost past x
FitsAction past (Run c) = FitsCommand past c
FitsAction past (Wait w) = ⊤
FitsAction past (Signal w) = ⊤

-- Every point of a past fits.
abbrev pub AllFit : Past → Type 0
AllFit [] = ⊤
AllFit (p ∷ past) = FitsAction past p.action × AllFit past
