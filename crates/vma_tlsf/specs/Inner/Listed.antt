-- What is taken by slots, as a list of ranges.
use Rattle.std.specs.Prelude.{◌≡◌, ℕ, List, [], ◌∷◌, Option, MatchOption}
use Rattle.vk_nodes.specs.declared.node.Node.{Node}
use Rattle.vk_model.specs.declared.suballoc.TakenRange.{TakenRange}
use Rattle.vk_model.specs.Memory.TakenRanges.{taken_of}
use Rattle.vma_tlsf.specs.Inner.Chain.{seen, taken_by, taken_here}

-- What is taken by the range of a slot.
abbrev pub IsTakenHere : List (Option Node) → ℕ → Option TakenRange → Type 0
IsTakenHere nodes slot found = MatchOption found (taken_here (seen nodes slot) ≡ []) (λ range. taken_here (seen nodes slot) ≡ taken_of range ∷ [])

-- What is taken by a node that has bytes.
abbrev pub IsTakenBy : Node → Option TakenRange → Type 0
IsTakenBy node found = MatchOption found (taken_by node.start node.size node.state ≡ []) (λ range. taken_by node.start node.size node.state ≡ taken_of range ∷ [])
