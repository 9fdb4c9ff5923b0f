-- What is asked of a block.
use Rattle.std.specs.Prelude.{ℕ}
use Rattle.vk_nodes.specs.declared.node.RangeState.{RangeState}
use Rattle.vk_nodes.specs.declared.node.RangeState.TheVariants as state
use Rattle.vk_model.specs.declared.resource.Kind.{Kind}
use Rattle.vk_model.specs.declared.resource.Kind.TheVariants as kind
use Rattle.vk_model.specs.Memory.Suballocation.{Taken, Request}
use Rattle.vma_tlsf.specs.declared.places.Want.{Want}

-- The request of a want.
abbrev pub request_of_want : Want → Request
request_of_want w = record { size = w.size; align = w.align; kind = w.kind }

-- What a want takes at a start.
abbrev pub taken_of_want : ℕ → Want → Taken
taken_of_want start w = record { start = start; size = w.size; kind = w.kind }

-- The state of what is taken by a resource of a kind.
abbrev pub state_of : Kind → RangeState
state_of kind.Linear = state.Linear
state_of kind.Optimal = state.Optimal
