-- A range that is taken, as the definitions have it.
use Rattle.vk_model.specs.declared.suballoc.TakenRange.{TakenRange}
use Rattle.vk_model.specs.Memory.Suballocation.{Taken}

-- The definitions' record of a range (VMA, "Virtual allocator").
abbrev pub taken_of : TakenRange → Taken
taken_of r = record { start = r.start; size = r.size; kind = r.kind }
