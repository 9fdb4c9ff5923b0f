-- What is held of a byte as a mark and a value.
use Rattle.std.specs.Prelude.{ℕ, ◌-◌, List, [], ◌∷◌, ◌++◌, length, replicate, Option, Some, None, slice_index, slice_index_or}
use Rattle.vk_map_cache.specs.declared.mark.Mark.{Mark}
use Rattle.vk_map_cache.specs.declared.mark.Mark.TheVariants as mark
use Rattle.vk_map_cache.specs.declared.mark.Change.{Change}
use Rattle.vk_map_cache.specs.declared.mark.Change.TheVariants as change
use Rattle.vk_map_cache.specs.declared.marks.Turn.{Turn}
use Rattle.vk_map_cache.specs.declared.marks.Turn.TheVariants as turn
use Rattle.vk_model.specs.Run.Caches.{Held, Clean, Dirty, Cell, written_back, dropped, loaded, forgotten}
use Rattle.vk_model.specs.Run.CachedRuns.{turned_over}
use Rattle.vk_map_cache.specs.Holdings.{IsCell, evicted}

-- What a mark and a value say is held.
abbrev pub holding_of : Mark → ℕ → Option Held
holding_of mark.Absent value = None
holding_of mark.Clean value = Some (Clean value)
holding_of mark.Dirty value = Some (Dirty value)

-- What the marks and the values of an object say is held of its bytes.
abbrev pub holdings_of : List Mark → List ℕ → List (Option Held)
holdings_of [] values = []
holdings_of (m ∷ marks) [] = []
holdings_of (m ∷ marks) (v ∷ values) = holding_of m v ∷ holdings_of marks values

-- The mark of a byte; absent past the end.
abbrev pub mark_at : List Mark → ℕ → Mark
mark_at marks k = slice_index_or marks k mark.Absent

-- The marks of so many bytes, of which those behind the first ones are absent.
abbrev pub with_absent : List Mark → ℕ → List Mark
with_absent marks size = marks ++ replicate (size - length marks) mark.Absent

-- A cell is byte k of these lists.
abbrev pub IsMarked : List Mark → List ℕ → List ℕ → ℕ → Cell → Type 0
IsMarked marks values region k cell = IsCell (holding_of (mark_at marks k) (slice_index values k)) (slice_index region k) cell

-- What a change makes of a byte.
abbrev pub changed : Change → Cell → Cell
changed change.WriteBack cell = written_back 0 cell
changed change.Evict cell = evicted cell
changed change.Load cell = loaded 0 cell
changed change.TurnOver cell = turned_over cell

-- ---- what a queue's cache does with bytes that are held alike

-- What is done with a byte, in the cache of an agent.
abbrev pub turned : Turn → ℕ → Cell → Cell
turned turn.WriteBack a cell = written_back a cell
turned turn.Load a cell = loaded a cell
turned turn.Drop a cell = dropped a cell
turned turn.Forget a cell = forgotten a cell

-- How it is held then.
abbrev pub mark_after : Turn → Mark → Mark
mark_after turn.WriteBack mark.Dirty = mark.Clean
mark_after turn.WriteBack m = m
mark_after turn.Load mark.Absent = mark.Clean
mark_after turn.Load m = m
mark_after turn.Drop mark.Clean = mark.Absent
mark_after turn.Drop m = m
mark_after turn.Forget m = mark.Absent

-- The value of a byte in memory when it is written back, by how it is held, with which value, and by its value in memory.
abbrev pub value_back : Mark → ℕ → ℕ → ℕ
value_back mark.Dirty value region = value
value_back m value region = region

-- The value that is held of a byte when it is loaded.
abbrev pub value_loaded : Mark → ℕ → ℕ → ℕ
value_loaded mark.Absent value region = region
value_loaded m value region = value

-- This gives up what is held, and reads no memory.
abbrev pub Leaves : Turn → Type 0
Leaves turn.Drop = Unit {0}
Leaves turn.Forget = Unit {0}
Leaves t = ⊥
