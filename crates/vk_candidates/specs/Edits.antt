-- What edits make of a trace, and where they move its points.
use Rattle.std.specs.Prelude.{ℕ, zero, suc, ◌+◌, ◌-◌, List, [], ◌∷◌, insert, remove, ◌&&◌, ◌==◌, nat_le, nat_lt, if◌then◌else◌, Option, Some, None, option_and_then}
use Rattle.vk_model.specs.declared.entry.Batch.{Batch}
use Rattle.vk_model.specs.declared.entry.Entry.{Entry}
use Rattle.vk_model.specs.declared.entry.Entry.TheVariants as entry
use Rattle.vk_model.specs.declared.rule.At.{At}
use Rattle.vk_model.specs.declared.rule.At.TheVariants as at
use Rattle.vk_candidates.specs.declared.edits.Change.{Change}
use Rattle.vk_candidates.specs.declared.edits.Change.TheVariants.{Insert, Replace}
use Rattle.vk_candidates.specs.declared.edits.InBatch.{InBatch}
use Rattle.vk_candidates.specs.declared.edits.Member.{Member}
use Rattle.vk_candidates.specs.declared.edits.Member.TheVariants as member
use Rattle.vk_candidates.specs.declared.edits.Edit.{Edit}
use Rattle.vk_candidates.specs.declared.edits.Edit.TheVariants as edit

-- ---- what edits make of a trace

-- A list with what f makes of its item k, if it has that many.
abbrev pub at_index : {A : Type 0} → (A → A) → ℕ → List A → List A
at_index f k [] = []
at_index f zero (x ∷ xs) = f x ∷ xs
at_index f (suc k) (x ∷ xs) = x ∷ at_index f k xs

-- A list after a change at place k.
abbrev pub after_change : {A : Type 0} → Change → ℕ → A → List A → List A
after_change Insert k x xs = insert xs k x
after_change Replace k x xs = at_index (λ _. x) k xs

-- A batch after a change at place k of one of its lists.
abbrev pub batch_after : Change → ℕ → Member → Batch → Batch
batch_after c k (member.Wait w) b = record b { waits = after_change c k w b.waits }
batch_after c k (member.Command x) b = record b { commands = after_change c k x b.commands }
batch_after c k (member.Signal s) b = record b { signals = after_change c k s b.signals }

-- An entry with what f makes of batch k, if it submits that many.
abbrev pub at_batch : (Batch → Batch) → ℕ → Entry → Entry
at_batch f k (entry.Submit q bs) = entry.Submit q (at_index f k bs)
at_batch f k x = x

-- A trace after one edit.
abbrev pub edited_once : Edit → List Entry → List Entry
edited_once (edit.Entry c k x) t = after_change c k x t
edited_once (edit.Remove k) t = remove t k
edited_once (edit.Member c a m) t = at_index (at_batch (batch_after c a.place m) a.batch) a.entry t

-- A trace after edits, the last of them made first: so the places of edits that are listed in the order of the trace are places of the given trace.
abbrev pub edited : List Entry → List Edit → List Entry
edited t [] = t
edited t (e ∷ es) = edited_once e (edited t es)

-- ---- where a point is then

-- The place of an item after an insertion at place k.
abbrev pub after_insertion : ℕ → ℕ → ℕ
after_insertion k n = if nat_le k n then n + 1 else n

-- The number of the entry of a point.
abbrev pub entry_number : At → ℕ
entry_number (at.Entry e) = e
entry_number (at.Command e b k) = e
entry_number (at.Wait e b k) = e
entry_number (at.Signal e b k) = e

-- A point of another entry.
abbrev pub in_entry : ℕ → At → At
in_entry e (at.Entry d) = at.Entry e
in_entry e (at.Command d b k) = at.Command e b k
in_entry e (at.Wait d b k) = at.Wait e b k
in_entry e (at.Signal d b k) = at.Signal e b k

-- The place of an item after an insertion at a place of a list of its batch, or of another batch.
abbrev pub place_after : InBatch → (e b k : ℕ) → ℕ
place_after a e b k = if a.entry == e && a.batch == b then after_insertion a.place k else k

-- Where a point is after a wait, a command or a signal is inserted.
abbrev pub moved_in_batch : InBatch → Member → At → At
moved_in_batch a (member.Command x) (at.Command e b k) = at.Command e b (place_after a e b k)
moved_in_batch a (member.Wait w) (at.Wait e b k) = at.Wait e b (place_after a e b k)
moved_in_batch a (member.Signal s) (at.Signal e b k) = at.Signal e b (place_after a e b k)
moved_in_batch a m p = p

-- Where a point of a trace is after one edit; what is replaced keeps its place, and what is taken out has none.
abbrev pub moved_once : Edit → At → Option At
moved_once (edit.Entry Insert k x) p = Some (in_entry (after_insertion k (entry_number p)) p)
moved_once (edit.Entry Replace k x) p = Some p
moved_once (edit.Remove k) p = if entry_number p == k then None else Some (in_entry (if nat_lt k (entry_number p) then entry_number p - 1 else entry_number p) p)
moved_once (edit.Member Insert a m) p = Some (moved_in_batch a m p)
moved_once (edit.Member Replace a m) p = Some p

-- Where a point of a trace is after edits.
abbrev pub moved : List Edit → At → Option At
moved [] p = Some p
moved (e ∷ es) p = option_and_then (moved_once e) (moved es p)
