-- What became of ids.
use Rattle.std.specs.Prelude.{◌≡◌, ℕ, Bool, true, false, Option, Some, None, option_map, option_and_then, Contains}
use Rattle.std.specs.List.{find, list_any}
use Rattle.vk_model.specs.declared.entry.Entry.{Entry}
use Rattle.vk_model.specs.Trace.Point.{Past, Point, host_of}
use Rattle.vk_model.specs.Trace.Objects.{made_by}
use Rattle.vk_model.specs.Rules.Ids.{breaks_new_id, is_buffer, is_image, is_resource, is_pool, is_memory, is_semaphore, is_event, is_defrag, asked_by, judged_in, is_dead}
use Rattle.vk_model.specs.Trace.PointViews.{point_of}
use Rattle.vk_hazards.specs.declared.before.doings.Doing.TheVariants.{Makes, Ends}
use Rattle.vk_hazards.specs.Doings.{does}
use Rattle.vk_hazards.specs.declared.asked.ObjectKind.{ObjectKind}
use Rattle.vk_hazards.specs.declared.asked.ObjectKind.TheVariants as kind
use Rattle.vk_hazards.specs.declared.asked.Asked.{Asked}
use Rattle.vk_hazards.specs.declared.lives.Life.{Life}
use Rattle.vk_hazards.specs.declared.lives.DeadId.{DeadId}

-- What the entry that made an id of this kind has to be.
abbrev pub kind_test : ObjectKind → Entry → Bool
kind_test kind.Buffer = is_buffer
kind_test kind.Image = is_image
kind_test kind.Resource = is_resource
kind_test kind.Pool = is_pool
kind_test kind.Memory = is_memory
kind_test kind.Semaphore = is_semaphore
kind_test kind.Event = is_event
kind_test kind.Defrag = is_defrag

-- An id that is asked for, with what the entry that made it has to be.
abbrev pub asked_of : Asked → ℕ × (Entry → Bool)
asked_of a = (a.id, kind_test a.kind)

-- The newest points of a past that made and that ended an id.
pub record IsLife (past : Past) (i : ℕ) (l : Life) : Type 0 where
  pub id : l.id ≡ i
  pub made : option_map point_of l.made ≡ find (does Makes i) past
  pub ended : option_map point_of l.ended ≡ find (does Ends i) past

-- A point makes an id that was made before, and that is what became of it; or it doesn't.
abbrev pub IsMade : Past → Point → Option Life → Type 0
IsMade past p None = breaks_new_id past p ≡ false
IsMade past p (Some l) = (option_and_then made_by (host_of p.action) ≡ Some l.id) × (breaks_new_id past p ≡ true) × IsLife past l.id l

-- A point names an id that isn't that of a live object of the kind asked, and that is what became of it, in the past in which it is judged and, of what made it, in all of its past; or it names none.
abbrev pub IsDead : Past → Point → Option DeadId → Type 0
IsDead past p None = list_any (is_dead (judged_in past p)) (asked_by p.action) ≡ false
IsDead past p (Some d) = Contains (asked_by p.action) (d.life.id, kind_test d.wanted) × (is_dead (judged_in past p) (d.life.id, kind_test d.wanted) ≡ true) × IsLife (judged_in past p) d.life.id d.life × (option_map point_of d.made_ever ≡ find (does Makes d.life.id) past)
