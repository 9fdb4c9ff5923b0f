-- Commands that points submit.
use Rattle.std.specs.Prelude.{◌≡◌, ℕ, List, Some, Contains, IsTrue, slice_get}
use Rattle.vk_model.specs.declared.command.Cmd.{Cmd}
use Rattle.vk_model.specs.declared.entry.Batch.{Batch}
use Rattle.vk_model.specs.declared.entry.Entry.TheVariants as entry
use Rattle.vk_model.specs.declared.rule.At.TheVariants as at
use Rattle.vk_model.specs.Trace.Point.{Past, Point, Host, Run, at_of}
use Rattle.vk_model.specs.Sync.Complete.{submitted, names}
use Rattle.vk_findings.specs.declared.named.Spot.{Spot}
use Rattle.vk_findings.specs.Inner.Uses.{IsAt}

-- A command of some batches is at a place.
pub record IsCommandAt (bs : List Batch) (s : Spot) (c : Cmd) : Type 0 where
  pub batch : Batch
  pub there : slice_get bs s.batch ≡ Some batch
  pub listed : slice_get batch.commands s.place ≡ Some c

-- It names a resource.
pub record IsNaming (bs : List Batch) (s : Spot) (r : ℕ) : Type 0 where
  pub command : Cmd
  pub is_at : IsCommandAt bs s command
  pub naming : IsTrue (names r (Run command))

-- A point submits such a command.
pub record IsSubmit (p : Point) (s : Spot) (r : ℕ) : Type 0 where
  pub queue : ℕ
  pub batches : List Batch
  pub action : p.action ≡ Host (entry.Submit queue batches)
  pub entry : p.entry ≡ s.entry
  pub naming : IsNaming batches s r

-- A submitted command that is there names a resource.
pub record IsSubmitted (past : Past) (s : Spot) (r : ℕ) : Type 0 where
  pub point : Point
  pub there : Contains (submitted past) point
  pub is_at : IsAt s point
  pub reported : at_of point ≡ at.Command s.entry s.batch s.place
  pub naming : IsTrue (names r point.action)
