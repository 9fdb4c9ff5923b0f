-- Submitted commands that use a resource, and which of them aren't known complete.
use Rattle.std.specs.Prelude.{◌≡◌, ◌<◌, ℕ, List, true, Some, IsTrue, length, slice_get}
use Rattle.vk_model.specs.declared.command.Cmd.{Cmd}
use Rattle.vk_model.specs.declared.entry.Batch.{Batch}
use Rattle.vk_model.specs.declared.entry.Entry.{Entry}
use Rattle.vk_model.specs.declared.entry.Entry.TheVariants as entry
use Rattle.vk_model.specs.Trace.Point.{Past, Point, Host, Run}
use Rattle.vk_model.specs.Sync.Complete.{names}
use Rattle.vk_findings.specs.declared.named.Spot.{Spot}
use Rattle.vk_findings.specs.declared.timeline.Timeline.{Timeline}
use Rattle.vk_findings.specs.declared.users.User.{User}
use Rattle.vk_findings.specs.Inner.Uses.{IsComplete, IsIncomplete, IsTimeline}

-- A command isn't known complete for a resource at a host entry that comes next.
abbrev pub IsOpenUse : Timeline → ℕ → User → Type 0
IsOpenUse t r u = (past : Past) (p : Point) (x : Entry) → p.action ≡ Host x → IsTimeline t past p → IsIncomplete past p u.spot r u.is_started

-- A command that is there is known complete for it.
abbrev pub IsDone : Timeline → ℕ → Spot → Type 0
IsDone t r s = (past : Past) (p : Point) (x : Entry) → p.action ≡ Host x → IsTimeline t past p → IsComplete past p s r

-- So are those of the first commands of a batch that name the resource.
abbrev pub AreCommandsDone : Timeline → ℕ → ℕ → ℕ → List Cmd → ℕ → Type 0
AreCommandsDone t r e j cs count = (k : ℕ) → k < count → (c : Cmd) → slice_get cs k ≡ Some c → names r (Run c) ≡ true → IsDone t r (record { entry = e; batch = j; place = k })

-- So are those of the first batches of a submit.
abbrev pub AreBatchesDone : Timeline → ℕ → ℕ → List Batch → ℕ → Type 0
AreBatchesDone t r e bs count = (j : ℕ) → j < count → (b : Batch) → slice_get bs j ≡ Some b → AreCommandsDone t r e j b.commands (length b.commands)

-- So are those that a point submits.
abbrev pub IsPointDone : Timeline → ℕ → Point → Type 0
IsPointDone t r w = (q : ℕ) (bs : List Batch) → w.action ≡ Host (entry.Submit q bs) → AreBatchesDone t r w.entry bs (length bs)

-- A command of a batch names a resource.
pub record IsNamingIn (e j : ℕ) (cs : List Cmd) (r : ℕ) (u : User) : Type 0 where
  pub entry : u.spot.entry ≡ e
  pub batch : u.spot.batch ≡ j
  pub command : Cmd
  pub listed : slice_get cs u.spot.place ≡ Some command
  pub naming : IsTrue (names r (Run command))
