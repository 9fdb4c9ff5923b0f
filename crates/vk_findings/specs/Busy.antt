-- PASS_BUSY: a resource of a pool that a submitted command uses, which isn't known complete.
use Rattle.std.specs.Prelude.{◌≡◌, ◌∷◌, ℕ, Bool, false, Some, IsTrue, Contains, is_some, length, nat_lt, option_and_then}
use Rattle.vk_model.specs.Trace.Point.{Past, Point, at_of, host_of}
use Rattle.vk_model.specs.Trace.Objects.{live, pool_of, resource_in}
use Rattle.vk_model.specs.Sync.Node.{Node, nodes, next_nodes}
use Rattle.vk_model.specs.Sync.Complete.{submitted, names, nodes_for, is_complete}
use Rattle.vk_model.specs.Rules.Passes.{pass_of, pool_of_defrag}
use Rattle.vk_findings.specs.declared.busy.BusyResource.{BusyResource}

-- A submitted command names a resource, and isn't known complete at a point that comes next; it was started, or its batch waits (VMA, "Defragmentation"; how that is known: profile).
pub record IsUser (past : Past) (p user : Point) (r : ℕ) (started : Bool) : Type 0 where
  pub submits : Contains (submitted past) user
  pub naming : IsTrue (names r user.action)
  pub incomplete : (n : Node) → Contains (next_nodes past p) n → is_complete (nodes (p ∷ past)) n user r ≡ false
  pub has_started : started ≡ nat_lt 0 (length (nodes_for (nodes (p ∷ past)) user r))

-- What is reported of a point that begins or ends a pass: a live resource of the pool, and a command that uses it.
pub record IsBusyResource (past : Past) (p : Point) (b : BusyResource) : Type 0 where
  pub pass : option_and_then pass_of (host_of p.action) ≡ Some b.defrag
  pub pool : pool_of_defrag past b.defrag ≡ Some b.pool
  pub lies : pool_of past b.resource ≡ Some b.pool
  pub lives : IsTrue (is_some (option_and_then resource_in (live past b.resource)))
  pub user : Point
  pub reported : at_of user ≡ b.command
  pub uses : IsUser past p user b.resource b.is_started
