-- Defragmentations and passes that are open, each with the point that began it.
use Rattle.std.specs.Prelude.{◌≡◌, ◌==◌, ℕ, Bool, Option, Some, IsTrue}
use Rattle.std.specs.List.{find}
use Rattle.vk_model.specs.declared.entry.Entry.{Entry}
use Rattle.vk_model.specs.Basics.{holds}
use Rattle.vk_model.specs.Trace.Point.{Past, on_host}
use Rattle.vk_model.specs.Trace.Objects.{made_by, pool_of}
use Rattle.vk_model.specs.Rules.Passes.{begins, in_pass, pool_of_defrag}
use Rattle.vk_model.specs.Trace.PointViews.{point_of}
use Rattle.vk_findings.specs.declared.defrags.OpenDefrag.{OpenDefrag}
use Rattle.vk_findings.specs.declared.passes.OpenPass.{OpenPass}
use Rattle.vk_findings.specs.declared.passes.MovingResource.{MovingResource}

-- Whether an entry is of a form with this id.
abbrev pub of_defrag : (Entry → Option ℕ) → ℕ → Entry → Bool
of_defrag form d x = holds (form x) (λ e. e == d)

-- Whether an entry makes an id.
abbrev pub makes : ℕ → Entry → Bool
makes = of_defrag made_by

-- Whether an entry begins a pass of a defragmentation (VMA, "Defragmentation").
abbrev pub begins_pass : ℕ → Entry → Bool
begins_pass = of_defrag begins

-- A defragmentation that hasn't ended, its pool, and the newest point that made it (VMA, "Defragmentation").
pub record IsOpenDefrag (past : Past) (o : OpenDefrag) : Type 0 where
  pub pool : pool_of_defrag past o.defrag ≡ Some o.pool
  pub begun : find (on_host (makes o.defrag)) past ≡ Some (point_of o.begun)

-- A defragmentation of which a pass is open, and the newest point that began one of it (VMA, "Defragmentation").
pub record IsOpenPass (past : Past) (o : OpenPass) : Type 0 where
  pub open_now : IsTrue (in_pass past o.defrag)
  pub begun : find (on_host (begins_pass o.defrag)) past ≡ Some (point_of o.begun)

-- A resource, its pool, and a pass of that pool that is open (VMA, "Defragmentation").
pub record IsMoving (past : Past) (m : MovingResource) : Type 0 where
  pub pool : pool_of past m.resource ≡ Some m.pool
  pub defrag : pool_of_defrag past m.pass.defrag ≡ Some m.pool
  pub pass : IsOpenPass past m.pass
