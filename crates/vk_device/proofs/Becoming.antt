-- What steps make of the bytes of resources, one after another.
use Rattle.std.proofs.Common.{◌≡◌, ℕ, List, [], ◌∷◌, ◌++◌, refl, ap, sym, ◌∙◌, subst}
use Rattle.vk_model.specs.declared.entry.Entry.{Entry}
use Rattle.vk_model.specs.declared.entry.Entry.TheVariants as entry
use Rattle.vk_model.specs.Run.Runs.{Step, Apply, RunPiece, CopyPart}
use Rattle.vk_model.specs.Run.CachedRuns.{named_piece}
use Rattle.vk_model.specs.Trace.Point.{Past}
use Rattle.vk_laws.specs.DirectRuns.{HostMemory, cells_of, memory_after_piece, memory_after_entry}
use Rattle.vk_backing.specs.Passing.{Passing}
use Rattle.vk_resources.specs.Held.{Held, HasCell, IsThere}
use Rattle.vk_resources.specs.PassSteps.{KeepsCells}
use Rattle.vk_device.specs.Becomes.{Becomes, memory_after}
use Rattle.vk_device.specs.Passes.{moved_by}
use Rattle.vk_device.proofs.KeptPasses.{host_same, was_there}

pub becomes_same : (s : Held) → Becomes s s (λ m. m)
becomes_same s m has c was is = has c was

pub cells_become : (old new : Held) → KeepsCells old new → Becomes old new (λ m. m)
cells_become old new keeps m has c was is = let h = has c was in record { held = h.held ∙ sym (host_same old new keeps.resources keeps.cache c); region = h.region ∙ sym (keeps.bytes c) }

-- where resources lie where they did after the first
pub becomes_then : (old mid new : Held) (first second : HostMemory → HostMemory) → mid.resources ≡ old.resources → mid.shapes ≡ old.shapes → Becomes old mid first → Becomes mid new second → Becomes old new (λ m. second (first m))
becomes_then old mid new first second resources shapes a b m has c was is =
    b (first m) (λ e there. a m has e (was_there old mid resources shapes e there) there) c (was_there mid old (sym resources) (sym shapes) c was) is

module _ (past : Past) (moved : List ℕ) (x : Entry) where
  pub memory_more : (steps more : List Step) (m : HostMemory) → memory_after past moved x (steps ++ more) m ≡ memory_after past moved x more (memory_after past moved x steps m)
  memory_more [] more m = refl
  memory_more (RunPiece n ∷ steps) more m = memory_more steps more (memory_after_piece (named_piece past n) m)
  memory_more (CopyPart k ∷ steps) more m = memory_more steps more m
  memory_more (Apply atoms parts ∷ steps) more m = memory_more steps more (memory_after_entry past atoms moved x m)

  -- some steps, and more after them
  pub steps_become : (old mid new : Held) (steps more : List Step) → mid.resources ≡ old.resources → mid.shapes ≡ old.shapes → Becomes old mid (memory_after past moved x steps) → Becomes mid new (memory_after past moved x more) → Becomes old new (memory_after past moved x (steps ++ more))
  steps_become old mid new steps more resources shapes a b m has c was is =
      subst (λ (h : HostMemory). HasCell new c (cells_of h c)) (sym (memory_more steps more m))
      (becomes_then old mid new (memory_after past moved x steps) (memory_after past moved x more) resources shapes a b m has c was is)

-- what an entry moves is known by what moves before and after
pub moved_same : (p p' q q' : Passing) (x : Entry) → p.moving ≡ p'.moving → q.moving ≡ q'.moving → moved_by p x q ≡ moved_by p' x q'
moved_same p p' q q' (entry.Pass d) before after = after
moved_same p p' q q' (entry.EndPass d kept lost) before after = before
moved_same p p' q q' _ before after = refl
