-- The next entry of a run comes after the past of its stage.
use Rattle.std.proofs.Common.{◌≡◌, List, ◌∷◌, sym, subst, arith}
use Rattle.vk_model.specs.declared.entry.Entry.{Entry}
use Rattle.vk_model.specs.Trace.Point.{Past}
use Rattle.vk_model.specs.Trace.Order.{host, order}
use Rattle.vk_model.specs.Rules.Fault.{Comes}
use Rattle.vk_model.specs.Laws.{GrowthKeeps}
use Rattle.vk_model.specs.Run.Runs.{Step, Stage, entered, past_with}
use Rattle.vk_model.proofs.Trace.Growing.{Grows, Quiet, entry_grows}
use Rattle.vk_laws.specs.DefinedRuns.{RunOf, FollowsTrace}
use Rattle.vk_laws.proofs.Nodes.Steady.{comes_here, comes_within}
use Rattle.vk_laws.proofs.Running.Stages.{From, Placed, later, next_placed}
use Rattle.vk_laws.proofs.Running.Following.{run_follows}

pub next_comes : GrowthKeeps → (t : List Entry) (steps : List Step) (s : Stage) (x : Entry) (xs : List Entry) → RunOf t steps s → s.left ≡ x ∷ xs → Comes (order t) s.front.past (host s.count x)
next_comes keeps t steps s x xs run left = comes_within (order t) on.newer (past_with s x) on.whole s.front.past (host s.count x)
    (subst (λ (l : Past). Comes l s.front.past (host s.count x)) (sym batches.whole) (comes_here batches.newer s.front.past (host s.count x)))
  where
    follows_trace : FollowsTrace t s
    follows_trace = run_follows keeps t steps s run

    placed : Placed keeps t s
    placed = record { gone = follows_trace.gone; split = follows_trace.whole; count = (let same = follows_trace.counted in omega (arith, same)); front = follows_trace.front }

    on : Grows (From (entered s x xs).count) (past_with s x) (order t)
    on = later keeps t (entered s x xs) (next_placed keeps t s placed x xs left)

    batches : Grows Quiet (host s.count x ∷ s.front.past) (past_with s x)
    batches = entry_grows s.count x s.front
