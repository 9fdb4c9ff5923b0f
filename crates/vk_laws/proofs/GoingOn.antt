-- Runs through caches begin and go on.
use Rattle.std.proofs.Common.{◌≡◌, ℕ, List, [], ◌∷◌, ◌++◌, Bool, true, false, ◌&&◌, not, IsTrue, None, refl, ap, sym, ◌∙◌, subst, reverse}
use Rattle.std.specs.Prelude.{if◌then◌else◌}
use Rattle.std.specs.List.{filter, fold}
use Rattle.vk_model.specs.declared.entry.Entry.{Entry}
use Rattle.vk_model.specs.World.Bytes.{Byte}
use Rattle.vk_model.specs.Laws.{PiecesAreByteWrites}
use Rattle.vk_model.specs.Trace.Order.{Front}
use Rattle.vk_model.specs.Run.Caches.{queue_agent}
use Rattle.vk_model.specs.Run.Runs.{Name, Step, Stage, start, Next}
use Rattle.vk_model.specs.Run.CachedRuns.{Cells, is_synchronization, node_happened, happening, after_step, after_nodes, Touch, touched, CachedStep, Does, Touches, CachedStage, CachedAllowed, cached_start}
use Rattle.vk_model.specs.Sync.Node.{Node, nodes}
use Rattle.vk_laws.specs.DirectRuns.{is_made}
use Rattle.vk_laws.specs.CachedRuns.{steps_of}
use Rattle.vk_laws.specs.WriteBacks.{after_node_by_starts, after_nodes_by_starts}
use Rattle.vk_laws.specs.CacheRuns.{CachedRun}
use Rattle.vk_laws.proofs.Running.StageTasks.{Known}
use Rattle.vk_laws.proofs.Running.AtStage.{begins}
use Rattle.vk_laws.proofs.DirectRuns.RunsOn.{joined, steps_joined, longer_allowed}
use Rattle.vk_laws.proofs.DirectRuns.NewMemory.{with_new, apart, apart_steps, run_apart, other_start}

-- ---- more steps

abbrev pub at : Stage → Cells → CachedStage
at s cells = record { stage = s; cells = cells }

module _ {t : List Entry} {steps : List Step} {s : Stage} {cells : Cells} (r : CachedRun t steps s cells) where
  pub further : (ys : List CachedStep) (e : Stage) (after : Cells) → CachedAllowed (at s cells) ys (at e after) → CachedRun t (steps ++ steps_of ys) e after
  further ys e after more = record {
    first = r.first;
    cached_steps = r.cached_steps ++ ys;
    run = (joined r.cached_steps ys (cached_start t r.first) (at s cells) (at e after) r.run more []).run;
    same_steps = steps_joined r.cached_steps ys ∙ ap (λ (l : List Step). l ++ steps_of ys) r.same_steps;
  }

  pub one_step : (step : Step) (moved : List ℕ) (e : Stage) → Next s step e → CachedAllowed (at s cells) (Does step moved ∷ []) (at e (after_nodes s e (after_step s step moved cells)))
  one_step step moved e next = (at e (after_nodes s e (after_step s step moved cells)), (next, refl), refl)

  pub one_touch : (touch : Touch) (queue : ℕ) (test : Byte → Bool) → CachedRun t (steps ++ []) s (λ c. if test c then touched touch (queue_agent queue) (cells c) else cells c)
  one_touch touch queue test = further (Touches touch queue test ∷ []) s after (at s after, (refl, refl), refl)
    where
      after : Cells
      after c = if test c then touched touch (queue_agent queue) (cells c) else cells c

  pub longer_run : (more : List Entry) → CachedRun (t ++ more) steps (record s { left = s.left ++ more }) cells
  longer_run more = record { first = r.first; cached_steps = r.cached_steps; run = longer_allowed more r.cached_steps (cached_start t r.first) (at s cells) r.run; same_steps = r.same_steps }

-- ---- where nothing happens

none_left : (f g : Node → Bool) (ns : List Node) → filter (λ n. f n && g n && not (g n)) ns ≡ []
none_left f g [] = refl
none_left f g (n ∷ ns) = go (f n) (g n) (none_left f g ns)
  where
    go : (b d : Bool) → filter (λ n. f n && g n && not (g n)) ns ≡ [] → (if b && d && not d then n ∷ filter (λ n. f n && g n && not (g n)) ns else filter (λ n. f n && g n && not (g n)) ns) ≡ []
    go true true rest = rest
    go true false rest = rest
    go false d rest = rest

pub nothing_happens : (s e : Stage) (cells : Cells) → e.front ≡ s.front → e.done ≡ s.done → after_nodes_by_starts s e cells ≡ cells
nothing_happens s e cells front done = ap (λ (ns : List Node). fold (λ cs n. after_node_by_starts e.front.past e.done n cs) cells ns) empty
  where
    same : (n : Node) → node_happened e n ≡ node_happened s n
    same n = ap (λ (f : Front). node_happened (record e { front = f }) n) front ∙ ap (λ (d : List Name). node_happened (record e { front = s.front; done = d }) n) done

    empty : happening s e ≡ []
    empty =
        sym (ap (λ (test : Node → Bool). filter (λ n. is_synchronization n.act && node_happened e n && not (test n)) (reverse (nodes e.front.past))) (λ i n. same n i))
        ∙ none_left (λ n. is_synchronization n.act) (node_happened e) (reverse (nodes e.front.past))

-- ---- memory where no resource is made

pub new_cells : {t : List Entry} (known : Known t) (together : PiecesAreByteWrites) (steps : List Step) (s : Stage) (cells other : Cells) → CachedRun t steps s cells → ((c : Byte) → IsTrue (is_made s.front.past c) → cells c ≡ other c)
    → ((c : Byte) (a : ℕ) → is_made s.front.past c ≡ false → (other c).held a ≡ None) → CachedRun t steps s other
new_cells {t} known together steps s cells other r same empty = record {
  first = λ c. if new c then values c else r.first c;
  cached_steps = apart new values r.cached_steps;
  run = subst (λ (b : CachedStage). CachedAllowed b (apart new values r.cached_steps) (at s other)) (other_start t new values r.first)
      (subst (λ (cs : Cells). CachedAllowed (at (start t) (with_new new values (cached_start t r.first).cells)) (apart new values r.cached_steps) (at s cs)) end
      (run_apart known together new values r.cached_steps (cached_start t r.first) [] (begins known) (at s cells) r.run (λ c h. ap not h)));
  same_steps = apart_steps new values r.cached_steps ∙ r.same_steps;
}
  where
    new : Byte → Bool
    new c = not (is_made s.front.past c)

    values : Byte → ℕ
    values c = (other c).region

    end : with_new new values cells ≡ other
    end = λ i c. each c (is_made s.front.past c) refl i
      where
        each : (c : Byte) (b : Bool) → is_made s.front.past c ≡ b → (if not b then record { region = values c; held = λ a. None } else cells c) ≡ other c
        each c true e = same c e
        each c false e = λ i. record { region = values c; held = λ a. sym (empty c a e) i }
