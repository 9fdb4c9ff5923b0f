use Rattle.std.proofs.Common.{◌≡◌, ℕ, List, ◌∷◌, [], ◌+◌, ◌<◌, ◌++◌, Some, None, refl, ap, ◌∙◌, map}
use Rattle.vk_model.specs.Basics.{below}
use Rattle.vk_model.specs.World.Meaning.{read_in}
use Rattle.vk_model.specs.declared.entry.Entry.{Entry}
use Rattle.vk_model.specs.declared.entry.Entry.TheVariants as entry
use Rattle.vk_model.specs.World.Bytes.{in_buffer}
use Rattle.vk_model.specs.World.Effect.{world}
use Rattle.vk_model.specs.Trace.Order.{order}
use Rattle.vk_model.specs.Rules.Table.{first_fault}
use Rattle.vk_model.specs.Run.Runs.{Step, Stage}
use Rattle.vk_model.specs.Run.CachedRuns.{named_piece, cached_start}
use Rattle.vk_laws.specs.Machine.{Task, latest}
use Rattle.vk_laws.specs.Discards.{with_discards}
use Rattle.vk_laws.specs.DefinedRuns.{piece_task}
use Rattle.vk_laws.specs.CachedRuns.{tasks_through}
use Rattle.vk_laws.specs.DirectRuns.{HostMemory, DirectRun, host_view, memory_after_atoms, memory_after_piece}
use Rattle.vk_laws.proofs.Running.StageTasks.{Known, known_of}
use Rattle.vk_laws.proofs.Running.OfferedPieces.{is_piece}
use Rattle.vk_laws.proofs.DirectRuns.RunsOn.{atoms_stay, direct, joined, piece_steps, piece_run}
use Rattle.vk_laws.proofs.DirectRuns.Values.{bytes_are, reads_next, value_now, written_last, seen_in_memory, left_in_memory}
use Rattle.vk_laws.proofs.direct_runs.direct_runs_are_fresh.Goals as goal

pub returns : goal.returns
unfolding first_fault
returns c =
    let known : (t : List Entry) → first_fault t ≡ None → Known t = known_of c.before_is_path.ensures c.before_is_order.ensures.transitive c.before_is_order.ensures.forward c.growth_keeps.ensures c.no_fault_is_sound.ensures in
    let fresh : (t : List Entry) (steps : List Step) (s : Stage) (m : HostMemory) (b o n : ℕ) (xs : List Entry) (atoms : List ℕ) (k : ℕ) → first_fault t ≡ None → DirectRun t steps s m
    → s.left ≡ entry.Read b o n ∷ xs → k < n → (world s.front.past).value (in_buffer b (o + k)) ≡ Some (host_view (memory_after_atoms (entry.Read b o n) atoms m) (in_buffer b (o + k))) =
    λ t steps s m b o n xs atoms k none r left lt.
    let run = c.direct_runs_are_runs.ensures t steps s m r in
    value_now (known t none) steps s run (in_buffer b (o + k)) _
    (c.cached_runs_are_fresh.ensures.host_reads t r.first r.cached_steps (direct s m) (entry.Read b o n) xs atoms (in_buffer b (o + k)) r.run none left refl (reads_next (known t none) steps s run b o n xs left k lt)) in
    let reads : (t : List Entry) (steps : List Step) (s : Stage) (m : HostMemory) (b o n : ℕ) (xs : List Entry) (atoms : List ℕ) → first_fault t ≡ None → DirectRun t steps s m → s.left ≡ entry.Read b o n ∷ xs
    → read_in (world s.front.past) s.count (entry.Read b o n) ≡ (s.count, map (λ k. host_view (memory_after_atoms (entry.Read b o n) atoms m) (in_buffer b (o + k))) (below n)) ∷ [] =
    λ t steps s m b o n xs atoms none r left.
    ap (λ (bytes : List ℕ). (s.count, bytes) ∷ []) (bytes_are s.front.past b o n (host_view (memory_after_atoms (entry.Read b o n) atoms m)) (λ k lt. fresh t steps s m b o n xs atoms k none r left lt)) in record {
      fresh = fresh;
      reads = reads;
      reads_memory = λ t steps s m b o n xs none r left.
          reads t steps s m b o n xs [] none r left ∙ ap (λ (n' : HostMemory). (s.count, map (λ k. host_view n' (in_buffer b (o + k))) (below n)) ∷ []) (atoms_stay (entry.Read b o n) m);
      written = λ t steps s m x b w v none r h writes is.
          let run = c.direct_runs_are_runs.ensures t steps s m r in
          let p = is_piece s.front.past s.done x h in
          let e : Stage = record s { done = x ∷ s.done } in
          let after : HostMemory = memory_after_piece (named_piece s.front.past x) m in
          let whole = joined r.cached_steps (piece_steps x p.node.point.queue) (cached_start t r.first) (direct s m) (direct e after) r.run (piece_run s m x h p.node p.present) [] in
          seen_in_memory (known t none) steps s run x h b after v
          (c.cached_runs_are_fresh.ensures.written t r.first (r.cached_steps ++ piece_steps x p.node.point.queue) (direct e after) whole.run (piece_task x) b v none
          (ap (λ (done : List Task). latest (with_discards (order t)) b done) whole.tasks ∙ written_last (known t none) steps s run x h b w writes (tasks_through t r.first r.cached_steps (direct s m) r.run)) is);
      meaning = λ t steps s m b v none r over is. left_in_memory m b v (c.cached_runs_end.ensures t r.first r.cached_steps (direct s m) b v r.run none over is);
    }
