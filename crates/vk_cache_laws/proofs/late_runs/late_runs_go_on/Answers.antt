use Rattle.std.proofs.Common.{◌≡◌, List, [], ◌∷◌, ◌++◌, Option, Some, None, refl, ap, sym, ◌∙◌, subst}
use Rattle.vk_model.specs.declared.command.Cmd.{Cmd}
use Rattle.vk_model.specs.declared.entry.Entry.{Entry}
use Rattle.vk_model.specs.Rules.Table.{first_fault}
use Rattle.vk_model.specs.World.Bytes.{Byte}
use Rattle.vk_model.specs.World.ByteWrites.{ByteWrite}
use Rattle.vk_model.specs.Sync.Node.{Node, Runs}
use Rattle.vk_model.specs.Run.Caches.{queue_agent}
use Rattle.vk_model.specs.Run.Runs.{Name, Stage, start, Apply, RunPiece, Applies, Next, applied}
use Rattle.vk_model.specs.Run.CachedRuns.{Cells, numbered, named_piece, write_to, happening, after_next, after_piece, after_host, after_atoms, after_step, after_nodes, Does}
use Rattle.vk_model.proofs.Lists.Truths.{clash}
use Rattle.vk_laws.specs.CacheRuns.{CachedRun}
use Rattle.vk_laws.specs.DirectRuns.{HostMemory, is_made, bare_memory, memory_after_piece, memory_after_entry}
use Rattle.vk_laws.proofs.GoingOn.{further, one_step}
use Rattle.vk_laws.proofs.Running.StageTasks.{Known, known_of}
use Rattle.vk_cache_laws.specs.InPlace.{no_lag, lag_after_piece, lag_after_entry, lag_after_touch}
use Rattle.vk_cache_laws.specs.LateRuns.{LateByte, Late, behind_of, lag_of, late_after_write, late_after_piece, late_after_entry, late_after_touch, IsWriter}
use Rattle.vk_cache_laws.proofs.BareBytes.{told_same}
use Rattle.vk_cache_laws.proofs.LagRuns.{made_less}
use Rattle.vk_cache_laws.proofs.LateKept.{to_queues, from_queues, from_none, piece_lag, piece_queues, piece_none, nodes_none, entry_lag, entry_less, entry_none, touch_lag, touch_less}
use Rattle.vk_cache_laws.proofs.LateSteps.{nodes_less, nodes_late}
use Rattle.vk_cache_laws.proofs.Writers.{Here, here_of, here_after, last_stays, last_after, entry_done, piece_command}
use Rattle.vk_cache_laws.proofs.late_runs.late_runs_go_on.Goals as goal

-- the writers as a piece runs
piece_writers : (s : Stage) (m : HostMemory) (late : Late) (x : Name) (n : Node) (command : Cmd) → n.act ≡ Runs command → numbered s.front.past x.0 ≡ Some n
    → ((b : Byte) (l : LateByte) → late b ≡ Some l → IsWriter s.front.past s.done b l)
    → (b : Byte) (l : LateByte) → late_after_piece n (named_piece s.front.past x) m late b ≡ Some l → IsWriter s.front.past (x ∷ s.done) b l
piece_writers s m late x n command act at writers b l is = go (write_to b (named_piece s.front.past x)) refl is
  where
    go : (o : Option ByteWrite) → write_to b (named_piece s.front.past x) ≡ o → late_after_write n (m.region b) o (late b) ≡ Some l → IsWriter s.front.past (x ∷ s.done) b l
    go None e f = let w = writers b l f in record { node = w.node; command = w.command; last = last_after s.front.past s.done x b None e ∙ w.last; act = w.act; number = w.number; queue = w.queue }
    go (Some k) e f =
        let mine : LateByte = record { queue = n.point.queue; node = n.number; value = m.region b } in
        let it : mine ≡ l = cc in record {
          node = n;
          command = command;
          last = last_after s.front.past s.done x b (Some k) e ∙ at;
          act = act;
          number = ap (λ (z : LateByte). z.node) it;
          queue = ap (λ (z : LateByte). z.queue) it;
        }

pub returns-clause-begins : goal.returns-clause-begins
returns-clause-begins c = λ t first. record {
  run = c.in_place_runs_go_on.ensures.same t [] (start t) (bare_memory first) (bare_memory first) no_lag (lag_of (λ b. None)) (c.in_place_runs_go_on.ensures.begins t first) (λ b. (refl, refl)) (λ b. refl);
  writers = λ b l no. absurd cc;
}

pub returns-clause-pieces : goal.returns-clause-pieces
unfolding first_fault
returns-clause-pieces c = λ t steps s m late x n none r may at lt.
    let e : Stage = record s { done = x ∷ s.done } in
    let ms : List ByteWrite = named_piece s.front.past x in
    let behind : Late = late_after_piece n ms m late in
    let after : Cells = after_piece (queue_agent n.point.queue) ms r.run.cells in
    let known : Known t = known_of c.before_is_path.ensures c.before_is_order.ensures.transitive c.before_is_order.ensures.forward c.growth_keeps.ensures c.no_fault_is_sound.ensures t none in
    let its = piece_command known s (here_of known steps s r.run.cells r.run.cached) x may n at in
    let writers : (b : Byte) (l : LateByte) → behind b ≡ Some l → IsWriter s.front.past (x ∷ s.done) b l = piece_writers s m late x n its.0 its.1 at r.writers in record {
      run = record {
        direct = (c.in_place_runs_go_on.ensures.pieces t steps s m (lag_of late) x n none r.run may at lt).direct;
        cells = after_nodes s e after;
        cached = subst (λ (o : Option Node). CachedRun t (steps ++ RunPiece x ∷ []) e (after_nodes s e (after_piece (elim o [ None ↦ 0 | Some k ↦ queue_agent k.point.queue ]) ms r.run.cells))) at
            (further r.run.cached (Does (RunPiece x) [] ∷ []) e (after_nodes s e (after_step s (RunPiece x) [] r.run.cells)) (one_step r.run.cached (RunPiece x) [] e (may, refl)));
        told = nodes_late s e (memory_after_piece ms m) behind after writers
            (told_same (memory_after_piece ms m) (memory_after_piece ms m) (lag_after_piece n.point.queue ms m (lag_of late)) (lag_of behind) after (λ b. (refl, refl)) (piece_lag n ms m late)
            (c.pieces_run_in_place.ensures.run t steps s m (lag_of late) r.run.cells x n none r.run.cached r.run.told may at));
        queues = to_queues _ (λ b l is. piece_queues n ms m late lt (from_queues late r.run.queues) b l (nodes_less s.front.past (happening s e) behind b l is));
        new = λ b no. ap behind_of (nodes_none s.front.past (happening s e) behind b (piece_none n ms m late b
            (λ w is. clash {b = is_made s.front.past b} (c.pieces_stay_inside.ensures t steps s x b w (c.cached_runs_mean_the_trace.ensures.runs t steps s r.run.cells r.run.cached) none may is).0 no) (from_none (late b) (r.run.new b no))));
      };
      writers = λ b l is. writers b l (nodes_less s.front.past (happening s e) behind b l is);
    }

pub returns-clause-entries : goal.returns-clause-entries
unfolding first_fault
returns-clause-entries c = λ t steps s m late x xs atoms parts moved none r left may are.
    let e : Stage = applied s parts x xs in
    let behind : Late = late_after_entry moved x late in
    let after : Cells = λ b. after_host s.front.past moved x b (after_atoms x atoms r.run.cells b) in
    let next : Next s (Apply atoms parts) e = subst (λ (l : List Entry). Applies s atoms parts l e) (sym left) (may, are, refl) in
    let known : Known t = known_of c.before_is_path.ensures c.before_is_order.ensures.transitive c.before_is_order.ensures.forward c.growth_keeps.ensures c.no_fault_is_sound.ensures t none in
    let here : Here known s = here_of known steps s r.run.cells r.run.cached in
    let writers : (b : Byte) (l : LateByte) → behind b ≡ Some l → IsWriter e.front.past e.done b l =
    λ b l is. (let w = r.writers b l (entry_less moved x late b l is) in record { node = w.node; command = w.command; last = last_stays known s e here (here_after known (Apply atoms parts) s e here next) (entry_done s parts x xs) b ∙ w.last; act = w.act; number = w.number; queue = w.queue }) in record {
      run = record {
        direct = (c.in_place_runs_go_on.ensures.entries t steps s m (lag_of late) x xs atoms parts moved none r.run left may are).direct;
        cells = after_nodes s e after;
        cached = subst (λ (l : List Entry). CachedRun t (steps ++ Apply atoms parts ∷ []) e (after_nodes s e (after_next s atoms moved l r.run.cells))) left
            (further r.run.cached (Does (Apply atoms parts) moved ∷ []) e (after_nodes s e (after_step s (Apply atoms parts) moved r.run.cells)) (one_step r.run.cached (Apply atoms parts) moved e next));
        told = nodes_late s e (memory_after_entry s.front.past atoms moved x m) behind after writers
            (told_same (memory_after_entry s.front.past atoms moved x m) (memory_after_entry s.front.past atoms moved x m) (lag_after_entry moved x (lag_of late)) (lag_of behind) after (λ b. (refl, refl)) (entry_lag moved x late)
            (c.entries_come_in_place.ensures t steps s m (lag_of late) r.run.cells x xs atoms moved none r.run.cached r.run.told r.run.queues left may));
        queues = to_queues _ (λ b l is. from_queues late r.run.queues b l (entry_less moved x late b l (nodes_less e.front.past (happening s e) behind b l is)));
        new = λ b no. ap behind_of (nodes_none e.front.past (happening s e) behind b (entry_none moved x late b (from_none (late b) (r.run.new b (made_less s parts x xs b no)))));
      };
      writers = λ b l is. writers b l (nodes_less e.front.past (happening s e) behind b l is);
    }

pub returns-clause-touches : goal.returns-clause-touches
returns-clause-touches c = λ t steps s m late touch queue test r. record {
  run = c.in_place_runs_go_on.ensures.same t steps s m m (lag_after_touch touch queue test (lag_of late)) (lag_of (late_after_touch touch queue test late)) (c.in_place_runs_go_on.ensures.touches t steps s m (lag_of late) touch queue test r.run) (λ b. (refl, refl)) (touch_lag touch queue test late);
  writers = λ b l is. r.writers b l (touch_less touch queue test late b l is);
}

pub returns-clause-parts : goal.returns-clause-parts
returns-clause-parts c = λ t steps s m late k none r among. record { run = c.in_place_runs_go_on.ensures.parts t steps s m (lag_of late) k none r.run among; writers = r.writers }

pub returns-clause-longer : goal.returns-clause-longer
returns-clause-longer c = λ t more steps s m late r. record { run = c.in_place_runs_go_on.ensures.longer t more steps s m (lag_of late) r.run; writers = r.writers }

pub returns-clause-new : goal.returns-clause-new
returns-clause-new c = λ t steps s m n late none r same bare. record { run = c.in_place_runs_go_on.ensures.new t steps s m n (lag_of late) none r.run same bare; writers = r.writers }

pub returns-clause-same : goal.returns-clause-same
returns-clause-same c = λ t steps s m n late other r same lates. record {
  run = c.in_place_runs_go_on.ensures.same t steps s m n (lag_of late) (lag_of other) r.run same (λ b. ap behind_of (lates b));
  writers = λ b l is. r.writers b l (lates b ∙ is);
}
