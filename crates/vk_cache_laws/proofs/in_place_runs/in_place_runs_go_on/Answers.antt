use Rattle.std.proofs.Common.{List, [], ◌∷◌, ◌++◌, Option, Some, None, refl, sym, ◌∙◌, subst}
use Rattle.vk_model.specs.declared.entry.Entry.{Entry}
use Rattle.vk_model.specs.World.ByteWrites.{ByteWrite}
use Rattle.vk_model.specs.Sync.Node.{Node}
use Rattle.vk_model.specs.Run.Caches.{queue_agent}
use Rattle.vk_model.specs.Run.Runs.{Stage, Apply, RunPiece, CopyPart, Applies, Next, applied}
use Rattle.vk_model.specs.Run.CachedRuns.{Cells, named_piece, after_next, after_piece, after_host, after_atoms, touched}
use Rattle.vk_model.proofs.Lists.Truths.{clash}
use Rattle.vk_laws.specs.CacheRuns.{CachedRun, bare_cells}
use Rattle.vk_laws.specs.DirectRuns.{is_made, memory_after_piece, memory_after_entry}
use Rattle.vk_laws.specs.WriteBacks.{after_nodes_by_starts}
use Rattle.vk_cache_laws.specs.InPlace.{Lag, lag_after_piece, lag_after_entry}
use Rattle.vk_cache_laws.proofs.LagRuns.{after_nodes_none, after_nodes_queues, after_piece_queues, after_piece_none, after_entry_queues, after_entry_none, after_touch_queues, after_touch_none, made_less}
use Rattle.vk_cache_laws.proofs.BareBytes.{bare_told, made_cells, made_same, bare_held, made_told, told_same}
use Rattle.vk_cache_laws.proofs.in_place_runs.in_place_runs_go_on.Goals as goal
use Rattle.std.specs.Prelude.{if◌then◌else◌}

pub returns-clause-begins : goal.returns-clause-begins
returns-clause-begins c = λ t first. record {
  direct = c.direct_runs_go_on.ensures.begins t first;
  cells = bare_cells first;
  cached = c.cached_runs_go_on.ensures.begins t first;
  told = λ b. bare_told (first b);
  queues = λ b d no. absurd cc;
  new = λ b no. refl;
}

pub returns-clause-pieces : goal.returns-clause-pieces
returns-clause-pieces c = λ t steps s m lag x n none r may at lt.
    let e : Stage = record s { done = x ∷ s.done } in
    let ms : List ByteWrite = named_piece s.front.past x in
    let behind : Lag = lag_after_piece n.point.queue ms m lag in
    let after : Cells = after_piece (queue_agent n.point.queue) ms r.cells in record {
      direct = c.direct_runs_go_on.ensures.pieces t steps s m x r.direct may;
      cells = after_nodes_by_starts s e after;
      cached = subst (λ (o : Option Node). CachedRun t (steps ++ RunPiece x ∷ []) e (after_nodes_by_starts s e (after_piece (elim o [ None ↦ 0 | Some k ↦ queue_agent k.point.queue ]) ms r.cells))) at
          (c.cached_runs_go_on.ensures.steps t steps s e r.cells (RunPiece x) [] none r.cached (may, refl));
      told = c.caches_work_in_place.ensures.nodes s e (memory_after_piece ms m) behind after (c.pieces_run_in_place.ensures.run t steps s m lag r.cells x n none r.cached r.told may at);
      queues = after_nodes_queues s e behind (after_piece_queues n.point.queue ms m lag lt r.queues);
      new = λ b no. after_nodes_none s e behind b (after_piece_none n.point.queue ms m lag b
          (λ w is. clash {b = is_made s.front.past b} (c.pieces_stay_inside.ensures t steps s x b w (c.cached_runs_mean_the_trace.ensures.runs t steps s r.cells r.cached) none may is).0 no) (r.new b no));
    }

pub returns-clause-entries : goal.returns-clause-entries
returns-clause-entries c = λ t steps s m lag x xs atoms parts moved none r left may are.
    let e : Stage = applied s parts x xs in
    let behind : Lag = lag_after_entry moved x lag in
    let after : Cells = λ b. after_host s.front.past moved x b (after_atoms x atoms r.cells b) in
    let next : Next s (Apply atoms parts) e = subst (λ (l : List Entry). Applies s atoms parts l e) (sym left) (may, are, refl) in record {
      direct = c.direct_runs_go_on.ensures.entries t steps s m x xs atoms parts moved r.direct left may are;
      cells = after_nodes_by_starts s e after;
      cached = subst (λ (l : List Entry). CachedRun t (steps ++ Apply atoms parts ∷ []) e (after_nodes_by_starts s e (after_next s atoms moved l r.cells))) left
          (c.cached_runs_go_on.ensures.steps t steps s e r.cells (Apply atoms parts) moved none r.cached next);
      told = c.caches_work_in_place.ensures.nodes s e (memory_after_entry s.front.past atoms moved x m) behind after (c.entries_come_in_place.ensures t steps s m lag r.cells x xs atoms moved none r.cached r.told r.queues left may);
      queues = after_nodes_queues s e behind (after_entry_queues moved x lag r.queues);
      new = λ b no. after_nodes_none s e behind b (after_entry_none moved x lag b (r.new b (made_less s parts x xs b no)));
    }

pub returns-clause-parts : goal.returns-clause-parts
returns-clause-parts c = λ t steps s m lag k none r among.
    let e : Stage = record s { copied = k ∷ s.copied } in record {
      direct = c.direct_runs_go_on.ensures.parts t steps s m k r.direct among;
      cells = r.cells;
      cached = subst (λ (cs : Cells). CachedRun t (steps ++ CopyPart k ∷ []) e cs) (c.cached_runs_go_on.ensures.alone s e r.cells refl refl)
          (c.cached_runs_go_on.ensures.steps t steps s e r.cells (CopyPart k) [] none r.cached (among, refl));
      told = r.told;
      queues = r.queues;
      new = r.new;
    }

pub returns-clause-touches : goal.returns-clause-touches
returns-clause-touches c = λ t steps s m lag touch queue test r. record {
  direct = r.direct;
  cells = λ b. if test b then touched touch (queue_agent queue) (r.cells b) else r.cells b;
  cached = c.cached_runs_go_on.ensures.touches t steps s r.cells touch queue test r.cached;
  told = c.caches_work_in_place.ensures.touches m lag r.cells touch queue test r.told;
  queues = after_touch_queues touch queue test lag r.queues;
  new = λ b no. after_touch_none touch queue test lag b (r.new b no);
}

pub returns-clause-longer : goal.returns-clause-longer
returns-clause-longer c = λ t more steps s m lag r. record {
  direct = c.direct_runs_go_on.ensures.longer t more steps s m r.direct;
  cells = r.cells;
  cached = c.cached_runs_go_on.ensures.longer t more steps s r.cells r.cached;
  told = r.told;
  queues = r.queues;
  new = r.new;
}

pub returns-clause-new : goal.returns-clause-new
returns-clause-new c = λ t steps s m n lag none r same bare. record {
  direct = c.new_memory_holds_anything.ensures t steps s m n none r.direct same bare;
  cells = made_cells s.front.past n r.cells;
  cached = c.new_cells_hold_anything.ensures t steps s r.cells (made_cells s.front.past n r.cells) none r.cached (made_same s.front.past n r.cells) (bare_held s.front.past n r.cells);
  told = made_told s.front.past n r.cells m lag r.told r.new same bare;
  queues = r.queues;
  new = r.new;
}

pub returns-clause-same : goal.returns-clause-same
returns-clause-same c = λ t steps s m n lag other r same lags. record {
  direct = c.direct_runs_go_on.ensures.same t steps s m n r.direct (λ b. (same b).0) (λ b. (same b).1);
  cells = r.cells;
  cached = r.cached;
  told = told_same m n lag other r.cells same lags r.told;
  queues = λ b d is. r.queues b d (lags b ∙ is);
  new = λ b no. sym (lags b) ∙ r.new b no;
}
