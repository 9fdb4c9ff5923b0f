use Rattle.std.proofs.Common.{◌≡◌, ◌⊎◌, inl, inr, ℕ, List, [], Option, IsTrue, Some, None, ap, sym, ◌∙◌, subst}
use Rattle.std.specs.Prelude.{option_map}
use Rattle.vk_model.specs.declared.entry.Entry.{Entry}
use Rattle.vk_model.specs.World.Bytes.{Byte}
use Rattle.vk_model.specs.World.ByteWrites.{ByteWrite, Source}
use Rattle.vk_model.specs.Sync.Node.{Node}
use Rattle.vk_model.specs.Trace.Order.{order}
use Rattle.vk_model.specs.Rules.Table.{first_fault}
use Rattle.vk_model.specs.Run.Caches.{Dirty, queue_agent, view}
use Rattle.vk_model.specs.Run.Runs.{Name, is_done, offered, Step, Stage, start}
use Rattle.vk_model.specs.Run.CachedRuns.{Cells, numbered, named_piece, write_to, cached_start}
use Rattle.vk_laws.specs.Machine.{Task, Puts, Writes, Reads}
use Rattle.vk_laws.specs.Discards.{with_discards}
use Rattle.vk_laws.specs.DefinedRuns.{piece_task, Offers}
use Rattle.vk_laws.specs.CachedRuns.{steps_of}
use Rattle.vk_laws.specs.CacheRuns.{CachedRun}
use Rattle.vk_laws.proofs.Running.StageTasks.{Known, known_of}
use Rattle.vk_laws.proofs.Running.AtStage.{AtPoint, begins, grows}
use Rattle.vk_laws.proofs.Running.StageSteps.{all_steps}
use Rattle.vk_laws.proofs.Running.OfferedPieces.{Offered, offered_of}
use Rattle.vk_laws.proofs.CachedRunning.CachedSteps.{plain_run}
use Rattle.vk_laws.proofs.CachedRunning.CachedPieces.{offered_named, agent_is_queue, its_write}
use Rattle.vk_laws.proofs.CachedRunning.LastWriters.{named_at_past}
use Rattle.vk_laws.proofs.Caching.CleanPieces.{none_dirty, seen_in_memory}
use Rattle.vk_laws.proofs.GoingOn.{at}
use Rattle.vk_laws.proofs.latest_writes.pieces_find_nothing_dirty.Goals as goal

-- a piece that is offered, among the machine's tasks
record Comes {t : List Entry} (known : Known t) (s : Stage) (x : Name) : Type 0 where
  did : List Task
  at_point : AtPoint known s did
  offer : Offered s.front.past s.done x

comes : {t : List Entry} (known : Known t) (steps : List Step) (s : Stage) (cells : Cells) (x : Name) → CachedRun t steps s cells → IsTrue (is_done (offered s.front.past s.done) x) → Comes known s x
comes {t} known steps s cells x r h = record {
  did = _;
  at_point = all_steps known (steps_of r.cached_steps) (start t) [] (begins known) s (plain_run r.cached_steps (cached_start t r.first) (at s cells) r.run);
  offer = offered_of s.front.past s.done x h;
}

writes_it : {t : List Entry} (known : Known t) (s : Stage) (x : Name) (i : Comes known s x) (c : Byte) (w : ByteWrite) → write_to c (named_piece s.front.past x) ≡ Some w → (with_discards (order t)).write_of (piece_task x) c ≡ Some (Puts w.source)
writes_it known s x i c w is = its_write known s i.did i.at_point x i.offer c ∙ ap (λ (o : Option ByteWrite). option_map (λ m. Puts m.source) o) is

queue_is : {t : List Entry} (known : Known t) (s : Stage) (x : Name) (i : Comes known s x) (n : Node) → numbered s.front.past x.0 ≡ Some n → i.offer.node ≡ n
queue_is known s x i n is =
    let one : Some i.offer.node ≡ Some n = sym (named_at_past known _ s.front.past (grows known s i.did i.at_point) x (offered_named known s i.did i.at_point x i.offer)) ∙ is in cc

pub returns : goal.returns
unfolding first_fault
returns c =
    let known : (t : List Entry) → first_fault t ≡ None → Known t = known_of c.before_is_path.ensures c.before_is_order.ensures.transitive c.before_is_order.ensures.forward c.growth_keeps.ensures c.no_fault_is_sound.ensures in
    let reached = λ (t : List Entry) (steps : List Step) (s : Stage) (cells : Cells) (none : first_fault t ≡ None) (r : CachedRun t steps s cells). c.cached_runs_are_reached.ensures.reached t r.first r.cached_steps (at s cells) r.run none in
    let clean : (t : List Entry) (steps : List Step) (s : Stage) (cells : Cells) (x : Name) (none : first_fault t ≡ None) (r : CachedRun t steps s cells) → IsTrue (is_done (offered s.front.past s.done) x)
    → (b : Byte) → Reads (with_discards (order t)) (piece_task x) b ⊎ Writes (with_discards (order t)) (piece_task x) b → (q u : ℕ) → (cells b).held (queue_agent q) ≡ Some (Dirty u) → ⊥ =
    λ t steps s cells x none r h b access q u held.
    let i = comes (known t none) steps s cells x r h in
    let d = reached t steps s cells none r in
    none_dirty c.pieces_are_byte_writes.ensures c.before_is_path.ensures c.before_is_order.ensures.transitive c.commands_stay.ensures c.no_hazard.ensures c.seen_is_before.ensures c.host_in_order.ensures c.growth_keeps.ensures (order t) (c.order_is_structured.ensures.ordered t) ((c.no_fault_is_unbroken.ensures (order t)).0 none) none
    (c.discards_keep_premises.ensures.hazard_free (order t) none) (c.trace_is_cache_free.ensures (order t) (c.order_is_structured.ensures.ordered t) none) (c.discards_keep_premises.ensures.modelled (order t) none) d.0 cells d.1.reached
    (piece_task x) (d.1.next (piece_task x) (Offers x h)) i.offer.node.point.queue (agent_is_queue (known t none) s i.did i.at_point x i.offer) b access q u held in
    record {
      written = λ t steps s cells x b w q u none r h is held.
          clean t steps s cells x none r h b (inr (Puts w.source, writes_it (known t none) s x (comes (known t none) steps s cells x r h) b w is)) q u held;
      copied = λ t steps s cells x b e w q u none r h is from held.
          let wrote = writes_it (known t none) s x (comes (known t none) steps s cells x r h) b w is ∙ ap (λ (y : Source). Some (Puts y)) from in
          clean t steps s cells x none r h e (inl ((c.discards_keep_premises.ensures.hazard_free (order t) none).source_read (piece_task x) b e wrote)) q u held;
      seen = λ t steps s cells x n b e w none r h at_n is from.
          let i = comes (known t none) steps s cells x r h in
          let d = reached t steps s cells none r in
          let wrote = writes_it (known t none) s x i b w is ∙ ap (λ (y : Source). Some (Puts y)) from in
          subst (λ (m : Node). view (queue_agent m.point.queue) (cells e) ≡ (cells e).region) (queue_is (known t none) s x i n at_n)
          (seen_in_memory c.pieces_are_byte_writes.ensures c.before_is_path.ensures c.before_is_order.ensures.transitive c.commands_stay.ensures c.no_hazard.ensures c.seen_is_before.ensures c.host_in_order.ensures c.growth_keeps.ensures (order t) (c.order_is_structured.ensures.ordered t) ((c.no_fault_is_unbroken.ensures (order t)).0 none) none
          (c.discards_keep_premises.ensures.hazard_free (order t) none) (c.trace_is_cache_free.ensures (order t) (c.order_is_structured.ensures.ordered t) none) (c.discards_keep_premises.ensures.modelled (order t) none) d.0 cells d.1.reached
          (piece_task x) (d.1.next (piece_task x) (Offers x h)) i.offer.node.point.queue (agent_is_queue (known t none) s i.did i.at_point x i.offer) e
          ((c.discards_keep_premises.ensures.hazard_free (order t) none).source_read (piece_task x) b e wrote));
    }
