-- What the laws of runs through caches say of a run on memory directly.
use Rattle.std.proofs.Common.{◌≡◌, ◌⊎◌, inl, inr, ℕ, zero, suc, ◌+◌, ◌<◌, List, [], ◌∷◌, map, length, false, IsTrue, Option, Some, refl, ap, sym, ◌∙◌, subst, arith}
use Rattle.std.specs.Prelude.{Contains, option_map, unwrap_or}
use Rattle.vk_model.specs.declared.entry.Entry.{Entry}
use Rattle.vk_model.specs.declared.entry.Entry.TheVariants as entry
use Rattle.vk_model.specs.Basics.{below}
use Rattle.vk_model.specs.World.Bytes.{Byte, in_buffer, same_byte}
use Rattle.vk_model.specs.World.ByteWrites.{ByteWrite}
use Rattle.vk_model.specs.World.Effect.{world}
use Rattle.vk_model.specs.World.Meaning.{bytes_at}
use Rattle.vk_model.specs.Trace.Point.{Past}
use Rattle.vk_model.specs.Trace.Order.{order}
use Rattle.vk_model.specs.Sync.Node.{Node, nodes}
use Rattle.vk_model.specs.Sync.Access.{is_in, bytes_of}
use Rattle.vk_model.specs.Run.Caches.{Dirty, Cell, queue_agent, view}
use Rattle.vk_model.specs.Run.Runs.{Name, is_done, offered, Step, Stage, start, Allowed}
use Rattle.vk_model.specs.Run.CachedRuns.{numbered, named_piece, write_to}
use Rattle.vk_laws.specs.Machine.{Task, Put, Puts, Reads, newest, latest}
use Rattle.vk_laws.specs.Tasks.{task_read, by_act}
use Rattle.vk_laws.specs.TraceBytes.{value_before}
use Rattle.vk_laws.specs.Discards.{with_discards}
use Rattle.vk_laws.specs.TraceCaches.{caching_of}
use Rattle.vk_laws.specs.DefinedRuns.{piece_task, entry_task, done_by}
use Rattle.vk_laws.specs.DirectRuns.{HostMemory, held_by_host, cells_of}
use Rattle.vk_model.proofs.Lists.Members.{contains-head, contains-tail, member_passes, map_has, numbers_have, range_from}
use Rattle.vk_model.proofs.Trace.Growing.{Grows}
use Rattle.vk_laws.proofs.Bytes.BeforeNodes.{settles}
use Rattle.vk_laws.proofs.Running.Stages.{From}
use Rattle.vk_laws.proofs.Running.StageTasks.{Known}
use Rattle.vk_laws.proofs.Running.OfferedPieces.{Offered, offered_of}
use Rattle.vk_laws.proofs.Running.AtStage.{AtPoint, begins, grows, here_at}
use Rattle.vk_laws.proofs.Running.StageSteps.{all_steps}
use Rattle.vk_laws.proofs.CachedRunning.CachedPieces.{offered_named, agent_is_queue, its_write}
use Rattle.vk_laws.proofs.CachedRunning.LastWriters.{named_at_past}
use Rattle.vk_model.proofs.World.BytePlaces.{byte_itself}

-- ---- what an entry reads

in_range : (b o n k : ℕ) → k < n → IsTrue (is_in (in_buffer b (o + k)) (bytes_of b o n))
in_range b o n k lt = member_passes (same_byte (in_buffer b (o + k))) (bytes_of b o n) (in_buffer b (o + k))
    (subst (λ (j : ℕ). Contains (bytes_of b o n) (in_buffer b (o + j))) (let same : 0 + k ≡ k = omega arith in same) (map_has (λ k. in_buffer b (o + k)) (below n) (0 + k) (numbers_have 0 n k lt)))
    (byte_itself (in_buffer b (o + k)))

map_same : {X Y : Type 0} (f g : X → Y) (xs : List X) → ((x : X) → Contains xs x → f x ≡ g x) → map f xs ≡ map g xs
map_same f g [] same = refl
map_same {X} {Y} f g (x ∷ xs) same = ap (λ (y : Y). y ∷ map f xs) (same x (contains-head x xs)) ∙ ap (λ (ys : List Y). g x ∷ ys) (map_same f g xs (λ y c. same y (contains-tail x xs y c)))

-- bytes that are defined are read
pub bytes_are : (past : Past) (b o n : ℕ) (seen : Byte → ℕ) → ((k : ℕ) → k < n → (world past).value (in_buffer b (o + k)) ≡ Some (seen (in_buffer b (o + k)))) → bytes_at (world past) b o n ≡ map (λ k. seen (in_buffer b (o + k))) (below n)
bytes_are past b o n seen each =
    map_same (λ k. unwrap_or ((world past).value (in_buffer b (o + k))) 0) (λ k. seen (in_buffer b (o + k))) (below n)
    (λ k c. let within = (range_from 0 n k c).1 in ap (λ (v : Option ℕ). unwrap_or v 0) (each k (omega (arith, within))))

module _ {t : List Entry} (known : Known t) (steps : List Step) (s : Stage) (run : Allowed (start t) steps s) where
  abbrev all : Past
  all = order t

  abbrev did : List Task
  did = done_by (start t) steps s run []

  at : AtPoint known s did
  at = all_steps known steps (start t) [] (begins known) s run

  -- the next entry's task reads them
  pub reads_next : (b o n : ℕ) (xs : List Entry) → s.left ≡ entry.Read b o n ∷ xs → (k : ℕ) → k < n → Reads (with_discards all) (entry_task s) (in_buffer b (o + k))
  reads_next b o n xs left k lt =
      subst (λ (found : Option Node). IsTrue (by_act false (λ a. task_read all a 0 (in_buffer b (o + k))) found)) (sym (here_at known s did at (entry.Read b o n) xs left)) (in_range b o n k lt)

  -- before the next entry's node the bytes are those of the stage
  pub value_now : (c : Byte) (v : ℕ) → value_before all (entry_task s).node c ≡ Some v → (world s.front.past).value c ≡ Some v
  value_now c v h =
      let g : Grows (From s.count) s.front.past all = grows known s did at in
      settles g.newer s.front.past (length (nodes s.front.past)) c v refl (subst (λ (l : Past). value_before l (length (nodes s.front.past)) c ≡ Some v) g.whole h)

  -- ---- what a piece has written

  module _ (x : Name) (h : IsTrue (is_done (offered s.front.past s.done) x)) (c : Byte) where
    offer : Offered s.front.past s.done x
    offer = offered_of s.front.past s.done x h

    pub written_last : (w : ByteWrite) → write_to c (named_piece s.front.past x) ≡ Some w → (done : List Task) → latest (with_discards all) c (piece_task x ∷ done) ≡ Some (piece_task x)
    written_last w is done =
        ap (λ (p : Option Put). newest p (piece_task x) (latest (with_discards all) c done)) (its_write known s did at x offer c ∙ ap (λ (o : Option ByteWrite). option_map (λ m. Puts m.source) o) is)

    pub seen_by_queue : (n : Node) (cell : Cell) (v : ℕ) → numbered s.front.past x.0 ≡ Some n → view ((caching_of all).agent (piece_task x)) cell ≡ v → view (queue_agent n.point.queue) cell ≡ v
    seen_by_queue n cell v is seen =
        let one : Some offer.node ≡ Some n = sym (named_at_past known _ s.front.past (grows known s did at) x (offered_named known s did at x offer)) ∙ is in
        let same : offer.node ≡ n = cc in
        subst (λ (a : ℕ). view a cell ≡ v) (agent_is_queue known s did at x offer ∙ ap (λ (m : Node). queue_agent m.point.queue) same) seen

    pub seen_in_memory : (m : HostMemory) (v : ℕ) → view ((caching_of all).agent (piece_task x)) (cells_of m c) ≡ v → m.region c ≡ v
    seen_in_memory m v is = subst (λ (a : ℕ). view a (cells_of m c) ≡ v) (agent_is_queue known s did at x offer) is

-- ---- what is left in memory

pub left_in_memory : (m : HostMemory) (c : Byte) (v : ℕ) → ((cells_of m c).region ≡ v) ⊎ (a : ℕ) × ((cells_of m c).held a ≡ Some (Dirty v)) → (m.region c ≡ v) ⊎ (m.host c ≡ Some (Dirty v))
left_in_memory m c v (inl is) = inl is
left_in_memory m c v (inr d) = by_agent d.0 d.1
  where
    by_agent : (a : ℕ) → held_by_host (m.host c) a ≡ Some (Dirty v) → (m.region c ≡ v) ⊎ (m.host c ≡ Some (Dirty v))
    by_agent zero is = inr is
    by_agent (suc q) is = absurd cc
