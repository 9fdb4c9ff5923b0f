-- An entry that comes next, told in place: memory isn't behind in what the host writes, or writes back.
use Rattle.std.proofs.Common.{◌≡◌, ◌<◌, inr, ℕ, suc, List, ◌∷◌, length, Bool, true, false, ◌&&◌, not, IsTrue, Option, Some, None, refl, ap, sym, ◌∙◌}
use Rattle.std.specs.Prelude.{◌==◌, option_map}
use Rattle.vk_model.specs.declared.entry.Entry.{Entry}
use Rattle.vk_model.specs.declared.entry.Entry.TheVariants as entry
use Rattle.vk_model.specs.World.Bytes.{Byte}
use Rattle.vk_model.specs.World.ByteWrites.{Value}
use Rattle.vk_model.specs.World.Effect.{written}
use Rattle.vk_model.specs.Trace.Order.{order}
use Rattle.vk_model.specs.Trace.Point.{Past}
use Rattle.vk_model.specs.Trace.Structure.{IsOrdered}
use Rattle.vk_model.specs.Sync.Node.{Node, nodes}
use Rattle.vk_model.specs.Sync.Edge.{is_host}
use Rattle.vk_model.specs.Rules.Table.{fault}
use Rattle.vk_model.specs.Rules.Fault.{IsUnbroken}
use Rattle.vk_model.specs.Run.Caches.{Dirty, Cell}
use Rattle.vk_model.specs.Run.Runs.{Stage}
use Rattle.vk_model.specs.Laws.{BeforeIsPath, BeforeIsTransitive, GrowthKeeps, PiecesAreByteWrites}
use Rattle.vk_laws.specs.Machine.{Task, Put, Puts, Unknown, Writes, TraceAccesses, HazardFree, IsAllowed, IsModel, MayRun, latest}
use Rattle.vk_laws.specs.Caches.{Caching, CacheFree, Reached}
use Rattle.vk_laws.specs.Trace.{NoHazardLaw, SeenIsBefore, HostInOrder, CommandsStay}
use Rattle.vk_laws.specs.Tasks.{node_at, accesses_of, by_act, task_write, host_value}
use Rattle.vk_laws.specs.TraceBytes.{value_before}
use Rattle.vk_laws.specs.Discards.{with_discards, forgets, or_unknown}
use Rattle.vk_laws.specs.DefinedRuns.{entry_task}
use Rattle.vk_laws.specs.TraceCaches.{caching_of}
use Rattle.vk_laws.proofs.EveryOrder.Coherence.{allowed, is_earlier, Good, good}
use Rattle.vk_laws.proofs.EveryOrder.Coherent.{owner_of, MadeAvailable}
use Rattle.vk_laws.proofs.Accesses.TaskAccesses.{writer}
use Rattle.vk_laws.proofs.Caching.CacheFree.{made_available}
use Rattle.vk_laws.proofs.Caching.LatestWrites.{OnQueue, on_queue, same_write}
use Rattle.vk_laws.proofs.Running.StageTasks.{Known}
use Rattle.vk_laws.proofs.Running.AtStage.{AtPoint, here_at}

-- ---- in the machine

module _ (together : PiecesAreByteWrites) (paths : BeforeIsPath) (joins : BeforeIsTransitive) (stay : CommandsStay) (hazards : NoHazardLaw) (visibilities : SeenIsBefore) (hosts : HostInOrder) (keeps : GrowthKeeps) (all : Past) (ordered : IsOrdered all) (sound : IsUnbroken all) (none : fault all ≡ None)
    (free : HazardFree (with_discards all)) (cache : CacheFree (with_discards all) (caching_of all)) (model : IsModel (with_discards all) (value_before all)) (done : List Task) (cells : Byte → Cell) (reached : Reached (with_discards all) (caching_of all) done cells) where
  abbrev tr : TraceAccesses
  tr = with_discards all

  abbrev ca : Caching
  ca = caching_of all

  its : Good tr ca free cache (value_before all) model done cells
  its = good tr ca free cache (value_before all) model done cells reached

  ok : IsAllowed tr done
  ok = allowed tr ca done cells reached

  -- the host's cache and a queue's don't both have a write of a byte
  pub one_writer : (c : Byte) (v q u : ℕ) → (cells c).held 0 ≡ Some (Dirty v) → (cells c).held (suc q) ≡ Some (Dirty u) → ⊥
  one_writer c v q u host queue =
      let a = (its.coherent c).dirty 0 v host in
      let b = (its.coherent c).dirty (suc q) u queue in
      let no : Some 0 ≡ Some (suc q) = sym a.1 ∙ b.1 in cc

  -- what a task writes that may come next, no queue's cache holds dirty
  pub none_dirty_for : (t : Task) → MayRun tr done t → (c : Byte) → Writes tr t c → Writes (accesses_of all) t c → (q u : ℕ) → (cells c).held (suc q) ≡ Some (Dirty u) → ⊥
  none_dirty_for t may c writes mine q u held = let d = (its.coherent c).dirty (suc q) u held in go (latest tr c done) refl d.1 d.2
    where
      go : (l : Option Task) → latest tr c done ≡ l → owner_of tr ca l ≡ Some (suc q) → (MadeAvailable tr ca done c l → ⊥) → ⊥
      go None e own kept = absurd cc
      go (Some w) e own kept = kept (v.p, may.after v.p v.before, v.available)
        where
          agent : ca.agent w ≡ suc q
          agent = cc

          p : OnQueue all w
          p = on_queue all w q agent

          earlier : (w.node < t.node) × Writes tr w c
          earlier = is_earlier tr ca free cache done t w c ok may e (inr writes)

          wrote : Writes (accesses_of all) w c
          wrote = (earlier.1.0, sym (same_write all w c p) ∙ earlier.1.1)

          plain : (n m : Node) → node_at all w.node ≡ Some n → IsTrue (not (is_host n.act && is_host m.act))
          plain n m at =
              let one : Some n ≡ Some p.node = sym at ∙ p.at in
              let node : n ≡ p.node = cc in
              let no : is_host n.act ≡ false = ap (λ (m : Node). is_host m.act) node ∙ p.plain in
              ap (λ (b : Bool). not (b && is_host m.act)) no

          v : Rattle.vk_laws.specs.Caches.Available (accesses_of all) ca w t c
          v =
              let n = writer together all w c wrote in
              made_available together paths joins stay hazards visibilities hosts keeps all ordered sound none w t c earlier.0 wrote mine (plain n.node (writer together all t c mine).node n.at)

-- ---- what a host entry writes

module _ {t : List Entry} (known : Known t) (s : Stage) (did : List Task) (i : AtPoint known s did) (x : Entry) (xs : List Entry) (left : s.left ≡ x ∷ xs) (b o u : ℕ) (bytes : List ℕ) (is : x ≡ entry.Write b o bytes) (c : Byte) (wrote : written b o bytes c ≡ Some u) where
  puts : (accesses_of (order t)).write_of (entry_task s) c ≡ Some (Puts (Value u))
  puts =
      ap (λ (n : Option Node). by_act None (λ a. task_write (order t) a 0 c) n) (here_at known s did i x xs left)
      ∙ ap (λ (v : Option ℕ). option_map (λ k. Puts (Value k)) v) (ap (λ (y : Entry). host_value y c) is ∙ wrote)

  pub host_writes : Writes (accesses_of (order t)) (entry_task s) c
  host_writes = (Puts (Value u), puts)

  pub host_puts : Writes (with_discards (order t)) (entry_task s) c
  host_puts = go (0 == 0 && by_act false (λ a. forgets (order t) (length (nodes s.front.past)) a c) (node_at (order t) (length (nodes s.front.past))))
    where
      go : (lost : Bool) → (y : Put) × (or_unknown lost ((accesses_of (order t)).write_of (entry_task s) c) ≡ Some y)
      go true = (Unknown, refl)
      go false = (Puts (Value u), puts)
