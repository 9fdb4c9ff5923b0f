-- What a task of a queue accesses is dirty in no queue's cache just before.
use Rattle.std.proofs.Common.{◌≡◌, ◌⊎◌, inl, ⊎_elim, ℕ, zero, suc, ◌<◌, List, Bool, false, ◌&&◌, not, IsTrue, Option, Some, None, refl, ap, sym, ◌∙◌, subst}
use Rattle.vk_model.specs.World.Bytes.{Byte}
use Rattle.vk_model.specs.Trace.Structure.{IsOrdered}
use Rattle.vk_model.specs.Trace.Point.{Past}
use Rattle.vk_model.specs.Sync.Node.{Node}
use Rattle.vk_model.specs.Sync.Edge.{is_host}
use Rattle.vk_model.specs.Rules.Table.{fault}
use Rattle.vk_model.specs.Rules.Fault.{IsUnbroken}
use Rattle.vk_model.specs.Run.Caches.{Dirty, Cell, view}
use Rattle.vk_model.specs.Laws.{BeforeIsPath, BeforeIsTransitive, GrowthKeeps, PiecesAreByteWrites}
use Rattle.vk_laws.specs.Machine.{Task, Writes, Reads, TraceAccesses, HazardFree, IsAllowed, IsModel, MayRun, latest}
use Rattle.vk_laws.specs.Caches.{Caching, CacheFree, Reached}
use Rattle.vk_laws.specs.Trace.{NoHazardLaw, SeenIsBefore, HostInOrder, CommandsStay}
use Rattle.vk_laws.specs.Tasks.{node_at, accesses_of}
use Rattle.vk_laws.specs.TraceBytes.{value_before}
use Rattle.vk_laws.specs.Discards.{with_discards}
use Rattle.vk_laws.specs.TraceCaches.{caching_of}
use Rattle.vk_laws.proofs.EveryOrder.Cells.{view_ok}
use Rattle.vk_laws.proofs.EveryOrder.Coherence.{allowed, is_earlier, first_done, visible_for, Good, good}
use Rattle.vk_laws.proofs.EveryOrder.Coherent.{owner_of, MadeAvailable, MadeVisible}
use Rattle.vk_laws.proofs.Accesses.TaskAccesses.{writer, reader}
use Rattle.vk_laws.proofs.Caching.CacheFree.{made_seen, made_available}
use Rattle.vk_laws.proofs.Caching.LatestWrites.{OnQueue, on_queue, same_write}

module _ (together : PiecesAreByteWrites) (paths : BeforeIsPath) (joins : BeforeIsTransitive) (stay : CommandsStay) (hazards : NoHazardLaw) (visibilities : SeenIsBefore) (hosts : HostInOrder) (keeps : GrowthKeeps) (all : Past) (ordered : IsOrdered all) (sound : IsUnbroken all) (none : fault all ≡ None)
    (free : HazardFree (with_discards all)) (cache : CacheFree (with_discards all) (caching_of all)) (model : IsModel (with_discards all) (value_before all)) (done : List Task) (cells : Byte → Cell) (reached : Reached (with_discards all) (caching_of all) done cells) where
  abbrev tr : TraceAccesses
  tr = with_discards all

  abbrev ca : Caching
  ca = caching_of all

  its : Good tr ca free cache (value_before all) model done cells
  its = good tr ca free cache (value_before all) model done cells reached

  ok : IsAllowed tr done
  ok = allowed tr ca done cells reached

  -- a task of a queue that may come next
  module _ (t : Task) (may : MayRun tr done t) (k : ℕ) (agent : ca.agent t ≡ suc k) where
    o : OnQueue all t
    o = on_queue all t k agent

    -- the node of a task of a queue isn't the host's
    plain : (w : Task) (p : OnQueue all w) (n m : Node) → node_at all w.node ≡ Some n → IsTrue (not (is_host n.act && is_host m.act))
    plain w p n m at =
        let one : Some n ≡ Some p.node = sym at ∙ p.at in
        let node : n ≡ p.node = cc in
        let no : is_host n.act ≡ false = ap (λ (m : Node). is_host m.act) node ∙ p.plain in
        ap (λ (b : Bool). not (b && is_host m.act)) no

    -- the last write of a byte that it accesses has been made available
    done_with : (c : Byte) → Reads tr t c ⊎ Writes tr t c → (w : Task) (q : ℕ) → latest tr c done ≡ Some w → ca.agent w ≡ suc q → MadeAvailable tr ca done c (Some w)
    done_with c access w q last of = ⊎_elim by_read by_write access
      where
        p : OnQueue all w
        p = on_queue all w q of

        earlier : (w.node < t.node) × Writes tr w c
        earlier = is_earlier tr ca free cache done t w c ok may last access

        wrote : Writes (accesses_of all) w c
        wrote = (earlier.1.0, sym (same_write all w c p) ∙ earlier.1.1)

        by_read : Reads tr t c → MadeAvailable tr ca done c (Some w)
        by_read r =
            let n = writer together all w c wrote in
            let s = made_seen together paths joins stay hazards visibilities hosts keeps all ordered sound none w t c earlier.0 wrote r (plain w p n.node (reader together all t c r).node n.at) in
            (s.p, first_done tr ca free cache done s.p s.q ok s.order (may.after s.q s.before), s.available)

        by_write : Writes tr t c → MadeAvailable tr ca done c (Some w)
        by_write r =
            let n = writer together all w c wrote in
            let mine : Writes (accesses_of all) t c = (r.0, sym (same_write all t c o) ∙ r.1) in
            let v = made_available together paths joins stay hazards visibilities hosts keeps all ordered sound none w t c earlier.0 wrote mine (plain w p n.node (writer together all t c mine).node n.at) in
            (v.p, may.after v.p v.before, v.available)

    pub none_dirty : (c : Byte) → Reads tr t c ⊎ Writes tr t c → (q u : ℕ) → (cells c).held (suc q) ≡ Some (Dirty u) → ⊥
    none_dirty c access q u held = let d = (its.coherent c).dirty (suc q) u held in go (latest tr c done) refl d.1 d.2
      where
        go : (l : Option Task) → latest tr c done ≡ l → owner_of tr ca l ≡ Some (suc q) → (MadeAvailable tr ca done c l → ⊥) → ⊥
        go None e own kept = absurd cc
        go (Some w) e own kept = let of : ca.agent w ≡ suc q = cc in kept (done_with c access w q e of)

    -- so memory has what its queue sees
    pub seen_in_memory : (c : Byte) → Reads tr t c → view (suc k) (cells c) ≡ (cells c).region
    seen_in_memory c reads = ⊎_elim (λ home. is ∙ sym home) (λ d. absurd (elsewhere d.0 d.1 d.2)) (its.coherent c).home
      where
        visible : MadeVisible tr ca done c (latest tr c done) (suc k)
        visible = subst (λ (a : ℕ). MadeVisible tr ca done c (latest tr c done) a) agent (visible_for tr ca free cache done t c ok may reads)

        is : view (suc k) (cells c) ≡ its.memory c
        is = view_ok (its.memory c) (cells c) (owner_of tr ca (latest tr c done)) (MadeAvailable tr ca done c (latest tr c done)) (MadeVisible tr ca done c (latest tr c done)) (its.coherent c) (suc k) visible

        elsewhere : (a : ℕ) → owner_of tr ca (latest tr c done) ≡ Some a → (cells c).held a ≡ Some (Dirty (its.memory c)) → ⊥
        elsewhere zero own held = ⊎_elim (λ mine. let e : Some 0 ≡ Some (suc k) = sym own ∙ mine in absurd cc) (λ freed. ((its.coherent c).dirty 0 (its.memory c) held).2 freed) ((its.coherent c).is_visible (suc k) visible)
        elsewhere (suc q) own held = none_dirty c (inl reads) q (its.memory c) held
