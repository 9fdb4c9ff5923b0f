-- When every task is done, each byte has the trace's value in memory, or dirty in a cache.
use Rattle.std.proofs.Common.{◌≡◌, ◌⊎◌, inl, inr, ⊎_elim, ℕ, List, length, false, IsTrue, Some, refl, ap, ◌∙◌, arith}
use Rattle.std.specs.Prelude.{nat_lt}
use Rattle.vk_model.specs.World.Bytes.{Byte}
use Rattle.vk_model.specs.World.Effect.{world}
use Rattle.vk_model.specs.Trace.Point.{Past}
use Rattle.vk_model.specs.Run.Caches.{Dirty, Cell}
use Rattle.vk_model.specs.Sync.Node.{Hosts, nodes}
use Rattle.vk_model.specs.Laws.{PiecesAreByteWrites}
use Rattle.vk_laws.specs.Machine.{IsIn, Task, TraceAccesses, Writes, HazardFree, IsModel}
use Rattle.vk_laws.specs.Caches.{Caching, CacheFree, Reached}
use Rattle.vk_laws.specs.Tasks.{task_count}
use Rattle.vk_laws.specs.TraceBytes.{value_before}
use Rattle.vk_laws.specs.Discards.{with_discards}
use Rattle.vk_laws.specs.TraceCaches.{caching_of}
use Rattle.vk_laws.specs.DefinedRuns.{is_event}
use Rattle.vk_laws.proofs.EveryOrder.Coherent.{Settled}
use Rattle.vk_laws.proofs.EveryOrder.Coherence.{allowed, Good, good}
use Rattle.vk_laws.proofs.EveryOrder.Fresh.{settled_at}
use Rattle.vk_laws.proofs.Bytes.BeforeNodes.{before_whole}
use Rattle.vk_laws.proofs.Nodes.Prefixes.{there_below}
use Rattle.vk_laws.proofs.Caching.Discards.{write_kind, forgot_has}
use Rattle.vk_laws.proofs.Running.DefinedBytes.{writer_real}
use Rattle.vk_laws.proofs.Running.StageTasks.{plain_is}

module _ (together : PiecesAreByteWrites) (all : Past) (free : HazardFree (with_discards all)) (cache : CacheFree (with_discards all) (caching_of all)) (model : IsModel (with_discards all) (value_before all)) where
  abbrev tr : TraceAccesses
  tr = with_discards all

  abbrev ca : Caching
  ca = caching_of all

  -- what writes is there, and no event
  writes_really : (u : Task) (c : Byte) → Writes tr u c → IsTrue (tr.has u) × (is_event all u ≡ false)
  writes_really u c w = ⊎_elim (λ f. (forgot_has all u c f, plain_is all u f.node f.at (Hosts f.entry) f.act refl)) (λ b. writer_real all together u c b) (write_kind all u c w)

  pub end_bytes : (done : List Task) (cells : Byte → Cell) → Reached tr ca done cells → ((u : Task) → IsTrue (tr.has u) → is_event all u ≡ false → IsIn u done) → (c : Byte) (v : ℕ) → (world all).value c ≡ Some v
      → ((cells c).region ≡ v) ⊎ (a : ℕ) × ((cells c).held a ≡ Some (Dirty v))
  end_bytes done cells r whole c v is = ⊎_elim (λ home. inl (home ∙ same)) (λ d. inr (d.0, d.2 ∙ ap (λ x. Some (Dirty x)) same)) (g.coherent c).home
    where
      g : Good tr ca free cache (value_before all) model done cells
      g = good tr ca free cache (value_before all) model done cells r

      settled : Settled tr done c (length (nodes all))
      settled = record {
        earlier = λ u lt w. let real = writes_really u c w in whole u real.0 real.1;
        later = λ u le w h. let lt = there_below all u.node (λ a. nat_lt u.index (task_count all a)) (writes_really u c w).0 in omega (arith, lt, le);
      }

      last : value_before all (length (nodes all)) c ≡ Some v
      last = ap (λ (l : Past). (world l).value c) (before_whole all (length (nodes all)) (omega arith)) ∙ is

      same : g.memory c ≡ v
      same = settled_at tr free (value_before all) model done g.memory c v (length (nodes all)) (allowed tr ca done cells r) settled g.follows last
