-- The points that come with an entry come one after another, where queues have caches.
use Rattle.std.proofs.Common.{◌≡◌, ℕ, ◌+◌, ◌<◌, ◌≤◌, List, ◌∷◌, length, take, get_or, refl, ap, sym, ◌∙◌, subst, arith}
use Rattle.std.proofs.lemmas.List.{take_all}
use Rattle.vk_model.specs.declared.entry.Entry.{Entry}
use Rattle.vk_model.specs.declared.point.Point.{Point as AnyPoint}
use Rattle.vk_model.specs.Laws.{OrderIsOrdered, OrderHasEntries, NoFaultIsSound, GrowthKeeps}
use Rattle.vk_model.specs.Trace.Order.{Front, after_entry}
use Rattle.vk_model.specs.Trace.Point.{Past}
use Rattle.vk_model.specs.Trace.PointViews.{point_of}
use Rattle.vk_model.specs.Sync.Node.{nodes}
use Rattle.vk_model.specs.Run.Runs.{Name, Step, Stage, applied}
use Rattle.vk_model.specs.Run.CachedRuns.{happening}
use Rattle.vk_laws.specs.DefinedRuns.{DefinedRunsFollow}
use Rattle.vk_laws.specs.DirectRuns.{DirectRunsAreRuns}
use Rattle.vk_laws.specs.Lifetimes.{CommandsNameLive}
use Rattle.vk_laws.proofs.Nodes.Counts.{more_nodes}
use Rattle.vk_queues.specs.PointViews.{past_after}
use Rattle.vk_queues.specs.IsWaiting.{IsWaiting}
use Rattle.vk_offers.specs.declared.happenings.Happenings.{Happenings}
use Rattle.vk_offers.specs.IsOffers.{ComesNext}
use Rattle.vk_offers.specs.IsHappenings.{IsHappenings}
use Rattle.vk_offers.specs.Laws.{OrderComesNext, PointsAreOnQueues}
use Rattle.vk_lag.specs.declared.late.Writer.{Writer}
use Rattle.vk_device.specs.declared.device.Device.{Device}
use Rattle.vk_device.proofs.Coming.{IsComing, coming, grown, past_more, newer_at, prepare_ready, prepared_next, applied_front, applied_count, applied_done}
use Rattle.vk_cached_device.specs.declared.device.CachedDevice.{CachedDevice}
use Rattle.vk_cached_device.specs.LedLate.{AreWriters}
use Rattle.vk_cached_device.specs.Inner.{Arrives, CommandIsReady, CountsPieces, HasAdvanced}
use Rattle.vk_cached_device.proofs.Coming.{midway, was_done}

-- the stage when some points more have come
abbrev pub stage_after : Stage → List AnyPoint → Stage
stage_after s points = record s { front = record s.front { past = past_after s.front.past points } }

-- the same stage with another past and other pieces that have run
abbrev stage_at : Stage → Past → List Name → Stage
stage_at s past done = record s { front = record s.front { past = past }; done = done }

-- the points of an entry are those of this list
abbrev pub ArePoints : CachedDevice → Stage → Entry → List AnyPoint → Type 0
ArePoints d s x points = past_after s.front.past points ≡ (after_entry d.count x s.front).past

module _ (t : List Entry) (steps : List Step) (s : Stage) (x : Entry) (xs : List Entry) (atoms : List ℕ) (d : CachedDevice) (h : Arrives t steps s x xs atoms d) (points : List AnyPoint) (are : ArePoints d s x points) where
  all_come : past_after s.front.past points ≡ (after_entry s.count x s.front).past
  all_come = are ∙ ap (λ (n : ℕ). (after_entry n x s.front).past) h.counts

  module _ (ordered : OrderIsOrdered) (has_entries : OrderHasEntries) (sound : NoFaultIsSound) (runs : DirectRunsAreRuns) (follows : DefinedRunsFollow) (names : CommandsNameLive) where
    come : IsComing t s.count x s.front d.device.resources
    come = coming t steps s x xs (midway t steps s x xs atoms d h) ordered has_entries sound runs follows names (was_done t steps s x xs atoms d h)

    pub below : d.count < 131072
    below = let lt = come.below in let same = h.counts in omega (arith, lt, same)

    module _ (i : ℕ) (p : AnyPoint) (is : p ≡ get_or points i p) (lt : i < length points) where
      pub is_ready : GrowthKeeps → (q : Device) → q ≡ d.device → CommandIsReady q (point_of p)
      is_ready keeps q same = prepare_ready t s.count x s.front d.device.resources come points all_come i p is lt keeps q (ap (λ (e : Device). e.resources) same)

      pub comes_next : OrderComesNext → GrowthKeeps → (q : Device) → q ≡ d.device → (count : ℕ) → CountsPieces q (point_of p) count → ComesNext (past_after s.front.past (take i points)) (point_of p) count
      comes_next law keeps q same count counts = prepared_next t s.count x s.front d.device.resources come points all_come i p is lt count law keeps q.resources (ap (λ (e : Device). e.resources) same) counts

      pub on_queue : PointsAreOnQueues → p.queue < 4
      on_queue law = let n = newer_at t s.count x s.front d.device.resources come points all_come i p is lt in law _ n.0 (past_after s.front.past (take i points)) (point_of p) come.unbroken come.ordered n.1

  module _ (i : ℕ) (p : AnyPoint) (is : p ≡ get_or points i p) (lt : i < length points) where
    older : length (nodes s.front.past) ≤ length (nodes (past_after s.front.past (take i points)))
    older = let g = grown s.front.past (take i points) in subst (λ (l : Past). length (nodes s.front.past) ≤ length (nodes l)) (sym g.1) (more_nodes g.0 s.front.past)

    -- what happens with one more of them
    pub happens_on : (old new : Happenings) (count : ℕ) → ComesNext (past_after s.front.past (take i points)) (point_of p) count
        → ((s e f : Stage) → IsHappenings old e.front.past e.done (happening s e) → ComesNext e.front.past (point_of p) count → length (nodes s.front.past) ≤ length (nodes e.front.past) → f.front.past ≡ point_of p ∷ e.front.past → f.done ≡ e.done → IsHappenings new f.front.past f.done (happening s f))
        → IsHappenings old (past_after s.front.past (take i points)) s.done (happening s (stage_after s (take i points)))
        → IsHappenings new (past_after s.front.past (take (i + 1) points)) s.done (happening s (stage_after s (take (i + 1) points)))
    happens_on old new count next adds was = adds s (stage_after s (take i points)) (stage_after s (take (i + 1) points)) was next older (past_more s.front.past points i p is lt) refl

    pub writers_on : (old new : List Writer) → (AreWriters old (past_after s.front.past (take i points)) → AreWriters new (point_of p ∷ past_after s.front.past (take i points))) → AreWriters old (past_after s.front.past (take i points)) → AreWriters new (past_after s.front.past (take (i + 1) points))
    writers_on old new adds was = subst (λ (l : Past). AreWriters new l) (sym (past_more s.front.past points i p is lt)) (adds was)

  -- all of them have come
  pub has_advanced : (begun : ℕ) (new : CachedDevice) (i count : ℕ) → length points ≤ i → IsWaiting new.waiting (d.count + 1) (after_entry d.count x s.front) → new.count ≡ d.count + 1
      → IsHappenings new.happenings (past_after s.front.past (take i points)) s.done (happening s (stage_after s (take i points))) → count ≡ length (nodes (past_after s.front.past (take i points))) → count ≤ 4294967295
      → AreWriters new.writers.items (past_after s.front.past (take i points)) → HasAdvanced s (applied s begun x xs) new
  has_advanced begun new i count all waits counts happenings counted few writers = record {
    waits = rw counts (subst (λ (f : Front). IsWaiting new.waiting (d.count + 1) f) (ap (λ (n : ℕ). after_entry n x s.front) h.counts ∙ sym (applied_front s begun x xs)) waits);
    counts = counts ∙ ap (λ (n : ℕ). n + 1) h.counts ∙ sym (applied_count s begun x xs);
    happenings = subst (λ (done : List Name). IsHappenings new.happenings (applied s begun x xs).front.past done (happening s (stage_at s (applied s begun x xs).front.past done))) (sym (applied_done s begun x xs))
        (subst (λ (l : Past). IsHappenings new.happenings l s.done (happening s (stage_at s l s.done))) here happenings);
    few = let nodes_here = counted ∙ ap (λ (l : Past). length (nodes l)) here in omega (arith, few, nodes_here);
    writers = subst (λ (l : Past). AreWriters new.writers.items l) here writers;
  }
    where
      here : past_after s.front.past (take i points) ≡ (applied s begun x xs).front.past
      here = ap (λ (l : List AnyPoint). past_after s.front.past l) (take_all i points all) ∙ all_come ∙ ap (λ (f : Front). f.past) (sym (applied_front s begun x xs))
