-- All dependencies, waits and signals that happen after a step are events of the machine, one after another.
use Rattle.std.proofs.Common.{◌≡◌, inl, inr, ⊎_elim, ℕ, ◌<◌, ◌≤◌, List, [], ◌∷◌, length, Bool, true, false, ◌&&◌, not, IsTrue, refl, ap, sym, ◌∙◌, subst, arith, reverse}
use Rattle.std.specs.Prelude.{Contains, ◌==◌, ◌↔◌}
use Rattle.std.specs.List.{filter, fold}
use Rattle.std.proofs.lemmas.Bool.{eqb-true, eq-eqb, and_parts, and_from}
use Rattle.std.proofs.lemmas.List.{reverse-append}
use Rattle.std.proofs.lemmas.List.Sorted.{Contains-permutation, IsPermutation-reverse, IsPermutation-sym}
use Rattle.vk_model.specs.declared.entry.Entry.{Entry}
use Rattle.vk_model.specs.Trace.Point.{Past}
use Rattle.vk_model.specs.Trace.Order.{order}
use Rattle.vk_model.specs.Run.Runs.{Name, is_done, Stage}
use Rattle.vk_model.specs.Run.CachedRuns.{Cells, is_synchronization, after_node, node_happened, happening}
use Rattle.vk_model.specs.Sync.Node.{Node, nodes}
use Rattle.vk_model.specs.Sync.Before.{IsNumbered}
use Rattle.vk_laws.specs.Machine.{IsIn, Task, TraceAccesses}
use Rattle.vk_laws.specs.Caches.{Reached}
use Rattle.vk_laws.specs.Discards.{with_discards}
use Rattle.vk_laws.specs.TraceCaches.{caching_of}
use Rattle.vk_laws.specs.DefinedRuns.{is_event}
use Rattle.vk_laws.specs.WriteBacks.{after_node_by_starts}
use Rattle.vk_model.specs.Laws.{PiecesAreByteWrites}
use Rattle.vk_model.proofs.Lists.Members.{contains-cons, contains-head, contains-tail, filtered, filter_has}
use Rattle.vk_model.proofs.Lists.Pairs.{Each, Pairs, each_has, each_from, pairs_append, pairs_filter}
use Rattle.vk_model.proofs.Lists.Truths.{clash, contradicted}
use Rattle.vk_model.proofs.Sync.Numbers.{number_below, numbered, unique}
use Rattle.vk_laws.proofs.Running.Stages.{From, Placed, later}
use Rattle.vk_laws.proofs.Running.StageTasks.{Known, old_node, node_in_all}
use Rattle.vk_laws.proofs.CachedRunning.NodesHappened.{event_task, event_at, event_is, Plain, Events, event_may, happened_from, happened_low, happened_commands_done}
use Rattle.vk_laws.proofs.CachedRunning.LastWriters.{Last, last_other, IsNamed}
use Rattle.vk_laws.proofs.CachedRunning.HostCaches.{HostOk}
use Rattle.vk_laws.proofs.CachedRunning.Happening.{no_run, event_done, host_after}
use Rattle.vk_laws.proofs.CachedRunning.ByStarts.{OfTheLatest, node_by_starts}

-- ---- nodes in their order

abbrev Rises : Node → Node → Type 0
Rises m n = m.number < n.number

rising : (ns : List Node) → IsNumbered ns → Pairs Rises (reverse ns)
rising [] numbers = tt
rising (n ∷ ns) numbers =
    subst (λ (l : List Node). Pairs Rises l) (sym (reverse-append (n ∷ []) ns))
    (pairs_append Rises (reverse ns) (n ∷ []) (rising ns numbers.1) (tt, tt)
    (each_from (λ m. Each (Rises m) (n ∷ [])) (reverse ns) (λ m c.
    let lt = number_below ns numbers.1 m (Contains-permutation (reverse ns) ns m (IsPermutation-sym ns (reverse ns) (IsPermutation-reverse ns)) c) in
    let size = numbers.0 in (omega (arith, lt, size), tt))))

module _ {t : List Entry} (known : Known t) where
  abbrev all : Past
  all = order t

  abbrev tr : TraceAccesses
  tr = with_discards all

  abbrev pub Named : Stage → Type 0
  Named s = (y : Name) → Contains s.done y → IsNamed known s.front.past y

  module _ (e : Stage) (p : Placed known.keeps t e) (named : Named e) (did : List Task) where
    abbrev past : Past
    past = e.front.past

    -- a node that happens
    pub record Due (n : Node) : Type 0 where
      pub present : Contains (nodes past) n
      pub kind : is_synchronization n.act ≡ true
      pub happened : IsTrue (node_happened e n)

    in_all : (n : Node) → Contains (nodes past) n → Contains (nodes all) n
    in_all n c = node_in_all known (From e.count) past (later known.keeps t e p) n c

    -- some of those that happen are still to come
    pub record Part (xs : List Node) (done : List Task) (cells : Cells) : Type 0 where
      pub reached : Reached tr (caching_of all) done cells
      pub plain : Plain known e done
      pub order : filter (λ u. not (is_event all u)) done ≡ did
      pub events : (m : Node) → Contains (nodes all) m → is_synchronization m.act ≡ true → IsIn (event_task m) done ↔ (IsTrue (node_happened e m) × (Contains xs m → ⊥))
      pub last : Last all e.done done
      pub host : HostOk known past cells

    next_part : (n : Node) (xs : List Node) (done : List Task) (cells : Cells) → Due n → Each (Rises n) xs → Part (n ∷ xs) done cells → Part xs (event_task n ∷ done) (after_node past e.done n cells)
    next_part n xs done cells due rises i = record {
      reached = event_done known e p n due.present due.kind done cells named i.last i.host i.reached
          (event_may known e p done i.plain n here due.kind due.happened (λ h. ((i.events n here due.kind).0 h).1 (contains-head n xs)) earlier);
      plain = λ u there own. (λ h. (i.plain u there own).0 (older u own h), λ h. inr ((i.plain u there own).1 h));
      order = let is : is_event all (event_task n) ≡ true = event_is known n here due.kind in rw is i.order;
      events = λ m cm kind. (forward m cm kind, λ h. backward m cm kind h.0 h.1 (m.number == n.number) refl);
      last = last_other all e.done done (event_task n) n i.last (event_at known n here) (no_run n.act due.kind);
      host = host_after known e p n due.present due.kind done cells named i.last i.host;
    }
      where
        here : Contains (nodes all) n
        here = in_all n due.present

        not_later : (m : Node) → m.number ≤ n.number → Contains xs m → ⊥
        not_later m le c = let lt = each_has (Rises n) xs m rises c in omega (arith, le, lt)

        earlier : (k : Node) → Contains (nodes all) k → is_synchronization k.act ≡ true → k.number < n.number → IsTrue (node_happened e k) → IsIn (event_task k) done
        earlier k ck kind lt h = (i.events k ck kind).1 (
          h,
          λ c. ⊎_elim
              (λ same. let number : n.number ≡ k.number = ap (λ (j : Node). j.number) same in omega (arith, lt, number))
              (λ more. not_later k (omega (arith, lt)) more) (contains-cons n xs k c),
        )

        older : (u : Task) → is_event all u ≡ false → IsIn u (event_task n ∷ done) → IsIn u done
        older u own (inl same) = absurd (clash {b = is_event all (event_task n)} (event_is known n here due.kind) (subst (λ (v : Task). is_event all v ≡ false) same own))
        older u own (inr h) = h

        forward : (m : Node) → Contains (nodes all) m → is_synchronization m.act ≡ true → IsIn (event_task m) (event_task n ∷ done) → IsTrue (node_happened e m) × (Contains xs m → ⊥)
        forward m cm kind (inl same) =
            let number : m.number ≡ n.number = ap (λ (v : Task). v.node) same in
            let one = unique (nodes all) (numbered all) m n cm here number in
            (subst (λ (k : Node). IsTrue (node_happened e k)) (sym one) due.happened, not_later m (omega (arith, number)))
        forward m cm kind (inr h) = let g = (i.events m cm kind).0 h in (g.0, λ c. g.1 (contains-tail n xs m c))

        backward : (m : Node) → Contains (nodes all) m → is_synchronization m.act ≡ true → IsTrue (node_happened e m) → (Contains xs m → ⊥) → (b : Bool) → (m.number == n.number) ≡ b → IsIn (event_task m) (event_task n ∷ done)
        backward m cm kind h absent true same = inl (ap (λ (k : ℕ). record { node = k; index = 0 }) (eqb-true m.number n.number same))
        backward m cm kind h absent false other = inr ((i.events m cm kind).1 (
          h,
          λ c. ⊎_elim
              (λ same. clash {b = m.number == n.number} (eq-eqb m.number n.number (sym (ap (λ (j : Node). j.number) same))) other)
              (λ more. absent more) (contains-cons n xs m c),
        ))

    -- where some come from these bytes on, and no more is to come; which commands have started tells what is written back
    pub record Whole (xs : List Node) (cells : Cells) : Type 0 where
      pub done : List Task
      pub part : Part [] done (fold (λ cs n. after_node past e.done n cs) cells xs)
      pub by_starts : PiecesAreByteWrites → OfTheLatest known → fold (λ cs n. after_node past e.done n cs) cells xs ≡ fold (λ cs n. after_node_by_starts past e.done n cs) cells xs

    all_parts : (xs : List Node) (done : List Task) (cells : Cells) → Each Due xs → Pairs Rises xs → Part xs done cells → Whole xs cells
    all_parts [] done cells dues rises i = record { done = done; part = i; by_starts = λ together dirty. refl }
    all_parts (n ∷ xs) done cells dues rises i =
        let rest = all_parts xs (event_task n ∷ done) (after_node past e.done n cells) dues.1 rises.1 (next_part n xs done cells dues.0 rises.0 i) in record {
          done = rest.done;
          part = rest.part;
          by_starts = λ together dirty. rest.by_starts together dirty
              ∙ ap (λ (cs : Cells). fold (λ cs n. after_node_by_starts past e.done n cs) cs xs) (node_by_starts known together e p named n dues.0.present dues.0.kind done cells i.plain i.last i.reached dirty);
        }

    -- from tasks that have the events of an earlier stage
    module _ (s : Stage) (q : Placed known.keeps t s) (le : length (nodes s.front.past) ≤ length (nodes past)) (more : (y : Name) → IsTrue (is_done s.done y) → IsTrue (is_done e.done y)) where
      abbrev test : Node → Bool
      test n = is_synchronization n.act && node_happened e n && not (node_happened s n)

      still : (n : Node) → Contains (nodes all) n → IsTrue (node_happened s n) → IsTrue (node_happened e n)
      still n cn h =
          let lt = happened_low known s q n cn h in
          let commands_done = happened_commands_done known s q n cn h in
          happened_from known e p n cn (omega (arith, lt, le)) (λ m c j cm act less b. more (m.number, j) (commands_done m c j cm act less b))

      parts_of : (n : Node) → Contains (happening s e) n → Due n × IsTrue (not (node_happened s n))
      parts_of n c =
          let f = filtered test (reverse (nodes past)) n c in
          let a = and_parts (is_synchronization n.act && node_happened e n) (not (node_happened s n)) f.1 in
          let b = and_parts (is_synchronization n.act) (node_happened e n) a.0 in (
            record {
              present = Contains-permutation (reverse (nodes past)) (nodes past) n (IsPermutation-sym (nodes past) (reverse (nodes past)) (IsPermutation-reverse (nodes past))) f.0;
              kind = b.0;
              happened = b.1;
            },
            a.1,
          )

      comes_now : (n : Node) → Contains (nodes all) n → is_synchronization n.act ≡ true → IsTrue (node_happened e n) → node_happened s n ≡ false → Contains (happening s e) n
      comes_now n cn kind h not_yet =
          let old = old_node known _ past (later known.keeps t e p) n cn (happened_low known e p n cn h) in
          filter_has test (reverse (nodes past)) n (Contains-permutation (nodes past) (reverse (nodes past)) n (IsPermutation-reverse (nodes past)) old)
          (and_from _ _ (and_from _ _ kind h) (ap not not_yet))

      pub all_happen : (done : List Task) (cells : Cells) → Reached tr (caching_of all) done cells → Plain known e done → filter (λ u. not (is_event all u)) done ≡ did → Events known s done → Last all e.done done → HostOk known past cells → Whole (happening s e) cells
      all_happen done cells reached plain order events last host =
          all_parts (happening s e) done cells (each_from Due (happening s e) (λ n c. (parts_of n c).0)) (pairs_filter Rises test (reverse (nodes past)) (rising (nodes past) (numbered past)))
          (record {
            reached = reached;
            plain = plain;
            order = order;
            events = λ m cm kind. (
              λ h. let was = (events m cm kind).0 h in (still m cm was, λ c. contradicted (node_happened s m) was (parts_of m c).1),
              λ h. (events m cm kind).1 (yet m cm kind h.0 h.1 (node_happened s m) refl),
            );
            last = last;
            host = host;
          })
        where
          yet : (m : Node) → Contains (nodes all) m → is_synchronization m.act ≡ true → IsTrue (node_happened e m) → (Contains (happening s e) m → ⊥) → (b : Bool) → node_happened s m ≡ b → IsTrue (node_happened s m)
          yet m cm kind h absent true was = was
          yet m cm kind h absent false was = absurd (absent (comes_now m cm kind h was))
