-- What happens as points come, and pieces have run.
use Rattle.std.proofs.Common.{◌≡◌, inl, inr, ℕ, suc, ◌+◌, ◌<◌, ◌≤◌, List, [], ◌∷◌, ◌++◌, map, reverse, length, take, Option, None, Bool, true, false, not, ◌&&◌, nat_lt, refl, ap, sym, ◌∙◌, subst, arith, Some}
use Rattle.std.specs.Prelude.{IfNone, slice_get, nat_le, if◌then◌else◌}
use Rattle.std.specs.List.{filter}
use Rattle.std.proofs.lemmas.Bool.{cases_lt, lt-ltb, le-ltb, lt-leb, le-leb}
use Rattle.std.proofs.lemmas.List.{append-nil, append_assoc}
use Rattle.std.proofs.lemmas.List.Elements.{filter-append}
use Rattle.vk_model.specs.declared.point.Point.{Point}
use Rattle.vk_model.specs.Trace.Point.{Past}
use Rattle.vk_model.specs.Trace.Point as spec
use Rattle.vk_model.specs.Trace.PointViews.{action_of, point_of}
use Rattle.vk_model.specs.Sync.Node.{Node, acts, nodes, with_acts}
use Rattle.vk_model.specs.Run.Runs.{Name, Stage, is_free}
use Rattle.vk_model.specs.Run.CachedRuns.{is_synchronization, node_happened, happening}
use Rattle.vk_model.specs.Sync.Before.{IsNumbered}
use Rattle.vk_model.proofs.Sync.Numbers.{number_below, numbered}
use Rattle.vk_order.specs.declared.acts.Row.{Row}
use Rattle.vk_order.specs.NodeViews.{act_of, node_of, nodes_after}
use Rattle.vk_events.specs.declared.events.Events.{Events}
use Rattle.vk_events.specs.Happens.{AreFronts, is_finished, unseen, freed_by}
use Rattle.vk_events.specs.IsEvents.{IsEvents}
use Rattle.vk_events.specs.Laws.{HappeningIsUnseen}
use Rattle.vk_events.proofs.UnseenLemmas.{filter_same, all_seen, unseen_alike, unseen_more, known_alike}
use Rattle.vk_offers.specs.IsOffers.{ComesNext}
use Rattle.vk_offers.specs.IsHappenings.{happening_at_once}
use Rattle.vk_offers.specs.Inner.Rows.{AreCounted, Follow, Adds}
use Rattle.vk_offers.proofs.Commands.{reversed}
use Rattle.vk_offers.proofs.RowCounts.{next_row, grown_length, follow}
use Rattle.vk_offers.proofs.FrontLemmas.{finished_stays}

-- ---- the nodes of a point, in their order

chosen_reversed : (f : Node → Bool) (ns : List Node) → filter f (reverse ns) ≡ reverse (filter f ns)
chosen_reversed f [] = refl
chosen_reversed f (n ∷ ns) =
    ap (λ (ms : List Node). filter f ms) (reversed n ns) ∙ filter-append f (reverse ns) (n ∷ []) ∙ ap (λ (ms : List Node). ms ++ filter f (n ∷ [])) (chosen_reversed f ns) ∙ go (f n)
  where
    go : (t : Bool) → reverse (filter f ns) ++ (if t then n ∷ [] else []) ≡ reverse (if t then n ∷ filter f ns else filter f ns)
    go true = sym (reversed n (filter f ns))
    go false = append-nil (reverse (filter f ns))

chosen_twice : (f g : Node → Bool) (ns : List Node) → filter f (filter g ns) ≡ filter (λ n. f n && g n) ns
chosen_twice f g [] = refl
chosen_twice f g (n ∷ ns) = go (f n) (g n) refl (chosen_twice f g ns)
  where
    go : (a b : Bool) → f n ≡ a → filter f (filter g ns) ≡ filter (λ m. f m && g m) ns
        → filter f (if b then n ∷ filter g ns else filter g ns) ≡ (if a && b then n ∷ filter (λ m. f m && g m) ns else filter (λ m. f m && g m) ns)
    go true true e rest = ap (λ (t : Bool). if t then n ∷ filter f (filter g ns) else filter f (filter g ns)) e ∙ ap (λ (ms : List Node). n ∷ ms) rest
    go false true e rest = ap (λ (t : Bool). if t then n ∷ filter f (filter g ns) else filter f (filter g ns)) e ∙ rest
    go true false e rest = rest
    go false false e rest = rest

-- a number reaches a count exactly where it isn't below
not_below : (k j : ℕ) → nat_le k j ≡ not (nat_lt j k)
not_below k j = elim (cases_lt j k) [
  | inl lt ↦ lt-leb k j lt ∙ sym (ap not (lt-ltb j k lt))
  | inr le ↦ le-leb k j le ∙ sym (ap not (le-ltb j k le))
]

-- what happens at once is what is free of the nodes that weren't there
pub at_once : (past : Past) (done : List Name) (p : spec.Point)
    → happening_at_once past done p ≡ unseen (nodes (p ∷ past)) (is_finished (p ∷ past) done) (λ n. nat_lt n.number (length (nodes past)))
at_once past done p =
    ap (λ (ms : List Node). filter (λ n. is_synchronization n.act && is_free (p ∷ past) done n) ms) (sym (chosen_reversed (λ n. nat_le (length (nodes past)) n.number) (nodes (p ∷ past))))
    ∙ chosen_twice (λ n. is_synchronization n.act && is_free (p ∷ past) done n) (λ n. nat_le (length (nodes past)) n.number) (reverse (nodes (p ∷ past)))
    ∙ filter_same _ _ (reverse (nodes (p ∷ past))) (λ n c. same (is_synchronization n.act) (is_free (p ∷ past) done n) n.number)
  where
    same : (a b : Bool) (j : ℕ) → ((a && b) && nat_le (length (nodes past)) j) ≡ (a && b && not (nat_lt j (length (nodes past))))
    same true true j = not_below (length (nodes past)) j
    same true false j = refl
    same false b j = refl

-- ---- rows are added

-- an option that is none
pub none_then : {X P Q : Type 0} (o : Option X) → (P → Q) → IfNone o P → IfNone o Q
none_then None f p = f p
none_then (Some x) f p = p

module _ (ev : Events) (ns : List Node) (finished : Node → Bool) (left : List Node) (is : IsEvents ev ns finished left) where
  -- behind what is left comes nothing yet
  pub nothing_new : IsEvents ev ns finished (left ++ unseen ns finished (λ n. nat_lt n.number (length ns)))
  nothing_new = subst (λ (ms : List Node). IsEvents ev ns finished ms) (sym none) is
    where
      none : left ++ unseen ns finished (λ n. nat_lt n.number (length ns)) ≡ left
      none = ap (λ (ms : List Node). left ++ ms) (all_seen ns finished (λ n. nat_lt n.number (length ns)) (λ n c. lt-ltb n.number (length ns) (number_below ns is.numbers n c)))
          ∙ append-nil left

-- with one row more
pub row_added : (new : Events) (ns : List Node) (rows : List Row) (k : ℕ) (r : Row) → slice_get rows k ≡ Some r → IsNumbered (nodes_after ns (take k rows)) → (finished seen : Node → Bool) (left : List Node)
    → ((n : Node) → length ns ≤ n.number → seen n ≡ false)
    → IsEvents new (node_of (length (nodes_after ns (take k rows))) r ∷ nodes_after ns (take k rows)) finished
    ((left ++ unseen (nodes_after ns (take k rows)) finished seen) ++ freed_by (node_of (length (nodes_after ns (take k rows))) r) (nodes_after ns (take k rows)) finished)
    → IsEvents new (nodes_after ns (take (k + 1) rows)) finished (left ++ unseen (nodes_after ns (take (k + 1) rows)) finished seen)
row_added new ns rows k r at numbers finished seen left fresh is =
    subst (λ (ms : List Node). IsEvents new ms finished (left ++ unseen ms finished seen)) (sym (ap (λ (j : ℕ). nodes_after ns (take j rows)) more ∙ next_row ns rows k r at))
    (subst (λ (ms : List Node). IsEvents new (n ∷ all) finished ms)
    (append_assoc left (unseen all finished seen) (freed_by n all finished)
    ∙ ap (λ (ms : List Node). left ++ ms) (sym (unseen_more n all (refl, numbers) finished finished seen (λ m c. refl) (fresh n (grown_length ns (take k rows))))))
    is)
  where
    more : k + 1 ≡ suc k
    more = omega arith

    all : List Node
    all = nodes_after ns (take k rows)

    n : Node
    n = node_of (length (nodes_after ns (take k rows))) r

-- ---- a point has come

module _ (past : Past) (done : List Name) (p : Point) (count : ℕ) (next : ComesNext past (point_of p) count) (low : p.queue < 4) (rows : List Row)
    (points : (i : ℕ) (r : Row) → slice_get rows i ≡ Some r → r.point ≡ p) (are : map (λ r. act_of r.act) rows ≡ acts (action_of p.action))
    (grown : (ns : List Node) → nodes_after ns rows ≡ with_acts (point_of p) (acts (action_of p.action)) ns)
    (counts : List (List ℕ)) (counted : AreCounted (nodes past) rows counts) (fronts : List ℕ)
    (fr : AreFronts (nodes (point_of p ∷ past)) (is_finished (point_of p ∷ past) done) fronts) where
  abbrev finished : Node → Bool
  finished = is_finished (point_of p ∷ past) done

  pub follows : Follow (nodes past) rows counts (is_finished (point_of p ∷ past) done) fronts
  follows = follow (nodes past) (numbered past) p rows points are next.new counts finished fronts low counted
      (subst (λ (ns : List Node). AreFronts ns finished fronts) (sym (grown (nodes past))) fr)

  pub known : (ev : Events) (left : List Node) → IsEvents ev (nodes past) (is_finished past done) left → IsEvents ev (nodes past) (is_finished (point_of p ∷ past) done) left
  known ev left is = known_alike ev (nodes past) (is_finished past done) finished left (finished_stays past (point_of p) done next.stay) is

  module _ (old new : Events) (adds : Adds old new rows counts fronts) where
    -- behind what was left
    pub left_added : (left : List Node) → IsEvents old (nodes past) (is_finished past done) left
        → IsEvents new (nodes (point_of p ∷ past)) (is_finished (point_of p ∷ past) done) (left ++ happening_at_once past done (point_of p))
    left_added left is =
        subst (λ (ms : List Node). IsEvents new (nodes (point_of p ∷ past)) finished (left ++ ms)) (sym (at_once past done (point_of p)))
        (subst (λ (ns : List Node). IsEvents new ns finished (left ++ unseen ns finished (λ n. nat_lt n.number (length (nodes past))))) (grown (nodes past))
        (adds (nodes past) finished (λ n. nat_lt n.number (length (nodes past))) left (nothing_new old (nodes past) finished left (known old left is)) follows
        (λ n le. le-ltb n.number (length (nodes past)) le)))

    -- since a stage before
    pub happening_added : HappeningIsUnseen → (s e : Stage) → e.front.past ≡ past → e.done ≡ done → IsEvents old (nodes past) (is_finished past done) (happening s e) → length (nodes s.front.past) ≤ length (nodes past)
        → IsEvents new (nodes (point_of p ∷ past)) (is_finished (point_of p ∷ past) done) (unseen (nodes (point_of p ∷ past)) (is_finished (point_of p ∷ past) done) (node_happened s))
    happening_added law s e same_past same_done is le =
        subst (λ (ns : List Node). IsEvents new ns finished (unseen ns finished (node_happened s))) (grown (nodes past))
        (adds (nodes past) finished (node_happened s) []
        (subst (λ (ms : List Node). IsEvents old (nodes past) finished ms) was (known old (happening s e) is)) follows
        (λ n high. ap (λ (t : Bool). t && is_free s.front.past s.done n) (le-ltb n.number (length (nodes s.front.past)) (omega (arith, high, le)))))
      where
        was : happening s e ≡ unseen (nodes past) finished (node_happened s)
        was = law s e ∙ ap (λ (q : Past). unseen (nodes q) (is_finished q e.done) (node_happened s)) same_past
            ∙ ap (λ (d : List Name). unseen (nodes past) (is_finished past d) (node_happened s)) same_done
            ∙ unseen_alike (nodes past) (is_finished past done) finished (node_happened s) (finished_stays past (point_of p) done next.stay)
