-- What is known of events, as nodes come, happen and are taken.
use Rattle.std.proofs.Common.{◌≡◌, ◌≢◌, ◌⊎◌, inl, inr, ℕ, zero, suc, ◌+◌, ◌<◌, ◌≤◌, List, [], ◌∷◌, ◌++◌, reverse, length, set, Bool, true, false, not, ◌&&◌, ◌||◌, ◌==◌, nat_lt, refl, ap, sym, ◌∙◌, subst, arith, IsTrue, length-append, length-set}
use mir.Val.{bool_byte}
use Rattle.std.specs.Prelude.{Contains, Some, slice_get, slice_index, if◌then◌else◌}
use Rattle.std.proofs.lemmas.Bool.{cases_eq, eq-eqb, ne_eqb}
use Rattle.std.proofs.lemmas.List.{get_or-set_same, get_or-set_other, append-nil}
use Rattle.std.proofs.lemmas.Option.{slice_get_within}
use Rattle.vk_model.specs.Sync.Node.{Node, Act, Hosts, Waits, Signals, Runs, Depends, SetOf, nodes}
use Rattle.vk_model.specs.Sync.Edge.{is_command}
use Rattle.vk_model.specs.Sync.Before.{IsNumbered}
use Rattle.vk_model.specs.Run.CachedRuns.{is_synchronization}
use Rattle.vk_model.proofs.Lists.Items.{item_at, push_cases}
use Rattle.vk_model.proofs.Lists.Members.{contains-tail}
use Rattle.vk_model.proofs.Lists.Truths.{bool_same}
use Rattle.vk_model.proofs.Sync.Numbers.{number_below}
use Rattle.vk_order.specs.declared.lines.Line.{Line}
use Rattle.vk_order.specs.declared.lines.Line.TheVariants.{Commands as OfCommands}
use Rattle.vk_order.specs.Lines.{place, on_line}
use Rattle.vk_order.proofs.PlaceLemmas.{place-older}
use Rattle.vk_events.specs.declared.event.Event.{Event}
use Rattle.vk_events.specs.declared.events.Events.{Events}
use Rattle.vk_events.specs.declared.hanging.Hanging.{Hanging}
use Rattle.vk_events.specs.Happens.{synchronizations, is_free_of, unseen, freed_by, CountsBefore, AreFronts, IsEvent}
use Rattle.vk_events.specs.IsEvents.{left_of, AreDescribed, IsEvents, MayFollow}
use Rattle.vk_events.specs.Inner.Described.{IsOf}
use Rattle.vk_events.specs.Inner.Hooks.{Hung}
use Rattle.vk_events.specs.Inner.Hanging.{IsHanging, IsNext, count_of}
use Rattle.vk_events.proofs.FreeLemmas.{place-next, free_within, within_free, none_lacks, lacks_none, free_stays, counts_stay, fronts_rise}
use Rattle.vk_events.proofs.LeftLemmas.{synchronization_more, synchronization_same, synchronization_at, left_same, left_push, left_filter, left_none, none_left, left_take, filter_twice, got_item}

-- ---- what has happened hangs on no queue

module _ (ns : List Node) (numbers : IsNumbered ns) (finished : Node → Bool) (fronts : List ℕ) (fr : AreFronts ns finished fronts) (counts : List (List ℕ)) (events : List Event) (all : AreDescribed ns (synchronizations ns) counts events)
    (hooks : List Hung) (lacking : List ℕ) (met : Hung) (taken : ℕ → Bool) (hang : IsHanging hooks lacking met counts (slice_index fronts) (slice_index fronts) taken) (i : ℕ) (n : Node) (at : slice_get (synchronizations ns) i ≡ Some n) where
  pub here : i < length counts
  here = let lt = slice_get_within (synchronizations ns) i n at in let same = all.counts_len in omega arith

  own : (c : List ℕ) × (slice_get counts i ≡ Some c)
  own = item_at counts i here

  count_is : (q : ℕ) → count_of counts i q ≡ slice_index own.0 q
  count_is q = ap (λ (c : List ℕ). slice_index c q) (got_item counts i own.0 [] own.1)

  pub met_free : slice_index lacking i ≡ 0 → is_free_of ns finished n ≡ true
  met_free none = within_free ns numbers finished fronts fr n (synchronization_at ns i n at).0 own.0 (all.counted i n own.0 at own.1)
      (λ q on. let le = none_lacks hooks lacking met counts (slice_index fronts) taken hang i here none q on in let same = count_is q in omega (arith, le, same))

  pub free_met : is_free_of ns finished n ≡ true → slice_index lacking i ≡ 0
  free_met free = lacks_none hooks lacking met counts (slice_index fronts) taken hang i here
      (λ q on. let le = free_within ns numbers finished fronts fr n (synchronization_at ns i n at).0 own.0 (all.counted i n own.0 at own.1) free q on in let same = count_is q in omega (arith, le, same))

-- ---- the next is taken

module _ (ev : Events) (ns : List Node) (finished : Node → Bool) (left : List Node) (is : IsEvents ev ns finished left) where
  met_of : (i : ℕ) (n : Node) → slice_get (synchronizations ns) i ≡ Some n → slice_index ev.hanging.lacking.items i ≡ 0 → is_free_of ns finished n ≡ true
  met_of = met_free ns is.numbers finished is.fronts is.are_fronts is.counts ev.events.items is.all ev.hanging.hooks ev.hanging.lacking.items ev.hanging.met is.taken is.hanging

  free_of : (i : ℕ) (n : Node) → slice_get (synchronizations ns) i ≡ Some n → is_free_of ns finished n ≡ true → slice_index ev.hanging.lacking.items i ≡ 0
  free_of = free_met ns is.numbers finished is.fronts is.are_fronts is.counts ev.events.items is.all ev.hanging.hooks ev.hanging.lacking.items ev.hanging.met is.taken is.hanging

  pub in_events : (i : ℕ) → i < length is.counts → i < length ev.events.items
  in_events i lt = let a = is.all.counts_len in let b = is.all.events_len in omega arith

  module _ (h : Hanging) (i : ℕ) (next : IsNext ev.hanging.lacking.items is.counts is.taken i) (hanging : IsHanging h.hooks h.lacking.items h.met is.counts (slice_index is.fronts) (slice_index is.fronts) (λ j. is.taken j || j == i))
      (e : Event) (read : slice_get ev.events.items i ≡ Some e) where
    abbrev Taken : Type 0
    Taken = (n : Node) × (rest : List Node) × (left ≡ n ∷ rest) × IsEvent e ns n × IsEvents (record ev { hanging = h }) ns finished rest

    pub is_taken : Taken
    is_taken =
        let lt = next.there in
        let n = item_at (synchronizations ns) i (let same = is.all.counts_len in omega arith) in (
          n.0,
          left_of (is_free_of ns finished) (λ j. is.taken j || j == i) 0 (synchronizations ns),
          is.left_are ∙ left_take (is_free_of ns finished) is.taken 0 (synchronizations ns) i n.0 n.1 (met_of i n.0 n.1 next.met) (ap is.taken (omega arith) ∙ next.new)
              (λ j m before at free. subst (λ (k : ℕ). IsTrue (is.taken k)) (omega arith) (next.first j before (free_of j m at free)))
              ∙ ap (λ (k : ℕ). n.0 ∷ left_of (is_free_of ns finished) (λ j. is.taken j || j == k) 0 (synchronizations ns)) (omega arith),
          is.all.described i n.0 e n.1 read,
          record {
            numbers = is.numbers;
            total = is.total;
            four = is.four;
            started = is.started;
            counts = is.counts;
            fronts = is.fronts;
            taken = λ j. is.taken j || j == i;
            hanging = hanging;
            all = is.all;
            are_fronts = is.are_fronts;
            left_are = refl;
          },
        )

  -- where none is met none is left
  pub none_taken : (h : Hanging) → h ≡ ev.hanging → ((j : ℕ) → j < length is.counts → slice_index ev.hanging.lacking.items j ≡ 0 → IsTrue (is.taken j)) → (left ≡ []) × IsEvents (record ev { hanging = h }) ns finished []
  none_taken h same all_are =
      let none = left_none (is_free_of ns finished) is.taken 0 (synchronizations ns) (λ i n at free. subst (λ (k : ℕ). IsTrue (is.taken k)) (omega arith)
      (all_are i (here ns is.numbers finished is.fronts is.are_fronts is.counts ev.events.items is.all ev.hanging.hooks ev.hanging.lacking.items ev.hanging.met is.taken is.hanging i n at) (free_of i n at free))) in (
        is.left_are ∙ none,
        record {
          numbers = is.numbers;
          total = is.total;
          four = is.four;
          started = is.started;
          counts = is.counts;
          fronts = is.fronts;
          taken = is.taken;
          hanging = subst (λ (g : Hanging). IsHanging g.hooks g.lacking.items g.met is.counts (slice_index is.fronts) (slice_index is.fronts) is.taken) (sym same) is.hanging;
          all = is.all;
          are_fronts = is.are_fronts;
          left_are = sym none;
        },
      )

-- ---- more is finished

module _ (ev : Events) (ns : List Node) (was now : Node → Bool) (fronts : List ℕ) (is : IsEvents ev ns was []) (kept : (m : Node) → Contains ns m → IsTrue (was m) → IsTrue (now m)) (fr : AreFronts ns now fronts) where
  pub rises : (q : ℕ) → q < 4 → slice_index is.fronts q ≤ slice_index fronts q
  rises = fronts_rise ns ns is.numbers was now is.fronts fronts is.are_fronts fr (λ m c. (c, kept m c, λ l. refl))

  -- so far just those are taken that were free
  taken_are : (i : ℕ) (n : Node) → slice_get (synchronizations ns) i ≡ Some n → is.taken (0 + i) ≡ is_free_of ns was n
  taken_are i n at = bool_same (is.taken (0 + i)) (is_free_of ns was n)
      (λ t. met_of ev ns was [] is i n at (is.hanging.freed i (subst (λ (k : ℕ). IsTrue (is.taken k)) (omega arith) t)).1)
      (λ free. none_left (is_free_of ns was) is.taken 0 (synchronizations ns) (sym is.left_are) i n at free)

  pub has_advanced : (h : Hanging) → IsHanging h.hooks h.lacking.items h.met is.counts (slice_index fronts) (slice_index fronts) is.taken → IsEvents (record ev { hanging = h }) ns now (unseen ns now (is_free_of ns was))
  has_advanced h hanging = record {
    numbers = is.numbers;
    total = is.total;
    four = is.four;
    started = is.started;
    counts = is.counts;
    fronts = fronts;
    taken = is.taken;
    hanging = hanging;
    all = is.all;
    are_fronts = fr;
    left_are = sym (left_filter (is_free_of ns now) (is_free_of ns was) is.taken 0 (synchronizations ns) taken_are ∙ filter_twice (λ n. is_synchronization n.act) (is_free_of ns now) (λ n. not (is_free_of ns was n)) (reverse ns));
  }

-- ---- a node comes

-- an event stays that of its node
event_stays : (k : Node) (ns : List Node) → IsNumbered (k ∷ ns) → (e : Event) (n : Node) → Contains ns n → IsEvent e ns n → IsEvent e (k ∷ ns) n
event_stays k ns numbers e n at is = record {
  number = is.number;
  queue = is.queue;
  place = is.place ∙ sym (place-older k ns numbers.0 (OfCommands n.point.queue) n.number (let lt = number_below ns numbers.1 n at in omega arith));
  available = is.available;
  visible = is.visible;
}

-- of which queue a node is a command
command_on : (n : Node) (q : ℕ) (a : Act) → n.act ≡ a → on_line (OfCommands q) n ≡ (is_command a && (q == n.point.queue))
command_on n q a act = ap (λ (b : Act). on_line (OfCommands q) (record n { act = b })) act ∙ go a
  where
    go : (a : Act) → on_line (OfCommands q) (record n { act = a }) ≡ (is_command a && (q == n.point.queue))
    go (Hosts x) = refl
    go (Waits s) = refl
    go (Signals s) = refl
    go (Runs c) = refl
    go (Depends (SetOf v k) e) = refl
    go (Depends r e) = refl

no_command : (a : Act) → is_synchronization a ≡ true → is_command a ≡ false
no_command (Hosts x) e = refl
no_command (Waits s) e = refl
no_command (Signals s) e = refl
no_command (Runs c) e = absurd cc
no_command (Depends r d) e = refl

module _ (ev : Events) (ns : List Node) (n : Node) (was now : Node → Bool) (left : List Node) (counts fronts : List ℕ) (is : IsEvents ev ns was left) (number : n.number ≡ length ns) (may : MayFollow ns n was now counts fronts) where
  numbers : IsNumbered (n ∷ ns)
  numbers = (number, is.numbers)

  pub rises_with : (q : ℕ) → q < 4 → slice_index is.fronts q ≤ slice_index fronts q
  rises_with = fronts_rise ns (n ∷ ns) is.numbers was now is.fronts fronts is.are_fronts may.are_fronts
      (λ m c. (contains-tail n ns m c, (λ t. may.same m c ∙ t), λ l. place-older n ns number l m.number (let lt = number_below ns is.numbers m c in omega arith)))

  -- those that were there are as free as before
  same_free : (i : ℕ) (m : Node) → slice_get (synchronizations ns) i ≡ Some m → is_free_of ns was m ≡ is_free_of (n ∷ ns) now m
  same_free i m at = sym (free_stays n ns numbers m (synchronization_at ns i m at).0 was now may.same)

  old_left : left ≡ left_of (is_free_of (n ∷ ns) now) is.taken 0 (synchronizations ns)
  old_left = is.left_are ∙ left_same (is_free_of ns was) (is_free_of (n ∷ ns) now) is.taken 0 (synchronizations ns) same_free

  described_old : AreDescribed (n ∷ ns) (synchronizations ns) is.counts ev.events.items
  described_old = record {
    counts_len = is.all.counts_len;
    events_len = is.all.events_len;
    counted = λ i m c at own. counts_stay n ns numbers m (synchronization_at ns i m at).0 c (is.all.counted i m c at own);
    described = λ i m e at own. event_stays n ns numbers e m (synchronization_at ns i m at).0 (is.all.described i m e at own);
  }

  -- a node that is no dependency, wait or signal
  pub other_added : (h : Hanging) (started : List ℕ) (total : ℕ) → is_synchronization n.act ≡ false
      → IsHanging h.hooks h.lacking.items h.met is.counts (slice_index fronts) (slice_index fronts) is.taken
      → started ≡ set ev.started n.point.queue (slice_index ev.started n.point.queue + (if is_command n.act then 1 else 0)) → total ≡ ev.nodes + 1
      → IsEvents (record ev { hanging = h; nodes = total; started = started }) (n ∷ ns) now (left ++ freed_by n ns now)
  other_added h started total isnt hanging counted more = record {
    numbers = numbers;
    total = let t = is.total in omega arith;
    four = ap (λ (xs : List ℕ). length xs) counted ∙ length-set ev.started n.point.queue (slice_index ev.started n.point.queue + (if is_command n.act then 1 else 0)) ∙ is.four;
    started = λ q on. started-now q on (cases_eq q n.point.queue);
    counts = is.counts;
    fronts = fronts;
    taken = is.taken;
    hanging = hanging;
    all = subst (λ (ss : List Node). AreDescribed (n ∷ ns) ss is.counts ev.events.items) (sym (synchronization_same n ns isnt)) described_old;
    are_fronts = may.are_fronts;
    left_are = none_more ∙ old_left ∙ ap (λ (ss : List Node). left_of (is_free_of (n ∷ ns) now) is.taken 0 ss) (sym (synchronization_same n ns isnt));
  }
    where
      none_more : left ++ freed_by n ns now ≡ left
      none_more = ap (λ (b : Bool). left ++ (if b && is_free_of (n ∷ ns) now n then n ∷ [] else [])) isnt ∙ append-nil left

      add_if : (b : Bool) (k : ℕ) → k + (if b then 1 else 0) ≡ (if b then k + 1 else k)
      add_if true k = refl
      add_if false k = omega arith

      started-now : (q : ℕ) → q < 4 → (q ≡ n.point.queue) ⊎ (q ≢ n.point.queue) → slice_index started q ≡ place (n ∷ ns) (OfCommands q) (length (n ∷ ns))
      started-now q on (inl e) = subst (λ (r : ℕ). slice_index started r ≡ place (n ∷ ns) (OfCommands r) (length (n ∷ ns))) (sym e)
          (ap (λ (xs : List ℕ). slice_index xs n.point.queue) counted
          ∙ get_or-set_same ev.started n.point.queue (slice_index ev.started n.point.queue + (if is_command n.act then 1 else 0)) 0 (let low = may.queue in let four = is.four in omega arith)
          ∙ add_if (is_command n.act) (slice_index ev.started n.point.queue)
          ∙ ap (λ (k : ℕ). if is_command n.act then k + 1 else k) (is.started n.point.queue may.queue)
          ∙ sym (place-next n ns numbers (OfCommands n.point.queue) (is_command n.act) (command_on n n.point.queue n.act refl ∙ ap (λ (b : Bool). is_command n.act && b) (eq-eqb n.point.queue n.point.queue refl) ∙ and_true (is_command n.act))))
        where
          and_true : (b : Bool) → (b && true) ≡ b
          and_true true = refl
          and_true false = refl
      started-now q on (inr ne) =
          ap (λ (xs : List ℕ). slice_index xs q) counted
          ∙ get_or-set_other ev.started n.point.queue q (slice_index ev.started n.point.queue + (if is_command n.act then 1 else 0)) 0 ne
          ∙ is.started q on
          ∙ sym (place-next n ns numbers (OfCommands q) false (command_on n q n.act refl ∙ ap (λ (b : Bool). is_command n.act && b) (ne_eqb q n.point.queue ne) ∙ and_false (is_command n.act)))
        where
          and_false : (b : Bool) → (b && false) ≡ false
          and_false true = refl
          and_false false = refl

  -- the event of a node that comes
  pub own_event : (e : Event) → IsOf e ev.nodes n.point.queue (slice_index ev.started n.point.queue) n.act → IsEvent e (n ∷ ns) n
  own_event e of = record {
    number = of.number_is ∙ is.total ∙ sym number;
    queue = of.queue_is;
    place = of.place_is ∙ is.started n.point.queue may.queue ∙ ap (λ (k : ℕ). place ns (OfCommands n.point.queue) k) (sym number)
        ∙ sym (place-older n ns number (OfCommands n.point.queue) n.number (omega (arith, number)));
    available = λ cached ms b. of.available cached ms n b refl;
    visible = λ past b. of.visible (λ c. false) (nodes past) n b refl;
  }

  -- a dependency, wait or signal
  pub event_added : (new : Events) (e : Event) → IsOf e ev.nodes n.point.queue (slice_index ev.started n.point.queue) n.act
      → IsHanging new.hanging.hooks new.hanging.lacking.items new.hanging.met (is.counts ++ counts ∷ []) (slice_index fronts) (slice_index fronts) is.taken
      → new.events.items ≡ ev.events.items ++ e ∷ [] → new.started ≡ ev.started → new.nodes ≡ ev.nodes + 1 → IsEvents new (n ∷ ns) now (left ++ freed_by n ns now)
  event_added new e of hanging pushed same more = record {
    numbers = numbers;
    total = let t = is.total in omega arith;
    four = ap (λ (xs : List ℕ). length xs) same ∙ is.four;
    started = λ q on. ap (λ (xs : List ℕ). slice_index xs q) same ∙ is.started q on
        ∙ sym (place-next n ns numbers (OfCommands q) false (command_on n q n.act refl ∙ ap (λ (b : Bool). b && (q == n.point.queue)) (no_command n.act of.is)));
    counts = is.counts ++ counts ∷ [];
    fronts = fronts;
    taken = is.taken;
    hanging = hanging;
    all = subst (λ (ss : List Node). AreDescribed (n ∷ ns) ss (is.counts ++ counts ∷ []) new.events.items) (sym (synchronization_more n ns of.is))
        (subst (λ (es : List Event). AreDescribed (n ∷ ns) (synchronizations ns ++ n ∷ []) (is.counts ++ counts ∷ []) es) (sym pushed) described_now);
    are_fronts = may.are_fronts;
    left_are = left_now ∙ ap (λ (ss : List Node). left_of (is_free_of (n ∷ ns) now) is.taken 0 ss) (sym (synchronization_more n ns of.is));
  }
    where
      described_now : AreDescribed (n ∷ ns) (synchronizations ns ++ n ∷ []) (is.counts ++ counts ∷ []) (ev.events.items ++ e ∷ [])
      described_now = record {
        counts_len = let l = is.all.counts_len in omega (arith, length-append is.counts (counts ∷ []), length-append (synchronizations ns) (n ∷ []));
        events_len = let l = is.all.events_len in omega (arith, length-append ev.events.items (e ∷ []), length-append (synchronizations ns) (n ∷ []));
        counted = λ i m c at own. counted-now i m c (push_cases (synchronizations ns) n m i at) (push_cases is.counts counts c i own);
        described = λ i m f at own. described-now i m f (push_cases (synchronizations ns) n m i at) (push_cases ev.events.items e f i own);
      }
        where
          counted-now : (i : ℕ) (m : Node) (c : List ℕ) → (slice_get (synchronizations ns) i ≡ Some m) ⊎ ((i ≡ length (synchronizations ns)) × (n ≡ m))
              → (slice_get is.counts i ≡ Some c) ⊎ ((i ≡ length is.counts) × (counts ≡ c)) → CountsBefore (n ∷ ns) m c
          counted-now i m c (inl a) (inl b) = described_old.counted i m c a b
          counted-now i m c (inr a) (inr b) = subst (λ (k : Node). CountsBefore (n ∷ ns) k c) a.1 (subst (λ (d : List ℕ). CountsBefore (n ∷ ns) n d) b.1 (may.counted of.is))
          counted-now i m c (inl a) (inr b) = let lt = slice_get_within (synchronizations ns) i m a in let l = is.all.counts_len in let e = b.0 in absurd (omega arith)
          counted-now i m c (inr a) (inl b) = let lt = slice_get_within is.counts i c b in let l = is.all.counts_len in let e = a.0 in absurd (omega arith)

          described-now : (i : ℕ) (m : Node) (f : Event) → (slice_get (synchronizations ns) i ≡ Some m) ⊎ ((i ≡ length (synchronizations ns)) × (n ≡ m))
              → (slice_get ev.events.items i ≡ Some f) ⊎ ((i ≡ length ev.events.items) × (e ≡ f)) → IsEvent f (n ∷ ns) m
          described-now i m f (inl a) (inl b) = described_old.described i m f a b
          described-now i m f (inr a) (inr b) = subst (λ (k : Node). IsEvent f (n ∷ ns) k) a.1 (subst (λ (g : Event). IsEvent g (n ∷ ns) n) b.1 (own_event e of))
          described-now i m f (inl a) (inr b) = let lt = slice_get_within (synchronizations ns) i m a in let l = is.all.events_len in let z = b.0 in absurd (omega arith)
          described-now i m f (inr a) (inl b) = let lt = slice_get_within ev.events.items i f b in let l = is.all.events_len in let z = a.0 in absurd (omega arith)

      untaken : is.taken (0 + length (synchronizations ns)) ≡ false
      untaken = go (is.taken (0 + length (synchronizations ns))) refl
        where
          go : (b : Bool) → is.taken (0 + length (synchronizations ns)) ≡ b → is.taken (0 + length (synchronizations ns)) ≡ false
          go true t = absurd (let lt = (is.hanging.freed (0 + length (synchronizations ns)) t).0 in let l = is.all.counts_len in omega arith)
          go false t = t

      own_left : freed_by n ns now ≡ (if is_free_of (n ∷ ns) now n && not (is.taken (0 + length (synchronizations ns))) then n ∷ [] else [])
      own_left = ap (λ (b : Bool). if b && is_free_of (n ∷ ns) now n then n ∷ [] else []) of.is
          ∙ sym (ap (λ (b : Bool). if is_free_of (n ∷ ns) now n && not b then n ∷ [] else []) untaken ∙ ap (λ (b : Bool). if b then n ∷ [] else []) (and_true (is_free_of (n ∷ ns) now n)))
        where
          and_true : (b : Bool) → (b && true) ≡ b
          and_true true = refl
          and_true false = refl

      left_now : left ++ freed_by n ns now ≡ left_of (is_free_of (n ∷ ns) now) is.taken 0 (synchronizations ns ++ n ∷ [])
      left_now = ap (λ (ms : List Node). ms ++ freed_by n ns now) old_left ∙ ap (λ (ms : List Node). left_of (is_free_of (n ∷ ns) now) is.taken 0 (synchronizations ns) ++ ms) own_left
          ∙ sym (left_push (is_free_of (n ∷ ns) now) is.taken 0 (synchronizations ns) n)

-- four zeros
pub zeros : (q : ℕ) → q < 4 → slice_index (0 ∷ 0 ∷ 0 ∷ 0 ∷ []) q ≡ 0
zeros zero on = refl
zeros (suc zero) on = refl
zeros (suc (suc zero)) on = refl
zeros (suc (suc (suc zero))) on = refl
zeros (suc (suc (suc (suc q)))) on = absurd (omega arith)

-- a truth as a number
pub byte_is : (b : Bool) → bool_byte b ≡ (if b then 1 else 0)
byte_is true = refl
byte_is false = refl

pub byte_small : (b : Bool) → bool_byte b ≤ 1
byte_small true = omega arith
byte_small false = omega arith

-- no line has more nodes than there are
pub place-few : (ns : List Node) (l : Line) (k : ℕ) → place ns l k ≤ length ns
place-few [] l k = omega arith
place-few (n ∷ ns) l k = go (nat_lt n.number k && on_line l n) (place-few ns l k)
  where
    go : (b : Bool) → place ns l k ≤ length ns → (if b then place ns l k + 1 else place ns l k) ≤ length (n ∷ ns)
    go true le = omega arith
    go false le = omega arith

-- the same left, under another name
pub left_as : {ev : Events} (ns : List Node) (finished : Node → Bool) (a b : List Node) → b ≡ a → IsEvents ev ns finished a → IsEvents ev ns finished b
left_as {ev} ns finished a b same is = subst (λ (left : List Node). IsEvents ev ns finished left) (sym same) is
