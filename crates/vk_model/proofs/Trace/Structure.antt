-- Reference order is an ordered past. Other crates cite it.
use Rattle.std.proofs.Common.{◌≡◌, ◌⊎◌, inl, inr, ⊎_elim, ℕ, zero, suc, ◌+◌, ◌<◌, ◌≤◌, List, [], ◌∷◌, ◌++◌, length, reverse, Bool, true, false, not, ◌&&◌, ◌==◌, IsTrue, Option, Some, None, refl, ap, sym, ◌∙◌, subst, arith, slice_get}
use Rattle.std.specs.Prelude.{Contains, if◌then◌else◌}
use Rattle.std.specs.List.{filter, list_all, cons_option}
use Rattle.std.proofs.lemmas.Bool.{eq-eqb, or_parts}
use Rattle.std.proofs.lemmas.List.{append_assoc, append-nil, reverse-append}
use Rattle.std.proofs.lemmas.List.Elements.{Contains-append_cases, Contains-append_right}
use Rattle.vk_model.specs.declared.entry.Batch.{Batch}
use Rattle.vk_model.specs.declared.entry.Entry.{Entry}
use Rattle.vk_model.specs.declared.entry.Entry.TheVariants as entry
use Rattle.vk_model.specs.Basics.{among}
use Rattle.vk_model.specs.Trace.Point.{Point, Past, Action, Host, Wait, Run, Signal, host_of, entries}
use Rattle.vk_model.specs.Trace.Order.{SubmittedBatch, Front, host, actions, started, submitted_batch, batches_from, batches_of, is_met, same_batch, next_batch, start_batch, settled, after_entry, order_from, order}
use Rattle.vk_model.specs.Trace.Structure.{HasAction, turn, IsEarlier, by_entry, by_batch, by_turn, by_place, IsOfBatch, Follows, IsOrdered}
use Rattle.vk_model.specs.Rules.Fault.{Comes, newest, older}
use Rattle.vk_model.proofs.Lists.Members.{none_in, contains-cons, contains-head, contains-tail, filtered}
use Rattle.vk_model.proofs.Lists.Truths.{clash}
use Rattle.vk_model.proofs.Lists.Pairs.{Each, Pairs, each_append, each_map, each_has, each_from, pairs_append, append_pairs, pairs_filter}
use Rattle.vk_model.proofs.Trace.Orders.{its_own}
use Rattle.vk_model.proofs.Trace.Growing.{Grows, grows_too, old_or_new, Quiet, On, same_entries, started_grows, entries_after, order_grows, order_append}

-- ---- the points of an ordered past

-- a point adds an entry, or none
pub more_entries : (past : Past) (d : Action) → length (entries past) ≤ length (cons_option (host_of d) (entries past))
more_entries past (Host x) = omega arith
more_entries past _ = omega arith

-- the entry of a point is one of those so far
pub entry_below : (past : Past) → IsOrdered past → (p : Point) → Contains past p → p.entry < length (entries past)
entry_below [] o p c = absurd (none_in p c)
entry_below (q ∷ past) o p c = ⊎_elim (λ same. new (entry_below past o.1) same q.action refl o.0) (λ old. let lt = entry_below past o.1 p old in let le = more_entries past q.action in omega (arith, lt, le)) (contains-cons q past p c)
  where
    new : ((m : Point) → Contains past m → m.entry < length (entries past)) → q ≡ p → (d : Action) → q.action ≡ d → Follows past q d → p.entry < length (entries (q ∷ past))
    new below same (Host x) is f =
        let count : length (entries (q ∷ past)) ≡ suc (length (entries past)) = ap (λ (d : Action). length (cons_option (host_of d) (entries past))) is in
        let number : p.entry ≡ length (entries past) = ap (λ (m : Point). m.entry) (sym same ∙ f) in
        omega (arith, count, number)
    new below same _ is f =
        let lt = below (host q.entry (entry.Submit q.queue f.batches)) f.submitted in
        let le = more_entries past q.action in
        let number : p.entry ≡ q.entry = ap (λ (m : Point). m.entry) (sym same) in
        omega (arith, lt, le, number)

pub follows_at : (past before : Past) (p : Point) → IsOrdered past → Comes past before p → Follows before p p.action × IsOrdered before
follows_at past before p o newest = o
follows_at past before p o (older {past = rest} c) = follows_at rest before p o.1 c

follows_batch : (past : Past) (p : Point) (d : Action) → host_of d ≡ None → IsOfBatch past p → Follows past p d
follows_batch past p (Host x) quiet f = absurd cc
follows_batch past p _ quiet f = f

pub is_of_batch : (past : Past) (p : Point) (d : Action) → host_of d ≡ None → Follows past p d → IsOfBatch past p
is_of_batch past p (Host x) quiet f = absurd cc
is_of_batch past p _ quiet f = f

-- ---- a batch that is started

-- a point comes before place k of turn r of batch b of entry e
pub data Low (q : Point) (e b r k : ℕ) : Type 0 where
  entry_low : q.entry < e → Low q e b r k
  batch_low : q.entry ≡ e → q.batch < b → Low q e b r k
  turn_low : q.entry ≡ e → q.batch ≡ b → turn q.action < r → Low q e b r k
  place_low : q.entry ≡ e → q.batch ≡ b → turn q.action ≡ r → q.place < k → Low q e b r k

is_earlier : (q p : Point) → Low q p.entry p.batch (turn p.action) p.place → IsEarlier q p
is_earlier q p (entry_low e) = by_entry e
is_earlier q p (batch_low e b) = by_batch e b
is_earlier q p (turn_low e b r) = by_turn e b r
is_earlier q p (place_low e b r k) = by_place e b r k

next_place : (q : Point) (e b r k : ℕ) → Low q e b r k → Low q e b r (k + 1)
next_place q e b r k (entry_low x) = entry_low x
next_place q e b r k (batch_low x y) = batch_low x y
next_place q e b r k (turn_low x y z) = turn_low x y z
next_place q e b r k (place_low x y z w) = place_low x y z (omega (arith, w))

next_turn : (q : Point) (e b r k : ℕ) → Low q e b r k → Low q e b (suc r) 0
next_turn q e b r k (entry_low x) = entry_low x
next_turn q e b r k (batch_low x y) = batch_low x y
next_turn q e b r k (turn_low x y z) = turn_low x y (omega (arith, z))
next_turn q e b r k (place_low x y z w) = turn_low x y (omega (arith, z))

-- the points of the batch's queue so far come before place k of turn r of it
pub record Reaches (t : SubmittedBatch) (past : Past) (r k : ℕ) : Type 0 where
  pub ordered : IsOrdered past
  pub batches : List Batch
  pub submitted : Contains past (host t.entry (entry.Submit t.queue batches))
  pub listed : slice_get batches t.batch ≡ Some t.content
  pub low : (q : Point) → Contains past q → Quiet q → q.queue ≡ t.queue → Low q t.entry t.batch r k

actions_reach : {A : Type 0} (of : A → Action) → ((x : A) → host_of (of x) ≡ None) → (r : ℕ) → ((x : A) → turn (of x) ≡ r) → (t : SubmittedBatch) (k : ℕ) (xs : List A) (past : Past)
    → ((j : ℕ) (x : A) → slice_get xs j ≡ Some x → HasAction t.content (k + j) (of x)) → Reaches t past r k → Reaches t (actions of t k xs past) r (k + length xs)
actions_reach of quiet r turns t k [] past has reach = subst (λ (n : ℕ). Reaches t past r n) (let same : k ≡ k + 0 = omega arith in same) reach
actions_reach {A} of quiet r turns t k (x ∷ xs) past has reach =
    subst (λ (n : ℕ). Reaches t (actions of t (k + 1) xs (p ∷ past)) r n) (let same : (k + 1) + length xs ≡ k + suc (length xs) = omega arith in same)
    (actions_reach of quiet r turns t (k + 1) xs (p ∷ past) (λ j y e. subst (λ (n : ℕ). HasAction t.content n (of y)) (let same : k + suc j ≡ (k + 1) + j = omega arith in same) (has (suc j) y e)) next)
  where
    p : Point
    p = record { entry = t.entry; batch = t.batch; place = k; queue = t.queue; action = of x }

    new_low : (q : Point) → p ≡ q → Low q t.entry t.batch r (k + 1)
    new_low q e = place_low (ap (λ (m : Point). m.entry) (sym e)) (ap (λ (m : Point). m.batch) (sym e)) (ap (λ (m : Point). turn m.action) (sym e) ∙ turns x) (let same : q.place ≡ k = ap (λ (m : Point). m.place) (sym e) in omega (arith, same))

    of_batch : IsOfBatch past p
    of_batch = record {
      batches = reach.batches;
      batch = t.content;
      submitted = reach.submitted;
      listed = reach.listed;
      here = subst (λ (n : ℕ). HasAction t.content n (of x)) (let same : k + 0 ≡ k = omega arith in same) (has 0 x refl);
      in_order = λ q c h on. is_earlier q p (subst (λ (n : ℕ). Low q t.entry t.batch n k) (sym (turns x)) (reach.low q c h on));
    }

    next : Reaches t (p ∷ past) r (k + 1)
    next = record {
      ordered = (follows_batch past p (of x) (quiet x) of_batch, reach.ordered);
      batches = reach.batches;
      submitted = contains-tail p past _ reach.submitted;
      listed = reach.listed;
      low = λ q c h on. ⊎_elim (λ e. new_low q e) (λ old. next_place q t.entry t.batch r k (reach.low q old h on)) (contains-cons p past q c);
    }

turned : (t : SubmittedBatch) (past : Past) (r k : ℕ) → Reaches t past r k → Reaches t past (suc r) 0
turned t past r k reach = record {
  ordered = reach.ordered;
  batches = reach.batches;
  submitted = reach.submitted;
  listed = reach.listed;
  low = λ q c h on. next_turn q t.entry t.batch r k (reach.low q c h on);
}

pub started_reach : (t : SubmittedBatch) (past : Past) → Reaches t past 0 0 → Reaches t (started t past) 2 (0 + length t.content.signals)
started_reach t past reach =
    let waits = actions_reach Wait (λ x. refl) 0 (λ x. refl) t 0 t.content.waits past (λ j x e. subst (λ (n : ℕ). slice_get t.content.waits n ≡ Some x) (let same : j ≡ 0 + j = omega arith in same) e) reach in
    let commands = actions_reach Run (λ x. refl) 1 (λ x. refl) t 0 t.content.commands _ (λ j x e. subst (λ (n : ℕ). slice_get t.content.commands n ≡ Some x) (let same : j ≡ 0 + j = omega arith in same) e) (turned t _ 0 _ waits) in
    actions_reach Signal (λ x. refl) 2 (λ x. refl) t 0 t.content.signals _ (λ j x e. subst (λ (n : ℕ). slice_get t.content.signals n ≡ Some x) (let same : j ≡ 0 + j = omega arith in same) e) (turned t _ 1 _ commands)

-- ---- batches that wait

-- one batch is submitted before another
IsSooner : SubmittedBatch → SubmittedBatch → Type 0
IsSooner t u = (t.entry < u.entry) ⊎ (t.entry ≡ u.entry) × (t.batch < u.batch)

sooner_low : (q : Point) (t u : SubmittedBatch) (r k : ℕ) → IsSooner t u → Low q t.entry t.batch r k → Low q u.entry u.batch 0 0
unfolding IsSooner
sooner_low q t u r k (inl lt) (entry_low x) = entry_low (omega (arith, lt, x))
sooner_low q t u r k (inl lt) (batch_low x y) = entry_low (omega (arith, lt, x))
sooner_low q t u r k (inl lt) (turn_low x y z) = entry_low (omega (arith, lt, x))
sooner_low q t u r k (inl lt) (place_low x y z w) = entry_low (omega (arith, lt, x))
sooner_low q t u r k (inr s) (entry_low x) = let same = s.0 in entry_low (omega (arith, same, x))
sooner_low q t u r k (inr s) (batch_low x y) = let lt = s.1 in batch_low (x ∙ s.0) (omega (arith, lt, y))
sooner_low q t u r k (inr s) (turn_low x y z) = let lt = s.1 in batch_low (x ∙ s.0) (omega (arith, lt, y))
sooner_low q t u r k (inr s) (place_low x y z w) = let lt = s.1 in batch_low (x ∙ s.0) (omega (arith, lt, y))

-- a batch that waits was submitted, and no point of its queue is of it or a later one
record Waits (past : Past) (t : SubmittedBatch) : Type 0 where
  pub batches : List Batch
  pub submitted : Contains past (host t.entry (entry.Submit t.queue batches))
  pub listed : slice_get batches t.batch ≡ Some t.content
  pub low : (q : Point) → Contains past q → Quiet q → q.queue ≡ t.queue → Low q t.entry t.batch 0 0

-- the past is ordered, with so many entries, and the batches that wait are in the order of their submission
record Holds (e : ℕ) (f : Front) : Type 0 where
  pub ordered : IsOrdered f.past
  pub count : length (entries f.past) ≡ e
  pub waits : Each (Waits f.past) f.waiting
  pub lined : Pairs IsSooner f.waiting

-- the batch that is started is the first of its queue
record IsFirstOfQueue (queues : List ℕ) (t : SubmittedBatch) (ts : List SubmittedBatch) : Type 0 where
  pub front : List SubmittedBatch
  pub rest : List SubmittedBatch
  pub split : ts ≡ front ++ t ∷ rest
  pub others : Each (λ u. u.queue ≡ t.queue → ⊥) front
  pub free : among t.queue queues ≡ false

next_is_first : (past : Past) (queues : List ℕ) (ts : List SubmittedBatch) (t : SubmittedBatch) → next_batch past queues ts ≡ Some t → IsFirstOfQueue queues t ts
next_is_first past queues [] t e = absurd cc
next_is_first past queues (u ∷ us) t e = go (among u.queue queues) (list_all (is_met past) u.waits) refl e (next_is_first past (u.queue ∷ queues) us t)
  where
    apart : IsFirstOfQueue (u.queue ∷ queues) t us → IsFirstOfQueue queues t (u ∷ us)
    apart f =
        let parts = or_parts (t.queue == u.queue) (among t.queue queues) f.free in
        record {
          front = u ∷ f.front;
          rest = f.rest;
          split = ap (λ (l : List SubmittedBatch). u ∷ l) f.split;
          others = (λ same. clash {b = t.queue == u.queue} (eq-eqb t.queue u.queue (sym same)) parts.0, f.others);
          free = parts.1;
        }

    go : (a b : Bool) → among u.queue queues ≡ a → (if not a && b then Some u else next_batch past (u.queue ∷ queues) us) ≡ Some t
        → (next_batch past (u.queue ∷ queues) us ≡ Some t → IsFirstOfQueue (u.queue ∷ queues) t us) → IsFirstOfQueue queues t (u ∷ us)
    go false true is e rest = let same : u ≡ t = cc in record {
      front = [];
      rest = us;
      split = ap (λ (v : SubmittedBatch). v ∷ us) same;
      others = tt;
      free = ap (λ (v : SubmittedBatch). among v.queue queues) (sym same) ∙ is;
    }
    go false false is e rest = apart (rest e)
    go true b is e rest = apart (rest e)

module _ (e : ℕ) (f : Front) (s : Holds e f) (t : SubmittedBatch) (next : next_batch f.past [] f.waiting ≡ Some t) where
  first : IsFirstOfQueue [] t f.waiting
  first = next_is_first f.past [] f.waiting t next

  its_waits : Waits f.past t
  its_waits = each_has (Waits f.past) f.waiting t s.waits (subst (λ (l : List SubmittedBatch). Contains l t) (sym first.split) (Contains-append_right first.front (t ∷ first.rest) t (contains-head t first.rest)))

  reached : Reaches t (started t f.past) 2 (0 + length t.content.signals)
  reached = started_reach t f.past (record { ordered = s.ordered; batches = its_waits.batches; submitted = its_waits.submitted; listed = its_waits.listed; low = its_waits.low })

  grown : Grows (On t.queue) f.past (started t f.past)
  grown = started_grows t f.past

  -- another batch of its queue that still waits was submitted later
  sooner : (u : SubmittedBatch) → Contains f.waiting u → IsTrue (not (same_batch t u)) → u.queue ≡ t.queue → IsSooner t u
  sooner u c other on = ⊎_elim
      (λ before. absurd (each_has (λ u. u.queue ≡ t.queue → ⊥) first.front u first.others before on))
      (λ from. ⊎_elim
      (λ same. absurd (clash {b = not (same_batch t u)} other (ap not (subst (λ (v : SubmittedBatch). same_batch t v ≡ true) same (its_own t)))))
      (λ later. each_has (IsSooner t) first.rest u (append_pairs IsSooner first.front (t ∷ first.rest) (subst (λ (l : List SubmittedBatch). Pairs IsSooner l) first.split s.lined)).0.0 later)
      (contains-cons t first.rest u from))
      (Contains-append_cases first.front (t ∷ first.rest) u (subst (λ (l : List SubmittedBatch). Contains l u) first.split c))

  still_waits : (u : SubmittedBatch) → Contains (filter (λ v. not (same_batch t v)) f.waiting) u → Waits (started t f.past) u
  still_waits u c =
      let kept = filtered (λ v. not (same_batch t v)) f.waiting u c in
      let old = each_has (Waits f.past) f.waiting u s.waits kept.0 in record {
        batches = old.batches;
        submitted = subst (λ (l : Past). Contains l (host u.entry (entry.Submit u.queue old.batches))) (sym grown.whole) (Contains-append_right grown.newer f.past _ old.submitted);
        listed = old.listed;
        low = λ q cq quiet on. ⊎_elim
            (λ was. old.low q was quiet on)
            (λ new. sooner_low q t u 2 (0 + length t.content.signals) (sooner u kept.0 kept.1 (sym on ∙ new.1)) (reached.low q cq quiet new.1))
            (old_or_new (On t.queue) f.past (started t f.past) grown q cq);
      }

  started_holds : Holds e (start_batch (Some t) f)
  started_holds = record {
    ordered = reached.ordered;
    count = ap length (same_entries f.past (started t f.past) (grows_too (On t.queue) Quiet (λ p h. h.0) f.past (started t f.past) grown)) ∙ s.count;
    waits = each_from (Waits (started t f.past)) (filter (λ v. not (same_batch t v)) f.waiting) still_waits;
    lined = pairs_filter IsSooner (λ v. not (same_batch t v)) f.waiting s.lined;
  }

next_holds : (e : ℕ) (f : Front) → Holds e f → Holds e (start_batch (next_batch f.past [] f.waiting) f)
next_holds e f s = go (next_batch f.past [] f.waiting) refl
  where
    go : (o : Option SubmittedBatch) → next_batch f.past [] f.waiting ≡ o → Holds e (start_batch o f)
    go None is = s
    go (Some t) is = started_holds e f s t is

settled_holds : (e n : ℕ) (f : Front) → Holds e f → Holds e (settled n f)
settled_holds e zero f s = s
settled_holds e (suc n) f s = settled_holds e n (start_batch (next_batch f.past [] f.waiting) f) (next_holds e f s)

-- ---- entries that come

module _ (past : Past) (ordered : IsOrdered past) (e q : ℕ) (count : length (entries past) ≡ e) (all : List Batch) where
  abbrev with_submit : Past
  with_submit = host e (entry.Submit q all) ∷ past

  -- no point before it is of it
  pub new_low : (k : ℕ) (p : Point) → Contains with_submit p → Quiet p → Low p e k 0 0
  new_low k p c quiet = ⊎_elim
      (λ same. absurd (let none : host_of (host e (entry.Submit q all)).action ≡ None = ap (λ (m : Point). host_of m.action) same ∙ quiet in cc))
      (λ old. let lt = entry_below past ordered p old in entry_low (omega (arith, lt, count)))
      (contains-cons (host e (entry.Submit q all)) past p c)

  new_waits : (k : ℕ) (bs : List Batch) → ((j : ℕ) (b : Batch) → slice_get bs j ≡ Some b → slice_get all (k + j) ≡ Some b) → Each (Waits with_submit) (batches_from past e q k bs)
  new_waits k [] has = tt
  new_waits k (b ∷ bs) has = (
    record {
      batches = all;
      submitted = contains-head (host e (entry.Submit q all)) past;
      listed = subst (λ (n : ℕ). slice_get all n ≡ Some b) (let same : k + 0 ≡ k = omega arith in same) (has 0 b refl);
      low = λ p c quiet on. new_low k p c quiet;
    },
    new_waits (k + 1) bs (λ j c h. subst (λ (n : ℕ). slice_get all n ≡ Some c) (let same : k + suc j ≡ (k + 1) + j = omega arith in same) (has (suc j) c h)),
  )

later_batches : (past : Past) (e q k j : ℕ) (b : Batch) (bs : List Batch) → k < j → Each (IsSooner (submitted_batch past e q k b)) (batches_from past e q j bs)
unfolding IsSooner
later_batches past e q k j b [] lt = tt
later_batches past e q k j b (c ∷ bs) lt = (inr (refl, lt), later_batches past e q k (j + 1) b bs (omega arith))

new_lined : (past : Past) (e q k : ℕ) (bs : List Batch) → Pairs IsSooner (batches_from past e q k bs)
new_lined past e q k [] = tt
new_lined past e q k (b ∷ bs) = (later_batches past e q k (k + 1) b bs (omega arith), new_lined past e q (k + 1) bs)

all_of_entry : (past : Past) (e q k : ℕ) (bs : List Batch) → Each (λ u. u.entry ≡ e) (batches_from past e q k bs)
all_of_entry past e q k [] = tt
all_of_entry past e q k (b ∷ bs) = (refl, all_of_entry past e q (k + 1) bs)

module _ (e : ℕ) (f : Front) (s : Holds e f) where
  old_waits : (x : Entry) → Each (Waits (host e x ∷ f.past)) f.waiting
  old_waits x = each_map (Waits f.past) (Waits (host e x ∷ f.past)) f.waiting (λ u w. record {
    batches = w.batches;
    submitted = contains-tail (host e x) f.past _ w.submitted;
    listed = w.listed;
    low = λ q c quiet on. ⊎_elim
        (λ same. absurd (let none : host_of (host e x).action ≡ None = ap (λ (m : Point). host_of m.action) same ∙ quiet in cc))
        (λ old. w.low q old quiet on) (contains-cons (host e x) f.past q c);
  }) s.waits

  old_sooner : (q : ℕ) (bs : List Batch) → Each (λ u. Each (IsSooner u) (batches_from f.past e q 0 bs)) f.waiting
  unfolding IsSooner
  old_sooner q bs = each_map (Waits f.past) (λ u. Each (IsSooner u) (batches_from f.past e q 0 bs)) f.waiting
      (λ u w. let lt : u.entry < length (entries f.past) = entry_below f.past s.ordered (host u.entry (entry.Submit u.queue w.batches)) w.submitted in
      each_map (λ v. v.entry ≡ e) (IsSooner u) (batches_from f.past e q 0 bs) (λ v is. inl (let size = s.count in omega (arith, lt, size, is))) (all_of_entry f.past e q 0 bs)) s.waits

  with_entry : (x : Entry) → Holds (e + 1) (record { past = host e x ∷ f.past; waiting = f.waiting ++ batches_of f.past e x })
  with_entry x = record {
    ordered = (ap (λ (n : ℕ). host n x) (sym s.count), s.ordered);
    count = let size = s.count in omega (arith, size);
    waits = each_append (Waits (host e x ∷ f.past)) f.waiting (batches_of f.past e x) (old_waits x) (come x);
    lined = line x;
  }
    where
      come : (y : Entry) → Each (Waits (host e y ∷ f.past)) (batches_of f.past e y)
      come (entry.Submit q bs) = new_waits f.past s.ordered e q s.count bs 0 bs (λ j b h. subst (λ (n : ℕ). slice_get bs n ≡ Some b) (let same : j ≡ 0 + j = omega arith in same) h)
      come _ = tt

      line : (y : Entry) → Pairs IsSooner (f.waiting ++ batches_of f.past e y)
      line (entry.Submit q bs) = pairs_append IsSooner f.waiting (batches_from f.past e q 0 bs) s.lined (new_lined f.past e q 0 bs) (old_sooner q bs)
      line _ = pairs_append IsSooner f.waiting [] s.lined tt (each_from (λ u. Each (IsSooner u) []) f.waiting (λ u c. tt))

  after_holds : (x : Entry) → Holds (e + 1) (after_entry e x f)
  after_holds x =
      let waiting = f.waiting ++ batches_of f.past e x in
      settled_holds (e + 1) (length waiting) (record { past = host e x ∷ f.past; waiting = waiting }) (with_entry x)

order_holds : (e : ℕ) (f : Front) (xs : List Entry) → Holds e f → Holds (e + length xs) (order_from e f xs)
order_holds e f [] s = subst (λ (n : ℕ). Holds n f) (let same : e ≡ e + 0 = omega arith in same) s
order_holds e f (x ∷ xs) s =
    subst (λ (n : ℕ). Holds n (order_from (e + 1) (after_entry e x f) xs)) (let same : (e + 1) + length xs ≡ e + suc (length xs) = omega arith in same)
    (order_holds (e + 1) (after_entry e x f) xs (after_holds e f s x))

pub order_ordered : (t : List Entry) → IsOrdered (order t)
order_ordered t = (order_holds 0 (record { past = []; waiting = [] }) t (record { ordered = tt; count = refl; waits = tt; lined = tt })).ordered

-- ---- the entries of a trace

order_entries : (e : ℕ) (f : Front) (xs : List Entry) → entries (order_from e f xs).past ≡ reverse xs ++ entries f.past
order_entries e f [] = refl
order_entries e f (x ∷ xs) =
    order_entries (e + 1) (after_entry e x f) xs ∙ ap (λ (l : List Entry). reverse xs ++ l) (entries_after e x f)
    ∙ sym (append_assoc (reverse xs) (x ∷ []) (entries f.past)) ∙ ap (λ (l : List Entry). l ++ entries f.past) (sym (reverse-append (x ∷ []) xs))

pub order_has_entries : (t : List Entry) → entries (order t) ≡ reverse t
order_has_entries t = order_entries 0 (record { past = []; waiting = [] }) t ∙ append-nil (reverse t)

pub order_grows_on : (t more : List Entry) → (newer : Past) × (order (t ++ more) ≡ newer ++ order t)
order_grows_on t more =
    let empty : Front = record { past = []; waiting = [] } in
    let g = order_grows (0 + length t) (order_from 0 empty t) more in
    (g.0, ap (λ (f : Front). f.past) (order_append 0 empty t more) ∙ g.1)
