-- The lines of all queues: when a batch is taken out, and when batches come.
use Rattle.std.proofs.Common.{◌≡◌, ◌≢◌, ◌⊎◌, inl, inr, ⊎_elim, ℕ, ◌+◌, ◌<◌, ◌≤◌, length, List, [], ◌∷◌, ◌++◌, map, set, Bool, true, false, not, refl, ap, sym, ◌∙◌, subst, arith, Option, Some, None, slice_get, take, append-nil}
use Rattle.std.specs.Prelude.{Contains, ◌==◌, if◌then◌else◌}
use Rattle.std.specs.List.{filter, list_all}
use Rattle.std.proofs.lemmas.Bool.{eqb-true, eqb-false, eq-eqb, ne_eqb}
use Rattle.std.proofs.lemmas.List.Elements.{filter-append, Contains-append_cases}
use Rattle.std.proofs.lemmas.List.{map-append}
use Rattle.std.proofs.lemmas.Option.{slice_get-map, slice_get_within}
use Rattle.vk_model.specs.declared.entry.Batch.{Batch}
use Rattle.vk_model.specs.declared.entry.SemaphoreSubmit.{SemaphoreSubmit}
use Rattle.vk_model.specs.Trace.Point.{Past}
use Rattle.vk_model.specs.Trace.Order.{SubmittedBatch, is_met, next_batch, same_batch, batches_from, submitted_batch}
use Rattle.vk_model.proofs.Lists.Members.{none_in, contains-cons, contains-head, filtered}
use Rattle.vk_queues.specs.declared.lines.Submission.{Submission}
use Rattle.vk_queues.specs.declared.lines.Line.{Line}
use Rattle.vk_queues.specs.declared.lines.Candidate.{Candidate}
use Rattle.vk_queues.specs.Inner.Lined.{Precedes, submission_of, IsRising, ready_submission, Queued, IsLined, IsBest, AreFirstMet, AreMet, AreAllMet, batches_on, queued, submissions}
use Rattle.vk_queues.proofs.Lists.{set_cases, set_here, set_there, filter_none, filter_wider, filter_swap, list_all_wider}
use Rattle.vk_queues.proofs.NextBatch.{on, without, without_first, none_next, some_next, rising_filter, one_of_submission}
use Rattle.vk_model.proofs.Lists.Items.{push_cases, push_old, filter_each}

-- ---- one line changes

module _ (lines : List Queued) (k : ℕ) (v w : Queued) (old new : List SubmittedBatch) (there : slice_get lines k ≡ Some v) (queue : w.queue ≡ v.queue) (lined : IsLined lines old)
    (here : filter (on v.queue) new ≡ w.batches) (others : (q : ℕ) → q ≢ v.queue → filter (on q) new ≡ filter (on q) old)
    (from : (t : SubmittedBatch) → Contains new t → Contains old t ⊎ (t.queue ≡ v.queue)) where
  line_of : (j : ℕ) (u : Queued) → slice_get (set lines k w) j ≡ Some u → (x : Queued) × (slice_get lines j ≡ Some x) × (x.queue ≡ u.queue)
  line_of j u at = elim (set_cases lines k j w u at) [
    | inl same ↦ (v, ap (λ (i : ℕ). slice_get lines i) same.0 ∙ there, sym queue ∙ ap (λ (x : Queued). x.queue) (sym same.1))
    | inr other ↦ (u, other.1, refl)
  ]

  line_at : (j : ℕ) (x : Queued) → slice_get lines j ≡ Some x → (u : Queued) × (slice_get (set lines k w) j ≡ Some u) × (u.queue ≡ x.queue)
  line_at j x at = go (j == k) refl where
    go : (b : Bool) → (j == k) ≡ b → (u : Queued) × (slice_get (set lines k w) j ≡ Some u) × (u.queue ≡ x.queue)
    go true e =
        let same : j ≡ k = eqb-true j k e in
        let is : x ≡ v = let s : Some x ≡ Some v = sym at ∙ ap (λ (i : ℕ). slice_get lines i) same ∙ there in cc in
        (w, ap (λ (i : ℕ). slice_get (set lines k w) i) same ∙ set_here lines k w v there, queue ∙ ap (λ (y : Queued). y.queue) (sym is))
    go false e = (x, set_there lines k j w x (eqb-false j k e) at, refl)

  pub lined_set : IsLined (set lines k w) new
  lined_set = record {
    each = λ j u at. elim (set_cases lines k j w u at) [
      | inl same ↦ ap (λ (q : ℕ). filter (on q) new) (ap (λ (x : Queued). x.queue) same.1 ∙ queue) ∙ here ∙ ap (λ (x : Queued). x.batches) (sym same.1)
      | inr other ↦ others u.queue (λ same. other.0 (lined.apart j k u v other.1 there same)) ∙ lined.each j u other.1
    ];
    all = λ t c. elim (from t c) [
      | inl early ↦ (let x = lined.all t early in let u = line_at x.0 x.1 x.2 in (x.0, u.0, u.1, u.2 ∙ x.3))
      | inr mine ↦ (k, w, set_here lines k w v there, queue ∙ sym mine)
    ];
    apart = λ i j a b x y same. let c = line_of i a x in let d = line_of j b y in lined.apart i j c.0 d.0 c.1 d.1 (c.2 ∙ same ∙ sym d.2);
  }

-- a line for a queue that had none
pub lined_push : (lines : List Queued) (q : ℕ) (waiting : List SubmittedBatch) → IsLined lines waiting → ((k : ℕ) (v : Queued) → slice_get lines k ≡ Some v → v.queue ≢ q)
    → IsLined (lines ++ record { queue = q; batches = [] } ∷ []) waiting
lined_push lines q waiting lined free =
    let e : Queued = record { queue = q; batches = [] } in record {
      each = λ j u at. elim (push_cases lines e u j at) [
        | inl old ↦ lined.each j u old
        | inr new ↦ subst (λ (x : Queued). filter (on x.queue) waiting ≡ x.batches) new.1
            (filter_none (on q) waiting (λ t c. let x = lined.all t c in ne_eqb t.queue q (λ same. free x.0 x.1 x.2 (x.3 ∙ same))))
      ];
      all = λ t c. let x = lined.all t c in (x.0, x.1, push_old lines e x.1 x.0 x.2, x.3);
      apart = λ i j a b x y same. elim (push_cases lines e a i x) [
        | inl m ↦ elim (push_cases lines e b j y) [
          | inl n ↦ lined.apart i j a b m n same
          | inr n ↦ absurd (free i a m (same ∙ ap (λ (z : Queued). z.queue) (sym n.1)))
        ]
        | inr m ↦ elim (push_cases lines e b j y) [
          | inl n ↦ absurd (free j b n (sym same ∙ ap (λ (z : Queued). z.queue) (sym m.1)))
          | inr n ↦ m.0 ∙ sym n.0
        ]
      ];
    }

-- ---- a batch is taken out

module _ (lines : List Queued) (k : ℕ) (v : Queued) (waiting : List SubmittedBatch) (t : SubmittedBatch) (rest : List SubmittedBatch)
    (there : slice_get lines k ≡ Some v) (is : v.batches ≡ t ∷ rest) (lined : IsLined lines waiting) (rising : IsRising waiting) where
  its_line : filter (on v.queue) waiting ≡ t ∷ rest
  its_line = lined.each k v there ∙ is

  its_place : Contains waiting t × ((t.queue == v.queue) ≡ true)
  its_place = filtered (on v.queue) waiting t (subst (λ (l : List SubmittedBatch). Contains l t) (sym its_line) (contains-head t rest))

  pub its_queue : t.queue ≡ v.queue
  its_queue = eqb-true t.queue v.queue its_place.1

  in_line : IsRising (t ∷ rest)
  in_line = subst IsRising its_line (rising_filter (on v.queue) waiting rising)

  left_here : filter (on v.queue) (without t waiting) ≡ rest
  left_here = filter_swap (on v.queue) (λ u. not (same_batch t u)) waiting ∙ ap (without t) its_line ∙ without_first t rest in_line

  left_there : (q : ℕ) → q ≢ v.queue → filter (on q) (without t waiting) ≡ filter (on q) waiting
  left_there q ne = filter_wider (λ u. not (same_batch t u)) (on q) waiting (λ u c of_q. ap not (other u c of_q)) where
    other : (u : SubmittedBatch) → Contains waiting u → on q u ≡ true → same_batch t u ≡ false
    other u c of_q = go (same_batch t u) refl where
      go : (b : Bool) → same_batch t u ≡ b → b ≡ false
      go true e = absurd (ne (sym (eqb-true u.queue q of_q) ∙ ap (λ (x : SubmittedBatch). x.queue) (one_of_submission waiting t u rising its_place.0 c e) ∙ its_queue))
      go false e = refl

  pub lined_taken : (w : Queued) → w.queue ≡ v.queue → w.batches ≡ rest → IsLined (set lines k w) (without t waiting)
  lined_taken w queue left = lined_set lines k v w waiting (without t waiting) there queue lined (left_here ∙ sym left) left_there (λ u c. inl (filtered (λ u. not (same_batch t u)) waiting u c).0)

-- ---- batches that come

pub from_batches : (past : Past) (e q k : ℕ) (bs : List Batch) (u : SubmittedBatch) → Contains (batches_from past e q k bs) u → (u.entry ≡ e) × (u.queue ≡ q) × (k ≤ u.batch)
from_batches past e q k [] u c = absurd (none_in u c)
from_batches past e q k (b ∷ bs) u c = elim (contains-cons (submitted_batch past e q k b) (batches_from past e q (k + 1) bs) u c) [
  | inl same ↦ (ap (λ (x : SubmittedBatch). x.entry) (sym same), ap (λ (x : SubmittedBatch). x.queue) (sym same), let is : k ≡ u.batch = ap (λ (x : SubmittedBatch). x.batch) same in omega arith)
  | inr later ↦ (let x = from_batches past e q (k + 1) bs u later in let le = x.2 in (x.0, x.1, omega arith))
]

pub rising_batches : (past : Past) (e q k : ℕ) (bs : List Batch) → IsRising (batches_from past e q k bs)
rising_batches past e q k [] = tt
rising_batches past e q k (b ∷ bs) = (λ u c. let x = from_batches past e q (k + 1) bs u c in let le = x.2 in inr (sym x.0, omega arith), rising_batches past e q (k + 1) bs)

pub lined_submit : (lines : List Queued) (k : ℕ) (v w : Queued) (waiting : List SubmittedBatch) (past : Past) (e : ℕ) (bs : List Batch) → slice_get lines k ≡ Some v → w.queue ≡ v.queue
    → IsLined lines waiting → w.batches ≡ v.batches ++ batches_from past e v.queue 0 bs → IsLined (set lines k w) (waiting ++ batches_from past e v.queue 0 bs)
lined_submit lines k v w waiting past e bs there queue lined is =
    let more : List SubmittedBatch = batches_from past e v.queue 0 bs in
    lined_set lines k v w waiting (waiting ++ more) there queue lined
    (filter-append (on v.queue) waiting more ∙ ap (λ (l : List SubmittedBatch). l ++ filter (on v.queue) more) (lined.each k v there)
    ∙ ap (λ (l : List SubmittedBatch). v.batches ++ l) (filter_each (on v.queue) more (λ u c. eq-eqb u.queue v.queue (from_batches past e v.queue 0 bs u c).1)) ∙ sym is)
    (λ q ne. filter-append (on q) waiting more ∙ ap (λ (l : List SubmittedBatch). filter (on q) waiting ++ l) (filter_none (on q) more (λ u c. ne_eqb u.queue q (λ same. ne (sym same ∙ (from_batches past e v.queue 0 bs u c).1))))
    ∙ append-nil (filter (on q) waiting))
    (λ t c. ⊎_elim (λ old. inl old) (λ new. inr (from_batches past e v.queue 0 bs t new).1) (Contains-append_cases waiting more t c))

-- ---- the line that is next

pub submission_at : (past : Past) (lines : List Queued) (k : ℕ) (v : Queued) → slice_get lines k ≡ Some v → slice_get (submissions past lines) k ≡ Some (ready_submission past v.batches)
submission_at past lines k v at = slice_get-map (λ (x : Queued). ready_submission past x.batches) lines k ∙ ap (Rattle.std.specs.Option.option_map (λ (x : Queued). ready_submission past x.batches)) at

-- the queue of a batch that is ready has a line, whose first it is
module _ (past : Past) (lines : List Queued) (waiting : List SubmittedBatch) (lined : IsLined lines waiting) where
  ready_line : (q : ℕ) (u : Submission) → ready_submission past (filter (on q) waiting) ≡ Some u → (k : ℕ) × (v : Queued) × (slice_get lines k ≡ Some v) × (ready_submission past v.batches ≡ Some u)
  ready_line q u ready = go (filter (on q) waiting) refl ready where
    go : (ts : List SubmittedBatch) → filter (on q) waiting ≡ ts → ready_submission past ts ≡ Some u → (k : ℕ) × (v : Queued) × (slice_get lines k ≡ Some v) × (ready_submission past v.batches ≡ Some u)
    go [] is bad = absurd cc
    go (t ∷ ts) is submission =
        let place = filtered (on q) waiting t (subst (λ (l : List SubmittedBatch). Contains l t) (sym is) (contains-head t ts)) in
        let x = lined.all t place.0 in
        let of_q : x.1.queue ≡ q = x.3 ∙ eqb-true t.queue q place.1 in
        (x.0, x.1, x.2, ap (ready_submission past) (sym (lined.each x.0 x.1 x.2) ∙ ap (λ (r : ℕ). filter (on r) waiting) of_q ∙ is) ∙ submission)

  pub none_is_next : IsBest (submissions past lines) (length lines) None → next_batch past [] waiting ≡ None
  none_is_next none = none_next past [] waiting (λ q free. go q (ready_submission past (filter (on q) waiting)) refl) where
    go : (q : ℕ) (o : Option Submission) → ready_submission past (filter (on q) waiting) ≡ o → o ≡ None
    go q None e = refl
    go q (Some u) e = absurd (let x = ready_line q u e in none x.0 u (slice_get_within lines x.0 x.1 x.2) (submission_at past lines x.0 x.1 x.2 ∙ ap Some x.3))

  module _ (rising : IsRising waiting) (c : Candidate) (best : IsBest (submissions past lines) (length lines) (Some c)) (v : Queued) (there : slice_get lines c.line ≡ Some v) where
    its_submission : ready_submission past v.batches ≡ Some c.submission
    its_submission = let is : Some (ready_submission past v.batches) ≡ Some (Some c.submission) = sym (submission_at past lines c.line v there) ∙ best.0 in cc

    -- the first batch of the line that is best is started next
    pub best_is_next : (t : SubmittedBatch) × (rest : List SubmittedBatch) × (v.batches ≡ t ∷ rest) × (next_batch past [] waiting ≡ Some t)
    best_is_next = go v.batches refl its_submission where
      go : (ts : List SubmittedBatch) → v.batches ≡ ts → ready_submission past ts ≡ Some c.submission → (t : SubmittedBatch) × (rest : List SubmittedBatch) × (v.batches ≡ t ∷ rest) × (next_batch past [] waiting ≡ Some t)
      go [] is submission = absurd cc
      go (t ∷ rest) is submission = ready (list_all (is_met past) t.waits) refl submission where
        ready : (b : Bool) → list_all (is_met past) t.waits ≡ b → (if b then Some (submission_of t) else None) ≡ Some c.submission → (t : SubmittedBatch) × (rest : List SubmittedBatch) × (v.batches ≡ t ∷ rest) × (next_batch past [] waiting ≡ Some t)
        ready false met bad = absurd cc
        ready true met same_submission =
            let same : submission_of t ≡ c.submission = cc in
            let queue : t.queue ≡ v.queue = its_queue lines c.line v waiting t rest there is lined rising in (
              t,
              rest,
              is,
              some_next past [] waiting t rest rising refl (ap (λ (q : ℕ). filter (on q) waiting) queue ∙ lined.each c.line v there ∙ is) met
                  (λ q u free submission before. let x = ready_line q u submission in
                  best.1 x.0 u (slice_get_within lines x.0 x.1 x.2) (submission_at past lines x.0 x.1 x.2 ∙ ap Some x.3) (subst (Precedes u) same before)),
            )

-- ---- what is known to be met

pub met_wider : (past now : Past) (met : ℕ) (ts : List SubmittedBatch) → ((w : SemaphoreSubmit) → is_met past w ≡ true → is_met now w ≡ true) → AreFirstMet past met ts → AreFirstMet now met ts
met_wider past now met [] wider h = h
met_wider past now met (t ∷ ts) wider h = list_all_wider (is_met past) (is_met now) (take met t.waits) wider h

pub none_met : (past : Past) (ts : List SubmittedBatch) → AreFirstMet past 0 ts
none_met past [] = refl
none_met past (t ∷ ts) = refl

pub met_submit : (past : Past) (met : ℕ) (ts us : List SubmittedBatch) → AreFirstMet past met ts → AreFirstMet past met (ts ++ us)
met_submit past met [] us h = subst (λ (n : ℕ). AreFirstMet past n us) (sym h) (none_met past us)
met_submit past met (t ∷ ts) us h = h

-- ---- the lines of the code

pub met_set : (past : Past) (lines : List Line) (k : ℕ) (new : Line) → AreAllMet past lines → AreMet past new → AreAllMet past (set lines k new)
met_set past lines k new old met = λ j l at. elim (set_cases lines k j new l at) [
  | inl same ↦ subst (AreMet past) (sym same.1) met
  | inr other ↦ old j l other.1
]

pub met_push : (past : Past) (lines : List Line) (new : Line) → AreAllMet past lines → new.met ≡ 0 → AreAllMet past (lines ++ new ∷ [])
met_push past lines new old met = λ j l at. elim (push_cases lines new l j at) [
  | inl early ↦ old j l early
  | inr late ↦ subst (AreMet past) late.1 (subst (λ (n : ℕ). AreFirstMet past n (batches_on new)) (sym met) (none_met past (batches_on new)))
]

-- where no line knows anything
pub met_nowhere : (past : Past) (lines : List Line) → ((k : ℕ) (l : Line) → k < length lines → slice_get lines k ≡ Some l → l.met ≡ 0) → AreAllMet past lines
met_nowhere past lines none = λ k l at. subst (λ (n : ℕ). AreFirstMet past n (batches_on l)) (sym (none k l (slice_get_within lines k l at) at)) (none_met past (batches_on l))

pub queued_at : (lines : List Line) (k : ℕ) (l : Line) → slice_get lines k ≡ Some l → slice_get (map queued lines) k ≡ Some (queued l)
queued_at lines k l at = slice_get-map queued lines k ∙ ap (Rattle.std.specs.Option.option_map queued) at

pub lined_line : (lines : List Line) (new : Line) (q : ℕ) (waiting : List SubmittedBatch) → ((k : ℕ) (l : Line) → slice_get lines k ≡ Some l → l.queue ≢ q) → new.queue ≡ q → batches_on new ≡ []
    → IsLined (map queued lines) waiting → IsLined (map queued (lines ++ new ∷ [])) waiting
lined_line lines new q waiting free queue batches lined =
    let e : Queued = record { queue = q; batches = [] } in
    let is : queued new ≡ e = rw (queue, batches) refl in
    subst (λ (l : List Queued). IsLined l waiting) (sym (map-append queued lines (new ∷ []) ∙ ap (λ (v : Queued). map queued lines ++ v ∷ []) is))
    (lined_push (map queued lines) q waiting lined (λ k v at. go k v at (slice_get lines k) refl))
  where
    go : (k : ℕ) (v : Queued) → slice_get (map queued lines) k ≡ Some v → (o : Option Line) → slice_get lines k ≡ o → v.queue ≢ q
    go k v at None e = absurd (let bad : None ≡ Some v = sym (slice_get-map queued lines k ∙ ap (Rattle.std.specs.Option.option_map queued) e) ∙ at in cc)
    go k v at (Some l) e = λ same. free k l e (let is : queued l ≡ v = (let s : Some (queued l) ≡ Some v = sym (queued_at lines k l e) ∙ at in cc) in ap (λ (x : Queued). x.queue) is ∙ same)
