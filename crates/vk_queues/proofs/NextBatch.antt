-- Which of the batches that wait is started next, by the first batches of the queues.
use Rattle.std.proofs.Common.{◌≡◌, ◌⊎◌, inl, inr, ⊎_elim, ℕ, length, List, [], ◌∷◌, ◌++◌, Bool, true, false, cond, not, refl, ap, sym, ◌∙◌, subst, arith, Some, None, suc}
use Rattle.std.specs.Prelude.{Contains, ◌==◌, ◌&&◌, if◌then◌else◌}
use Rattle.std.specs.List.{filter, list_all}
use Rattle.std.proofs.lemmas.Bool.{eqb-true, eqb-false, eq-eqb, ne_eqb, and_parts, or_parts}
use Rattle.std.proofs.lemmas.List.Elements.{Contains-append_cases}
use Rattle.vk_model.specs.Basics.{among}
use Rattle.vk_model.specs.Trace.Point.{Past}
use Rattle.vk_model.specs.Trace.Order.{SubmittedBatch, is_met, next_batch, same_batch}
use Rattle.vk_model.proofs.Lists.Members.{none_in, contains-cons, contains-head, contains-tail, filtered}
use Rattle.vk_model.proofs.Trace.Orders.{its_own}
use Rattle.vk_queues.specs.declared.lines.Submission.{Submission}
use Rattle.vk_queues.specs.Inner.Lined.{Precedes, submission_of, IsRising, ready_submission}
use Rattle.vk_model.proofs.Lists.Items.{filter_each}

-- ---- the order of submission

pub not_before_itself : (t u : Submission) → Precedes t u → t.entry ≡ u.entry → t.batch ≡ u.batch → ⊥
not_before_itself t u (inl lt) e b = omega arith
not_before_itself t u (inr s) e b = let lt = s.1 in omega arith

-- of two batches in their order, the same one is the same
pub same_submission : (t u : SubmittedBatch) → same_batch t u ≡ true → (t.entry ≡ u.entry) × (t.batch ≡ u.batch)
same_submission t u e = let parts = and_parts (t.entry == u.entry) (t.batch == u.batch) e in (eqb-true t.entry u.entry parts.0, eqb-true t.batch u.batch parts.1)

pub other_batch : (t u : SubmittedBatch) → Precedes (submission_of t) (submission_of u) → same_batch t u ≡ false
other_batch t u before = go (same_batch t u) refl where
  go : (b : Bool) → same_batch t u ≡ b → b ≡ false
  go true e = let same = same_submission t u e in absurd (not_before_itself (submission_of t) (submission_of u) before same.0 same.1)
  go false e = refl

pub other_before : (t u : SubmittedBatch) → Precedes (submission_of u) (submission_of t) → same_batch t u ≡ false
other_before t u before = go (same_batch t u) refl where
  go : (b : Bool) → same_batch t u ≡ b → b ≡ false
  go true e = let same = same_submission t u e in absurd (not_before_itself (submission_of u) (submission_of t) before (sym same.0) (sym same.1))
  go false e = refl

-- a batch is found by when it was submitted
pub one_of_submission : (ts : List SubmittedBatch) (t u : SubmittedBatch) → IsRising ts → Contains ts t → Contains ts u → same_batch t u ≡ true → u ≡ t
one_of_submission [] t u rising c d same = absurd (none_in t c)
one_of_submission (x ∷ xs) t u rising c d same = go (contains-cons x xs t c) (contains-cons x xs u d) (λ a b. one_of_submission xs t u rising.1 a b same)
  where
    go : (x ≡ t) ⊎ Contains xs t → (x ≡ u) ⊎ Contains xs u → (Contains xs t → Contains xs u → u ≡ t) → u ≡ t
    go (inl a) (inl b) rest = sym b ∙ a
    go (inl a) (inr b) rest = absurd (let no : same_batch t u ≡ false = other_batch t u (subst (λ (v : SubmittedBatch). Precedes (submission_of v) (submission_of u)) a (rising.0 u b)) in cc)
    go (inr a) (inl b) rest = absurd (let no : same_batch t u ≡ false = other_before t u (subst (λ (v : SubmittedBatch). Precedes (submission_of v) (submission_of t)) b (rising.0 t a)) in cc)
    go (inr a) (inr b) rest = rest a b

pub rising_filter : (f : SubmittedBatch → Bool) (ts : List SubmittedBatch) → IsRising ts → IsRising (filter f ts)
rising_filter f [] rising = tt
rising_filter f (t ∷ ts) rising = go (f t) (rising_filter f ts rising.1) where
  go : (b : Bool) → IsRising (filter f ts) → IsRising (cond b (t ∷ filter f ts) (filter f ts))
  go true rest = (λ u c. rising.0 u (filtered f ts u c).0, rest)
  go false rest = rest

pub rising_append : (ts us : List SubmittedBatch) → IsRising ts → IsRising us → ((t u : SubmittedBatch) → Contains ts t → Contains us u → Precedes (submission_of t) (submission_of u)) → IsRising (ts ++ us)
rising_append [] us a b across = b
rising_append (t ∷ ts) us a b across = (
  λ u c. ⊎_elim (λ early. a.0 u early) (λ late. across t u (contains-head t ts) late) (Contains-append_cases ts us u c),
  rising_append ts us a.1 b (λ x u c d. across x u (contains-tail t ts x c) d),
)

-- ---- the first batches of the queues

abbrev pub on : ℕ → SubmittedBatch → Bool
on q t = t.queue == q

-- where no first batch of a queue can be started, none is
pub none_next : (past : Past) (queues : List ℕ) (ts : List SubmittedBatch) → ((q : ℕ) → among q queues ≡ false → ready_submission past (filter (on q) ts) ≡ None) → next_batch past queues ts ≡ None
none_next past queues [] none = refl
none_next past queues (u ∷ us) none = go (among u.queue queues) (list_all (is_met past) u.waits) refl refl (none_next past (u.queue ∷ queues) us later)
  where
    later : (q : ℕ) → among q (u.queue ∷ queues) ≡ false → ready_submission past (filter (on q) us) ≡ None
    later q free =
        let parts = or_parts (q == u.queue) (among q queues) free in
        let apart : (u.queue == q) ≡ false = ne_eqb u.queue q (λ same. eqb-false q u.queue parts.0 (sym same)) in
        rw apart at (none q parts.1)

    go : (b d : Bool) → among u.queue queues ≡ b → list_all (is_met past) u.waits ≡ d → next_batch past (u.queue ∷ queues) us ≡ None
        → (if not b && d then Some u else next_batch past (u.queue ∷ queues) us) ≡ None
    go true d e h rest = rest
    go false false e h rest = rest
    go false true e h rest = absurd (let bad : Some (submission_of u) ≡ None = rw (eq-eqb u.queue u.queue refl, h) at (none u.queue e) in cc)

-- the first batch of a queue that can be started, and before which none can be, is
pub some_next : (past : Past) (queues : List ℕ) (ts : List SubmittedBatch) (t : SubmittedBatch) (rest : List SubmittedBatch) → IsRising ts → among t.queue queues ≡ false
    → filter (on t.queue) ts ≡ t ∷ rest → list_all (is_met past) t.waits ≡ true
    → ((q : ℕ) (u : Submission) → among q queues ≡ false → ready_submission past (filter (on q) ts) ≡ Some u → Precedes u (submission_of t) → ⊥) → next_batch past queues ts ≡ Some t
some_next past queues [] t rest rising free is met least = absurd cc
some_next past queues (u ∷ us) t rest rising free is met least = by_queue (u.queue == t.queue) refl is (some_next past (u.queue ∷ queues) us t rest rising.1)
  where
    later : (q : ℕ) → among q (u.queue ∷ queues) ≡ false → (among q queues ≡ false) × ((u.queue == q) ≡ false)
    later q f =
        let parts = or_parts (q == u.queue) (among q queues) f in
        (parts.1, ne_eqb u.queue q (λ same. eqb-false q u.queue parts.0 (sym same)))

    by_queue : (b : Bool) → (u.queue == t.queue) ≡ b → cond b (u ∷ filter (on t.queue) us) (filter (on t.queue) us) ≡ t ∷ rest
        → (among t.queue (u.queue ∷ queues) ≡ false → filter (on t.queue) us ≡ t ∷ rest → list_all (is_met past) t.waits ≡ true
        → ((q : ℕ) (v : Submission) → among q (u.queue ∷ queues) ≡ false → ready_submission past (filter (on q) us) ≡ Some v → Precedes v (submission_of t) → ⊥) → next_batch past (u.queue ∷ queues) us ≡ Some t)
        → next_batch past queues (u ∷ us) ≡ Some t
    by_queue true e here next =
        let same : u ≡ t = cc in
        rw (ap (λ (v : SubmittedBatch). among v.queue queues) same ∙ free, ap (λ (v : SubmittedBatch). list_all (is_met past) v.waits) same ∙ met) (ap Some same)
    by_queue false e here next =
        let there : Contains us t = (filtered (on t.queue) us t (subst (λ (l : List SubmittedBatch). Contains l t) (sym here) (contains-head t rest))).0 in
        let apart : (t.queue == u.queue) ≡ false = ne_eqb t.queue u.queue (λ same. eqb-false u.queue t.queue e (sym same)) in
        go (among u.queue queues) (list_all (is_met past) u.waits) refl refl there
        (next (rw apart free) here met (λ q v f ready before. let parts = later q f in least q v parts.0 (rw parts.1 ready) before))
      where
        go : (b d : Bool) → among u.queue queues ≡ b → list_all (is_met past) u.waits ≡ d → Contains us t → next_batch past (u.queue ∷ queues) us ≡ Some t
            → (if not b && d then Some u else next_batch past (u.queue ∷ queues) us) ≡ Some t
        go true d f h there found = found
        go false false f h there found = found
        go false true f h there found = absurd (least u.queue (submission_of u) f (rw (eq-eqb u.queue u.queue refl, h) refl) (rising.0 t there))

-- ---- one batch less

-- the batch that is next is one of them
pub next_waits : (past : Past) (queues : List ℕ) (ts : List SubmittedBatch) (t : SubmittedBatch) → next_batch past queues ts ≡ Some t → Contains ts t
next_waits past queues [] t e = absurd cc
next_waits past queues (u ∷ us) t e = go (not (among u.queue queues) && list_all (is_met past) u.waits) e (next_waits past (u.queue ∷ queues) us t)
  where
    go : (b : Bool) → (if b then Some u else next_batch past (u.queue ∷ queues) us) ≡ Some t → (next_batch past (u.queue ∷ queues) us ≡ Some t → Contains us t) → Contains (u ∷ us) t
    go true e rest = let same : u ≡ t = cc in subst (λ (v : SubmittedBatch). Contains (u ∷ us) v) same (contains-head u us)
    go false e rest = contains-tail u us t (rest e)

-- those that are not a batch
abbrev pub without : SubmittedBatch → List SubmittedBatch → List SubmittedBatch
without t ts = filter (λ u. not (same_batch t u)) ts

pub without_first : (t : SubmittedBatch) (ts : List SubmittedBatch) → IsRising (t ∷ ts) → without t (t ∷ ts) ≡ ts
without_first t ts rising = rw (its_own t) (filter_each (λ u. not (same_batch t u)) ts (λ u c. rw (other_batch t u (rising.0 u c)) refl))

pub length_without : (ts : List SubmittedBatch) (t : SubmittedBatch) → IsRising ts → Contains ts t → length ts ≡ suc (length (without t ts))
length_without [] t rising c = absurd (none_in t c)
length_without (u ∷ us) t rising c = go (contains-cons u us t c) (length_without us t rising.1)
  where
    go : (u ≡ t) ⊎ Contains us t → (Contains us t → length us ≡ suc (length (without t us))) → suc (length us) ≡ suc (length (without t (u ∷ us)))
    go (inl same) rest = subst (λ (v : SubmittedBatch). suc (length us) ≡ suc (length (without v (u ∷ us)))) same (ap (λ (l : List SubmittedBatch). suc (length l)) (sym (without_first u us rising)))
    go (inr there) rest = rw (other_before t u (rising.0 t there)) (ap suc (rest there))
