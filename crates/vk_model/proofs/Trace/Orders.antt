-- The plain order, and the order in which batches are started once their waits are met, where no wait is ahead of its signal.
use Rattle.std.proofs.Common.{◌≡◌, ℕ, ◌+◌, ◌<◌, List, [], ◌∷◌, length, Bool, true, false, not, ◌==◌, refl, ap, sym, ◌∙◌, arith, Option, Some, None}
use Rattle.std.specs.Prelude.{⊤, nat_lt, nat_le, is_some, option_map, option_and_then, if◌then◌else◌}
use Rattle.std.specs.List.{list_all, filter, fold}
use Rattle.std.proofs.lemmas.Bool.{ltb-false, ne_eqb, eq-eqb, le-leb}
use Rattle.vk_model.specs.declared.entry.Batch.{Batch}
use Rattle.vk_model.specs.declared.entry.Entry.{Entry}
use Rattle.vk_model.specs.declared.entry.Entry.TheVariants as entry
use Rattle.vk_model.specs.declared.entry.SemaphoreSubmit.{SemaphoreSubmit}
use Rattle.vk_model.specs.Basics.{holds}
use Rattle.vk_model.specs.Trace.Point.{Point, Past, Action, Wait, Run, Signal}
use Rattle.vk_model.specs.Trace.Objects.{live, made, ended, initial, semaphore_in}
use Rattle.vk_model.specs.Trace.Order.{SubmittedBatch, Front, host, actions, started, submitted_batch, batches_from, batches_of, plain_from, plain_order, counter, is_met, same_batch, next_batch, start_batch, settled, after_entry, order_from, order}
use Rattle.vk_model.specs.Rules.Fault.{Comes, newest, older}
use Rattle.vk_model.specs.Laws.{NeverAhead, is_ahead}
use Rattle.vk_model.proofs.Trace.Growing.{Quiet, On, grows_too, same_entries, started_grows}

-- ---- no wait of a past is ahead

AllMet : Past → Type 0
AllMet [] = ⊤
AllMet (p ∷ past) = (is_ahead past p.action ≡ false) × AllMet past

all_met : (past : Past) → ((before : Past) (p : Point) → Comes past before p → is_ahead before p.action ≡ false) → AllMet past
unfolding AllMet
all_met [] never = tt
all_met (p ∷ past) never = (never past p newest, all_met past (λ before q c. never before q (older c)))

older_actions : {A : Type 0} (of : A → Action) (t : SubmittedBatch) (k : ℕ) (xs : List A) (past : Past) → AllMet (actions of t k xs past) → AllMet past
unfolding AllMet
older_actions of t k [] past met = met
older_actions of t k (x ∷ xs) past met = (older_actions of t (k + 1) xs _ met).1

older_started : (t : SubmittedBatch) (past : Past) → AllMet (started t past) → AllMet (actions Wait t 0 t.content.waits past)
older_started t past met = older_actions Run t 0 t.content.commands _ (older_actions Signal t 0 t.content.signals _ met)

older_batches : (ts : List SubmittedBatch) (past : Past) → AllMet (fold (λ p t. started t p) past ts) → AllMet past
older_batches [] past met = met
older_batches (t ∷ ts) past met = older_actions Wait t 0 t.content.waits past (older_started t past (older_batches ts (started t past) met))

older_plain : (e : ℕ) (xs : List Entry) (past : Past) → AllMet (plain_from e past xs) → AllMet past
unfolding AllMet
older_plain e [] past met = met
older_plain e (x ∷ xs) past met = (older_batches (batches_of past e x) (host e x ∷ past) (older_plain (e + 1) xs _ met)).1

-- ---- the waits of a batch are met

-- a wait for a semaphore that isn't ahead is met
is_met_there : (now : Past) (w : SemaphoreSubmit) → is_some (initial now w.semaphore) ≡ true → is_ahead now (Wait w) ≡ false → is_met now w ≡ true
is_met_there now w known early = go (initial now w.semaphore) refl known early
  where
    go : (o : Option ℕ) → initial now w.semaphore ≡ o → is_some o ≡ true
        → holds (option_map (λ v. fold Rattle.std.specs.Prelude.max v (Rattle.vk_model.specs.Trace.Order.signaled now w.semaphore)) (initial now w.semaphore)) (λ c. nat_lt c w.value) ≡ false
        → holds (option_map (λ v. fold Rattle.std.specs.Prelude.max v (Rattle.vk_model.specs.Trace.Order.signaled now w.semaphore)) (initial now w.semaphore)) (nat_le w.value) ≡ true
    go None is known early = absurd cc
    go (Some v) is known early =
        let c : ℕ = fold Rattle.std.specs.Prelude.max v (Rattle.vk_model.specs.Trace.Order.signaled now w.semaphore) in
        let low : nat_lt c w.value ≡ false = rw is at early in
        rw is (le-leb w.value c (ltb-false c w.value low))

-- what is live is known
live_known : (past : Past) (s : ℕ) → is_some (option_and_then semaphore_in (live past s)) ≡ true → is_some (initial past s) ≡ true
live_known past s is_live = go (ended past s) is_live
  where
    go : (t : Bool) → is_some (option_and_then semaphore_in (if t then None else made past s)) ≡ true → is_some (initial past s) ≡ true
    go true bad = absurd cc
    go false good = good

-- the test by which a batch's waits are kept
abbrev is_kept : Past → SemaphoreSubmit → Bool
is_kept past w = is_some (option_and_then semaphore_in (live past w.semaphore))

waits_met : (past now : Past) (same : (s : ℕ) → initial now s ≡ initial past s) (t : SubmittedBatch) (k : ℕ) (ws : List SemaphoreSubmit) (here : Past)
    → ((w : SemaphoreSubmit) → is_ahead here (Wait w) ≡ is_ahead now (Wait w)) → AllMet (actions Wait t k ws here) → list_all (is_met now) (filter (is_kept past) ws) ≡ true
unfolding AllMet
waits_met past now same t k [] here counts met = refl
waits_met past now same t k (w ∷ ws) here counts met =
    let point : Point = record { entry = t.entry; batch = t.batch; place = k; queue = t.queue; action = Wait w } in
    let first : is_ahead here (Wait w) ≡ false = (older_actions Wait t (k + 1) ws (point ∷ here) met).0 in
    go (is_kept past w) refl (sym (counts w) ∙ first) (waits_met past now same t (k + 1) ws (point ∷ here) counts met)
  where
    go : (b : Bool) → is_kept past w ≡ b → is_ahead now (Wait w) ≡ false → list_all (is_met now) (filter (is_kept past) ws) ≡ true → list_all (is_met now) (if b then w ∷ filter (is_kept past) ws else filter (is_kept past) ws) ≡ true
    go false is early rest = rest
    go true is early rest = rw (is_met_there now w (ap is_some (same w.semaphore) ∙ live_known past w.semaphore is) early) rest

-- ---- a batch changes no object

started_initial : (t : SubmittedBatch) (past : Past) (s : ℕ) → initial (started t past) s ≡ initial past s
started_initial t past s = ap (λ (xs : List Entry). option_and_then semaphore_in (Rattle.std.specs.List.find (λ x. holds (Rattle.vk_model.specs.Trace.Objects.made_by x) (λ j. s == j)) xs)) (same_entries past (started t past) (grows_too (On t.queue) Quiet (λ p h. h.0) past (started t past) (started_grows t past)))

-- ---- batches that can all be started

-- the batch at hand is the one that is started
pub its_own : (t : SubmittedBatch) → same_batch t t ≡ true
its_own t = rw (eq-eqb t.entry t.entry refl, eq-eqb t.batch t.batch refl) refl

others_wait : (past : Past) (e q k j : ℕ) (b : Batch) (bs : List Batch) → k < j → filter (λ u. not (same_batch (submitted_batch past e q k b) u)) (batches_from past e q j bs) ≡ batches_from past e q j bs
others_wait past e q k j b [] lt = refl
others_wait past e q k j b (c ∷ bs) lt =
    let other : (k == j) ≡ false = ne_eqb k j (λ same. let bad : k ≡ j = same in omega arith) in
    rw (eq-eqb e e refl, other) (ap (λ ts. submitted_batch past e q j c ∷ ts) (others_wait past e q k (j + 1) b bs (omega arith)))

settled_batches : (past : Past) (e q k : ℕ) (bs : List Batch) (now : Past) → ((s : ℕ) → initial now s ≡ initial past s) → AllMet (fold (λ p t. started t p) now (batches_from past e q k bs))
    → settled (length (batches_from past e q k bs)) (record { past = now; waiting = batches_from past e q k bs }) ≡ record { past = fold (λ p t. started t p) now (batches_from past e q k bs); waiting = [] }
settled_batches past e q k [] now same met = refl
settled_batches past e q k (b ∷ bs) now same met =
    let t : SubmittedBatch = submitted_batch past e q k b in
    let ts : List SubmittedBatch = batches_from past e q (k + 1) bs in
    let its_waits : AllMet (actions Wait t 0 b.waits now) = older_started t now (older_batches ts (started t now) met) in
    let ready : list_all (is_met now) (filter (is_kept past) b.waits) ≡ true = waits_met past now same t 0 b.waits now (λ w. refl) its_waits in
    let found : next_batch now [] (t ∷ ts) ≡ Some t = rw ready refl in
    let left : start_batch (Some t) (record { past = now; waiting = t ∷ ts }) ≡ record { past = started t now; waiting = ts } =
    rw (its_own t) (ap (λ (w : List SubmittedBatch). let f : Front = record { past = started t now; waiting = w } in f) (others_wait past e q k (k + 1) b bs (omega arith))) in
    ap (λ (o : Option SubmittedBatch). settled (length ts) (start_batch o (record { past = now; waiting = t ∷ ts }))) found
    ∙ ap (settled (length ts)) left
    ∙ settled_batches past e q (k + 1) bs (started t now) (λ s. started_initial t now s ∙ same s) met

after_one : (e : ℕ) (past : Past) (x : Entry) → AllMet (fold (λ p t. started t p) (host e x ∷ past) (batches_of past e x))
    → after_entry e x (record { past = past; waiting = [] }) ≡ record { past = fold (λ p t. started t p) (host e x ∷ past) (batches_of past e x); waiting = [] }
after_one e past (entry.Submit q bs) met = settled_batches past e q 0 bs (host e (entry.Submit q bs) ∷ past) (λ s. refl) met
after_one e past (entry.Pool i x) met = refl
after_one e past (entry.Buffer i x) met = refl
after_one e past (entry.Image i x) met = refl
after_one e past (entry.Memory i x) met = refl
after_one e past (entry.Free m) met = refl
after_one e past (entry.Destroy r) met = refl
after_one e past (entry.DropPool p) met = refl
after_one e past (entry.Map b) met = refl
after_one e past (entry.Unmap b) met = refl
after_one e past (entry.Write b o bytes) met = refl
after_one e past (entry.Read b o n) met = refl
after_one e past (entry.Flush b o n) met = refl
after_one e past (entry.Invalidate b o n) met = refl
after_one e past (entry.Semaphore i v) met = refl
after_one e past (entry.Event i) met = refl
after_one e past (entry.Signal s v) met = refl
after_one e past (entry.Wait ws) met = refl
after_one e past (entry.Defrag i p b m) met = refl
after_one e past (entry.Pass d) met = refl
after_one e past (entry.EndPass d kept lost) met = refl
after_one e past (entry.EndDefrag d) met = refl

order_steps : (e : ℕ) (xs : List Entry) (past : Past) → AllMet (plain_from e past xs) → order_from e (record { past = past; waiting = [] }) xs ≡ record { past = plain_from e past xs; waiting = [] }
order_steps e [] past met = refl
order_steps e (x ∷ xs) past met =
    ap (λ (f : Front). order_from (e + 1) f xs) (after_one e past x (older_plain (e + 1) xs (fold (λ p t. started t p) (host e x ∷ past) (batches_of past e x)) met))
    ∙ order_steps (e + 1) xs (fold (λ p t. started t p) (host e x ∷ past) (batches_of past e x)) met

pub orders_agree : (t : List Entry) → NeverAhead t → order t ≡ plain_order t
orders_agree t never = ap (λ (f : Front). f.past) (order_steps 0 t [] (all_met (plain_order t) never))
