-- What tallies say of semaphores, and how points change what they count.
use Rattle.std.proofs.Common.{◌≡◌, ℕ, ◌+◌, ◌<◌, ◌≤◌, length, take, get_or, List, [], ◌∷◌, Bool, true, false, refl, ap, sym, ◌∙◌, arith, max, Option, Some, None}
use Rattle.std.specs.Prelude.{nat_le, not, ◌&&◌, ◌||◌, ◌==◌, is_some, option_map, option_and_then, if◌then◌else◌}
use Rattle.std.specs.List.{fold, list_all, cons_option}
use Rattle.std.proofs.lemmas.Bool.{eqb-true, leb-true, le-leb}
use Rattle.std.proofs.lemmas.List.Folds.{list_all_more, list_all_at}
use Rattle.vk_model.specs.declared.entry.Entry.{Entry}
use Rattle.vk_model.specs.declared.entry.SemaphoreSubmit.{SemaphoreSubmit}
use Rattle.vk_model.specs.Basics.{holds, among}
use Rattle.vk_model.specs.Trace.Point.{Past, Action, Wait, Run, Signal, host_of}
use Rattle.vk_model.specs.Trace.Objects.{initial, live, made, ended, made_by, ended_by, semaphore_in}
use Rattle.vk_model.specs.Trace.Order.{SubmittedBatch, signaled, signal_in, signal_of, value_for, counter, is_met, host, actions, started}
use Rattle.vk_queues.specs.declared.tallies.Tally.{Tally}
use Rattle.vk_queues.specs.declared.tallies.Tallies.{Tallies}
use Rattle.vk_queues.specs.Inner.Tallied.{IsTallied, tally_at, tally_of, has_reached, with_signal, after_signal, after_entry}

-- the greatest of all is the greater of the first and the greatest of the others
pub fold_max : (v : ℕ) (xs : List ℕ) → fold max v xs ≡ max v (fold max 0 xs)
fold_max v [] = omega arith
fold_max v (x ∷ xs) =
    let a = fold_max (max v x) xs in
    let b = fold_max (max 0 x) xs in
    a ∙ omega (arith, b)

reached_of : (past : Past) (s value : ℕ) → has_reached (tally_of past s) value ≡ holds (counter past s) (nat_le value)
reached_of past s value = go (initial past s) where
  go : (o : Option ℕ) → holds o (λ v. nat_le value (max v (fold max 0 (signaled past s)))) ≡ holds (option_map (λ v. fold max v (signaled past s)) o) (nat_le value)
  go None = refl
  go (Some v) = rw (fold_max v (signaled past s)) refl

-- a wait is met where its tally has reached its value
pub reached_is_met : (t : Tallies) (past : Past) (w : SemaphoreSubmit) → IsTallied t past → has_reached (tally_at t w.semaphore) w.value ≡ is_met past w
reached_is_met t past w tallied = ap (λ (x : Tally). has_reached x w.value) (tallied w.semaphore) ∙ reached_of past w.semaphore w.value

live_of : (past : Past) (s : ℕ) → (not (ended past s) && is_some (initial past s)) ≡ is_some (option_and_then semaphore_in (live past s))
live_of past s = go (ended past s) where
  go : (e : Bool) → (not e && is_some (initial past s)) ≡ is_some (option_and_then semaphore_in (if e then None else made past s))
  go true = refl
  go false = refl

module _ (t : Tallies) (past : Past) (ws : List SemaphoreSubmit) (i : ℕ) (d : SemaphoreSubmit) (tallied : IsTallied t past) (lt : i < length ws) where
  -- one more of the first waits is met
  pub met_more : list_all (is_met past) (take i ws) ≡ true → has_reached (tally_at t (get_or ws i d).semaphore) (get_or ws i d).value ≡ true → list_all (is_met past) (take (i + 1) ws) ≡ true
  met_more met reached = list_all_more (is_met past) ws i d lt ∙ rw (met, sym (reached_is_met t past (get_or ws i d) tallied) ∙ reached) refl

  -- one that isn't met
  pub unmet_at : has_reached (tally_at t (get_or ws i d).semaphore) (get_or ws i d).value ≡ false → list_all (is_met past) ws ≡ false
  unmet_at reached = list_all_at (is_met past) ws i d lt (sym (reached_is_met t past (get_or ws i d) tallied) ∙ reached)

-- ---- what a signal leaves

reached_with : (o : Option ℕ) (t : Tally) (value : ℕ) → has_reached t value ≡ true → has_reached (with_signal o t) value ≡ true
reached_with None t value h = h
reached_with (Some x) t value h = go t.initial h where
  go : (o : Option ℕ) → holds o (λ v. nat_le value (max v t.signaled)) ≡ true → holds o (λ v. nat_le value (max v (max t.signaled x))) ≡ true
  go None bad = bad
  go (Some v) le = let low : value ≤ max v t.signaled = leb-true value (max v t.signaled) le in le-leb value (max v (max t.signaled x)) (omega arith)

-- the tally of an id after the signals of a batch
abbrev pub after_signals : ℕ → List SemaphoreSubmit → Tally → Tally
after_signals id xs t = fold (λ t s. after_signal id (s.semaphore, s.value) t) t xs

reached_after : (id : ℕ) (xs : List SemaphoreSubmit) (t : Tally) (value : ℕ) → has_reached t value ≡ true → has_reached (after_signals id xs t) value ≡ true
reached_after id [] t value h = h
reached_after id (x ∷ xs) t value h = reached_after id xs (after_signal id (x.semaphore, x.value) t) value (reached_with (value_for id (x.semaphore, x.value)) t value h)

-- ---- points that come

signaled_next : (o : Option ℕ) (xs : List ℕ) (a : Option ℕ) (e : Bool)
    → ◌≡◌ {A = Tally} (record { initial = a; signaled = fold max 0 (cons_option o xs); is_ended = e }) (with_signal o (record { initial = a; signaled = fold max 0 xs; is_ended = e }))
signaled_next None xs a e = refl
signaled_next (Some v) xs a e =
    let is : fold max (max 0 v) xs ≡ max (fold max 0 xs) v = (let h = fold_max (max 0 v) xs in omega (arith, h)) in
    ap (λ (n : ℕ). let t : Tally = record { initial = a; signaled = n; is_ended = e } in t) is

-- an entry of the host
pub tally_of_host : (past : Past) (e : ℕ) (x : Entry) (id : ℕ) → tally_of (host e x ∷ past) id ≡ after_entry id x (tally_of past id)
tally_of_host past e x id =
    signaled_next (option_and_then (value_for id) (signal_in x)) (signaled past id) (initial (host e x ∷ past) id) (ended (host e x ∷ past) id)
    ∙ ap (λ (o : Option ℕ). with_signal (option_and_then (value_for id) (signal_in x)) (let t : Tally = record { initial = o; signaled = fold max 0 (signaled past id); is_ended = among id (ended_by x) || ended past id } in t))
    (go (holds (made_by x) (λ j. id == j)))
  where
    go : (b : Bool) → option_and_then semaphore_in (if b then Some x else made past id) ≡ (if b then semaphore_in x else initial past id)
    go true = refl
    go false = refl

quiet_tally : {A : Type 0} (of : A → Action) → ((x : A) → host_of (of x) ≡ None) → ((x : A) → signal_of (of x) ≡ None) → (t : SubmittedBatch) (k : ℕ) (xs : List A) (past : Past) (id : ℕ)
    → tally_of (actions of t k xs past) id ≡ tally_of past id
quiet_tally of hosts signals t k [] past id = refl
quiet_tally of hosts signals t k (x ∷ xs) past id =
    quiet_tally of hosts signals t (k + 1) xs (record { entry = t.entry; batch = t.batch; place = k; queue = t.queue; action = of x } ∷ past) id ∙ rw (hosts x, signals x) refl

signal_tally : (t : SubmittedBatch) (k : ℕ) (xs : List SemaphoreSubmit) (past : Past) (id : ℕ) → tally_of (actions Signal t k xs past) id ≡ after_signals id xs (tally_of past id)
signal_tally t k [] past id = refl
signal_tally t k (x ∷ xs) past id =
    signal_tally t (k + 1) xs (record { entry = t.entry; batch = t.batch; place = k; queue = t.queue; action = Signal x } ∷ past) id
    ∙ ap (after_signals id xs) (signaled_next (value_for id (x.semaphore, x.value)) (signaled past id) (initial past id) (ended past id))

-- a batch that is started
pub tally_of_started : (t : SubmittedBatch) (past : Past) (id : ℕ) → tally_of (started t past) id ≡ after_signals id t.content.signals (tally_of past id)
tally_of_started t past id =
    signal_tally t 0 t.content.signals (actions Run t 0 t.content.commands (actions Wait t 0 t.content.waits past)) id
    ∙ ap (after_signals id t.content.signals) (quiet_tally Run (λ x. refl) (λ x. refl) t 0 t.content.commands (actions Wait t 0 t.content.waits past) id ∙ quiet_tally Wait (λ x. refl) (λ x. refl) t 0 t.content.waits past id)

-- ---- what is met stays so

met_of : (past : Past) (w : SemaphoreSubmit) → is_met past w ≡ has_reached (tally_of past w.semaphore) w.value
met_of past w = sym (reached_of past w.semaphore w.value)

pub met_once_started : (t : SubmittedBatch) (past : Past) (w : SemaphoreSubmit) → is_met past w ≡ true → is_met (started t past) w ≡ true
met_once_started t past w met =
    met_of (started t past) w ∙ ap (λ (x : Tally). has_reached x w.value) (tally_of_started t past w.semaphore)
    ∙ reached_after w.semaphore t.content.signals (tally_of past w.semaphore) w.value (sym (met_of past w) ∙ met)

-- an entry makes the id of a semaphore again
abbrev pub makes_again : Past → Entry → Bool
makes_again past x = holds (made_by x) (λ id. is_some (initial past id))

initial_stays : (past : Past) (x : Entry) (w : SemaphoreSubmit) → makes_again past x ≡ false → is_met past w ≡ true → holds (made_by x) (λ j. w.semaphore == j) ≡ false
initial_stays past x w never met = go (made_by x) never where
  known : (o : Option ℕ) → holds (option_map (λ v. fold max v (signaled past w.semaphore)) o) (nat_le w.value) ≡ true → is_some o ≡ true
  known None bad = absurd cc
  known (Some v) h = refl

  go : (o : Option ℕ) → holds o (λ id. is_some (initial past id)) ≡ false → holds o (λ j. w.semaphore == j) ≡ false
  go None h = refl
  go (Some id) h = by_id (w.semaphore == id) refl where
    by_id : (b : Bool) → (w.semaphore == id) ≡ b → b ≡ false
    by_id false e = refl
    by_id true e = absurd (let here : is_some (initial past id) ≡ true = ap (λ (i : ℕ). is_some (initial past i)) (sym (eqb-true w.semaphore id e)) ∙ known (initial past w.semaphore) met in cc)

pub met_after_host : (past : Past) (e : ℕ) (x : Entry) (w : SemaphoreSubmit) → makes_again past x ≡ false → is_met past w ≡ true → is_met (host e x ∷ past) w ≡ true
met_after_host past e x w never met =
    met_of (host e x ∷ past) w ∙ ap (λ (t : Tally). has_reached t w.value) (tally_of_host past e x w.semaphore)
    ∙ reached_with (option_and_then (value_for w.semaphore) (signal_in x)) _ w.value (rw (initial_stays past x w never met) (sym (met_of past w) ∙ met))
