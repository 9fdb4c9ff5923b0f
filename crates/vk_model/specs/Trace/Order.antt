-- Reference order: host entries one after another, and each batch where it is started, with its waits, commands and signals.
use Rattle.std.specs.Prelude.{ℕ, zero, suc, ◌+◌, max, List, [], ◌∷◌, ◌++◌, length, Bool, not, ◌&&◌, ◌==◌, nat_le, if◌then◌else◌, Option, Some, None, is_some, option_map, option_and_then}
use Rattle.std.specs.List.{list_all, filter, filter_map, fold}
use Rattle.vk_model.specs.declared.entry.Batch.{Batch}
use Rattle.vk_model.specs.declared.entry.Entry.{Entry}
use Rattle.vk_model.specs.declared.entry.Entry.TheVariants as entry
use Rattle.vk_model.specs.declared.entry.SemaphoreSubmit.{SemaphoreSubmit}
use Rattle.vk_model.specs.Basics.{holds, among}
use Rattle.vk_model.specs.Trace.Point.{Point, Past, Action, Host, Wait, Run, Signal}
use Rattle.vk_model.specs.Trace.Objects.{live, initial, semaphore_in}

-- A submitted batch: its entry, its number in it, its queue, and those of its waits whose id was a semaphore when the submit came (Vulkan, "Queue Submission").
pub record SubmittedBatch : Type 0 where
  pub entry : ℕ
  pub batch : ℕ
  pub queue : ℕ
  pub content : Batch
  pub waits : List SemaphoreSubmit

-- ---- the points of entries and batches

-- The point of a host entry.
abbrev pub host : ℕ → Entry → Point
host e x = record { entry = e; batch = 0; place = 0; queue = 0; action = Host x }

-- The past after one list of a batch, from place k on, each item an action.
abbrev pub actions : {A : Type 0} → (A → Action) → SubmittedBatch → ℕ → List A → Past → Past
actions of t k [] past = past
actions of t k (x ∷ xs) past = actions of t (k + 1) xs (record { entry = t.entry; batch = t.batch; place = k; queue = t.queue; action = of x } ∷ past)

-- The past after a batch: its waits, its commands, its signals (Vulkan, "Queue Submission").
abbrev pub started : SubmittedBatch → Past → Past
started t past = actions Signal t 0 t.content.signals (actions Run t 0 t.content.commands (actions Wait t 0 t.content.waits past))

-- Batch k of a submit. A wait for what is no semaphore holds nothing back: its rule refuses it (profile).
abbrev pub submitted_batch : Past → ℕ → ℕ → ℕ → Batch → SubmittedBatch
submitted_batch past e q k b = record { entry = e; batch = k; queue = q; content = b; waits = filter (λ w. is_some (option_and_then semaphore_in (live past w.semaphore))) b.waits }

-- The batches of a submit, from number k on.
abbrev pub batches_from : Past → ℕ → ℕ → ℕ → List Batch → List SubmittedBatch
batches_from past e q k [] = []
batches_from past e q k (b ∷ bs) = submitted_batch past e q k b ∷ batches_from past e q (k + 1) bs

-- The batches that entry e submits, seen in the past before it (Vulkan, "Queue Submission").
abbrev pub batches_of : Past → ℕ → Entry → List SubmittedBatch
batches_of past e (entry.Submit q bs) = batches_from past e q 0 bs
batches_of past e _ = []

-- ---- the plain order

-- The past after entries from number e on, each batch started right after its submit.
abbrev pub plain_from : ℕ → Past → List Entry → Past
plain_from e past [] = past
plain_from e past (x ∷ xs) = plain_from (e + 1) (fold (λ p t. started t p) (host e x ∷ past) (batches_of past e x)) xs

-- The points of a trace in plain order, the newest first: each batch right after its submit. It is reference order where no wait is ahead of its signal (profile).
abbrev pub plain_order : List Entry → Past
plain_order t = plain_from 0 [] t

-- ---- the counters of semaphores

-- The semaphore and the value that the host signals by an entry (Vulkan, "Semaphores", on `vkSignalSemaphore`).
abbrev pub signal_in : Entry → Option (ℕ × ℕ)
signal_in (entry.Signal s v) = Some (s, v)
signal_in _ = None

-- The semaphore and the value that an action signals (Vulkan, "Semaphore Signaling").
abbrev pub signal_of : Action → Option (ℕ × ℕ)
signal_of (Host x) = signal_in x
signal_of (Signal s) = Some (s.semaphore, s.value)
signal_of _ = None

-- A value that is for this semaphore, and not for another.
abbrev pub value_for : ℕ → ℕ × ℕ → Option ℕ
value_for s x = if x.0 == s then Some x.1 else None

-- The values signaled to a semaphore so far, the newest first (Vulkan, "Semaphore Signaling").
abbrev pub signaled : Past → ℕ → List ℕ
signaled past s = filter_map (λ p. option_and_then (value_for s) (signal_of p.action)) past

-- A timeline semaphore's counter: the greatest of its initial value and all signals; none for what is no semaphore (Vulkan, "Semaphores").
abbrev pub counter : Past → ℕ → Option ℕ
counter past s = option_map (λ v. fold max v (signaled past s)) (initial past s)

-- Whether the counter has reached the value of a wait (Vulkan, "Semaphore Waiting").
abbrev pub is_met : Past → SemaphoreSubmit → Bool
is_met past w = holds (counter past w.semaphore) (nat_le w.value)

-- ---- the order in which batches wait

-- What has happened, and the batches that wait, in the order of their submission.
pub record Front : Type 0 where
  pub past : Past
  pub waiting : List SubmittedBatch

-- Whether two batches are the same one.
abbrev pub same_batch : SubmittedBatch → SubmittedBatch → Bool
same_batch t u = t.entry == u.entry && t.batch == u.batch

-- The first waiting batch that has none of its queue before it and whose waits are met; `queues` are those of the batches passed over (Vulkan, "Queue Submission" and "Semaphore Waiting"; which one is first: profile).
abbrev pub next_batch : Past → List ℕ → List SubmittedBatch → Option SubmittedBatch
next_batch past queues [] = None
next_batch past queues (t ∷ ts) =
    if not (among t.queue queues) && list_all (is_met past) t.waits
    then Some t
    else next_batch past (t.queue ∷ queues) ts

-- A batch that was found is started, and waits no more.
abbrev pub start_batch : Option SubmittedBatch → Front → Front
start_batch None f = f
start_batch (Some t) f = record { past = started t f.past; waiting = filter (λ u. not (same_batch t u)) f.waiting }

-- All batches that can be started are, one at a time; n is how many wait.
abbrev pub settled : ℕ → Front → Front
settled zero f = f
settled (suc n) f = settled n (start_batch (next_batch f.past [] f.waiting) f)

-- An entry's point, and then the batches that can be started (profile).
abbrev pub after_entry : ℕ → Entry → Front → Front
after_entry e x f =
    let waiting = f.waiting ++ batches_of f.past e x in
    settled (length waiting) (record { past = host e x ∷ f.past; waiting = waiting })

-- The entries from number e on, one after another.
abbrev pub order_from : ℕ → Front → List Entry → Front
order_from e f [] = f
order_from e f (x ∷ xs) = order_from (e + 1) (after_entry e x f) xs

-- The points of a trace, the newest first, each batch started once its waits are met; one that is never started has no points (Vulkan, "Semaphore Waiting"; the order among queues: profile).
abbrev pub order : List Entry → Past
order t = (order_from 0 (record { past = []; waiting = [] }) t).past
