-- The commands of a submit that has come are submitted.
use Rattle.std.proofs.Common.{◌≡◌, ℕ, zero, suc, ◌+◌, List, [], ◌∷◌, Some, refl, ap, sym, subst, arith, slice_get}
use Rattle.std.specs.Prelude.{Contains}
use Rattle.std.proofs.lemmas.List.Elements.{Contains-append_left, Contains-append_right}
use Rattle.vk_model.specs.declared.command.Cmd.{Cmd}
use Rattle.vk_model.specs.declared.entry.Batch.{Batch}
use Rattle.vk_model.specs.declared.entry.Entry.TheVariants as entry
use Rattle.vk_model.specs.Trace.Point.{Past, Point, Action, Run, host_of}
use Rattle.vk_model.specs.Trace.Order.{SubmittedBatch, host, actions, submitted_batch, batches_from}
use Rattle.vk_model.specs.Trace.Structure.{HasAction, IsOfBatch}
use Rattle.vk_model.specs.Sync.Complete.{commands_of, submitted}
use Rattle.vk_model.specs.Rules.Fault.{Comes, newest, older}
use Rattle.vk_model.proofs.Lists.Members.{contains-head, contains-tail, flat_has}
use Rattle.vk_model.proofs.Trace.Growing.{On, actions_grow, still_has}

-- the point of a batch's command
abbrev pub command_point : SubmittedBatch → ℕ → Cmd → Point
command_point b k c = record { entry = b.entry; batch = b.batch; place = k; queue = b.queue; action = Run c }

pub has_command : (b : SubmittedBatch) (k : ℕ) (xs : List Cmd) (past : Past) (j : ℕ) (c : Cmd) → slice_get xs j ≡ Some c → Contains (actions Run b k xs past) (command_point b (k + j) c)
has_command b k [] past j c e = absurd cc
has_command b k (x ∷ xs) past zero c e =
    let same : x ≡ c = cc in
    let here : Contains (command_point b k x ∷ past) (command_point b (k + 0) c) =
    subst (λ (y : Cmd). Contains (command_point b k x ∷ past) (command_point b (k + 0) y)) same
    (subst (λ (n : ℕ). Contains (command_point b k x ∷ past) (command_point b n x)) (let none : k ≡ k + 0 = omega arith in none) (contains-head (command_point b k x) past)) in
    still_has (On b.queue) (command_point b k x ∷ past) (actions Run b (k + 1) xs (command_point b k x ∷ past)) (actions_grow Run (λ y. refl) b (k + 1) xs (command_point b k x ∷ past)) (command_point b (k + 0) c) here
has_command b k (x ∷ xs) past (suc j) c e =
    subst (λ (n : ℕ). Contains (actions Run b k (x ∷ xs) past) (command_point b n c)) (let same : (k + 1) + j ≡ k + suc j = omega arith in same)
    (has_command b (k + 1) xs (command_point b k x ∷ past) j c e)

pub has_batch : (past : Past) (e q k : ℕ) (bs : List Batch) (j : ℕ) (b : Batch) → slice_get bs j ≡ Some b → Contains (batches_from past e q k bs) (submitted_batch past e q (k + j) b)
has_batch past e q k [] j b is = absurd cc
has_batch past e q k (x ∷ bs) zero b is =
    let same : x ≡ b = cc in
    subst (λ (y : Batch). Contains (batches_from past e q k (x ∷ bs)) (submitted_batch past e q (k + 0) y)) same
    (subst (λ (n : ℕ). Contains (batches_from past e q k (x ∷ bs)) (submitted_batch past e q n x)) (let none : k ≡ k + 0 = omega arith in none) (contains-head (submitted_batch past e q k x) (batches_from past e q (k + 1) bs)))
has_batch past e q k (x ∷ bs) (suc j) b is =
    contains-tail (submitted_batch past e q k x) (batches_from past e q (k + 1) bs) (submitted_batch past e q (k + suc j) b)
    (subst (λ (n : ℕ). Contains (batches_from past e q (k + 1) bs) (submitted_batch past e q n b)) (let same : (k + 1) + j ≡ k + suc j = omega arith in same) (has_batch past e q (k + 1) bs j b is))

-- a batch's command is one of those of its submit, seen in any past
of_submit : (past before : Past) (p : Point) (c : Cmd) (f : IsOfBatch before p) → p.action ≡ Run c → Contains (commands_of past p.entry (Some (entry.Submit p.queue f.batches))) p
of_submit past before p c f run = subst (λ (q : Point). Contains (commands_of past p.entry (Some (entry.Submit p.queue f.batches))) q) whole
    (flat_has (λ b. actions Run b 0 b.content.commands []) (batches_from past p.entry p.queue 0 f.batches) its (command_point its p.place c)
    (subst (λ (n : ℕ). Contains (batches_from past p.entry p.queue 0 f.batches) (submitted_batch past p.entry p.queue n f.batch)) (let same : 0 + p.batch ≡ p.batch = omega arith in same)
    (has_batch past p.entry p.queue 0 f.batches p.batch f.batch f.listed))
    (subst (λ (n : ℕ). Contains (actions Run its 0 f.batch.commands []) (command_point its n c)) (let same : 0 + p.place ≡ p.place = omega arith in same)
    (has_command its 0 f.batch.commands [] p.place c (subst (λ (d : Action). HasAction f.batch p.place d) run f.here))))
  where
    its : SubmittedBatch
    its = submitted_batch past p.entry p.queue p.batch f.batch

    whole : command_point its p.place c ≡ p
    whole = ap (λ (d : Action). record { entry = p.entry; batch = p.batch; place = p.place; queue = p.queue; action = d }) (sym run)

has_submitted : (past b : Past) (q p : Point) → Comes past b q → Contains (commands_of b q.entry (host_of q.action)) p → Contains (submitted past) p
has_submitted past b q p newest c = Contains-append_left (commands_of b q.entry (host_of q.action)) (submitted b) p c
has_submitted past b q p (older {past = rest} {q = r} h) c = Contains-append_right (commands_of rest r.entry (host_of r.action)) (submitted rest) p (has_submitted rest b q p h c)

pub is_submitted : (past b before : Past) (p : Point) (c : Cmd) (f : IsOfBatch before p) → p.action ≡ Run c → Comes past b (host p.entry (entry.Submit p.queue f.batches)) → Contains (submitted past) p
is_submitted past b before p c f run h = has_submitted past b (host p.entry (entry.Submit p.queue f.batches)) p h (of_submit b before p c f run)
