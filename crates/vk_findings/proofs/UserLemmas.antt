-- Where each submitted command that names a resource is known complete, the resource isn't busy.
use Rattle.std.proofs.Common.{◌≡◌, ⊎_elim, inl, inr, ℕ, suc, ◌+◌, List, [], ◌∷◌, Bool, true, false, not, ◌&&◌, Option, Some, None, refl, ap, sym, ◌∙◌, slice_get, arith}
use Rattle.std.specs.Prelude.{Contains, ◌⊎◌}
use Rattle.std.proofs.lemmas.List.Elements.{Contains-append_cases}
use Rattle.std.proofs.lemmas.Option.{slice_get_within}
use Rattle.vk_model.specs.declared.command.Cmd.{Cmd}
use Rattle.vk_model.specs.declared.entry.Batch.{Batch}
use Rattle.vk_model.specs.declared.entry.Entry.{Entry}
use Rattle.vk_model.specs.declared.entry.Entry.TheVariants as entry
use Rattle.vk_model.specs.Trace.Point.{Past, Point, Action, Host, Wait, Run, Signal, host_of}
use Rattle.vk_model.specs.Trace.Order.{SubmittedBatch, actions, submitted_batch, batches_from}
use Rattle.vk_model.specs.Sync.Node.{Node, nodes, next_nodes}
use Rattle.vk_model.specs.Sync.Complete.{commands_of, submitted, names, is_busy, is_complete}
use Rattle.vk_model.proofs.Lists.Members.{none_in, contains-cons, contains-head, contains-tail, flat_from, none_passes_any}
use Rattle.vk_findings.specs.declared.timeline.Timeline.{Timeline}
use Rattle.vk_findings.specs.Inner.Uses.{IsTimeline}
use Rattle.vk_findings.specs.Inner.Users.{IsPointDone}

-- ---- where a submitted command comes from

-- from a list of commands, from place k on
record IsListed (t : SubmittedBatch) (k : ℕ) (cs : List Cmd) (u : Point) : Type 0 where
  index : ℕ
  command : Cmd
  listed : slice_get cs index ≡ Some command
  entry : u.entry ≡ t.entry
  batch : u.batch ≡ t.batch
  place : u.place ≡ k + index
  run : u.action ≡ Run command

command_from : (t : SubmittedBatch) (k : ℕ) (cs : List Cmd) (before : List Point) (u : Point) → Contains (actions Run t k cs before) u → Contains before u ⊎ IsListed t k cs u
command_from t k [] before u c = inl c
command_from t k (x ∷ xs) before u c = ⊎_elim
    (λ old. ⊎_elim (λ same. inr (first same)) (λ older. inl older) (contains-cons here before u old))
    (λ later. inr (next later))
    (command_from t (k + 1) xs (here ∷ before) u c)
  where
    here : Point
    here = record { entry = t.entry; batch = t.batch; place = k; queue = t.queue; action = Run x }

    first : here ≡ u → IsListed t k (x ∷ xs) u
    first same = record {
      index = 0;
      command = x;
      listed = refl;
      entry = ap (λ (p : Point). p.entry) (sym same);
      batch = ap (λ (p : Point). p.batch) (sym same);
      place = ap (λ (p : Point). p.place) (sym same) ∙ (let none : k ≡ k + 0 = omega arith in none);
      run = ap (λ (p : Point). p.action) (sym same);
    }

    next : IsListed t (k + 1) xs u → IsListed t k (x ∷ xs) u
    next l = record {
      index = suc l.index;
      command = l.command;
      listed = l.listed;
      entry = l.entry;
      batch = l.batch;
      place = l.place ∙ (let same : (k + 1) + l.index ≡ k + suc l.index = omega arith in same);
      run = l.run;
    }

-- from batches, from number k on
record IsBatch (past : Past) (e q k : ℕ) (bs : List Batch) (t : SubmittedBatch) : Type 0 where
  index : ℕ
  batch : Batch
  listed : slice_get bs index ≡ Some batch
  is : t ≡ submitted_batch past e q (k + index) batch

batch_from : (past : Past) (e q k : ℕ) (bs : List Batch) (t : SubmittedBatch) → Contains (batches_from past e q k bs) t → IsBatch past e q k bs t
batch_from past e q k [] t c = absurd (none_in t c)
batch_from past e q k (b ∷ bs) t c = ⊎_elim
    (λ same. record { index = 0; batch = b; listed = refl; is = sym same ∙ ap (λ (n : ℕ). submitted_batch past e q n b) (let none : k ≡ k + 0 = omega arith in none) })
    (λ later. next (batch_from past e q (k + 1) bs t later))
    (contains-cons (submitted_batch past e q k b) (batches_from past e q (k + 1) bs) t c)
  where
    next : IsBatch past e q (k + 1) bs t → IsBatch past e q k (b ∷ bs) t
    next l = record { index = suc l.index; batch = l.batch; listed = l.listed; is = l.is ∙ ap (λ (n : ℕ). submitted_batch past e q n l.batch) (let same : (k + 1) + l.index ≡ k + suc l.index = omega arith in same) }

-- from a submit
record IsFrom (e q : ℕ) (bs : List Batch) (u : Point) : Type 0 where
  batch : Batch
  command : Cmd
  listed : slice_get bs u.batch ≡ Some batch
  there : slice_get batch.commands u.place ≡ Some command
  entry : u.entry ≡ e
  run : u.action ≡ Run command

submit_from : (past : Past) (e q : ℕ) (bs : List Batch) (u : Point) → Contains (commands_of past e (Some (entry.Submit q bs))) u → IsFrom e q bs u
submit_from past e q bs u c =
    let t = flat_from (λ t. actions Run t 0 t.content.commands []) (batches_from past e q 0 bs) u c in
    let b = batch_from past e q 0 bs t.0 t.1 in
    ⊎_elim (λ none. absurd (none_in u none)) (λ l. made t.0 b l) (command_from t.0 0 t.0.content.commands [] u t.2)
  where
    made : (t : SubmittedBatch) → IsBatch past e q 0 bs t → IsListed t 0 t.content.commands u → IsFrom e q bs u
    made t b l = record {
      batch = b.batch;
      command = l.command;
      listed = ap (slice_get bs) (l.batch ∙ ap (λ (s : SubmittedBatch). s.batch) b.is ∙ (let none : 0 + b.index ≡ b.index = omega arith in none)) ∙ b.listed;
      there = ap (slice_get b.batch.commands) (l.place ∙ (let none : 0 + l.index ≡ l.index = omega arith in none)) ∙ ap (λ (s : SubmittedBatch). slice_get s.content.commands l.index) (sym b.is) ∙ l.listed;
      entry = l.entry ∙ ap (λ (s : SubmittedBatch). s.entry) b.is;
      run = l.run;
    }

-- from a point
record IsSubmittedBy (past : Past) (u : Point) : Type 0 where
  point : Point
  there : Contains past point
  queue : ℕ
  batches : List Batch
  action : point.action ≡ Host (entry.Submit queue batches)
  from : IsFrom point.entry queue batches u

entry_from : (past : Past) (e : ℕ) (o : Option Entry) (u : Point) → Contains (commands_of past e o) u → (q : ℕ) × (bs : List Batch) × (o ≡ Some (entry.Submit q bs)) × IsFrom e q bs u
entry_from past e None u c = absurd (none_in u c)
entry_from past e (Some (entry.Submit q bs)) u c = (q, bs, refl, submit_from past e q bs u c)
entry_from past e (Some _) u c = absurd (none_in u c)

host_is : (d : Action) (x : Entry) → host_of d ≡ Some x → d ≡ Host x
host_is (Host y) x e = ap Host (let same : y ≡ x = cc in same)
host_is (Wait s) x e = absurd cc
host_is (Run c) x e = absurd cc
host_is (Signal s) x e = absurd cc

submitted_by : (past : Past) (u : Point) → Contains (submitted past) u → IsSubmittedBy past u
submitted_by [] u c = absurd (none_in u c)
submitted_by (p ∷ past) u c = ⊎_elim
    (λ own. let f = entry_from past p.entry (host_of p.action) u own in record { point = p; there = contains-head p past; queue = f.0; batches = f.1; action = host_is p.action (entry.Submit f.0 f.1) f.2; from = f.3 })
    (λ later. let s = submitted_by past u later in record { point = s.point; there = contains-tail p past s.point s.there; queue = s.queue; batches = s.batches; action = s.action; from = s.from })
    (Contains-append_cases (commands_of past p.entry (host_of p.action)) (submitted past) u c)

-- ---- a resource that isn't busy

pub all_done : (t : Timeline) (past : Past) (p : Point) (x : Entry) (r : ℕ) → p.action ≡ Host x → IsTimeline t past p → ((w : Point) → Contains past w → IsPointDone t r w) → (n : Node) → Contains (next_nodes past p) n
    → is_busy past (nodes (p ∷ past)) n r ≡ false
all_done t past p x r is line done n c = none_passes_any (λ q. names r q.action && not (is_complete (nodes (p ∷ past)) n q r)) (submitted past) (λ u own.
    let s = submitted_by past u own in
    let f = s.from in
    go u (names r u.action) refl (λ naming.
    done s.point s.there s.queue s.batches s.action u.batch (slice_get_within s.batches u.batch f.batch f.listed) f.batch f.listed
    u.place (slice_get_within f.batch.commands u.place f.command f.there) f.command f.there (ap (names r) (sym f.run) ∙ naming)
    past p x is line u (record { entry = f.entry; batch = refl; place = refl }) n c))
  where
    go : (u : Point) (b : Bool) → names r u.action ≡ b → (names r u.action ≡ true → is_complete (nodes (p ∷ past)) n u r ≡ true) → (b && not (is_complete (nodes (p ∷ past)) n u r)) ≡ false
    go u false e complete = refl
    go u true e complete = ap not (complete e)
