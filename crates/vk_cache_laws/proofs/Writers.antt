-- Which command wrote a byte last, as points come.
use Rattle.std.proofs.Common.{◌≡◌, ⊎_elim, ℕ, List, [], ◌∷◌, Bool, true, cond, Option, Some, None, IsTrue, refl, ap, sym, ◌∙◌, subst}
use Rattle.std.specs.Prelude.{⊤, Contains, option_and_then, if◌then◌else◌}
use Rattle.std.specs.List.{find}
use Rattle.vk_model.specs.declared.command.Cmd.{Cmd}
use Rattle.vk_model.specs.declared.entry.Entry.{Entry}
use Rattle.vk_model.specs.declared.entry.Entry.TheVariants as entry
use Rattle.vk_model.specs.Basics.{holds}
use Rattle.vk_model.specs.World.Bytes.{Byte}
use Rattle.vk_model.specs.World.ByteWrites.{ByteWrite}
use Rattle.vk_model.specs.Trace.Point.{Past}
use Rattle.vk_model.specs.Trace.Order.{host, order}
use Rattle.vk_model.specs.Sync.Node.{Node, Runs}
use Rattle.vk_model.specs.Run.Runs.{Name, Step, Apply, RunPiece, CopyPart, Stage, start, is_done, offered, past_with, applied, Applies, Next, Allowed}
use Rattle.vk_model.specs.Run.CachedRuns.{Cells, numbered, named_piece, write_to, last_writer, cached_start}
use Rattle.vk_model.proofs.Lists.Members.{none_in, contains-cons, contains-head, contains-tail, found}
use Rattle.vk_model.proofs.Trace.Growing.{Grows, Quiet, entry_grows, one_more, grows_on, grows_too}
use Rattle.vk_laws.specs.Machine.{Task}
use Rattle.vk_laws.specs.DefinedRuns.{with_step}
use Rattle.vk_laws.specs.CachedRuns.{steps_of}
use Rattle.vk_laws.specs.CacheRuns.{CachedRun}
use Rattle.vk_laws.proofs.GoingOn.{at}
use Rattle.vk_laws.proofs.Running.StageTasks.{Known}
use Rattle.vk_laws.proofs.Running.OfferedPieces.{offered_of}
use Rattle.vk_laws.proofs.Running.AtStage.{AtPoint, begins, grows}
use Rattle.vk_laws.proofs.Running.StageSteps.{all_steps}
use Rattle.vk_laws.proofs.CachedRunning.CachedPieces.{offered_named}
use Rattle.vk_laws.proofs.CachedRunning.CachedSteps.{plain_run}
use Rattle.vk_laws.proofs.CachedRunning.LastWriters.{IsNamed, named_at, named_at_past, named_same, named_later}

-- a test that is the same on each item of a list finds the same one
same_found : {X : Type 0} (f g : X → Bool) (xs : List X) → ((x : X) → Contains xs x → f x ≡ g x) → find f xs ≡ find g xs
same_found f g [] same = refl
same_found {X} f g (x ∷ xs) same =
    ap (λ (b : Bool). cond b (Some x) (find f xs)) (same x (contains-head x xs)) ∙ ap (λ (o : Option X). cond (g x) (Some x) o) (same_found f g xs (λ y c. same y (contains-tail x xs y c)))

module _ {t : List Entry} (known : Known t) where
  -- ---- pieces that have run are of commands that have come

  abbrev AreNamed : Stage → Type 0
  AreNamed s = (y : Name) → Contains s.done y → IsNamed known s.front.past y

  -- a stage of a run
  pub record Here (s : Stage) : Type 0 where
    did : List Task
    at_point : AtPoint known s did
    named : AreNamed s

  piece_named : (s : Stage) (did : List Task) (i : AtPoint known s did) (y : Name) → IsTrue (is_done (offered s.front.past s.done) y) → AreNamed s → AreNamed (record s { done = y ∷ s.done })
  piece_named s did i y may named z c =
      ⊎_elim (λ same. subst (λ (w : Name). IsNamed known s.front.past w) same (offered_named known s did i y (offered_of s.front.past s.done y may))) (λ old. named z old) (contains-cons y s.done z c)

  grown : (s : Stage) (x : Entry) → Grows (λ p. ⊤) s.front.past (past_with s x)
  grown s x = grows_on _ s.front.past (host s.count x ∷ s.front.past) (past_with s x) (one_more _ s.front.past (host s.count x) tt) (grows_too Quiet _ (λ p q. tt) (host s.count x ∷ s.front.past) (past_with s x) (entry_grows s.count x s.front))

  entry_named : (s : Stage) (parts : ℕ) (x : Entry) (xs : List Entry) → AreNamed s → AreNamed (applied s parts x xs)
  entry_named s parts (entry.Pass d) xs named y c = named_later known _ s.front.past (past_with s (entry.Pass d)) (grown s (entry.Pass d)) y (named y c)
  entry_named s parts (entry.EndPass d kept lost) xs named y c = named_later known _ s.front.past (past_with s (entry.EndPass d kept lost)) (grown s (entry.EndPass d kept lost)) y (named y c)
  entry_named s parts x xs named y c = named_later known _ s.front.past (past_with s x) (grown s x) y (named y c)

  step_named : (step : Step) (s : Stage) (did : List Task) → AtPoint known s did → AreNamed s → (e : Stage) → Next s step e → AreNamed e
  step_named (Apply atoms parts) s did i named e next = go s.left next
    where
      go : (left : List Entry) → Applies s atoms parts left e → AreNamed e
      go [] h = absurd h
      go (x ∷ xs) h = subst AreNamed (sym h.2) (entry_named s parts x xs named)
  step_named (RunPiece y) s did i named e next = subst AreNamed (sym next.1) (piece_named s did i y next.0 named)
  step_named (CopyPart k) s did i named e next = subst AreNamed (sym next.1) named

  steps_named : (steps : List Step) (s : Stage) (did : List Task) → AtPoint known s did → AreNamed s → (e : Stage) → Allowed s steps e → AreNamed e
  steps_named [] s did i named e run = subst AreNamed (sym run) named
  steps_named (step ∷ steps) s did i named e run =
      steps_named steps run.0 (with_step s step did) (all_steps known (step ∷ []) s did i run.0 (run.0, run.1, refl)) (step_named step s did i named run.0 run.1) e run.2

  pub here_of : (steps : List Step) (s : Stage) (cells : Cells) → CachedRun t steps s cells → Here s
  here_of steps s cells r =
      let run : Allowed (start t) (steps_of r.cached_steps) s = plain_run r.cached_steps (cached_start t r.first) (at s cells) r.run in
      record { did = _; at_point = all_steps known (steps_of r.cached_steps) (start t) [] (begins known) s run; named = steps_named (steps_of r.cached_steps) (start t) [] (begins known) (λ y c. absurd (none_in y c)) s run }

  pub here_after : (step : Step) (s e : Stage) → Here s → Next s step e → Here e
  here_after step s e h next = record { did = with_step s step h.did; at_point = all_steps known (step ∷ []) s h.did h.at_point e (e, next, refl); named = step_named step s h.did h.at_point h.named e next }

  -- ---- the last writer is that of the whole trace

  module _ (s : Stage) (h : Here s) (c : Byte) where
    abbrev past : Past
    past = s.front.past

    abbrev whole : Past
    whole = order t

    abbrev writes : Past → Name → Bool
    writes p y = holds (write_to c (named_piece p y)) (λ m. true)

    pub last_in_whole : last_writer past s.done c ≡ last_writer whole s.done c
    last_in_whole =
        ap (λ (o : Option Name). option_and_then (λ y. numbered past y.0) o)
        (same_found (writes past) (writes whole) s.done (λ y d. ap (λ (ms : List ByteWrite). holds (write_to c ms) (λ m. true)) (named_same known _ past (grows known s h.did h.at_point) y (h.named y d))))
        ∙ go (find (writes whole) s.done) refl
      where
        go : (o : Option Name) → find (writes whole) s.done ≡ o → option_and_then (λ y. numbered past y.0) o ≡ option_and_then (λ y. numbered whole y.0) o
        go None e = refl
        go (Some y) e =
            let i = h.named y (found (writes whole) s.done y e).0 in
            named_at_past known _ past (grows known s h.did h.at_point) y i ∙ sym (named_at known _ past (grows known s h.did h.at_point) y i)

  -- so it stays as points come
  pub last_stays : (s e : Stage) → Here s → Here e → e.done ≡ s.done → (c : Byte) → last_writer e.front.past e.done c ≡ last_writer s.front.past s.done c
  last_stays s e h k same c = last_in_whole e k c ∙ ap (λ (ns : List Name). last_writer (order t) ns c) same ∙ sym (last_in_whole s h c)

  -- ---- a piece that is offered

  pub piece_command : (s : Stage) → Here s → (x : Name) → IsTrue (is_done (offered s.front.past s.done) x) → (n : Node) → numbered s.front.past x.0 ≡ Some n → (command : Cmd) × (n.act ≡ Runs command)
  piece_command s h x may n at =
      let o = offered_of s.front.past s.done x may in
      let is = named_at_past known _ s.front.past (grows known s h.did h.at_point) x (offered_named known s h.did h.at_point x o) in
      let one : Some o.node ≡ Some n = sym is ∙ at in
      let same : o.node ≡ n = cc in
      (o.command, ap (λ (k : Node). k.act) (sym same) ∙ o.act)

-- what wrote a byte last, as a piece runs
pub last_after : (past : Past) (done : List Name) (x : Name) (c : Byte) (o : Option ByteWrite) → write_to c (named_piece past x) ≡ o
    → last_writer past (x ∷ done) c ≡ (if holds o (λ m. true) then numbered past x.0 else last_writer past done c)
last_after past done x c None is = ap (λ (o : Option ByteWrite). option_and_then (λ y. numbered past y.0) (cond (holds o (λ m. true)) (Some x) (find (λ y. holds (write_to c (named_piece past y)) (λ m. true)) done))) is
last_after past done x c (Some w) is = ap (λ (o : Option ByteWrite). option_and_then (λ y. numbered past y.0) (cond (holds o (λ m. true)) (Some x) (find (λ y. holds (write_to c (named_piece past y)) (λ m. true)) done))) is

-- an entry runs no piece
pub entry_done : (s : Stage) (parts : ℕ) (x : Entry) (xs : List Entry) → (applied s parts x xs).done ≡ s.done
entry_done s parts (entry.Pass d) xs = refl
entry_done s parts (entry.EndPass d kept lost) xs = refl
entry_done s parts x xs = refl
