-- Which resources commands name, and which commands are submitted.
use Rattle.std.proofs.Common.{◌≡◌, ℕ, ◌+◌, List, [], ◌∷◌, false, Some, refl, ap, sym, ◌∙◌, subst, arith, slice_get, ⊎_elim}
use Rattle.std.specs.Prelude.{Contains}
use Rattle.std.specs.List.{list_any, enumerate_from}
use Rattle.std.proofs.Math.Bool.{or-false}
use Rattle.std.proofs.lemmas.List.Elements.{Contains-append_left, Contains-append_right}
use Rattle.vk_model.specs.declared.command.Cmd.{Cmd}
use Rattle.vk_model.specs.declared.command.Cmd.TheVariants as cmd
use Rattle.vk_model.specs.declared.command.Dependency.{Dependency}
use Rattle.vk_model.specs.declared.command.Element.{Element}
use Rattle.vk_model.specs.declared.command.Element.TheVariants as element
use Rattle.vk_model.specs.declared.entry.Batch.{Batch}
use Rattle.vk_model.specs.declared.entry.Entry.TheVariants as entry
use Rattle.vk_model.specs.Basics.{among, option_list}
use Rattle.vk_model.specs.Trace.Point.{Past, Point, Host, Run, host_of}
use Rattle.vk_model.specs.Trace.Order.{SubmittedBatch, actions, submitted_batch, batches_from}
use Rattle.vk_model.specs.World.Ownership.{named_by, uses}
use Rattle.vk_model.specs.Sync.Node.{Role, Barrier, SetOf, AwaitOf, Depends, event_acts}
use Rattle.vk_model.specs.Sync.Complete.{commands_of, submitted, named_by_act, names}
use Rattle.vk_model.proofs.Lists.Members.{contains-cons, flat_has, any_map, none_passes_any}
use Rattle.vk_laws.proofs.Living.Submitted.{command_point, has_command, has_batch}
use Rattle.vk_findings.specs.declared.named.Spot.{Spot}
use Rattle.vk_findings.specs.Inner.Submits.{IsSubmit, IsSubmitted}

-- ---- which resources a command names

pub barrier_names : (r : ℕ) (es : List Element) → list_any (λ e. among r (option_list (named_by e))) es ≡ names r (Run (cmd.Barrier es))
barrier_names r es = sym (any_map (λ a. among r (named_by_act a)) (Depends Barrier) es)

no_names : (r : ℕ) (role : ℕ → Role) (ms : List Dependency) → list_any (λ a. among r (named_by_act a)) (event_acts role ms) ≡ false
no_names r role ms = any_map (λ a. among r (named_by_act a)) (λ p. Depends (role p.0) (element.Memory p.1)) (enumerate_from 0 ms) ∙ none_passes_any _ (enumerate_from 0 ms) (λ p c. refl)

pub command_names : (r : ℕ) (c : Cmd) → ((es : List Element) → c ≡ cmd.Barrier es → ⊥) → among r (uses c) ≡ names r (Run c)
command_names r (cmd.Barrier es) other = absurd (other es refl)
command_names r (cmd.Set v ms) other = sym (no_names r (SetOf v) ms)
command_names r (cmd.Await v ms) other = sym (no_names r (AwaitOf v) ms)
command_names r (cmd.Fill b o n w) other = sym (or-false _)
command_names r (cmd.Update b o bytes) other = sym (or-false _)
command_names r (cmd.Copy s d gs) other = sym (or-false _)
command_names r (cmd.Clear i l color rs) other = sym (or-false _)
command_names r (cmd.CopyIn b i l gs) other = sym (or-false _)
command_names r (cmd.CopyOut i l b gs) other = sym (or-false _)
command_names r (cmd.CopyImage s l d m gs) other = sym (or-false _)

-- ---- which commands are submitted

-- the commands of a submit
of_submit : (past : Past) (e q j k : ℕ) (bs : List Batch) (b : Batch) (c : Cmd) → slice_get bs j ≡ Some b → slice_get b.commands k ≡ Some c
    → Contains (commands_of past e (Some (entry.Submit q bs))) (record { entry = e; batch = j; place = k; queue = q; action = Run c })
of_submit past e q j k bs b c there listed =
    let its : SubmittedBatch = submitted_batch past e q j b in
    flat_has (λ t. actions Run t 0 t.content.commands []) (batches_from past e q 0 bs) its (command_point its k c)
    (subst (λ (n : ℕ). Contains (batches_from past e q 0 bs) (submitted_batch past e q n b)) (let same : 0 + j ≡ j = omega arith in same) (has_batch past e q 0 bs j b there))
    (subst (λ (n : ℕ). Contains (actions Run its 0 b.commands []) (command_point its n c)) (let same : 0 + k ≡ k = omega arith in same) (has_command its 0 b.commands [] k c listed))

-- where a point submits a command, it is submitted
submitted_of : (past : Past) (w : Point) (q j k : ℕ) (bs : List Batch) (b : Batch) (c : Cmd) → Contains past w → w.action ≡ Host (entry.Submit q bs) → slice_get bs j ≡ Some b → slice_get b.commands k ≡ Some c
    → Contains (submitted past) (record { entry = w.entry; batch = j; place = k; queue = q; action = Run c })
submitted_of [] w q j k bs b c there is at listed = absurd (let none = there.1 in omega arith)
submitted_of (p ∷ past) w q j k bs b c there is at listed = ⊎_elim
    (λ same. Contains-append_left (commands_of past p.entry (host_of p.action)) (submitted past) _
    (let acts : host_of p.action ≡ Some (entry.Submit q bs) = ap (λ (v : Point). host_of v.action) same ∙ ap host_of is in
    let number : p.entry ≡ w.entry = ap (λ (v : Point). v.entry) same in
    rw (acts, number) (of_submit past w.entry q j k bs b c at listed)))
    (λ later. Contains-append_right (commands_of past p.entry (host_of p.action)) (submitted past) _ (submitted_of past w q j k bs b c later is at listed))
    (contains-cons p past w there)

pub submits_it : (past : Past) (w : Point) (s : Spot) (r : ℕ) → Contains past w → IsSubmit w s r → IsSubmitted past s r
submits_it past w s r there is =
    let at = is.naming.is_at in
    let c = is.naming.command in
    record {
      point = record { entry = s.entry; batch = s.batch; place = s.place; queue = is.queue; action = Run c };
      there = subst (λ (n : ℕ). Contains (submitted past) (record { entry = n; batch = s.batch; place = s.place; queue = is.queue; action = Run c })) is.entry (submitted_of past w is.queue s.batch s.place is.batches at.batch c there is.action at.there at.listed);
      is_at = record { entry = refl; batch = refl; place = refl };
      reported = refl;
      naming = is.naming.naming;
    }
