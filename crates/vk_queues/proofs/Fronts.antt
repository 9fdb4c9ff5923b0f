-- The batches that wait, through submits, entries and starts.
use Rattle.std.proofs.Common.{◌≡◌, inl, ⊎_elim, ℕ, suc, ◌+◌, ◌<◌, length, List, [], ◌∷◌, ◌++◌, map, set, take, drop, false, refl, ap, sym, ◌∙◌, subst, arith, Option, Some, None, slice_get, zero}
use Rattle.std.specs.Prelude.{is_some, Contains}
use Rattle.std.proofs.lemmas.List.{map-set, length-map}
use Rattle.std.proofs.lemmas.List.Elements.{Contains-append_cases}
use Rattle.vk_model.specs.declared.entry.Batch.{Batch}
use Rattle.vk_model.specs.declared.entry.Entry.{Entry}
use Rattle.vk_model.specs.declared.entry.Entry.TheVariants as entry
use Rattle.vk_model.specs.Basics.{holds}
use Rattle.vk_model.specs.Trace.Point.{Past}
use Rattle.vk_model.specs.Trace.Objects.{made_by, initial}
use Rattle.vk_model.specs.Trace.Order.{Front, SubmittedBatch, host, started, same_batch, batches_of, batches_from, next_batch, start_batch}
use Rattle.vk_model.proofs.Lists.Members.{filtered}
use Rattle.vk_queues.specs.declared.lines.Line.{Line}
use Rattle.vk_queues.specs.declared.lines.Candidate.{Candidate}
use Rattle.vk_queues.specs.declared.tallies.Tally.{Tally}
use Rattle.vk_queues.specs.declared.tallies.Tallies.{Tallies}
use Rattle.vk_queues.specs.Inner.Tallied.{IsTallied, tally_at, after_entry}
use Rattle.vk_queues.specs.Inner.Lined.{Queued, queued, batches_on, submissions, count_of, IsLined, IsBest, AreAllMet, AreFirstMet}
use Rattle.vk_queues.specs.Inner.AreWaiting.{AreWaiting}
use Rattle.vk_queues.proofs.Counting.{after_signals, tally_of_host, tally_of_started, met_once_started, met_after_host, makes_again}
use Rattle.vk_queues.proofs.NextBatch.{without, rising_filter, rising_append}
use Rattle.vk_queues.proofs.Lining.{lined_taken, lined_submit, none_is_next, best_is_next, from_batches, rising_batches, met_wider, met_submit, none_met, met_set, queued_at}

-- a list written over the whole of another
pub written : {X : Type 0} (n : ℕ) (xs ys : List X) → n ≡ length xs → take n (xs ++ ys) ≡ xs
written zero [] ys e = refl
written (suc n) [] ys e = absurd (let bad : suc n ≡ 0 = e in omega arith)
written zero (x ∷ xs) ys e = absurd (let bad : 0 ≡ suc (length xs) = e in omega arith)
written (suc n) (x ∷ xs) ys e = ap (λ l. x ∷ l) (written n xs ys (let s : suc n ≡ suc (length xs) = e in omega arith))

-- lines that are written over others, and differ in what they know alone
pub over : (n : ℕ) (new old : List Line) → n ≡ length old → map queued new ≡ map queued old → take n (new ++ drop (length new) old) ≡ new
over n new old size same = written n new (drop (length new) old) (size ∙ sym (length-map old queued) ∙ sym (ap length same) ∙ length-map new queued)

pub within_new : (k : ℕ) (new old : List Line) → map queued new ≡ map queued old → k < length old → k < length new
within_new k new old same lt = let size : length new ≡ length old = sym (length-map new queued) ∙ ap length same ∙ length-map old queued in omega arith

-- ---- a submit

pub other_lines : (t : Tallies) (old new : List Line) (count : ℕ) (f : Front) → AreWaiting t old count f → IsLined (map queued new) f.waiting → AreAllMet f.past new → AreWaiting t new count f
other_lines t old new count f w lined met = record { tallied = w.tallied; lined = lined; met = met; rising = w.rising; below = w.below }

pub nothing_submitted : (t : Tallies) (lines : List Line) (count : ℕ) (f : Front) → AreWaiting t lines count f → AreWaiting t lines (count + 1) f
nothing_submitted t lines count f w = record { tallied = w.tallied; lined = w.lined; met = w.met; rising = w.rising; below = λ u c. let lt = w.below u c in omega arith }

pub no_batches : (past : Past) (e : ℕ) (x : Entry) → ((q : ℕ) (bs : List Batch) → x ≡ entry.Submit q bs → ⊥) → batches_of past e x ≡ []
no_batches past e (entry.Submit q bs) other = absurd (other q bs refl)
no_batches past e _ other = refl

pub submitted_waiting : (t : Tallies) (lines : List Line) (k : ℕ) (l new : Line) (count : ℕ) (f : Front) (bs : List Batch) → AreWaiting t lines count f → slice_get lines k ≡ Some l → new.queue ≡ l.queue → new.met ≡ l.met
    → batches_on new ≡ batches_on l ++ batches_from f.past count l.queue 0 bs
    → AreWaiting t (set lines k new) (count + 1) (record { past = f.past; waiting = f.waiting ++ batches_from f.past count l.queue 0 bs })
submitted_waiting t lines k l new count f bs w at queue met batches =
    let more : List SubmittedBatch = batches_from f.past count l.queue 0 bs in record {
      tallied = w.tallied;
      lined = subst (λ (v : List Queued). IsLined v (f.waiting ++ more)) (sym (map-set queued lines k new)) (lined_submit (map queued lines) k (queued l) (queued new) f.waiting f.past count bs (queued_at lines k l at) queue w.lined batches);
      met = met_set f.past lines k new w.met (subst (λ (n : ℕ). AreFirstMet f.past n (batches_on new)) (sym met) (subst (AreFirstMet f.past l.met) (sym batches) (met_submit f.past l.met (batches_on l) more (w.met k l at))));
      rising = rising_append f.waiting more w.rising (rising_batches f.past count l.queue 0 bs) (λ u v c d. let lt = w.below u c in let is = (from_batches f.past count l.queue 0 bs v d).0 in inl (omega arith));
      below = λ u c. ⊎_elim (λ old. let lt = w.below u old in omega arith) (λ come. let is = (from_batches f.past count l.queue 0 bs u come).0 in omega arith) (Contains-append_cases f.waiting more u c);
    }

-- ---- an entry

again_is : (t : Tallies) (past : Past) (x : Entry) → IsTallied t past → holds (made_by x) (λ id. is_some (tally_at t id).initial) ≡ makes_again past x
again_is t past x tallied = go (made_by x) where
  go : (o : Option ℕ) → holds o (λ id. is_some (tally_at t id).initial) ≡ holds o (λ id. is_some (initial past id))
  go None = refl
  go (Some id) = ap (λ (y : Tally). is_some y.initial) (tallied id)

pub entered_tallies : (t now : Tallies) (past : Past) (e : ℕ) (x : Entry) → IsTallied t past → ((id : ℕ) → tally_at now id ≡ after_entry id x (tally_at t id)) → IsTallied now (host e x ∷ past)
entered_tallies t now past e x tallied step = λ id. step id ∙ ap (after_entry id x) (tallied id) ∙ sym (tally_of_host past e x id)

-- where it makes no semaphore's id again
pub entered_waiting : (t now : Tallies) (lines : List Line) (count e : ℕ) (x : Entry) (f : Front) → AreWaiting t lines count f → ((id : ℕ) → tally_at now id ≡ after_entry id x (tally_at t id))
    → holds (made_by x) (λ id. is_some (tally_at t id).initial) ≡ false → AreWaiting now lines count (record { past = host e x ∷ f.past; waiting = f.waiting })
entered_waiting t now lines count e x f w step never = record {
  tallied = entered_tallies t now f.past e x w.tallied step;
  lined = w.lined;
  met = λ k l at. met_wider f.past (host e x ∷ f.past) l.met (batches_on l) (λ u met. met_after_host f.past e x u (sym (again_is t f.past x w.tallied) ∙ never) met) (w.met k l at);
  rising = w.rising;
  below = w.below;
}

-- where it does, and what was known of waits is forgotten
pub entered_again : (t now : Tallies) (lines fresh : List Line) (count e : ℕ) (x : Entry) (f : Front) → AreWaiting t lines count f → ((id : ℕ) → tally_at now id ≡ after_entry id x (tally_at t id))
    → map queued fresh ≡ map queued lines → AreAllMet (host e x ∷ f.past) fresh → AreWaiting now fresh count (record { past = host e x ∷ f.past; waiting = f.waiting })
entered_again t now lines fresh count e x f w step same met = record {
  tallied = entered_tallies t now f.past e x w.tallied step;
  lined = subst (λ (v : List Queued). IsLined v f.waiting) (sym same) w.lined;
  met = met;
  rising = w.rising;
  below = w.below;
}

-- ---- a start

-- what follows from the choice of a line
pub chosen_waiting : (t : Tallies) (old here new : List Line) (count : ℕ) (f : Front) (best : Option Candidate) → AreWaiting t old count f → here ≡ old → map queued new ≡ map queued here
    → (AreAllMet f.past here → AreAllMet f.past new × IsBest (submissions f.past (map queued here)) (length here) best) → AreWaiting t new count f × IsBest (submissions f.past (map queued new)) (length new) best
chosen_waiting t old here new count f best w is same next =
    let at = next (subst (AreAllMet f.past) (sym is) w.met) in (
      other_lines t old new count f w (subst (λ (v : List Queued). IsLined v f.waiting) (sym (same ∙ ap (map queued) is)) w.lined) at.0,
      subst (λ (n : ℕ). IsBest (submissions f.past (map queued new)) n best) (sym (length-map here queued) ∙ sym (ap length same) ∙ length-map new queued)
          (subst (λ (v : List Queued). IsBest (submissions f.past v) (length here) best) (sym same) at.1),
    )

-- no line is ready
pub idle_waiting : (t : Tallies) (lines : List Line) (count : ℕ) (f : Front) → AreWaiting t lines count f → IsBest (submissions f.past (map queued lines)) (length lines) None
    → (None ≡ next_batch f.past [] f.waiting) × AreWaiting t lines count (start_batch (next_batch f.past [] f.waiting) f)
idle_waiting t lines count f w none =
    let next : next_batch f.past [] f.waiting ≡ None = none_is_next f.past (map queued lines) f.waiting w.lined (subst (λ (n : ℕ). IsBest (submissions f.past (map queued lines)) n None) (sym (length-map lines queued)) none) in
    (sym next, subst (λ (o : Option SubmittedBatch). AreWaiting t lines count (start_batch o f)) (sym next) w)

module _ (t now : Tallies) (lines : List Line) (count : ℕ) (f : Front) (w : AreWaiting t lines count f) (c : Candidate) (best : IsBest (submissions f.past (map queued lines)) (length lines) (Some c)) (l : Line) (at : slice_get lines c.line ≡ Some l) where
  found : (b : SubmittedBatch) × (rest : List SubmittedBatch) × (batches_on l ≡ b ∷ rest) × (next_batch f.past [] f.waiting ≡ Some b)
  found = best_is_next f.past (map queued lines) f.waiting w.lined w.rising c (subst (λ (n : ℕ). IsBest (submissions f.past (map queued lines)) n (Some c)) (sym (length-map lines queued)) best) (queued l) (queued_at lines c.line l at)

  pub some_batch : batches_on l ≡ [] → ⊥
  some_batch none = let is = found.2 in cc

  pub started_waiting : (b : SubmittedBatch) (new : Line) → batches_on l ≡ b ∷ batches_on new → new.queue ≡ l.queue → new.met ≡ 0 → ((id : ℕ) → tally_at now id ≡ after_signals id b.content.signals (tally_at t id))
      → (Some b ≡ next_batch f.past [] f.waiting) × AreWaiting now (set lines c.line new) count (start_batch (next_batch f.past [] f.waiting) f)
  started_waiting b new batches queue met step =
      let same : found.0 ≡ b = (let e : found.0 ∷ found.1 ≡ b ∷ batches_on new = sym found.2 ∙ batches in cc) in
      let next : next_batch f.past [] f.waiting ≡ Some b = found.3 ∙ ap Some same in (
        sym next,
        subst (λ (o : Option SubmittedBatch). AreWaiting now (set lines c.line new) count (start_batch o f)) (sym next) (record {
          tallied = λ id. step id ∙ ap (after_signals id b.content.signals) (w.tallied id) ∙ sym (tally_of_started b f.past id);
          lined = subst (λ (v : List Queued). IsLined v (without b f.waiting)) (sym (map-set queued lines c.line new))
              (lined_taken (map queued lines) c.line (queued l) f.waiting b (batches_on new) (queued_at lines c.line l at) batches w.lined w.rising (queued new) queue refl);
          met = met_set (started b f.past) lines c.line new (λ k m there. met_wider f.past (started b f.past) m.met (batches_on m) (λ u h. met_once_started b f.past u h) (w.met k m there))
              (subst (λ (n : ℕ). AreFirstMet (started b f.past) n (batches_on new)) (sym met) (none_met (started b f.past) (batches_on new)));
          rising = rising_filter (λ u. Rattle.std.specs.Prelude.not (same_batch b u)) f.waiting w.rising;
          below = λ u d. w.below u (filtered (λ v. Rattle.std.specs.Prelude.not (same_batch b v)) f.waiting u d).0;
        }),
      )

-- ---- how many wait

pub fewer_set : (vs : List Queued) (k : ℕ) (v x : Queued) (b : SubmittedBatch) → slice_get vs k ≡ Some v → v.batches ≡ b ∷ x.batches → count_of (set vs k x) < count_of vs
fewer_set [] k v x b at is = absurd cc
fewer_set (y ∷ ys) zero v x b at is =
    let same : y ≡ v = cc in
    let size : length y.batches ≡ suc (length x.batches) = ap (λ (q : Queued). length q.batches) same ∙ ap length is in omega arith
fewer_set (y ∷ ys) (suc k) v x b at is = let lt = fewer_set ys k v x b at is in omega arith
