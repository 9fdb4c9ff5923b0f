-- The points that come with an entry, where queues have caches.
use Rattle.std.proofs.Common.{◌≡◌, ℕ, ◌+◌, ◌<◌, ◌≤◌, List, [], ◌∷◌, ◌++◌, map, length, take, get_or, Bool, true, false, refl, ap, sym, ◌∙◌, subst, arith, Option, Some, None}
use Rattle.std.proofs.lemmas.List.{map-append}
use Rattle.vk_model.specs.declared.command.Cmd.{Cmd}
use Rattle.vk_model.specs.declared.entry.Entry.{Entry}
use Rattle.vk_model.specs.declared.point.Point.{Point as AnyPoint}
use Rattle.vk_model.specs.Trace.Order.{Front, host, after_entry}
use Rattle.vk_model.specs.Trace.Point.{Past, Point, Action, Run, entries}
use Rattle.vk_model.specs.Trace.PointViews.{point_of}
use Rattle.vk_model.specs.Sync.Node.{Node, Act, Runs, acts, with_acts, nodes}
use Rattle.vk_model.specs.Run.Runs.{Name, Step, Stage, Apply, applied, parts_left}
use Rattle.vk_model.proofs.Trace.Growing.{same_entries, entry_grows}
use Rattle.vk_queues.specs.PointViews.{past_after}
use Rattle.vk_offers.specs.IsOffers.{is_run, is_run_in_pieces, commands_in}
use Rattle.vk_offers.proofs.Commands.{command_node}
use Rattle.vk_offers.proofs.Growing.{run_acts, others_stay, none_run}
use Rattle.vk_lag.specs.declared.late.Writer.{Writer}
use Rattle.vk_resources.specs.Matches.{Stands}
use Rattle.vk_device.specs.declared.device.Device.{Device}
use Rattle.vk_device.specs.Led.{Led}
use Rattle.vk_device.specs.Passes.{HasPasses, parts_begun}
use Rattle.vk_device.specs.Inner.Ready.{HostDone}
use Rattle.vk_device.proofs.Coming.{applied_front, stands_stay}
use Rattle.vk_device.proofs.KeptPasses.{passes_stay}
use Rattle.vk_cached_device.specs.declared.device.CachedDevice.{CachedDevice}
use Rattle.vk_cached_device.specs.LedLate.{AreWriters, writer_of}
use Rattle.vk_cached_device.specs.Inner.{Arrives}

-- ---- an entry was done on the device without caches of queues

module _ (t : List Entry) (steps : List Step) (s : Stage) (x : Entry) (xs : List Entry) (atoms : List ℕ) (d : CachedDevice) (h : Arrives t steps s x xs atoms d) where
  abbrev begun : ℕ
  begun = parts_begun d.device.passes x

  -- the device before, with what it has now
  abbrev pub midway : Device
  midway = record h.before { resources = d.device.resources; passes = d.device.passes }

  back : entries (host s.count x ∷ s.front.past) ≡ entries (after_entry s.count x s.front).past
  back = let g = entry_grows s.count x s.front in sym (same_entries (host s.count x ∷ s.front.past) (after_entry s.count x s.front).past g)

  pub was_done : HostDone t steps s x xs atoms midway
  was_done = record {
    memory = h.led.memory;
    run = h.led.run;
    holds = h.led.holds;
    matches = stands_stay (after_entry s.count x s.front).past (host s.count x ∷ s.front.past) d.device.resources back (subst (λ (f : Front). Stands f.past d.device.resources) (applied_front s begun x xs) h.led.matches);
    works = h.was.works;
    waits = h.was.waits;
    counts = h.was.counts;
    offers = h.was.offers;
    passes = passes_stay (parts_left (applied s begun x xs)) (after_entry s.count x s.front).past (host s.count x ∷ s.front.past) d.device.passes d.device.resources back (subst (λ (f : Front). HasPasses (parts_left (applied s begun x xs)) f.past d.device.passes d.device.resources) (applied_front s begun x xs) h.led.passes);
    sound = h.sound;
  }

-- ---- the commands that were started

-- a point that is run in pieces adds its command
pub writers_more : (writers : List Writer) (past : Past) (p : Point) (c : Cmd) (w : Writer) → p.action ≡ Run c → is_run c ≡ true → w.queue ≡ p.queue → w.node ≡ length (nodes past) → AreWriters writers past → AreWriters (writers ++ w ∷ []) (p ∷ past)
writers_more writers past p c w is runs queue node are =
    let n : Node = record { number = length (nodes past); point = p; act = Runs c } in
    let here : nodes (p ∷ past) ≡ n ∷ nodes past = ap (λ (d : Action). with_acts p (acts d) (nodes past)) is ∙ ap (λ (as' : List Act). with_acts p as' (nodes past)) (run_acts c runs) in
    let own : w ≡ writer_of n = ap (λ (q : ℕ). record { queue = q; node = w.node }) queue ∙ ap (λ (k : ℕ). record { queue = p.queue; node = k }) node in
    ap (λ (ws : List Writer). ws ++ w ∷ []) are ∙ ap (λ (v : Writer). map writer_of (commands_in (nodes past)) ++ v ∷ []) own ∙ sym (map-append writer_of (commands_in (nodes past)) (n ∷ []))
    ∙ ap (λ (ns : List Node). map writer_of ns) (sym (command_node n (nodes past) refl)) ∙ ap (λ (ns : List Node). map writer_of (commands_in ns)) (sym here)

-- and another one doesn't
pub writers_same : (writers : List Writer) (past : Past) (p : Point) → is_run_in_pieces p.action ≡ false → AreWriters writers past → AreWriters writers (p ∷ past)
writers_same writers past p other are = are ∙ ap (λ (ns : List Node). map writer_of ns) (sym (others_stay p (acts p.action) (nodes past) (none_run p.action other)))
