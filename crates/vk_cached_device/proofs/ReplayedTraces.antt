-- The entries of a trace, one after another, on a device whose queues have caches.
use Rattle.std.proofs.Common.{◌≡◌, ◌∙◌, ◌⊎◌, inr, ℕ, ◌+◌, ◌<◌, ◌≤◌, List, [], ◌∷◌, ◌++◌, length, drop, false, refl, sym, subst, get_or, append-nil, Some, None, IsTrue}
use Rattle.vk_model.specs.declared.entry.Entry.{Entry}
use Rattle.vk_model.specs.World.Effect.{world}
use Rattle.vk_model.specs.World.Meaning.{Reads, read_in}
use Rattle.vk_model.specs.Memory.HeapSizes.{HeapSizes}
use Rattle.vk_model.specs.Memory.Allocations.{Allocated, FindsNoRoom, Changes, nothing_allocated, parts_after}
use Rattle.vk_model.specs.Memory.PassLaws.{PartsFollow}
use Rattle.vk_model.specs.Run.Runs.{Step, Stage, start}
use Rattle.vk_model.specs.Run.Picks.{Picked, entry_picks}
use Rattle.vk_laws.specs.DefinedRuns.{DefinedRunsFollow}
use Rattle.vk_laws.specs.DirectRuns.{HostMemory, DirectRunsAreRuns, bare_memory}
use Rattle.vk_laws.specs.PickedRuns.{PicksLeadOn}
use Rattle.vk_cache_laws.specs.LateRuns.{Late}
use Rattle.vk_resources.specs.declared.applied.Applied.{Applied}
use Rattle.vk_resources.specs.declared.applied.Applied.TheVariants as applied
use Rattle.vk_backing.specs.PassAllots.{FulfilsAll}
use Rattle.vk_resources.specs.Allocating.{allotted, IsAllocated, NoRoomIsExact}
use Rattle.vk_device.specs.declared.device.Device.{Device}
use Rattle.vk_device.specs.Led.{IsSoundTrace}
use Rattle.vk_device.specs.Passes.{AllotsAll, parts_begun}
use Rattle.vk_cached_device.specs.declared.device.CachedDevice.{CachedDevice}
use Rattle.vk_cached_device.specs.LedLate.{LedLate, BeginsLate, IsBeforeLate, IsNextLate}
use Rattle.vk_cached_device.specs.Applies.{ReadsLate, AppliesLate}
use Rattle.vk_cached_device.specs.Replays.{LedBy, EndsLate}
use Rattle.vk_device.proofs.WholeTraces.{Allots, allots_start, allots_more, allots_stop, allots_whole}
use Rattle.vk_device.proofs.TracePicks.{PicksTo, parts_in, picks_start, next_left, picks_on, picks_stop, picks_end}

module _ (answer : List ℕ → ℕ → ℕ) (next : List ℕ → ℕ → List ℕ) (config : HeapSizes) (t : List Entry) (held0 : List ℕ) where
  -- what holds after i entries
  pub record Replays (i : ℕ) (reported : Reads) (d : CachedDevice) (held : List ℕ) : Type 0 where
    pub stage : Stage
    pub steps : List Step
    pub led : LedBy t steps stage d
    pub counts : List ℕ
    pub picks : PicksTo answer next t held0 i reported counts steps stage held
    pub works : d.failed ≡ false
    pub allots : Allots config t i counts d.device.resources d.device.passes

  pub replays_start : (d : CachedDevice) → BeginsLate d → FulfilsAll (allotted d.device.resources) d.device.passes (nothing_allocated config) → d.failed ≡ false → Replays 0 [] d held0
  replays_start d begins allocated works = record {
    stage = start t;
    steps = [];
    led = record { memory = bare_memory (λ c. 0); late = λ c. None; led = begins t (λ c. 0) };
    counts = [];
    picks = picks_start answer next t held0;
    works = works;
    allots = allots_start config t d.device.resources d.device.passes allocated;
  }

  -- caches may do something by themselves between two entries
  pub replays_stay : (i : ℕ) (reported : Reads) (d d' : CachedDevice) (held : List ℕ) → Replays i reported d held
      → ((u : List Entry) (steps : List Step) (s : Stage) (memory : HostMemory) (late : Late) → LedLate u steps s memory late d → (other : Late) × LedLate u steps s memory other d') → d'.device ≡ d.device → d'.failed ≡ d.failed → Replays i reported d' held
  replays_stay i reported d d' held so_far stays device same =
      let by = stays t so_far.steps so_far.stage so_far.led.memory so_far.led.late so_far.led.led in
      record {
        stage = so_far.stage;
        steps = so_far.steps;
        led = record { memory = so_far.led.memory; late = by.0; led = by.1 };
        counts = so_far.counts;
        picks = so_far.picks;
        works = same ∙ so_far.works;
        allots = subst (λ (c : Device). Allots config t i so_far.counts c.resources c.passes) (sym device) so_far.allots;
      }

module _ (answer : List ℕ → ℕ → ℕ) (next : List ℕ → ℕ → List ℕ) (config : HeapSizes) (t : List Entry) (held0 : List ℕ) (i : ℕ) (reported : Reads) (d : CachedDevice) (held : List ℕ) (x : Entry)
    (so_far : Replays answer next config t held0 i reported d held) (is : x ≡ get_or t i x) (lt : i < length t) (sound : IsSoundTrace t) where
  abbrev s : Stage
  s = so_far.stage

  next_is : s.left ≡ x ∷ drop (i + 1) t
  next_is = next_left answer next t held0 i reported so_far.counts so_far.steps s held so_far.picks x is lt

  before : IsBeforeLate t so_far.steps s so_far.led.memory so_far.led.late x (drop (i + 1) t) d
  before = record { led = so_far.led.led; next = next_is; sound = sound }

  pub entry_ready : IsTrue d.failed ⊎ IsNextLate d x
  entry_ready = inr (t, so_far.steps, s, so_far.led.memory, so_far.led.late, drop (i + 1) t, before)

  module _ (are_runs : DirectRunsAreRuns) (follow : DefinedRunsFollow) (lead_on : PicksLeadOn) (d' : CachedDevice) (held' : List ℕ) (a : Applied) (applies : AppliesLate answer next a held x d d' held') (gives : ReadsLate a x d)
      (rooms : NoRoomIsExact a d.device.resources x) (allots : AllotsAll a x d.device.resources d.device.passes d'.device.resources d'.device.passes) (works : d'.failed ≡ false) where
    one_more : (new : Reads) → LedBy t (so_far.steps ++ (entry_picks answer next (parts_begun d'.device.passes x) s held x (drop (i + 1) t)).steps) (entry_picks answer next (parts_begun d'.device.passes x) s held x (drop (i + 1) t)).stage d'
        → held' ≡ (entry_picks answer next (parts_begun d'.device.passes x) s held x (drop (i + 1) t)).held → read_in (world s.front.past) s.count x ≡ new
        → ((b : Allocated) → IsAllocated d.device.resources b → FindsNoRoom b x → ⊥)
        → ((b : Allocated) → FulfilsAll (allotted d.device.resources) d.device.passes b → (e : Allocated) × Changes b x e × FulfilsAll (allotted d'.device.resources) d'.device.passes e × (parts_begun d'.device.passes x ≡ parts_after e x)) → Replays answer next config t held0 (i + 1) (reported ++ new) d' held'
    one_more new led same gave room changes =
        let run = are_runs t so_far.steps s so_far.led.led.led.memory so_far.led.led.led.run in
        let p = entry_picks answer next (parts_begun d'.device.passes x) s held x (drop (i + 1) t) in
        record {
          stage = p.stage;
          steps = so_far.steps ++ p.steps;
          led = led;
          counts = so_far.counts ++ parts_begun d'.device.passes x ∷ [];
          picks = picks_on answer next t held0 i reported so_far.counts so_far.steps s held so_far.picks x is lt (parts_begun d'.device.passes x) (lead_on answer next t so_far.steps s held x (drop (i + 1) t) run sound.faultless next_is) (follow t so_far.steps s run) held' same new gave;
          works = works;
          allots = allots_more config t i so_far.counts d.device.resources d.device.passes x (parts_begun d'.device.passes x) d'.device.resources d'.device.passes so_far.allots so_far.picks.long is lt room changes;
        }

    pub after_done : a ≡ applied.Done → Replays answer next config t held0 (i + 1) reported d' held'
    after_done done =
        let now = subst (λ (b : Applied). AppliesLate answer next b held x d d' held') done applies t so_far.steps s so_far.led.memory so_far.led.late (drop (i + 1) t) before in
        let gave = subst (λ (b : Applied). ReadsLate b x d) done gives t so_far.steps s so_far.led.memory so_far.led.late (drop (i + 1) t) before in
        rw (← append-nil reported) (one_more [] (record { memory = now.0; late = _; led = now.1 }) now.2 gave (subst (λ (b : Applied). NoRoomIsExact b d.device.resources x) done rooms) (subst (λ (b : Applied). AllotsAll b x d.device.resources d.device.passes d'.device.resources d'.device.passes) done allots))

    pub after_bytes : (bytes : List ℕ) → a ≡ applied.Bytes bytes → Replays answer next config t held0 (i + 1) (reported ++ (i, bytes) ∷ []) d' held'
    after_bytes bytes given =
        let now = subst (λ (b : Applied). AppliesLate answer next b held x d d' held') given applies t so_far.steps s so_far.led.memory so_far.led.late (drop (i + 1) t) before in
        let gave = subst (λ (b : Applied). ReadsLate b x d) given gives t so_far.steps s so_far.led.memory so_far.led.late (drop (i + 1) t) before in
        subst (λ (n : ℕ). Replays answer next config t held0 (i + 1) (reported ++ (n, bytes) ∷ []) d' held') so_far.picks.at (one_more ((s.count, bytes) ∷ []) (record { memory = now.0; late = _; led = now.1 }) now.2 gave (subst (λ (b : Applied). NoRoomIsExact b d.device.resources x) given rooms) (subst (λ (b : Applied). AllotsAll b x d.device.resources d.device.passes d'.device.resources d'.device.passes) given allots))

  pub stops : PartsFollow → (d' : CachedDevice) (held' : List ℕ) (a : Applied) → a ≡ applied.NoRoom → AppliesLate answer next a held x d d' held' → NoRoomIsExact a d.device.resources x → AllotsAll a x d.device.resources d.device.passes d'.device.resources d'.device.passes
      → EndsLate answer next config t (Some i) held0 d' held'
  stops law d' held' a no_room applies rooms allots =
      let now = subst (λ (b : Applied). AppliesLate answer next b held x d d' held') no_room applies t so_far.steps s so_far.led.memory so_far.led.late (drop (i + 1) t) before in
      record {
        allocated = so_far.allots.allocated;
        held = subst (λ (b : Applied). AllotsAll b x d.device.resources d.device.passes d'.device.resources d'.device.passes) no_room allots so_far.allots.allocated so_far.allots.has;
        parts = parts_in (so_far.counts ++ []);
        ends = allots_stop config t law i so_far.counts d.device.resources d.device.passes x so_far.allots is lt (subst (λ (b : Applied). NoRoomIsExact b d.device.resources x) no_room rooms so_far.allots.allocated so_far.allots.has.resources);
        led = subst (λ (p : Picked). LedBy t p.steps p.stage d' × (held' ≡ p.held)) (sym (picks_stop answer next t held0 i reported so_far.counts so_far.steps s held so_far.picks x is lt [])) (record { memory = _; late = _; led = now.0 }, now.1);
      }

-- and at the end of the trace
pub ends : (answer : List ℕ → ℕ → ℕ) (next : List ℕ → ℕ → List ℕ) (config : HeapSizes) (t : List Entry) (held0 : List ℕ) (i : ℕ) (reported : Reads) (d : CachedDevice) (held : List ℕ) → Replays answer next config t held0 i reported d held → length t ≤ i
    → EndsLate answer next config t None held0 d held
ends answer next config t held0 i reported d held so_far done = record {
  allocated = so_far.allots.allocated;
  held = so_far.allots.has;
  parts = parts_in (so_far.counts ++ []);
  ends = allots_whole config t i so_far.counts d.device.resources d.device.passes so_far.allots done;
  led = subst (λ (p : Picked). LedBy t p.steps p.stage d × (held ≡ p.held)) (sym (picks_end answer next t held0 i reported so_far.counts so_far.steps so_far.stage held so_far.picks done [])) (so_far.led, refl);
}
