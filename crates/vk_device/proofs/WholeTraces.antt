-- The entries of a trace, one after another.
use Rattle.std.proofs.Common.{◌≡◌, ◌⊎◌, inr, ℕ, ◌+◌, ◌<◌, ◌≤◌, List, [], ◌∷◌, ◌++◌, length, take, drop, false, refl, ap, sym, ◌∙◌, subst, arith, get_or, append-nil, append_assoc, Some, None, IsTrue}
use Rattle.std.proofs.lemmas.Option.{slice_get-get_or}
use Rattle.std.proofs.lemmas.Grind.{common_steps}
use Rattle.vk_model.specs.Memory.HeapSizes.{HeapSizes}
use Rattle.vk_model.specs.declared.entry.Entry.{Entry}
use Rattle.vk_model.specs.World.Effect.{world}
use Rattle.vk_model.specs.World.Meaning.{Reads, read_in, meaning}
use Rattle.vk_model.specs.Memory.Allocations.{Allocated, ReachesWith, EndsOnWith, FindsNoRoom, Changes, nothing_allocated, parts_after}
use Rattle.vk_model.specs.Memory.PassLaws.{PartsFollow}
use Rattle.vk_model.specs.Run.Runs.{Step, Stage, start}
use Rattle.vk_model.specs.Run.Picks.{Picked, entry_picks}
use Rattle.vk_laws.specs.DefinedRuns.{FollowsTrace, RunOf}
use Rattle.vk_laws.specs.PickedRuns.{PicksLeadOn}
use Rattle.vk_model.proofs.Memory.Parts.{one_more as applied_more}
use Rattle.vk_resources.specs.declared.applied.Applied.{Applied}
use Rattle.vk_resources.specs.declared.applied.Applied.TheVariants as applied
use Rattle.vk_backing.specs.PassAllots.{FulfilsAll}
use Rattle.vk_backing.specs.Passing.{Passing}
use Rattle.vk_resources.specs.Held.{Held}
use Rattle.vk_resources.specs.Allocating.{IsAllocated, NoRoomIsExact, allotted}
use Rattle.vk_device.specs.Passes.{AllotsAll, parts_begun}
use Rattle.vk_device.specs.declared.device.Device.{Device}
use Rattle.vk_device.specs.Led as led
use Rattle.vk_device.specs.Led.{Led, IsBefore, IsNext, IsSoundTrace, Applies}
use Rattle.vk_device.specs.Replays.{Ends}
use Rattle.vk_device.proofs.TracePicks.{PicksTo, parts_in, front_more, get_after, picks_start, next_left, picks_on, picks_stop, picks_end, whole_meaning}

module _ (config : HeapSizes) (t : List Entry) where
  -- what i entries have allocated, of which each that begins a pass has so many parts, whatever parts come later
  pub record Allots (i : ℕ) (counts : List ℕ) (r : Held) (p : Passing) : Type 0 where
    pub allocated : Allocated
    pub has : FulfilsAll (allotted r) p allocated
    pub reached : (later : List ℕ) → ReachesWith (parts_in (counts ++ later)) config (take i t) allocated

  pub allots_start : (r : Held) (p : Passing) → FulfilsAll (allotted r) p (nothing_allocated config) → Allots 0 [] r p
  allots_start r p has = record { allocated = nothing_allocated config; has = has; reached = λ later. refl }

  -- and with one more, which finds room
  pub allots_more : (i : ℕ) (counts : List ℕ) (r : Held) (p : Passing) (x : Entry) (n : ℕ) (r' : Held) (p' : Passing) → Allots i counts r p → length counts ≡ i → x ≡ get_or t i x → i < length t → ((a : Allocated) → IsAllocated r a → FindsNoRoom a x → ⊥)
      → ((a : Allocated) → FulfilsAll (allotted r) p a → (e : Allocated) × Changes a x e × FulfilsAll (allotted r') p' e × (n ≡ parts_after e x)) → Allots (i + 1) (counts ++ n ∷ []) r' p'
  allots_more i counts r p x n r' p' so_far size is lt room allots =
      let e = allots so_far.allocated so_far.has in
      let long : length (take i t) ≡ i = grind (arith, common_steps) in
      record {
        allocated = e.0;
        has = e.2;
        reached = λ later. subst (λ (l : List ℕ). ReachesWith (parts_in l) config (take (i + 1) t) e.0) (sym (append_assoc counts (n ∷ []) later)) (subst (λ (l : List Entry). ReachesWith (parts_in (counts ++ n ∷ later)) config l e.0) (sym (front_more t i x is lt))
            (applied_more (parts_in (counts ++ n ∷ later)) 0 _ so_far.allocated e.0 (take i t) x (so_far.reached (n ∷ later)) (room so_far.allocated so_far.has.resources) e.1 (get_after counts later n (0 + length (take i t)) (omega (arith, long, size)) ∙ e.3)));
      }

  -- an entry that finds no room after them
  pub allots_stop : PartsFollow → (i : ℕ) (counts : List ℕ) (r : Held) (p : Passing) (x : Entry) (so_far : Allots i counts r p) → x ≡ get_or t i x → i < length t → FindsNoRoom so_far.allocated x → EndsOnWith (parts_in (counts ++ [])) config t (Some i) so_far.allocated
  allots_stop law i counts r p x so_far is lt no_room =
      let parts = parts_in (counts ++ []) in (
        so_far.reached [],
        record {
          reached = law.applied parts 0 (nothing_allocated config) (take i t) so_far.allocated (so_far.reached []);
          stopped = x;
          here = slice_get-get_or t i x lt ∙ ap (λ (y : Entry). Some y) (sym is);
          no_room = no_room;
        },
      )

  -- and all entries
  pub allots_whole : (i : ℕ) (counts : List ℕ) (r : Held) (p : Passing) (so_far : Allots i counts r p) → length t ≤ i → EndsOnWith (parts_in (counts ++ [])) config t None so_far.allocated
  allots_whole i counts r p so_far done =
      let whole : take i t ≡ t = grind (arith, common_steps) in
      subst (λ (l : List Entry). ReachesWith (parts_in (counts ++ [])) config l so_far.allocated) whole (so_far.reached [])

module _ (answer : List ℕ → ℕ → ℕ) (next : List ℕ → ℕ → List ℕ) (config : HeapSizes) (t : List Entry) (held0 : List ℕ) where
  -- what holds after i entries, whatever parts come later
  pub record Replays (i : ℕ) (reported : Reads) (d : Device) (held : List ℕ) : Type 0 where
    pub steps : List Step
    pub stage : Stage
    pub led : Led t steps stage d
    pub counts : List ℕ
    pub picks : PicksTo answer next t held0 i reported counts steps stage held
    pub works : d.failed ≡ false
    pub allots : Allots config t i counts d.resources d.passes

  pub replays_start : (d : Device) → Led t [] (start t) d → FulfilsAll (allotted d.resources) d.passes (nothing_allocated config) → d.failed ≡ false → Replays 0 [] d held0
  replays_start d led allocated works = record {
    steps = [];
    stage = start t;
    led = led;
    counts = [];
    picks = picks_start answer next t held0;
    works = works;
    allots = allots_start config t d.resources d.passes allocated;
  }

module _ (answer : List ℕ → ℕ → ℕ) (next : List ℕ → ℕ → List ℕ) (config : HeapSizes) (t : List Entry) (held0 : List ℕ) (i : ℕ) (reported : Reads) (d : Device) (held : List ℕ) (x : Entry)
    (so_far : Replays answer next config t held0 i reported d held) (is : x ≡ get_or t i x) (lt : i < length t) (sound : IsSoundTrace t) where
  abbrev s : Stage
  s = so_far.stage

  next_is : s.left ≡ x ∷ drop (i + 1) t
  next_is = next_left answer next t held0 i reported so_far.counts so_far.steps s held so_far.picks x is lt

  pub follows_before : IsBefore t so_far.steps s x (drop (i + 1) t) d
  follows_before = record { led = so_far.led; next = next_is; sound = sound }

  pub entry_ready : IsTrue d.failed ⊎ IsNext d x
  entry_ready = inr (t, so_far.steps, s, drop (i + 1) t, follows_before)

  module _ (d' : Device) (held' : List ℕ) (new : Reads) where
    abbrev begun : ℕ
    begun = parts_begun d'.passes x

    pub replays_more : PicksLeadOn → (run : RunOf t so_far.steps s) → FollowsTrace t s → Led t (so_far.steps ++ (entry_picks answer next (parts_begun d'.passes x) s held x (drop (i + 1) t)).steps) (entry_picks answer next (parts_begun d'.passes x) s held x (drop (i + 1) t)).stage d'
        → held' ≡ (entry_picks answer next (parts_begun d'.passes x) s held x (drop (i + 1) t)).held → read_in (world s.front.past) s.count x ≡ new
        → ((a : Allocated) → IsAllocated d.resources a → FindsNoRoom a x → ⊥)
        → ((a : Allocated) → FulfilsAll (allotted d.resources) d.passes a → (e : Allocated) × Changes a x e × FulfilsAll (allotted d'.resources) d'.passes e × (parts_begun d'.passes x ≡ parts_after e x)) → d'.failed ≡ false → Replays answer next config t held0 (i + 1) (reported ++ new) d' held'
    replays_more lead_on run st led same_held gave room allots works =
        let p = entry_picks answer next begun s held x (drop (i + 1) t) in
        record {
          steps = so_far.steps ++ p.steps;
          stage = p.stage;
          led = led;
          counts = so_far.counts ++ begun ∷ [];
          picks = picks_on answer next t held0 i reported so_far.counts so_far.steps s held so_far.picks x is lt begun (lead_on answer next t so_far.steps s held x (drop (i + 1) t) run sound.faultless next_is) st held' same_held new gave;
          works = works;
          allots = allots_more config t i so_far.counts d.resources d.passes x begun d'.resources d'.passes so_far.allots so_far.picks.long is lt room allots;
        }

  abbrev pub AppliesAt : Applied → Device → List ℕ → Type 0
  AppliesAt a d' held' = (t' : List Entry) (steps : List Step) (s' : Stage) (xs : List Entry) → IsBefore t' steps s' x xs d → Applies answer next a t' steps s' held x xs d' held'

  abbrev pub ReadsAt : Applied → Type 0
  ReadsAt a = (t' : List Entry) (steps : List Step) (s' : Stage) (xs : List Entry) → IsBefore t' steps s' x xs d → led.Reads a s' x

  abbrev pub AllotsAt : Applied → Device → Type 0
  AllotsAt a d' = AllotsAll a x d.resources d.passes d'.resources d'.passes

  pub after_done : PicksLeadOn → RunOf t so_far.steps s → FollowsTrace t s → (d' : Device) (held' : List ℕ) (a : Applied) → a ≡ applied.Done → AppliesAt a d' held' → ReadsAt a → NoRoomIsExact a d.resources x → AllotsAt a d' → d'.failed ≡ false
      → Replays answer next config t held0 (i + 1) reported d' held'
  after_done lead_on run st d' held' a done applies gives rooms allots works =
      let now = subst (λ (b : Applied). AppliesAt b d' held') done applies t so_far.steps s (drop (i + 1) t) follows_before in
      let gave = subst (λ (b : Applied). ReadsAt b) done gives t so_far.steps s (drop (i + 1) t) follows_before in
      rw (← append-nil reported) (replays_more d' held' [] lead_on run st now.0 now.1 gave (subst (λ (b : Applied). NoRoomIsExact b d.resources x) done rooms) (subst (λ (b : Applied). AllotsAt b d') done allots) works)

  pub after_bytes : PicksLeadOn → RunOf t so_far.steps s → FollowsTrace t s → (d' : Device) (held' : List ℕ) (a : Applied) (bytes : List ℕ) → a ≡ applied.Bytes bytes → AppliesAt a d' held' → ReadsAt a → NoRoomIsExact a d.resources x → AllotsAt a d' → d'.failed ≡ false
      → Replays answer next config t held0 (i + 1) (reported ++ (i, bytes) ∷ []) d' held'
  after_bytes lead_on run st d' held' a bytes given applies gives rooms allots works =
      let now = subst (λ (b : Applied). AppliesAt b d' held') given applies t so_far.steps s (drop (i + 1) t) follows_before in
      let gave = subst (λ (b : Applied). ReadsAt b) given gives t so_far.steps s (drop (i + 1) t) follows_before in
      subst (λ (n : ℕ). Replays answer next config t held0 (i + 1) (reported ++ (n, bytes) ∷ []) d' held') so_far.picks.at
      (replays_more d' held' ((s.count, bytes) ∷ []) lead_on run st now.0 now.1 gave (subst (λ (b : Applied). NoRoomIsExact b d.resources x) given rooms) (subst (λ (b : Applied). AllotsAt b d') given allots) works)

  pub stops : PartsFollow → (d' : Device) (held' : List ℕ) (a : Applied) → a ≡ applied.NoRoom → AppliesAt a d' held' → NoRoomIsExact a d.resources x → AllotsAt a d' → Ends answer next config t (Some i) held0 d' held'
  stops law d' held' a no_room applies rooms allots =
      let now = subst (λ (b : Applied). AppliesAt b d' held') no_room applies t so_far.steps s (drop (i + 1) t) follows_before in
      record {
        allocated = so_far.allots.allocated;
        held = subst (λ (b : Applied). AllotsAll b x d.resources d.passes d'.resources d'.passes) no_room allots so_far.allots.allocated so_far.allots.has;
        parts = parts_in (so_far.counts ++ []);
        ends = allots_stop config t law i so_far.counts d.resources d.passes x so_far.allots is lt (subst (λ (b : Applied). NoRoomIsExact b d.resources x) no_room rooms so_far.allots.allocated so_far.allots.has.resources);
        led = subst (λ (p : Picked). Led t p.steps p.stage d' × (held' ≡ p.held)) (sym (picks_stop answer next t held0 i reported so_far.counts so_far.steps s held so_far.picks x is lt [])) now;
      }

-- and at the end of the trace
pub ends : (answer : List ℕ → ℕ → ℕ) (next : List ℕ → ℕ → List ℕ) (config : HeapSizes) (t : List Entry) (held0 : List ℕ) (i : ℕ) (reported : Reads) (d : Device) (held : List ℕ) → Replays answer next config t held0 i reported d held → length t ≤ i
    → (reported ≡ meaning t (length t)) × Ends answer next config t None held0 d held
ends answer next config t held0 i reported d held so_far done = (
  whole_meaning answer next t held0 i reported so_far.counts so_far.steps so_far.stage held so_far.picks done,
  record {
    allocated = so_far.allots.allocated;
    held = so_far.allots.has;
    parts = parts_in (so_far.counts ++ []);
    ends = allots_whole config t i so_far.counts d.resources d.passes so_far.allots done;
    led = subst (λ (p : Picked). Led t p.steps p.stage d × (held ≡ p.held)) (sym (picks_end answer next t held0 i reported so_far.counts so_far.steps so_far.stage held so_far.picks done [])) (so_far.led, refl);
  },
)
