-- An entry that is applied, on a device.
use Rattle.std.proofs.Common.{◌≡◌, ℕ, zero, suc, ◌+◌, ◌<◌, ◌≤◌, arith, List, [], ◌∷◌, ◌++◌, length, Bool, true, false, ◌||◌, ◌==◌, refl, ap, sym, ◌∙◌, subst, cond, zero-add, Option, Some, None}
use Rattle.std.specs.Prelude.{IsTrue, is_some, option_and_then, map, if◌then◌else◌}
use Rattle.std.specs.List.{range_with_len}
use Rattle.std.proofs.lemmas.List.{append_assoc}
use Rattle.vk_model.proofs.Lists.Truths.{clash}
use Rattle.vk_model.specs.declared.entry.Entry.{Entry}
use Rattle.vk_model.specs.declared.entry.Entry.TheVariants as entry
use Rattle.vk_model.specs.declared.resource.BufferInfo.{BufferInfo}
use Rattle.vk_model.specs.Basics.{among, below}
use Rattle.vk_model.specs.Laws.{NoFaultIsSound}
use Rattle.vk_model.specs.Run.Runs.{Step, Stage, Apply, applied, parts_left, may_go, are_atoms, touched_by, atom_count}
use Rattle.vk_model.specs.Run.Caches as caches
use Rattle.vk_model.specs.Run.Caches.{Cell, Clean, Dirty, value_through, with_held}
use Rattle.vk_model.specs.Run.CachedRuns.{in_atoms, turned_over, after_atoms, after_host}
use Rattle.vk_model.specs.Run.Picks.{Picked, before_entry, atom_picks}
use Rattle.vk_model.specs.Trace.Objects.{Resource, made, ended, ended_by, live, image_in, resource_in}
use Rattle.vk_model.specs.Trace.Order.{Front, host, order_from, order}
use Rattle.vk_model.specs.Trace.Point.{Past}
use Rattle.vk_model.specs.World.Bytes.{Byte, in_buffer, resource_at}
use Rattle.vk_model.specs.World.Effect.{world}
use Rattle.vk_model.specs.World.Meaning.{read_in}
use Rattle.vk_model.proofs.Trace.Growing.{order_append}
use Rattle.vk_laws.specs.DefinedRuns.{DefinedRunsFollow}
use Rattle.vk_laws.specs.DirectRuns.{DirectRun, DirectRunsAreRuns, NewMemoryHoldsAnything, EntriesGoOn, DirectRunsReadTheTrace, HostMemory, cells_of, held_by_host, memory_after_atoms, memory_after_entry, host_view, is_made}
use Rattle.vk_laws.specs.PickedRuns.{PicksLeadOn}
use Rattle.vk_resources.specs.declared.applied.Applied.{Applied}
use Rattle.vk_resources.specs.declared.applied.Applied.TheVariants as applied
use Rattle.vk_resources.specs.declared.resources.Placed.{Placed}
use Rattle.vk_resources.specs.Done.{ReadsBytes}
use Rattle.vk_resources.specs.Held.{Held, placed, shape_of, flat, form_of, byte_at, host_at, seen_at, IsThere, HasCell}
use Rattle.vk_backing.specs.Passing.{Passing}
use Rattle.vk_resources.specs.Matches.{MatchesLive, size_made}
use Rattle.vk_resources.proofs.Matching.{live_of_placed, resource_of_placed, some_sized, flat_parts}
use Rattle.vk_resources.proofs.Lying.{where_lies, lies_there, buffer_lies}
use Rattle.vk_image_transfer.specs.Held.{place_of}
use Rattle.vk_model.specs.declared.resource.ImageInfo.{ImageInfo}
use Rattle.vk_resources.proofs.HostAccesses.{range_there}
use Rattle.vk_resources.proofs.Fitting.{live_made}
use Rattle.vk_device.specs.declared.device.Device.{Device}
use Rattle.vk_device.specs.Inner.Clean.{IsClean}
use Rattle.vk_device.specs.Inner.Fits.{FitsHost}
use Rattle.vk_device.specs.Inner.Ready.{HostDone, HasTouched, Picks, GoesOn, IsDone, IsOnHost}
use Rattle.vk_device.specs.Becomes.{Becomes}
use Rattle.vk_device.specs.Passes.{HasPasses, moved_by, parts_begun}
use Rattle.vk_device.proofs.KeptPasses.{at_queue, parts_then}
use Rattle.vk_device.proofs.KeptPasses.{was_there as stays_there}
use Rattle.vk_device.specs.Led.{Led, IsBefore, Applies, Reads}
use Rattle.vk_device.proofs.Clean.{fits_clean, clean_entry, clean_order, made_next}
use Rattle.vk_device.proofs.Coming.{clean_trace}

-- ---- the entry that comes next breaks no rule

pub clean_next : (t : List Entry) (steps : List Step) (s : Stage) (x : Entry) (xs : List Entry) (d : Device) → NoFaultIsSound → DirectRunsAreRuns → DefinedRunsFollow → IsBefore t steps s x xs d → IsClean (host s.count x ∷ s.front.past)
clean_next t steps s x xs d sound runs following h =
    let empty : Front = record { past = []; waiting = [] } in
    let follows_trace = following t steps s (runs t steps s _ h.led.run) in
    let whole : order t ≡ (order_from (0 + length follows_trace.gone) (order_from 0 empty follows_trace.gone) (x ∷ xs)).past =
    ap order (follows_trace.whole ∙ ap (λ (l : List Entry). follows_trace.gone ++ l) h.next) ∙ ap (λ (f : Front). f.past) (order_append 0 empty follows_trace.gone (x ∷ xs)) in
    let clean = subst IsClean whole (clean_trace t sound h.sound) in
    let here = clean_entry (0 + length follows_trace.gone) x (order_from 0 empty follows_trace.gone) (clean_order _ _ xs clean) in
    subst (λ (l : Past). IsClean l) (ap (λ (n : ℕ). host n x ∷ (order_from 0 empty follows_trace.gone).past) (sym (follows_trace.counted ∙ sym (zero-add (length follows_trace.gone)))) ∙ ap (λ (f : Front). host s.count x ∷ f.past) (sym follows_trace.front)) here

pub fits_next : (e : ℕ) (x : Entry) (past : Past) → IsClean (host e x ∷ past) → FitsHost past x
fits_next e x past clean = (fits_clean (host e x ∷ past) clean).0

-- ---- what is new

-- a resource that an entry hasn't made was made before it
makes_other : (past : Past) (e : ℕ) (x : Entry) (b : ℕ) (info : Resource) → ((i : ℕ) (y : BufferInfo) → x ≡ entry.Buffer i y → ⊥) → ((i : ℕ) (y : ImageInfo) → x ≡ entry.Image i y → ⊥) → FitsHost past x → option_and_then resource_in (made (host e x ∷ past) b) ≡ Some info → option_and_then resource_in (made past b) ≡ Some info
makes_other past e (entry.Buffer i y) b info other image fits is = absurd (other i y refl)
makes_other past e (entry.Image i y) b info other image fits is = absurd (image i y refl)
makes_other past e (entry.Memory i y) b info other image fits is = go (b == i) is
  where
    go : (t : Bool) → option_and_then resource_in (cond t (Some (entry.Memory i y)) (made past b)) ≡ Some info → option_and_then resource_in (made past b) ≡ Some info
    go true is = absurd cc
    go false is = is
makes_other past e (entry.Semaphore i v) b info other image fits is = go (b == i) is
  where
    go : (t : Bool) → option_and_then resource_in (cond t (Some (entry.Semaphore i v)) (made past b)) ≡ Some info → option_and_then resource_in (made past b) ≡ Some info
    go true is = absurd cc
    go false is = is
makes_other past e (entry.Event i) b info other image fits is = go (b == i) is
  where
    go : (t : Bool) → option_and_then resource_in (cond t (Some (entry.Event i)) (made past b)) ≡ Some info → option_and_then resource_in (made past b) ≡ Some info
    go true is = absurd cc
    go false is = is
makes_other past e (entry.Pool i y) b info other image fits is = go (b == i) is
  where
    go : (t : Bool) → option_and_then resource_in (cond t (Some (entry.Pool i y)) (made past b)) ≡ Some info → option_and_then resource_in (made past b) ≡ Some info
    go true is = absurd cc
    go false is = is
makes_other past e (entry.DropPool q) b info other image fits is = is
makes_other past e (entry.Free m) b info other image fits is = is
makes_other past e (entry.Destroy r) b info other image fits is = is
makes_other past e (entry.Map r) b info other image fits is = is
makes_other past e (entry.Unmap r) b info other image fits is = is
makes_other past e (entry.Write r o bytes) b info other image fits is = is
makes_other past e (entry.Read r o n) b info other image fits is = is
makes_other past e (entry.Flush r o n) b info other image fits is = is
makes_other past e (entry.Invalidate r o n) b info other image fits is = is
makes_other past e (entry.Signal v n) b info other image fits is = is
makes_other past e (entry.Wait ws) b info other image fits is = is
makes_other past e (entry.Submit q bs) b info other image fits is = is
makes_other past e (entry.Defrag i q n m) b info other image fits is = go (b == i) is
  where
    go : (t : Bool) → option_and_then resource_in (cond t (Some (entry.Defrag i q n m)) (made past b)) ≡ Some info → option_and_then resource_in (made past b) ≡ Some info
    go true is = absurd cc
    go false is = is
makes_other past e (entry.Pass d) b info other image fits is = is
makes_other past e (entry.EndPass d kept lost) b info other image fits is = is
makes_other past e (entry.EndDefrag d) b info other image fits is = is

made_some : (o : Option Entry) (r : Resource) → option_and_then resource_in o ≡ Some r → is_some o ≡ true
made_some None r h = absurd cc
made_some (Some y) r h = refl

module _ (e : ℕ) (past : Past) (x : Entry) (clean : IsClean (host e x ∷ past)) where
  -- what was made is the same object with the entry
  made_same : (b : ℕ) (y : Entry) → made past b ≡ Some y → made (host e x ∷ past) b ≡ Some y
  made_same b y is = made_next past (host e x) clean b y is

  -- what is live then and was made is live before
  pub lived : (b : ℕ) (y : Entry) → IsTrue (is_some (made past b)) → live (host e x ∷ past) b ≡ Some y → live past b ≡ Some y
  lived b y there is = go (made past b) refl there
    where
      unended : (t u : Bool) → (if t || u then None else made (host e x ∷ past) b) ≡ Some y → (u ≡ false) × (made (host e x ∷ past) b ≡ Some y)
      unended true u is = absurd cc
      unended false true is = absurd cc
      unended false false is = (refl, is)

      go : (o : Option Entry) → made past b ≡ o → IsTrue (is_some o) → live past b ≡ Some y
      go None at some = absurd cc
      go (Some z) at some =
          let parts = unended (among b (ended_by x)) (ended past b) is in
          rw (parts.0, at) (sym (made_same b z at) ∙ parts.1)

  module _ (old new : Held) (m : MatchesLive past old) (after : MatchesLive (host e x ∷ past) new) where
    pub was_there : (c : Byte) → IsTrue (is_made past c) → IsThere new c → IsThere old c
    was_there c made_it there =
        let l = where_lies new c there in
        let k = live_of_placed (live (host e x ∷ past)) new (resource_at c) l.place after l.here in
        let before = lived (resource_at c) k.made made_it k.alive_is in
        let p = some_sized (placed old (resource_at c)) l.place.size (m.sizes (resource_at c) ∙ ap (option_and_then size_made) before ∙ k.size) in
        let shape : shape_of old (resource_at c) ≡ shape_of new (resource_at c) =
        m.shapes (resource_at c) ∙ ap (option_and_then image_in) (before ∙ sym k.alive_is) ∙ sym (after.shapes (resource_at c)) in
        lies_there old c (record {
          place = p.0;
          at = l.at;
          here = p.1;
          is = ap (λ (i : Option ImageInfo). place_of (form_of i p.0.size) c) shape ∙ ap (λ (n : ℕ). place_of (form_of (shape_of new (resource_at c)) n) c) p.2 ∙ l.is;
        })

  -- only a resource that it makes is new
  pub none_new : (new : Held) → MatchesLive (host e x ∷ past) new → ((i : ℕ) (y : BufferInfo) → x ≡ entry.Buffer i y → ⊥) → ((i : ℕ) (y : ImageInfo) → x ≡ entry.Image i y → ⊥) → (c : Byte) → IsThere new c → is_made past c ≡ false → ⊥
  none_new new m other image c there unmade =
      let l = where_lies new c there in
      let k = live_of_placed (live (host e x ∷ past)) new (resource_at c) l.place m l.here in
      clash
      (made_some (made past (resource_at c)) k.resource
      (makes_other past e x (resource_at c) k.resource other image (fits_next e x past clean) (live_made resource_in (host e x ∷ past) (resource_at c) k.resource (resource_of_placed (live (host e x ∷ past)) (resource_at c) l.place k))))
      unmade

-- what is there was made
pub there_made : (past : Past) (r : Held) → MatchesLive past r → (c : Byte) → IsThere r c → is_made past c ≡ true
there_made past r m c there =
    let l = where_lies r c there in
    let k = live_of_placed (live past) r (resource_at c) l.place m l.here in
    made_some (made past (resource_at c)) k.resource (live_made resource_in past (resource_at c) k.resource (resource_of_placed (live past) (resource_at c) l.place k))

-- a byte of a new resource is what memory held there
pub new_cell : (past : Past) (moved : List ℕ) (new : Held) (x : Entry) (atoms : List ℕ) (c : Byte) (cell : Cell) → HasCell new c cell → (((i : ℕ) (y : BufferInfo) → x ≡ entry.Buffer i y → ⊥) → ((i : ℕ) (y : ImageInfo) → x ≡ entry.Image i y → ⊥) → ⊥) → HasCell new c (after_host past moved x c (if in_atoms (touched_by x) atoms c then turned_over cell else cell))
new_cell past moved new (entry.Buffer i y) atoms c cell has made = has
new_cell past moved new (entry.Pool i x) atoms c cell has made = absurd (made (λ i y e. absurd cc) (λ i y e. absurd cc))
new_cell past moved new (entry.Image i x) atoms c cell has made = has
new_cell past moved new (entry.Memory i x) atoms c cell has made = absurd (made (λ i y e. absurd cc) (λ i y e. absurd cc))
new_cell past moved new (entry.Free m) atoms c cell has made = absurd (made (λ i y e. absurd cc) (λ i y e. absurd cc))
new_cell past moved new (entry.Destroy r) atoms c cell has made = absurd (made (λ i y e. absurd cc) (λ i y e. absurd cc))
new_cell past moved new (entry.DropPool q) atoms c cell has made = absurd (made (λ i y e. absurd cc) (λ i y e. absurd cc))
new_cell past moved new (entry.Map b) atoms c cell has made = absurd (made (λ i y e. absurd cc) (λ i y e. absurd cc))
new_cell past moved new (entry.Unmap b) atoms c cell has made = absurd (made (λ i y e. absurd cc) (λ i y e. absurd cc))
new_cell past moved new (entry.Write b o bytes) atoms c cell has made = absurd (made (λ i y e. absurd cc) (λ i y e. absurd cc))
new_cell past moved new (entry.Read b o n) atoms c cell has made = absurd (made (λ i y e. absurd cc) (λ i y e. absurd cc))
new_cell past moved new (entry.Flush b o n) atoms c cell has made = absurd (made (λ i y e. absurd cc) (λ i y e. absurd cc))
new_cell past moved new (entry.Invalidate b o n) atoms c cell has made = absurd (made (λ i y e. absurd cc) (λ i y e. absurd cc))
new_cell past moved new (entry.Semaphore i v) atoms c cell has made = absurd (made (λ i y e. absurd cc) (λ i y e. absurd cc))
new_cell past moved new (entry.Event i) atoms c cell has made = absurd (made (λ i y e. absurd cc) (λ i y e. absurd cc))
new_cell past moved new (entry.Signal v n) atoms c cell has made = absurd (made (λ i y e. absurd cc) (λ i y e. absurd cc))
new_cell past moved new (entry.Wait ws) atoms c cell has made = absurd (made (λ i y e. absurd cc) (λ i y e. absurd cc))
new_cell past moved new (entry.Submit q bs) atoms c cell has made = absurd (made (λ i y e. absurd cc) (λ i y e. absurd cc))
new_cell past moved new (entry.Defrag i q n m) atoms c cell has made = absurd (made (λ i y e. absurd cc) (λ i y e. absurd cc))
new_cell past moved new (entry.Pass d) atoms c cell has made = absurd (made (λ i y e. absurd cc) (λ i y e. absurd cc))
new_cell past moved new (entry.EndPass d kept lost) atoms c cell has made = absurd (made (λ i y e. absurd cc) (λ i y e. absurd cc))
new_cell past moved new (entry.EndDefrag d) atoms c cell has made = absurd (made (λ i y e. absurd cc) (λ i y e. absurd cc))

-- ---- the run goes on with it

-- the atoms that the host's cache takes up or gives back are in no queue's cache
host_alone : (x : Entry) (atoms : List ℕ) (m : HostMemory) (c : Byte) → IsOnHost (after_atoms x atoms (cells_of m) c)
host_alone x atoms m c q = go (in_atoms (touched_by x) atoms c) (m.host c)
  where
    turned : (h : Option caches.Held) → (turned_over (record { region = m.region c; held = held_by_host h })).held (suc q) ≡ None
    turned None = at_queue (Some (Clean (m.region c))) (held_by_host None) q
    turned (Some (Clean v)) = at_queue None (held_by_host (Some (Clean v))) q
    turned (Some (Dirty v)) = at_queue None (with_held 0 (Some (Clean v)) (record { region = m.region c; held = held_by_host (Some (Dirty v)) })).held q ∙ at_queue (Some (Clean v)) (held_by_host (Some (Dirty v))) q

    go : (t : Bool) (h : Option caches.Held) → (if t then turned_over (record { region = m.region c; held = held_by_host h }) else record { region = m.region c; held = held_by_host h }).held (suc q) ≡ None
    go true h = turned h
    go false h = refl

-- what it makes of the bytes of resources, with its atoms
pub goes_becomes : (e : ℕ) (x : Entry) (past : Past) (parts : List ℕ) (atoms : List ℕ) (old mid : Held) (p : Passing) (new : Held) (q : Passing) → HasTouched x atoms old mid → GoesOn e x past parts mid p new q → Becomes old new (memory_after_entry past atoms (moved_by p x q) x)
goes_becomes e x past parts atoms old mid p new q touched goes m has c was is =
    let at_mid = stays_there mid old (sym touched.resources) (sym touched.shapes) c was in
    let h = goes.cells c (after_atoms x atoms (cells_of m) c) (host_alone x atoms m c) at_mid is (touched.cells c (cells_of m c) was (has c was)) in
    record { held = h.held; region = h.region }

pub host_done : (t : List Entry) (steps : List Step) (s : Stage) (x : Entry) (xs : List Entry) (atoms : List ℕ) (d : Device) (mid new : Held) (q : Passing) → NewMemoryHoldsAnything → EntriesGoOn → IsBefore t steps s x xs d → IsTrue (may_go s x)
    → IsTrue (are_atoms s.front.past x atoms) → IsClean (host s.count x ∷ s.front.past) → HasTouched x atoms d.resources mid → GoesOn s.count x s.front.past (parts_left s) mid d.passes new q → HostDone t steps s x xs atoms (record d { resources = new; passes = q })
host_done t steps s x xs atoms d mid new q anything go_on h may are clean touched goes = record {
  memory = memory_after_entry past atoms moved x between;
  run = go_on t steps s between x xs atoms (parts_begun q x) moved run h.next may are;
  holds = λ c there. holds_at c there (is_made past c) refl;
  matches = goes.stands;
  works = h.led.works;
  waits = h.led.waits;
  counts = h.led.counts;
  offers = h.led.offers;
  passes = subst (λ (parts : List ℕ). HasPasses parts (host s.count x ∷ s.front.past) q new) (sym (parts_then s q x xs)) goes.passes;
  sound = h.sound;
}
  where
    past : Past
    past = s.front.past

    moved : List ℕ
    moved = moved_by d.passes x q

    -- new resources have what memory holds there
    between : HostMemory
    between = record { region = λ c. if is_made past c then h.led.memory.region c else byte_at new c; host = λ c. if is_made past c then h.led.memory.host c else None }

    run : DirectRun t steps s between
    run = anything t steps s h.led.memory between h.sound.faultless h.led.run (λ c made_it. (sym (rw made_it refl), sym (rw made_it refl))) (λ c none. rw none refl)

    as_memory : (c : Byte) → HasCell new c (after_host past moved x c (after_atoms x atoms (cells_of between) c)) → HasCell new c (cells_of (memory_after_entry past atoms moved x between) c)
    as_memory c has = record { held = has.held; region = has.region }

    holds_at : (c : Byte) → IsThere new c → (made_it : Bool) → is_made past c ≡ made_it → HasCell new c (cells_of (memory_after_entry past atoms moved x between) c)
    holds_at c there true is =
        let at_mid = was_there s.count past x clean mid new (touched.matches past h.led.matches).live goes.stands.live c is there in
        let before = stays_there d.resources mid touched.resources touched.shapes c at_mid in
        let led = h.led.holds c before in
        let had : HasCell d.resources c (cells_of between c) = record { held = rw is led.held; region = rw is led.region } in
        as_memory c (goes.cells c (after_atoms x atoms (cells_of between) c) (host_alone x atoms between c) at_mid there (touched.cells c (cells_of between c) before had))
    holds_at c there false is = as_memory c (new_cell past moved new x atoms c (cells_of between c) (record { held = rw is (sym bare); region = rw is refl }) made_buffer)
      where
        absent : IsThere mid c → ⊥
        absent at = clash (there_made past mid (touched.matches past h.led.matches).live c at) is

        bare : host_at new c ≡ None
        bare = goes.bare c there absent

        made_buffer : (((i : ℕ) (y : BufferInfo) → x ≡ entry.Buffer i y → ⊥) → ((i : ℕ) (y : ImageInfo) → x ≡ entry.Image i y → ⊥) → ⊥)
        made_buffer other image = none_new s.count past x clean new goes.stands.live other image c there is

-- what it answers, and has done
pub goes_of : (a : Applied) (e : ℕ) (x : Entry) (past : Past) (parts : List ℕ) (old : Held) (p : Passing) (new : Held) (q : Passing) → (a ≡ applied.NoRoom → ⊥) → IsDone a e x past parts old p new q → GoesOn e x past parts old p new q
goes_of applied.Done e x past parts old p new q other done = done.0
goes_of (applied.Bytes bytes) e x past parts old p new q other done = done.0
goes_of applied.NoRoom e x past parts old p new q other done = absurd (other refl)

-- what is the same of each number below a bound is so of all
map_below : (f g : ℕ → ℕ) (n : ℕ) → ((k : ℕ) → k < n → f k ≡ g k) → map f (below n) ≡ map g (below n)
map_below f g n same = go 0 n (λ k low high. same k (omega (arith, high)))
  where
    go : (a n : ℕ) → ((k : ℕ) → a ≤ k → k < a + n → f k ≡ g k) → map f (range_with_len a n) ≡ map g (range_with_len a n)
    go a zero each = refl
    go a (suc n) each = ap (λ (v : ℕ). v ∷ map f (range_with_len (a + 1) n)) (each a (omega arith) (omega arith)) ∙ ap (λ (vs : List ℕ). g a ∷ vs) (go (a + 1) n (λ k low high. each k (omega (arith, low)) (omega (arith, high))))

reads_nothing : (past : Past) (e : ℕ) (x : Entry) → ((b o n : ℕ) → x ≡ entry.Read b o n → ⊥) → read_in (world past) e x ≡ []
reads_nothing past e (entry.Read b o n) none = absurd (none b o n refl)
reads_nothing past e _ none = refl

pub reads_of : (t : List Entry) (steps : List Step) (s : Stage) (x : Entry) (xs : List Entry) (atoms : List ℕ) (d : Device) (mid new : Held) → DirectRunsReadTheTrace → IsClean (host s.count x ∷ s.front.past) → IsBefore t steps s x xs d → HasTouched x atoms d.resources mid → (a : Applied) (q : Passing)
    → IsDone a s.count x s.front.past (parts_left s) mid d.passes new q → Reads a s x
reads_of t steps s x xs atoms d mid new law clean h touched applied.NoRoom q done = tt
reads_of t steps s x xs atoms d mid new law clean h touched applied.Done q done = reads_nothing s.front.past s.count x done.1
reads_of t steps s x xs atoms d mid new law clean h touched (applied.Bytes bytes) q done = go x h.next (fits_next s.count x s.front.past clean) touched done.1
  where
    go : (x : Entry) → s.left ≡ x ∷ xs → FitsHost s.front.past x → HasTouched x atoms d.resources mid → ReadsBytes x mid bytes → read_in (world s.front.past) s.count x ≡ (s.count, bytes) ∷ []
    go (entry.Read b o n) is fits touched reads =
        law t steps s h.led.memory b o n xs atoms h.sound.faultless h.led.run is
        ∙ ap (λ (l : List ℕ). (s.count, l) ∷ []) (sym (reads ∙ map_below (λ k. seen_at mid (in_buffer b (o + k))) (λ k. host_view (memory_after_atoms (entry.Read b o n) atoms h.led.memory) (in_buffer b (o + k))) n byte))
      where
        at : (p : Placed) × (flat d.resources b ≡ Some p) × (o + n ≤ p.size)
        at = range_there s.front.past d.resources h.led.matches.live b o n fits

        byte : (k : ℕ) → k < n → seen_at mid (in_buffer b (o + k)) ≡ host_view (memory_after_atoms (entry.Read b o n) atoms h.led.memory) (in_buffer b (o + k))
        byte k lt =
            let c : Byte = in_buffer b (o + k) in
            let room = at.2 in
            let parts = flat_parts (shape_of d.resources b) (placed d.resources b) at.0 at.1 in
            let there : IsThere d.resources c = lies_there d.resources c (buffer_lies d.resources b at.0 parts.1 parts.0 (o + k) (omega (arith, room, lt))) in
            let cell = touched.cells c (cells_of h.led.memory c) there (h.led.holds c there) in
            ap (λ (v : ℕ). value_through (host_at mid c) v) (sym cell.region) ∙ ap (λ (g : Option caches.Held). value_through g (after_atoms (entry.Read b o n) atoms (cells_of h.led.memory) c).region) (sym cell.held)
    go _ is fits touched reads = absurd reads

reads_same : (a : Applied) (q s : Stage) (x : Entry) → q.front ≡ s.front → q.count ≡ s.count → Reads a q x → Reads a s x
reads_same applied.Done q s x front count reads = subst (λ (f : Front). read_in (world f.past) s.count x ≡ []) front (subst (λ (n : ℕ). read_in (world q.front.past) n x ≡ []) count reads)
reads_same (applied.Bytes bytes) q s x front count reads =
    subst (λ (f : Front). read_in (world f.past) s.count x ≡ (s.count, bytes) ∷ []) front (subst (λ (n : ℕ). read_in (world q.front.past) n x ≡ (n, bytes) ∷ []) count reads)
reads_same applied.NoRoom q s x front count reads = tt

-- ---- after what was picked before it

module _ (answer : List ℕ → ℕ → ℕ) (next : List ℕ → ℕ → List ℕ) (t : List Entry) (steps : List Step) (s : Stage) (held : List ℕ) (x : Entry) (xs : List Entry) where
  abbrev pub before : Picked
  before = before_entry answer next s held x

  pub follows_before : (old mid : Device) (after : List ℕ) → DirectRunsAreRuns → PicksLeadOn → IsBefore t steps s x xs old → Picks answer next t steps s held x mid after → IsBefore t (steps ++ before.steps) before.stage x xs mid
  follows_before old mid after runs law h picks = record {
    led = picks.0;
    next = (law answer next t steps s held x xs (runs t steps s _ h.led.run) h.sound.faultless h.next).left ∙ h.next;
    sound = h.sound;
  }

  pub reads_before : (old : Device) (a : Applied) → DirectRunsAreRuns → PicksLeadOn → IsBefore t steps s x xs old → Reads a before.stage x → Reads a s x
  reads_before old a runs law h reads = let leads = law answer next t steps s held x xs (runs t steps s _ h.led.run) h.sound.faultless h.next in reads_same a before.stage s x leads.front leads.count reads

  -- the atoms that were picked then
  abbrev pub picked_atoms : List ℕ × List ℕ
  picked_atoms = atom_picks answer next (atom_count before.stage.front.past x) 0 before.held

  pub applies : (new : Device) (after : List ℕ) → after ≡ picked_atoms.1 → Led t ((steps ++ before.steps) ++ Apply picked_atoms.0 (parts_begun new.passes x) ∷ []) (applied before.stage (parts_begun new.passes x) x xs) new → (a : Applied) → (a ≡ applied.NoRoom → ⊥) → Applies answer next a t steps s held x xs new after
  applies new after is led a other = go a other
    where
      both : Led t (steps ++ (before.steps ++ Apply picked_atoms.0 (parts_begun new.passes x) ∷ [])) (applied before.stage (parts_begun new.passes x) x xs) new × (after ≡ picked_atoms.1)
      both = (subst (λ (l : List Step). Led t l (applied before.stage (parts_begun new.passes x) x xs) new) (append_assoc steps before.steps (Apply picked_atoms.0 (parts_begun new.passes x) ∷ [])) led, is)

      go : (a : Applied) → (a ≡ applied.NoRoom → ⊥) → Applies answer next a t steps s held x xs new after
      go applied.Done other = both
      go (applied.Bytes bytes) other = both
      go applied.NoRoom other = absurd (other refl)
