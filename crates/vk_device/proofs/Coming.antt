-- The points that come with an entry, on a device.
use Rattle.std.proofs.Common.{◌≡◌, ℕ, suc, ◌+◌, ◌%◌, ◌<◌, ◌≤◌, ◌==◌, true, false, Option, Some, None, map, List, [], ◌∷◌, ◌++◌, length, take, drop, get_or, reverse, refl, ap, sym, ◌∙◌, subst, arith}
use Rattle.std.proofs.lemmas.List.{get_or_past}
use Rattle.std.specs.Prelude.{Contains, IsTrue, is_some, option_map, option_and_then, if◌then◌else◌}
use Rattle.std.specs.List.{find, flat_map, list_any}
use Rattle.std.proofs.lemmas.Bool.{false_from_ne_true}
use Rattle.std.proofs.lemmas.Grind.{take_at_read, common_steps}
use Rattle.std.proofs.lemmas.List.{length-reverse, take_all, append_assoc, append_cancel_right, drop_at, take-append-drop, map-append}
use Rattle.std.proofs.lemmas.List.Sums.{fold-append}
use Rattle.vk_model.specs.declared.command.Cmd.{Cmd}
use Rattle.vk_model.specs.declared.command.Cmd.TheVariants as cmd
use Rattle.vk_model.specs.declared.entry.Entry.{Entry}
use Rattle.vk_model.specs.declared.entry.Entry.TheVariants as entry
use Rattle.vk_model.specs.declared.resource.BufferInfo.{BufferInfo}
use Rattle.vk_model.specs.Basics.{holds, among, below, byte_of}
use Rattle.vk_model.specs.Laws.{OrderIsOrdered, OrderHasEntries, NoFaultIsSound}
use Rattle.vk_model.specs.Rules.Fault.{IsUnbroken}
use Rattle.vk_model.specs.Run.Runs.{Name, is_done, Step, Stage, Apply, applied, parts_left}
use Rattle.vk_model.specs.Trace.Objects.{made_by, ended_by, live, buffer_in, image_in}
use Rattle.vk_model.specs.Trace.Order.{Front, host, after_entry, order_from, order}
use Rattle.vk_model.specs.Trace.Point.{Past, Point, Action, Run, entries}
use Rattle.vk_model.specs.Trace.Structure.{IsOrdered}
use Rattle.vk_model.proofs.Lists.Pairs.{Each}
use Rattle.vk_model.proofs.Trace.Growing.{Quiet, same_entries, entries_after, entry_grows, order_grows, order_append}
use Rattle.vk_laws.specs.DefinedRuns.{DefinedRunsFollow}
use Rattle.vk_laws.specs.DirectRuns.{DirectRunsAreRuns}
use Rattle.vk_model.specs.declared.point.Point.{Point as AnyPoint}
use Rattle.vk_model.specs.Trace.PointViews.{point_of}
use Rattle.vk_queues.specs.declared.waiting.Waiting.{Waiting}
use Rattle.vk_queues.specs.PointViews.{add, past_after}
use Rattle.vk_queues.specs.IsWaiting.{IsWaiting}
use Rattle.vk_offers.specs.IsOffers.{ComesNext, IsOffers, commands_in, is_run}
use Rattle.vk_offers.specs.Laws.{OrderComesNext}
use Rattle.vk_resources.specs.Fits.{FitsCommand, NamesLive}
use Rattle.vk_backing.specs.Backed as backing
use Rattle.vk_backing.specs.Backed.{Backed, allocation_of, info_by}
use Rattle.vma_pools.specs.declared.allocations.Allocation.{Allocation}
use Rattle.vma_pools.specs.State.{allocation_at}
use Rattle.vk_resources.specs.Held.{Held, placed_in, shape_in, IsThere}
use Rattle.vk_device.specs.Empty.{none_begun, nothing_backed}
use Rattle.vk_resources.proofs.Lying.{where_lies}
use Rattle.vk_resources.specs.declared.resources.Placed.{Placed}
use Rattle.vk_backing.specs.Passing.{Passing, ArePassing}
use Rattle.vk_resources.specs.Matches.{MatchesLive, Stands}
use Rattle.vk_resources.proofs.Matching.{matches_same}
use Rattle.vk_model.specs.Laws.{GrowthKeeps}
use Rattle.vk_model.specs.Run.Pieces.{cut, row_bytes, clear_pieces, pieces}
use Rattle.vk_model.specs.declared.resource.ImageInfo.{ImageInfo}
use Rattle.vk_model.specs.World.Bytes.{Byte, in_buffer, resource_at}
use Rattle.vk_model.specs.World.ByteWrites.{Value, byte_write, fill_size, copy_in_writes, copy_out_writes, copy_image_writes}
use Rattle.vk_model.specs.Sync.Node.{Node, Act, Runs, acts, with_acts, nodes}
use Rattle.vk_model.proofs.Lists.Members.{contains-head}
use Rattle.vk_laws.specs.Lifetimes.{CommandsNameLive}
use Rattle.vk_laws.proofs.Nodes.Counts.{more_nodes}
use Rattle.vk_laws.proofs.Nodes.Prefixes.{old_has}
use Rattle.vk_offers.specs.IsOffers.{is_run_in_pieces}
use Rattle.vk_offers.proofs.Commands.{command_node}
use Rattle.vk_offers.proofs.Growing.{run_acts, others_stay, none_run}
use Rattle.vk_device.proofs.Staying.{later_fits}
use Rattle.vk_device.specs.declared.device.Device.{Device}
use Rattle.vk_device.specs.Inner.Clean.{IsClean}
use Rattle.vk_device.specs.Inner.Fits.{FitsAction, AllFit}
use Rattle.vk_device.specs.Coming.{CommandFits, PrepareReady}
use Rattle.vk_device.specs.Inner.Ready.{HostDone}
use Rattle.vk_device.specs.Led.{Led, AreWorks, IsSoundTrace}
use Rattle.vk_device.specs.Passes.{HasPasses, parts_begun}
use Rattle.vk_device.proofs.KeptPasses.{passes_stay}
use Rattle.vk_device.proofs.PassPasts.{no_passes}
use Rattle.vk_device.proofs.Clean.{fits_clean, clean_newer}
use Rattle.vk_device.proofs.Limits.{below_limit}

-- ---- points one after another

pub past_more : (past : Past) (points : List AnyPoint) (i : ℕ) (p : AnyPoint) → p ≡ get_or points i p → i < length points
    → past_after past (take (i + 1) points) ≡ point_of p ∷ past_after past (take i points)
past_more past points i p is lt =
    ap (λ (l : List AnyPoint). past_after past l) (take_at_read points i p lt).1 ∙ fold-append add past (take i points) (get_or points i p ∷ [])
    ∙ ap (λ (q : AnyPoint). point_of q ∷ past_after past (take i points)) (sym is)

pub grown : (past : Past) (points : List AnyPoint) → (newer : Past) × (past_after past points ≡ newer ++ past)
grown past [] = ([], refl)
grown past (p ∷ points) = let rest = grown (point_of p ∷ past) points in (rest.0 ++ point_of p ∷ [], rest.1 ∙ sym (append_assoc rest.0 (point_of p ∷ []) past))

-- the points from number i on come after those before it
split_at : (past : Past) (points : List AnyPoint) (i : ℕ) → (newer : Past) × (past_after past points ≡ newer ++ past_after past (take i points))
split_at past points i =
    let rest = grown (past_after past (take i points)) (drop i points) in
    (rest.0, ap (λ (l : List AnyPoint). past_after past l) (sym (take-append-drop i points)) ∙ fold-append add past (take i points) (drop i points) ∙ rest.1)

-- ---- only the first of them is an entry

same_tail : (xs zs ys ws : Past) → length ys ≡ length ws → xs ++ ys ≡ zs ++ ws → ys ≡ ws
same_tail xs zs ys ws long same =
    sym (drop_at xs ys (length xs) refl) ∙ ap (λ (l : Past). drop (length xs) l) same ∙ drop_at zs ws (length xs) long'
  where
    long' : length zs ≡ length xs
    long' = let whole = ap length same in grind (arith, common_steps, whole)

each_right : (a b : Past) → Each Quiet (a ++ b) → Each Quiet b
each_right [] b each = each
each_right (p ∷ a) b each = each_right a b each.1

quiet_points : (past base newer : Past) (points : List AnyPoint) → length past ≡ length base → Each Quiet newer → past_after past points ≡ newer ++ base
    → (i : ℕ) → entries (past_after past (take i points)) ≡ entries base
quiet_points past base newer points long each whole i =
    let all = grown past points in
    let later = split_at past points i in
    let here = grown past (take i points) in
    let same : past ≡ base = same_tail all.0 newer past base long (sym all.1 ∙ whole) in
    let parts : (later.0 ++ here.0) ++ base ≡ newer ++ base =
    append_assoc later.0 here.0 base ∙ ap (λ (l : Past). later.0 ++ (here.0 ++ l)) (sym same) ∙ ap (λ (l : Past). later.0 ++ l) (sym here.1) ∙ sym later.1 ∙ whole in
    let quiet : Each Quiet (later.0 ++ here.0) = subst (λ (l : Past). Each Quiet l) (sym (append_cancel_right (later.0 ++ here.0) newer base parts)) each in
    ap entries (here.1 ∙ ap (λ (l : Past). here.0 ++ l) same) ∙ same_entries base (here.0 ++ base) (record { newer = here.0; whole = refl; each = each_right later.0 here.0 quiet })

-- ---- what is live is so by the entries

live_stays : (past all : Past) → entries all ≡ entries past → (i : ℕ) → live all i ≡ live past i
live_stays past all same i = ap (λ (l : List Entry). if list_any (λ x. among i (ended_by x)) l then None else find (λ x. holds (made_by x) (λ j. i == j)) l) same

pub stands_stay : (past all : Past) (r : Held) → entries all ≡ entries past → Stands past r → Stands all r
stands_stay past all r same m = record { live = matches_same (live past) (live all) r (live_stays past all same) m.live }

alive_stays : (past all : Past) (c : Cmd) → entries all ≡ entries past → NamesLive past c → NamesLive all c
alive_stays past all c same alive i kind asked = subst (λ (x : Option Entry). IsTrue (holds x kind)) (sym (live_stays past all same i)) (alive i kind asked)

-- the buffer of an id, by the entries
abbrev buffer_by : List Entry → ℕ → Option BufferInfo
buffer_by l b = option_and_then buffer_in (find (λ x. holds (made_by x) (λ j. b == j)) l)

abbrev size_by : List Entry → ℕ → ℕ
size_by l b = elim (buffer_by l b) [ None ↦ 0 | Some i ↦ i.size ]

-- and the image of one
abbrev image_by : List Entry → ℕ → Option ImageInfo
image_by l i = option_and_then image_in (find (λ x. holds (made_by x) (λ j. i == j)) l)

-- and so are the pieces of a command that fits
count_stays : (past all : Past) (c : Cmd) → entries all ≡ entries past → FitsCommand past c → length (pieces all c) ≡ length (pieces past c)
count_stays past all (cmd.Fill b o n w) same fits =
    ap (λ (l : List Entry). length (cut 4096 (map (λ k. byte_write (in_buffer b (o + k)) (Value (byte_of w (k % 4)))) (below (fill_size (size_by l b) o n))))) same
count_stays past all (cmd.Update b o bytes) same fits = refl
count_stays past all (cmd.Copy a b gs) same fits = refl
count_stays past all (cmd.Barrier es) same fits = refl
count_stays past all (cmd.Set v ms) same fits = refl
count_stays past all (cmd.Await v ms) same fits = refl
count_stays past all (cmd.Clear i l color rs) same fits = ap (λ (l : List Entry). length (flat_map (clear_pieces i color (image_by l i)) rs)) same
count_stays past all (cmd.CopyIn b i l gs) same fits = ap (λ (l : List Entry). length (flat_map (λ g. cut (row_bytes (image_by l i) g.width) (copy_in_writes b i (image_by l i) g)) gs)) same
count_stays past all (cmd.CopyOut i l b gs) same fits = ap (λ (l : List Entry). length (flat_map (λ g. cut (row_bytes (image_by l i) g.width) (copy_out_writes i b (image_by l i) g)) gs)) same
count_stays past all (cmd.CopyImage a l b m gs) same fits = ap (λ (l : List Entry). length (flat_map (λ g. cut (row_bytes (image_by l b) g.width) (copy_image_writes a b (image_by l b) g)) gs)) same

fits_at : (newer past : Past) (p : Point) → AllFit (newer ++ p ∷ past) → FitsAction past p.action
fits_at [] past p fit = fit.0
fits_at (q ∷ newer) past p fit = fits_at newer past p fit.1

-- ---- an entry whose points come

pub record IsComing (t : List Entry) (e : ℕ) (x : Entry) (f : Front) (r : Held) : Type 0 where
  pub newer : Past
  pub whole : order t ≡ newer ++ (after_entry e x f).past
  pub clean : IsClean (order t)
  pub unbroken : IsUnbroken (order t)
  pub ordered : IsOrdered (order t)
  pub matches : Stands (host e x ∷ f.past) r
  pub alive : (n : Node) (c : Cmd) → Contains (nodes (after_entry e x f).past) n → n.act ≡ Runs c → length (nodes f.past) ≤ n.number → 0 < length (pieces (after_entry e x f).past c) → NamesLive (after_entry e x f).past c
  pub below : e < 131072

pub clean_trace : (t : List Entry) → NoFaultIsSound → IsSoundTrace t → IsClean (order t)
clean_trace t law sound = record {
  sound = λ before p r comes broke. (law t).0 sound.faultless before p r (comes, broke);
}

pub applied_front : (s : Stage) (n : ℕ) (x : Entry) (xs : List Entry) → (applied s n x xs).front ≡ after_entry s.count x s.front
applied_front s n (entry.Pass d) xs = refl
applied_front s n (entry.EndPass d kept lost) xs = refl
applied_front s n _ xs = refl

pub applied_count : (s : Stage) (n : ℕ) (x : Entry) (xs : List Entry) → (applied s n x xs).count ≡ s.count + 1
applied_count s n (entry.Pass d) xs = refl
applied_count s n (entry.EndPass d kept lost) xs = refl
applied_count s n _ xs = refl

pub applied_done : (s : Stage) (n : ℕ) (x : Entry) (xs : List Entry) → (applied s n x xs).done ≡ s.done
applied_done s n (entry.Pass d) xs = refl
applied_done s n (entry.EndPass d kept lost) xs = refl
applied_done s n _ xs = refl

pub coming : (t : List Entry) (steps : List Step) (s : Stage) (x : Entry) (xs : List Entry) (d : Device) → OrderIsOrdered → OrderHasEntries → NoFaultIsSound → DirectRunsAreRuns → DefinedRunsFollow → CommandsNameLive
    → {atoms : List ℕ} → HostDone t steps s x xs atoms d → IsComing t s.count x s.front d.resources
coming t steps s x xs d ordered has sound runs following names {atoms = atoms} h =
    let begun = parts_begun d.passes x in let e : Stage = applied s begun x xs in
    let empty : Front = record { past = []; waiting = [] } in
    let follows_trace = following t (steps ++ Apply atoms begun ∷ []) e (runs t _ e _ h.run) in
    let rest = order_grows (0 + length follows_trace.gone) (order_from 0 empty follows_trace.gone) e.left in
    let clean = clean_trace t sound h.sound in
    let whole : order t ≡ rest.0 ++ (after_entry s.count x s.front).past =
    ap order follows_trace.whole ∙ ap (λ (f : Front). f.past) (order_append 0 empty follows_trace.gone e.left) ∙ rest.1
    ∙ ap (λ (f : Front). rest.0 ++ f.past) (sym follows_trace.front ∙ applied_front s begun x xs) in
    let count : suc (length (entries s.front.past)) ≡ length (reverse follows_trace.gone) =
    ap length (sym (entries_after s.count x s.front)) ∙ ap (λ (f : Front). length (entries f.past)) (sym (applied_front s begun x xs) ∙ follows_trace.front) ∙ ap length (has follows_trace.gone) in
    let least = below_limit s.count x s.front (clean_newer rest.0 (after_entry s.count x s.front).past (subst (λ (l : Past). IsClean l) whole clean)) in
    let gone : s.count + 1 ≡ length follows_trace.gone = sym (applied_count s begun x xs) ∙ follows_trace.counted in
    let long = length-reverse follows_trace.gone in
    record {
      newer = rest.0;
      whole = whole;
      clean = clean;
      below = omega arith;
      unbroken = (sound t).0 h.sound.faultless;
      ordered = ordered t;
      matches = h.matches;
      alive = λ n c at act new some i kind asked.
          let fronts = applied_front s begun x xs in
          let unrun : is_done e.done (n.number, 0) ≡ false = false_from_ne_true (is_done e.done (n.number, 0))
          (λ ran. let low = h.offers.known (n.number, 0) (subst (λ (done : List Name). IsTrue (is_done done (n.number, 0))) (applied_done s begun x xs) ran) in omega (arith, low, new)) in
          let there : Contains (nodes e.front.past) n = subst (λ (f : Front). Contains (nodes f.past) n) (sym fronts) at in
          let pieced : 0 < length (pieces e.front.past c) = subst (λ (f : Front). 0 < length (pieces f.past c)) (sym fronts) some in
          subst (λ (f : Front). IsTrue (holds (live f.past i) kind)) fronts
          (names t (steps ++ Apply atoms begun ∷ []) e n c 0 i kind (runs t _ e _ h.run) h.sound.faultless there act pieced unrun asked);
    }

module _ (t : List Entry) (e : ℕ) (x : Entry) (f : Front) (r : Held) (h : IsComing t e x f r) (points : List AnyPoint) (are : past_after f.past points ≡ (after_entry e x f).past) where
  entries_at : (i : ℕ) → i < length points → entries (past_after f.past (take (i + 1) points)) ≡ x ∷ entries f.past
  entries_at i lt = go points are lt
    where
      go : (points : List AnyPoint) → past_after f.past points ≡ (after_entry e x f).past → i < length points → entries (past_after f.past (take (i + 1) points)) ≡ x ∷ entries f.past
      go [] are lt = absurd (omega arith)
      go (p ∷ points) are lt =
          let g = entry_grows e x f in
          ap (λ (n : ℕ). entries (past_after f.past (take n (p ∷ points)))) (let more : i + 1 ≡ suc i = omega arith in more)
          ∙ quiet_points (point_of p ∷ f.past) (host e x ∷ f.past) g.newer points refl g.each (are ∙ g.whole) i

  module _ (i : ℕ) (p : AnyPoint) (is : p ≡ get_or points i p) (lt : i < length points) where
    abbrev past : Past
    past = past_after f.past (take i points)

    pub newer_at : (newer : Past) × (order t ≡ newer ++ point_of p ∷ past)
    newer_at =
        let later = split_at f.past points (i + 1) in
        (h.newer ++ later.0, h.whole ∙ ap (λ (l : Past). h.newer ++ l) (sym are ∙ later.1 ∙ ap (λ (l : Past). later.0 ++ l) (past_more f.past points i p is lt)) ∙ sym (append_assoc h.newer later.0 (point_of p ∷ past)))

    same_past : entries (point_of p ∷ past) ≡ x ∷ entries f.past
    same_past = ap entries (sym (past_more f.past points i p is lt)) ∙ entries_at i lt

    command_fits : GrowthKeeps → (c : Cmd) → (point_of p).action ≡ Run c → is_run c ≡ true → CommandFits (point_of p ∷ past) c r
    command_fits keeps c is_c runs = record {
      matches = stands_stay (host e x ∷ f.past) (point_of p ∷ past) r same_past h.matches;
      fits = fits;
      alive = λ some. alive_stays (after_entry e x f).past (point_of p ∷ past) c (same_past ∙ sym all_entries)
          (h.alive n c there refl older (subst (λ (k : ℕ). 0 < k) (sym (count_stays (point_of p ∷ past) (after_entry e x f).past c (all_entries ∙ sym same_past) fits)) some));
    }
      where
        own : FitsCommand past c
        own = subst (λ (a : Action). FitsAction past a) is_c (fits_at newer_at.0 past (point_of p) (subst (λ (l : Past). AllFit l) newer_at.1 (fits_clean (order t) h.clean)))

        fits : FitsCommand (point_of p ∷ past) c
        fits = later_fits past (point_of p) c (subst (λ (a : Action). FitsAction past a) (sym is_c) own) own

        n : Node
        n = record { number = length (nodes past); point = point_of p; act = Runs c }

        here : nodes (point_of p ∷ past) ≡ n ∷ nodes past
        here = ap (λ (d : Action). with_acts (point_of p) (acts d) (nodes past)) is_c ∙ ap (λ (as' : List Act). with_acts (point_of p) as' (nodes past)) (run_acts c runs)

        later : (newer : Past) × (past_after f.past points ≡ newer ++ past_after f.past (take (i + 1) points))
        later = split_at f.past points (i + 1)

        whole : (after_entry e x f).past ≡ later.0 ++ point_of p ∷ past
        whole = sym are ∙ later.1 ∙ ap (λ (l : Past). later.0 ++ l) (past_more f.past points i p is lt)

        there : Contains (nodes (after_entry e x f).past) n
        there = old_has keeps (after_entry e x f).past later.0 (point_of p ∷ past) whole n (subst (λ (ns : List Node). Contains ns n) (sym here) (contains-head n (nodes past)))

        older : length (nodes f.past) ≤ length (nodes past)
        older = let g = grown f.past (take i points) in subst (λ (l : Past). length (nodes f.past) ≤ length (nodes l)) (sym g.1) (more_nodes g.0 f.past)

        all_entries : entries (after_entry e x f).past ≡ x ∷ entries f.past
        all_entries = let g = entry_grows e x f in same_entries (host e x ∷ f.past) (after_entry e x f).past g

    comes_next : (count : ℕ) → OrderComesNext → ((c : Cmd) → (point_of p).action ≡ Run c → is_run c ≡ true → count ≡ length (pieces (point_of p ∷ past) c)) → ComesNext past (point_of p) count
    comes_next count law has = law (order t) newer_at.0 past (point_of p) count h.unbroken h.ordered newer_at.1 has

    -- as it was made ready
    pub prepared_next : (count : ℕ) → OrderComesNext → GrowthKeeps → (q : Held) → q ≡ r → ((past : Past) (c : Cmd) → (point_of p).action ≡ Run c → is_run c ≡ true → CommandFits past c q → count ≡ length (pieces past c)) → ComesNext past (point_of p) count
    prepared_next count law keeps q same has = comes_next count law (λ c is_c runs. has (point_of p ∷ past) c is_c runs (subst (λ (h : Held). CommandFits (point_of p ∷ past) c h) (sym same) (command_fits keeps c is_c runs)))

    -- the resources are ready for its command
    pub prepare_ready : GrowthKeeps → (d : Device) → d.resources ≡ r → PrepareReady d (point_of p)
    prepare_ready keeps d same c is_c runs = let f = command_fits keeps c is_c runs in (point_of p ∷ past, subst (λ (h : Held). Stands (point_of p ∷ past) h) (sym same) f.matches, f.fits)

-- ---- the commands that were made ready

-- a point that is run in pieces adds its command
pub works_more : (works : List Cmd) (past : Past) (p : Point) (c : Cmd) → p.action ≡ Run c → is_run c ≡ true → AreWorks works past → AreWorks (works ++ c ∷ []) (p ∷ past)
works_more works past p c is runs are =
    let n : Node = record { number = length (nodes past); point = p; act = Runs c } in
    let here : nodes (p ∷ past) ≡ n ∷ nodes past = ap (λ (d : Action). with_acts p (acts d) (nodes past)) is ∙ ap (λ (as' : List Act). with_acts p as' (nodes past)) (run_acts c runs) in
    map-append Runs works (c ∷ []) ∙ ap (λ (as' : List Act). as' ++ Runs c ∷ []) are ∙ sym (map-append (λ n. n.act) (commands_in (nodes past)) (n ∷ []))
    ∙ ap (λ (ns : List Node). map (λ n. n.act) ns) (sym (command_node n (nodes past) refl)) ∙ ap (λ (ns : List Node). map (λ n. n.act) (commands_in ns)) (sym here)

-- and another one doesn't
pub works_same : (works : List Cmd) (past : Past) (p : Point) → is_run_in_pieces p.action ≡ false → AreWorks works past → AreWorks works (p ∷ past)
works_same works past p other are = are ∙ ap (λ (ns : List Node). map (λ n. n.act) ns) (sym (others_stay p (acts p.action) (nodes past) (none_run p.action other)))

-- ---- all of them have come

pub arrived : (d : Device) (s : Stage) (x : Entry) (points : List AnyPoint) → d.count ≡ s.count → past_after s.front.past points ≡ (after_entry d.count x s.front).past → past_after s.front.past points ≡ (after_entry s.count x s.front).past
arrived d s x points counts are = are ∙ ap (λ (n : ℕ). (after_entry n x s.front).past) counts

pub advanced : (t : List Entry) (steps : List Step) (s : Stage) (x : Entry) (xs : List Entry) (d new : Device) (w : Waiting) (points : List AnyPoint) (i : ℕ) (atoms : List ℕ) → HostDone t steps s x xs atoms d → new.resources ≡ d.resources → new.passes ≡ d.passes
    → new.count ≡ d.count + 1 → new.waiting ≡ w → IsWaiting w (d.count + 1) (after_entry d.count x s.front) → past_after s.front.past points ≡ (after_entry d.count x s.front).past → length points ≤ i
    → AreWorks new.works.items (past_after s.front.past (take i points)) → IsOffers new.offers (past_after s.front.past (take i points)) s.done → Led t (steps ++ Apply atoms (parts_begun new.passes x) ∷ []) (applied s (parts_begun new.passes x) x xs) new
advanced t steps s x xs d new w points i atoms h same passes counts waiting waits are all works offers = subst (λ (p : Passing). Led t (steps ++ Apply atoms (parts_begun p x) ∷ []) (applied s (parts_begun p x) x xs) new) (sym passes) record {
  memory = h.memory;
  run = h.run;
  holds = rw same h.holds;
  matches = subst (λ (f : Front). Stands f.past new.resources) (sym (applied_front s n x xs)) (rw same (stands_stay (host s.count x ∷ s.front.past) (after_entry s.count x s.front).past d.resources all_entries h.matches));
  works = subst (λ (f : Front). AreWorks new.works.items f.past) (sym (applied_front s n x xs))
      (subst (λ (l : Past). AreWorks new.works.items l) (ap (λ (l : List AnyPoint). past_after s.front.past l) (take_all i points all) ∙ arrived d s x points h.counts are) works);
  waits = rw (waiting, counts) (subst (λ (f : Front). IsWaiting w (d.count + 1) f) (ap (λ (n : ℕ). after_entry n x s.front) h.counts ∙ sym (applied_front s n x xs)) waits);
  counts = counts ∙ ap (λ (n : ℕ). n + 1) h.counts ∙ sym (applied_count s n x xs);
  offers = subst (λ (f : Front). IsOffers new.offers f.past (applied s n x xs).done) (sym (applied_front s n x xs))
      (subst (λ (done : List Name). IsOffers new.offers (after_entry s.count x s.front).past done) (sym (applied_done s n x xs))
      (subst (λ (l : Past). IsOffers new.offers l s.done) (ap (λ (l : List AnyPoint). past_after s.front.past l) (take_all i points all) ∙ arrived d s x points h.counts are) offers));
  passes = subst (λ (f : Front). HasPasses (parts_left (applied s n x xs)) f.past new.passes new.resources) (sym (applied_front s n x xs))
      (rw (same, passes) (passes_stay (parts_left (applied s n x xs)) (host s.count x ∷ s.front.past) (after_entry s.count x s.front).past d.passes d.resources all_entries h.passes));
}
  where
    n : ℕ
    n = parts_begun d.passes x

    all_entries : entries (after_entry s.count x s.front).past ≡ entries (host s.count x ∷ s.front.past)
    all_entries = let g = entry_grows s.count x s.front in same_entries (host s.count x ∷ s.front.past) (after_entry s.count x s.front).past g

-- ---- a new device

nothing_passing : (p : Passing) → p ≡ none_begun → (b : Backed) → b ≡ nothing_backed → ArePassing p b
nothing_passing p none b bare = rw (none, bare) none_passing
  where
    none_passing : ArePassing none_begun nothing_backed
    none_passing = record {
      pools = λ i d is. absurd cc;
      closed = λ i d is shut. absurd cc;
      opened = λ i is. absurd cc;
      planned = λ n. record { each = λ k d lt. absurd (omega (arith, lt)); once = tt; only = λ i place asked held. absurd (let f = held.live in cc) };
      movers = record { long = refl; each = λ k lt. absurd (omega (arith, lt)) };
    }

pub nothing_begun : (p : Passing) → p ≡ none_begun → (r : Held) → r.backed ≡ nothing_backed → HasPasses [] [] p r
nothing_begun p none r bare = rw none (record {
  passing = nothing_passing none_begun refl r.backed bare;
  matches = no_passes r.backed;
  left = refl;
  agree = λ i at from to lt. absurd (omega (arith, lt));
  clean = λ c there moves. absurd cc;
})

pub nothing_held : (r : Held) → r.backed ≡ nothing_backed → r.resources ≡ [] → r.shapes ≡ [] → Stands [] r
nothing_held r backed resources shapes = record { live = nothing_live }
  where
    nothing_live : MatchesLive [] r
    nothing_live = record {
      sizes = λ b. ap (λ (bs : List (ℕ × Placed)). option_map (λ (p : Placed). p.size) (placed_in bs b)) resources;
      shapes = λ i. ap (λ (l : List (ℕ × ImageInfo)). shape_in l i) shapes;
      places = λ b p r at is. absurd cc;
      owned = λ i. ap (λ (b : Backed). is_some (backing.object_of b i)) backed;
      memories = λ k number x is has. absurd cc;
      types = λ i number t is has. absurd cc;
      pools = λ i. ap (λ (b : Backed). info_by b i) backed;
      pooled = λ i a has. let both : ◌≡◌ {A = Option ℕ} None (Some a) = ap (λ (b : Backed). allocation_of b i) (sym backed) ∙ has in absurd cc;
      whole = λ a x is. let both : ◌≡◌ {A = Option Allocation} None (Some x) = sym (get_or_past [] a None (omega arith)) ∙ ap (λ (b : Backed). allocation_at b.pools a) (sym backed) ∙ is in absurd cc;
    }

pub none_there : (r : Held) → r.resources ≡ [] → (c : Byte) → IsThere r c → ⊥
none_there r resources c there =
    let l = where_lies r c there in
    let both : Some l.place ≡ None = sym l.here ∙ ap (λ (bs : List (ℕ × Placed)). placed_in bs (resource_at c)) resources in
    cc
