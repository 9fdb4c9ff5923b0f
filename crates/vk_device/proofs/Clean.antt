-- What the rules promise of the points of a clean past.
use Rattle.std.proofs.Common.{◌≡◌, ℕ, length, ◌++◌, subst, ◌+◌, ◌-◌, ◌*◌, ◌/◌, ◌%◌, ◌<◌, ◌≤◌, List, [], ◌∷◌, Bool, false, ◌||◌, ◌==◌, nat_lt, nat_le, refl, ap, sym, ◌∙◌, arith, Option, Some, None}
use Rattle.std.specs.Prelude.{IsTrue, Contains, All, map, option_and_then}
use Rattle.std.specs.List.{list_any}
use Rattle.vk_model.specs.Trace.Order.{Front, after_entry, order_from, host}
use Rattle.vk_model.proofs.Trace.Growing.{entry_grows, order_grows}
use Rattle.std.proofs.lemmas.Bool.{leb-false, eqb-true, false_from_ne_true, or_parts}
use Rattle.vk_model.specs.declared.rule.Rule.TheVariants as rule
use Rattle.vk_model.specs.Trace.Point.{Past, Point, Action, Host, Wait, Run, Signal}
use Rattle.vk_model.specs.Rules.Table.{breaks}
use Rattle.vk_model.specs.Rules.Fault.{newest, older}
use Rattle.vk_model.specs.Rules.Sizes.{fills_none}
use Rattle.vk_model.specs.Rules.Ranges.{ends_past, area_past, fills_from_end, off_4_length}
use Rattle.vk_model.specs.World.ByteWrites.{buffer_size, fill_size}
use Rattle.vk_model.specs.declared.command.Length.{Length}
use Rattle.vk_model.specs.declared.command.Length.TheVariants as length_of
use Rattle.vk_model.specs.declared.command.Cmd.TheVariants as cmd
use Rattle.vk_model.specs.declared.entry.Entry.TheVariants as entry
use Rattle.vk_model.specs.declared.resource.BufferInfo.{BufferInfo}
use Rattle.vk_model.specs.declared.resource.ImageInfo.{ImageInfo}
use Rattle.vk_model.specs.Trace.Image.{image_size}
use Rattle.vk_model.specs.declared.resource.Place.{Place}
use Rattle.vk_model.specs.declared.resource.Place.TheVariants as place
use Rattle.vk_device.specs.Inner.Clean.{IsClean}
use Rattle.vk_device.specs.Inner.Fits.{FitsAction, FitsHost, AllFit}
use Rattle.vk_resources.specs.Fits.{FitsFill, FitsCommand, IsUnused, FitsPlace, FitsRange, FitsLength, FitsEntry}
use Rattle.vk_transfer.specs.Copies.{FitsBuffers}
use Rattle.vk_model.specs.Basics.{holds}
use Rattle.vk_model.specs.Rules.Ids.{is_buffer, is_memory as makes_memory, is_pool as makes_pool, is_resource, asked_by_entry, asked_by_place}
use Rattle.vk_model.specs.Memory.Suballocation.{IsRequest}
use Rattle.vk_model.specs.Rules.Binding.{is_misplaced}
use Rattle.vk_model.specs.Rules.Fault.{Comes}
use Rattle.vk_model.specs.World.Areas.{Area, Bytes}
use Rattle.vk_model.specs.declared.command.BufferCopy.{BufferCopy}
use Rattle.vk_model.specs.declared.resource.MemoryInfo.{MemoryInfo}
use Rattle.vk_model.proofs.Lists.Members.{contains-head, map_has, member_passes}
use Rattle.vk_model.proofs.Lists.Truths.{clash}
use Rattle.std.proofs.lemmas.List.Elements.{Contains-append_left, Contains-append_right}
use Rattle.std.proofs.lemmas.List.{append_assoc}
use Rattle.vk_laws.proofs.Nodes.NoHazard.{split_at}
use Rattle.vk_laws.proofs.Nodes.Steady.{IsNew, made_step, made_up}
use Rattle.vk_laws.proofs.Living.Alive.{is_alive, Ending, ending}
use Rattle.vk_laws.proofs.Living.Ends.{Ended, idle, other, when_ended}
use Rattle.std.proofs.Math.Nat.{div-add-mod, div-mul-le_self, mul-div_cancel, mod-lt}
use Rattle.vk_model.specs.declared.command.Cmd.{Cmd}
use Rattle.vk_model.specs.Trace.Objects.{made, made_by, ended, live, buffer, buffer_in, bound_at, pool_at, Resource, resource_in, of_buffer, of_image}
use Rattle.vk_model.specs.declared.entry.Entry.{Entry}
use Rattle.vk_resources.proofs.Requests.{buffer_request, image_request}
use Rattle.vk_device.proofs.CleanPools.{pool_fits, pool_point, drop_point}
use Rattle.vk_device.proofs.CleanImages.{clear_point, copy_in_point, copy_out_point, copy_image_point}
use Rattle.vk_device.proofs.Unbroken.{BreaksNone, breaks_none, not-false, not_above, not_zero, new_made, entry_size, command_size, memory_size, entry_range, command_range, command_align, names_live, used_none, bound_within, bound_apart, bound_aligned, all_from, areas_inside}

-- Whether a fill to the end begins at the end or past it.
abbrev ends_at : ℕ → ℕ → Length → Bool
ends_at size o (length_of.Bytes n) = false
ends_at size o length_of.Whole = nat_le size o

-- a range within the buffer of an id that is live
live_range : (past : Past) (b o n : ℕ) → IsTrue (holds (live past b) is_buffer) → o + n ≤ buffer_size past b → FitsRange (option_and_then buffer_in (live past b)) o n
live_range past b o n alive range = let a = is_alive past b is_buffer alive in rw (a.unended, a.made_it) (go a.object a.is_kind (rw (buffer_size, a.made_it) at range))
  where
    go : (y : Entry) → IsTrue (is_buffer y) → o + n ≤ elim (buffer_in y) [ None ↦ 0 | Some i ↦ i.size ] → FitsRange (buffer_in y) o n
    go (entry.Buffer i info) h range = range
    go _ h range = absurd cc

-- and one that may go to the end
live_length : (past : Past) (b o : ℕ) (n : Length) → IsTrue (holds (live past b) is_buffer) → ends_past (buffer_size past b) o n ≡ false → FitsLength (option_and_then buffer_in (live past b)) o n
live_length past b o (length_of.Bytes n) alive range = live_range past b o n alive (not_above (buffer_size past b) (o + n) range)
live_length past b o length_of.Whole alive range = let a = is_alive past b is_buffer alive in rw (a.unended, a.made_it) (go a.object a.is_kind (leb-false (elim (buffer_in a.object) [ None ↦ 0 | Some i ↦ i.size ]) o (rw (buffer_size, a.made_it) at range)))
  where
    go : (y : Entry) → IsTrue (is_buffer y) → o < elim (buffer_in y) [ None ↦ 0 | Some i ↦ i.size ] → FitsLength (buffer_in y) o length_of.Whole
    go (entry.Buffer i info) h range = range
    go _ h range = absurd cc

-- an id that wasn't made hasn't been ended
abbrev pub IsFresh : Past → Type 0
IsFresh past = (i : ℕ) → made past i ≡ None → ended past i ≡ false

new_clean : (past : Past) → IsClean past → IsNew past
unfolding breaks
new_clean past clean before q comes broken = clean.sound before q rule.NewId comes broken

made_on : (past before : Past) (q : Point) → IsClean past → Comes past before q → (i : ℕ) (x : Entry) → made before i ≡ Some x → made past i ≡ Some x
made_on past before q clean comes i x is =
    let f = split_at past before q comes in
    let whole : past ≡ (f.0 ++ q ∷ []) ++ before = f.1 ∙ sym (append_assoc f.0 (q ∷ []) before) in
    ap (λ (l : Past). made l i) whole ∙ made_up (f.0 ++ q ∷ []) before i x (subst (λ (l : Past). IsNew l) whole (new_clean past clean)) is

fresh_clean : (past : Past) → IsClean past → IsFresh past
fresh_clean past clean i unmade = false_from_ne_true (ended past i) (λ h. go (ending past i h))
  where
    clash_made : (x : Entry) → made past i ≡ Some x → ⊥
    clash_made x is = let both : None ≡ Some x = sym unmade ∙ is in cc

    go : Ending past i → ⊥
    go e = by (when_ended e.before e.at e.by e.is_host (λ k h. clean.sound e.before e.at k e.comes h) i e.ends)
      where
        by : Ended e.before e.at e.by e.is_host i → ⊥
        by (idle alive free) = clash_made alive.object (made_on past e.before e.at clean e.comes i alive.object alive.made_it)
        by (other kind alive apart) = clash_made alive.object (made_on past e.before e.at clean e.comes i alive.object alive.made_it)

new_id : (past : Past) (p : Point) (none : BreaksNone past p) → IsFresh past → (x : Entry) (i : ℕ) → p.action ≡ Host x → made_by x ≡ Some i → IsUnused past i
new_id past p none fresh x i is makes = let un = new_made past p none x i is makes in record { unmade = un; unended = fresh i un }

-- ---- host accesses

read_point : (past : Past) (p : Point) (b o n : ℕ) → p.action ≡ Host (entry.Read b o n) → BreaksNone past p → FitsEntry past (entry.Read b o n)
read_point past p b o n is none =
    live_range past b o n (names_live past p none (entry.Read b o n) b is_buffer is (contains-head (b, is_buffer) [])) (not_above (buffer_size past b) (o + n) (entry_range past p none (entry.Read b o n) is))

write_point : (past : Past) (p : Point) (b o : ℕ) (bytes : List ℕ) → p.action ≡ Host (entry.Write b o bytes) → BreaksNone past p → FitsEntry past (entry.Write b o bytes)
write_point past p b o bytes is none =
    live_range past b o (length bytes) (names_live past p none (entry.Write b o bytes) b is_buffer is (contains-head (b, is_buffer) [])) (not_above (buffer_size past b) (o + length bytes) (entry_range past p none (entry.Write b o bytes) is))

flush_point : (past : Past) (p : Point) (b o : ℕ) (n : Length) → p.action ≡ Host (entry.Flush b o n) → BreaksNone past p → FitsEntry past (entry.Flush b o n)
flush_point past p b o n is none = live_length past b o n (names_live past p none (entry.Flush b o n) b is_buffer is (contains-head (b, is_buffer) [])) (entry_range past p none (entry.Flush b o n) is)

invalidate_point : (past : Past) (p : Point) (b o : ℕ) (n : Length) → p.action ≡ Host (entry.Invalidate b o n) → BreaksNone past p → FitsEntry past (entry.Invalidate b o n)
invalidate_point past p b o n is none = live_length past b o n (names_live past p none (entry.Invalidate b o n) b is_buffer is (contains-head (b, is_buffer) [])) (entry_range past p none (entry.Invalidate b o n) is)

-- ---- what ends

free_point : (past : Past) (p : Point) (m : ℕ) → p.action ≡ Host (entry.Free m) → BreaksNone past p → FitsEntry past (entry.Free m)
free_point past p m is none = (names_live past p none (entry.Free m) m makes_memory is (contains-head (m, makes_memory) []), used_none past p none (entry.Free m) is)

destroy_point : (past : Past) (p : Point) (r : ℕ) → p.action ≡ Host (entry.Destroy r) → BreaksNone past p → FitsEntry past (entry.Destroy r)
destroy_point past p r is none = names_live past p none (entry.Destroy r) r is_resource is (contains-head (r, is_resource) [])

-- ---- fills

fill_fits : (size o : ℕ) (n : Length) → fills_none size o n ≡ false → nat_lt size (o + fill_size size o n) ≡ false → ends_at size o n ≡ false → off_4_length n ≡ false
    → (o ≤ size) × (o + fill_size size o n ≤ size) × (fill_size size o n ≡ 4 * (fill_size size o n / 4)) × (0 < size)
fill_fits size o (length_of.Bytes n) some inside here whole =
    let le : o + n ≤ size = not_above size (o + n) inside in
    let pos : 0 < n = not_zero n some in
    let rest : n % 4 ≡ 0 = eqb-true (n % 4) 0 (not-false (n % 4 == 0) whole) in
    let parts : 4 * (n / 4) + n % 4 ≡ n = div-add-mod n 4 in
    (omega arith, le, omega arith, omega arith)
fill_fits size o length_of.Whole some inside here whole =
    let lt : o < size = below_end size o here in
    let words : ℕ = (size - o) / 4 in
    let parts : words * 4 ≤ size - o = div-mul-le_self (size - o) 4 in
    let again : words * 4 / 4 ≡ words = mul-div_cancel words (omega arith) in
    (omega arith, omega arith, omega (arith, ap (λ (k : ℕ). 4 * k) again), omega arith)
  where
    below_end : (size o : ℕ) → nat_le size o ≡ false → o < size
    below_end size o e = leb-false size o e

abbrev outside : Past → ℕ → ℕ → Length → Bool
outside past b o n = nat_lt (buffer_size past b) (o + fill_size (buffer_size past b) o n)

fill_point : (past : Past) (p : Point) (b o : ℕ) (n : Length) (w : ℕ) → p.action ≡ Run (cmd.Fill b o n w) → BreaksNone past p → FitsFill (buffer past b) o n
fill_point past p b o n w is none =
    go (buffer past b) refl (fill_fits (buffer_size past b) o n (command_size past p none (cmd.Fill b o n w) is) inside (from_end n ranged) (or_parts _ _ (command_align past p none (cmd.Fill b o n w) is)).1)
  where
    -- the areas and the end, without the elements and regions that a fill hasn't
    ranged : ((outside past b o n || false) || fills_from_end past (cmd.Fill b o n w)) ≡ false
    ranged = (or_parts _ false (or_parts _ false (command_range past p none (cmd.Fill b o n w) is)).0).0

    inside : outside past b o n ≡ false
    inside = (or_parts (outside past b o n) false (or_parts (outside past b o n || false) (fills_from_end past (cmd.Fill b o n w)) ranged).0).0

    from_end : (n : Length) → ((outside past b o n || false) || fills_from_end past (cmd.Fill b o n w)) ≡ false → ends_at (buffer_size past b) o n ≡ false
    from_end (length_of.Bytes n) e = refl
    from_end length_of.Whole e = (or_parts (outside past b o length_of.Whole || false) (nat_le (buffer_size past b) o) e).1

    go : (x : Option BufferInfo) → buffer past b ≡ x → (o ≤ buffer_size past b) × (o + fill_size (buffer_size past b) o n ≤ buffer_size past b) × (fill_size (buffer_size past b) o n ≡ 4 * (fill_size (buffer_size past b) o n / 4)) × (0 < buffer_size past b) → FitsFill x o n
    go None e f = let pos : 0 < 0 = rw (buffer_size, e) at f.3 in absurd (omega arith)
    go (Some i) e f = let f' = rw (buffer_size, e) at f in (f'.0, f'.1, f'.2)

-- ---- the other forms

-- a place that breaks no rule on binding
place_fits : (past : Past) (p : Point) (x : Entry) (r : Resource) → p.action ≡ Host x → resource_in x ≡ Some r → ((m o : ℕ) → r.place ≡ place.Memory m o → Contains (asked_by_entry x) (m, makes_memory)) → ((k : ℕ) → pool_at r.place ≡ Some k → Contains (asked_by_entry x) (k, makes_pool)) → IsRequest r.size r.align → BreaksNone past p → (q : Place) → r.place ≡ q → FitsPlace past r q
place_fits past p x r is makes asks pools request none (place.Dedicated t) at = tt
place_fits past p x r is makes asks pools request none (place.Memory m o) at = (
  names_live past p none x m makes_memory is (asks m o at),
  rw (makes, at) at (bound_within past p none x is),
  rw (makes, at) at (bound_apart past p none x is),
  subst (λ (q : Place). holds (bound_at q) (λ s. is_misplaced past r s.0 s.1) ≡ false) at (rw makes at (bound_aligned past p none x is)),
)
place_fits past p x r is makes asks pools request none (place.Pool q) at = pool_fits past p x r q is makes (ap pool_at at) (pools q (ap pool_at at)) none request
place_fits past p x r is makes asks pools request none (place.PoolUpper q) at = pool_fits past p x r q is makes (ap pool_at at) (pools q (ap pool_at at)) none request

rounded_bound : (size : ℕ) → (size + 15) / 16 * 16 ≤ 67108864 → size ≤ 67108864
rounded_bound size le = let parts = div-add-mod (size + 15) 16 in let rest : (size + 15) % 16 < 16 = mod-lt (size + 15) (omega arith) in omega arith

-- a place names its pool
names_pool : (q : Place) (k : ℕ) → pool_at q ≡ Some k → Contains (asked_by_place q) (k, makes_pool)
names_pool (place.Pool p) k at = let same : p ≡ k = cc in subst (λ (j : ℕ). Contains {X = ℕ × (Entry → Bool)} ((p, makes_pool) ∷ []) (j, makes_pool)) same (contains-head (p, makes_pool) [])
names_pool (place.PoolUpper p) k at = let same : p ≡ k = cc in subst (λ (j : ℕ). Contains {X = ℕ × (Entry → Bool)} ((p, makes_pool) ∷ []) (j, makes_pool)) same (contains-head (p, makes_pool) [])
names_pool (place.Dedicated t) k at = absurd cc
names_pool (place.Memory m o) k at = absurd cc

buffer_point : (past : Past) (p : Point) (i : ℕ) (b : BufferInfo) → p.action ≡ Host (entry.Buffer i b) → IsFresh past → BreaksNone past p → FitsEntry past (entry.Buffer i b)
buffer_point past p i b is fresh none = record {
  unused = new_id past p none fresh (entry.Buffer i b) i is refl;
  some = not_zero b.size (entry_size past p none (entry.Buffer i b) is);
  bounded = rounded_bound b.size (not_above 67108864 ((b.size + 15) / 16 * 16) (memory_size past p none (entry.Buffer i b) is));
  place = place_fits past p (entry.Buffer i b) (of_buffer b) is refl (λ m o at. rw at (contains-head (m, makes_memory) [])) (names_pool b.place) (buffer_request b (not_zero b.size (entry_size past p none (entry.Buffer i b) is))) none b.place refl;
}

image_point : (past : Past) (p : Point) (i : ℕ) (m : ImageInfo) → p.action ≡ Host (entry.Image i m) → IsFresh past → BreaksNone past p → FitsEntry past (entry.Image i m)
image_point past p i m is fresh none = record {
  unused = new_id past p none fresh (entry.Image i m) i is refl;
  shaped = entry_size past p none (entry.Image i m) is;
  bounded = not_above 67108864 (image_size m m.tiling) (memory_size past p none (entry.Image i m) is);
  place = place_fits past p (entry.Image i m) (of_image m) is refl (λ k o at. rw at (contains-head (k, makes_memory) [])) (names_pool m.place) (image_request m (entry_size past p none (entry.Image i m) is)) none m.place refl;
}

memory_point : (past : Past) (p : Point) (i : ℕ) (m : MemoryInfo) → p.action ≡ Host (entry.Memory i m) → IsFresh past → BreaksNone past p → FitsEntry past (entry.Memory i m)
memory_point past p i m is fresh none = (new_id past p none fresh (entry.Memory i m) i is refl, not_zero m.size (or_parts (m.size == 0) (nat_lt 67108864 m.size) (memory_size past p none (entry.Memory i m) is)).0)

fits_entry : (past : Past) (p : Point) (x : Entry) → p.action ≡ Host x → IsFresh past → BreaksNone past p → FitsHost past x
fits_entry past p (entry.Buffer i b) is fresh none = buffer_point past p i b is fresh none
fits_entry past p (entry.Memory i m) is fresh none = memory_point past p i m is fresh none
fits_entry past p (entry.Free m) is fresh none = free_point past p m is none
fits_entry past p (entry.Destroy r) is fresh none = destroy_point past p r is none
fits_entry past p (entry.Map b) is fresh none = tt
fits_entry past p (entry.Unmap b) is fresh none = tt
fits_entry past p (entry.Write b o bytes) is fresh none = write_point past p b o bytes is none
fits_entry past p (entry.Read b o n) is fresh none = read_point past p b o n is none
fits_entry past p (entry.Semaphore i v) is fresh none = new_id past p none fresh (entry.Semaphore i v) i is refl
fits_entry past p (entry.Event i) is fresh none = new_id past p none fresh (entry.Event i) i is refl
fits_entry past p (entry.Signal s v) is fresh none = tt
fits_entry past p (entry.Wait ws) is fresh none = tt
fits_entry past p (entry.Submit q bs) is fresh none = tt
fits_entry past p (entry.Pool i x) is fresh none = pool_point past p i x is (new_id past p none fresh (entry.Pool i x) i is refl) none
fits_entry past p (entry.Image i x) is fresh none = image_point past p i x is fresh none
fits_entry past p (entry.DropPool q) is fresh none = drop_point past p q is none
fits_entry past p (entry.Flush b o n) is fresh none = flush_point past p b o n is none
fits_entry past p (entry.Invalidate b o n) is fresh none = invalidate_point past p b o n is none
fits_entry past p (entry.Defrag i q n m) is fresh none = new_id past p none fresh (entry.Defrag i q n m) i is refl
fits_entry past p (entry.Pass d) is fresh none = tt
fits_entry past p (entry.EndPass d kept lost) is fresh none = tt
fits_entry past p (entry.EndDefrag d) is fresh none = tt

-- ---- updates and copies

update_point : (past : Past) (p : Point) (b o : ℕ) (bytes : List ℕ) → p.action ≡ Run (cmd.Update b o bytes) → BreaksNone past p → FitsCommand past (cmd.Update b o bytes)
update_point past p b o bytes is none = not_above (buffer_size past b) (o + length bytes) (or_parts _ false (areas_inside past p (cmd.Update b o bytes) is none)).0

copy_point : (past : Past) (p : Point) (s d : ℕ) (gs : List BufferCopy) → p.action ≡ Run (cmd.Copy s d gs) → BreaksNone past p → FitsCommand past (cmd.Copy s d gs)
copy_point past p s d gs is none = all_regions gs (areas_inside past p (cmd.Copy s d gs) is none)
  where
    all_regions : (gs : List BufferCopy) → list_any (area_past past) (map (λ g. Bytes s g.source_offset g.size) gs ++ map (λ g. Bytes d g.destination_offset g.size) gs) ≡ false → All (λ g. FitsBuffers g (buffer_size past s) (buffer_size past d)) gs
    all_regions gs inside = all_from (λ g. FitsBuffers g (buffer_size past s) (buffer_size past d)) gs (λ g c. (
      not_above (buffer_size past s) (g.source_offset + g.size) (fails (Bytes s g.source_offset g.size) (Contains-append_left (map (λ g. Bytes s g.source_offset g.size) gs) (map (λ g. Bytes d g.destination_offset g.size) gs) (Bytes s g.source_offset g.size) (map_has (λ g. Bytes s g.source_offset g.size) gs g c))),
      not_above (buffer_size past d) (g.destination_offset + g.size) (fails (Bytes d g.destination_offset g.size) (Contains-append_right (map (λ g. Bytes s g.source_offset g.size) gs) (map (λ g. Bytes d g.destination_offset g.size) gs) (Bytes d g.destination_offset g.size) (map_has (λ g. Bytes d g.destination_offset g.size) gs g c))),
    ))
      where
        fails : (a : Area) → Contains (map (λ g. Bytes s g.source_offset g.size) gs ++ map (λ g. Bytes d g.destination_offset g.size) gs) a → area_past past a ≡ false
        fails a c = false_from_ne_true (area_past past a) (λ h. clash (member_passes (area_past past) (map (λ g. Bytes s g.source_offset g.size) gs ++ map (λ g. Bytes d g.destination_offset g.size) gs) a c h) inside)

fits_command : (past : Past) (p : Point) (c : Cmd) → p.action ≡ Run c → IsNew past → BreaksNone past p → FitsCommand past c
fits_command past p (cmd.Fill b o n w) is new none = fill_point past p b o n w is none
fits_command past p (cmd.Update b o bytes) is new none = update_point past p b o bytes is none
fits_command past p (cmd.Copy s d gs) is new none = copy_point past p s d gs is none
fits_command past p (cmd.Barrier es) is new none = tt
fits_command past p (cmd.Clear i l color rs) is new none = clear_point past p new none i l color rs is
fits_command past p (cmd.CopyIn b i l gs) is new none = copy_in_point past p new none b i l gs is
fits_command past p (cmd.CopyOut i l b gs) is new none = copy_out_point past p new none i b l gs is
fits_command past p (cmd.CopyImage a l b m gs) is new none = copy_image_point past p new none a b l m gs is
fits_command past p (cmd.Set v ms) is new none = tt
fits_command past p (cmd.Await v ms) is new none = tt

fits_action : (past : Past) (p : Point) (d : Action) → p.action ≡ d → IsNew past → IsFresh past → BreaksNone past p → FitsAction past d
fits_action past p (Host x) is new fresh none = fits_entry past p x is fresh none
fits_action past p (Run c) is new fresh none = fits_command past p c is new none
fits_action past p (Wait s) is new fresh none = tt
fits_action past p (Signal s) is new fresh none = tt

-- ---- what is older is clean too

clean_older : (past : Past) (p : Point) → IsClean (p ∷ past) → IsClean past
clean_older past p clean = record { sound = λ before q r comes. clean.sound before q r (older comes) }

-- every point of a clean past fits
pub fits_clean : (past : Past) → IsClean past → AllFit past
fits_clean [] clean = tt
fits_clean (p ∷ past) clean = let before = clean_older past p clean in (fits_action past p p.action refl (new_clean past before) (fresh_clean past before) (breaks_none past p clean), fits_clean past before)

-- what comes before others, which may be batches that are started
pub clean_newer : (newer past : Past) → IsClean (newer ++ past) → IsClean past
clean_newer [] past clean = clean
clean_newer (p ∷ newer) past clean = clean_newer newer past (clean_older (newer ++ past) p clean)

pub clean_entry : (e : ℕ) (x : Entry) (f : Front) → IsClean (after_entry e x f).past → IsClean (host e x ∷ f.past)
clean_entry e x f clean = let g = entry_grows e x f in clean_newer g.newer (host e x ∷ f.past) (subst IsClean g.whole clean)

pub clean_order : (e : ℕ) (f : Front) (xs : List Entry) → IsClean (order_from e f xs).past → IsClean f.past
clean_order e f xs clean = let g = order_grows e f xs in clean_newer g.0 f.past (subst IsClean g.1 clean)

-- an object that was made stays when a point comes
pub made_next : (past : Past) (p : Point) → IsClean (p ∷ past) → (i : ℕ) (x : Entry) → made past i ≡ Some x → made (p ∷ past) i ≡ Some x
made_next past p clean i x is = made_step past p i x (new_clean (p ∷ past) clean past p newest) is
