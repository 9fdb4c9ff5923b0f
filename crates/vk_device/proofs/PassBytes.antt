-- What the host, its cache and pieces write isn't of what moves.
use Rattle.std.proofs.Common.{◌≡◌, ℕ, ◌+◌, ◌-◌, ◌<◌, List, [], ◌∷◌, length, Bool, true, false, not, ◌&&◌, ◌==◌, nat_lt, nat_le, IsTrue, refl, ap, sym, ◌∙◌, subst, arith, Option, Some, None}
use Rattle.std.specs.Prelude.{Contains, is_some, slice_get, IsSome, option_and_then, if◌then◌else◌}
use Rattle.std.specs.List.{list_any}
use Rattle.std.proofs.lemmas.Bool.{eqb-true, false_from_ne_true, and_parts, or_parts}
use Rattle.std.proofs.lemmas.Option.{slice_get_within}
use Rattle.vk_map_cache.specs.Holdings.{held_at}
use Rattle.vk_model.specs.declared.command.Length.{Length}
use Rattle.vk_model.specs.declared.command.Length.TheVariants as length_of
use Rattle.vk_model.specs.declared.resource.BufferInfo.{BufferInfo}
use Rattle.vk_model.specs.declared.entry.Entry.{Entry}
use Rattle.vk_model.specs.declared.entry.Entry.TheVariants as entry
use Rattle.vk_model.specs.declared.resource.ImageInfo.{ImageInfo}
use Rattle.vk_model.specs.declared.rule.Rule.TheVariants as rule
use Rattle.vk_model.specs.Basics.{below, holds}
use Rattle.vk_model.specs.Trace.Point.{Past, Host}
use Rattle.vk_model.specs.Trace.Objects.{live, buffer_in, image_in, is_cached}
use Rattle.vk_model.specs.Trace.Order.{host}
use Rattle.vk_model.specs.World.Bytes.{Byte, in_buffer, in_image, resource_at}
use Rattle.vk_model.specs.World.ByteWrites.{ByteWrite}
use Rattle.vk_model.specs.World.Effect.{written, reaches}
use Rattle.vk_model.specs.Sync.Access.{bytes_of}
use Rattle.vk_model.specs.Rules.Ids.{is_buffer}
use Rattle.vk_model.specs.Rules.Passes.{moves_now, breaks_pass_write}
use Rattle.vk_model.specs.Rules.Table.{breaks, first_fault}
use Rattle.vk_model.specs.Run.CachedRuns.{in_atoms, named_piece, write_to}
use Rattle.vk_model.specs.Run.Runs.{Name, Step, Stage, is_done, offered, touched_by}
use Rattle.vk_model.proofs.Lists.Members.{contains-head, map_has, numbers_have, some_member}
use Rattle.vk_model.proofs.Lists.Truths.{clash}
use Rattle.vk_laws.specs.DefinedRuns.{RunOf}
use Rattle.vk_laws.specs.OpenPasses.{PiecesStayOffPasses}
use Rattle.vk_laws.proofs.CachedRunning.HostCaches.{written_buffer}
use Rattle.vk_backing.specs.Passing.{Passing, ArePassing}
use Rattle.vk_resources.specs.declared.resources.Placed.{Placed}
use Rattle.vk_resources.specs.Held.{Held, IsConsistent, IsThere, placed, shape_of, holding_in, is_dirty, place_in}
use Rattle.vk_resources.specs.Matches.{Stands}
use Rattle.vk_resources.specs.PassSteps.{AreClean, SparesBytes, is_of_any}
use Rattle.vk_resources.specs.Fits.{FitsEntry, FitsLength, FitsRange}
use Rattle.vk_resources.specs.Rest.{is_changed_by, is_dirty_at, is_given_back, is_written}
use Rattle.vk_device.specs.Inner.Clean.{IsClean}
use Rattle.vk_device.specs.Passes.{MatchesPasses}
use Rattle.vk_device.proofs.Unbroken.{BreaksNone, breaks_none, none_passes, names_live}
use Rattle.vk_device.proofs.PassRules.{moves_are}

-- ---- what the host writes

-- a write of bytes has a first one
wrote_some : (b o : ℕ) (bytes : List ℕ) (c : Byte) (v : ℕ) → written b o bytes c ≡ Some v → (j : ℕ) × (j < length bytes)
wrote_some b o bytes (in_buffer d k) v is = go (b == d && nat_le o k) is
  where
    go : (t : Bool) → (if t then slice_get bytes (k - o) else None) ≡ Some v → (j : ℕ) × (j < length bytes)
    go true is = (k - o, slice_get_within bytes (k - o) v is)
    go false is = absurd cc
wrote_some b o bytes (in_image i l m x y p) v is = absurd cc

-- the host writes nothing that moves
pub write_away : (past : Past) (e b o : ℕ) (bytes : List ℕ) → BreaksNone past (host e (entry.Write b o bytes)) → (c : Byte) (v : ℕ) → written b o bytes c ≡ Some v → moves_now past (resource_at c) ≡ false
unfolding breaks
write_away past e b o bytes none c v is =
    let j = wrote_some b o bytes c v is in
    let unbroken : breaks_pass_write past (host e (entry.Write b o bytes)) ≡ false = none rule.PassWrite in
    let away : list_any (λ d. moves_now past (resource_at d)) (bytes_of b o (length bytes)) ≡ false = (or_parts (list_any (λ d. moves_now past (resource_at d)) (bytes_of b o (length bytes))) false unbroken).0 in
    let zero : 0 + j.0 ≡ j.0 = omega arith in
    let there : Contains (below (length bytes)) j.0 = subst (λ (i : ℕ). Contains (below (length bytes)) i) zero (numbers_have 0 (length bytes) j.0 j.1) in
    ap (λ (r : ℕ). moves_now past r) (written_buffer b o bytes c v is)
    ∙ none_passes (λ d. moves_now past (resource_at d)) (bytes_of b o (length bytes)) away (in_buffer b (o + j.0)) (map_has (λ k. in_buffer b (o + k)) (below (length bytes)) j.0 there)

-- ---- what its cache holds

-- what hasn't reached memory is a byte of a buffer that is there
dirty_there : (s : Held) (c : Byte) → shape_of s (resource_at c) ≡ None → IsTrue (is_dirty_at s c) → IsThere s c
dirty_there s (in_image i l a x y p) plain dirty = absurd cc
dirty_there s (in_buffer d k) plain dirty =
    subst (λ (m : Option ImageInfo). IsTrue (is_dirty (holding_in s.cache (placed s d) k)) → IsSome (place_in m (placed s d) (in_buffer d k))) (sym plain) (go (placed s d)) dirty
  where
    go : (o : Option Placed) → IsTrue (is_dirty (holding_in s.cache o k)) → IsSome (place_in None o (in_buffer d k))
    go None h = absurd cc
    go (Some p) h = within (nat_lt k p.size) h
      where
        within : (t : Bool) → IsTrue (is_dirty (if t then held_at s.cache p.object (p.offset + k) else None)) → IsSome (let o : Option ℕ = if t then Some k else None in o)
        within true h = refl
        within false h = absurd cc

-- what moves has reached memory
dirty_away : (s : Held) (ids : List ℕ) → AreClean ids s → (c : Byte) → shape_of s (resource_at c) ≡ None → IsTrue (is_dirty_at s c) → is_of_any ids c ≡ false
dirty_away s ids all c plain dirty = false_from_ne_true (is_of_any ids c) (λ h. clash dirty (all c (dirty_there s c plain dirty) h))

-- no image has the id of a buffer
buffer_plain : (past : Past) (s : Held) → Stands past s → (b : ℕ) → IsTrue (holds (live past b) is_buffer) → shape_of s b ≡ None
buffer_plain past s stands b alive = stands.live.shapes b ∙ no_image (live past b) alive
  where
    no_image : (o : Option Entry) → IsTrue (holds o is_buffer) → option_and_then image_in o ≡ None
    no_image None h = absurd cc
    no_image (Some y) h = by y h
      where
        by : (y : Entry) → IsTrue (is_buffer y) → image_in y ≡ None
        by (entry.Image i m) h = absurd cc
        by _ h = refl

-- ---- what moves

module _ (past : Past) (s : Held) (p : Passing) (stands : Stands past s) (consistent : IsConsistent s) (are : ArePassing p s.backed) (m : MatchesPasses past p s.backed) where
  -- a byte of what moves is of a pool whose pass is open
  pub of_moving : (c : Byte) → is_of_any p.moving c ≡ true → moves_now past (resource_at c) ≡ true
  of_moving c h =
      let it = some_member (λ y. resource_at c == y) p.moving h in
      moves_are past s p stands consistent are m (resource_at c) (subst (λ (i : ℕ). Contains p.moving i) (sym (eqb-true (resource_at c) it.0 it.2)) it.1)

  pub not_moving : (c : Byte) → moves_now past (resource_at c) ≡ false → is_of_any p.moving c ≡ false
  not_moving c away = false_from_ne_true (is_of_any p.moving c) (λ h. clash (of_moving c h) away)

-- ---- what an entry writes, with the cache of the host

-- memory gets no byte of it by an entry
pub entry_bytes : (e : ℕ) (x : Entry) (past : Past) (s : Held) (p : Passing) → IsClean (host e x ∷ past) → Stands past s → IsConsistent s → ArePassing p s.backed → MatchesPasses past p s.backed → AreClean p.moving s → SparesBytes p.moving (is_changed_by s past x)
entry_bytes e x past s p clean stands consistent are m all c changed = go x refl changed
  where
    none : BreaksNone past (host e x)
    none = breaks_none past (host e x) clean

    some_of : (o : Option ℕ) → is_some o ≡ true → (v : ℕ) × (o ≡ Some v)
    some_of None h = absurd cc
    some_of (Some v) h = (v, refl)

    reached : (b o : ℕ) (n : Length) (c : Byte) → IsTrue (reaches b o n c) → resource_at c ≡ b
    reached b o n (in_buffer d k) h = sym (eqb-true b d (and_parts (b == d) _ h).0)
    reached b o n (in_image i l m x y p) h = absurd cc

    go : (y : Entry) → x ≡ y → IsTrue (is_changed_by s past y c) → is_of_any p.moving c ≡ false
    go (entry.Write b o bytes) same h =
        let v = some_of (written b o bytes c) (and_parts (not (is_cached past b)) (is_some (written b o bytes c)) h).1 in
        not_moving past s p stands consistent are m c (write_away past e b o bytes (subst (λ (y : Entry). BreaksNone past (host e y)) same none) c v.0 v.1)
    go (entry.Flush b o n) same h =
        let both = and_parts (is_cached past b && reaches b o n c) (is_dirty_at s c) h in
        let here = reached b o n c (and_parts (is_cached past b) (reaches b o n c) both.0).1 in
        let alive = names_live past (host e x) none (entry.Flush b o n) b is_buffer (ap Host same) (contains-head (b, is_buffer) []) in
        dirty_away s p.moving all c (ap (λ (i : ℕ). shape_of s i) here ∙ buffer_plain past s stands b alive) both.1
    go _ same h = absurd cc

-- the buffer that the host accesses by an entry that fits is live
touched_live : (past : Past) (x : Entry) (b : ℕ) → FitsEntry past x → touched_by x ≡ Some b → IsTrue (holds (live past b) is_buffer)
touched_live past x b fits is = go x fits is
  where
    has : (o : Option Entry) (u : Option BufferInfo) → option_and_then buffer_in o ≡ u → is_some u ≡ true → IsTrue (holds o is_buffer)
    has None u same h = absurd (let no : false ≡ true = ap is_some same ∙ h in cc)
    has (Some y) u same h = ap is_some same ∙ h

    ranged : (u : Option BufferInfo) (o n : ℕ) → FitsRange u o n → is_some u ≡ true
    ranged None o n fits = absurd fits
    ranged (Some i) o n fits = refl

    long : (u : Option BufferInfo) (o : ℕ) (n : Length) → FitsLength u o n → is_some u ≡ true
    long u o (length_of.Bytes n) fits = ranged u o n fits
    long None o length_of.Whole fits = absurd fits
    long (Some i) o length_of.Whole fits = refl

    at : (d : ℕ) → is_some (option_and_then buffer_in (live past d)) ≡ true → d ≡ b → IsTrue (holds (live past b) is_buffer)
    at d h same = subst (λ (i : ℕ). IsTrue (holds (live past i) is_buffer)) same (has (live past d) (option_and_then buffer_in (live past d)) refl h)

    go : (y : Entry) → FitsEntry past y → touched_by y ≡ Some b → IsTrue (holds (live past b) is_buffer)
    go (entry.Write d o bytes) fits is = at d (ranged (option_and_then buffer_in (live past d)) o (length bytes) fits) cc
    go (entry.Read d o n) fits is = at d (ranged (option_and_then buffer_in (live past d)) o n fits) cc
    go (entry.Flush d o n) fits is = at d (long (option_and_then buffer_in (live past d)) o n fits) cc
    go (entry.Invalidate d o n) fits is = at d (long (option_and_then buffer_in (live past d)) o n fits) cc
    go _ fits is = absurd cc

-- nor as the host's cache gives an atom back
pub atom_bytes : (x : Entry) (k : ℕ) (past : Past) (s : Held) (ids : List ℕ) → Stands past s → FitsEntry past x → AreClean ids s → SparesBytes ids (is_given_back s x k)
atom_bytes x k past s ids stands fits all c given = let both = and_parts (in_atoms (touched_by x) (k ∷ []) c) (is_dirty_at s c) given in go (touched_by x) refl both.0 both.1
  where
    its : (b : ℕ) (c : Byte) → IsTrue (in_atoms (Some b) (k ∷ []) c) → resource_at c ≡ b
    its b (in_buffer d i) h = sym (eqb-true b d (and_parts (b == d) _ h).0)
    its b (in_image i l m x y p) h = absurd cc

    go : (o : Option ℕ) → touched_by x ≡ o → IsTrue (in_atoms o (k ∷ []) c) → IsTrue (is_dirty_at s c) → is_of_any ids c ≡ false
    go None is h dirty = absurd cc
    go (Some b) is h dirty = dirty_away s ids all c (ap (λ (i : ℕ). shape_of s i) (its b c h) ∙ buffer_plain past s stands b (touched_live past x b fits is)) dirty

-- nor by a piece that is offered
pub piece_bytes : (t : List Entry) (steps : List Step) (g : Stage) (x : Name) (s : Held) (p : Passing) → PiecesStayOffPasses → RunOf t steps g → first_fault t ≡ None → IsTrue (is_done (offered g.front.past g.done) x)
    → Stands g.front.past s → IsConsistent s → ArePassing p s.backed → MatchesPasses g.front.past p s.backed → SparesBytes p.moving (is_written (named_piece g.front.past x))
piece_bytes t steps g x s p law run none may stands consistent are m c wrote = go (write_to c (named_piece g.front.past x)) refl wrote
  where
    go : (o : Option ByteWrite) → write_to c (named_piece g.front.past x) ≡ o → IsTrue (is_some o) → is_of_any p.moving c ≡ false
    go None is h = absurd cc
    go (Some w) is h = not_moving g.front.past s p stands consistent are m c (law t steps g x c w run none may is)
