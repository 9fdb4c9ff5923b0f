-- What a command that fits asks of the buffers that are held.
use Rattle.std.proofs.Common.{◌≡◌, ◌+◌, ◌*◌, ◌/◌, ◌<◌, ◌≤◌, zero, suc, ℕ, List, [], ◌∷◌, length, Bool, true, false, refl, ap, sym, ◌∙◌, subst, arith, length-append, Option, Some, None}
use Rattle.std.specs.Prelude.{All, Contains, IsSome, IsTrue, is_some, option_and_then, slice_get, if◌then◌else◌}
use Rattle.vk_model.proofs.Lists.Members.{contains-head, contains-tail}
use Rattle.vk_model.specs.declared.command.Cmd.{Cmd}
use Rattle.vk_model.specs.declared.command.Cmd.TheVariants as cmd
use Rattle.vk_model.specs.declared.command.BufferCopy.{BufferCopy}
use Rattle.vk_model.specs.declared.command.Length.{Length}
use Rattle.vk_model.specs.declared.entry.Entry.{Entry}
use Rattle.vk_model.specs.declared.resource.BufferInfo.{BufferInfo}
use Rattle.vk_model.specs.Basics.{holds}
use Rattle.vk_model.specs.Trace.Point.{Past}
use Rattle.vk_model.specs.Trace.Objects.{made, ended, live, buffer, buffer_in}
use Rattle.vk_model.specs.World.ByteWrites.{ByteWrite, buffer_size, fill_size, copy_writes}
use Rattle.vk_model.specs.Rules.Ids.{is_buffer, asked_by_command}
use Rattle.vk_model.specs.Run.Pieces.{cut, pieces}
use Rattle.vk_transfer.specs.declared.filling.Fill.{Fill}
use Rattle.vk_transfer.specs.declared.updating.Update.{Update}
use Rattle.vk_transfer.specs.Copies.{FitsBuffers, copy_pieces, copy_piece}
use Rattle.vk_transfer.specs.Fills.{fill_writes, fill_piece}
use Rattle.vk_transfer.specs.Updates.{update_writes, update_piece}
use Rattle.vk_transfer.proofs.Ranges.{piece_counted, piece_below}
use Rattle.vk_transfer.proofs.FillPieces.{writes_size}
use Rattle.vk_transfer.proofs.UpdatePieces.{length_update}
use Rattle.vk_transfer.proofs.CopiedBytes.{length_copy}
use Rattle.vk_resources.specs.declared.resources.Placed.{Placed}
use Rattle.vk_resources.specs.declared.work.Regions.{Regions}
use Rattle.vk_resources.specs.declared.work.Regions.TheVariants.{OfBuffers}
use Rattle.vk_resources.specs.Held.{Held, flat}
use Rattle.vk_resources.specs.Matches.{MatchesLive}
use Rattle.vk_resources.specs.Fits.{FitsFill, FitsCommand, NamesLive}
use Rattle.vk_resources.specs.Inner.Steps.{fill_of, CopyReady, HasRun}
use Rattle.vk_resources.specs.Inner.Works.{AreCopied}
use Rattle.vk_resources.specs.Done.{PieceReady}
use Rattle.vk_resources.proofs.Matching.{live_of_flat, placed_of_live}

-- what is live was made
pub live_made : {A : Type 0} (kind : Entry → Option A) (past : Past) (i : ℕ) (x : A) → option_and_then kind (live past i) ≡ Some x → option_and_then kind (made past i) ≡ Some x
live_made {A} kind past i x is = go (ended past i) is
  where
    go : (t : Bool) → option_and_then kind (if t then None else made past i) ≡ Some x → option_and_then kind (made past i) ≡ Some x
    go true e = absurd cc
    go false e = e

module _ (past : Past) (s : Held) (m : MatchesLive past s) where
  -- a buffer that is held was made, of its size
  made_placed : (b : ℕ) (p : Placed) → flat s b ≡ Some p → (info : BufferInfo) × (buffer past b ≡ Some info) × (p.size ≡ info.size)
  made_placed b p here = let l = live_of_flat (live past) s b p m here in (l.0, live_made buffer_in past b l.0 l.1, l.2)

  pub same_size : (b : ℕ) (p : Placed) → flat s b ≡ Some p → buffer_size past b ≡ p.size
  same_size b p here = let l = made_placed b p here in rw (buffer_size, l.1) (sym l.2)

  -- and one that is named as live is held
  pub named_there : (b : ℕ) → IsTrue (holds (live past b) is_buffer) → IsSome (flat s b)
  named_there b h = go (live past b) refl h
    where
      by_info : (x : Option BufferInfo) → option_and_then buffer_in (live past b) ≡ x → IsTrue (is_some x) → IsSome (flat s b)
      by_info None is h = absurd cc
      by_info (Some info) is h = let p = placed_of_live (live past) s b info m is in rw p.1 refl

      go : (x : Option Entry) → live past b ≡ x → IsTrue (holds x is_buffer) → IsSome (flat s b)
      go None is h = absurd cc
      go (Some y) is h = by_info (buffer_in y) (ap (option_and_then buffer_in) is) h

  -- ---- a fill

  module _ (b o : ℕ) (n : Length) (w : ℕ) where
    pub fill_pieces : (p : Placed) → flat s b ≡ Some p → pieces past (cmd.Fill b o n w) ≡ cut 4096 (fill_writes b (fill_of o n w p))
    fill_pieces p here = ap (λ (z : ℕ). cut 4096 (fill_writes b (record { offset = o; size = fill_size z o n; word = w }))) (same_size b p here)

    pub fill_whole : (p : Placed) → flat s b ≡ Some p → FitsFill (buffer past b) o n → ((fill_of o n w p).size ≡ 4 * ((fill_of o n w p).size / 4)) × (o + (fill_of o n w p).size ≤ p.size)
    fill_whole p here fits =
        let l = made_placed b p here in
        let f = subst (λ (x : Option BufferInfo). FitsFill x o n) l.1 fits in
        (subst (λ (z : ℕ). fill_size z o n ≡ 4 * (fill_size z o n / 4)) (sym l.2) f.2, subst (λ (z : ℕ). o + fill_size z o n ≤ z) (sym l.2) f.1)

    pub fill_below : (p : Placed) (k : ℕ) → flat s b ≡ Some p → k < length (pieces past (cmd.Fill b o n w)) → 4096 * k < (fill_of o n w p).size
    fill_below p k here lt = piece_below (fill_writes b (fill_of o n w p)) (fill_of o n w p).size k (writes_size b (fill_of o n w p)) (subst (λ (ps : List (List ByteWrite)). k < length ps) (fill_pieces p here) lt)

    pub fill_named : (p : Placed) (k : ℕ) (ms : List ByteWrite) → flat s b ≡ Some p → slice_get (pieces past (cmd.Fill b o n w)) k ≡ Some ms → fill_piece b (fill_of o n w p) k ≡ ms
    fill_named p k ms here is = let there : slice_get (cut 4096 (fill_writes b (fill_of o n w p))) k ≡ Some ms = sym (ap (λ (ps : List (List ByteWrite)). slice_get ps k) (fill_pieces p here)) ∙ is in rw (fill_piece, there) refl

-- ---- how many pieces there are

module _ (past : Past) (s : Held) (m : MatchesLive past s) (y : Cmd) where
  pub fill_counted : (b o w : ℕ) (n : Length) (p : Placed) (count : ℕ) → y ≡ cmd.Fill b o n w → flat s b ≡ Some p → count ≡ length (cut 4096 (fill_writes b (fill_of o n w p))) → count ≡ length (pieces past y)
  fill_counted b o w n p count is here counted = counted ∙ sym (ap length (fill_pieces past s m b o n w p here)) ∙ ap (λ (c : Cmd). length (pieces past c)) (sym is)

  -- a fill of what isn't held has none
  pub fill_none : (b o w : ℕ) (n : Length) → y ≡ cmd.Fill b o n w → flat s b ≡ None → (0 < length (pieces past y) → NamesLive past y) → 0 ≡ length (pieces past y)
  fill_none b o w n is none alive = go (length (pieces past y)) alive
    where
      go : (count : ℕ) → (0 < count → NamesLive past y) → 0 ≡ count
      go zero alive = refl
      go (suc count) alive =
          let named = subst (λ (c : Cmd). NamesLive past c) is (alive (omega arith)) b is_buffer (contains-head (b, is_buffer) []) in
          let there : IsSome (flat s b) = named_there past s m b named in
          let no : IsSome {T = Placed} None = subst (λ (x : Option Placed). IsSome x) none there in
          absurd cc

-- ---- an update and a copy

-- the pieces of an update with these bytes
update_same : (past : Past) (b o : ℕ) (bytes : List ℕ) (u : Update) → u.offset ≡ o → u.bytes.now ≡ bytes → cut 4096 (update_writes b u) ≡ pieces past (cmd.Update b o bytes)
update_same past b o bytes u at same = rw (at, same) refl

pub update_counted : (past : Past) (y : Cmd) (b o : ℕ) (bytes : List ℕ) (u : Update) (count : ℕ) → y ≡ cmd.Update b o bytes → u.offset ≡ o → u.bytes.now ≡ bytes → ((d : ℕ) → count ≡ length (cut 4096 (update_writes d u))) → count ≡ length (pieces past y)
update_counted past y b o bytes u count is at same counted = counted b ∙ ap length (update_same past b o bytes u at same) ∙ ap (λ (c : Cmd). length (pieces past c)) (sym is)

module _ (past : Past) (s : Held) (m : MatchesLive past s) (b o : ℕ) (bytes : List ℕ) (u : Update) (at : u.offset ≡ o) (same : u.bytes.now ≡ bytes) where
  pub update_inside : (p : Placed) → flat s b ≡ Some p → FitsCommand past (cmd.Update b o bytes) → u.offset + length u.bytes.now ≤ p.size
  update_inside p here fits = rw (at, same) (subst (λ (z : ℕ). o + length bytes ≤ z) (same_size past s m b p here) fits)

  pub update_below : (k : ℕ) → k < length (pieces past (cmd.Update b o bytes)) → 4096 * k < length u.bytes.now
  update_below k lt = piece_below (update_writes b u) (length u.bytes.now) k (length_update b u) (subst (λ (ps : List (List ByteWrite)). k < length ps) (sym (update_same past b o bytes u at same)) lt)

  pub update_named : (k : ℕ) (ms : List ByteWrite) → slice_get (pieces past (cmd.Update b o bytes)) k ≡ Some ms → update_piece b u k ≡ ms
  update_named k ms is = let there : slice_get (cut 4096 (update_writes b u)) k ≡ Some ms = ap (λ (ps : List (List ByteWrite)). slice_get ps k) (update_same past b o bytes u at same) ∙ is in rw (update_piece, there) refl

-- how many pieces a copy has doesn't depend on its buffers
pub copies_long : (gs : List BufferCopy) (s d : ℕ) → length (copy_pieces s d gs) ≡ length (copy_pieces 0 0 gs)
copies_long [] s d = refl
copies_long (g ∷ gs) s d =
    length-append (cut 4096 (copy_writes s d g)) (copy_pieces s d gs) ∙ ap (λ (n : ℕ). n + length (copy_pieces s d gs)) (one s d g) ∙ ap (λ (n : ℕ). length (cut 4096 (copy_writes 0 0 g)) + n) (copies_long gs s d)
    ∙ sym (length-append (cut 4096 (copy_writes 0 0 g)) (copy_pieces 0 0 gs))
  where
    one : (s d : ℕ) (g : BufferCopy) → length (cut 4096 (copy_writes s d g)) ≡ length (cut 4096 (copy_writes 0 0 g))
    one s d g = piece_counted (copy_writes s d g) g.size (length_copy s d g) ∙ sym (piece_counted (copy_writes 0 0 g) g.size (length_copy 0 0 g))

module _ (past : Past) (s : Held) (m : MatchesLive past s) (a b : ℕ) (gs : List BufferCopy) where
  pub copy_ready : (p q : Placed) (k : ℕ) → flat s a ≡ Some p → flat s b ≡ Some q → FitsCommand past (cmd.Copy a b gs) → k < length (pieces past (cmd.Copy a b gs)) → CopyReady p q gs k
  copy_ready p q k from to fits lt = (
    subst (λ (n : ℕ). k < n) (copies_long gs a b) lt,
    subst (λ (z : ℕ). All (λ g. FitsBuffers g p.size z) gs) (same_size past s m b q to) (subst (λ (z : ℕ). All (λ g. FitsBuffers g z (buffer_size past b)) gs) (same_size past s m a p from) fits),
  )

pub copy_named : (a b : ℕ) (gs : List BufferCopy) (past : Past) (k : ℕ) (ms : List ByteWrite) → slice_get (pieces past (cmd.Copy a b gs)) k ≡ Some ms → copy_piece a b gs k ≡ ms
copy_named a b gs past k ms is = rw (copy_piece, is) refl

-- ---- a command that has such a piece

module _ (s : Held) (y : Cmd) (k : ℕ) (ready : PieceReady s y k) where
  -- what it names is held
  there : (c : Cmd) (b : ℕ) → y ≡ c → Contains (asked_by_command c) (b, is_buffer) → IsSome (flat s b)
  there c b is named = named_there ready.past s ready.matches.live b (subst (λ (c : Cmd). NamesLive ready.past c) is ready.alive b is_buffer named)

  module _ (b o w : ℕ) (n : Length) (is : y ≡ cmd.Fill b o n w) where
    pub fill_there : IsSome (flat s b)
    fill_there = there (cmd.Fill b o n w) b is (contains-head (b, is_buffer) [])

    module _ (p : Placed) (here : flat s b ≡ Some p) (f : Fill) (of : f ≡ fill_of o n w p) where
      pub fill_may : (f.size ≡ 4 * (f.size / 4)) × (f.offset + f.size ≤ p.size) × (4096 * k < f.size)
      fill_may =
          let whole = fill_whole ready.past s ready.matches.live b o n w p here (subst (λ (c : Cmd). FitsCommand ready.past c) is ready.fits) in
          rw of (whole.0, whole.1, fill_below ready.past s ready.matches.live b o n w p k here (subst (λ (c : Cmd). k < length (pieces ready.past c)) is ready.below))

      pub fill_is : (past : Past) (ms : List ByteWrite) → MatchesLive past s → slice_get (pieces past y) k ≡ Some ms → fill_piece b f k ≡ ms
      fill_is past ms m at = ap (λ (g : Fill). fill_piece b g k) of ∙ fill_named past s m b o n w p k ms here (sym (ap (λ (c : Cmd). slice_get (pieces past c) k) is) ∙ at)

      pub fill_made : (new : Held) → HasRun s new (fill_piece b f k) → (past : Past) (ms : List ByteWrite) → MatchesLive past s → slice_get (pieces past y) k ≡ Some ms → HasRun s new ms
      fill_made new ran past ms m at = subst (λ (xs : List ByteWrite). HasRun s new xs) (fill_is past ms m at) ran

  module _ (b o : ℕ) (bytes : List ℕ) (is : y ≡ cmd.Update b o bytes) where
    pub update_there : IsSome (flat s b)
    update_there = there (cmd.Update b o bytes) b is (contains-head (b, is_buffer) [])

    module _ (p : Placed) (here : flat s b ≡ Some p) (u : Update) (at : u.offset ≡ o) (same : u.bytes.now ≡ bytes) where
      pub update_may : (u.offset + length u.bytes.now ≤ p.size) × (4096 * k < length u.bytes.now)
      update_may = (
        update_inside ready.past s ready.matches.live b o bytes u at same p here (subst (λ (c : Cmd). FitsCommand ready.past c) is ready.fits),
        update_below ready.past s ready.matches.live b o bytes u at same k (subst (λ (c : Cmd). k < length (pieces ready.past c)) is ready.below),
      )

      pub update_is : (past : Past) (ms : List ByteWrite) → MatchesLive past s → slice_get (pieces past y) k ≡ Some ms → update_piece b u k ≡ ms
      update_is past ms m there = update_named past s m b o bytes u at same k ms (sym (ap (λ (c : Cmd). slice_get (pieces past c) k) is) ∙ there)

      pub update_made : (new : Held) → HasRun s new (update_piece b u k) → (past : Past) (ms : List ByteWrite) → MatchesLive past s → slice_get (pieces past y) k ≡ Some ms → HasRun s new ms
      update_made new ran past ms m there = subst (λ (xs : List ByteWrite). HasRun s new xs) (update_is past ms m there) ran

  module _ (a b : ℕ) (gs : List BufferCopy) (is : y ≡ cmd.Copy a b gs) where
    pub source_there : IsSome (flat s a)
    source_there = there (cmd.Copy a b gs) a is (contains-head (a, is_buffer) ((b, is_buffer) ∷ []))

    pub destination_there : IsSome (flat s b)
    destination_there = there (cmd.Copy a b gs) b is (contains-tail (a, is_buffer) ((b, is_buffer) ∷ []) (b, is_buffer) (contains-head (b, is_buffer) []))

    pub copy_may : (p q : Placed) → flat s a ≡ Some p → flat s b ≡ Some q → (regions : List BufferCopy) → regions ≡ gs → CopyReady p q regions k
    copy_may p q from to regions same =
        subst (λ (rs : List BufferCopy). CopyReady p q rs k) (sym same)
        (copy_ready ready.past s ready.matches.live a b gs p q k from to (subst (λ (c : Cmd). FitsCommand ready.past c) is ready.fits) (subst (λ (c : Cmd). k < length (pieces ready.past c)) is ready.below))

    pub copy_is : (regions : List BufferCopy) → regions ≡ gs → (past : Past) (ms : List ByteWrite) → slice_get (pieces past y) k ≡ Some ms → copy_piece a b regions k ≡ ms
    copy_is regions same past ms there = ap (λ (rs : List BufferCopy). copy_piece a b rs k) same ∙ copy_named a b gs past k ms (sym (ap (λ (c : Cmd). slice_get (pieces past c) k) is) ∙ there)

    pub copy_made : (new : Held) (regions : List BufferCopy) → regions ≡ gs → HasRun s new (copy_piece a b regions k) → (past : Past) (ms : List ByteWrite) → slice_get (pieces past y) k ≡ Some ms → HasRun s new ms
    copy_made new regions same ran past ms there = subst (λ (xs : List ByteWrite). HasRun s new xs) (copy_is regions same past ms there) ran

-- the regions of a copy are those that it was made ready with
pub regions_of : (y : Cmd) (o : Regions) (a b : ℕ) (gs regions : List BufferCopy) → AreCopied y o → y ≡ cmd.Copy a b gs → o ≡ OfBuffers regions → regions ≡ gs
regions_of y o a b gs regions copied is at = subst (λ (x : Regions). AreCopied (cmd.Copy a b gs) x) at (subst (λ (c : Cmd). AreCopied c o) is copied)
