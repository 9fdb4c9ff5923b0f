-- A piece of a command, on the bytes of all resources.
use Rattle.std.proofs.Common.{◌≡◌, ℕ, ◌+◌, ◌-◌, ◌*◌, ◌/◌, ◌%◌, ◌<◌, ◌≤◌, List, length, refl, ap, sym, ◌∙◌, subst, arith, slice_index, Some, None}
use Rattle.std.proofs.Math.Nat.{mul-add-mod_self_left}
use Rattle.std.proofs.lemmas.List.Elements.{All-contains}
use Rattle.std.specs.Prelude.{All, Contains}
use Rattle.std.specs.Int.{to_le_bytes, w32}
use Rattle.vk_transfer.specs.Copies.{FitsBuffers, region_piece_size}
use Rattle.vk_heap.specs.Region.{splice, repeated, piece}
use Rattle.vk_heap.proofs.RegionLemmas.{length-repeated}
use Rattle.vk_heap.proofs.SpliceLemmas.{length-piece, get_or-piece}
use Rattle.vk_memory.specs.MemoryState.{MemoryState, region_of, with_region}
use Rattle.vk_model.specs.Basics.{byte_of}
use Rattle.vk_model.specs.declared.command.BufferCopy.{BufferCopy}
use Rattle.vk_model.specs.World.Bytes.{in_buffer}
use Rattle.vk_model.specs.World.ByteWrites.{Source, Value, From, ByteWrite, copy_writes}
use Rattle.vk_transfer.specs.declared.filling.Fill.{Fill}
use Rattle.vk_transfer.specs.declared.updating.Update.{Update}
use Rattle.vk_transfer.specs.Fills.{fill_piece, piece_size}
use Rattle.vk_transfer.specs.Updates.{update_piece, update_piece_size}
use Rattle.vk_transfer.specs.Ran.{given, HaveRun}
use Rattle.vk_transfer.proofs.Finding.{word_at}
use Rattle.vk_transfer.proofs.FillPieces.{piece_writes}
use Rattle.vk_transfer.proofs.UpdatePieces.{update_piece_writes}
use Rattle.vk_transfer.proofs.Ranges.{writes}
use Rattle.vk_resources.specs.declared.resources.Placed.{Placed}
use Rattle.vk_resources.specs.Held.{Held, IsConsistent, IsInside, placed, shape_of, flat, byte_at}
use Rattle.vk_resources.specs.Inner.Steps.{KeepsPlaces, is_of, HasRun}
use Rattle.vk_resources.proofs.Placing.{inside_of}
use Rattle.vk_resources.proofs.Keeping.{ran_rest}
use Rattle.vk_resources.proofs.CachedBytes.{byte_of as held_byte}
use Rattle.vk_resources.proofs.Matching.{flat_parts}
use Rattle.vk_resources.proofs.Splicing.{spliced_apart, spliced_caching, spliced_keeps, spliced_rest, spliced_ran}

-- the memory of what is held, with other bytes in an object
abbrev pub with_bytes : Held → ℕ → List ℕ → Held
with_bytes s object bytes = record s { memory = with_region s.memory object bytes }

module _ (s : Held) (consistent : IsConsistent s) where
  -- bytes that were written have run, and what is held is consistent as before
  abbrev pub Runs : ℕ → List ℕ → List ByteWrite → Type 0
  Runs object new ms = IsConsistent (with_bytes s object new) × HasRun s (with_bytes s object new) ms

  module _ (b : ℕ) (p : Placed) (flat_at : flat s b ≡ Some p) where
    flat_is : shape_of s b ≡ None
    flat_is = (flat_parts (shape_of s b) (placed s b) p flat_at).0

    here : placed s b ≡ Some p
    here = (flat_parts (shape_of s b) (placed s b) p flat_at).1

    put_at : (at : ℕ) (bytes : List ℕ) (offset lo : ℕ) (source : ℕ → Source) → at + length bytes ≤ p.size → at ≡ offset + lo → ((j : ℕ) → lo ≤ j → j < lo + length bytes → slice_index bytes (j - lo) ≡ given (source j) (byte_at s))
        → Runs p.object (splice (region_of s.memory p.object) (p.offset + at) bytes) (writes b offset source lo (length bytes))
    put_at at bytes offset lo source fits place values =
        let object : Held = with_bytes s p.object (splice (region_of s.memory p.object) (p.offset + at) bytes) in
        let keeps : KeepsPlaces s object = spliced_keeps s consistent.0 consistent.2 b p here flat_is at bytes fits in
        let ran : HaveRun (writes b offset source lo (length bytes)) (byte_at s) (byte_at object) = spliced_ran s consistent.0 consistent.2 b p here flat_is at bytes fits offset lo source place values in (
          (spliced_apart s consistent.0 consistent.2 b p here flat_is at bytes fits, spliced_caching s consistent.0 consistent.2 b p here flat_is at bytes fits consistent.1, consistent.2),
          (keeps, ran, refl, ran_rest s object (is_of b) (writes b offset source lo (length bytes)) keeps (spliced_rest s consistent.0 consistent.2 b p here flat_is at bytes fits) ran),
        )

    put : (offset lo n : ℕ) (source : ℕ → Source) (bytes new : List ℕ) → length bytes ≡ n → offset + lo + n ≤ p.size → new ≡ splice (region_of s.memory p.object) (p.offset + offset + lo) bytes
        → ((j : ℕ) → lo ≤ j → j < lo + n → slice_index bytes (j - lo) ≡ given (source j) (byte_at s)) → Runs p.object new (writes b offset source lo n)
    put offset lo n source bytes new long fits is values =
        let place : p.offset + offset + lo ≡ p.offset + (offset + lo) = omega arith in
        subst (λ (r : List ℕ). Runs p.object r (writes b offset source lo n)) (sym (is ∙ ap (λ (k : ℕ). splice (region_of s.memory p.object) k bytes) place))
        (subst (λ (m : ℕ). Runs p.object (splice (region_of s.memory p.object) (p.offset + (offset + lo)) bytes) (writes b offset source lo m)) long
        (put_at (offset + lo) bytes offset lo source (omega (arith, long, fits)) refl (λ j low high. values j low (omega (arith, high, long)))))

    -- ---- a fill and an update

    pub fill_ran : (f : Fill) (i : ℕ) (new : List ℕ) → f.size ≡ 4 * (f.size / 4) → f.offset + f.size ≤ p.size → 4096 * i < f.size
        → new ≡ splice (region_of s.memory p.object) (p.offset + f.offset + 4096 * i) (repeated (piece_size f i / 4) (to_le_bytes w32 f.word)) → Runs p.object new (fill_piece b f i)
    fill_ran f i new whole inside below is =
        subst (λ (ms : List ByteWrite). Runs p.object new ms) (sym (piece_writes b f i below))
        (put f.offset (4096 * i) (piece_size f i) source bytes new long (omega (arith, inside, below)) is value)
      where
        source : ℕ → Source
        source k = Value (byte_of f.word (k % 4))

        bytes : List ℕ
        bytes = repeated (piece_size f i / 4) (to_le_bytes w32 f.word)

        long : length bytes ≡ piece_size f i
        long = let words = length-repeated (piece_size f i / 4) (to_le_bytes w32 f.word) in words ∙ omega (arith, whole, below)

        value : (j : ℕ) → 4096 * i ≤ j → j < 4096 * i + piece_size f i → slice_index bytes (j - 4096 * i) ≡ byte_of f.word (j % 4)
        value j low high =
            let words : 4 * (piece_size f i / 4) ≡ piece_size f i = omega (arith, whole, below) in
            let parts : j ≡ 4 * (1024 * i) + (j - 4096 * i) = omega (arith, low) in
            let place : (j - 4096 * i) % 4 ≡ j % 4 = sym (ap (λ (k : ℕ). k % 4) parts ∙ mul-add-mod_self_left 4 (1024 * i) (j - 4096 * i)) in
            word_at (piece_size f i / 4) f.word (j - 4096 * i) (omega (arith, words, low, high)) ∙ ap (byte_of f.word) place

    pub update_ran : (u : Update) (i : ℕ) (new : List ℕ) → u.offset + length u.bytes.now ≤ p.size → 4096 * i < length u.bytes.now
        → new ≡ splice (region_of s.memory p.object) (p.offset + u.offset + 4096 * i) (piece u.bytes.now (4096 * i) (update_piece_size u i)) → Runs p.object new (update_piece b u i)
    update_ran u i new inside below is =
        subst (λ (ms : List ByteWrite). Runs p.object new ms) (sym (update_piece_writes b u i below))
        (put u.offset (4096 * i) (update_piece_size u i) (λ k. Value (slice_index u.bytes.now k)) (piece u.bytes.now (4096 * i) (update_piece_size u i)) new
        (length-piece u.bytes.now (4096 * i) (update_piece_size u i) (omega (arith, below))) (omega (arith, inside, below)) is (λ j low high. get_or-piece u.bytes.now (4096 * i) (update_piece_size u i) j low high))

    -- ---- a copy from a buffer that lies anywhere

    pub copy_ran : (a : ℕ) (q : Placed) (g : BufferCopy) (new : List ℕ) → flat s a ≡ Some q → g.source_offset + g.size ≤ q.size → g.destination_offset + g.size ≤ p.size
        → new ≡ splice (region_of s.memory p.object) (p.offset + g.destination_offset) (piece (region_of s.memory q.object) (q.offset + g.source_offset) g.size) → Runs p.object new (copy_writes a b g)
    copy_ran a q g new flat_there from to is =
        put g.destination_offset 0 g.size (λ k. From (in_buffer a (g.source_offset + k))) bytes new long (omega (arith, to)) (is ∙ ap (λ (k : ℕ). splice (region_of s.memory p.object) k bytes) place) value
      where
        there : placed s a ≡ Some q
        there = (flat_parts (shape_of s a) (placed s a) q flat_there).1

        bytes : List ℕ
        bytes = piece (region_of s.memory q.object) (q.offset + g.source_offset) g.size

        inside : IsInside s.memory q
        inside = inside_of s.memory s.backed s.resources consistent.0 a q there

        place : p.offset + g.destination_offset ≡ p.offset + g.destination_offset + 0
        place = omega arith

        long : length bytes ≡ g.size
        long = let room = inside.room in length-piece (region_of s.memory q.object) (q.offset + g.source_offset) g.size (omega (arith, from, room))

        value : (j : ℕ) → 0 ≤ j → j < 0 + g.size → slice_index bytes (j - 0) ≡ byte_at s (in_buffer a (g.source_offset + j))
        value j low high =
            let at : j - 0 ≡ q.offset + (g.source_offset + j) - (q.offset + g.source_offset) = omega arith in
            ap (λ (k : ℕ). slice_index bytes k) at ∙ get_or-piece (region_of s.memory q.object) (q.offset + g.source_offset) g.size (q.offset + (g.source_offset + j)) (omega arith) (omega (arith, high))
            ∙ sym (held_byte s a q there (flat_parts (shape_of s a) (placed s a) q flat_there).0 (g.source_offset + j) (omega (arith, from, high)))

    pub copy_piece_ran : (a : ℕ) (q : Placed) (g : BufferCopy) (ms : List ByteWrite) (memory : MemoryState) → flat s a ≡ Some q → (g.source_offset + g.size ≤ q.size) × (g.destination_offset + g.size ≤ p.size) → ms ≡ copy_writes a b g
        → memory ≡ with_region s.memory p.object (splice (region_of s.memory p.object) (p.offset + g.destination_offset) (piece (region_of s.memory q.object) (q.offset + g.source_offset) g.size))
        → IsConsistent (record s { memory = memory }) × HasRun s (record s { memory = memory }) ms
    copy_piece_ran a q g ms memory there fits same is =
        let new = splice (region_of s.memory p.object) (p.offset + g.destination_offset) (piece (region_of s.memory q.object) (q.offset + g.source_offset) g.size) in
        let ran : Runs p.object new ms = subst (λ (xs : List ByteWrite). Runs p.object new xs) (sym same) (copy_ran a q g new there fits.0 fits.1 refl) in
        subst (λ (m : MemoryState). IsConsistent (record s { memory = m }) × HasRun s (record s { memory = m }) ms) (sym is) ran

-- a piece of a region lies in both buffers
pub piece_fits : (p q : Placed) (gs : List BufferCopy) (g : BufferCopy) (k : ℕ) (part : BufferCopy) → All (λ g. FitsBuffers g p.size q.size) gs → Contains gs g → 4096 * k < g.size
    → part.source_offset ≡ g.source_offset + 4096 * k → part.destination_offset ≡ g.destination_offset + 4096 * k → part.size ≡ region_piece_size g k
    → (part.source_offset + part.size ≤ p.size) × (part.destination_offset + part.size ≤ q.size)
piece_fits p q gs g k part all among below from to size =
    let fits : FitsBuffers g p.size q.size = All-contains (λ g. FitsBuffers g p.size q.size) gs g all among in
    let first = fits.0 in
    let second = fits.1 in
    (omega (arith, first, below, from, size), omega (arith, second, below, to, size))
