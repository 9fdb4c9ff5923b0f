-- A piece of a fill, and the region's bytes after it.
use Rattle.std.proofs.Common.{◌≡◌, ℕ, ◌+◌, ◌-◌, ◌*◌, ◌/◌, ◌%◌, ◌<◌, ◌≤◌, List, map, length, ap, sym, ◌∙◌, arith, subst, slice_index}
use Rattle.std.proofs.Math.Nat.{mul-add-mod_self_left}
use Rattle.std.specs.Prelude.{is_some}
use Rattle.std.specs.List.{range_with_len}
use Rattle.std.specs.Int.{to_le_bytes, w32}
use Rattle.vk_heap.specs.Region.{splice, repeated}
use Rattle.vk_heap.proofs.RegionLemmas.{length-repeated}
use Rattle.vk_model.specs.Basics.{byte_of}
use Rattle.vk_model.specs.World.Bytes.{Byte}
use Rattle.vk_model.specs.World.ByteWrites.{Source, Value, ByteWrite}
use Rattle.vk_model.specs.Run.Pieces.{cut}
use Rattle.vk_model.specs.Run.CachedRuns.{write_to}
use Rattle.vk_transfer.specs.declared.filling.Fill.{Fill}
use Rattle.vk_transfer.specs.Ran.{bytes_in, HaveRun}
use Rattle.vk_transfer.specs.Stretches.{is_byte_in}
use Rattle.vk_transfer.specs.Fills.{fill_writes, fill_piece, piece_size}
use Rattle.vk_transfer.proofs.Finding.{word_at}
use Rattle.vk_transfer.proofs.Ranges.{length-writes, write, writes, writes_stretch}
use Rattle.vk_transfer.proofs.Ranges.{piece_writes as nth_writes, piece_below as nth_below}
use Rattle.vk_transfer.proofs.Spliced.{one_ran}

module _ (b : ℕ) (f : Fill) where
  abbrev source : ℕ → Source
  source k = Value (byte_of f.word (k % 4))

  abbrev pub fill_write : ℕ → ByteWrite
  fill_write = write b f.offset source

  pub writes_size : length (fill_writes b f) ≡ f.size
  writes_size = length-writes b f.offset source f.size

  -- so many words from a whole number of them on
  module _ (region : List ℕ) (start lo words : ℕ) (whole : lo ≡ 4 * (lo / 4)) (room : start + f.offset + lo + 4 * words ≤ length region) where
    written : length (repeated words (to_le_bytes w32 f.word)) ≡ 4 * words
    written = let long = length-repeated words (to_le_bytes w32 f.word) in long ∙ omega arith

    value : (j : ℕ) → lo ≤ j → j < lo + 4 * words → slice_index (repeated words (to_le_bytes w32 f.word)) (j - lo) ≡ byte_of f.word (j % 4)
    value j low high =
        let parts : j ≡ 4 * (lo / 4) + (j - lo) = omega arith in
        let place : (j - lo) % 4 ≡ j % 4 = sym (ap (λ (k : ℕ). k % 4) parts ∙ mul-add-mod_self_left 4 (lo / 4) (j - lo)) in
        word_at words f.word (j - lo) (omega arith) ∙ ap (byte_of f.word) place

    words_ran : HaveRun (writes b f.offset source lo (4 * words)) (bytes_in region start b) (bytes_in (splice region (start + f.offset + lo) (repeated words (to_le_bytes w32 f.word))) start b)
    words_ran = one_ran region (repeated words (to_le_bytes w32 f.word)) start f.offset lo (4 * words) written room b source value

  -- the byte writes of a piece that is there
  pub piece_writes : (i : ℕ) → 4096 * i < f.size → fill_piece b f i ≡ map fill_write (range_with_len (4096 * i) (piece_size f i))
  piece_writes i here = nth_writes b f.offset source f.size i here

  -- they are of the bytes of a stretch
  pub fill_stretch : (i size start : ℕ) → 4096 * i < f.size → size ≡ piece_size f i → (c : Byte) → is_some (write_to c (fill_piece b f i)) ≡ is_byte_in (record { at = start + f.offset + 4096 * i; size = size }) b start c
  fill_stretch i size start here is c = rw (piece_writes i here, is) (writes_stretch b f.offset source (4096 * i) (piece_size f i) start c)

  -- a piece, by its number
  pub piece_ran : (region : List ℕ) (start i : ℕ) → f.size ≡ 4 * (f.size / 4) → start + f.offset + f.size ≤ length region → 4096 * i < f.size
      → HaveRun (fill_piece b f i) (bytes_in region start b) (bytes_in (splice region (start + f.offset + 4096 * i) (repeated (piece_size f i / 4) (to_le_bytes w32 f.word))) start b)
  piece_ran region start i whole room here =
      let words : 4 * (piece_size f i / 4) ≡ piece_size f i = omega arith in
      rw (piece_writes i here)
      (subst (λ (n : ℕ). HaveRun (writes b f.offset source (4096 * i) n) (bytes_in region start b) (bytes_in (splice region (start + f.offset + 4096 * i) (repeated (piece_size f i / 4) (to_le_bytes w32 f.word))) start b)) words
      (words_ran region start (4096 * i) (piece_size f i / 4) (omega arith) (omega arith)))

  -- the bytes of a piece that is there
  pub piece_below : (i : ℕ) → i < length (cut 4096 (fill_writes b f)) → 4096 * i < f.size
  piece_below i lt = nth_below (fill_writes b f) f.size i writes_size lt
