-- The pieces of a clear, and the bytes of the image after one.
use Rattle.std.proofs.Common.{◌≡◌, ℕ, ◌+◌, ◌*◌, ◌/◌, ◌%◌, ◌<◌, ◌≤◌, List, [], ◌∷◌, ◌++◌, map, length, false, eqb, eq-eqb, refl, ap, sym, subst, ◌∙◌, arith, zero-add, slice_index, Option, Some, None}
use Rattle.std.specs.List.{flat_map}
use Rattle.std.proofs.lemmas.List.{map-append}
use Rattle.vk_model.specs.declared.command.SubresourceRange.{SubresourceRange}
use Rattle.vk_model.specs.declared.resource.ImageInfo.{ImageInfo}
use Rattle.vk_model.specs.Basics.{below, grid}
use Rattle.vk_model.specs.Trace.Image.{texel, level_width, level_height}
use Rattle.vk_model.specs.Rules.Sizes.{bad_image}
use Rattle.vk_model.specs.Memory.PlaceLaws.{TexelsApart}
use Rattle.vk_model.specs.World.Bytes.{Byte, in_image, resource_at}
use Rattle.vk_model.specs.World.ByteWrites.{ByteWrite, Value, clear_write, color_byte}
use Rattle.vk_model.specs.Run.Pieces.{cut, level_pieces}
use Rattle.vk_transfer.specs.Ran.{HaveRun}
use Rattle.vk_image_transfer.specs.Held.{Held, image_at, one_held, byte_held, bytes_held}
use Rattle.vk_image_transfer.specs.Pieces.{piece_in}
use Rattle.vk_image_transfer.specs.Rows.{AreWritten, image_row}
use Rattle.vk_image_transfer.proofs.Grids.{grid_piece, grid_count}
use Rattle.vk_image_transfer.proofs.Running.{row_writes}
use Rattle.vk_image_transfer.proofs.ImageRows.{RowThere, image_ran}
use Rattle.std.proofs.Math.Nat.{mul-pos}
use Rattle.vk_model.proofs.World.BytePlaces.{texel_some}

-- ---- what a function makes of a grid

mapped_flat : {A B C : Type 0} (h : B → C) (f : A → List B) (g : A → List C) (xs : List A) → ((x : A) → map h (f x) ≡ g x) → map h (flat_map f xs) ≡ flat_map g xs
mapped_flat h f g [] same = refl
mapped_flat {A} {B} {C} h f g (x ∷ xs) same = map-append h (f x) (flat_map f xs) ∙ ap (λ (l : List C). l ++ map h (flat_map f xs)) (same x) ∙ ap (λ (l : List C). g x ++ l) (mapped_flat h f g xs same)

mapped_twice : {A B C : Type 0} (h : B → C) (f : A → B) (xs : List A) → map h (map f xs) ≡ map (λ x. h (f x)) xs
mapped_twice h f [] = refl
mapped_twice {A} {B} {C} h f (x ∷ xs) = ap (λ (l : List C). h (f x) ∷ l) (mapped_twice h f xs)

mapped_grid : {B C : Type 0} (h : B → C) (a b c d : ℕ) (f : ℕ → ℕ → ℕ → ℕ → B) → map h (grid a b c d f) ≡ grid a b c d (λ i j k l. h (f i j k l))
mapped_grid h a b c d f = mapped_flat h _ _ (below a) (λ i. mapped_flat h _ _ (below b) (λ j. mapped_flat h _ _ (below c) (λ k. mapped_twice h (λ l. f i j k l) (below d))))

-- ---- pieces

-- a piece, if there is one
abbrev pub or_none : Option (List ByteWrite) → List ByteWrite
or_none None = []
or_none (Some ms) = ms

module _ (i : ℕ) (color : List ℕ) (m : ImageInfo) (r : SubresourceRange) (level : ℕ) where
  abbrev write : ℕ → ℕ → ℕ → ℕ → ByteWrite
  write z y x p = clear_write m color (in_image i level (r.first_layer + z) x y p, p)

  some_bytes : 0 < level_width m level * texel m.format
  some_bytes = mul-pos {m = level_width m level} (omega arith) (texel_some m.format)

  as_grid : level_pieces i color m r level ≡ cut (level_width m level * texel m.format) (grid r.layers (level_height m level) (level_width m level) (texel m.format) write)
  as_grid = ap (λ (l : List ByteWrite). cut (level_width m level * texel m.format) l) (mapped_grid (clear_write m color) r.layers (level_height m level) (level_width m level) (texel m.format) (λ z y x b. (in_image i level (r.first_layer + z) x y b, b)))

  pub clear_count : length (level_pieces i color m r level) ≡ r.layers * level_height m level
  clear_count = ap (λ (l : List (List ByteWrite)). length l) as_grid ∙ grid_count r.layers (level_height m level) (level_width m level) (texel m.format) write some_bytes

  module _ (number : ℕ) (here : number < r.layers * level_height m level) where
    abbrev layer : ℕ
    layer = r.first_layer + number / level_height m level

    abbrev row : ℕ
    row = number % level_height m level

    pub clear_is : piece_in (level_pieces i color m r level) number ≡ row_writes (level_width m level) (texel m.format) (λ x p. in_image i level layer x row p) (λ x p. Value (color_byte m color p))
    clear_is = ap (λ (l : List (List ByteWrite)). piece_in l number) as_grid
        ∙ ap (λ (o : Option (List ByteWrite)). or_none o) (grid_piece r.layers (level_height m level) (level_width m level) (texel m.format) write number some_bytes here)

    -- of any resources that hold the image
    pub clear_held : TexelsApart → bad_image m ≡ false → (start : ℕ) (old new : List ℕ) → RowThere m level layer 0 row (level_width m level)
        → (held after : ℕ → Option Held) → held i ≡ Some (image_at old start m) → after i ≡ Some (image_at new start m) → ((c : Byte) → eqb i (resource_at c) ≡ false → byte_held (after (resource_at c)) c ≡ byte_held (held (resource_at c)) c)
        → AreWritten old new (level_width m level) (texel m.format) (image_row m start level layer 0 row) (λ x p. color_byte m color p)
        → HaveRun (piece_in (level_pieces i color m r level) number) (bytes_held held) (bytes_held after)
    clear_held law good start old new there held after old_is new_is beside written =
        rw clear_is
        (image_ran m good start level layer 0 row (level_width m level) there law (texel_some m.format) i old new held after old_is new_is beside
        (λ x p. in_image i level layer x row p) (λ x p. ap (λ (u : ℕ). in_image i level layer u row p) (sym (zero-add x))) (λ x p. Value (color_byte m color p)) (λ x p. color_byte m color p) written (λ x p lt low. refl))

    pub clear_ran : TexelsApart → bad_image m ≡ false → (start : ℕ) (old new : List ℕ) → RowThere m level layer 0 row (level_width m level)
        → AreWritten old new (level_width m level) (texel m.format) (image_row m start level layer 0 row) (λ x p. color_byte m color p)
        → HaveRun (piece_in (level_pieces i color m r level) number) (bytes_held (one_held i (image_at old start m))) (bytes_held (one_held i (image_at new start m)))
    clear_ran law good start old new there written =
        clear_held law good start old new there (one_held i (image_at old start m)) (one_held i (image_at new start m)) (only old) (only new) (λ c ne. rw ne refl) written
      where
        only : (xs : List ℕ) → one_held i (image_at xs start m) i ≡ Some (image_at xs start m)
        only xs = rw (eq-eqb i i refl) refl

-- ---- the bytes of a color

module _ (m m' : ImageInfo) (color xs : List ℕ) (t : ℕ) (same : m ≡ m') (bytes : t ≡ texel m.format) (few : t ≤ 64)
    (are : (x p : ℕ) → p < texel m.format → x * texel m.format + p < 64 → slice_index xs (x * texel m.format + p) ≡ color_byte m color p) where
  all_are : (x p : ℕ) → p < t → x * t + p < 64 → slice_index xs (x * t + p) ≡ color_byte m color p
  all_are x p low lt = subst (λ (n : ℕ). (x p : ℕ) → p < n → x * n + p < 64 → slice_index xs (x * n + p) ≡ color_byte m color p) (sym bytes) are x p low lt

  first_is : (p : ℕ) → p < t → slice_index xs p ≡ color_byte m color p
  first_is p low = let none : p ≡ 0 * t + p = omega arith in ap (λ (k : ℕ). slice_index xs k) none ∙ all_are 0 p low (omega (arith, none))

  pub colors_repeat : (x p : ℕ) → p < t → x * t + p < 64 → slice_index xs (x * t + p) ≡ slice_index xs p
  colors_repeat x p low lt = all_are x p low lt ∙ sym (first_is p low)

  pub colored : (x p : ℕ) → p < texel m'.format → slice_index xs p ≡ color_byte m' color p
  colored x p low = first_is p (omega (arith, low, bytes, ap (λ (i : ImageInfo). texel i.format) same)) ∙ ap (λ (i : ImageInfo). color_byte i color p) same
