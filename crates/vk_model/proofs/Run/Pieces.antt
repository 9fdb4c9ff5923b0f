-- The pieces of a command, put together.
use Rattle.std.proofs.Common.{◌≡◌, ℕ, zero, suc, ◌+◌, ◌*◌, ◌<◌, ◌≤◌, max, ◌/◌, ◌^◌, List, [], ◌∷◌, ◌++◌, map, length, take, drop, refl, ap, sym, ◌∙◌, arith, inl, inr, ◌⊎◌, Option, Some, None}
use Rattle.std.specs.List.{flat_map}
use Rattle.std.proofs.lemmas.List.{take-append-drop, length-drop}
use Rattle.std.proofs.lemmas.Grind.{flat_map-append}
use Rattle.vk_model.specs.declared.command.Cmd.{Cmd}
use Rattle.vk_model.specs.declared.command.Cmd.TheVariants as cmd
use Rattle.vk_model.specs.declared.command.BufferImageCopy.{BufferImageCopy}
use Rattle.vk_model.specs.declared.command.ImageCopy.{ImageCopy}
use Rattle.vk_model.specs.declared.command.SubresourceRange.{SubresourceRange}
use Rattle.vk_model.specs.declared.resource.ImageInfo.{ImageInfo}
use Rattle.vk_model.specs.declared.layout.Format.TheVariants as format
use Rattle.vk_model.specs.Basics.{below, grid}
use Rattle.vk_model.specs.Trace.Image.{texel, level_width}
use Rattle.vk_model.specs.Trace.Point.{Past}
use Rattle.vk_model.specs.Trace.Objects.{image}
use Rattle.vk_model.specs.World.ByteWrites.{ByteWrite, byte_writes, copy_writes, copy_in_writes, copy_out_writes, copy_image_writes, clear_write, clear_writes, level_bytes}
use Rattle.vk_model.specs.Run.Pieces.{chunks, cut, row_bytes, level_pieces, clear_pieces, pieces}
use Rattle.vk_model.specs.Laws.{together}
use Rattle.vk_model.proofs.Lists.Items.{map_flat}
use Rattle.std.proofs.Math.Nat.{mul-pos}
use Rattle.vk_model.proofs.World.BytePlaces.{texel_some}

together-append : {A : Type 0} (xs ys : List (List A)) → together (xs ++ ys) ≡ together xs ++ together ys
together-append xs ys = flat_map-append (λ x. x) xs ys

-- ---- a list in chunks

chunks_together : {A : Type 0} (k n : ℕ) (xs : List A) → length xs ≤ k → 0 < n → together (chunks k n xs) ≡ xs
chunks_together zero n [] le pos = refl
chunks_together zero n (x ∷ xs) le pos = absurd (omega arith)
chunks_together (suc k) n [] le pos = refl
chunks_together (suc k) n (x ∷ xs) le pos =
    let shorter : length (drop n (x ∷ xs)) ≤ k = omega (arith, length-drop n (x ∷ xs)) in
    ap (λ ys. take n (x ∷ xs) ++ ys) (chunks_together k n (drop n (x ∷ xs)) shorter pos) ∙ take-append-drop n (x ∷ xs)

-- with no size for the chunks there has to be nothing
cut_together : {A : Type 0} (n : ℕ) (xs : List A) → (0 < n) ⊎ (xs ≡ []) → together (cut n xs) ≡ xs
cut_together n xs (inl pos) = chunks_together (length xs) n xs (omega arith) pos
cut_together n xs (inr none) = rw none refl

-- what holds of each item holds of the whole
each_together : {A B : Type 0} (f : A → List (List B)) (g : A → List B) (xs : List A) → ((x : A) → together (f x) ≡ g x) → together (flat_map f xs) ≡ flat_map g xs
each_together f g [] same = refl
each_together f g (x ∷ xs) same = together-append (f x) (flat_map f xs) ∙ ap (λ l. l ++ together (flat_map f xs)) (same x) ∙ ap (λ l. g x ++ l) (each_together f g xs same)

-- ---- grids

none_flat : {A B : Type 0} (f : A → List B) (xs : List A) → ((x : A) → f x ≡ []) → flat_map f xs ≡ []
none_flat f [] none = refl
none_flat f (x ∷ xs) none = rw (none x) (none_flat f xs none)

-- a grid whose rows are empty is empty
flat_grid : {A : Type 0} (a b d : ℕ) (f : ℕ → ℕ → ℕ → ℕ → A) → grid a b 0 d f ≡ []
flat_grid a b d f = none_flat _ (below a) (λ i. none_flat _ (below b) (λ j. refl))

rows_some : (w : ℕ) (m : ImageInfo) → 0 < w → 0 < w * texel m.format
rows_some w m some = mul-pos some (texel_some m.format)

-- a grid of rows in one piece a row
rows_together : {A : Type 0} (a b w : ℕ) (m : ImageInfo) (f : ℕ → ℕ → ℕ → ℕ → A) → together (cut (w * texel m.format) (grid a b w (texel m.format) f)) ≡ grid a b w (texel m.format) f
rows_together a b zero m f = cut_together (0 * texel m.format) (grid a b 0 (texel m.format) f) (inr (flat_grid a b (texel m.format) f))
rows_together a b (suc w) m f = cut_together (suc w * texel m.format) (grid a b (suc w) (texel m.format) f) (inl (rows_some (suc w) m (omega arith)))

-- ---- regions and ranges

copy_in_together : (b i : ℕ) (o : Option ImageInfo) (g : BufferImageCopy) → together (cut (row_bytes o g.width) (copy_in_writes b i o g)) ≡ copy_in_writes b i o g
copy_in_together b i None g = refl
copy_in_together b i (Some m) g = rows_together g.layers g.height g.width m _

copy_out_together : (i b : ℕ) (o : Option ImageInfo) (g : BufferImageCopy) → together (cut (row_bytes o g.width) (copy_out_writes i b o g)) ≡ copy_out_writes i b o g
copy_out_together i b None g = refl
copy_out_together i b (Some m) g = rows_together g.layers g.height g.width m _

copy_image_together : (s d : ℕ) (o : Option ImageInfo) (g : ImageCopy) → together (cut (row_bytes o g.width) (copy_image_writes s d o g)) ≡ copy_image_writes s d o g
copy_image_together s d None g = refl
copy_image_together s d (Some m) g = rows_together g.layers g.height g.width m _

width_some : (m : ImageInfo) (k : ℕ) → 0 < level_width m k
width_some m k = max_some (m.width / 2 ^ k)
  where
    max_some : (n : ℕ) → 0 < max 1 n
    max_some zero = omega arith
    max_some (suc n) = omega arith

level_together : (i : ℕ) (color : List ℕ) (m : ImageInfo) (r : SubresourceRange) (k : ℕ) → together (level_pieces i color m r k) ≡ map (clear_write m color) (level_bytes i m r k)
level_together i color m r k = cut_together (level_width m k * texel m.format) (map (clear_write m color) (level_bytes i m r k)) (inl (rows_some (level_width m k) m (width_some m k)))

clear_together : (i : ℕ) (color : List ℕ) (o : Option ImageInfo) (r : SubresourceRange) → together (clear_pieces i color o r) ≡ clear_writes i color o r
clear_together i color None r = refl
clear_together i color (Some m) r =
    each_together (λ k. level_pieces i color m r (r.first_level + k)) (λ k. map (clear_write m color) (level_bytes i m r (r.first_level + k))) (below r.levels)
    (λ k. level_together i color m r (r.first_level + k))
    ∙ sym (map_flat (clear_write m color) (λ k. level_bytes i m r (r.first_level + k)) (below r.levels))

-- ---- commands

cut_by_4096 : (xs : List ByteWrite) → together (cut 4096 xs) ≡ xs
cut_by_4096 xs = cut_together 4096 xs (inl (omega arith))

pub pieces_together : (past : Past) (c : Cmd) → together (pieces past c) ≡ byte_writes past c
pieces_together past (cmd.Copy s d gs) = each_together (λ g. cut 4096 (copy_writes s d g)) (copy_writes s d) gs (λ g. cut_by_4096 (copy_writes s d g))
pieces_together past (cmd.CopyIn b i l gs) = each_together (λ g. cut (row_bytes (image past i) g.width) (copy_in_writes b i (image past i) g)) (copy_in_writes b i (image past i)) gs (copy_in_together b i (image past i))
pieces_together past (cmd.CopyOut i l b gs) = each_together (λ g. cut (row_bytes (image past i) g.width) (copy_out_writes i b (image past i) g)) (copy_out_writes i b (image past i)) gs (copy_out_together i b (image past i))
pieces_together past (cmd.CopyImage s l d m gs) = each_together (λ g. cut (row_bytes (image past d) g.width) (copy_image_writes s d (image past d) g)) (copy_image_writes s d (image past d)) gs (copy_image_together s d (image past d))
pieces_together past (cmd.Clear i l color rs) = each_together (clear_pieces i color (image past i)) (clear_writes i color (image past i)) rs (clear_together i color (image past i))
pieces_together past (cmd.Fill b o n w) = cut_by_4096 (byte_writes past (cmd.Fill b o n w))
pieces_together past (cmd.Update b o bytes) = cut_by_4096 (byte_writes past (cmd.Update b o bytes))
pieces_together past (cmd.Barrier es) = refl
pieces_together past (cmd.Set v ms) = refl
pieces_together past (cmd.Await v ms) = refl
