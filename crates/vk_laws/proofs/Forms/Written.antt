-- Of which resource the bytes are that a command, an element or a host entry writes.
use Rattle.std.proofs.Common.{◌≡◌, ◌⊎◌, inl, inr, ⊎_elim, ◌≤◌, ◌<◌, ◌+◌, ℕ, List, [], ◌∷◌, length, Bool, true, false, not, ◌&&◌, nat_lt, refl, ap, sym, ◌∙◌, arith, Option, Some, None}
use Rattle.std.specs.Prelude.{◌↔◌, IsTrue, is_some, if◌then◌else◌}
use Rattle.std.specs.List.{list_any, flat_map, enumerate_from}
use Rattle.std.proofs.lemmas.Bool.{lt-ltb, cases_lt, false≢true}
use Rattle.vk_model.specs.declared.command.BufferCopy.{BufferCopy}
use Rattle.vk_model.specs.declared.command.BufferImageCopy.{BufferImageCopy}
use Rattle.vk_model.specs.declared.command.ImageCopy.{ImageCopy}
use Rattle.vk_model.specs.declared.command.SubresourceRange.{SubresourceRange}
use Rattle.vk_model.specs.declared.command.Length.{Length}
use Rattle.vk_model.specs.declared.command.Cmd.TheVariants as cmd
use Rattle.vk_model.specs.declared.command.ImageElement.{ImageElement}
use Rattle.vk_model.specs.declared.command.Element.TheVariants as element
use Rattle.vk_model.specs.declared.resource.ImageInfo.{ImageInfo}
use Rattle.vk_model.specs.Basics.{below}
use Rattle.vk_model.specs.Trace.Point.{Past}
use Rattle.vk_model.specs.Trace.Objects.{image}
use Rattle.vk_model.specs.World.Bytes.{Byte, in_buffer, resource_at}
use Rattle.vk_model.specs.World.ByteWrites.{ByteWrite, byte_writes, fill_size, buffer_size, copy_writes, clear_writes, copy_in_writes, copy_out_writes, copy_image_writes, subresource_bytes}
use Rattle.vk_model.specs.World.Ownership.{is_transition, releases, transfer, family_of}
use Rattle.vk_model.specs.Sync.Access.{targets, bytes_of, image_bytes, transition_bytes}
use Rattle.vk_model.proofs.Lists.Members.{any_same, any_map}
use Rattle.vk_laws.specs.Written.{some_bytes, some_subresource, some_texel, some_copied}
use Rattle.vk_laws.proofs.Forms.Spread.{any_and, any_flat, any_below, any_texel, any_subresource, any_enumerated}

some_items : {A : Type 0} (xs : List A) → list_any (λ x. true) xs ≡ nat_lt 0 (length xs)
some_items [] = refl
some_items (x ∷ xs) = let more : true ≡ nat_lt 0 (length (x ∷ xs)) = sym (lt-ltb 0 (length (x ∷ xs)) (omega arith)) in more

module _ (f : ℕ → Bool) where
  abbrev passes : Byte → Bool
  passes b = f (resource_at b)

  abbrev writes : ByteWrite → Bool
  writes w = f (resource_at w.to)

  -- bytes of a range of a buffer
  pub range_written : (b o n : ℕ) → list_any passes (bytes_of b o n) ≡ (nat_lt 0 n && f b)
  range_written b o n = any_map passes (λ k. in_buffer b (o + k)) (below n) ∙ any_below _ (f b) (λ k. refl) n

  -- what a command writes, by its form
  written : (ws : List ByteWrite) → list_any passes (targets ws) ≡ list_any writes ws
  written ws = any_map passes (λ w. w.to) ws

  -- regions that each write bytes of one resource, where they have any
  regions_written : {A : Type 0} (of : A → List ByteWrite) (some : A → Bool) (r : ℕ) (gs : List A) → ((g : A) → list_any writes (of g) ≡ (some g && f r)) → list_any passes (targets (flat_map of gs)) ≡ (list_any some gs && f r)
  regions_written of some r gs each = written (flat_map of gs) ∙ any_flat writes of gs ∙ any_same _ _ gs (λ g c. each g) ∙ any_and some (f r) gs

  none_written : {A : Type 0} (gs : List A) (some : A → Bool) → list_any writes (flat_map (λ g. []) gs) ≡ false
  none_written [] some = refl
  none_written (g ∷ gs) some = none_written gs some

  -- the same where an image has to be there
  image_written : {A : Type 0} (of : Option ImageInfo → A → List ByteWrite) (some : A → Bool) (r : ℕ) (gs : List A) (o : Option ImageInfo) → ((g : A) → of None g ≡ []) → ((m : ImageInfo) (g : A) → list_any writes (of (Some m) g) ≡ (some g && f r))
      → list_any passes (targets (flat_map (of o) gs)) ≡ ((is_some o && list_any some gs) && f r)
  image_written of some r gs None none each = regions_written (of None) (λ g. false) r gs (λ g. ap (list_any writes) (none g)) ∙ ap (λ b. b && f r) (no_region gs) where
    no_region : {A : Type 0} (gs : List A) → list_any (λ g. false) gs ≡ false
    no_region [] = refl
    no_region (g ∷ gs) = no_region gs
  image_written of some r gs (Some m) none each = regions_written (of (Some m)) some r gs (each m)

  module _ (past : Past) where
    pub fill_written : (b o : ℕ) (n : Length) (w : ℕ) → list_any passes (targets (byte_writes past (cmd.Fill b o n w))) ≡ (nat_lt 0 (fill_size (buffer_size past b) o n) && f b)
    fill_written b o n w = written (byte_writes past (cmd.Fill b o n w)) ∙ any_map writes _ (below (fill_size (buffer_size past b) o n)) ∙ any_below _ (f b) (λ k. refl) (fill_size (buffer_size past b) o n)

    pub update_written : (b o : ℕ) (bytes : List ℕ) → list_any passes (targets (byte_writes past (cmd.Update b o bytes))) ≡ (nat_lt 0 (length bytes) && f b)
    update_written b o bytes = written (byte_writes past (cmd.Update b o bytes)) ∙ any_map writes _ (enumerate_from 0 bytes) ∙ any_enumerated _ (f b) (λ p. refl) 0 bytes ∙ ap (λ t. t && f b) (some_items bytes)

    pub copy_written : (s d : ℕ) (gs : List BufferCopy) → list_any passes (targets (byte_writes past (cmd.Copy s d gs))) ≡ (some_bytes gs && f d)
    copy_written s d gs = regions_written (copy_writes s d) (λ g. nat_lt 0 g.size) d gs (λ g. any_map writes _ (below g.size) ∙ any_below _ (f d) (λ k. refl) g.size)

    pub clear_written : (i l : ℕ) (color : List ℕ) (rs : List SubresourceRange) → list_any passes (targets (flat_map (clear_writes i color (image past i)) rs)) ≡ ((is_some (image past i) && some_subresource rs) && f i)
    clear_written i l color rs = image_written (clear_writes i color) (λ r. nat_lt 0 r.levels && nat_lt 0 r.layers) i rs (image past i) (λ g. refl) (λ m r. any_map writes _ (subresource_bytes i m r) ∙ any_subresource _ (f i) i m r (λ l z y x k. refl))

    pub copy_in_written : (b i : ℕ) (gs : List BufferImageCopy) → list_any passes (targets (flat_map (copy_in_writes b i (image past i)) gs)) ≡ ((is_some (image past i) && some_texel gs) && f i)
    copy_in_written b i gs = image_written (copy_in_writes b i) (λ g. nat_lt 0 g.layers && nat_lt 0 g.height && nat_lt 0 g.width) i gs (image past i) (λ g. refl) (λ m g. any_texel writes (f i) g.layers g.height g.width m _ (λ z y x k. refl))

    pub copy_out_written : (i b : ℕ) (gs : List BufferImageCopy) → list_any passes (targets (flat_map (copy_out_writes i b (image past i)) gs)) ≡ ((is_some (image past i) && some_texel gs) && f b)
    copy_out_written i b gs = image_written (copy_out_writes i b) (λ g. nat_lt 0 g.layers && nat_lt 0 g.height && nat_lt 0 g.width) b gs (image past i) (λ g. refl) (λ m g. any_texel writes (f b) g.layers g.height g.width m _ (λ z y x k. refl))

    pub copy_image_written : (s d : ℕ) (gs : List ImageCopy) → list_any passes (targets (flat_map (copy_image_writes s d (image past d)) gs)) ≡ ((is_some (image past d) && some_copied gs) && f d)
    copy_image_written s d gs = image_written (copy_image_writes s d) (λ g. nat_lt 0 g.layers && nat_lt 0 g.height && nat_lt 0 g.width) d gs (image past d) (λ g. refl) (λ m g. any_texel writes (f d) g.layers g.height g.width m _ (λ z y x k. refl))

-- what a transition writes
module _ (f : ℕ → Bool) (past : Past) (q : ℕ) (e : ImageElement) where
  bytes_written : (o : Option ImageInfo) → list_any (passes f) (image_bytes o e) ≡ ((is_some o && (nat_lt 0 e.range.levels && nat_lt 0 e.range.layers)) && f e.image)
  bytes_written None = refl
  bytes_written (Some m) = any_map (passes f) (λ p. p.0) (subresource_bytes e.image m e.range) ∙ any_subresource _ (f e.image) e.image m e.range (λ l z y x k. refl)

  pub transition_written : list_any (passes f) (transition_bytes past q (element.Image e))
      ≡ (((is_transition e && not (releases (transfer (family_of q) e.families))) && (is_some (image past e.image) && (nat_lt 0 e.range.levels && nat_lt 0 e.range.layers))) && f e.image)
  transition_written = go (is_transition e && not (releases (transfer (family_of q) e.families))) where
    go : (b : Bool) → list_any (passes f) (if b then image_bytes (image past e.image) e else []) ≡ ((b && (is_some (image past e.image) && (nat_lt 0 e.range.levels && nat_lt 0 e.range.layers))) && f e.image)
    go true = bytes_written (image past e.image)
    go false = refl

-- where there is an item
pub not_empty : (b : Bool) (n : ℕ) → (IsTrue b ↔ (n ≡ 0)) → not b ≡ nat_lt 0 n
not_empty true n iff = let none : n ≡ 0 = iff.0 refl in rw none refl
not_empty false n iff = sym (lt-ltb 0 n (⊎_elim (λ none. let empty : n ≡ 0 = omega (arith, none) in absurd (false≢true (iff.1 empty))) (λ some. some) (cases n))) where
  cases : (n : ℕ) → (n ≤ 0) ⊎ (0 < n)
  cases n = elim (cases_lt 0 n) [ inl lt ↦ inr lt | inr le ↦ inl le ]
