-- What elements leave that don't change the owner of one resource.
use Rattle.std.proofs.Common.{◌≡◌, ℕ, List, [], ◌∷◌, Bool, true, false, ◌&&◌, ◌||◌, refl, ap, sym, ◌∙◌, eqb-true}
use Rattle.std.specs.Prelude.{if◌then◌else◌, ◌==◌}
use Rattle.std.specs.List.{fold, list_any}
use Rattle.std.proofs.Math.Bool.{and-true}
use Rattle.vk_model.specs.declared.command.BufferElement.{BufferElement}
use Rattle.vk_model.specs.declared.command.Element.{Element}
use Rattle.vk_model.specs.declared.command.Element.TheVariants as element
use Rattle.vk_model.specs.declared.command.ImageElement.{ImageElement}
use Rattle.vk_model.specs.Trace.Objects.{is_exclusive}
use Rattle.vk_model.specs.Trace.Point.{Past}
use Rattle.vk_model.specs.World.Bytes.{World, Owner, Family, Released}
use Rattle.vk_model.specs.World.Effect.{world, used, set_owner, transitioned, after_element, after_buffer_element, after_image_element}
use Rattle.vk_model.specs.World.Ownership.{Transfer, Stays, Release, Acquire, Neither, transfer, is_transition, family_of}
use Rattle.vk_laws.proofs.Forms.Unchanged.{transitioned_owner}
use Rattle.vk_findings.specs.Owners.{takes_half, takes_by}

not_it : (b : Bool) → (b && true) ≡ false → b ≡ false
not_it true h = absurd cc
not_it false h = refl

first_none : (b c : Bool) → (b || c) ≡ false → (b ≡ false) × (c ≡ false)
first_none false c h = (refl, h)
first_none true c h = absurd cc

module _ (past : Past) (q r : ℕ) where
  abbrev f : ℕ
  f = family_of q

  abbrev x : Bool
  x = is_exclusive past r

  -- a use of another resource, or of one that isn't exclusive
  used_kept : (k : ℕ) (w : World) → ((r == k) && x) ≡ false → (used past f k w).owner r ≡ w.owner r
  used_kept k w h = go (is_exclusive past k) refl
    where
      other : (b : Bool) → (r == k) ≡ b → is_exclusive past k ≡ true → (if r == k then Family f else w.owner r) ≡ w.owner r
      other true same e =
          let both = rw (same, ap (is_exclusive past) (eqb-true r k same) ∙ e) at h in
          absurd cc
      other false same e = rw same refl

      go : (b : Bool) → is_exclusive past k ≡ b → (used past f k w).owner r ≡ w.owner r
      go true e = rw e (other (r == k) refl e)
      go false e = rw e refl

  set_kept : (k : ℕ) (o : Owner) (v w : World) → (r == k) ≡ false → v.owner r ≡ w.owner r → (set_owner k o v).owner r ≡ w.owner r
  set_kept k o v w other same = rw other same

  buffer_kept : (e : BufferElement) (t : Transfer) (w : World) → ((r == e.buffer) && takes_half x (element.Buffer e) t) ≡ false → (after_buffer_element past f e t w).owner r ≡ w.owner r
  buffer_kept e Stays w h = refl
  buffer_kept e Release w h =
      let other = not_it (r == e.buffer) h in
      set_kept e.buffer (Released f (element.Buffer e)) (used past f e.buffer w) w other (used_kept e.buffer w (rw other refl))
  buffer_kept e Acquire w h = set_kept e.buffer (Family f) w w (not_it (r == e.buffer) h) refl
  buffer_kept e Neither w h = refl

  image_kept : (e : ImageElement) (t : Transfer) (w : World) → ((r == e.image) && takes_half x (element.Image e) t) ≡ false → (after_image_element past f e t w).owner r ≡ w.owner r
  image_kept e Stays w h = go (is_transition e) refl
    where
      go : (b : Bool) → is_transition e ≡ b → (if is_transition e then transitioned e (used past f e.image w) else w).owner r ≡ w.owner r
      go true t =
          let unused : ((r == e.image) && x) ≡ false = ap (λ (b : Bool). (r == e.image) && b) (sym (and-true x)) ∙ ap (λ (b : Bool). (r == e.image) && (x && b)) (sym t) ∙ h in
          ap (λ (b : Bool). (if b then transitioned e (used past f e.image w) else w).owner r) t
          ∙ transitioned_owner e (used past f e.image w) r ∙ used_kept e.image w unused
      go false t = ap (λ (b : Bool). (if b then transitioned e (used past f e.image w) else w).owner r) t
  image_kept e Release w h =
      let other = not_it (r == e.image) h in
      set_kept e.image (Released f (element.Image e)) (used past f e.image w) w other (used_kept e.image w (rw other refl))
  image_kept e Acquire w h = set_kept e.image (Family f) (transitioned e w) w (not_it (r == e.image) h) (transitioned_owner e w r)
  image_kept e Neither w h = refl

  element_kept : (w : World) (e : Element) → takes_by x q r e ≡ false → (after_element past f w e).owner r ≡ w.owner r
  element_kept w (element.Memory d) h = refl
  element_kept w (element.Buffer e) h = buffer_kept e (transfer f e.families) w h
  element_kept w (element.Image e) h = image_kept e (transfer f e.families) w h

  elements_kept : (es : List Element) (w : World) → list_any (takes_by x q r) es ≡ false → (fold (after_element past f) w es).owner r ≡ w.owner r
  elements_kept [] w none = refl
  elements_kept (e ∷ es) w none =
      let both = first_none (takes_by x q r e) (list_any (takes_by x q r) es) none in
      elements_kept es (after_element past f w e) both.1 ∙ element_kept w e both.0

pub owner_kept : (past : Past) (q r : ℕ) (es : List Element) → list_any (takes_by (is_exclusive past r) q r) es ≡ false → (fold (after_element past (family_of q)) (world past) es).owner r ≡ (world past).owner r
owner_kept past q r es none = elements_kept past q r es (world past) none
