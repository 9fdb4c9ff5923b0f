-- What becomes of the layouts that are kept of images.
use Rattle.std.proofs.Common.{◌≡◌, ◌≢◌, ℕ, Bool, true, false, ◌&&◌, ◌==◌, not, refl, ap, sym, ◌∙◌, arith, Option, Some, None}
use Rattle.std.specs.Prelude.{IfSome, IsSome, IsTrue, is_some, if◌then◌else◌}
use Rattle.std.specs.Ordering.{nat_cmp}
use Rattle.std.specs.BTreeMap.{get}
use Rattle.std.proofs.lemmas.Bool.{eqb-true, eqb-false, eq-eqb}
use Rattle.std.proofs.lemmas.Bool.Decides.{nat_tests}
use Rattle.vk_model.specs.declared.command.ImageElement.{ImageElement}
use Rattle.vk_model.specs.declared.command.SubresourceRange.{SubresourceRange}
use Rattle.vk_model.specs.declared.resource.ImageInfo.{ImageInfo}
use Rattle.vk_model.specs.Basics.{holds, within}
use Rattle.vk_model.specs.Trace.Objects.{image}
use Rattle.vk_model.specs.Trace.Point.{Past}
use Rattle.vk_model.specs.World.Bytes.{World}
use Rattle.vk_model.specs.World.Effect.{layout_after}
use Rattle.vk_model.specs.Rules.Ranges.{bad_range}
use Rattle.vk_layouts.specs.ImageLayouts.{ImageLayouts, layout_at, IsWithin}
use Rattle.vk_history.specs.declared.layouts.CurrentLayouts.{CurrentLayouts}
use Rattle.vk_history.specs.Layouts.{AreKept, AreOf, AreOfImage, kept_layout, has_subresources, HasRoom, IsNew, SetIn}

-- ---- a new image

-- layouts that were just made keep those of a world without any
fresh : (past : Past) (i : ℕ) (m : ImageInfo) (o : Option ImageLayouts) → image past i ≡ Some m → IfSome o (IsNew m) → IfSome o (AreOfImage past i)
fresh past i m None is new = tt
fresh past i m (Some s) is new = (m, is, new.size)

fresh_layout : (m : ImageInfo) (o : Option ImageLayouts) → IfSome o (IsNew m) → (level layer : ℕ) → kept_layout o level layer ≡ 0
fresh_layout m None new level layer = refl
fresh_layout m (Some s) new level layer = new.undefined level layer

pub room_made : (t u : CurrentLayouts) (past : Past) (i : ℕ) (m : ImageInfo) → image past i ≡ Some m → get nat_cmp t.images i ≡ None
    → IfSome (get nat_cmp u.images i) (IsNew m) → IsSome (get nat_cmp u.images i) → ((other : ℕ) → other ≢ i → get nat_cmp u.images other ≡ get nat_cmp t.images other)
    → HasRoom t u past i
room_made t u past i m is none new there others = record { there = λ s. there; kept = λ layouts kept. record { layouts_are = are layouts kept; sizes = sizes layouts kept } } where
  are : (layouts : ℕ → ℕ → ℕ → ℕ) → AreKept t past layouts → (j level layer : ℕ) → kept_layout (get nat_cmp u.images j) level layer ≡ layouts j level layer
  are layouts kept j level layer = go (j == i) refl where
    go : (b : Bool) → (j == i) ≡ b → kept_layout (get nat_cmp u.images j) level layer ≡ layouts j level layer
    go true e = let same : j ≡ i = eqb-true j i e in
        rw same (fresh_layout m (get nat_cmp u.images i) new level layer ∙ ap (λ (o : Option ImageLayouts). kept_layout o level layer) (sym none) ∙ kept.layouts_are i level layer)
    go false e = rw (others j (eqb-false j i e)) (kept.layouts_are j level layer)

  sizes : (layouts : ℕ → ℕ → ℕ → ℕ) → AreKept t past layouts → (j : ℕ) → IfSome (get nat_cmp u.images j) (AreOfImage past j)
  sizes layouts kept j = go (j == i) refl where
    go : (b : Bool) → (j == i) ≡ b → IfSome (get nat_cmp u.images j) (AreOfImage past j)
    go true e = let same : j ≡ i = eqb-true j i e in rw same (fresh past i m (get nat_cmp u.images i) is new)
    go false e = rw (others j (eqb-false j i e)) (kept.sizes j)

-- ---- a transition

-- an image has what is a range of it
within_size : (m : ImageInfo) (r : SubresourceRange) (s : ImageLayouts) → AreOf m s → not (bad_range m r) ≡ true → IsWithin s r
within_size m r s size good = record { levels = (let e = size.levels in grind (arith, nat_tests)); layers = (let e = size.layers in grind (arith, nat_tests)) }

module _ (past : Past) (e : ImageElement) (there : IsTrue (has_subresources past e)) where
  is_within : (s : ImageLayouts) → AreOfImage past e.image s → IsWithin s e.range
  is_within s of = let good : not (bad_range of.0 e.range) ≡ true = rw of.1 at there in within_size of.0 e.range s of.2 good

  module _ (t u : CurrentLayouts) (w : World) (kept : AreKept t past w.layout) (others : (other : ℕ) → other ≢ e.image → get nat_cmp u.images other ≡ get nat_cmp t.images other) where
    abbrev old : Option ImageLayouts
    old = get nat_cmp t.images e.image

    abbrev new : Option ImageLayouts
    new = get nat_cmp u.images e.image

    here : (o n : Option ImageLayouts) → o ≡ old → IsSome o → SetIn o n e → IfSome o (AreOfImage past e.image) → (level layer : ℕ) → kept_layout n level layer ≡ layout_after e w e.image level layer
    here None n is some set of level layer = absurd cc
    here (Some s) None is some set of level layer = absurd set
    here (Some s) (Some s') is some set of level layer =
        let was : layout_at s level layer ≡ w.layout e.image level layer = ap (λ (o : Option ImageLayouts). kept_layout o level layer) is ∙ kept.layouts_are e.image level layer in
        rw (eq-eqb e.image e.image refl) (set.layouts (is_within s of) level layer ∙ ap (λ (l : ℕ). if within e.range.first_level e.range.levels level && within e.range.first_layer e.range.layers layer then e.new_layout else l) was)

    sizes_here : (o n : Option ImageLayouts) → SetIn o n e → IfSome o (AreOfImage past e.image) → IfSome n (AreOfImage past e.image)
    sizes_here None n set of = rw set tt
    sizes_here (Some s) None set of = absurd set
    sizes_here (Some s) (Some s') set of = (of.0, of.1, record { levels = set.levels ∙ of.2.levels; layers = set.layers ∙ of.2.layers })

    pub transition_kept : IsSome old → SetIn old new e → AreKept u past (layout_after e w)
    transition_kept some set = record { layouts_are = are; sizes = sizes } where
      are : (i level layer : ℕ) → kept_layout (get nat_cmp u.images i) level layer ≡ layout_after e w i level layer
      are i level layer = go (i == e.image) refl where
        go : (b : Bool) → (i == e.image) ≡ b → kept_layout (get nat_cmp u.images i) level layer ≡ layout_after e w i level layer
        go true same = rw (eqb-true i e.image same) (here old new refl some set (kept.sizes e.image) level layer)
        go false other = rw (others i (eqb-false i e.image other), other) (kept.layouts_are i level layer)

      sizes : (i : ℕ) → IfSome (get nat_cmp u.images i) (AreOfImage past i)
      sizes i = go (i == e.image) refl where
        go : (b : Bool) → (i == e.image) ≡ b → IfSome (get nat_cmp u.images i) (AreOfImage past i)
        go true same = rw (eqb-true i e.image same) (sizes_here old new set (kept.sizes e.image))
        go false other = rw (others i (eqb-false i e.image other)) (kept.sizes i)

-- an image with subresources was made
pub image_there : (past : Past) (e : ImageElement) → IsTrue (has_subresources past e) → IsTrue (is_some (image past e.image))
image_there past e there = go (image past e.image) there where
  go : (o : Option ImageInfo) → IsTrue (holds o (λ m. not (bad_range m e.range))) → IsTrue (is_some o)
  go None h = absurd cc
  go (Some m) h = refl
