-- Clears, as they are judged: their ranges are their image's, and what is found in these by their numbers.
use Rattle.std.proofs.Common.{◌≡◌, ◌<◌, ◌≤◌, ◌+◌, ◌*◌, ℕ, List, [], ◌∷◌, map, length, Bool, true, false, ◌==◌, nat_lt, refl, ap, sym, ◌∙◌, subst, arith, Some}
use Rattle.std.specs.Prelude.{Contains, is_some}
use Rattle.std.specs.List.{list_any, flat_map}
use Rattle.std.proofs.lemmas.Bool.{false_from_ne_true, or_parts, ltb-false}
use Rattle.std.proofs.lemmas.List.{map-append}
use Rattle.vk_model.specs.declared.command.Cmd.TheVariants as cmd
use Rattle.vk_model.specs.declared.command.SubresourceRange.{SubresourceRange}
use Rattle.vk_model.specs.declared.resource.ImageInfo.{ImageInfo}
use Rattle.vk_model.specs.Basics.{holds}
use Rattle.vk_model.specs.Rules.Ids.{is_image}
use Rattle.vk_model.specs.Rules.Ranges.{bad_range, bad_subresource, is_beyond}
use Rattle.vk_model.specs.Sync.Access.{origins, targets}
use Rattle.vk_model.specs.Trace.Objects.{image, resource}
use Rattle.vk_model.specs.Trace.Point.{Past, Point, Action, Run, command_of}
use Rattle.vk_model.specs.World.ByteWrites.{ByteWrite, byte_writes, clear_writes, subresource_bytes}
use Rattle.vk_model.proofs.Lists.Members.{contains-head, member_passes}
use Rattle.vk_model.proofs.Lists.Truths.{clash}
use Rattle.vk_image_bytes.specs.declared.ranges.ByteRanges.{ByteRanges}
use Rattle.vk_image_bytes.specs.Numbers.{byte_count}
use Rattle.vk_image_bytes.specs.Ranges.{AreRanges}
use Rattle.vk_touches.proofs.Judging.Covered.{AreThere}
use Rattle.vk_history.specs.declared.resource_contents.ResourceContents.{ResourceContents}
use Rattle.vk_history.specs.Contents.{AreContentsOf}
use Rattle.vk_history.proofs.Making.Numbers.{size_of_image, image_is_resource}
use Rattle.vk_history.proofs.Kept.NextPoint.{IsWithin, image_there}
use Rattle.vk_history.proofs.Kept.ImageRules.{image_good}
use Rattle.vk_history.proofs.Kept.ImageSteps as clears
use Rattle.vk_laws.proofs.Forms.Lying.{clear_out}
use Rattle.vk_validate.specs.Inner.Subresources.{EndWithin}

-- ---- ranges of numbers

-- those of levels and layers end where their image does
pub ends_within : (m : ImageInfo) (r : SubresourceRange) (s : ByteRanges) (end : ℕ) → AreRanges m r s → byte_count m ≤ end → EndWithin s end
ends_within m r s end are within = λ n lt. let last = are.inside n lt in omega (arith, last, within)

-- what is found from a number on, in a range that begins there
pub found_from : (is : Bool → (low high : ℕ) → Type 0) (s : ByteRanges) (end : ℕ) → EndWithin s end → (n low : ℕ) → n < s.count → low ≡ s.first + n * s.step → (r : Bool) → (low + s.size ≤ end → is r low (low + s.size)) → is r (s.first + n * s.step) (s.first + n * s.step + s.size)
found_from is s end fit n low lt at r found = subst (λ (k : ℕ). is r k (k + s.size)) at (found (rw at (fit n lt)))

-- the numbers of an image are among those of which something is kept
pub numbers_kept : (past : Past) (i : ℕ) (m : ImageInfo) (u : ResourceContents) → AreContentsOf u past i → u.image ≡ Some m → byte_count m ≤ length u.touches
numbers_kept past i m u are is = let all : length u.touches ≡ byte_count m = are.touches_size ∙ size_of_image past i m (sym are.image ∙ is) in omega (arith, all)

-- ---- what a clear accesses

all_targets : (i : ℕ) (color : List ℕ) (m : ImageInfo) (rs : List SubresourceRange) → targets (flat_map (clear_writes i color (Some m)) rs) ≡ flat_map (λ r. map (λ p. p.0) (subresource_bytes i m r)) rs
all_targets i color m [] = refl
all_targets i color m (r ∷ rs) =
    map-append (λ (w : ByteWrite). w.to) (clear_writes i color (Some m) r) (flat_map (clear_writes i color (Some m)) rs)
    ∙ rw (clears.one_targets i color m (subresource_bytes i m r), all_targets i color m rs) refl

module _ (past : Past) (i l : ℕ) (color : List ℕ) (rs : List SubresourceRange) (m : ImageInfo) (of : image past i ≡ Some m) where
  writes_are : byte_writes past (cmd.Clear i l color rs) ≡ flat_map (clear_writes i color (Some m)) rs
  writes_are = ap (λ o. flat_map (clear_writes i color o) rs) of

  -- it reads nothing
  pub clear_origins : origins (byte_writes past (cmd.Clear i l color rs)) ≡ []
  clear_origins = ap origins writes_are ∙ clears.clear_origins i color m rs

  -- and writes the bytes of its ranges
  pub clear_targets : targets (byte_writes past (cmd.Clear i l color rs)) ≡ flat_map (λ r. map (λ p. p.0) (subresource_bytes i m r)) rs
  clear_targets = ap targets writes_are ∙ all_targets i color m rs

-- ---- a clear that breaks no rule on what it names

module _ (past : Past) (p : Point) (fit : IsWithin past p) (i l : ℕ) (color : List ℕ) (rs : List SubresourceRange) (is : p.action ≡ Run (cmd.Clear i l color rs)) where
  -- its image is there
  pub cleared_image : (m : ImageInfo) × (image past i ≡ Some m)
  cleared_image = image_there past p fit.faultless fit.live fit.range (cmd.Clear i l color rs) is i (contains-head (i, is_image) [])

  pub cleared_there : is_some (resource past i) ≡ true
  cleared_there = image_is_resource past i (ap is_some cleared_image.1)

  -- and has its levels and layers
  pub cleared_ranges : (m : ImageInfo) → image past i ≡ Some m → (r : SubresourceRange) → Contains rs r → AreThere m r
  cleared_ranges m of r named = record {
    shaped = image_good past fit.faultless i m of;
    levels = lies m.levels r.first_level r.levels parts.0;
    layers = lies m.layers r.first_layer r.layers parts.1;
  } where
    none : list_any (bad_range m) rs ≡ false
    none =
        let all : holds (image past i) (λ m. list_any (bad_range m) rs) ≡ false = sym (clear_out past i l color rs) ∙ subst (λ (d : Action). holds (command_of d) (bad_subresource past) ≡ false) is fit.subresource in
        rw of at all

    parts : (is_beyond m.levels r.first_level r.levels ≡ false) × (is_beyond m.layers r.first_layer r.layers ≡ false)
    parts = or_parts _ _ (false_from_ne_true (bad_range m r) (λ yes. clash (member_passes (bad_range m) rs r named yes) none))

    lies : (limit first count : ℕ) → is_beyond limit first count ≡ false → first + count ≤ limit
    lies limit first count inside = ltb-false limit (first + count) (or_parts (count == 0) (nat_lt limit (first + count)) inside).1
