-- What an entry that makes a buffer or an image asks of the resources, and does to them.
use Rattle.std.proofs.Common.{◌≡◌, ℕ, ◌<◌, Bool, true, false, not, ◌&&◌, ◌||◌, ◌==◌, refl, ap, sym, ◌∙◌, subst, arith, Option, Some}
use Rattle.std.proofs.lemmas.Bool.{or_parts, eqb-true, eqb-false}
use Rattle.vk_model.specs.declared.entry.Entry.{Entry}
use Rattle.vk_model.specs.declared.entry.Entry.TheVariants as entry
use Rattle.vk_model.specs.declared.resource.ImageInfo.{ImageInfo}
use Rattle.vk_model.specs.declared.resource.Kind.{Kind}
use Rattle.vk_model.specs.declared.resource.Kind.TheVariants as kind
use Rattle.vk_model.specs.declared.resource.Place.{Place}
use Rattle.vk_model.specs.declared.resource.Place.TheVariants as place
use Rattle.vk_model.specs.Rules.Sizes.{bad_image, bad_levels, is_outside}
use Rattle.vk_model.specs.Trace.Image.{image_size}
use Rattle.vk_model.specs.Trace.Objects.{Resource, of_image}
use Rattle.vk_model.specs.Trace.Point.{Past}
use Rattle.vk_model.specs.Memory.PlaceLaws.{TexelByte, TexelsInside}
use Rattle.vk_memory.specs.MemoryState.{MemoryState, object_at, fresh}
use Rattle.vma_pools.specs.declared.allocations.Asked.{Asked}
use Rattle.vk_image_tiles.proofs.LevelBounds.{counts}
use Rattle.vk_image_transfer.specs.Held.{ImageOf}
use Rattle.vk_image_transfer.proofs.Places.{place_within}
use Rattle.vk_backing.specs.Backed.{Backed, pool_of}
use Rattle.vk_backing.specs.Passing.{ArePassing, CopiesAgree}
use Rattle.vk_resources.specs.declared.applied.Applied.{Applied}
use Rattle.vk_resources.specs.declared.applied.Applied.TheVariants as applied
use Rattle.vk_resources.specs.declared.resources.Placed.{Placed}
use Rattle.vk_resources.specs.Held.{Held, IsShaped, IsConsistent}
use Rattle.vk_resources.specs.Matches.{MatchesLive, Stands}
use Rattle.vk_resources.specs.Fits.{FitsEntry, FitsPlace}
use Rattle.vk_resources.specs.Done.{DoneBy}
use Rattle.vk_resources.specs.Passes.{KeepsPassing}
use Rattle.vk_resources.specs.Inner.Steps.{KeepsObjects, Makes, MemoryMade, ResourceMade, BindReady, Binds, SharedMade}
use Rattle.vk_resources.proofs.Placing.{kept_object, grown_object}
use Rattle.vk_resources.proofs.Keeping.{same_objects}
use Rattle.vk_resources.proofs.Applying.{IsCreatingEntry, resource_done, bound_done}
use Rattle.vk_resources.proofs.Ending.{CreationFits, binds_ready, image_good}
use Rattle.vk_model.proofs.World.BytePlaces.{texel_some}

-- ---- the shape of an image

levels_some : (k : Kind) (m : ImageInfo) → bad_levels k m ≡ false → 0 < m.levels
levels_some kind.Linear m good = let one : m.levels ≡ 1 = eqb-true m.levels 1 (both (m.levels == 1) (m.layers == 1) good) in omega arith
  where
    both : (a b : Bool) → not (a && b) ≡ false → a ≡ true
    both true b e = refl
    both false b e = absurd cc
levels_some kind.Optimal m good = let other = eqb-false m.levels 0 (or_parts (m.levels == 0) _ good).0 in omega arith

-- an image has bytes
pub image_some : TexelsInside → (m : ImageInfo) → bad_image m ≡ false → 0 < image_size m m.tiling
image_some law m good =
    let c = counts m good in
    let levels = levels_some m.tiling m (or_parts (is_outside 4096 m.width || is_outside 4096 m.height || is_outside 256 m.layers) (bad_levels m.tiling m) good).1 in
    let layers = c.layers.some in
    let first : TexelByte = record { level = 0; layer = 0; x = 0; y = 0; texel_byte = 0 } in
    let below = law m first (record { shaped = good; level_there = levels; layer_there = layers; x_there = omega arith; y_there = omega arith; texel_byte_there = texel_some m.format }) in
    omega (arith, below)

pub image_shaped : TexelsInside → (m : ImageInfo) → bad_image m ≡ false → (p : Placed) → p.size ≡ image_size m m.tiling → IsShaped m p
image_shaped law m good p size = record { shaped = good; size = size; inside = λ c k at. let low = place_within law (ImageOf m) good c k at in omega (arith, low, size) }

-- an image that an entry makes has bytes
pub some_of : TexelsInside → (y : Entry) (i : ℕ) (info : ImageInfo) → y ≡ entry.Image i info → (past : Past) → FitsEntry past y → 0 < image_size info info.tiling
some_of law y i info is past fit = image_some law info (image_good y i info is past fit)

-- ---- an entry that makes a resource

module _ (s new : Held) (y x : Entry) (is : y ≡ x) (i : ℕ) (r : Resource) (size : ℕ) (shape : Option ImageInfo) (creating : IsCreatingEntry x i r size shape) (fits : (past : Past) → FitsEntry past y → CreationFits past i r size shape) (consistent : IsConsistent s) where
  module _ (t : ℕ) (own : r.place ≡ place.Dedicated t) (a : Applied) (made : ResourceMade a s new i t size r.size shape) where
    pub own_done : (e : ℕ) (past : Past) → Stands past s → FitsEntry past y → DoneBy a e y past s new
    own_done e past m fit = subst (λ (z : Entry). DoneBy a e z past s new) (sym is) (resource_done s new x i r size shape creating t own consistent a made e past m (fits past fit).unused)

  module _ (k o : ℕ) (at : r.place ≡ place.Memory k o) where
    pub may_bind : (past : Past) → MatchesLive past s → FitsEntry past y → BindReady s k o size
    may_bind past m fit = binds_ready s past m i r size shape (fits past fit) k o at consistent

    module _ (binds : Binds s new i k o size shape) where
      pub bind_done : (e : ℕ) (past : Past) → Stands past s → FitsEntry past y → DoneBy applied.Done e y past s new
      bind_done e past m fit =
          subst (λ (z : Entry). DoneBy applied.Done e z past s new) (sym is)
          (bound_done s new x i r size shape creating k o at consistent (may_bind past m.live fit) binds e past m (fits past fit).unused (subst (λ (q : Place). FitsPlace past r q) at (fits past fit).place))

-- what was made by the size that was asked, and of the shape that was given
pub made_as : (a : Applied) (s new : Held) (i t n : ℕ) (shape info : ImageInfo) → n ≡ image_size info info.tiling → shape ≡ info → ResourceMade a s new i t n n (Some shape) → ResourceMade a s new i t (image_size info info.tiling) (of_image info).size (Some info)
made_as a s new i t n shape info size same made =
    subst (λ (m : ImageInfo). ResourceMade a s new i t (image_size info info.tiling) (image_size info info.tiling) (Some m)) same (subst (λ (k : ℕ). ResourceMade a s new i t k k (Some shape)) size made)

pub binds_as : (s new : Held) (i k o n : ℕ) (shape info : ImageInfo) → n ≡ image_size info info.tiling → shape ≡ info → Binds s new i k o n (Some shape) → Binds s new i k o (image_size info info.tiling) (Some info)
binds_as s new i k o n shape info size same binds =
    subst (λ (m : ImageInfo). Binds s new i k o (image_size info info.tiling) (Some m)) same (subst (λ (z : ℕ). Binds s new i k o z (Some shape)) size binds)

pub shared_as : (a : Applied) (s new : Held) (i pool n size : ℕ) (asked : Asked) (upper : Bool) (shape info : ImageInfo) → n ≡ size → shape ≡ info → SharedMade a s new i pool n asked upper (Some shape) → SharedMade a s new i pool size asked upper (Some info)
shared_as a s new i pool n size asked upper shape info same_size same made =
    subst (λ (m : ImageInfo). SharedMade a s new i pool size asked upper (Some m)) same (subst (λ (z : ℕ). SharedMade a s new i pool z asked upper (Some shape)) same_size made)

-- ---- memory objects that stay

makes_keep : (old new : Held) (i t size : ℕ) → Makes old new i t size → KeepsObjects old new
makes_keep old new i t size makes number was is = ap (λ (m : MemoryState). object_at m number) makes.memory ∙ kept_object old.memory (fresh t size) number was

pub memory_keeps : (a : Applied) (old new : Held) (i t size : ℕ) → MemoryMade a old new i t size → KeepsObjects old new
memory_keeps applied.Done old new i t size made = makes_keep old new i t size made.0
memory_keeps (applied.Bytes bytes) old new i t size made = absurd made
memory_keeps applied.NoRoom old new i t size made = same_objects old new (ap (λ (h : Held). h.memory) made.0)

pub resource_keeps : (a : Applied) (old new : Held) (i t size asked : ℕ) (shape : Option ImageInfo) → ResourceMade a old new i t size asked shape → KeepsObjects old new
resource_keeps applied.Done old new i t size asked shape made = makes_keep old new i t asked made.0
resource_keeps (applied.Bytes bytes) old new i t size asked shape made = absurd made
resource_keeps applied.NoRoom old new i t size asked shape made = same_objects old new (ap (λ (h : Held). h.memory) made.0)

pub shared_keeps : (a : Applied) (old new : Held) (i pool size : ℕ) (asked : Asked) (upper : Bool) (shape : Option ImageInfo) → SharedMade a old new i pool size asked upper shape → KeepsObjects old new
shared_keeps applied.Done old new i pool size asked upper shape made = λ number was is. grown_object old.memory new.memory made.1.grows number was
shared_keeps (applied.Bytes bytes) old new i pool size asked upper shape made = absurd made
shared_keeps applied.NoRoom old new i pool size asked upper shape made = same_objects old new (ap (λ (h : Held). h.memory) made.0)

-- ---- defragmentations that stay

pub same_passing : (old new : Held) → new.memory ≡ old.memory → new.backed ≡ old.backed → KeepsPassing old new
same_passing old new memory same = record {
  passing = λ p h. subst (λ (b : Backed). ArePassing p b) (sym same) h;
  agree = λ p h agree. subst (λ (m : MemoryState). CopiesAgree p new.backed m) (sym memory) (subst (λ (b : Backed). CopiesAgree p b old.memory) (sym same) agree);
  pools = λ i. ap (λ (b : Backed). pool_of b i) same;
}

pub memory_passing : (a : Applied) (old new : Held) (i t size : ℕ) → MemoryMade a old new i t size → KeepsPassing old new
memory_passing applied.Done old new i t size made = made.0.passing
memory_passing (applied.Bytes bytes) old new i t size made = absurd made
memory_passing applied.NoRoom old new i t size made = same_passing old new (ap (λ (h : Held). h.memory) made.0) (ap (λ (h : Held). h.backed) made.0)

pub resource_passing : (a : Applied) (old new : Held) (i t size asked : ℕ) (shape : Option ImageInfo) → ResourceMade a old new i t size asked shape → KeepsPassing old new
resource_passing applied.Done old new i t size asked shape made = made.0.passing
resource_passing (applied.Bytes bytes) old new i t size asked shape made = absurd made
resource_passing applied.NoRoom old new i t size asked shape made = same_passing old new (ap (λ (h : Held). h.memory) made.0) (ap (λ (h : Held). h.backed) made.0)

pub put_passing : (a : Applied) (old new : Held) (i pool size : ℕ) (asked : Asked) (upper : Bool) (shape : Option ImageInfo) → SharedMade a old new i pool size asked upper shape → KeepsPassing old new
put_passing applied.Done old new i pool size asked upper shape made = made.1.passing
put_passing (applied.Bytes bytes) old new i pool size asked upper shape made = absurd made
put_passing applied.NoRoom old new i pool size asked upper shape made = same_passing old new (ap (λ (h : Held). h.memory) made.0) (ap (λ (h : Held). h.backed) made.0)
