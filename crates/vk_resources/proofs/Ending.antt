-- What is asked of the resources by an entry that fits, and done for one that ends something.
use Rattle.std.proofs.Common.{◌≡◌, false, ℕ, ◌<◌, ◌≤◌, refl, ap, sym, ◌∙◌, subst, arith, Option, Some, None}
use Rattle.std.specs.Prelude.{IsTrue, option_and_then}
use Rattle.vk_model.specs.declared.entry.Entry.{Entry}
use Rattle.vk_model.specs.declared.entry.Entry.TheVariants as entry
use Rattle.vk_model.specs.declared.resource.BufferInfo.{BufferInfo}
use Rattle.vk_model.specs.declared.resource.Place.{Place}
use Rattle.vk_model.specs.declared.resource.Place.TheVariants as place
use Rattle.vk_model.specs.Basics.{holds}
use Rattle.vk_model.specs.Trace.Point.{Past}
use Rattle.vk_model.specs.declared.resource.ImageInfo.{ImageInfo}
use Rattle.vk_model.specs.Trace.Image.{image_size}
use Rattle.vk_model.specs.Trace.Objects.{Resource, of_buffer, of_image, live, image_in, pool_in}
use Rattle.vk_model.specs.Rules.Ids.{is_memory, is_resource}
use Rattle.vk_model.specs.Rules.Sizes.{bad_image}
use Rattle.vk_resources.specs.declared.applied.Applied.TheVariants as applied
use Rattle.vk_resources.specs.Held.{Held, IsConsistent, placed, shape_of, object_of}
use Rattle.vk_resources.specs.Matches.{MatchesLive, Stands, size_made, has_memory}
use Rattle.vk_resources.specs.Fits.{IsUnused, FitsEntry, FitsBuffer, FitsImage, FitsPlace}
use Rattle.vk_resources.specs.Done.{DoneBy}
use Rattle.vk_resources.specs.Inner.Steps.{BindReady, IsEmpty, Ends}
use Rattle.vk_resources.proofs.Matching.{unowned, unplaced}
use Rattle.vk_resources.proofs.Living.{live_end, not_live, empty}
use Rattle.vk_resources.proofs.Binding.{bind_ready, destroyed_clear, freed_clear}
use Rattle.vk_resources.proofs.Applying.{end_goes}

-- ---- a new object

-- what an entry that makes a resource is known to be of
pub record CreationFits (past : Past) (i : ℕ) (r : Resource) (size : ℕ) (shape : Option ImageInfo) : Type 0 where
  pub unused : IsUnused past i
  pub some : 0 < size
  pub less : size ≤ r.size
  pub place : FitsPlace past r r.place

pub buffer_fits : (y : Entry) (i : ℕ) (info : BufferInfo) → y ≡ entry.Buffer i info → (past : Past) → FitsEntry past y → CreationFits past i (of_buffer info) info.size None
buffer_fits y i info is past fit =
    let fits : FitsBuffer past i info = subst (λ (x : Entry). FitsEntry past x) is fit in
    record { unused = fits.unused; some = fits.some; less = omega arith; place = fits.place }

pub image_fits : (y : Entry) (i : ℕ) (info : ImageInfo) → 0 < image_size info info.tiling → y ≡ entry.Image i info → (past : Past) → FitsEntry past y → CreationFits past i (of_image info) (image_size info info.tiling) (Some info)
image_fits y i info some is past fit =
    let fits : FitsImage past i info = subst (λ (x : Entry). FitsEntry past x) is fit in
    record { unused = fits.unused; some = some; less = omega arith; place = fits.place }

-- it breaks no rule on its shape
pub image_good : (y : Entry) (i : ℕ) (info : ImageInfo) → y ≡ entry.Image i info → (past : Past) → FitsEntry past y → bad_image info ≡ false
image_good y i info is past fit = let fits : FitsImage past i info = subst (λ (x : Entry). FitsEntry past x) is fit in fits.shaped

module _ (s : Held) (past : Past) (m : MatchesLive past s) (i : ℕ) (r : Resource) (size : ℕ) (shape : Option ImageInfo) (fits : CreationFits past i r size shape) where
  pub no_object : object_of s i ≡ None
  no_object = unowned (live past) s i m (ap (λ (o : Option Entry). holds o has_memory) (not_live past i fits.unused))

  pub no_place : placed s i ≡ None
  no_place = unplaced (live past) s i m (ap (option_and_then size_made) (not_live past i fits.unused))

  pub no_shape : shape_of s i ≡ None
  no_shape = m.shapes i ∙ ap (option_and_then image_in) (not_live past i fits.unused)

  pub binds_ready : (k o : ℕ) → r.place ≡ place.Memory k o → IsConsistent s → BindReady s k o size
  binds_ready k o at consistent = bind_ready past s m consistent.0 k o r size at fits.some fits.less (subst (λ (q : Place). FitsPlace past r q) at fits.place)

-- ---- what ends

memory_no_pool : (o : Option Entry) → IsTrue (holds o is_memory) → option_and_then pool_in o ≡ None
memory_no_pool None h = refl
memory_no_pool (Some (entry.Memory i x)) h = refl
memory_no_pool (Some _) h = absurd cc

pub resource_no_pool : (o : Option Entry) → IsTrue (holds o is_resource) → option_and_then pool_in o ≡ None
resource_no_pool None h = refl
resource_no_pool (Some (entry.Buffer i x)) h = refl
resource_no_pool (Some (entry.Image i x)) h = refl
resource_no_pool (Some _) h = absurd cc

module _ (s : Held) (y : Entry) (m : ℕ) (is : y ≡ entry.Free m) (past : Past) (matches : Stands past s) (fit : FitsEntry past y) (consistent : IsConsistent s) where
  pub free_empty : IsEmpty s m
  free_empty =
      let fits = subst (λ (x : Entry). FitsEntry past x) is fit in
      empty (live past) _ s s m (live_end past 0 (entry.Free m) m refl refl) matches.live consistent.0 (memory_no_pool (live past m) fits.0) (λ b p t other at his lies. freed_clear past s matches.live m b p t other his fits.1 lies)

  pub free_done : (new : Held) → Ends s new m → (e : ℕ) → DoneBy applied.Done e y past s new
  free_done new ends e =
      let fits = subst (λ (x : Entry). FitsEntry past x) is fit in
      subst (λ (x : Entry). DoneBy applied.Done e x past s new) (sym is)
      (end_goes s new past e m (entry.Free m) refl refl (λ c cell. refl) matches consistent.0 (memory_no_pool (live past m) fits.0) (λ b p t other at his lies. freed_clear past s matches.live m b p t other his fits.1 lies) ends, λ b o n h. absurd cc)

module _ (s : Held) (y : Entry) (r : ℕ) (is : y ≡ entry.Destroy r) (past : Past) (matches : Stands past s) (fit : FitsEntry past y) (consistent : IsConsistent s) where
  pub destroy_empty : IsEmpty s r
  destroy_empty =
      let fits = subst (λ (x : Entry). FitsEntry past x) is fit in
      empty (live past) _ s s r (live_end past 0 (entry.Destroy r) r refl refl) matches.live consistent.0 (resource_no_pool (live past r) fits) (λ b p t other at his lies. destroyed_clear past s matches.live r b p t other his fits lies)

  pub destroy_done : (new : Held) → Ends s new r → (e : ℕ) → DoneBy applied.Done e y past s new
  destroy_done new ends e =
      let fits = subst (λ (x : Entry). FitsEntry past x) is fit in
      subst (λ (x : Entry). DoneBy applied.Done e x past s new) (sym is)
      (end_goes s new past e r (entry.Destroy r) refl refl (λ c cell. refl) matches consistent.0 (resource_no_pool (live past r) fits) (λ b p t other at his lies. destroyed_clear past s matches.live r b p t other his fits lies) ends, λ b o n h. absurd cc)
