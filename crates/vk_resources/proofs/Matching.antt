-- What is held is what is live, as long as only bytes change.
use Rattle.std.proofs.Common.{◌≡◌, ◌⊎◌, inl, inr, ◌∙◌, ℕ, ◌≤◌, List, ◌∷◌, true, false, refl, arith, ap, sym, subst, Option, Some, None}
use Rattle.std.specs.Prelude.{IsTrue, is_some, option_map, option_and_then}
use Rattle.vk_model.specs.declared.entry.Entry.{Entry}
use Rattle.vk_model.specs.declared.entry.Entry.TheVariants as entry
use Rattle.vk_model.specs.declared.resource.BufferInfo.{BufferInfo}
use Rattle.vk_model.specs.declared.resource.Place.{Place}
use Rattle.vk_model.specs.declared.resource.Place.TheVariants as place
use Rattle.vk_resources.specs.declared.resources.Placed.{Placed}
use Rattle.vk_model.specs.declared.resource.ImageInfo.{ImageInfo}
use Rattle.vk_backing.specs.Backed as backing
use Rattle.vk_backing.specs.Backed.{Backed, allocation_of, info_by, IsWhole}
use Rattle.vk_resources.specs.Held.{Held, placed, placed_in, shape_in, shape_of, flat, flat_in, object_of, LiesShared}
use Rattle.vk_model.specs.Basics.{holds}
use Rattle.vk_model.specs.Trace.Point.{Past}
use Rattle.vk_model.specs.Trace.Order.{host}
use Rattle.vk_model.specs.Trace.Objects.{Resource, of_buffer, of_image, live, buffer_in, image_in, resource_in, memory_in, pool_in}
use Rattle.vk_model.specs.Rules.Ids.{is_memory}
use Rattle.vk_model.specs.Trace.Image.{image_size}
use Rattle.vk_resources.specs.Matches.{Matches, MatchesLive, Stands, LiesAt, LiesOf, size_made, has_memory, type_made, in_pool}
use Rattle.vk_backing.specs.Allotted.{Allotted}
use Rattle.vk_resources.specs.Inner.Steps.{KeepsPlaces}

-- ---- where a resource lies

-- the id whose memory object a resource lies in
abbrev pub home : ℕ → Place → ℕ
home b (place.Memory m o) = m
home b _ = b

pub lies_on : (alive alive' : ℕ → Option Entry) (s s' : Held) (b : ℕ) (q : Place) (p : Placed) → LiesAt alive s b q p → object_of s' (home b q) ≡ object_of s (home b q) → alive' (home b q) ≡ alive (home b q) → ((r : ℕ) → LiesOf s.backed s.memory b r p → LiesOf s'.backed s'.memory b r p) → LiesAt alive' s' b q p
lies_on alive alive' s s' b (place.Dedicated t) p lies objects same pooled = (objects ∙ lies.0, lies.1)
lies_on alive alive' s s' b (place.Memory m o) p lies objects same pooled = (subst (λ (x : Option Entry). IsTrue (holds x is_memory)) (sym same) lies.0, objects ∙ lies.1, lies.2)
lies_on alive alive' s s' b (place.Pool q) p lies objects same pooled = pooled q lies
lies_on alive alive' s s' b (place.PoolUpper q) p lies objects same pooled = pooled q lies

-- it lies in the memory object of that id, or in a pool
pub lies_in : (alive : ℕ → Option Entry) (s : Held) (b : ℕ) (q : Place) (p : Placed) → LiesAt alive s b q p → (object_of s (home b q) ≡ Some p.object) ⊎ ((n : ℕ) × LiesShared s.backed s.memory b n p)
lies_in alive s b (place.Dedicated t) p lies = inl lies.0
lies_in alive s b (place.Memory m o) p lies = inl lies.1
lies_in alive s b (place.Pool q) p lies = inr (lies.0, lies.2)
lies_in alive s b (place.PoolUpper q) p lies = inr (lies.0, lies.2)

-- ---- only bytes change

pub keeps_matches : (alive : ℕ → Option Entry) (old new : Held) → KeepsPlaces old new → Matches alive old → Matches alive new
keeps_matches alive old new keeps m = record {
  sizes = λ b. ap (λ (bs : List (ℕ × Placed)). option_map (λ (p : Placed). p.size) (placed_in bs b)) keeps.resources ∙ m.sizes b;
  shapes = λ i. ap (λ (l : List (ℕ × ImageInfo)). shape_in l i) keeps.shapes ∙ m.shapes i;
  places = λ b p r here is. lies_on alive alive old new b r.place p (m.places b p r (sym (ap (λ (bs : List (ℕ × Placed)). placed_in bs b) keeps.resources) ∙ here) is) (objects (home b r.place)) refl (λ q l. typed b p q (subst (λ (x : Backed). LiesOf x old.memory b q p) (sym backed) l));
  owned = λ i. ap is_some (objects i) ∙ m.owned i;
  memories = λ k number x is has. keeps.lengths number ∙ m.memories k number x is (sym (objects k) ∙ has);
  types = λ i number t is has. keeps.types number ∙ m.types i number t is (sym (objects i) ∙ has);
  pools = λ i. ap (λ (x : Backed). info_by x i) backed ∙ m.pools i;
  pooled = λ i a has. m.pooled i a (ap (λ (x : Backed). allocation_of x i) (sym backed) ∙ has);
  whole = subst IsWhole (sym backed) m.whole;
}
  where
    backed : new.backed ≡ old.backed
    backed = ap (λ (a : Allotted). a.backed) keeps.same

    objects : (i : ℕ) → object_of new i ≡ object_of old i
    objects i = ap (λ (x : Backed). backing.object_of x i) backed

    typed : (b : ℕ) (p : Placed) (q : ℕ) → LiesOf new.backed old.memory b q p → LiesOf new.backed new.memory b q p
    typed b p q l = (l.0, l.1, record { spot = l.2.spot; lies = l.2.lies; object = l.2.object; offset = l.2.offset; within = l.2.within; kind = keeps.types p.object ∙ l.2.kind })

-- ---- the same objects are live

pub matches_same : (alive alive' : ℕ → Option Entry) (s : Held) → ((i : ℕ) → alive' i ≡ alive i) → Matches alive s → Matches alive' s
matches_same alive alive' s same m = record {
  sizes = λ b. m.sizes b ∙ ap (option_and_then size_made) (sym (same b));
  shapes = λ b. m.shapes b ∙ ap (option_and_then image_in) (sym (same b));
  places = λ b p r here is. lies_on alive alive' s s b r.place p (m.places b p r here (ap (option_and_then resource_in) (sym (same b)) ∙ is)) refl (same (home b r.place)) (λ q l. l);
  owned = λ i. m.owned i ∙ ap (λ (x : Option Entry). holds x has_memory) (sym (same i));
  memories = λ k number x is has. m.memories k number x (ap (option_and_then memory_in) (sym (same k)) ∙ is) has;
  types = λ i number t is has. m.types i number t (ap (option_and_then type_made) (sym (same i)) ∙ is) has;
  pools = λ i. m.pools i ∙ ap (option_and_then pool_in) (sym (same i));
  pooled = λ i a has. subst (λ (x : Option Entry). IsTrue (holds x in_pool)) (sym (same i)) (m.pooled i a has);
  whole = m.whole;
}

-- ---- what is held stands

pub keeps_stands : (past : Past) (old new : Held) → KeepsPlaces old new → Stands past old → Stands past new
keeps_stands past old new keeps m = record { live = keeps_matches (live past) old new keeps m.live }

-- after an entry, by what is live then
pub stands_on : (past : Past) (e : ℕ) (x : Entry) (old new : Held) → Stands past old → MatchesLive (host e x ∷ past) new → Stands (host e x ∷ past) new
stands_on past e x old new m now = record { live = now }

-- ---- what is held is live

-- the resource that an entry makes has at least the bytes that it is given
pub sized_resource : (y : Entry) (n : ℕ) → size_made y ≡ Some n → (r : Resource) × (resource_in y ≡ Some r) × (n ≤ r.size)
sized_resource (entry.Buffer i b) n is = let same : b.size ≡ n = cc in (of_buffer b, refl, omega (arith, same))
sized_resource (entry.Image i m) n is = let same : image_size m m.tiling ≡ n = cc in (of_image m, refl, omega (arith, same))
sized_resource _ n is = absurd cc

pub record LivePlaced (alive : ℕ → Option Entry) (b : ℕ) (p : Placed) : Type 0 where
  pub made : Entry
  pub alive_is : alive b ≡ Some made
  pub size : size_made made ≡ Some p.size
  pub resource : Resource
  pub resource_is : resource_in made ≡ Some resource
  pub within : p.size ≤ resource.size

-- the entry that made a live object
pub is_live : {A : Type 0} (kind : Entry → Option A) (o : Option Entry) (x : A) → option_and_then kind o ≡ Some x → (y : Entry) × (o ≡ Some y) × (kind y ≡ Some x)
is_live {A} kind None x h = absurd cc
is_live {A} kind (Some y) x h = (y, refl, h)

pub live_of_placed : (alive : ℕ → Option Entry) (s : Held) (b : ℕ) (p : Placed) → Matches alive s → placed s b ≡ Some p → LivePlaced alive b p
live_of_placed alive s b p m here =
    let l = is_live size_made (alive b) p.size (sym (m.sizes b) ∙ ap (λ (x : Option Placed). option_map (λ (p : Placed). p.size) x) here) in
    let r = sized_resource l.0 p.size l.2 in
    record { made = l.0; alive_is = l.1; size = l.2; resource = r.0; resource_is = r.1; within = r.2 }

-- its resource, among what is live
pub resource_of_placed : (alive : ℕ → Option Entry) (b : ℕ) (p : Placed) (l : LivePlaced alive b p) → option_and_then resource_in (alive b) ≡ Some l.resource
resource_of_placed alive b p l = rw l.alive_is l.resource_is

-- ---- of buffers

-- a buffer that lies somewhere
pub flat_parts : (shape : Option ImageInfo) (o : Option Placed) (p : Placed) → flat_in shape o ≡ Some p → (shape ≡ None) × (o ≡ Some p)
flat_parts None o p is = (refl, is)
flat_parts (Some m) o p is = absurd cc

pub flat_from : (shape : Option ImageInfo) (o : Option Placed) (p : Placed) → shape ≡ None → o ≡ Some p → flat_in shape o ≡ Some p
flat_from shape o p none is = rw none is

-- what no image is and has a size is a buffer
sized_buffer : (y : Entry) (n : ℕ) → size_made y ≡ Some n → image_in y ≡ None → (info : BufferInfo) × (buffer_in y ≡ Some info) × (n ≡ info.size)
sized_buffer (entry.Buffer i b) n is none = (b, refl, let same : b.size ≡ n = cc in sym same)
sized_buffer (entry.Image i m) n is none = absurd cc
sized_buffer _ n is none = absurd cc

pub live_of_flat : (alive : ℕ → Option Entry) (s : Held) (b : ℕ) (p : Placed) → Matches alive s → flat s b ≡ Some p → (info : BufferInfo) × (option_and_then buffer_in (alive b) ≡ Some info) × (p.size ≡ info.size)
live_of_flat alive s b p m at =
    let parts = flat_parts (shape_of s b) (placed s b) p at in
    let l = live_of_placed alive s b p m parts.1 in
    let none : image_in l.made ≡ None = ap (option_and_then image_in) (sym l.alive_is) ∙ sym (m.shapes b) ∙ parts.0 in
    let info = sized_buffer l.made p.size l.size none in
    (info.0, ap (option_and_then buffer_in) l.alive_is ∙ info.1, info.2)

-- what an entry that makes a buffer makes
pub buffer_made : (y : Entry) (info : BufferInfo) → buffer_in y ≡ Some info → (size_made y ≡ Some info.size) × (image_in y ≡ None) × (resource_in y ≡ Some (of_buffer info))
buffer_made (entry.Buffer i b) info is = let same : b ≡ info = cc in (ap (λ (z : BufferInfo). Some z.size) same, refl, ap (λ (z : BufferInfo). Some (of_buffer z)) same)
buffer_made _ info is = absurd cc

pub some_sized : (x : Option Placed) (n : ℕ) → option_map (λ (p : Placed). p.size) x ≡ Some n → (p : Placed) × (x ≡ Some p) × (p.size ≡ n)
some_sized None n is = absurd cc
some_sized (Some p) n is = (p, refl, cc)

pub placed_of_live : (alive : ℕ → Option Entry) (s : Held) (b : ℕ) (info : BufferInfo) → Matches alive s → option_and_then buffer_in (alive b) ≡ Some info → (p : Placed) × (flat s b ≡ Some p) × (p.size ≡ info.size)
placed_of_live alive s b info m is =
    let l = is_live buffer_in (alive b) info is in
    let made = buffer_made l.0 info l.2 in
    let none : shape_of s b ≡ None = m.shapes b ∙ ap (option_and_then image_in) l.1 ∙ made.1 in
    let p = some_sized (placed s b) info.size (m.sizes b ∙ ap (option_and_then size_made) l.1 ∙ made.0) in
    (p.0, flat_from (shape_of s b) (placed s b) p.0 none p.1, p.2)

-- ---- of images

-- what an entry that makes an image makes
pub image_made : (y : Entry) (info : ImageInfo) → image_in y ≡ Some info → (size_made y ≡ Some (image_size info info.tiling)) × (resource_in y ≡ Some (of_image info))
image_made (entry.Image i m) info is = let same : m ≡ info = cc in (ap (λ (z : ImageInfo). Some (image_size z z.tiling)) same, ap (λ (z : ImageInfo). Some (of_image z)) same)
image_made _ info is = absurd cc

pub image_of_live : (alive : ℕ → Option Entry) (s : Held) (i : ℕ) (info : ImageInfo) → Matches alive s → option_and_then image_in (alive i) ≡ Some info → (p : Placed) × (placed s i ≡ Some p) × (shape_of s i ≡ Some info) × (p.size ≡ image_size info info.tiling)
image_of_live alive s i info m is =
    let l = is_live image_in (alive i) info is in
    let made = image_made l.0 info l.2 in
    let p = some_sized (placed s i) (image_size info info.tiling) (m.sizes i ∙ ap (option_and_then size_made) l.1 ∙ made.0) in
    (p.0, p.1, m.shapes i ∙ is, p.2)

-- ---- what isn't live isn't held

-- what is no live resource isn't held
pub unplaced : (alive : ℕ → Option Entry) (s : Held) (b : ℕ) → Matches alive s → option_and_then size_made (alive b) ≡ None → placed s b ≡ None
unplaced alive s b m none = go (placed s b) (m.sizes b ∙ none)
  where
    go : (x : Option Placed) → option_map (λ (p : Placed). p.size) x ≡ None → x ≡ None
    go None same = refl
    go (Some p) same = absurd cc

-- and what has no memory object has no number
pub unowned : (alive : ℕ → Option Entry) (s : Held) (i : ℕ) → Matches alive s → holds (alive i) has_memory ≡ false → object_of s i ≡ None
unowned alive s i m none = go (object_of s i) (m.owned i ∙ none)
  where
    go : (x : Option ℕ) → is_some x ≡ false → x ≡ None
    go None e = refl
    go (Some n) e = absurd cc

-- what isn't in a pool has no allocation there
pub unshared : (alive : ℕ → Option Entry) (s : Held) (i : ℕ) → Matches alive s → holds (alive i) in_pool ≡ false → allocation_of s.backed i ≡ None
unshared alive s i m none = go (allocation_of s.backed i) refl
  where
    go : (x : Option ℕ) → allocation_of s.backed i ≡ x → x ≡ None
    go None e = refl
    go (Some a) e = let both : true ≡ false = sym (m.pooled i a e) ∙ none in cc
