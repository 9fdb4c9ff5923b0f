-- What passes of defragmentations do to what is held.
use Rattle.std.specs.Prelude.{◌≡◌, ℕ, List, Contains, Bool, true, false, if◌then◌else◌, None, IsTrue, option_map}
use Rattle.vk_model.specs.declared.entry.Entry.{Entry}
use Rattle.vk_model.specs.Basics.{among, holds}
use Rattle.vk_model.specs.Trace.Point.{Past}
use Rattle.vk_model.specs.Trace.Objects.{live}
use Rattle.vk_model.specs.Rules.Ids.{is_resource}
use Rattle.vk_model.specs.Run.Caches.{Cell, dropped, written_back}
use Rattle.vk_model.specs.World.Bytes.{Byte, resource_at}
use Rattle.vk_backing.specs.Passing.{Passing, ArePassing, CopiesAgree}
use Rattle.vk_resources.specs.Passes.{SparesPasses}
use Rattle.vk_resources.specs.Held.{Held, IsThere, HasCell, placed, shape_of, byte_at, host_at, is_dirty}

-- Whether a byte is of one of these resources.
abbrev pub is_of_any : List ℕ → Byte → Bool
is_of_any ids c = among (resource_at c) ids

-- The host's cache has written back what it held of these resources that hadn't reached memory (VMA, "Defragmentation"; Vulkan, "Host Access to Device Memory Objects").
abbrev pub WritesBack : List ℕ → Held → Held → Type 0
WritesBack ids old new = (c : Byte) (cell : Cell) → IsThere old c → HasCell old c cell → HasCell new c (if is_of_any ids c then written_back 0 cell else cell)

-- The host's cache holds nothing any more of these resources, of which it held copies; and where a resource lies before and after it has the bytes that it had (VMA, "Defragmentation"; Vulkan, "Host Access to Device Memory Objects").
abbrev pub Drops : List ℕ → Held → Held → Type 0
Drops ids old new = (c : Byte) (cell : Cell) → IsThere old c → IsThere new c → HasCell old c cell → HasCell new c (if is_of_any ids c then dropped 0 cell else cell)

-- A resource is there, with the size and the shape that it had (VMA, "Defragmentation").
pub record KeepsForm (old new : Held) (i : ℕ) : Type 0 where
  pub size : option_map (λ p. p.size) (placed new i) ≡ option_map (λ p. p.size) (placed old i)
  pub shape : shape_of new i ≡ shape_of old i

-- At the end of a pass the destroyed resources are gone, and each other one has its form; one that didn't move lies where it lay (VMA, "Defragmentation").
pub record EndsResources (old new : Held) (moving destroyed : List ℕ) : Type 0 where
  pub gone : (i : ℕ) → Contains destroyed i → (placed new i ≡ None) × (shape_of new i ≡ None)
  pub forms : (i : ℕ) → (Contains destroyed i → ⊥) → KeepsForm old new i
  pub stays : (i : ℕ) → (Contains destroyed i → ⊥) → (Contains moving i → ⊥) → placed new i ≡ placed old i

-- The destroyed resources are live (Vulkan, "Object Lifetime").
abbrev pub AreLive : Past → List ℕ → Type 0
AreLive past ids = (i : ℕ) → Contains ids i → IsTrue (holds (live past i) is_resource)

-- All that the host has written to these resources has reached memory (Vulkan, "Host Access to Device Memory Objects").
abbrev pub AreClean : List ℕ → Held → Type 0
AreClean ids s = (c : Byte) → IsThere s c → is_of_any ids c ≡ true → is_dirty (host_at s c) ≡ false

-- Resources lie where they lay with the bytes that they had, in memory and in the host's cache.
pub record KeepsCells (old new : Held) : Type 0 where
  pub resources : new.resources ≡ old.resources
  pub shapes : new.shapes ≡ old.shapes
  pub backed : new.backed ≡ old.backed
  pub cache : new.cache ≡ old.cache
  pub bytes : (c : Byte) → byte_at new c ≡ byte_at old c

-- ---- parts that were copied

-- A test passes for no byte of these resources.
abbrev pub SparesBytes : List ℕ → (Byte → Bool) → Type 0
SparesBytes ids test = (c : Byte) → IsTrue (test c) → is_of_any ids c ≡ false

-- Where a test passes for no byte of what moves, the parts of the open pass that were copied stay so: their bytes are the same at both places (VMA, "Defragmentation").
abbrev pub KeepsCopies : Held → Held → (Byte → Bool) → Type 0
KeepsCopies old new test = (p : Passing) → ArePassing p old.backed → SparesBytes p.moving test → CopiesAgree p old.backed old.memory → CopiesAgree p new.backed new.memory

-- The same over an entry that spares what moves and what is defragmented (VMA, "Defragmentation").
abbrev pub KeepsSparedCopies : Entry → Held → Held → (Byte → Bool) → Type 0
KeepsSparedCopies x old new test = (p : Passing) → ArePassing p old.backed → SparesPasses p old.backed x → SparesBytes p.moving test → CopiesAgree p old.backed old.memory → CopiesAgree p new.backed new.memory
