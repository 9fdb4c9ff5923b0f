-- OWNER_PAIR, element by element of a barrier.
use Rattle.std.specs.Prelude.{◌≡◌, ℕ, List, [], ◌∷◌, ◌++◌, Bool, true, false, Contains, Option, Some, None}
use Rattle.std.specs.List.{list_any, find}
use Rattle.std.specs.Ordering.{nat_cmp}
use Rattle.std.specs.BTreeMap.{get}
use Rattle.vk_model.specs.declared.command.Element.{Element}
use Rattle.vk_model.specs.declared.command.Families.{Families}
use Rattle.vk_model.specs.Trace.Objects.{is_exclusive}
use Rattle.vk_model.specs.Trace.Point.{Past, Point}
use Rattle.vk_model.specs.World.Bytes.{World, Owner, Family, Released}
use Rattle.vk_model.specs.World.Effect.{world, after_element}
use Rattle.vk_model.specs.World.Ownership.{family_of, is_release, named_by, families_of}
use Rattle.vk_model.specs.Sync.Node.{Node, Depends, Barrier, nodes}
use Rattle.vk_model.specs.Sync.Edge.{earlier}
use Rattle.vk_model.specs.Sync.Before.{before}
use Rattle.vk_model.specs.Rules.Owners.{families_differ, is_released, is_release_of, releases_resource}
use Rattle.vk_order.specs.Wide.{IsApartFrom}
use Rattle.vk_touches.specs.Touched.{next_node}
use Rattle.vk_rules.specs.declared.halves.Changed.{Changed}
use Rattle.vk_rules.specs.declared.owners.OwnerFault.{OwnerFault}
use Rattle.vk_rules.specs.declared.owners.Unpaired.{Unpaired}
use Rattle.vk_rules.specs.Owners.{IsFault}

-- Node n is of an element that comes at a point after some others of its barrier: it comes after the earlier points as if it came alone, and where those others don't release a resource, its last release is the last of the earlier points (profile).
pub record ComesAfter (past : Past) (p : Point) (done : List Element) (all : List Node) (n : Node) (e : Element) : Type 0 where
  pub point : n.point ≡ p
  pub apart : IsApartFrom (nodes past) (next_node past p (Depends Barrier e))
  pub alone : (m : Node) → Contains (nodes past) m → before all m n ≡ before (next_node past p (Depends Barrier e) ∷ nodes past) m (next_node past p (Depends Barrier e))
  pub releases : (r : ℕ) → list_any (releases_resource r p.queue) done ≡ false → find (is_release_of r) (earlier n all) ≡ find (is_release_of r) (nodes past)

-- What is kept of a resource while the elements of a barrier are judged on a queue: nothing where none of them changed its owner or released it; else whether it is released.
abbrev pub IsKept : Past → ℕ → Option Bool → List Element → Owner → ℕ → Type 0
IsKept past q None done o r = (o ≡ (world past).owner r) × (list_any (releases_resource r q) done ≡ false)
IsKept past q (Some true) done o r = (e : Element) × (o ≡ Released (family_of q) e) × (is_release q e ≡ true)
IsKept past q (Some false) done o r = o ≡ Family (family_of q)

-- The same of every resource.
abbrev pub AreChanged : Changed → Past → ℕ → List Element → World → Type 0
AreChanged changed past q done w = (r : ℕ) → IsKept past q (get nat_cmp changed.released r) done (w.owner r) r

-- Whether resource r, of which this is kept, is released.
abbrev pub is_released_now : Past → ℕ → Option Bool → Bool
is_released_now past r None = is_released ((world past).owner r)
is_released_now past r (Some b) = b

-- What is answered of an element, whether it is bad, and if it isn't what is kept after it.
abbrev pub Judges : (List Node → World → Node → Bool) → Past → Point → Element → Changed → Changed → Bool → Type 0
Judges is_bad past p e old new bad =
    (done : List Element) (w : World) (all : List Node) (n : Node) → ComesAfter past p done all n e → AreChanged old past p.queue done w
    → (bad ≡ is_bad all w n) × (bad ≡ false → AreChanged new past p.queue (done ++ e ∷ []) (after_element past (family_of p.queue) w e))

-- This doesn't fit of an element that names a resource and families, whatever of what is kept holds before it.
abbrev pub IsFaultNow : Past → Point → Element → ℕ → Families → Changed → OwnerFault → Type 0
IsFaultNow past p e r t old f = (done : List Element) (w : World) → AreChanged old past p.queue done w → IsFault p.queue e t (is_exclusive past r) (w.owner r) f

-- What is reported of element k, by what is kept before it.
pub record IsUnpairedAt (past : Past) (p : Point) (k : ℕ) (e : Element) (old : Changed) (m : Unpaired) : Type 0 where
  pub index : m.element ≡ k
  pub resource : named_by e ≡ Some m.resource
  pub families : families_of e ≡ Some m.families
  pub differ : families_differ m.families ≡ true
  pub fault : IsFaultNow past p e m.resource m.families old m.fault
