-- Which resources commands use, which elements barriers have, and what an element does with the ownership of its resource.
use Rattle.std.specs.Prelude.{ℕ, List, [], ◌∷◌, Bool, true, false, not, ◌==◌, nat_lt, if◌then◌else◌, Option, Some, None}
use Rattle.vk_model.specs.declared.command.Cmd.{Cmd}
use Rattle.vk_model.specs.declared.command.Cmd.TheVariants as cmd
use Rattle.vk_model.specs.declared.command.Dependency.{Dependency}
use Rattle.vk_model.specs.declared.command.Element.{Element}
use Rattle.vk_model.specs.declared.command.Element.TheVariants as element
use Rattle.vk_model.specs.declared.command.ImageElement.{ImageElement}
use Rattle.vk_model.specs.declared.command.Families.{Families}

-- The family of a queue: 0 and 1 are of family 0, 2 and 3 of family 1 (Vulkan, "Queue Family Properties"; the numbers: profile).
abbrev pub family_of : ℕ → ℕ
family_of queue = if nat_lt queue 2 then 0 else 1

-- The resources that a clear or copy command uses, its source first (Vulkan, "Clear Commands" and "Copy Commands").
abbrev pub uses : Cmd → List ℕ
uses (cmd.Fill b o n w) = b ∷ []
uses (cmd.Update b o bytes) = b ∷ []
uses (cmd.Copy s d gs) = s ∷ d ∷ []
uses (cmd.Clear i l color rs) = i ∷ []
uses (cmd.CopyIn b i l gs) = b ∷ i ∷ []
uses (cmd.CopyOut i l b gs) = i ∷ b ∷ []
uses (cmd.CopyImage s l d m gs) = s ∷ d ∷ []
uses _ = []

-- The elements of a barrier (Vulkan, "Pipeline Barriers").
abbrev pub elements_of : Cmd → List Element
elements_of (cmd.Barrier es) = es
elements_of _ = []

-- The scopes of an element (Vulkan, "Memory Barriers").
abbrev pub dependency_of : Element → Dependency
dependency_of (element.Memory d) = d
dependency_of (element.Buffer e) = e.dependency
dependency_of (element.Image e) = e.dependency

-- The resource that an element names; one of all memory names none (Vulkan, "Memory Barriers").
abbrev pub named_by : Element → Option ℕ
named_by (element.Memory d) = None
named_by (element.Buffer e) = Some e.buffer
named_by (element.Image e) = Some e.image

-- The queue families that an element names (Vulkan, "Queue Family Ownership Transfer").
abbrev pub families_of : Element → Option Families
families_of (element.Memory d) = None
families_of (element.Buffer e) = Some e.families
families_of (element.Image e) = Some e.families

-- What an element does with ownership: nothing, as its families are equal; one half of a transfer; or neither, as the queue is of no family that it names (Vulkan, "Queue Family Ownership Transfer").
pub data Transfer : Type 0 where
  Stays : Transfer
  Release : Transfer
  Acquire : Transfer
  Neither : Transfer

-- What it does on a queue of family f (Vulkan, "Queue Family Ownership Transfer").
abbrev pub transfer : ℕ → Families → Transfer
transfer f t =
    if t.source == t.destination then Stays
    else if t.source == f then Release
    else if t.destination == f then Acquire
    else Neither

-- What an element does on a queue.
abbrev pub transfer_on : ℕ → Element → Transfer
transfer_on q e = elim (families_of e) [ None ↦ Stays | Some t ↦ transfer (family_of q) t ]

-- Whether it's the second half of a transfer.
abbrev pub acquires : Transfer → Bool
acquires Acquire = true
acquires _ = false

-- Whether it's the first half of a transfer.
abbrev pub releases : Transfer → Bool
releases Release = true
releases _ = false

-- Whether an element on a queue is an acquire (Vulkan, "Queue Family Ownership Transfer").
abbrev pub is_acquire : ℕ → Element → Bool
is_acquire q e = acquires (transfer_on q e)

-- Whether an element on a queue is a release (Vulkan, "Queue Family Ownership Transfer").
abbrev pub is_release : ℕ → Element → Bool
is_release q e = releases (transfer_on q e)

-- Whether an image element is a layout transition: its layouts differ (Vulkan, "Image Layout Transitions"; equal layouts do nothing).
abbrev pub is_transition : ImageElement → Bool
is_transition e = not (e.old_layout == e.new_layout)
