-- What `requirements` answers (Vulkan, "Resource Memory Association").
use Rattle.std.specs.Prelude.{◌≡◌, ◌<◌, ℕ, [], ◌∷◌, Option, Some, None, Result, Ok, Err}
use Rattle.vk_model.specs.declared.entry.Entry.TheVariants as entry
use Rattle.vk_model.specs.declared.resource.BufferInfo.{BufferInfo}
use Rattle.vk_model.specs.declared.resource.Need.{Need}
use Rattle.vk_model.specs.declared.rule.Rule.{Rule}
use Rattle.vk_model.specs.declared.rule.Rule.TheVariants as rule
use Rattle.vk_model.specs.Basics.{first_that}
use Rattle.vk_model.specs.Memory.Addresses.{need_of}
use Rattle.vk_model.specs.Rules.Table.{breaks}
use Rattle.vk_model.specs.Trace.Objects.{of_buffer}
use Rattle.vk_model.specs.Trace.Point.{Past, Point, Host}

-- A point makes this buffer (Vulkan, "Buffers").
abbrev pub Makes : Point → BufferInfo → Type 0
Makes p b = (id : ℕ) × (p.action ≡ Host (entry.Buffer id b))

-- The first of SIZE, USAGE and MEMORY_SIZE that a point breaks, in the order of the table of rules (profile).
abbrev pub first_asked : Past → Point → Option Rule
first_asked past p = first_that (λ r. breaks r past p) (rule.Size ∷ rule.Usage ∷ rule.MemorySize ∷ [])

-- The rule that is broken, or else the need.
abbrev pub need_or : Option Rule → Need → Result Need Rule
need_or None need = Ok need
need_or (Some r) need = Err r

-- What a buffer asks of memory, or the first rule that making it breaks.
abbrev pub IsAnswerFor : Result Need Rule → BufferInfo → Type 0
IsAnswerFor answer b = (past : Past) (p : Point) → Makes p b → answer ≡ need_or (first_asked past p) (need_of (of_buffer b))

-- What each resource asks: some bytes, at a multiple of some number (Vulkan, "Resource Memory Association", on `VkMemoryRequirements`).
pub record IsNeed (need : Need) : Type 0 where
  pub some : 0 < need.size
  pub aligned : 0 < need.align
