-- Points that begin defragmentations and passes which haven't ended.
use Rattle.std.specs.Prelude.{◌≡◌, ◌==◌, ◌&&◌, ℕ, Bool, Option, Some, IsTrue, is_some}
use Rattle.std.specs.List.{find}
use Rattle.vk_model.specs.declared.entry.Entry.{Entry}
use Rattle.vk_model.specs.Basics.{holds}
use Rattle.vk_model.specs.Trace.Point.{Past, on_host}
use Rattle.vk_model.specs.Trace.Objects.{made_by}
use Rattle.vk_model.specs.Rules.Passes.{begins, has_defrag, in_pass, is_of_pool, pool_in_pass, pool_of_defrag, some_pass}
use Rattle.vk_model.specs.Trace.PointViews.{point_of}
use Rattle.vk_findings.specs.declared.begun.Begun.{Begun}
use Rattle.vk_findings.specs.declared.begun.Sought.{Sought}
use Rattle.vk_findings.specs.declared.begun.Sought.TheVariants as sought
use Rattle.vk_findings.specs.Defrags.{of_defrag}

-- The id that an entry makes, or the defragmentation that it begins a pass of.
abbrev pub form_of : Sought → Entry → Option ℕ
form_of (sought.Defrag p) = made_by
form_of _ = begins

-- Whether a defragmentation is sought, or its pass.
abbrev pub is_sought : Past → Sought → ℕ → Bool
is_sought past (sought.Defrag p) d = is_of_pool past p d
is_sought past sought.AnyPass d = is_some (pool_of_defrag past d) && in_pass past d
is_sought past (sought.PassIn p) d = is_of_pool past p d && in_pass past d
is_sought past (sought.PassOf e) d = d == e && in_pass past d

-- Whether there is one.
abbrev pub is_there : Past → Sought → Bool
is_there past (sought.Defrag p) = has_defrag past p
is_there past sought.AnyPass = some_pass past
is_there past (sought.PassIn p) = pool_in_pass past p
is_there past (sought.PassOf e) = in_pass past e

-- Whether an entry begins one.
abbrev pub begins_sought : Past → Sought → Entry → Bool
begins_sought past s x = holds (form_of s x) (is_sought past s)

-- A defragmentation is sought, or its pass, and this is the newest point that began it.
abbrev pub IsBegun : Past → Sought → Begun → Type 0
IsBegun past s b = IsTrue (is_sought past s b.defrag) × (find (on_host (of_defrag (form_of s) b.defrag)) past ≡ Some (point_of b.point))
