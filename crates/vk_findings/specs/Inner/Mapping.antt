-- Maps and unmaps of what is mapped with resources.
use Rattle.std.specs.Prelude.{◌||◌, ◌==◌, ℕ, Bool, Option, count_by}
use Rattle.vk_model.specs.declared.entry.Entry.{Entry}
use Rattle.vk_model.specs.Basics.{holds}
use Rattle.vk_model.specs.Trace.Point.{Past, entries}
use Rattle.vk_model.specs.Rules.Mapping.{mapping, maps, unmaps}
use Rattle.vk_findings.specs.declared.mappings.Form.{Form}
use Rattle.vk_findings.specs.declared.mappings.Form.TheVariants as form

-- The buffer of an entry that is of a form.
abbrev pub form_of : Form → Entry → Option ℕ
form_of form.Maps = maps
form_of form.Unmaps = unmaps

-- Whether an entry is of a form with a buffer of a mapping.
abbrev pub is_form : Past → (Entry → Option ℕ) → ℕ → Entry → Bool
is_form past form k x = holds (form x) (λ b. mapping past b == k)

-- How many entries are.
abbrev pub counted : Past → (Entry → Option ℕ) → ℕ → Past → ℕ
counted past form k seen = count_by (is_form past form k) (entries seen)

-- Whether an entry maps or unmaps a buffer of a mapping.
abbrev pub moves : Past → ℕ → Entry → Bool
moves past k x = is_form past maps k x || is_form past unmaps k x
