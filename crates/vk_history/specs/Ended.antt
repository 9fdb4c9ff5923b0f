-- Which entry ended an id first.
use Rattle.std.specs.Prelude.{◌≡◌, ℕ, List, [], ◌∷◌, if◌then◌else◌, Option, Some, None, option_and_then}
use Rattle.std.specs.Option.{option_or}
use Rattle.std.specs.Ordering.{nat_cmp}
use Rattle.std.specs.BTreeMap.{get}
use Rattle.vk_model.specs.Basics.{among}
use Rattle.vk_model.specs.Trace.Point.{Past, host_of}
use Rattle.vk_model.specs.Trace.Objects.{ended_by}
use Rattle.vk_history.specs.declared.endings.Endings.{Endings}

-- The number of an entry that ends some ids, for one that is among them.
abbrev pub end_at : ℕ → ℕ → List ℕ → Option ℕ
end_at i e ids = if among i ids then Some e else None

-- The number of the first entry that ended an id.
abbrev pub first_end : Past → ℕ → Option ℕ
first_end [] i = None
first_end (p ∷ past) i = option_or (first_end past i) (option_and_then (λ x. end_at i p.entry (ended_by x)) (host_of p.action))

-- The first end of each id.
abbrev pub AreEndings : Endings → Past → Type 0
AreEndings endings past = (i : ℕ) → get nat_cmp endings.firsts i ≡ first_end past i

-- What an entry that ends some ids adds.
abbrev pub Ends : Endings → Endings → List ℕ → ℕ → Type 0
Ends old new ids e = (i : ℕ) → get nat_cmp new.firsts i ≡ option_or (get nat_cmp old.firsts i) (end_at i e ids)
