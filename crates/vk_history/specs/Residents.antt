-- Which resources are kept of each pool.
use Rattle.std.specs.Prelude.{◌≡◌, ℕ, List, [], Some, Contains, option_and_then}
use Rattle.std.specs.Option.{option_map_or}
use Rattle.vk_ids.specs.Ids.{value_of}
use Rattle.vk_model.specs.declared.entry.Entry.{Entry}
use Rattle.vk_model.specs.Trace.Point.{Past}
use Rattle.vk_model.specs.Trace.Objects.{made_by, resource_in, pool_at, pool_of}
use Rattle.vk_history.specs.declared.residents.Residents.{Residents}

-- The resources that a table keeps of a pool.
abbrev pub residents_at : Residents → ℕ → List ℕ
residents_at residents q = option_map_or (λ v. v.items) (value_of residents.by_pool q) []

-- Each resource of a pool is kept there, also one that has ended.
abbrev pub AreResidents : Residents → Past → Type 0
AreResidents residents past = (r q : ℕ) → pool_of past r ≡ Some q → Contains (residents_at residents q) r

-- What an entry changes of them: those that were kept stay, and a resource that it creates in a pool is kept there.
pub record ResideBy (x : Entry) (old new : Residents) : Type 0 where
  pub kept : (q r : ℕ) → Contains (residents_at old q) r → Contains (residents_at new q) r
  pub here : (r q : ℕ) → made_by x ≡ Some r → option_and_then (λ s. pool_at s.place) (resource_in x) ≡ Some q → Contains (residents_at new q) r
