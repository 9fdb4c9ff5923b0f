-- Ends of passes that list resources of other pools.
use Rattle.std.specs.Prelude.{◌≡◌, ◌==◌, ◌++◌, ℕ, List, Bool, true, not, Some, Contains, option_and_then}
use Rattle.vk_model.specs.declared.entry.Entry.{Entry}
use Rattle.vk_model.specs.declared.entry.Entry.TheVariants as entry
use Rattle.vk_model.specs.Basics.{holds}
use Rattle.vk_model.specs.Trace.Point.{Past, Action, Host}
use Rattle.vk_model.specs.Trace.Objects.{live, defrag_in, pool_of}
use Rattle.vk_model.specs.Rules.Ids.{is_stray}
use Rattle.vk_hazards.specs.declared.strays.StrayId.{StrayId}
use Rattle.vk_hazards.specs.Lives.{IsLife}

-- Whether a resource isn't in a pool (VMA, "Custom memory pools").
abbrev pub is_outside : Past → ℕ → ℕ → Bool
is_outside past q r = not (holds (pool_of past r) (λ p. p == q))

-- One of some ids isn't in the pool of a defragmentation; its pool, and what became of the id (VMA, "Defragmentation").
pub record IsListed (past : Past) (d : ℕ) (ids : List ℕ) (s : StrayId) : Type 0 where
  pub defrag : s.defrag ≡ d
  pub pool : option_and_then defrag_in (live past d) ≡ Some s.pool
  pub listed : Contains ids s.life.id
  pub stray : is_stray past d s.life.id ≡ true
  pub life : IsLife past s.life.id s.life

-- What is reported of an entry that lists a resource of another pool: an end of a pass, one of its ids, and what became of it (VMA, "Defragmentation").
abbrev pub IsStrayIn : Past → Entry → StrayId → Type 0
IsStrayIn past (entry.EndPass d kept lost) s = IsListed past d (kept ++ lost) s
IsStrayIn past _ s = ⊥

-- What is reported of an action that does.
abbrev pub IsStray : Past → Action → StrayId → Type 0
IsStray past (Host x) s = IsStrayIn past x s
IsStray past _ s = ⊥
