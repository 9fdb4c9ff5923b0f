-- POOL_KIND: what is compared. PASS_STATE, PASS_BUSY and PASS_WRITE: what is so of pools that are defragmented.
use Rattle.std.specs.Prelude.{◌≡◌, ℕ, ◌∷◌, ◌==◌, ◌&&◌, List, Bool, true, false, not, Option, Some, None, IsTrue, Contains, is_some, option_map, option_and_then}
use Rattle.std.specs.List.{list_any}
use Rattle.vk_model.specs.declared.entry.Entry.{Entry}
use Rattle.vk_model.specs.declared.entry.Entry.TheVariants as entry
use Rattle.vk_model.specs.declared.resource.PoolKind.{PoolKind}
use Rattle.vk_model.specs.Trace.Point.{Past, Point, Action, host_of}
use Rattle.vk_model.specs.Trace.Objects.{resource_in, pool, pool_of, live}
use Rattle.vk_model.specs.World.Bytes.{resource_at}
use Rattle.vk_model.specs.Sync.Node.{Node, Act, nodes, next_nodes, acts}
use Rattle.vk_model.specs.Sync.Access.{writes_of}
use Rattle.vk_model.specs.Sync.Complete.{is_busy}
use Rattle.vk_model.specs.Rules.Passes.{is_linear_kind, upper_pool, has_defrag, some_pass, in_pass, pool_in_pass, pool_of_defrag, pass_of}
use Rattle.vk_rules.specs.declared.passes.BusyResident.{BusyResident}
use Rattle.vk_rules.specs.declared.passes.InPass.{InPass}
use Rattle.vk_rules.specs.declared.passes.PassMisfit.{PassMisfit}
use Rattle.vk_rules.specs.declared.passes.PassMisfit.TheVariants as misfit
use Rattle.vk_rules.specs.declared.pools.PoolAsked.{PoolAsked}
use Rattle.vk_rules.specs.declared.pools.PoolAsked.TheVariants as asked
use Rattle.vk_rules.specs.declared.pools.PoolUse.{PoolUse}

-- ---- POOL_KIND

-- The pool that an entry asks to do something (VMA, "Linear allocation algorithm" and "Defragmentation").
abbrev pub pool_asked : Entry → PoolAsked → Option ℕ
pool_asked (entry.Defrag i p b m) asked.Defragments = Some p
pool_asked x asked.UpperEnd = option_and_then (λ r. upper_pool r.place) (resource_in x)
pool_asked _ asked.Defragments = None

-- Whether a pool can't do it: a linear one isn't defragmented, and only a linear one of one block has an upper end (VMA, "Linear allocation algorithm" and "Defragmentation").
abbrev pub is_unable : PoolAsked → PoolKind → ℕ → Bool
is_unable asked.Defragments kind blocks = is_linear_kind kind
is_unable asked.UpperEnd kind blocks = not (is_linear_kind kind && blocks == 1)

-- An entry asks this of a pool with this algorithm and so many blocks, and it can't do it.
abbrev pub IsPoolKind : Past → Entry → PoolUse → Type 0
IsPoolKind past x m =
    (pool_asked x m.asked ≡ Some m.pool) × (option_map (λ p. p.kind) (pool past m.pool) ≡ Some m.kind) × (option_map (λ p. p.block_limit) (pool past m.pool) ≡ Some m.block_limit)
    × (is_unable m.asked m.kind m.block_limit ≡ true)

-- ---- PASS_STATE

-- A resource, and its pool, of which a pass is open (VMA, "Defragmentation").
abbrev pub IsInPass : Past → InPass → Type 0
IsInPass past m = (pool_of past m.resource ≡ Some m.pool) × IsTrue (pool_in_pass past m.pool)

-- What is so of defragmentations and passes (VMA, "Defragmentation").
abbrev pub IsSoOfPasses : Past → PassMisfit → Type 0
IsSoOfPasses past (misfit.Defrag p) = IsTrue (has_defrag past p)
IsSoOfPasses past misfit.AnyPass = IsTrue (some_pass past)
IsSoOfPasses past (misfit.Pass d) = IsTrue (in_pass past d)
IsSoOfPasses past (misfit.NoPass d) = in_pass past d ≡ false
IsSoOfPasses past (misfit.Moving m) = IsInPass past m

-- What an entry doesn't fit (VMA, "Defragmentation"; one pass of all pools: profile).
abbrev pub IsMisfitOf : Entry → PassMisfit → Type 0
IsMisfitOf (entry.Defrag i p b n) (misfit.Defrag q) = q ≡ p
IsMisfitOf (entry.DropPool p) (misfit.Defrag q) = q ≡ p
IsMisfitOf (entry.Pass d) misfit.AnyPass = Unit {0}
IsMisfitOf (entry.EndDefrag d) (misfit.Pass e) = e ≡ d
IsMisfitOf (entry.EndPass d kept lost) (misfit.NoPass e) = e ≡ d
IsMisfitOf (entry.Destroy r) (misfit.Moving m) = m.resource ≡ r
IsMisfitOf _ _ = ⊥

-- What is reported of an entry that breaks PASS_STATE.
abbrev pub IsPassMisfit : Past → Entry → PassMisfit → Type 0
IsPassMisfit past x m = IsMisfitOf x m × IsSoOfPasses past m

-- ---- PASS_BUSY

-- What is reported of a point that begins or ends a pass: a live resource of the pool that is busy (VMA, "Defragmentation"; how that is known: profile).
pub record IsBusyResident (past : Past) (p : Point) (b : BusyResident) : Type 0 where
  pub pass : option_and_then pass_of (host_of p.action) ≡ Some b.defrag
  pub pool : pool_of_defrag past b.defrag ≡ Some b.pool
  pub lies : pool_of past b.resource ≡ Some b.pool
  pub lives : IsTrue (is_some (option_and_then resource_in (live past b.resource)))
  pub busy : (n : Node) → Contains (next_nodes past p) n → IsTrue (is_busy past (nodes (p ∷ past)) n b.resource)

-- ---- PASS_WRITE

-- Whether one of some acts on a queue writes a byte of a resource that passes a test (Vulkan, "Clear Commands", "Copy Commands" and "Image Layout Transitions").
abbrev pub acts_write : Past → ℕ → (ℕ → Bool) → List Act → Bool
acts_write past q test as' = list_any (λ a. list_any (λ b. test (resource_at b)) (writes_of past q a)) as'

-- What is reported of a point that breaks PASS_WRITE: a resource that it writes bytes of, in a pool of which a pass is open (VMA, "Defragmentation").
abbrev pub IsPassWrite : Past → Point → InPass → Type 0
IsPassWrite past p m = IsTrue (acts_write past p.queue (λ r. r == m.resource) (acts p.action)) × IsInPass past m
