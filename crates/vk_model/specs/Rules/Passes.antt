-- The rules on pools and their defragmentation: POOL_KIND, PASS_STATE, PASS_BUSY, PASS_WRITE.
use Rattle.std.specs.Prelude.{ℕ, List, Bool, true, false, not, ◌&&◌, ◌==◌, nat_lt, Option, Some, None, option_and_then, count_by}
use Rattle.std.specs.List.{list_any}
use Rattle.vk_model.specs.declared.entry.Entry.{Entry}
use Rattle.vk_model.specs.declared.entry.Entry.TheVariants as entry
use Rattle.vk_model.specs.declared.resource.PoolInfo.{PoolInfo}
use Rattle.vk_model.specs.declared.resource.PoolKind.{PoolKind}
use Rattle.vk_model.specs.declared.resource.PoolKind.TheVariants as pool_kind
use Rattle.vk_model.specs.declared.resource.Place.{Place}
use Rattle.vk_model.specs.declared.resource.Place.TheVariants as place
use Rattle.vk_model.specs.Basics.{holds}
use Rattle.vk_model.specs.Trace.Point.{Past, Point, entries, on_host}
use Rattle.vk_model.specs.Trace.Objects.{pool, live, live_of, resource_in, defrag_in, pool_of}
use Rattle.vk_model.specs.World.Bytes.{resource_at}
use Rattle.vk_model.specs.Sync.Node.{acts}
use Rattle.vk_model.specs.Sync.Access.{writes_of}
use Rattle.vk_model.specs.Sync.Complete.{some_busy}

-- ---- POOL_KIND

-- Whether a pool's algorithm is the linear one (VMA, "Linear allocation algorithm").
abbrev pub is_linear_kind : PoolKind → Bool
is_linear_kind pool_kind.Tlsf = false
is_linear_kind pool_kind.Linear = true

-- The pool of a place at the upper end (VMA, "Linear allocation algorithm", on double stacks).
abbrev pub upper_pool : Place → Option ℕ
upper_pool (place.PoolUpper p) = Some p
upper_pool _ = None

-- Whether a pool has no upper end: it isn't linear, or may have several blocks (VMA, "Linear allocation algorithm").
abbrev pub has_no_upper : PoolInfo → Bool
has_no_upper p = not (is_linear_kind p.kind && p.block_limit == 1)

-- Whether an entry defragments a linear pool, or asks for the upper end of a pool that has none.
abbrev pub bad_pool_kind : Past → Entry → Bool
bad_pool_kind past (entry.Defrag i p b m) = holds (pool past p) (λ x. is_linear_kind x.kind)
bad_pool_kind past x = holds (resource_in x) (λ r. holds (option_and_then (pool past) (upper_pool r.place)) has_no_upper)

-- POOL_KIND: a pool whose algorithm can't do it (VMA, "Linear allocation algorithm" and "Defragmentation").
abbrev pub breaks_pool_kind : Past → Point → Bool
breaks_pool_kind past p = on_host (bad_pool_kind past) p

-- ---- PASS_STATE

-- The defragmentation whose pass an entry begins (VMA, "Defragmentation").
abbrev pub begins : Entry → Option ℕ
begins (entry.Pass d) = Some d
begins _ = None

-- The defragmentation whose pass an entry ends (VMA, "Defragmentation").
abbrev pub finishes : Entry → Option ℕ
finishes (entry.EndPass d kept lost) = Some d
finishes _ = None

-- How many entries are of this form with defragmentation d.
abbrev pub count_of : Past → ℕ → (Entry → Option ℕ) → ℕ
count_of past d form = count_by (λ x. holds (form x) (λ e. e == d)) (entries past)

-- Whether a pass of a defragmentation has begun and not ended (VMA, "Defragmentation").
abbrev pub in_pass : Past → ℕ → Bool
in_pass past d = nat_lt (count_of past d finishes) (count_of past d begins)

-- The defragmentations that have begun and not ended.
abbrev pub defrags : Past → List ℕ
defrags past = live_of defrag_in past

-- The pool of a defragmentation that hasn't ended (VMA, "Defragmentation").
abbrev pub pool_of_defrag : Past → ℕ → Option ℕ
pool_of_defrag past d = option_and_then defrag_in (live past d)

-- Whether defragmentation d is of pool p.
abbrev pub is_of_pool : Past → ℕ → ℕ → Bool
is_of_pool past p d = holds (pool_of_defrag past d) (λ q. p == q)

-- Whether a pool has a defragmentation that hasn't ended.
abbrev pub has_defrag : Past → ℕ → Bool
has_defrag past p = list_any (is_of_pool past p) (defrags past)

-- Whether a pass of any pool is open.
abbrev pub some_pass : Past → Bool
some_pass past = list_any (in_pass past) (defrags past)

-- Whether a pass of a pool is open.
abbrev pub pool_in_pass : Past → ℕ → Bool
pool_in_pass past p = list_any (λ d. in_pass past d && is_of_pool past p d) (defrags past)

-- Whether a pass of a resource's pool is open.
abbrev pub moves_now : Past → ℕ → Bool
moves_now past r = holds (pool_of past r) (pool_in_pass past)

-- What an entry needs of passes: one defragmentation of a pool, one pass at a time, each pass ended before its defragmentation, and nothing of the pool destroyed meanwhile (VMA, "Defragmentation"; one pass of all pools: profile).
abbrev pub bad_pass : Past → Entry → Bool
bad_pass past (entry.Defrag i p b m) = has_defrag past p
bad_pass past (entry.DropPool p) = has_defrag past p
bad_pass past (entry.Pass d) = some_pass past
bad_pass past (entry.EndDefrag d) = in_pass past d
bad_pass past (entry.EndPass d kept lost) = not (in_pass past d)
bad_pass past (entry.Destroy r) = moves_now past r
bad_pass past _ = false

-- PASS_STATE: an entry that doesn't fit the passes that are open (VMA, "Defragmentation"). Other entries may come inside a pass.
abbrev pub breaks_pass_state : Past → Point → Bool
breaks_pass_state past p = on_host (bad_pass past) p

-- ---- PASS_BUSY and PASS_WRITE

-- The defragmentation whose pass an entry begins or ends.
abbrev pub pass_of : Entry → Option ℕ
pass_of (entry.Pass d) = Some d
pass_of (entry.EndPass d kept lost) = Some d
pass_of _ = None

-- Whether an entry at a point begins or ends a pass of a pool with a busy resource.
abbrev pub passes_busy : Past → Point → Entry → Bool
passes_busy past p x = holds (option_and_then (pool_of_defrag past) (pass_of x)) (λ q. some_busy past p (λ r. holds (pool_of past r) (λ s. q == s)))

-- PASS_BUSY: a pass begins or ends, and a submitted command that names a resource of the pool isn't known complete (VMA, "Defragmentation"; how that is known: profile).
abbrev pub breaks_pass_busy : Past → Point → Bool
breaks_pass_busy past p = on_host (passes_busy past p) p

-- PASS_WRITE: the host, a command or a transition writes a resource of a pool inside a pass (VMA, "Defragmentation").
abbrev pub breaks_pass_write : Past → Point → Bool
breaks_pass_write past p = list_any (λ a. list_any (λ b. moves_now past (resource_at b)) (writes_of past p.queue a)) (acts p.action)
