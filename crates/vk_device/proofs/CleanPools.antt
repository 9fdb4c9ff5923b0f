-- What the rules promise of pools, and of what a resource asks of one.
use Rattle.std.proofs.Common.{◌≡◌, ℕ, ◌+◌, ◌*◌, ◌/◌, ◌%◌, ◌≤◌, [], false, ◌||◌, ◌==◌, not, nat_lt, refl, ap, arith, Some}
use Rattle.std.specs.Prelude.{IsTrue, Contains, option_and_then}
use Rattle.std.proofs.lemmas.Bool.{eqb-true, or_parts}
use Rattle.std.proofs.Math.Nat.{div-add-mod}
use Rattle.vk_model.specs.declared.entry.Entry.{Entry}
use Rattle.vk_model.specs.declared.entry.Entry.TheVariants as entry
use Rattle.vk_model.specs.declared.resource.PoolInfo.{PoolInfo}
use Rattle.vk_model.specs.Basics.{holds}
use Rattle.vk_model.specs.Memory.Suballocation.{IsRequest}
use Rattle.vk_model.specs.Rules.Ids.{is_pool, asked_by_entry}
use Rattle.vk_model.specs.Rules.Sizes.{is_outside, bad_pool}
use Rattle.vk_model.specs.Trace.Objects.{Resource, made, live, pool, pool_in, pool_at, resource_in}
use Rattle.vk_model.specs.Trace.Point.{Past, Point, Host}
use Rattle.vk_model.proofs.Lists.Members.{contains-head}
use Rattle.vk_laws.proofs.Living.Alive.{is_alive}
use Rattle.vma_blocks.specs.PoolInfos.{IsPoolInfo}
use Rattle.vk_resources.specs.Fits.{IsUnused, FitsPool, FitsEntry}
use Rattle.vk_resources.proofs.Requests.{units, of_parts}
use Rattle.vk_device.proofs.Unbroken.{BreaksNone, not-false, not_above, not_zero, entry_size, names_live, used_none, over_half_none}

-- ---- a place in a pool

-- what a live pool was made with
live_pool : (past : Past) (q : ℕ) → IsTrue (holds (live past q) is_pool) → (info : PoolInfo) × (option_and_then pool_in (live past q) ≡ Some info) × (pool past q ≡ Some info)
live_pool past q alive = let a = is_alive past q is_pool alive in go a.object a.is_kind a.made_it (rw (a.unended, a.made_it) refl)
  where
    go : (y : Entry) → IsTrue (is_pool y) → made past q ≡ Some y → live past q ≡ Some y → (info : PoolInfo) × (option_and_then pool_in (live past q) ≡ Some info) × (pool past q ≡ Some info)
    go (entry.Pool i info) h is lives = (info, ap (option_and_then pool_in) lives, ap (option_and_then pool_in) is)
    go _ h is lives = absurd cc

pub pool_fits : (past : Past) (p : Point) (x : Entry) (r : Resource) (q : ℕ) → p.action ≡ Host x → resource_in x ≡ Some r → pool_at r.place ≡ Some q → Contains (asked_by_entry x) (q, is_pool) → BreaksNone past p → IsRequest r.size r.align → FitsPool past r q
pool_fits past p x r q is makes at asks none request =
    let a = live_pool past q (names_live past p none x q is_pool is asks) in
    let half : nat_lt a.0.block_size (2 * r.size) ≡ false = rw (makes, at, a.2) at (over_half_none past p none x is) in
    let le : 2 * r.size ≤ a.0.block_size = not_above a.0.block_size (2 * r.size) half in
    (rw a.1 (omega arith), request)

-- ---- pools themselves

pool_info : (info : PoolInfo) → bad_pool info ≡ false → IsPoolInfo info
pool_info info good =
    let two = or_parts (not (info.block_size % 1024 == 0) || is_outside 16777216 info.block_size) (is_outside 64 info.block_limit) good in
    let one = or_parts (not (info.block_size % 1024 == 0)) (is_outside 16777216 info.block_size) two.0 in
    let bounds = or_parts (info.block_size == 0) (nat_lt 16777216 info.block_size) one.1 in
    let rest : info.block_size % 1024 ≡ 0 = eqb-true (info.block_size % 1024) 0 (not-false (info.block_size % 1024 == 0) one.0) in
    let parts : 1024 * (info.block_size / 1024) + info.block_size % 1024 ≡ info.block_size = div-add-mod info.block_size 1024 in
    let most : info.block_size ≤ 16777216 = not_above 16777216 info.block_size bounds.1 in
    record {
      some = not_zero info.block_size bounds.0;
      units = units info.block_size (of_parts info.block_size (info.block_size / 1024 * 64) (omega (arith, rest, parts)));
      small = omega arith;
    }

pub pool_point : (past : Past) (p : Point) (i : ℕ) (info : PoolInfo) → p.action ≡ Host (entry.Pool i info) → IsUnused past i → BreaksNone past p → FitsEntry past (entry.Pool i info)
pool_point past p i info is unused none = (unused, pool_info info (entry_size past p none (entry.Pool i info) is))

pub drop_point : (past : Past) (p : Point) (q : ℕ) → p.action ≡ Host (entry.DropPool q) → BreaksNone past p → FitsEntry past (entry.DropPool q)
drop_point past p q is none = (names_live past p none (entry.DropPool q) q is_pool is (contains-head (q, is_pool) []), used_none past p none (entry.DropPool q) is)
