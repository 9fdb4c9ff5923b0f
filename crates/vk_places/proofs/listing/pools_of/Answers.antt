use Rattle.std.proofs.Common.{◌≡◌, ◌∙◌, ◌++◌, ℕ, List, [], ◌∷◌, map, Some, refl, sym, ap, subst}
use Rattle.std.specs.Prelude.{Contains, IsSome}
use Rattle.std.specs.BTreeMap.{get, is_at}
use Rattle.std.specs.Map.{lookup}
use Rattle.std.specs.Ordering.{nat_cmp}
use Rattle.std.specs.Map.Iter.{deref_pair}
use Rattle.std.proofs.lemmas.List.{map-append}
use Rattle.std.proofs.lemmas.List.Elements.{All-contains}
use Rattle.std.proofs.lemmas.Map.Iter.{iter_turn}
use Rattle.vk_model.proofs.Lists.Members.{place_has}
use Rattle.vma_pools.specs.State.{PoolsState, pool_at, IfKept}
use Rattle.vk_places.specs.declared.states.LivePool.{LivePool}
use Rattle.vk_places.specs.States.{IsPoolOf, ArePoolsOf}
use Rattle.vk_places.proofs.ListedPools.{pools_more}
use Rattle.vk_places.proofs.listing.pools_of.Goals as goal

pub pool_of-requires : goal.pool_of-requires
pool_of-requires c =
    let all = c.pool_numbers.result.now.entries in
    let turn = iter_turn deref_pair all c.loop-id.yielded _ c.loop-id.id-iterator c.next.new.self c.next.result (c.into_iter-id-iterator.ensures.into_iter_gives ∙ c.iter-id-items.ensures.rest) c.loop-id.yielded_by _ c.in-Some.is c.next.ensures.steps in
    let there : Contains all (c.in-Some.id.now, c.in-Some.number.now) = place_has all _ (c.in-Some.id.now, c.in-Some.number.now) turn.1 in
    let found : get nat_cmp c.pool_numbers.result.now c.in-Some.id.now ≡ Some c.in-Some.number.now = All-contains (λ (e : ℕ × ℕ). get nat_cmp c.pool_numbers.result.now e.0 ≡ Some e.1) all (c.in-Some.id.now, c.in-Some.number.now) c.iter-id-items.ensures.found there in
    let named = subst (λ (l : List (ℕ × ℕ)). lookup (is_at (nat_cmp c.in-Some.id.now)) l ≡ Some c.in-Some.number.now) c.pool_numbers.ensures found in
    subst (λ (s : PoolsState). IsSome (pool_at s c.in-Some.number.now)) (sym c.pools.ensures) (subst (λ o. IsSome o) (sym (c.requires.1.named c.in-Some.id.now c.in-Some.number.now named).1) refl)

pub loop-id-preserved : goal.loop-id-preserved
loop-id-preserved c =
    let all = c.pool_numbers.result.now.entries in
    let turn = iter_turn deref_pair all c.loop-id.yielded _ c.loop-id.id-iterator c.next.new.self c.next.result (c.into_iter-id-iterator.ensures.into_iter_gives ∙ c.iter-id-items.ensures.rest) c.loop-id.yielded_by _ c.in-Some.is c.next.ensures.steps in
    let there : Contains all (c.in-Some.id.now, c.in-Some.number.now) = place_has all _ (c.in-Some.id.now, c.in-Some.number.now) turn.1 in
    let found : get nat_cmp c.pool_numbers.result.now c.in-Some.id.now ≡ Some c.in-Some.number.now = All-contains (λ (e : ℕ × ℕ). get nat_cmp c.pool_numbers.result.now e.0 ≡ Some e.1) all (c.in-Some.id.now, c.in-Some.number.now) c.iter-id-items.ensures.found there in
    let named = subst (λ (l : List (ℕ × ℕ)). lookup (is_at (nat_cmp c.in-Some.id.now)) l ≡ Some c.in-Some.number.now) c.pool_numbers.ensures found in
    let new = subst (λ (s : PoolsState). IfKept s c.in-Some.number.now (IsPoolOf c.args.ranges.now c.in-Some.id.now c.in-Some.number.now c.in_ok-pool.pool)) c.pools.ensures c.in_ok-pool.ensures.pool in
    subst (λ (l : List (ℕ × ℕ)). ArePoolsOf c.args.backing.now c.args.ranges.now l c.push.new.self.items) (sym (map-append deref_pair c.loop-id.yielded _))
    (subst (λ (l : List LivePool). ArePoolsOf c.args.backing.now c.args.ranges.now (map deref_pair c.loop-id.yielded ++ (c.in-Some.id.now, c.in-Some.number.now) ∷ []) l) (sym c.in_ok-push.ensures.items)
    (pools_more c.args.backing.now c.args.ranges.now (map deref_pair c.loop-id.yielded) c.in-Some.id.now c.in-Some.number.now c.loop-id.pools.items c.in_ok-pool.pool c.in_ok-pool.ensures.named named new c.loop-id.invariant))
