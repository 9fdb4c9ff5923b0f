use Rattle.std.proofs.Common.{None, ◌≡◌, not, ◌==◌, sym, subst, refl}
use Rattle.std.specs.List.{filter}
use Rattle.vma_pools.specs.State.{PoolsState, ArePools, Backs, pool_at}
use Rattle.vk_backing.specs.Backed.{Backed, info_by, LiesIn, IsBacked, IsWhole}
use Rattle.vk_backing.specs.Allotted.{allotted, Fulfils}
use Rattle.vk_backing.specs.Steps.{IsUnused, DropsPool}
use Rattle.vk_backing.proofs.Grown.{there_some}
use Rattle.vk_backing.proofs.Pooling.{drop_backed, drop_allotted, unused_held, unused_empty}
use Rattle.vk_backing.proofs.Keeping.{less_keeps}
use Rattle.vk_backing.proofs.Infos.{less_info, less_infos}
use Rattle.vk_backing.proofs.backing.Backing.drop_pool.Goals as goal
use Rattle.vk_model.proofs.Lists.Keys.{other_key}

pub drop_pool-requires-clause-live : goal.drop_pool-requires-clause-live
drop_pool-requires-clause-live c =
    let f = c.self.inside in let m = c.requires.backed.0 in
    let b : Backed = record { owned = f.owned.entries; pools = f.pools; numbers = f.numbers.entries; allocations = f.allocations.entries } in
    let h : IsBacked b m = subst (λ (x : Backed). IsBacked x m) (sym c.self.view_is) c.requires.backed.1 in
    let k = h.named c.args.id c.in-Some.number (sym c.in-Some.ensures.value) in
    there_some (pool_at f.pools c.in-Some.number) k.0 k.1

pub drop_pool-requires-clause-unused : goal.drop_pool-requires-clause-unused
drop_pool-requires-clause-unused c =
    let f = c.self.inside in let m = c.requires.backed.0 in
    let b : Backed = record { owned = f.owned.entries; pools = f.pools; numbers = f.numbers.entries; allocations = f.allocations.entries } in
    let h : IsBacked b m = subst (λ (x : Backed). IsBacked x m) (sym c.self.view_is) c.requires.backed.1 in
    unused_held b m h (subst IsWhole (sym c.self.view_is) c.requires.whole) c.args.id c.in-Some.number (sym c.in-Some.ensures.value) (subst (λ (x : Backed). IsUnused x c.args.id) (sym c.self.view_is) c.requires.unused)

pub returns-in-Some-clause-backed : goal.returns-in-Some-clause-backed
returns-in-Some-clause-backed c =
    let f = c.self.inside in let id = c.args.id in let p = c.in-Some.number in
    let b : Backed = record { owned = f.owned.entries; pools = f.pools; numbers = f.numbers.entries; allocations = f.allocations.entries } in
    let whole = subst IsWhole (sym c.self.view_is) c.requires.whole in
    let unused = subst (λ (x : Backed). IsUnused x c.args.id) (sym c.self.view_is) c.requires.unused in
    let updates = c.in-Some.ensures.updates in
    λ m g.
    let h : IsBacked b m = subst (λ (x : Backed). IsBacked x m) (sym c.self.view_is) g in
    let k = h.named id p (sym c.in-Some.ensures.value) in
    let empty = unused_empty f.pools h.pools p k.0 k.1 (unused_held b m h whole id p (sym c.in-Some.ensures.value) unused) in
    subst (λ (s : PoolsState). IsBacked (record b { pools = s; numbers = c.remove.new.self.entries }) m) (sym c.drop_pool.ensures.dropped)
    (drop_backed b m h id p (sym c.in-Some.ensures.value) k.0 k.1 empty c.remove.new.self.entries updates.1 (λ i other. updates.2 i (other_key id i other)) (subst ArePools c.drop_pool.ensures.dropped c.are_pools.ensures) (subst (λ (s : PoolsState). Backs s m) c.drop_pool.ensures.dropped (c.drop_pool.ensures.backs m h.backs)))

pub returns-in-Some-clause-drops : goal.returns-in-Some-clause-drops
returns-in-Some-clause-drops c =
    let f = c.self.inside in let id = c.args.id in let p = c.in-Some.number in let m = c.requires.backed.0 in
    let b : Backed = record { owned = f.owned.entries; pools = f.pools; numbers = f.numbers.entries; allocations = f.allocations.entries } in
    let h : IsBacked b m = subst (λ (x : Backed). IsBacked x m) (sym c.self.view_is) c.requires.backed.1 in
    let whole = subst IsWhole (sym c.self.view_is) c.requires.whole in
    let unused = subst (λ (x : Backed). IsUnused x c.args.id) (sym c.self.view_is) c.requires.unused in
    let updates = c.in-Some.ensures.updates in
    let k = h.named id p (sym c.in-Some.ensures.value) in
    let empty = unused_empty f.pools h.pools p k.0 k.1 (unused_held b m h whole id p (sym c.in-Some.ensures.value) unused) in
    subst (λ (x : Backed). DropsPool x (record b { pools = c.drop_pool.new.self; numbers = c.remove.new.self.entries }) id) c.self.view_is (record {
      number = p;
      named = (sym c.in-Some.ensures.value);
      kept = k.0;
      there = k.1;
      empty = empty;
      pools = c.drop_pool.ensures.dropped;
      gone = updates.1;
      others = λ i other. updates.2 i (other_key id i other);
      owned = refl;
      allocations = refl;
      keeps = λ i q s l. subst (λ (x : PoolsState). LiesIn (record b { pools = x; numbers = c.remove.new.self.entries }) i q s) (sym c.drop_pool.ensures.dropped) (less_keeps b p k.0 k.1 empty c.remove.new.self.entries i q s l);
      no_info = subst (λ (x : PoolsState). info_by (record b { pools = x; numbers = c.remove.new.self.entries }) id ≡ None) (sym c.drop_pool.ensures.dropped) (less_info b m h id p (sym c.in-Some.ensures.value) c.remove.new.self.entries updates.1 (λ i other. updates.2 i (other_key id i other)));
      infos = λ i other. subst (λ (x : PoolsState). info_by (record b { pools = x; numbers = c.remove.new.self.entries }) i ≡ info_by b i) (sym c.drop_pool.ensures.dropped) (less_infos b m h id p (sym c.in-Some.ensures.value) c.remove.new.self.entries updates.1 (λ i other. updates.2 i (other_key id i other)) i other);
    })

pub returns-in-Some-clause-allots : goal.returns-in-Some-clause-allots
returns-in-Some-clause-allots c =
    let f = c.self.inside in let id = c.args.id in let p = c.in-Some.number in
    let b : Backed = record { owned = f.owned.entries; pools = f.pools; numbers = f.numbers.entries; allocations = f.allocations.entries } in
    let whole = subst IsWhole (sym c.self.view_is) c.requires.whole in
    let unused = subst (λ (x : Backed). IsUnused x c.args.id) (sym c.self.view_is) c.requires.unused in
    let updates = c.in-Some.ensures.updates in
    λ m g d is.
    let h : IsBacked b m = subst (λ (x : Backed). IsBacked x m) (sym c.self.view_is) g in
    let k = h.named id p (sym c.in-Some.ensures.value) in
    let empty = unused_empty f.pools h.pools p k.0 k.1 (unused_held b m h whole id p (sym c.in-Some.ensures.value) unused) in
    subst (λ (s : PoolsState). Fulfils (allotted (record b { pools = s; numbers = c.remove.new.self.entries }) m) (record d { pools = filter (λ q. not (q.id == id)) d.pools })) (sym c.drop_pool.ensures.dropped)
    (drop_allotted b m h id p (sym c.in-Some.ensures.value) k.0 k.1 empty c.remove.new.self.entries updates.1 (λ i other. updates.2 i (other_key id i other)) d (subst (λ (x : Backed). Fulfils (allotted x m) d) (sym c.self.view_is) is))
