use Rattle.std.proofs.Common.{◌≡◌, ◌∙◌, ℕ, List, [], ◌∷◌, ◌++◌, ap, sym, subst, refl, Some}
use Rattle.vk_model.specs.Memory.Pools.{empty_pool}
use Rattle.vma_pools.specs.State.{PoolsState, ArePools, Backs, allocation_at}
use Rattle.vk_backing.specs.Backed.{Backed, number_in, pool_of, info_by, LiesIn, IsBacked, IsWhole}
use Rattle.vk_backing.specs.Allotted.{allotted, Fulfils}
use Rattle.vk_backing.proofs.Pooling.{pool_unnamed, pool_named, pool_allotted}
use Rattle.vk_backing.specs.Steps.{MakesPool}
use Rattle.vk_backing.proofs.Keeping.{more_keeps}
use Rattle.vk_backing.proofs.Infos.{more_info, more_infos}
use Rattle.vk_backing.proofs.backing.Backing.pool.Goals as goal
use Rattle.vk_model.proofs.Lists.Keys.{other_key}

pub returns-in_err-insert-clause-backed : goal.returns-in_err-insert-clause-backed
returns-in_err-insert-clause-backed c =
    let f = c.self.inside in
    let b : Backed = record { owned = f.owned.entries; pools = f.pools; numbers = f.numbers.entries; allocations = f.allocations.entries } in
    λ m h.
    let backed : IsBacked b m = subst (λ (x : Backed). IsBacked x m) (sym c.self.view_is) h in
    let state = c.in_ok-number.ensures.ok.1 in
    subst (λ (n : List (ℕ × ℕ)). IsBacked (record b { pools = c.pool.new.self; numbers = n }) m) (sym c.in_err-insert.ensures.err)
    (subst (λ (s : PoolsState). IsBacked (record b { pools = s }) m) (sym state)
    (pool_unnamed b m backed c.args.info (subst ArePools state c.are_pools.ensures) (subst (λ (s : PoolsState). Backs s m) state (c.in_ok-number.ensures.backs m backed.backs))))

pub returns-clause-backed : goal.returns-clause-backed
returns-clause-backed c =
    let f = c.self.inside in
    let b : Backed = record { owned = f.owned.entries; pools = f.pools; numbers = f.numbers.entries; allocations = f.allocations.entries } in
    let updates = c.in_ok-insert.ensures.updates in
    λ m h.
    let backed : IsBacked b m = subst (λ (x : Backed). IsBacked x m) (sym c.self.view_is) h in
    let state = c.in_ok-number.ensures.ok.1 in
    subst (λ (s : PoolsState). IsBacked (record b { pools = s; numbers = c.insert.new.self.entries }) m) (sym state)
    (pool_named b m backed c.args.info c.args.id (ap (λ (x : Backed). pool_of x c.args.id) c.self.view_is ∙ c.requires.absent) c.insert.new.self.entries
    (updates.1 ∙ ap (λ (n : ℕ). Some n) c.in_ok-number.ensures.ok.0) (λ i other. updates.2 i (other_key c.args.id i other)) (subst ArePools state c.are_pools.ensures) (subst (λ (s : PoolsState). Backs s m) state (c.in_ok-number.ensures.backs m backed.backs)))

pub returns-clause-whole : goal.returns-clause-whole
returns-clause-whole c =
    let f = c.self.inside in
    let b : Backed = record { owned = f.owned.entries; pools = f.pools; numbers = f.numbers.entries; allocations = f.allocations.entries } in
    λ whole a x live.
    let w : IsWhole b = subst (λ (x : Backed). IsWhole x) (sym c.self.view_is) whole in
    w a x (ap (λ (s : PoolsState). allocation_at s a) (sym c.in_ok-number.ensures.ok.1) ∙ live)

pub returns-clause-allots : goal.returns-clause-allots
returns-clause-allots c =
    let f = c.self.inside in
    let b : Backed = record { owned = f.owned.entries; pools = f.pools; numbers = f.numbers.entries; allocations = f.allocations.entries } in
    let updates = c.in_ok-insert.ensures.updates in
    λ m h d is.
    let backed : IsBacked b m = subst (λ (x : Backed). IsBacked x m) (sym c.self.view_is) h in
    let state = c.in_ok-number.ensures.ok.1 in
    subst (λ (s : PoolsState). Fulfils (allotted (record b { pools = s; numbers = c.insert.new.self.entries }) m) (record d { pools = d.pools ++ record { id = c.args.id; pool = empty_pool c.args.info; residents = []; moves = [] } ∷ [] })) (sym state)
    (pool_allotted b m backed c.args.info c.args.id (ap (λ (x : Backed). pool_of x c.args.id) c.self.view_is ∙ c.requires.absent) c.insert.new.self.entries
    (updates.1 ∙ ap (λ (n : ℕ). Some n) c.in_ok-number.ensures.ok.0) (λ i other. updates.2 i (other_key c.args.id i other)) d (subst (λ (x : Backed). Fulfils (allotted x m) d) (sym c.self.view_is) is))

pub returns-clause-makes : goal.returns-clause-makes
returns-clause-makes c =
    let f = c.self.inside in
    let b : Backed = record { owned = f.owned.entries; pools = f.pools; numbers = f.numbers.entries; allocations = f.allocations.entries } in
    let updates = c.in_ok-insert.ensures.updates in
    let state = c.in_ok-number.ensures.ok.1 in let here = updates.1 ∙ ap (λ (n : ℕ). Some n) c.in_ok-number.ensures.ok.0 in
    let others : (i : ℕ) → (i ≡ c.args.id → ⊥) → number_in c.insert.new.self.entries i ≡ pool_of b i = λ i other. updates.2 i (other_key c.args.id i other) in
    let h : IsBacked b c.requires.backed.0 = subst (λ (x : Backed). IsBacked x c.requires.backed.0) (sym c.self.view_is) c.requires.backed.1 in
    subst (λ (x : Backed). MakesPool x (record b { pools = c.pool.new.self; numbers = c.insert.new.self.entries }) c.args.id c.args.info) c.self.view_is (record {
      pools = state;
      here = updates.1 ∙ ap (λ (n : ℕ). Some n) c.in_ok-number.ensures.ok.0;
      others = λ i other. updates.2 i (other_key c.args.id i other);
      owned = refl;
      allocations = refl;
      keeps = λ i q s l. subst (λ (x : PoolsState). LiesIn (record b { pools = x; numbers = c.insert.new.self.entries }) i q s) (sym state) (more_keeps b (Some (record { pool = empty_pool c.args.info; memories = [] })) c.insert.new.self.entries i q s l);
      made_with = subst (λ (x : PoolsState). info_by (record b { pools = x; numbers = c.insert.new.self.entries }) c.args.id ≡ Some c.args.info) (sym state) (more_info b c.requires.backed.0 h c.args.info c.args.id c.insert.new.self.entries here others);
      infos = λ i other. subst (λ (x : PoolsState). info_by (record b { pools = x; numbers = c.insert.new.self.entries }) i ≡ info_by b i) (sym state) (more_infos b c.requires.backed.0 h c.args.info c.args.id c.insert.new.self.entries here others i other);
    })
