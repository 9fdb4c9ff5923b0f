use Rattle.std.proofs.Common.{◌≡◌, ◌∙◌, ℕ, Option, Some, refl, ap, sym, subst}
use Rattle.std.specs.Prelude.{IsSome}
use Rattle.vma_pools.specs.declared.allocations.Allocation.{Allocation}
use Rattle.vma_pools.specs.State.{IfLive, IsSpotOf}
use Rattle.vma_pools.proofs.CallLemmas.{live-holds}
use Rattle.vk_backing.specs.Backed.{Backed, allocation_of, IsBacked}
use Rattle.vk_backing.proofs.Passing.{spot_lies}
use Rattle.vk_backing.proofs.backing.Backing.place.Goals as goal

pub place-requires : goal.place-requires
place-requires c =
    let f = c.self.inside in
    let b : Backed = record { owned = f.owned.entries; pools = f.pools; numbers = f.numbers.entries; allocations = f.allocations.entries } in
    let h : IsBacked b c.requires.backed.0 = subst (λ (x : Backed). IsBacked x c.requires.backed.0) (sym c.self.view_is) c.requires.backed.1 in
    let s = h.shared c.args.id c.in-Some.allocation.now (sym c.in-Some.ensures.value) in
    subst (λ (o : Option Allocation). IsSome o) (sym s.live) refl

pub returns-in-Some-clause-lies : goal.returns-in-Some-clause-lies
returns-in-Some-clause-lies c =
    let b = c.args.self.now in let n : ℕ = c.in-Some.allocation.now in
    let has : allocation_of b c.args.id ≡ Some n = ap (λ (x : Backed). allocation_of x c.args.id) (sym c.self.view_is) ∙ sym c.in-Some.ensures.value in
    let s = c.requires.backed.1.shared c.args.id n has in
    let spot = subst (λ (x : Backed). IfLive x.pools n (λ a. IsSpotOf x.pools a.home a.asked c.place.result)) c.self.view_is c.place.ensures in
    (s.pool, spot_lies b c.args.id n has s.allocation s.live s.pool s.place s.lies c.place.result (live-holds b.pools n (λ a. IsSpotOf b.pools a.home a.asked c.place.result) spot s.allocation s.live))
