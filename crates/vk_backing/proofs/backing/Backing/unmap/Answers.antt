use Rattle.std.proofs.Common.{◌-◌, ◌∙◌, ap, sym, subst}
use Rattle.vma_pools.specs.State.{allocation_at}
use Rattle.vk_backing.specs.Backed.{Backed, mapping_of, IsBacked, IsWhole}
use Rattle.vk_backing.specs.Allotted.{allotted, Fulfils}
use Rattle.vk_backing.specs.Steps.{Maps}
use Rattle.vk_backing.proofs.Grown.{there_some}
use Rattle.vk_backing.proofs.Mapping.{mapping_live, counted_maps, counted_backed, counted_whole, counted_allotted}
use Rattle.vk_backing.proofs.backing.Backing.unmap.Goals as goal

pub unmap_once-requires : goal.unmap_once-requires
unmap_once-requires c =
    let f = c.self.inside in let m = c.requires.backed.0 in
    let b : Backed = record { owned = f.owned.entries; pools = f.pools; numbers = f.numbers.entries; allocations = f.allocations.entries } in
    let h : IsBacked b m = subst (λ (x : Backed). IsBacked x m) (sym c.self.view_is) c.requires.backed.1 in
    let l = mapping_live b m h c.args.id c.in-Some.allocation (ap (λ (x : Backed). mapping_of x c.args.id) c.self.view_is ∙ sym c.in-Some.ensures) in
    there_some (allocation_at f.pools c.in-Some.allocation) l.0 l.1

pub returns-clause-maps : goal.returns-clause-maps
returns-clause-maps c =
    let f = c.self.inside in let m = c.requires.backed.0 in
    let b : Backed = record { owned = f.owned.entries; pools = f.pools; numbers = f.numbers.entries; allocations = f.allocations.entries } in
    let h : IsBacked b m = subst (λ (x : Backed). IsBacked x m) (sym c.self.view_is) c.requires.backed.1 in
    subst (λ (x : Backed). Maps x (record b { pools = c.unmap_once.new.pools }) c.args.id (λ n. n - 1)) c.self.view_is
    (counted_maps b m h c.args.id c.in-Some.allocation (ap (λ (x : Backed). mapping_of x c.args.id) c.self.view_is ∙ sym c.in-Some.ensures) (λ n. n - 1) c.unmap_once.new.pools c.unmap_once.ensures.counts)

pub returns-clause-backed : goal.returns-clause-backed
returns-clause-backed c =
    let f = c.self.inside in
    let b : Backed = record { owned = f.owned.entries; pools = f.pools; numbers = f.numbers.entries; allocations = f.allocations.entries } in
    λ m backed.
    let h : IsBacked b m = subst (λ (x : Backed). IsBacked x m) (sym c.self.view_is) backed in
    counted_backed b m h c.args.id c.in-Some.allocation (ap (λ (x : Backed). mapping_of x c.args.id) c.self.view_is ∙ sym c.in-Some.ensures) (λ n. n - 1) c.unmap_once.new.pools c.unmap_once.ensures.counts c.are_pools.ensures (c.unmap_once.ensures.backs m h.backs)

pub returns-clause-whole : goal.returns-clause-whole
returns-clause-whole c =
    let f = c.self.inside in let m = c.requires.backed.0 in
    let b : Backed = record { owned = f.owned.entries; pools = f.pools; numbers = f.numbers.entries; allocations = f.allocations.entries } in
    let h : IsBacked b m = subst (λ (x : Backed). IsBacked x m) (sym c.self.view_is) c.requires.backed.1 in
    λ whole.
    counted_whole b m h c.args.id c.in-Some.allocation (ap (λ (x : Backed). mapping_of x c.args.id) c.self.view_is ∙ sym c.in-Some.ensures) (λ n. n - 1) c.unmap_once.new.pools c.unmap_once.ensures.counts (subst IsWhole (sym c.self.view_is) whole)

pub returns-clause-allots : goal.returns-clause-allots
returns-clause-allots c =
    let f = c.self.inside in
    let b : Backed = record { owned = f.owned.entries; pools = f.pools; numbers = f.numbers.entries; allocations = f.allocations.entries } in
    λ m backed d is.
    let h : IsBacked b m = subst (λ (x : Backed). IsBacked x m) (sym c.self.view_is) backed in
    counted_allotted b m h c.args.id c.in-Some.allocation (ap (λ (x : Backed). mapping_of x c.args.id) c.self.view_is ∙ sym c.in-Some.ensures) (λ n. n - 1) c.unmap_once.new.pools c.unmap_once.ensures.counts d (subst (λ (x : Backed). Fulfils (allotted x m) d) (sym c.self.view_is) is)
