use Rattle.std.proofs.Common.{◌≡◌, ◌∙◌, Some, None, ap, refl, sym, subst}
use Rattle.vk_memory.specs.MemoryState.{MemoryState}
use Rattle.vma_pools.specs.State.{Backs}
use Rattle.vk_backing.specs.Allotted.{allotted}
use Rattle.vk_backing.specs.Backed.{Backed, IsBacked, IsWhole}
use Rattle.vk_backing.specs.Passing.{Passing, ArePassing}
use Rattle.vk_backing.specs.PassSteps.{Opens}
use Rattle.vk_backing.specs.PassAllots.{PassAllots}
use Rattle.vk_backing.proofs.OpenAllots.{pass_allotted}
use Rattle.vk_backing.proofs.OpenPass.{lent}
use Rattle.vk_backing.proofs.Opening.{general, movers_named, none_current, opened_is, opened_passing, opens_agree, refused_backed, refused_whole, reserved_backed, reserved_whole, unplanned}
use Rattle.vk_backing.proofs.passes.Passes.open.Goals as goal

pub pass-passed-requires-clause-closed : goal.pass-passed-requires-clause-closed
pass-passed-requires-clause-closed c =
    let f = c.self.inside in let g = c.backing.inside in let m = c.args.memories.now in let id = c.args.id in let d = c.in-Some.defrag.now in
    let old : Passing = record { defrags = f.defrags.entries; opened = f.opened; moving = f.moving.items } in
    let b : Backed = record { owned = g.owned.entries; pools = g.pools; numbers = g.numbers.entries; allocations = g.allocations.entries } in
    let hp : ArePassing old b = subst (λ (x : Backed). ArePassing old x) (sym c.backing.view_is) (subst (λ (p : Passing). ArePassing p c.args.backing.now) (sym c.self.view_is) c.requires.passing) in
    let h : IsBacked b m = subst (λ (x : Backed). IsBacked x m) (sym c.backing.view_is) c.requires.backed in
    let whole : IsWhole b = subst IsWhole (sym c.backing.view_is) c.requires.whole in
    let closed : old.opened ≡ None = ap (λ (p : Passing). p.opened) c.self.view_is ∙ c.requires.closed in
    none_current old b m hp h whole closed id d (sym c.in-Some.ensures.value)

pub pass-passed-requires-clause-general : goal.pass-passed-requires-clause-general
pass-passed-requires-clause-general c =
    let f = c.self.inside in let g = c.backing.inside in let m = c.args.memories.now in let id = c.args.id in let d = c.in-Some.defrag.now in
    let old : Passing = record { defrags = f.defrags.entries; opened = f.opened; moving = f.moving.items } in
    let b : Backed = record { owned = g.owned.entries; pools = g.pools; numbers = g.numbers.entries; allocations = g.allocations.entries } in
    let hp : ArePassing old b = subst (λ (x : Backed). ArePassing old x) (sym c.backing.view_is) (subst (λ (p : Passing). ArePassing p c.args.backing.now) (sym c.self.view_is) c.requires.passing) in
    let h : IsBacked b m = subst (λ (x : Backed). IsBacked x m) (sym c.backing.view_is) c.requires.backed in
    let whole : IsWhole b = subst IsWhole (sym c.backing.view_is) c.requires.whole in
    let closed : old.opened ≡ None = ap (λ (p : Passing). p.opened) c.self.view_is ∙ c.requires.closed in
    general old b m hp h whole closed id d (sym c.in-Some.ensures.value)

pub pass-passed-requires-clause-planned : goal.pass-passed-requires-clause-planned
pass-passed-requires-clause-planned c =
    let f = c.self.inside in let g = c.backing.inside in let m = c.args.memories.now in let id = c.args.id in let d = c.in-Some.defrag.now in
    let old : Passing = record { defrags = f.defrags.entries; opened = f.opened; moving = f.moving.items } in
    let b : Backed = record { owned = g.owned.entries; pools = g.pools; numbers = g.numbers.entries; allocations = g.allocations.entries } in
    let hp : ArePassing old b = subst (λ (x : Backed). ArePassing old x) (sym c.backing.view_is) (subst (λ (p : Passing). ArePassing p c.args.backing.now) (sym c.self.view_is) c.requires.passing) in
    let h : IsBacked b m = subst (λ (x : Backed). IsBacked x m) (sym c.backing.view_is) c.requires.backed in
    let whole : IsWhole b = subst IsWhole (sym c.backing.view_is) c.requires.whole in
    let closed : old.opened ≡ None = ap (λ (p : Passing). p.opened) c.self.view_is ∙ c.requires.closed in
    unplanned old b m hp h whole closed id d (sym c.in-Some.ensures.value) d.pool

pub returns-in_err-passed-clause-backed : goal.returns-in_err-passed-clause-backed
returns-in_err-passed-clause-backed c =
    let f = c.self.inside in let g = c.backing.inside in let m = c.args.memories.now in let id = c.args.id in let d = c.in-Some.defrag.now in
    let old : Passing = record { defrags = f.defrags.entries; opened = f.opened; moving = f.moving.items } in
    let b : Backed = record { owned = g.owned.entries; pools = g.pools; numbers = g.numbers.entries; allocations = g.allocations.entries } in
    let hp : ArePassing old b = subst (λ (x : Backed). ArePassing old x) (sym c.backing.view_is) (subst (λ (p : Passing). ArePassing p c.args.backing.now) (sym c.self.view_is) c.requires.passing) in
    let h : IsBacked b m = subst (λ (x : Backed). IsBacked x m) (sym c.backing.view_is) c.requires.backed in
    let whole : IsWhole b = subst IsWhole (sym c.backing.view_is) c.requires.whole in
    let closed : old.opened ≡ None = ap (λ (p : Passing). p.opened) c.self.view_is ∙ c.requires.closed in
    let t = c.pass-passed.new.pools in let e = c.pass-passed.new.self in
    let backs : Backs t m = subst (λ (n : MemoryState). Backs t n) c.pass-passed.ensures.memories c.pass-passed.ensures.backs in
    subst (λ (n : MemoryState). IsBacked (record b { pools = t }) n) (sym c.pass-passed.ensures.memories)
    (refused_backed old b m hp h whole closed id d (sym c.in-Some.ensures.value) t c.in_err-passed.ensures.alike c.are_pools.ensures backs)

pub returns-in_err-passed-clause-whole : goal.returns-in_err-passed-clause-whole
returns-in_err-passed-clause-whole c =
    let f = c.self.inside in let g = c.backing.inside in let m = c.args.memories.now in let id = c.args.id in let d = c.in-Some.defrag.now in
    let old : Passing = record { defrags = f.defrags.entries; opened = f.opened; moving = f.moving.items } in
    let b : Backed = record { owned = g.owned.entries; pools = g.pools; numbers = g.numbers.entries; allocations = g.allocations.entries } in
    let hp : ArePassing old b = subst (λ (x : Backed). ArePassing old x) (sym c.backing.view_is) (subst (λ (p : Passing). ArePassing p c.args.backing.now) (sym c.self.view_is) c.requires.passing) in
    let h : IsBacked b m = subst (λ (x : Backed). IsBacked x m) (sym c.backing.view_is) c.requires.backed in
    let whole : IsWhole b = subst IsWhole (sym c.backing.view_is) c.requires.whole in
    let closed : old.opened ≡ None = ap (λ (p : Passing). p.opened) c.self.view_is ∙ c.requires.closed in
    let t = c.pass-passed.new.pools in let e = c.pass-passed.new.self in
    let backs : Backs t m = subst (λ (n : MemoryState). Backs t n) c.pass-passed.ensures.memories c.pass-passed.ensures.backs in
    refused_whole old b m hp h whole closed id d (sym c.in-Some.ensures.value) t c.in_err-passed.ensures.alike c.are_pools.ensures backs

pub movers-requires-clause-named : goal.movers-requires-clause-named
movers-requires-clause-named c =
    let f = c.self.inside in let g = c.backing.inside in let m = c.args.memories.now in let id = c.args.id in let d = c.in-Some.defrag.now in
    let old : Passing = record { defrags = f.defrags.entries; opened = f.opened; moving = f.moving.items } in
    let b : Backed = record { owned = g.owned.entries; pools = g.pools; numbers = g.numbers.entries; allocations = g.allocations.entries } in
    let hp : ArePassing old b = subst (λ (x : Backed). ArePassing old x) (sym c.backing.view_is) (subst (λ (p : Passing). ArePassing p c.args.backing.now) (sym c.self.view_is) c.requires.passing) in
    let h : IsBacked b m = subst (λ (x : Backed). IsBacked x m) (sym c.backing.view_is) c.requires.backed in
    let whole : IsWhole b = subst IsWhole (sym c.backing.view_is) c.requires.whole in
    let closed : old.opened ≡ None = ap (λ (p : Passing). p.opened) c.self.view_is ∙ c.requires.closed in
    let t = c.pass-passed.new.pools in let e = c.pass-passed.new.self in
    let backs : Backs t m = subst (λ (n : MemoryState). Backs t n) c.pass-passed.ensures.memories c.pass-passed.ensures.backs in
    movers_named old b m hp h whole closed id d (sym c.in-Some.ensures.value) e t c.in_ok-passed.ensures.begun c.in_ok-passed.ensures.planned c.are_pools.ensures backs (c.pass-passed.ensures.matched h.matched)

pub returns-in_err-self-inside-clause-backed : goal.returns-in_err-self-inside-clause-backed
returns-in_err-self-inside-clause-backed c =
    let f = c.self.inside in let g = c.backing.inside in let m = c.args.memories.now in let id = c.args.id in let d = c.in-Some.defrag.now in
    let old : Passing = record { defrags = f.defrags.entries; opened = f.opened; moving = f.moving.items } in
    let b : Backed = record { owned = g.owned.entries; pools = g.pools; numbers = g.numbers.entries; allocations = g.allocations.entries } in
    let hp : ArePassing old b = subst (λ (x : Backed). ArePassing old x) (sym c.backing.view_is) (subst (λ (p : Passing). ArePassing p c.args.backing.now) (sym c.self.view_is) c.requires.passing) in
    let h : IsBacked b m = subst (λ (x : Backed). IsBacked x m) (sym c.backing.view_is) c.requires.backed in
    let whole : IsWhole b = subst IsWhole (sym c.backing.view_is) c.requires.whole in
    let closed : old.opened ≡ None = ap (λ (p : Passing). p.opened) c.self.view_is ∙ c.requires.closed in
    let t = c.pass-passed.new.pools in let e = c.pass-passed.new.self in
    let backs : Backs t m = subst (λ (n : MemoryState). Backs t n) c.pass-passed.ensures.memories c.pass-passed.ensures.backs in
    subst (λ (n : MemoryState). IsBacked (record b { pools = t }) n) (sym c.pass-passed.ensures.memories)
    (reserved_backed old b m hp h whole closed id d (sym c.in-Some.ensures.value) e t c.in_ok-passed.ensures.begun c.in_ok-passed.ensures.planned c.are_pools.ensures backs (c.pass-passed.ensures.matched h.matched))

pub returns-in_err-self-inside-clause-whole : goal.returns-in_err-self-inside-clause-whole
returns-in_err-self-inside-clause-whole c =
    let f = c.self.inside in let g = c.backing.inside in let m = c.args.memories.now in let id = c.args.id in let d = c.in-Some.defrag.now in
    let old : Passing = record { defrags = f.defrags.entries; opened = f.opened; moving = f.moving.items } in
    let b : Backed = record { owned = g.owned.entries; pools = g.pools; numbers = g.numbers.entries; allocations = g.allocations.entries } in
    let hp : ArePassing old b = subst (λ (x : Backed). ArePassing old x) (sym c.backing.view_is) (subst (λ (p : Passing). ArePassing p c.args.backing.now) (sym c.self.view_is) c.requires.passing) in
    let h : IsBacked b m = subst (λ (x : Backed). IsBacked x m) (sym c.backing.view_is) c.requires.backed in
    let whole : IsWhole b = subst IsWhole (sym c.backing.view_is) c.requires.whole in
    let closed : old.opened ≡ None = ap (λ (p : Passing). p.opened) c.self.view_is ∙ c.requires.closed in
    let t = c.pass-passed.new.pools in let e = c.pass-passed.new.self in
    let backs : Backs t m = subst (λ (n : MemoryState). Backs t n) c.pass-passed.ensures.memories c.pass-passed.ensures.backs in
    reserved_whole old b m hp h whole closed id d (sym c.in-Some.ensures.value) e t c.in_ok-passed.ensures.begun c.in_ok-passed.ensures.planned c.are_pools.ensures backs (c.pass-passed.ensures.matched h.matched)

pub returns-clause-backed : goal.returns-clause-backed
returns-clause-backed c =
    let f = c.self.inside in let g = c.backing.inside in let m = c.args.memories.now in let id = c.args.id in let d = c.in-Some.defrag.now in
    let old : Passing = record { defrags = f.defrags.entries; opened = f.opened; moving = f.moving.items } in
    let b : Backed = record { owned = g.owned.entries; pools = g.pools; numbers = g.numbers.entries; allocations = g.allocations.entries } in
    let hp : ArePassing old b = subst (λ (x : Backed). ArePassing old x) (sym c.backing.view_is) (subst (λ (p : Passing). ArePassing p c.args.backing.now) (sym c.self.view_is) c.requires.passing) in
    let h : IsBacked b m = subst (λ (x : Backed). IsBacked x m) (sym c.backing.view_is) c.requires.backed in
    let whole : IsWhole b = subst IsWhole (sym c.backing.view_is) c.requires.whole in
    let closed : old.opened ≡ None = ap (λ (p : Passing). p.opened) c.self.view_is ∙ c.requires.closed in
    let t = c.pass-passed.new.pools in let e = c.pass-passed.new.self in
    let backs : Backs t m = subst (λ (n : MemoryState). Backs t n) c.pass-passed.ensures.memories c.pass-passed.ensures.backs in
    subst (λ (n : MemoryState). IsBacked (record b { pools = t }) n) (sym c.pass-passed.ensures.memories)
    (reserved_backed old b m hp h whole closed id d (sym c.in-Some.ensures.value) e t c.in_ok-passed.ensures.begun c.in_ok-passed.ensures.planned c.are_pools.ensures backs (c.pass-passed.ensures.matched h.matched))

pub returns-clause-whole : goal.returns-clause-whole
returns-clause-whole c =
    let f = c.self.inside in let g = c.backing.inside in let m = c.args.memories.now in let id = c.args.id in let d = c.in-Some.defrag.now in
    let old : Passing = record { defrags = f.defrags.entries; opened = f.opened; moving = f.moving.items } in
    let b : Backed = record { owned = g.owned.entries; pools = g.pools; numbers = g.numbers.entries; allocations = g.allocations.entries } in
    let hp : ArePassing old b = subst (λ (x : Backed). ArePassing old x) (sym c.backing.view_is) (subst (λ (p : Passing). ArePassing p c.args.backing.now) (sym c.self.view_is) c.requires.passing) in
    let h : IsBacked b m = subst (λ (x : Backed). IsBacked x m) (sym c.backing.view_is) c.requires.backed in
    let whole : IsWhole b = subst IsWhole (sym c.backing.view_is) c.requires.whole in
    let closed : old.opened ≡ None = ap (λ (p : Passing). p.opened) c.self.view_is ∙ c.requires.closed in
    let t = c.pass-passed.new.pools in let e = c.pass-passed.new.self in
    let backs : Backs t m = subst (λ (n : MemoryState). Backs t n) c.pass-passed.ensures.memories c.pass-passed.ensures.backs in
    reserved_whole old b m hp h whole closed id d (sym c.in-Some.ensures.value) e t c.in_ok-passed.ensures.begun c.in_ok-passed.ensures.planned c.are_pools.ensures backs (c.pass-passed.ensures.matched h.matched)

pub returns-clause-passing : goal.returns-clause-passing
returns-clause-passing c =
    let f = c.self.inside in let g = c.backing.inside in let m = c.args.memories.now in let id = c.args.id in let d = c.in-Some.defrag.now in
    let old : Passing = record { defrags = f.defrags.entries; opened = f.opened; moving = f.moving.items } in
    let b : Backed = record { owned = g.owned.entries; pools = g.pools; numbers = g.numbers.entries; allocations = g.allocations.entries } in
    let hp : ArePassing old b = subst (λ (x : Backed). ArePassing old x) (sym c.backing.view_is) (subst (λ (p : Passing). ArePassing p c.args.backing.now) (sym c.self.view_is) c.requires.passing) in
    let h : IsBacked b m = subst (λ (x : Backed). IsBacked x m) (sym c.backing.view_is) c.requires.backed in
    let whole : IsWhole b = subst IsWhole (sym c.backing.view_is) c.requires.whole in
    let closed : old.opened ≡ None = ap (λ (p : Passing). p.opened) c.self.view_is ∙ c.requires.closed in
    let t = c.pass-passed.new.pools in let e = c.pass-passed.new.self in
    let backs : Backs t m = subst (λ (n : MemoryState). Backs t n) c.pass-passed.ensures.memories c.pass-passed.ensures.backs in
    let l = c.get_mut.follows.lender e in
    let new : Passing = record { defrags = l.entries; opened = Some id; moving = c.in_ok-self-inside.field-0.items } in
    let writes = lent f.defrags l id e d (c.get_mut.follows.holds e) (sym c.in-Some.ensures.value) in
    opened_passing old b m hp h whole closed id d (sym c.in-Some.ensures.value) e t c.in_ok-passed.ensures.begun c.in_ok-passed.ensures.planned c.are_pools.ensures backs (c.pass-passed.ensures.matched h.matched) new refl writes.0 writes.1 c.in_ok-self-inside.ensures

pub returns-clause-opens : goal.returns-clause-opens
returns-clause-opens c =
    let f = c.self.inside in let g = c.backing.inside in let m = c.args.memories.now in let id = c.args.id in let d = c.in-Some.defrag.now in
    let old : Passing = record { defrags = f.defrags.entries; opened = f.opened; moving = f.moving.items } in
    let b : Backed = record { owned = g.owned.entries; pools = g.pools; numbers = g.numbers.entries; allocations = g.allocations.entries } in
    let hp : ArePassing old b = subst (λ (x : Backed). ArePassing old x) (sym c.backing.view_is) (subst (λ (p : Passing). ArePassing p c.args.backing.now) (sym c.self.view_is) c.requires.passing) in
    let h : IsBacked b m = subst (λ (x : Backed). IsBacked x m) (sym c.backing.view_is) c.requires.backed in
    let whole : IsWhole b = subst IsWhole (sym c.backing.view_is) c.requires.whole in
    let closed : old.opened ≡ None = ap (λ (p : Passing). p.opened) c.self.view_is ∙ c.requires.closed in
    let t = c.pass-passed.new.pools in let e = c.pass-passed.new.self in
    let backs : Backs t m = subst (λ (n : MemoryState). Backs t n) c.pass-passed.ensures.memories c.pass-passed.ensures.backs in
    let l = c.get_mut.follows.lender e in
    let new : Passing = record { defrags = l.entries; opened = Some id; moving = c.in_ok-self-inside.field-0.items } in
    let writes = lent f.defrags l id e d (c.get_mut.follows.holds e) (sym c.in-Some.ensures.value) in
    subst (λ (p : Passing). Opens p new c.args.backing.now (record b { pools = t }) id) c.self.view_is (subst (λ (x : Backed). Opens old new x (record b { pools = t }) id) c.backing.view_is
    (opened_is old b m hp h whole closed id d (sym c.in-Some.ensures.value) e t c.in_ok-passed.ensures.begun c.in_ok-passed.ensures.planned c.are_pools.ensures backs (c.pass-passed.ensures.matched h.matched) new refl writes.0 writes.1))

pub returns-clause-agree : goal.returns-clause-agree
returns-clause-agree c =
    let g = c.backing.inside in
    let after : Backed = record { owned = g.owned.entries; pools = c.pass-passed.new.pools; numbers = g.numbers.entries; allocations = g.allocations.entries } in
    let new : Passing = record { defrags = (c.get_mut.follows.lender c.pass-passed.new.self).entries; opened = Some c.args.id; moving = c.in_ok-self-inside.field-0.items } in
    opens_agree c.args.self.now new c.args.backing.now after c.args.id (returns-clause-opens c) c.pass-passed.new.memories

pub returns-clause-allots : goal.returns-clause-allots
returns-clause-allots c =
    let g = c.backing.inside in let m = c.args.memories.now in let id = c.args.id in let old = c.args.self.now in let b = c.args.backing.now in
    let after : Backed = record { owned = g.owned.entries; pools = c.pass-passed.new.pools; numbers = g.numbers.entries; allocations = g.allocations.entries } in
    let new : Passing = record { defrags = (c.get_mut.follows.lender c.pass-passed.new.self).entries; opened = Some id; moving = c.in_ok-self-inside.field-0.items } in
    subst (λ (n : MemoryState). PassAllots (allotted b m) old (allotted after n) new id) (sym c.pass-passed.ensures.memories)
    (pass_allotted b after m c.requires.backed c.requires.whole old new id (returns-clause-opens c) (returns-clause-passing c) c.requires.closed)
