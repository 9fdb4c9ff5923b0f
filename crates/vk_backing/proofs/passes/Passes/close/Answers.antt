use Rattle.std.proofs.Common.{◌≡◌, ◌∙◌, ℕ, List, [], Option, Some, None, ap, refl, sym, subst}
use Rattle.std.specs.Prelude.{IfSome}
use Rattle.std.specs.List.{filter_map}
use Rattle.vma_defrag.specs.State.{DefragState}
use Rattle.vma_defrag.specs.Plans.{ArePlanned}
use Rattle.vk_backing.specs.Allotted.{allotted}
use Rattle.vk_backing.specs.Backed.{Backed, allocation_of, IsBacked, IsWhole}
use Rattle.vk_backing.specs.Passing.{Passing, ArePassing}
use Rattle.vk_backing.specs.PassAllots.{EndAllots}
use Rattle.vk_backing.specs.PassSteps.{AreDestroyed, Closes}
use Rattle.vk_backing.proofs.CloseAllots.{close_allotted}
use Rattle.vk_backing.proofs.Closed.{closed_backed, closed_passing, closed_whole, closes, same_backed}
use Rattle.vk_backing.proofs.Closing.{of_pool, plan}
use Rattle.vk_backing.proofs.OpenPass.{lent}
use Rattle.vk_backing.proofs.passes.Passes.close.Goals as goal

pub end_pass-requires-clause-planned : goal.end_pass-requires-clause-planned
end_pass-requires-clause-planned c =
    let f = c.self.inside in let g = c.backing.inside in let m = c.args.memories.now in let id = c.in-Some.id in let d = c.in-Some-get_mut.defrag.now in
    let old : Passing = record { defrags = f.defrags.entries; opened = f.opened; moving = f.moving.items } in
    let b : Backed = record { owned = g.owned.entries; pools = g.pools; numbers = g.numbers.entries; allocations = g.allocations.entries } in
    let hp : ArePassing old b = subst (λ (x : Backed). ArePassing old x) (sym c.backing.view_is) (subst (λ (p : Passing). ArePassing p c.args.backing.now) (sym c.self.view_is) c.requires.passing) in
    let h : IsBacked b m = subst (λ (x : Backed). IsBacked x m) (sym c.backing.view_is) c.requires.backed in
    plan old b m hp h id c.in-Some.is d (sym c.in-Some-get_mut.ensures.value)

pub end_pass-requires-clause-destroyed : goal.end_pass-requires-clause-destroyed
end_pass-requires-clause-destroyed c =
    let f = c.self.inside in let g = c.backing.inside in let m = c.args.memories.now in let id = c.in-Some.id in let d = c.in-Some-get_mut.defrag.now in
    let old : Passing = record { defrags = f.defrags.entries; opened = f.opened; moving = f.moving.items } in
    let b : Backed = record { owned = g.owned.entries; pools = g.pools; numbers = g.numbers.entries; allocations = g.allocations.entries } in
    let hp : ArePassing old b = subst (λ (x : Backed). ArePassing old x) (sym c.backing.view_is) (subst (λ (p : Passing). ArePassing p c.args.backing.now) (sym c.self.view_is) c.requires.passing) in
    let h : IsBacked b m = subst (λ (x : Backed). IsBacked x m) (sym c.backing.view_is) c.requires.backed in
    let destroyed = c.args.destroyed.now in
    let lost_are : c.deref-2.result.now ≡ filter_map (allocation_of b) destroyed = c.deref-2.ensures.value ∙ c.in_ok-lost.ensures ∙ ap (λ (x : Backed). filter_map (allocation_of x) destroyed) (sym c.backing.view_is) in
    let ends : AreDestroyed old b destroyed = subst (λ (x : Backed). AreDestroyed old x destroyed) (sym c.backing.view_is) (subst (λ (p : Passing). AreDestroyed p c.args.backing.now destroyed) (sym c.self.view_is) c.requires.destroyed) in
    of_pool old b m hp h id c.in-Some.is d (sym c.in-Some-get_mut.ensures.value) destroyed c.deref-2.result.now lost_are ends

pub returns-clause-backed : goal.returns-clause-backed
returns-clause-backed c =
    let f = c.self.inside in let g = c.backing.inside in let m = c.args.memories.now in let id = c.in-Some.id in let d = c.in-Some-get_mut.defrag.now in
    let old : Passing = record { defrags = f.defrags.entries; opened = f.opened; moving = f.moving.items } in
    let b : Backed = record { owned = g.owned.entries; pools = g.pools; numbers = g.numbers.entries; allocations = g.allocations.entries } in
    let hp : ArePassing old b = subst (λ (x : Backed). ArePassing old x) (sym c.backing.view_is) (subst (λ (p : Passing). ArePassing p c.args.backing.now) (sym c.self.view_is) c.requires.passing) in
    let h : IsBacked b m = subst (λ (x : Backed). IsBacked x m) (sym c.backing.view_is) c.requires.backed in
    let destroyed = c.args.destroyed.now in
    let lost_are : c.deref-2.result.now ≡ filter_map (allocation_of b) destroyed = c.deref-2.ensures.value ∙ c.in_ok-lost.ensures ∙ ap (λ (x : Backed). filter_map (allocation_of x) destroyed) (sym c.backing.view_is) in
    let ends : AreDestroyed old b destroyed = subst (λ (x : Backed). AreDestroyed old x destroyed) (sym c.backing.view_is) (subst (λ (p : Passing). AreDestroyed p c.args.backing.now destroyed) (sym c.self.view_is) c.requires.destroyed) in
    let t = c.end_pass.new.pools in let n = c.end_pass.new.memories in let e = c.end_pass.ensures.ended in let after = c.forget.new.self in
    let same = same_backed after b.owned t b.numbers c.forget.ensures.owned c.forget.ensures.pools c.forget.ensures.numbers in
    subst (λ (x : Backed). IsBacked x n) same (closed_backed old b m hp h id c.in-Some.is d (sym c.in-Some-get_mut.ensures.value) c.args.ignored.now destroyed c.deref.result.now c.deref-2.result.now lost_are ends t n e.0 e.1 after.allocations c.forget.ensures.gone c.forget.ensures.others c.are_pools.ensures c.end_pass.ensures.backs c.end_pass.ensures.matched)

pub returns-clause-whole : goal.returns-clause-whole
returns-clause-whole c =
    let f = c.self.inside in let g = c.backing.inside in let m = c.args.memories.now in let id = c.in-Some.id in let d = c.in-Some-get_mut.defrag.now in
    let old : Passing = record { defrags = f.defrags.entries; opened = f.opened; moving = f.moving.items } in
    let b : Backed = record { owned = g.owned.entries; pools = g.pools; numbers = g.numbers.entries; allocations = g.allocations.entries } in
    let hp : ArePassing old b = subst (λ (x : Backed). ArePassing old x) (sym c.backing.view_is) (subst (λ (p : Passing). ArePassing p c.args.backing.now) (sym c.self.view_is) c.requires.passing) in
    let h : IsBacked b m = subst (λ (x : Backed). IsBacked x m) (sym c.backing.view_is) c.requires.backed in
    let destroyed = c.args.destroyed.now in
    let lost_are : c.deref-2.result.now ≡ filter_map (allocation_of b) destroyed = c.deref-2.ensures.value ∙ c.in_ok-lost.ensures ∙ ap (λ (x : Backed). filter_map (allocation_of x) destroyed) (sym c.backing.view_is) in
    let ends : AreDestroyed old b destroyed = subst (λ (x : Backed). AreDestroyed old x destroyed) (sym c.backing.view_is) (subst (λ (p : Passing). AreDestroyed p c.args.backing.now destroyed) (sym c.self.view_is) c.requires.destroyed) in
    let t = c.end_pass.new.pools in let n = c.end_pass.new.memories in let e = c.end_pass.ensures.ended in let after = c.forget.new.self in
    let same = same_backed after b.owned t b.numbers c.forget.ensures.owned c.forget.ensures.pools c.forget.ensures.numbers in
    subst IsWhole same (closed_whole old b m hp h id c.in-Some.is d (sym c.in-Some-get_mut.ensures.value) c.args.ignored.now destroyed c.deref.result.now c.deref-2.result.now lost_are ends t n e.0 e.1 after.allocations c.forget.ensures.gone c.forget.ensures.others c.are_pools.ensures c.end_pass.ensures.backs c.end_pass.ensures.matched (subst IsWhole (sym c.backing.view_is) c.requires.whole))

pub returns-clause-passing : goal.returns-clause-passing
returns-clause-passing c =
    let f = c.self.inside in let g = c.backing.inside in let m = c.args.memories.now in let id = c.in-Some.id in let d = c.in-Some-get_mut.defrag.now in
    let old : Passing = record { defrags = f.defrags.entries; opened = f.opened; moving = f.moving.items } in
    let b : Backed = record { owned = g.owned.entries; pools = g.pools; numbers = g.numbers.entries; allocations = g.allocations.entries } in
    let hp : ArePassing old b = subst (λ (x : Backed). ArePassing old x) (sym c.backing.view_is) (subst (λ (p : Passing). ArePassing p c.args.backing.now) (sym c.self.view_is) c.requires.passing) in
    let h : IsBacked b m = subst (λ (x : Backed). IsBacked x m) (sym c.backing.view_is) c.requires.backed in
    let destroyed = c.args.destroyed.now in
    let lost_are : c.deref-2.result.now ≡ filter_map (allocation_of b) destroyed = c.deref-2.ensures.value ∙ c.in_ok-lost.ensures ∙ ap (λ (x : Backed). filter_map (allocation_of x) destroyed) (sym c.backing.view_is) in
    let ends : AreDestroyed old b destroyed = subst (λ (x : Backed). AreDestroyed old x destroyed) (sym c.backing.view_is) (subst (λ (p : Passing). AreDestroyed p c.args.backing.now destroyed) (sym c.self.view_is) c.requires.destroyed) in
    let t = c.end_pass.new.pools in let n = c.end_pass.new.memories in let e = c.end_pass.ensures.ended in let after = c.forget.new.self in
    let same = same_backed after b.owned t b.numbers c.forget.ensures.owned c.forget.ensures.pools c.forget.ensures.numbers in
    let l = c.get_mut.follows.lender c.end_pass.new.self in
    let new : Passing = record { defrags = l.entries; opened = None; moving = c.new.result.items } in
    let writes = lent f.defrags l id c.end_pass.new.self d (c.get_mut.follows.holds c.end_pass.new.self) (sym c.in-Some-get_mut.ensures.value) in
    let here = writes.0 ∙ ap (λ (x : DefragState). Some x) c.end_pass.ensures.closed in
    subst (λ (x : Backed). ArePassing new x) same (closed_passing old b m hp h id c.in-Some.is d (sym c.in-Some-get_mut.ensures.value) c.args.ignored.now destroyed c.deref.result.now c.deref-2.result.now lost_are ends t n e.0 e.1 after.allocations c.forget.ensures.gone c.forget.ensures.others (subst (λ (x : DefragState). ArePlanned t x.pool []) c.end_pass.ensures.closed c.end_pass.ensures.planned) new refl c.new.ensures.items here writes.1)

pub returns-clause-closes : goal.returns-clause-closes
returns-clause-closes c =
    let f = c.self.inside in let g = c.backing.inside in let m = c.args.memories.now in let id = c.in-Some.id in let d = c.in-Some-get_mut.defrag.now in
    let old : Passing = record { defrags = f.defrags.entries; opened = f.opened; moving = f.moving.items } in
    let b : Backed = record { owned = g.owned.entries; pools = g.pools; numbers = g.numbers.entries; allocations = g.allocations.entries } in
    let hp : ArePassing old b = subst (λ (x : Backed). ArePassing old x) (sym c.backing.view_is) (subst (λ (p : Passing). ArePassing p c.args.backing.now) (sym c.self.view_is) c.requires.passing) in
    let h : IsBacked b m = subst (λ (x : Backed). IsBacked x m) (sym c.backing.view_is) c.requires.backed in
    let destroyed = c.args.destroyed.now in
    let lost_are : c.deref-2.result.now ≡ filter_map (allocation_of b) destroyed = c.deref-2.ensures.value ∙ c.in_ok-lost.ensures ∙ ap (λ (x : Backed). filter_map (allocation_of x) destroyed) (sym c.backing.view_is) in
    let ends : AreDestroyed old b destroyed = subst (λ (x : Backed). AreDestroyed old x destroyed) (sym c.backing.view_is) (subst (λ (p : Passing). AreDestroyed p c.args.backing.now destroyed) (sym c.self.view_is) c.requires.destroyed) in
    let t = c.end_pass.new.pools in let n = c.end_pass.new.memories in let e = c.end_pass.ensures.ended in let after = c.forget.new.self in
    let same = same_backed after b.owned t b.numbers c.forget.ensures.owned c.forget.ensures.pools c.forget.ensures.numbers in
    let l = c.get_mut.follows.lender c.end_pass.new.self in
    let new : Passing = record { defrags = l.entries; opened = None; moving = c.new.result.items } in
    let writes = lent f.defrags l id c.end_pass.new.self d (c.get_mut.follows.holds c.end_pass.new.self) (sym c.in-Some-get_mut.ensures.value) in
    let here = writes.0 ∙ ap (λ (x : DefragState). Some x) c.end_pass.ensures.closed in
    let kept_are : c.deref.result.now ≡ filter_map (allocation_of b) c.args.ignored.now = c.deref.ensures.value ∙ c.in_ok-kept.ensures ∙ ap (λ (x : Backed). filter_map (allocation_of x) c.args.ignored.now) (sym c.backing.view_is) in
    let closed : Closes old new b after m n id c.args.ignored.now destroyed = subst (λ (x : Backed). Closes old new b x m n id c.args.ignored.now destroyed) same
    (closes old b m hp h id c.in-Some.is d (sym c.in-Some-get_mut.ensures.value) c.args.ignored.now destroyed c.deref.result.now c.deref-2.result.now lost_are ends t n e.0 e.1 after.allocations c.forget.ensures.gone c.forget.ensures.others kept_are c.are_pools.ensures c.end_pass.ensures.backs c.end_pass.ensures.matched c.end_pass.ensures.bytes new refl c.new.ensures.items here writes.1) in
    subst (λ (o : Option ℕ). IfSome o (λ j. Closes c.args.self.now new c.args.backing.now after m n j c.args.ignored.now destroyed)) (sym c.in-Some.is ∙ ap (λ (p : Passing). p.opened) c.self.view_is)
    (subst (λ (p : Passing). Closes p new c.args.backing.now after m n id c.args.ignored.now destroyed) c.self.view_is (subst (λ (x : Backed). Closes old new x after m n id c.args.ignored.now destroyed) c.backing.view_is closed))

pub returns-clause-allots : goal.returns-clause-allots
returns-clause-allots c =
    let old = c.args.self.now in let b = c.args.backing.now in let m = c.args.memories.now in let after = c.forget.new.self in let n = c.end_pass.new.memories in
    let ignored : List ℕ = c.args.ignored.now in let destroyed : List ℕ = c.args.destroyed.now in let id : ℕ = c.in-Some.id in
    let new : Passing = record { defrags = (c.get_mut.follows.lender c.end_pass.new.self).entries; opened = None; moving = c.new.result.items } in
    let is : old.opened ≡ Some id = ap (λ (p : Passing). p.opened) (sym c.self.view_is) ∙ c.in-Some.is in
    let closes : Closes old new b after m n id ignored destroyed = subst (λ (o : Option ℕ). IfSome o (λ i. Closes old new b after m n i ignored destroyed)) is (returns-clause-closes c) in
    subst (λ (o : Option ℕ). IfSome o (λ i. EndAllots (allotted b m) old (allotted after n) new i ignored destroyed)) (sym is)
    (close_allotted b after m n c.requires.backed c.requires.whole old new c.requires.passing (returns-clause-backed c) id ignored destroyed closes c.requires.destroyed)
