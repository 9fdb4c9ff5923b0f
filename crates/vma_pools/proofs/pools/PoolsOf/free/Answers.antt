use Rattle.std.proofs.Common.{ℕ, Option, None, ◌≡◌, ◌∙◌, refl, sym, ap, subst}
use Rattle.vma_pools.specs.State.{IsEnded, Backs, released}
use Rattle.vk_memory.specs.MemoryState.{MemoryState}
use Rattle.vma_pools.proofs.EndedLemmas.{live-is}
use Rattle.vma_pools.proofs.ReleaseLemmas.{ended-backs}
use Rattle.vma_pools.proofs.CallLemmas.{live-holds, ended-live}
use Rattle.vma_pools.proofs.pools.PoolsOf.free.Goals as goal

pub free-requires : goal.free-requires
free-requires g c =
    let s = c.args.self.now in let i = c.args.allocation in
    let l = live-is s i (λ a. a.target ≡ None) c.requires.unreserved in
    let ended = subst (λ (o : Option ℕ). IsEnded s c.end-gone.new.self i l.0.home o) c.in-Some.is (live-holds s i (λ a. IsEnded s c.end-gone.new.self i a.home c.end-gone.result) c.end-gone.ensures.ended l.0 l.1) in
    ended-live s c.end-gone.ensures.always c.args.memories.now c.requires.backs i l.0 l.1 c.end-gone.new.self c.in-Some.memory l.0.home refl ended

pub returns-in-Some-clause-kept : goal.returns-in-Some-clause-kept
returns-in-Some-clause-kept g c =
    let s = c.args.self.now in let i = c.args.allocation in let new = c.end-gone.new.self in let gone = c.end-gone.result in let m = c.args.memories.now in
    let l = live-is s i (λ a. a.target ≡ None) c.requires.unreserved in
    let ended = live-holds s i (λ a. IsEnded s new i a.home gone) c.end-gone.ensures.ended l.0 l.1 in
    subst (λ (n : MemoryState). Backs new n) (ap (λ (o : Option ℕ). released m o) c.in-Some.is ∙ sym c.free.ensures) (ended-backs s m c.requires.backs i l.0 l.1 new gone l.0.home refl ended)

pub returns-in_default-clause-kept : goal.returns-in_default-clause-kept
returns-in_default-clause-kept g c =
    let s = c.args.self.now in let i = c.args.allocation in let new = c.end-gone.new.self in let gone = c.end-gone.result in let m = c.args.memories.now in
    let l = live-is s i (λ a. a.target ≡ None) c.requires.unreserved in
    let ended = live-holds s i (λ a. IsEnded s new i a.home gone) c.end-gone.ensures.ended l.0 l.1 in
    subst (λ (o : Option ℕ). Backs new (released m o)) c.in_default.is (ended-backs s m c.requires.backs i l.0 l.1 new gone l.0.home refl ended)
