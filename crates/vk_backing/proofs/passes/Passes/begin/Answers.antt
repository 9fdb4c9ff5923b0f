use Rattle.std.proofs.Common.{◌≡◌, ◌∙◌, ℕ, Option, Some, None, ap, refl, sym, subst}
use Rattle.std.specs.Prelude.{IsSomeAnd}
use Rattle.std.specs.Option.{option_and_then}
use Rattle.vk_model.specs.declared.resource.PoolKind.TheVariants as algorithm
use Rattle.vma_pools.specs.State.{pool_at}
use Rattle.vma_pools.proofs.EndedLemmas.{kept-is}
use Rattle.vma_defrag.specs.State.{DefragState}
use Rattle.vk_model.proofs.Lists.Keys.{other_key}
use Rattle.vk_backing.specs.Backed.{Backed, pool_of}
use Rattle.vk_backing.specs.Passing.{Passing, defrag_in, ArePassing}
use Rattle.vk_backing.specs.Allotted.{allotted}
use Rattle.vk_backing.specs.PassAllots.{DefragAllots}
use Rattle.vk_backing.specs.PassSteps.{Begins}
use Rattle.vk_backing.proofs.BeginAllots.{begin_allotted}
use Rattle.vk_backing.proofs.Passing.{begun_passing}
use Rattle.vk_backing.proofs.passes.Passes.begin.Goals as goal

pub returns-clause-passing : goal.returns-clause-passing
returns-clause-passing c =
    let f = c.self.inside in let b = c.args.backing.now in let id = c.args.id in
    let old : Passing = record { defrags = f.defrags.entries; opened = f.opened; moving = f.moving.items } in
    let new : Passing = record { defrags = c.insert.new.self.entries; opened = f.opened; moving = f.moving.items } in
    let h : ArePassing old b = subst (λ (p : Passing). ArePassing p b) (sym c.self.view_is) c.requires.passing in
    let updates = c.in_ok-insert.ensures.updates in
    let number = c.in-Some.number in
    let named : pool_of b c.args.pool ≡ Some number = ap (λ (x : Backed). pool_of x c.args.pool) (sym c.backing.view_is) ∙ sym c.get.ensures.value ∙ sym c.in-Some.ensures in
    let k = kept-is b.pools number (λ k. k.pool.info.kind ≡ algorithm.Tlsf) (subst (λ (o : Option ℕ). IsSomeAnd (option_and_then (pool_at b.pools) o) (λ k. k.pool.info.kind ≡ algorithm.Tlsf)) named c.requires.general) in
    let d : DefragState = record { pool = number; max_bytes = c.args.max_bytes; max_moves = c.args.max_moves; current = None } in
    begun_passing old new b h refl refl id (ap (λ (p : Passing). defrag_in p id) c.self.view_is ∙ c.requires.absent) d (record { kept = k.0; there = k.1; general = k.2; id = c.args.pool; named = named }) refl
    (updates.1 ∙ ap (λ (x : DefragState). Some x) c.begin.ensures) (λ i other. updates.2 i (other_key id i other))

pub returns-clause-allots : goal.returns-clause-allots
returns-clause-allots c =
    let f = c.self.inside in let b = c.args.backing.now in let id = c.args.id in
    let old : Passing = record { defrags = f.defrags.entries; opened = f.opened; moving = f.moving.items } in
    let new : Passing = record { defrags = c.insert.new.self.entries; opened = f.opened; moving = f.moving.items } in
    let h : ArePassing old b = subst (λ (p : Passing). ArePassing p b) (sym c.self.view_is) c.requires.passing in
    let updates = c.in_ok-insert.ensures.updates in
    let number = c.in-Some.number in
    let named : pool_of b c.args.pool ≡ Some number = ap (λ (x : Backed). pool_of x c.args.pool) (sym c.backing.view_is) ∙ sym c.get.ensures.value ∙ sym c.in-Some.ensures in
    let begun : Begins old new b id c.args.pool c.args.max_bytes c.args.max_moves = record {
      number = number;
      named = named;
      here = updates.1 ∙ ap (λ (x : DefragState). Some x) c.begin.ensures;
      others = λ i other. updates.2 i (other_key id i other);
      opened = refl;
      moving = refl;
    } in
    λ m back. subst (λ (p : Passing). DefragAllots (allotted b m) p new id c.args.pool c.args.max_bytes c.args.max_moves) c.self.view_is
    (begin_allotted b m old new h id c.args.pool c.args.max_bytes c.args.max_moves (ap (λ (p : Passing). defrag_in p id) c.self.view_is ∙ c.requires.absent) begun)
