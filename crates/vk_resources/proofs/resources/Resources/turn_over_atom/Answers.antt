use Rattle.std.proofs.Common.{◌≡◌, ◌≤◌, ◌-◌, ◌/◌, ◌&&◌, ◌==◌, Option, Some, length, ap, sym, ◌∙◌, subst}
use Rattle.std.specs.Prelude.{is_some}
use Rattle.vk_map_cache.specs.Holdings.{only_where}
use Rattle.vk_memory.specs.MemoryState.{with_region}
use Rattle.vk_model.specs.Run.CachedRuns.{turned_over}
use Rattle.vk_resources.specs.declared.resources.Placed.{Placed}
use Rattle.vk_resources.specs.Held.{Held, shape_of}
use Rattle.vk_resources.specs.Inner.Steps.{HasAtom, HasChanged, KeepsPlaces, cached_at}
use Rattle.vk_resources.proofs.CachedSteps.{turned_atom, rewritten_keeps, rewritten_consistent}
use Rattle.vk_resources.proofs.resources.Resources.turn_over_atom.Goals as goal

pub invariant_of-self : goal.invariant_of-self
invariant_of-self c =
    let s : Held = record { memory = c.self.inside.memories; backed = c.self.inside.backing; resources = c.self.inside.resources.entries; shapes = c.self.inside.shapes.entries; cache = c.self.inside.cache } in
    let here : cached_at s c.args.id ≡ Some c.in-Some.buffer = ap (λ (h : Held). cached_at h c.args.id) c.self.view_is ∙ sym c.cached.ensures ∙ c.in-Some.is in
    let below : c.args.atom ≤ (c.in-Some.buffer.size - 1) / 64 = subst (λ (x : Option Placed). HasAtom x c.args.atom) (sym c.cached.ensures ∙ c.in-Some.is) c.requires.atom in
    let flat_is = ap (λ (h : Held). shape_of h c.args.id) c.self.view_is ∙ c.requires.buffer in
    (turned_atom s c.self.invariant c.args.id c.in-Some.buffer here flat_is c.args.atom c.region_mut-region.result.now c.turn_over.new.region c.turn_over.new.self below c.region_mut-region.ensures.value c.in_ok-turn_over.ensures.ok).0

pub invariant_of-self-in_err-turn_over : goal.invariant_of-self-in_err-turn_over
invariant_of-self-in_err-turn_over c =
    let s : Held = record { memory = c.self.inside.memories; backed = c.self.inside.backing; resources = c.self.inside.resources.entries; shapes = c.self.inside.shapes.entries; cache = c.self.inside.cache } in
    let here : cached_at s c.args.id ≡ Some c.in-Some.buffer = ap (λ (h : Held). cached_at h c.args.id) c.self.view_is ∙ sym c.cached.ensures ∙ c.in-Some.is in
    rewritten_consistent s c.self.invariant c.args.id c.in-Some.buffer here c.turn_over.new.self c.turn_over.new.region (ap length (c.in_err-turn_over.ensures.kept ∙ c.region_mut-region.ensures.value)) c.in_err-turn_over.ensures.err

pub returns-in_ok-turn_over-clause-turned : goal.returns-in_ok-turn_over-clause-turned
returns-in_ok-turn_over-clause-turned c =
    let s : Held = record { memory = c.self.inside.memories; backed = c.self.inside.backing; resources = c.self.inside.resources.entries; shapes = c.self.inside.shapes.entries; cache = c.self.inside.cache } in
    let here : cached_at s c.args.id ≡ Some c.in-Some.buffer = ap (λ (h : Held). cached_at h c.args.id) c.self.view_is ∙ sym c.cached.ensures ∙ c.in-Some.is in
    let below : c.args.atom ≤ (c.in-Some.buffer.size - 1) / 64 = subst (λ (x : Option Placed). HasAtom x c.args.atom) (sym c.cached.ensures ∙ c.in-Some.is) c.requires.atom in
    let flat_is = ap (λ (h : Held). shape_of h c.args.id) c.self.view_is ∙ c.requires.buffer in
    subst (λ (h : Held). HasChanged h (record s { memory = with_region s.memory c.in-Some.buffer.object c.turn_over.new.region; cache = c.turn_over.new.self }) c.args.id (only_where (λ k. is_some (cached_at h c.args.id) && k / 64 == c.args.atom) turned_over)) c.self.view_is
    (turned_atom s c.self.invariant c.args.id c.in-Some.buffer here flat_is c.args.atom c.region_mut-region.result.now c.turn_over.new.region c.turn_over.new.self below c.region_mut-region.ensures.value c.in_ok-turn_over.ensures.ok).1

pub returns-in_ok-turn_over-clause-keeps : goal.returns-in_ok-turn_over-clause-keeps
returns-in_ok-turn_over-clause-keeps c =
    let s : Held = record { memory = c.self.inside.memories; backed = c.self.inside.backing; resources = c.self.inside.resources.entries; shapes = c.self.inside.shapes.entries; cache = c.self.inside.cache } in
    let here : cached_at s c.args.id ≡ Some c.in-Some.buffer = ap (λ (h : Held). cached_at h c.args.id) c.self.view_is ∙ sym c.cached.ensures ∙ c.in-Some.is in
    let long = c.in_ok-turn_over.ensures.ok.size ∙ ap length c.region_mut-region.ensures.value in
    subst (λ (h : Held). KeepsPlaces h (record s { memory = with_region s.memory c.in-Some.buffer.object c.turn_over.new.region; cache = c.turn_over.new.self })) c.self.view_is
    (rewritten_keeps s c.self.invariant c.args.id c.in-Some.buffer here c.turn_over.new.self c.turn_over.new.region long)

pub returns-in_err-turn_over-clause-keeps : goal.returns-in_err-turn_over-clause-keeps
returns-in_err-turn_over-clause-keeps c =
    let s : Held = record { memory = c.self.inside.memories; backed = c.self.inside.backing; resources = c.self.inside.resources.entries; shapes = c.self.inside.shapes.entries; cache = c.self.inside.cache } in
    let here : cached_at s c.args.id ≡ Some c.in-Some.buffer = ap (λ (h : Held). cached_at h c.args.id) c.self.view_is ∙ sym c.cached.ensures ∙ c.in-Some.is in
    subst (λ (h : Held). KeepsPlaces h (record s { memory = with_region s.memory c.in-Some.buffer.object c.turn_over.new.region; cache = c.turn_over.new.self })) c.self.view_is
    (rewritten_keeps s c.self.invariant c.args.id c.in-Some.buffer here c.turn_over.new.self c.turn_over.new.region (ap length (c.in_err-turn_over.ensures.kept ∙ c.region_mut-region.ensures.value)))
