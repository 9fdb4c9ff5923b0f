use Rattle.std.proofs.Common.{◌≡◌, true, false, Bool, length, ap, ◌∙◌, subst}
use Rattle.std.specs.Prelude.{is_some, OnOk}
use Rattle.vk_map_cache.specs.Holdings.{given}
use Rattle.vk_model.specs.Run.CachedRuns.{after_host_write}
use Rattle.vk_resources.specs.Inner.Steps.{HasChanged, cached_at}
use Rattle.vk_resources.specs.Held.{placed, shape_of}
use Rattle.vk_resources.proofs.CachedBytes.{flat_some, cached_range}
use Rattle.vk_resources.proofs.resources.Resources.write.Goals as goal

pub returns-then-is_some : goal.returns-then-is_some
returns-then-is_some c =
    let yes : true ≡ is_some (cached_at c.args.self.now c.args.id) = c.if-is_some.ensures ∙ ap is_some c.cached.ensures in
    subst (λ (t : Bool). OnOk c.write_cached.result (HasChanged c.args.self.now c.write_cached.new.self c.args.id (λ k. after_host_write t (given c.args.offset c.args.bytes.now k)))) yes c.write_cached.ensures

pub returns : goal.returns
returns c =
    let no : false ≡ is_some (cached_at c.args.self.now c.args.id) = c.if-is_some.ensures ∙ ap is_some c.cached.ensures in
    subst (λ (t : Bool). HasChanged c.args.self.now c.write_memory.new.self c.args.id (λ k. after_host_write t (given c.args.offset c.args.bytes.now k))) no c.write_memory.ensures

pub write_cached-requires-clause-buffer : goal.write_cached-requires-clause-buffer
write_cached-requires-clause-buffer c = flat_some (shape_of c.args.self.now c.args.id) (placed c.args.self.now c.args.id) c.args.offset (length c.args.bytes.now) c.requires

pub write_cached-requires-clause-range : goal.write_cached-requires-clause-range
write_cached-requires-clause-range c =
    cached_range c.args.self.now c.args.id c.args.offset (length c.args.bytes.now) (c.if-is_some.ensures ∙ ap is_some c.cached.ensures) c.requires
