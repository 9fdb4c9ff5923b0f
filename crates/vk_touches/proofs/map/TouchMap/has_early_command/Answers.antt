use Rattle.std.proofs.Common.{arith, refl, rules}
use Rattle.vk_touches.specs.Conflicts.{HasEarlyCommand}
use Rattle.vk_touches.specs.TouchMaps.{with_reads_alone}
use Rattle.vk_touches.proofs.Searches.{found_by}
use Rattle.vk_touches.proofs.TouchMaps.{reads_len, found_in_reads}
use Rattle.vk_touches.proofs.map.TouchMap.has_early_command.Goals as goal

pub find-requires-clause-within : goal.find-requires-clause-within
find-requires-clause-within c = omega (arith, reads_len c.self.invariant c.self.view_is)

pub returns : goal.returns
returns c =
    found_in_reads c.self.invariant c.self.view_is (λ k. HasEarlyCommand c.args.new_node.now) (λ k r w t h m. m) c.args.low c.args.high c.is_some.result
    (found_by (λ r t. HasEarlyCommand c.args.new_node.now r (with_reads_alone t)) c.self.inside.reads c.args.low c.args.high _ _ refl refl c.find.result c.find.ensures.within c.find.ensures.passes c.find.ensures.none c.is_some.result c.is_some.ensures (λ a h. search rules) (λ a h. search rules))
