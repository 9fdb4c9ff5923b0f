use Rattle.std.proofs.Common.{◌≤◌, length, get_or, ap, sym, ◌∙◌, arith, Option}
use Rattle.vk_model.specs.Run.Caches.{Held}
use Rattle.vk_map_cache.specs.Holdings.{mark_of}
use Rattle.vk_map_cache.specs.Inner.Marks.{mark_at}
use Rattle.vk_map_cache.proofs.HoldingLemmas.{held_of}
use Rattle.vk_map_cache.proofs.TurnLemmas.{mark_of-holding_of}
use Rattle.vk_map_cache.proofs.queue_object.QueueObject.held.Goals as goal

pub returns : goal.returns
returns c =
    let i = c.self.inside in
    let same : length i.marks ≤ length i.values = omega (arith, c.self.invariant) in
    c.at.ensures ∙ sym (ap (λ (h : Option Held). mark_of h) (held_of i.marks i.values c.args.self.now c.self.view_is same c.args.at) ∙ mark_of-holding_of (mark_at i.marks c.args.at) (get_or i.values c.args.at 0))
