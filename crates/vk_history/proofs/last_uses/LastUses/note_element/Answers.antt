use Rattle.std.proofs.Common.{◌∙◌}
use Rattle.vk_order.specs.Lines.{has_transfer, has_host}
use Rattle.vk_model.specs.World.Ownership.{dependency_of}
use Rattle.vk_history.proofs.Using.Lasts.{element_counted, some_step}
use Rattle.vk_history.proofs.last_uses.LastUses.note_element.Goals as goal

pub returns : goal.returns
returns c = λ ns n r numbers on is counts are.
    let s = (dependency_of c.args.element.now).destination_stages.0 in
    let taken = c.in-Some.ensures c.args.queue (has_transfer s) (has_host s) c.of-line.ensures in (
      element_counted ns n numbers c.args.element.now c.args.queue on is c.args.counts.now c.take.new.self taken.1 counts,
      some_step ns n numbers r c.args.element.now c.args.queue on is c.args.self.now c.keep_some.new.self _ c.of-line.ensures (taken.0 ∙ counts (has_transfer s) (has_host s)) c.named_by.result c.named_by.ensures c.in_ok-keep_some.ensures are,
    )
