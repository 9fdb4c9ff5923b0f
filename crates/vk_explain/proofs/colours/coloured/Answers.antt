use Rattle.std.proofs.Common.{rules}
use Rattle.std.proofs.lemmas.List.{nil_from_length}
use Rattle.vk_explain.proofs.Colouring.{begun, begun_more, begun_whole}
use Rattle.vk_explain.proofs.colours.coloured.Goals as goal

pub loop-rest-init : goal.loop-rest-init
loop-rest-init c = rw c.new-shown.ensures.items (begun c.args.text.now)

pub loop-rest-preserved : goal.loop-rest-preserved
loop-rest-preserved c =
    begun_more c.args.text.now c.loop-rest.shown.items c.push_line.new.out.items c.loop-rest.rest.now c.split_at.result.0.now c.split_at.result.1.now
    c.loop-rest.invariant c.split_at.ensures.by_index.0 c.in_ok-push_line.ensures

pub returns : goal.returns
returns c = begun_whole c.args.text.now c.loop-rest.shown.items c.loop-rest.rest.now c.loop-rest.invariant (nil_from_length c.loop-rest.rest.now (search rules))
