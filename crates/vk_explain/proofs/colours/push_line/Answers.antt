use Rattle.vk_explain.proofs.Colouring.{added_line}
use Rattle.vk_explain.proofs.colours.push_line.Goals as goal

pub returns : goal.returns
returns c =
    added_line c.mark_of-mark.result.style c.args.out.now.items c.push_styled.new.out.items c.push_styled-2.new.out.items c.push_styled-3.new.out.items
    c.args.line.now c.split_at.result.0.now c.split_at.result.1.now c.split_at-2.result.0.now c.split_at-2.result.1.now
    c.split_at.ensures.by_index.0 c.split_at-2.ensures.by_index.0 c.in_ok-push_styled.ensures c.in_ok-push_styled-2.ensures c.in_ok-push_styled-3.ensures
