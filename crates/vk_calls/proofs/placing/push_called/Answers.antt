use Rattle.std.proofs.Common.{◌++◌, ◌∙◌, sym, append_assoc, rules}
use Rattle.vk_words.specs.Points.{at_text}
use Rattle.vk_calls.specs.Calls.{data_of}
use Rattle.vk_calls.specs.Inner.Adding.{IsNamedIn, IsAdded}
use Rattle.vk_calls.proofs.Calling.{begun_more, begun_whole}
use Rattle.vk_calls.proofs.placing.push_called.Goals as goal

pub loop-named-preserved : goal.loop-named-preserved
loop-named-preserved c =
    let n : IsNamedIn c.loop-named.rest.now c.in-Some.named = search rules in
    begun_more (data_of c.args.calls.now) c.args.text.now c.args.out.now.items c.loop-named.out.items c.push_named.new.out.items c.loop-named.rest.now
    (c.in-Some.named.front.now ++ at_text c.in-Some.named.at) c.in-Some.named.after.now c.loop-named.invariant
    (n.whole ∙ sym (append_assoc c.in-Some.named.front.now (at_text c.in-Some.named.at) c.in-Some.named.after.now)) c.in_ok-push_named.ensures

pub returns : goal.returns
returns c =
    let added : IsAdded (data_of c.args.calls.now) c.args.out.now.items c.args.text.now (c.loop-named.out.items ++ c.loop-named.rest.now) =
    begun_whole (data_of c.args.calls.now) c.args.text.now c.args.out.now.items c.loop-named.out.items c.loop-named.rest.now c.loop-named.invariant in
    (added.0, added.1, c.in_ok-extend_from_slice.ensures.items ∙ added.2)
