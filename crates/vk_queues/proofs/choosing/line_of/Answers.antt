use Rattle.std.proofs.Common.{◌≡◌, ◌∙◌, sym, ap, subst, List, ◌++◌, ◌∷◌, [], Some, slice_get, map, length}
use Rattle.vk_queues.specs.declared.lines.Line.{Line}
use Rattle.vk_queues.specs.Inner.Lined.{queued, IsLined, AreAllMet, HasLine}
use Rattle.vk_queues.proofs.Lining.{lined_line, met_push}
use Rattle.vk_queues.proofs.choosing.line_of.Goals as goal
use Rattle.vk_model.proofs.Lists.Items.{push_new}

pub returns-in-Some-clause-here : goal.returns-in-Some-clause-here
returns-in-Some-clause-here c = subst (λ (l : List Line). HasLine c.args.queue c.in-Some.k l) c.as_slice.ensures.value c.in-Some.ensures

pub returns-in_ok-push-in-None-clause-here : goal.returns-in_ok-push-in-None-clause-here
returns-in_ok-push-in-None-clause-here c =
    let items : List Line = c.args.lines.now.items in
    let end : c.len-k.result ≡ length items = c.len-k.ensures ∙ sym c.as_slice.ensures.len ∙ ap length c.as_slice.ensures.value in
    (c.new.result, subst (λ (l : List Line). slice_get l c.len-k.result ≡ Some c.new.result) (sym c.in_ok-push-in-None.ensures.items) (ap (slice_get (items ++ c.new.result ∷ [])) end ∙ push_new items c.new.result), c.new.ensures.queue)

pub returns-in_ok-push-in-None-clause-lined : goal.returns-in_ok-push-in-None-clause-lined
returns-in_ok-push-in-None-clause-lined c = λ waiting lined. subst (λ (l : List Line). IsLined (map queued l) waiting) (sym c.in_ok-push-in-None.ensures.items)
    (lined_line c.args.lines.now.items c.new.result c.args.queue waiting (λ k l at. c.in-None.ensures k l (ap (λ (x : List Line). slice_get x k) c.as_slice.ensures.value ∙ at)) c.new.ensures.queue c.new.ensures.batches lined)

pub returns-in_ok-push-in-None-clause-met : goal.returns-in_ok-push-in-None-clause-met
returns-in_ok-push-in-None-clause-met c = λ past met. subst (AreAllMet past) (sym c.in_ok-push-in-None.ensures.items) (met_push past c.args.lines.now.items c.new.result met c.new.ensures.met)
