use Rattle.std.proofs.Common.{Option, ap, sym, ◌∙◌, subst}
use Rattle.vk_model.specs.Sync.Edge.{pairs}
use Rattle.vk_order.specs.declared.fronts.Front.{Front}
use Rattle.vk_order.specs.NodeViews.{act_of}
use Rattle.vk_order.specs.Inner.Fronts.{IsNamed}
use Rattle.vk_order.specs.Inner.Keyed.{front_at}
use Rattle.vk_order.specs.Inner.Names.{is_set_of}
use Rattle.vk_order.proofs.FrontLemmas.{named_same}
use Rattle.vk_order.proofs.WaitLemmas.{pairs_is}
use Rattle.vk_order.proofs.names.Names.set_of.Goals as goal

pub returns-in-Await : goal.returns-in-Await
returns-in-Await c = λ ns ls sets.
    subst (λ (o : Option Front). IsNamed ns ls (λ k. pairs k.act (act_of c.args.act.now)) o) (sym c.get.ensures)
    (named_same ns ls (λ k. is_set_of c.in-Await.event c.in-Await.k k.act) (λ k. pairs k.act (act_of c.args.act.now)) (front_at c.args.self.now.sets c.in-Await.event c.in-Await.k)
    (λ k there. pairs_is k.act c.in-Await.event c.in-Await.k _ ∙ ap (pairs k.act) (sym (ap act_of c.in-Await.is)))
    (sets c.in-Await.event c.in-Await.k))
