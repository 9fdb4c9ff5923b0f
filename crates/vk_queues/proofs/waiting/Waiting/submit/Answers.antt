use Rattle.std.proofs.Common.{◌≡◌, ◌+◌, ◌++◌, ◌∙◌, sym, ap, subst, List, append-nil}
use Rattle.vk_model.specs.Trace.Order.{SubmittedBatch, batches_of}
use Rattle.vk_queues.specs.Inner.AreWaiting.{AreWaiting}
use Rattle.vk_queues.proofs.Fronts.{nothing_submitted, no_batches}
use Rattle.vk_queues.proofs.waiting.Waiting.submit.Goals as goal

pub returns-in_default : goal.returns-in_default
returns-in_default c = λ f w. record {
  parts =
      let none = no_batches f.past c.args.number c.args.entry.now c.in_default.not-Submit in
      let all : f.waiting ++ batches_of f.past c.args.number c.args.entry.now ≡ f.waiting = ap (λ (l : List SubmittedBatch). f.waiting ++ l) none ∙ append-nil f.waiting in
      subst (λ (l : List SubmittedBatch). AreWaiting c.args.self.now.tallies c.args.self.now.lines.items (c.args.number + 1) (record { past = f.past; waiting = l })) (sym all)
      (nothing_submitted c.args.self.now.tallies c.args.self.now.lines.items c.args.number f w.parts);
}
