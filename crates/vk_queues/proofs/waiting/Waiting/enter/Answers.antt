use Rattle.std.proofs.Common.{◌≡◌, ◌+◌, ◌++◌, ◌∷◌, ◌∙◌, sym, ap, subst, List, ℕ, map, length}
use Rattle.vk_model.specs.Trace.Order.{Front, batches_of, host}
use Rattle.vk_queues.specs.declared.lines.Line.{Line}
use Rattle.vk_queues.specs.declared.waiting.Waiting.{Waiting}
use Rattle.vk_queues.specs.declared.tallies.Tallies.{Tallies}
use Rattle.vk_queues.specs.Inner.Tallied.{tally_at, after_entry}
use Rattle.vk_queues.specs.Inner.Lined.{queued}
use Rattle.vk_queues.specs.Inner.AreWaiting.{AreWaiting}
use Rattle.vk_queues.proofs.Fronts.{entered_waiting, entered_again, over}
use Rattle.vk_queues.proofs.waiting.Waiting.enter.Goals as goal
use Rattle.vk_queues.proofs.waiting.Waiting.enter.Goals.{then-is_made_again, else-is_made_again}

pub returns : goal.returns
returns c = λ f w. record {
  parts =
      let before = (c.in_ok-submit.ensures f w).parts in
      let old : Waiting = c.submit.new.self in
      let g : Front = record { past = f.past; waiting = f.waiting ++ batches_of f.past c.args.number c.args.entry.now } in
      let After : List Line → Type 0 = λ (l : List Line). AreWaiting c.enter.new.self l (c.args.number + 1) (record { past = host c.args.number c.args.entry.now ∷ g.past; waiting = g.waiting }) in
      let Step : Tallies → Type 0 = λ (t : Tallies). (id : ℕ) → tally_at c.enter.new.self id ≡ after_entry id c.args.entry.now (tally_at t id) in
      elim c.if-is_made_again.branch [
        | then-is_made_again b ↦
            let new : List Line = b.forget.new.lines in
            let same : map queued new ≡ map queued old.lines.items = b.forget.ensures.lines ∙ ap (map queued) b.deref_mut.ensures.value in
            let step = subst Step (ap (λ (s : Waiting). s.tallies) b.self-is) c.in_ok-enter.ensures in
            subst After (sym (ap (λ (s : Waiting). s.lines.items) b.self-is ∙ over _ new old.lines.items (sym b.deref_mut.ensures.len ∙ ap length b.deref_mut.ensures.value) same))
            (entered_again old.tallies c.enter.new.self old.lines.items new (c.args.number + 1) c.args.number c.args.entry.now g before step same (b.forget.ensures.met (host c.args.number c.args.entry.now ∷ f.past)))
        | else-is_made_again b ↦
            let step = subst Step (ap (λ (s : Waiting). s.tallies) b.self-is) c.in_ok-enter.ensures in
            subst After (sym (ap (λ (s : Waiting). s.lines.items) b.self-is))
            (entered_waiting old.tallies c.enter.new.self old.lines.items (c.args.number + 1) c.args.number c.args.entry.now g before step (sym b.if-is_made_again.ensures))
      ];
}
