use Rattle.std.proofs.Common.{◌≡◌, ◌++◌, ◌∷◌, [], ℕ, ◌+◌, List, length, refl, ap, sym, ◌∙◌, arith, slice_index, subst}
use Rattle.std.specs.List.Sorted.{IsPermutation}
use Rattle.vk_events.specs.declared.hanging.Hanging.{Hanging}
use Rattle.vk_events.specs.Inner.Hooks.{Hung}
use Rattle.vk_events.specs.Inner.Hanging.{IsHung}
use Rattle.vk_events.proofs.SettledLemmas.{renamed}
use Rattle.vk_events.proofs.HungLemmas.{hung_same, hung_more, hung_as, added, added_met}
use Rattle.vk_events.proofs.hanging.Hanging.add.Goals as goal
use Rattle.vk_events.proofs.hanging.Hanging.add.Goals.{then-counts-queue+in_ok-hang, else-counts-queue, then-lacking-eq0, else-lacking-eq0}

pub loop-queue-preserved : goal.loop-queue-preserved
loop-queue-preserved c = elim c.if-counts-queue.branch [
  | then-counts-queue+in_ok-hang w ↦ (
      let v = c.loop-queue.invariant in
      let f = w.in_ok-hang.ensures.hung in
      let own = v.0.queues in
      let four : length c.args.self.now.hooks ≡ 4 = sym own ∙ w.in_ok-hang.ensures.four in (
        hung_as c.args.self.now.hooks _ c.if-counts-queue.self.hooks c.in-Ok.number c.args.counts c.args.done (c.loop-queue.queue + 1) _ c.if-counts-queue.lacking
            (ap (λ (x : Hanging). x.hooks) w.self-is ∙ f.1) w.lacking-is
            (hung_more c.args.self.now.hooks c.loop-queue.self.hooks c.in-Ok.number c.args.counts c.args.done c.loop-queue.queue c.loop-queue.lacking v.0 four c.loop-queue-test.true f.0 w.if-counts-queue.true f.2),
        ap (λ (x : Hanging). x.lacking) w.self-is ∙ v.1,
        ap (λ (x : Hanging). x.met) w.self-is ∙ v.2,
      ))
  | else-counts-queue w ↦ (
      let v = c.loop-queue.invariant in (
        hung_as c.args.self.now.hooks c.loop-queue.self.hooks c.if-counts-queue.self.hooks c.in-Ok.number c.args.counts c.args.done (c.loop-queue.queue + 1) c.loop-queue.lacking c.if-counts-queue.lacking
            (ap (λ (x : Hanging). x.hooks) w.self-is) w.lacking-is
            (hung_same c.args.self.now.hooks c.loop-queue.self.hooks c.in-Ok.number c.args.counts c.args.done c.loop-queue.queue c.loop-queue.lacking v.0 w.if-counts-queue.false),
        ap (λ (x : Hanging). x.lacking) w.self-is ∙ v.1,
        ap (λ (x : Hanging). x.met) w.self-is ∙ v.2,
      ))
]

pub returns : goal.returns
returns c all taken is =
    let v = c.loop-queue.invariant in
    let now = c.args.self.now in
    let n = c.in-Ok.number in
    let l = c.loop-queue.lacking in
    let last : n ≡ length all = let a = c.in-Ok.ensures in let b = c.len.ensures in let s = is.size in omega (arith, a, b, s) in
    let end : c.loop-queue.queue ≡ 4 = omega (arith, c.loop-queue.auto.queue-end, c.loop-queue-test.false) in
    let hung = subst (λ (k : ℕ). IsHung now.hooks c.loop-queue.self.hooks n c.args.counts c.args.done k l) end v.0 in
    let reserved = c.in_ok-reserve.ensures in
    let met : c.loop-queue.self.met.pairs ≡ now.met.pairs = ap (λ (h : Hung). h.pairs) v.2 ∙ reserved.pairs in
    let room = ap (λ (h : Hung). h.room) v.2 in
    elim c.if-lacking-eq0.branch [
      | then-lacking-eq0 w ↦
          renamed c.loop-queue.self.hooks c.if-lacking-eq0.self.hooks (now.lacking.items ++ l ∷ []) c.push-2.new.self.items w.push.new.self c.if-lacking-eq0.self.met (all ++ c.args.counts ∷ []) (slice_index c.args.done) (slice_index c.args.done) taken
          (ap (λ (x : Hanging). x.hooks) w.self-is)
          (c.in_ok-push.ensures.items ∙ ap (λ (x : Hanging). x.lacking.items ++ l ∷ []) w.self-is ∙ ap (λ (x : _). x.items ++ l ∷ []) v.1)
          (ap (λ (x : Hanging). x.met) w.self-is)
          (added_met now.hooks c.loop-queue.self.hooks now.lacking.items now.met w.push.new.self all (slice_index c.args.done) taken c.args.counts c.args.done (λ q. refl) n l is hung last
          w.if-lacking-eq0.true (subst (λ (ps : List (ℕ × ℕ)). IsPermutation ((n, n) ∷ ps) w.push.new.self.pairs) met w.push.ensures.pairs) (omega (arith, room, reserved.room, w.push.ensures.room)))
      | else-lacking-eq0 w ↦
          renamed c.loop-queue.self.hooks c.if-lacking-eq0.self.hooks (now.lacking.items ++ l ∷ []) c.push-2.new.self.items c.loop-queue.self.met c.if-lacking-eq0.self.met (all ++ c.args.counts ∷ []) (slice_index c.args.done) (slice_index c.args.done) taken
          (ap (λ (x : Hanging). x.hooks) w.self-is)
          (c.in_ok-push.ensures.items ∙ ap (λ (x : Hanging). x.lacking.items ++ l ∷ []) w.self-is ∙ ap (λ (x : _). x.items ++ l ∷ []) v.1)
          (ap (λ (x : Hanging). x.met) w.self-is)
          (added now.hooks c.loop-queue.self.hooks now.lacking.items now.met c.loop-queue.self.met all (slice_index c.args.done) taken c.args.counts c.args.done (λ q. refl) n l is hung last
          (let some = w.if-lacking-eq0.false in omega arith) met (omega (arith, room, reserved.room)))
    ]
