use Rattle.std.proofs.Common.{◌≡◌, ℕ, Option, Some, true, sym, subst, eqb-true}
use Rattle.std.specs.Prelude.{◌==◌}
use Rattle.std.specs.List.{find}
use Rattle.vk_model.specs.Basics.{holds}
use Rattle.vk_model.specs.Trace.Order.{signal_of}
use Rattle.vk_model.proofs.Lists.Members.{found}
use Rattle.vk_model.specs.Trace.PointViews.{action_of, point_of}
use Rattle.vk_queues.specs.PointViews.{past_of}
use Rattle.vk_findings.specs.Signals.{signals}
use Rattle.vk_findings.proofs.signals.after_last.Goals as goal

pub returns : goal.returns
returns c = λ a signaled.
    let past = past_of c.args.points.now in
    let s = c.args.signal.semaphore in
    let earlier = c.in_ok-earlier.earlier in
    let last : find (signals s) past ≡ Some (point_of c.in_ok-last.last) = sym c.in_ok-last.ensures in
    let is : signal_of (action_of c.in_ok-last.last.action) ≡ Some (earlier.semaphore, earlier.value) = sym c.in_ok-earlier.ensures in
    let passes = (found (signals s) past (point_of c.in_ok-last.last) last).1 in
    let same : earlier.semaphore ≡ s = eqb-true earlier.semaphore s (subst (λ (o : Option (ℕ × ℕ)). holds o (λ x. x.0 == s) ≡ true) is passes) in
    record {
      signal = signaled;
      last = last;
      earlier = subst (λ (k : ℕ). signal_of (action_of c.in_ok-last.last.action) ≡ Some (k, earlier.value)) same is;
    }
