use Rattle.std.proofs.Common.{◌≤◌, refl, arith, slice_index}
use Rattle.vk_events.proofs.SettledLemmas.{looser, moved, moved_all}
use Rattle.vk_events.proofs.hanging.Hanging.advance.Goals as goal

pub settle-requires-clause-hanging : goal.settle-requires-clause-hanging
settle-requires-clause-hanging c = let r = c.requires in (r.0, _, slice_index c.args.done, r.2, refl, c.loop-queue.invariant r.0 r.1 r.2 r.3 r.4)

pub loop-queue-preserved : goal.loop-queue-preserved
loop-queue-preserved c counts low taken less is =
    let now = c.settle.new.self in
    looser now.hooks now.lacking.items now.met counts _ (slice_index c.args.done) _ (slice_index c.args.done) taken (λ q on. moved (slice_index c.args.done) low c.loop-queue.queue q) (λ q on. omega arith)
    (c.settle.ensures counts _ (slice_index c.args.done) taken refl (c.loop-queue.invariant counts low taken less is))

pub returns : goal.returns
returns c counts low taken less is =
    let now = c.loop-queue.self in
    let end : 4 ≤ c.loop-queue.queue = omega arith in
    looser now.hooks now.lacking.items now.met counts _ (slice_index c.args.done) _ (slice_index c.args.done) taken (λ q on. moved_all (slice_index c.args.done) low c.loop-queue.queue q (omega arith)) (λ q on. omega arith)
    (c.loop-queue.invariant counts low taken less is)
