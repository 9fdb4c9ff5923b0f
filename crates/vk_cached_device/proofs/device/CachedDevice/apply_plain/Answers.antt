use Rattle.std.proofs.Common.{◌≡◌, ℕ, List, ap, sym, ◌∙◌, subst, arith, inr}
use Rattle.vk_cached_device.specs.Inner.{PlainBy}
use Rattle.vk_cached_device.proofs.AtOnce.{plain_next, name_kept}
use Rattle.vk_cached_device.proofs.Turning.{plain_before}
use Rattle.vk_cached_device.proofs.device.CachedDevice.apply_plain.Goals as goal

pub apply-requires : goal.apply-requires
apply-requires g c = let r = c.requires in inr (r.0, r.1, r.2, r.5, plain_before r.6)

pub returns-clause-applied : goal.returns-clause-applied
returns-clause-applied g c t steps s xs is may =
    let applies = c.in_ok-applied.ensures.applied in
    let kept = name_kept g.S.Scheduler.answer g.S.Scheduler.next (g.S.Scheduler.held c.args.sched.now) c.args.entry.now c.args.self.now.device c.apply.new.self _ c.has_steps-last.result _ _ _ c.has_steps-last.ensures t steps s xs is may c.in_ok-applied.applied (applies t steps s xs is) in
    subst (λ (n : g.row.S.Denot). PlainBy g.S.Scheduler.answer g.S.Scheduler.next c.in_ok-applied.applied t steps s (g.S.Scheduler.held c.args.sched.now) c.args.entry.now xs c.args.self.now.device c.apply.new.self (g.S.Scheduler.held n)) (sym (c.sched-1.given.1 kept))
    (plain_next g.S.Scheduler.answer g.S.Scheduler.next (g.S.Scheduler.held c.args.sched.now) c.args.entry.now c.args.self.now.device c.apply.new.self _ c.has_steps-last.result _ _ _ c.has_steps-last.ensures c.in_ok-applied.applied applies c.in_ok-applied.ensures.bytes t steps s xs is may)

pub returns-clause-reads : goal.returns-clause-reads
returns-clause-reads g c = λ t steps s memory late xs is. c.in_ok-applied.ensures.reads t steps s xs (plain_before is)
