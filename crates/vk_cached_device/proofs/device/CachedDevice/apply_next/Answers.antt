use Rattle.std.proofs.Common.{◌≡◌, ◌++◌, ◌∷◌, [], ◌<◌, ℕ, List, true, length, ap, sym, ◌∙◌, subst, arith, refl}
use Rattle.vk_model.specs.Trace.Order.{host}
use Rattle.vk_model.specs.Run.Runs.{Stage, applied, atom_count}
use Rattle.vk_model.specs.Run.Picks.{atom_picks}
use Rattle.vk_model.specs.Run.CachedRuns.{happening}
use Rattle.vk_resources.specs.declared.applied.Applied.{Applied}
use Rattle.vk_resources.specs.declared.applied.Applied.TheVariants as done
use Rattle.vk_lag.specs.Lags.{Lags}
use Rattle.vk_device.specs.declared.device.Device.{Device}
use Rattle.vk_device.specs.Passes.{AllotsAll, parts_begun}
use Rattle.vk_device.proofs.Entering.{clean_next}
use Rattle.vk_device.proofs.WholeEntries.{atoms_below}
use Rattle.vk_cached_device.specs.declared.device.CachedDevice.{CachedDevice}
use Rattle.vk_cached_device.specs.LedLate.{LedLate}
use Rattle.vk_cached_device.specs.Inner.{Arrives, Advances, Follows, PlainBy}
use Rattle.vk_cached_device.proofs.NextEntries.{was_entry, led_next}
use Rattle.vk_cached_device.proofs.Refusing.{refused_late}
use Rattle.vk_cached_device.proofs.Turning.{plain_before}
use Rattle.vk_cached_device.proofs.WholeEntries.{arrives, led_told}
use Rattle.vk_cached_device.proofs.device.CachedDevice.apply_next.Goals as goal

pub advance-requires : goal.advance-requires
advance-requires g c =
    let r = c.requires in
    let plain = was_entry g.S.Scheduler.answer g.S.Scheduler.next c.in_ok-applied.applied c.in_default.not-NoRoom (c.in_ok-applied.ensures.applied r.0 r.1 r.2 r.5 (plain_before r.6) r.7) in
    let atoms = (atom_picks g.S.Scheduler.answer g.S.Scheduler.next (atom_count r.2.front.past c.args.entry.now) 0 (g.S.Scheduler.held c.args.sched.now)).0 in
    let touched = atoms_below g.S.Scheduler.answer g.S.Scheduler.next (atom_count r.2.front.past c.args.entry.now) 0 (atom_count r.2.front.past c.args.entry.now) (g.S.Scheduler.held c.args.sched.now) (omega arith) in
    let clean = clean_next r.0 r.1 r.2 c.args.entry.now r.5 c.args.self.now.device c.no_fault_is_sound.ensures c.direct_runs_are_runs.ensures c.defined_runs_follow.ensures (plain_before r.6) in
    let whole = c.follow.ensures.same ∙ ap (λ (d : CachedDevice). record d { lags = c.follow.new.self.lags }) c.apply_plain.ensures.same in
    (r.0, r.1, r.2, r.5, atoms, subst (λ (d : CachedDevice). Arrives r.0 r.1 r.2 c.args.entry.now r.5 atoms d) (sym whole) (arrives r.0 r.1 r.2 r.3 r.4 c.args.entry.now r.5 c.args.self.now r.6 r.7 clean atoms touched c.apply_plain.new.self.device c.follow.new.self.lags plain.led))

pub settle-requires : goal.settle-requires
settle-requires g c =
    let r = c.requires in
    let plain = was_entry g.S.Scheduler.answer g.S.Scheduler.next c.in_ok-applied.applied c.in_default.not-NoRoom (c.in_ok-applied.ensures.applied r.0 r.1 r.2 r.5 (plain_before r.6) r.7) in
    let atoms = (atom_picks g.S.Scheduler.answer g.S.Scheduler.next (atom_count r.2.front.past c.args.entry.now) 0 (g.S.Scheduler.held c.args.sched.now)).0 in
    let touched = atoms_below g.S.Scheduler.answer g.S.Scheduler.next (atom_count r.2.front.past c.args.entry.now) 0 (atom_count r.2.front.past c.args.entry.now) (g.S.Scheduler.held c.args.sched.now) (omega arith) in
    let clean = clean_next r.0 r.1 r.2 c.args.entry.now r.5 c.args.self.now.device c.no_fault_is_sound.ensures c.direct_runs_are_runs.ensures c.defined_runs_follow.ensures (plain_before r.6) in
    let whole = c.follow.ensures.same ∙ ap (λ (d : CachedDevice). record d { lags = c.follow.new.self.lags }) c.apply_plain.ensures.same in
    let come = c.in_ok-advance-in_default.ensures.advances.advanced r.0 r.1 r.2 r.5 atoms (subst (λ (d : CachedDevice). Arrives r.0 r.1 r.2 c.args.entry.now r.5 atoms d) (sym whole) (arrives r.0 r.1 r.2 r.3 r.4 c.args.entry.now r.5 c.args.self.now r.6 r.7 clean atoms touched c.apply_plain.new.self.device c.follow.new.self.lags plain.led)) in
    (_, _, _, come.happenings, come.few)

pub returns-in-NoRoom-clause-applied : goal.returns-in-NoRoom-clause-applied
returns-in-NoRoom-clause-applied g c t steps s memory late xs is may =
    let plain = subst (λ (a : Applied). PlainBy g.S.Scheduler.answer g.S.Scheduler.next a t steps s (g.S.Scheduler.held c.args.sched.now) c.args.entry.now xs c.args.self.now.device c.apply_plain.new.self.device (g.S.Scheduler.held c.apply_plain.new.sched)) c.in-NoRoom.is (c.in_ok-applied.ensures.applied t steps s xs (plain_before is) may) in (
      subst (λ (d : CachedDevice). LedLate t steps s memory late d) (sym c.apply_plain.ensures.same) (refused_late t steps s memory late c.args.self.now is.led c.apply_plain.new.self.device plain.led (c.in_ok-applied.ensures.works ∙ sym is.led.works) plain.becomes),
      plain.holds,
    )

pub returns-in_ok-advance-in_default-clause-applied : goal.returns-in_ok-advance-in_default-clause-applied
returns-in_ok-advance-in_default-clause-applied g c t steps s memory late xs is may =
    let plain = was_entry g.S.Scheduler.answer g.S.Scheduler.next c.in_ok-applied.applied c.in_default.not-NoRoom (c.in_ok-applied.ensures.applied t steps s xs (plain_before is) may) in
    let atoms = (atom_picks g.S.Scheduler.answer g.S.Scheduler.next (atom_count s.front.past c.args.entry.now) 0 (g.S.Scheduler.held c.args.sched.now)).0 in
    let touched = atoms_below g.S.Scheduler.answer g.S.Scheduler.next (atom_count s.front.past c.args.entry.now) 0 (atom_count s.front.past c.args.entry.now) (g.S.Scheduler.held c.args.sched.now) (omega arith) in
    let clean = clean_next t steps s c.args.entry.now xs c.args.self.now.device c.no_fault_is_sound.ensures c.direct_runs_are_runs.ensures c.defined_runs_follow.ensures (plain_before is) in
    let whole = c.follow.ensures.same ∙ ap (λ (d : CachedDevice). record d { lags = c.follow.new.self.lags }) c.apply_plain.ensures.same in
    let advances = subst (λ (d : CachedDevice). Advances d c.advance.new.self c.args.entry.now) whole c.in_ok-advance-in_default.ensures.advances in
    let follows = subst (λ (l : Lags). Follows c.args.entry.now c.apply_plain.new.self.device l c.follow.new.self.lags) (ap (λ (d : CachedDevice). d.lags) c.apply_plain.ensures.same) c.in_ok-follow-in_default.ensures.follows in
    let led = led_told t steps s memory late c.args.entry.now xs c.args.self.now is may clean atoms touched c.apply_plain.new.self.device c.follow.new.self.lags plain.led plain.becomes c.in_ok-applied.ensures.bare c.late_runs_go_on.ensures.new c.late_runs_go_on.ensures.entries follows c.in_ok-applied.ensures.works c.advance.new.self c.settle.new.self advances c.settle.ensures c.late_runs_go_on.ensures.same in
    led_next g.S.Scheduler.answer g.S.Scheduler.next c.in_ok-applied.applied c.in_default.not-NoRoom t steps s memory late (g.S.Scheduler.held c.args.sched.now) c.args.entry.now xs c.settle.new.self (g.S.Scheduler.held c.apply_plain.new.sched) _ led plain.holds

pub returns-in-NoRoom-clause-allots : goal.returns-in-NoRoom-clause-allots
returns-in-NoRoom-clause-allots g c = subst (λ (a : Applied). AllotsAll a c.args.entry.now c.args.self.now.device.resources c.args.self.now.device.passes c.apply_plain.new.self.device.resources c.apply_plain.new.self.device.passes) c.in-NoRoom.is c.in_ok-applied.ensures.allots

pub returns-in_ok-advance-in_default-clause-allots : goal.returns-in_ok-advance-in_default-clause-allots
returns-in_ok-advance-in_default-clause-allots g c =
    let same : c.settle.new.self.device ≡ c.apply_plain.new.self.device = ap (λ (d : CachedDevice). d.device) c.settle.ensures.same ∙ c.in_ok-advance-in_default.ensures.advances.device ∙ ap (λ (d : CachedDevice). d.device) c.follow.ensures.same in
    subst (λ (d : Device). AllotsAll c.in_ok-applied.applied c.args.entry.now c.args.self.now.device.resources c.args.self.now.device.passes d.resources d.passes) (sym same) c.in_ok-applied.ensures.allots
