use Rattle.std.proofs.Common.{◌+◌, ◌<◌, refl, ap, sym, ◌∙◌, subst}
use Rattle.vk_backing.specs.Allotted.{Allotted}
use Rattle.vk_resources.specs.Allocating.{allotted}
use Rattle.vk_resources.proofs.RestThrough.{rest_any}
use Rattle.vk_device.specs.Inner.Ready.{Rests}
use Rattle.vk_device.specs.declared.device.Device.{Device}
use Rattle.vk_device.proofs.Entering.{clean_next, fits_next}
use Rattle.vk_device.proofs.Touching.{SoFar, atoms_are, begins, took, skipped, touched_fits, touches_all}
use Rattle.vk_model.specs.Run.Runs.{atom_count}
use Rattle.vk_device.proofs.PassBytes.{atom_bytes}
use Rattle.vk_device.proofs.PassCaches.{atom_clean}
use Rattle.vk_device.proofs.device.Device.touch.Goals.{then-pick-eq1+in_ok-turn_over, else-pick-eq1}
use Rattle.vk_device.proofs.Resting.{rests_same, rests_then}
use Rattle.vk_device.proofs.device.Device.touch.Goals as goal

pub loop-atom-init : goal.loop-atom-init
loop-atom-init g c = record { same = refl; allotted = refl; rests = rests_same c.args.self.now.resources; so_far = begins g.S.Scheduler.answer g.S.Scheduler.next c.args.entry.now c.atoms-atoms.result (g.S.Scheduler.held c.args.sched.now) c.args.self.now.resources }

pub turn_over-requires : goal.turn_over-requires
turn_over-requires g c =
    let r = c.requires in
    let past = r.2.front.past in
    let fits = fits_next r.2.count c.args.entry.now past (clean_next r.0 r.1 r.2 c.args.entry.now r.3 c.args.self.now c.no_fault_is_sound.ensures c.direct_runs_are_runs.ensures c.defined_runs_follow.ensures r.4) in
    let low : c.loop-atom.atom < atom_count past c.args.entry.now = rw (sym (atoms_are past c.args.entry.now c.atoms-atoms.result fits (c.atoms-atoms.ensures.counted past r.4.led.matches) c.atoms-atoms.ensures.none)) c.loop-atom-test.true in
    (past, c.loop-atom.invariant.so_far.touched.matches past r.4.led.matches, touched_fits past c.args.entry.now c.loop-atom.atom fits low, low)

pub loop-atom-preserved : goal.loop-atom-preserved
loop-atom-preserved g c =
    let r = c.requires in
    let past = r.2.front.past in
    let all = fits_next r.2.count c.args.entry.now past (clean_next r.0 r.1 r.2 c.args.entry.now r.3 c.args.self.now c.no_fault_is_sound.ensures c.direct_runs_are_runs.ensures c.defined_runs_follow.ensures r.4) in
    let fits = touched_fits past c.args.entry.now c.loop-atom.atom all (rw (sym (atoms_are past c.args.entry.now c.atoms-atoms.result all (c.atoms-atoms.ensures.counted past r.4.led.matches) c.atoms-atoms.ensures.none)) c.loop-atom-test.true) in
    elim c.if-pick-eq1.branch [
      | then-pick-eq1+in_ok-turn_over w ↦ record {
        same = w.self-is ∙ ap (λ (d : Device). record d { resources = w.turn_over.new.self }) c.loop-atom.invariant.same ∙ ap (λ (d : Device). record c.args.self.now { resources = d.resources }) (sym w.self-is);
        allotted = ap (λ (d : Device). allotted d.resources) w.self-is ∙ w.turn_over.ensures.allotted ∙ c.loop-atom.invariant.allotted;
        rests = subst (λ (d : Device). Rests c.args.self.now.resources d.resources) (sym w.self-is)
            (rests_then c.args.self.now.resources c.loop-atom.self.resources w.turn_over.new.self c.loop-atom.invariant.allotted c.loop-atom.invariant.rests (rest_any c.loop-atom.self.resources w.turn_over.new.self _ w.in_ok-turn_over.ensures.rest) w.turn_over.ensures.placed w.turn_over.ensures.shapes);
        so_far = subst (λ (d : Device). SoFar g.S.Scheduler.answer g.S.Scheduler.next c.args.entry.now c.atoms-atoms.result (c.loop-atom.atom + 1) (g.S.Scheduler.held c.args.sched.now) (g.S.Scheduler.held c.pick.new.self) c.args.self.now.resources d.resources) (sym w.self-is)
            (took g.S.Scheduler.answer g.S.Scheduler.next c.args.entry.now c.atoms-atoms.result (g.S.Scheduler.held c.args.sched.now) c.args.self.now.resources c.loop-atom.atom (g.S.Scheduler.held c.loop-atom.sched) (g.S.Scheduler.held c.pick.new.self)
            c.loop-atom.self.resources c.loop-atom-test.true c.loop-atom.invariant.so_far c.pick.result c.pick.ensures.answer c.pick.ensures.next w.if-pick-eq1.true w.turn_over.new.self w.in_ok-turn_over.ensures.turned w.turn_over.ensures.matches w.turn_over.ensures.placed w.turn_over.ensures.shapes (ap (λ (a : Allotted). a.backed) w.turn_over.ensures.allotted)
            (λ p h all agree. (
              atom_clean c.args.entry.now c.loop-atom.atom c.loop-atom.self.resources w.turn_over.new.self p.moving w.in_ok-turn_over.ensures.turned w.turn_over.ensures.placed w.turn_over.ensures.shapes all,
              w.in_ok-turn_over.ensures.agree p h (atom_bytes c.args.entry.now c.loop-atom.atom r.2.front.past c.loop-atom.self.resources p.moving (c.loop-atom.invariant.so_far.touched.matches r.2.front.past r.4.led.matches) fits all) agree,
            )));
      }
      | else-pick-eq1 w ↦ record {
        same = w.self-is ∙ c.loop-atom.invariant.same ∙ ap (λ (d : Device). record c.args.self.now { resources = d.resources }) (sym w.self-is);
        allotted = ap (λ (d : Device). allotted d.resources) w.self-is ∙ c.loop-atom.invariant.allotted;
        rests = subst (λ (d : Device). Rests c.args.self.now.resources d.resources) (sym w.self-is) c.loop-atom.invariant.rests;
        so_far = subst (λ (d : Device). SoFar g.S.Scheduler.answer g.S.Scheduler.next c.args.entry.now c.atoms-atoms.result (c.loop-atom.atom + 1) (g.S.Scheduler.held c.args.sched.now) (g.S.Scheduler.held c.pick.new.self) c.args.self.now.resources d.resources) (sym w.self-is)
            (skipped g.S.Scheduler.answer g.S.Scheduler.next c.args.entry.now c.atoms-atoms.result (g.S.Scheduler.held c.args.sched.now) c.args.self.now.resources c.loop-atom.atom (g.S.Scheduler.held c.loop-atom.sched) (g.S.Scheduler.held c.pick.new.self)
            c.loop-atom.self.resources c.loop-atom-test.true c.loop-atom.invariant.so_far c.pick.result c.pick.ensures.answer c.pick.ensures.next w.if-pick-eq1.false);
      }
    ]

pub returns-in_err-turn_over-clause-same : goal.returns-in_err-turn_over-clause-same
returns-in_err-turn_over-clause-same g c = ap (λ (d : Device). record d { resources = c.turn_over.new.self }) c.loop-atom.invariant.same

pub returns-in_err-turn_over-clause-allotted : goal.returns-in_err-turn_over-clause-allotted
returns-in_err-turn_over-clause-allotted g c = c.turn_over.ensures.allotted ∙ c.loop-atom.invariant.allotted

pub returns-clause-touched : goal.returns-clause-touched
returns-clause-touched g c t steps s xs h =
    let fits = fits_next s.count c.args.entry.now s.front.past (clean_next t steps s c.args.entry.now xs c.args.self.now c.no_fault_is_sound.ensures c.direct_runs_are_runs.ensures c.defined_runs_follow.ensures h) in
    touches_all g.S.Scheduler.answer g.S.Scheduler.next s.front.past c.args.entry.now c.atoms-atoms.result c.loop-atom.atom (g.S.Scheduler.held c.args.sched.now) (g.S.Scheduler.held c.loop-atom.sched) c.args.self.now.resources c.loop-atom.self.resources
    (atoms_are s.front.past c.args.entry.now c.atoms-atoms.result fits (c.atoms-atoms.ensures.counted s.front.past h.led.matches) c.atoms-atoms.ensures.none) c.loop-atom-test.false c.loop-atom.invariant.so_far

pub returns-clause-same : goal.returns-clause-same
returns-clause-same g c = c.loop-atom.invariant.same

pub returns-clause-allotted : goal.returns-clause-allotted
returns-clause-allotted g c = c.loop-atom.invariant.allotted

pub returns-clause-rests : goal.returns-clause-rests
returns-clause-rests g c = c.loop-atom.invariant.rests
