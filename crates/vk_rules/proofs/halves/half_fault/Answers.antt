use Rattle.std.proofs.Common.{◌≡◌, ap, sym, ◌∙◌, ℕ, true}
use Rattle.std.specs.Prelude.{is_some}
use Rattle.vk_model.specs.World.Ownership.{Stays, Release, Acquire, family_of, transfer}
use Rattle.vk_model.specs.Rules.Owners.{families_differ}
use Rattle.vk_model.specs.Trace.PointViews.{point_of}
use Rattle.vk_history.specs.PointViews.{past}
use Rattle.vk_touches.proofs.PartChanges.{if_ok}
use Rattle.vk_rules.proofs.Judging.Halves.{owner_judges, release_differs, acquire_differs, of_each}
use Rattle.vk_rules.proofs.halves.half_fault.Goals as goal

pub returns-in-Stays-clause-judges : goal.returns-in-Stays-clause-judges
returns-in-Stays-clause-judges c =
    let doing = ap (λ (f : ℕ). transfer f c.args.families) (sym c.family_of.ensures) ∙ sym c.in-Stays.ensures in
    if_ok c.stay.result c.stay.ensures.judges (λ found judges.
    owner_judges (past c.args.history.now) (point_of c.args.point.now) c.args.element.now c.args.resource c.args.families Stays c.requires.named c.requires.families doing c.requires.fit
    c.args.changed.now c.stay.new.changed (is_some found) judges)

pub returns-in-Release-clause-judges : goal.returns-in-Release-clause-judges
returns-in-Release-clause-judges c =
    let doing = ap (λ (f : ℕ). transfer f c.args.families) (sym c.family_of.ensures) ∙ sym c.in-Release.ensures in
    if_ok c.release.result c.release.ensures.judges (λ found judges.
    owner_judges (past c.args.history.now) (point_of c.args.point.now) c.args.element.now c.args.resource c.args.families Release c.requires.named c.requires.families doing c.requires.fit
    c.args.changed.now c.release.new.changed (is_some found) judges)

pub returns-in-Release-clause-differ : goal.returns-in-Release-clause-differ
returns-in-Release-clause-differ c =
    let doing = ap (λ (f : ℕ). transfer f c.args.families) (sym c.family_of.ensures) ∙ sym c.in-Release.ensures in
    of_each (families_differ c.args.families ≡ true) c.release.result (release_differs (family_of c.args.point.now.queue) c.args.families doing)

pub returns-in-Acquire-clause-judges : goal.returns-in-Acquire-clause-judges
returns-in-Acquire-clause-judges c =
    let doing = ap (λ (f : ℕ). transfer f c.args.families) (sym c.family_of.ensures) ∙ sym c.in-Acquire.ensures in
    if_ok c.acquire.result c.acquire.ensures.judges (λ found judges.
    owner_judges (past c.args.history.now) (point_of c.args.point.now) c.args.element.now c.args.resource c.args.families Acquire c.requires.named c.requires.families doing c.requires.fit
    c.args.changed.now c.acquire.new.changed (is_some found) judges)

pub returns-in-Acquire-clause-differ : goal.returns-in-Acquire-clause-differ
returns-in-Acquire-clause-differ c =
    let doing = ap (λ (f : ℕ). transfer f c.args.families) (sym c.family_of.ensures) ∙ sym c.in-Acquire.ensures in
    of_each (families_differ c.args.families ≡ true) c.acquire.result (acquire_differs (family_of c.args.point.now.queue) c.args.families doing)

pub returns-in-Stays-clause-differ : goal.returns-in-Stays-clause-differ
returns-in-Stays-clause-differ c = if_ok c.stay.result c.stay.ensures.fits (λ found none. rw none tt)

pub returns-in-Stays-clause-fault : goal.returns-in-Stays-clause-fault
returns-in-Stays-clause-fault c = if_ok c.stay.result c.stay.ensures.fits (λ found none. rw none tt)

pub returns-in-Release-clause-fault : goal.returns-in-Release-clause-fault
returns-in-Release-clause-fault c = c.release.ensures.fault c.args.families

pub returns-in-Acquire-clause-fault : goal.returns-in-Acquire-clause-fault
returns-in-Acquire-clause-fault c = c.acquire.ensures.fault c.args.families
