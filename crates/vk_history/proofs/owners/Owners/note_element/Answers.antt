use Rattle.std.proofs.Common.{◌≡◌, ◌∙◌, ℕ, ap, sym, subst, length, Some}
use Rattle.vk_order.specs.declared.lines.Line.{Line}
use Rattle.vk_order.specs.declared.parts.Spot.{Spot}
use Rattle.vk_order.specs.Lines.{place, has_transfer, has_host, line_on}
use Rattle.vk_model.specs.Sync.Node.{Act, Depends, Barrier}
use Rattle.vk_model.specs.World.Ownership.{dependency_of}
use Rattle.vk_history.specs.Owners.{kept_at, after_element}
use Rattle.vk_history.proofs.Using.Lasts.{element_counted}
use Rattle.vk_history.proofs.Owning.{element_comes}
use Rattle.vk_history.proofs.owners.Owners.note_element.Goals as goal

pub returns : goal.returns
returns c = λ past w ns n numbers on is objects counts are.
    let e = c.args.element.now in
    let s = (dependency_of e).destination_stages.0 in
    let taken = c.in-Some.ensures c.args.queue (has_transfer s) (has_host s) c.of-line.ensures in
    let spot : Spot = record { line = c.of-line.result; place = c.in-Some.place } in
    let same = subst (λ (f : ℕ). (r : ℕ) → kept_at c.change.new.self r ≡ after_element past f e spot r (kept_at c.args.self.now r)) c.family_of.ensures (c.in_ok-change.ensures past objects) in (
      element_counted ns n numbers e c.args.queue on is c.args.counts.now c.take.new.self taken.1 counts,
      element_comes past w ns n numbers c.args.queue on e is spot
          (ap (λ (a : Act). line_on n.point.queue a) is ∙ ap (λ (k : ℕ). line_on k (Depends Barrier e)) on ∙ ap Some (sym c.of-line.ensures))
          (taken.0 ∙ counts (has_transfer s) (has_host s) ∙ ap (λ (l : Line). place ns l (length ns)) (sym c.of-line.ensures))
          c.args.self.now c.change.new.self same are,
    )
