use Rattle.std.proofs.Common.{ℕ, ◌≡◌, ◌∙◌, ap, refl, length, arith}
use Rattle.vk_model.specs.Sync.Node.{Node, Depends, Barrier}
use Rattle.vk_model.specs.World.Ownership.{dependency_of}
use Rattle.vk_order.specs.declared.lines.Line.{Line}
use Rattle.vk_order.specs.Barriers.{element_node}
use Rattle.vk_order.specs.Lines.{place, has_transfer, has_host, class_on, class_of}
use Rattle.vk_touches.specs.declared.touches.Spot.{Spot}
use Rattle.vk_history.proofs.Using.Lasts.{element_counted}
use Rattle.vk_history.proofs.element_spots.ElementSpots.take.Goals as goal

pub returns : goal.returns
returns c = λ ns p numbers are.
    let e = c.args.element.now in
    let s = (dependency_of e).destination_stages.0 in
    let n : Node = element_node p (length ns) e in
    let taken = c.in_ok-place.ensures c.args.self.now.queue (has_transfer s) (has_host s) c.of-line.ensures in
    let line_is : c.of-line.result ≡ class_of n = c.of-line.ensures ∙ ap (λ (q : ℕ). class_on q (Depends Barrier e)) are.queue in
    let place_is : c.in_ok-place.place ≡ place ns (class_of n) (length ns) = taken.0 ∙ are.counts (has_transfer s) (has_host s) in
    let at : Line → ℕ → ℕ → Spot = λ l k m. record { line = l; place = k; number = m } in
    let sum = c.in_ok-self.ensures.1 in
    let number_is = are.number in (
      ap (λ (l : Line). at l c.in_ok-place.place c.args.self.now.number) line_is ∙ ap (λ (k : ℕ). at (class_of n) k c.args.self.now.number) place_is ∙ ap (λ (m : ℕ). at (class_of n) (place ns (class_of n) (length ns)) m) are.number,
      record {
        queue = are.queue;
        counts = element_counted ns n (refl, numbers) e p.queue refl refl c.args.self.now.counts c.take.new.self taken.1 are.counts;
        number = omega (arith, sum, number_is);
      },
    )
