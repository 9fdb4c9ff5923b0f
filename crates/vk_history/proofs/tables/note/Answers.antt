use Rattle.std.proofs.Common.{ℕ, ◌≡◌, ◌∷◌, ◌∙◌, ap, length}
use Rattle.vk_model.specs.Rules.Fault.{newest}
use Rattle.vk_model.specs.Sync.Node.{nodes}
use Rattle.vk_model.specs.Trace.PointViews.{point_of}
use Rattle.vk_queues.proofs.NewPoints.{ordered_new}
use Rattle.vk_order.specs.declared.lines.Line.{Line}
use Rattle.vk_touches.specs.declared.touches.Spot.{Spot}
use Rattle.vk_touches.specs.Touched.{next_place}
use Rattle.vk_history.proofs.tables.note.Goals as goal

pub returns : goal.returns
returns c = λ past judged tabled.
    let p = point_of c.args.point.now in
    let line_is = c.line_of-line.ensures in
    let place_is : c.count.result ≡ next_place past c.line_of-line.result = c.count.ensures (nodes past) tabled.frontier in
    let number_is : c.nodes.result ≡ length (nodes past) = c.nodes.ensures (nodes past) tabled.frontier in
    let at : Line → ℕ → ℕ → Spot = λ l k n. record { line = l; place = k; number = n } in
    record {
      mappings = c.in_ok-note.ensures past judged tabled.objects tabled.mappings;
      occupants = c.in_ok-note-2.ensures past judged tabled.objects tabled.occupants;
      bound = c.in_ok-note-3.ensures past judged tabled.objects tabled.bound;
      defrags = c.in_ok-note-4.ensures past judged tabled.objects tabled.defrags;
      objects = c.in_ok-note-6.ensures past tabled.objects;
      endings = c.in_ok-note-7.ensures past tabled.endings;
      semaphores = c.in_ok-note-9.ensures past line_is place_is tabled.semaphores;
      events = c.in_ok-note-8.ensures past tabled.events;
      layouts = c.in_ok-note_with.ensures past judged tabled.objects tabled.layouts;
      contents = c.in_ok-note-10.ensures past judged.faultless (ap (λ (k : ℕ). at c.line_of-line.result k c.nodes.result) place_is ∙ ap (λ (n : ℕ). at c.line_of-line.result (next_place past c.line_of-line.result) n) number_is ∙ ap (λ (l : Line). at l (next_place past l) (length (nodes past))) line_is) (c.in_ok-note-6.ensures past tabled.objects) tabled.frontier tabled.contents;
      uses = c.in_ok-note-11.ensures past judged.ordered tabled.frontier tabled.uses;
      residents = c.in_ok-note-12.ensures past tabled.residents;
      owners = c.in_ok-note-5.ensures past tabled.objects tabled.frontier tabled.owners;
      frontier = c.in_ok-advance.ensures (nodes past) (ordered_new (p ∷ past) past p judged.ordered newest) tabled.frontier;
    }
