use Rattle.std.proofs.Common.{◌≡◌, ◌<◌, List, Some, IsTrue, refl, ap, sym, ◌∙◌, subst, length, take, get_or, arith}
use Rattle.std.specs.Prelude.{slice_get, is_some}
use Rattle.std.proofs.lemmas.Option.{slice_get-get_or, slice_get_read}
use Rattle.vk_model.specs.Sync.Node.{Node}
use Rattle.vk_model.specs.Sync.Edge.{edge}
use Rattle.vk_order.specs.declared.acts.Row.{Row}
use Rattle.vk_order.specs.declared.fronts.Front.{Front}
use Rattle.vk_order.specs.declared.lines.Line.{Line}
use Rattle.vk_order.specs.NodeViews.{act_of, node_of, nodes_after}
use Rattle.vk_order.specs.Lines.{class_on}
use Rattle.vk_order.specs.Inner.Places.{index_in}
use Rattle.vk_order.specs.Inner.Fronts.{IsFront}
use Rattle.vk_order.specs.Inner.Tallies.{lines_of}
use Rattle.vk_order.specs.Frontiers.{IsFrontier}
use Rattle.vk_order.proofs.FollowLemmas.{next_nodes, front_now}
use Rattle.vk_order.proofs.frontier.Frontier.add_all.Goals as goal

pub add-requires : goal.add-requires
add-requires c =
    let row = c.index-rows-index.result in
    let at : slice_get c.args.rows.now c.loop-index.index ≡ Some row = slice_get_read c.args.rows.now (length c.args.rows.now) c.loop-index.index row refl c.loop-index-test.true c.index-rows-index.is in
    subst (λ (ls : List Line). IsTrue (is_some (index_in ls (class_on row.point.queue (act_of row.act))))) (sym c.loop-index.invariant.same) (c.requires.listed c.loop-index.index row at)

pub loop-index-preserved : goal.loop-index-preserved
loop-index-preserved c =
    let rows = c.args.rows.now in
    let fronts = c.args.fronts.now in
    let k = c.loop-index.index in
    let r : Row = get_or rows k c.index-rows-index.result in
    let f : Front = get_or fronts k c.index-fronts-index.result in
    let lt : k < length rows = c.loop-index-test.true in
    let low : k < length fronts = (let e = c.requires.lengths in omega arith) in
    record {
      same = c.in_ok-add.ensures.lines ∙ c.loop-index.invariant.same;
      kept = λ ns can are is.
          let n : Node = node_of (length (nodes_after ns (take k rows))) r in
          let front : IsFront (nodes_after ns (take k rows)) (lines_of c.loop-index.self.tallies.items) (λ m. edge (nodes_after ns (take k rows)) m n) f =
          subst (λ (ls : List Line). IsFront (nodes_after ns (take k rows)) ls (λ m. edge (nodes_after ns (take k rows)) m n) f) (sym c.loop-index.invariant.same)
          (front_now ns rows can is.numbers k r (slice_get-get_or rows k c.index-rows-index.result lt) (lines_of c.args.self.now.tallies.items) f
          (are k r f (slice_get-get_or rows k c.index-rows-index.result lt) (slice_get-get_or fronts k c.index-fronts-index.result low) (length (nodes_after ns (take k rows))))) in
          subst (λ (l : List Node). IsFrontier c.add.new.self l) (sym (next_nodes ns rows k c.index-rows-index.result lt))
          (c.in_ok-add.ensures.kept (nodes_after ns (take k rows)) n (ap (node_of (length (nodes_after ns (take k rows)))) (sym c.index-rows-index.is))
          (c.in_ok-front.ensures (nodes_after ns (take k rows)) (lines_of c.loop-index.self.tallies.items) (λ m. edge (nodes_after ns (take k rows)) m n)
          (subst (λ (x : Front). IsFront (nodes_after ns (take k rows)) (lines_of c.loop-index.self.tallies.items) (λ m. edge (nodes_after ns (take k rows)) m n) x) (sym c.index-fronts-index.is) front)) (c.loop-index.invariant.kept ns can are is));
    }
