use Rattle.std.proofs.Common.{◌≡◌, ◌∷◌, ◌++◌, ◌+◌, ◌<◌, [], List, Some, IsTrue, refl, ap, sym, ◌∙◌, subst, length, take, add-one, append_assoc, arith}
use Rattle.std.specs.Prelude.{slice_get, is_some}
use Rattle.std.proofs.lemmas.List.{append-nil, take_all}
use Rattle.std.proofs.lemmas.Option.{slice_get_read}
use Rattle.std.proofs.Math.Seq.{take-suc}
use Rattle.vk_model.specs.Sync.Node.{Node}
use Rattle.vk_model.specs.Sync.Edge.{edge}
use Rattle.vk_order.specs.declared.acts.Row.{Row}
use Rattle.vk_order.specs.declared.clocks.Stamp.{Stamp}
use Rattle.vk_order.specs.declared.fronts.Front.{Front}
use Rattle.vk_order.specs.declared.lines.Line.{Line}
use Rattle.vk_order.specs.NodeViews.{act_of, node_of, nodes_after}
use Rattle.vk_order.specs.Lines.{class_on, place}
use Rattle.vk_order.specs.Inner.Places.{index_in}
use Rattle.vk_order.specs.Inner.Kept.{IsStamped}
use Rattle.vk_order.specs.Inner.Fronts.{clock_in, IsFront}
use Rattle.vk_order.specs.Inner.Tallies.{lines_of}
use Rattle.vk_order.specs.Frontiers.{IsFrontier}
use Rattle.vk_order.proofs.RowLemmas.{nodes_after-append}
use Rattle.vk_order.proofs.FollowLemmas.{front_now}
use Rattle.vk_order.proofs.StampedLemmas.{stamped_one}
use Rattle.vk_order.proofs.adding.stamps_of.Goals as goal

pub loop-index-init : goal.loop-index-init
loop-index-init c = record {
  same = refl;
  kept = λ old stamps is front can are. rw (append-nil old, c.new-more.ensures.items, append-nil stamps) (is, front);
}

pub add-requires : goal.add-requires
add-requires c =
    let row = c.index-rows-index.result in
    let at : slice_get c.args.rows.now c.loop-index.index ≡ Some row = slice_get_read c.args.rows.now (length c.args.rows.now) c.loop-index.index row refl c.loop-index-test.true c.index-rows-index.is in
    subst (λ (ls : List Line). IsTrue (is_some (index_in ls (class_on row.point.queue (act_of row.act))))) (sym c.loop-index.invariant.same) (c.requires.listed c.loop-index.index row at)

pub loop-index-preserved : goal.loop-index-preserved
loop-index-preserved c =
    let rows = c.args.rows.now in
    let fronts = c.args.fronts.now in
    let ls = lines_of c.args.frontier.now.tallies.items in
    let k = c.loop-index.index in
    let row : Row = c.index-rows-index.result in
    let f : Front = c.index-fronts-index.result in
    let s : Stamp = record { place = c.next_place-place.result; clock = c.in_ok-clock.clock } in
    let lt : k < length rows = c.loop-index-test.true in
    let low : k < length fronts = (let e = c.requires.lengths in omega arith) in
    let at : slice_get rows k ≡ Some row = slice_get_read rows (length rows) k row refl lt c.index-rows-index.is in
    let there : slice_get fronts k ≡ Some f = slice_get_read fronts (length fronts) k f refl low c.index-fronts-index.is in
    record {
      same = c.in_ok-add.ensures.lines ∙ c.loop-index.invariant.same;
      kept = λ old stamps is front can are.
          let before = c.loop-index.invariant.kept old stamps is front can are in
          let ns : List Node = nodes_after [] old in
          let all : List Node = nodes_after [] (old ++ take k rows) in
          let same : nodes_after [] (old ++ take k rows) ≡ nodes_after (nodes_after [] old) (take k rows) = nodes_after-append [] old (take k rows) in
          let longer : old ++ take (k + 1) rows ≡ (old ++ take k rows) ++ row ∷ [] = rw (add-one, take-suc rows k row lt, sym c.index-rows-index.is) (sym (append_assoc old (take k rows) (row ∷ []))) in
          let more : stamps ++ c.push.new.self.items ≡ (stamps ++ c.loop-index.more.items) ++ s ∷ [] = rw c.in_ok-push.ensures.items (sym (append_assoc stamps c.loop-index.more.items (s ∷ []))) in
          let known : IsFront all ls (λ m. edge all m (node_of (length all) row)) f =
          subst (λ (l : List Node). IsFront l ls (λ m. edge l m (node_of (length l) row)) f) (sym same)
          (front_now ns rows can front.numbers k row at ls f (are k row f at there (length (nodes_after (nodes_after [] old) (take k rows))))) in
          let count : s.place ≡ place all (class_on row.point.queue (act_of row.act)) (length all) = c.next_place-place.ensures all before.1 ∙ ap (λ (l : Line). place all l (length all)) c.of.ensures in
          let clock : s.clock.items ≡ clock_in f = c.in_ok-clock.ensures in
          let one = stamped_one (old ++ take k rows) (stamps ++ c.loop-index.more.items) ls row s f before.0 known clock count (c.requires.listed k row at) in
          let next : IsFrontier c.add.new.self (node_of (length all) row ∷ all) =
          c.in_ok-add.ensures.kept all (node_of (length all) row) refl
          (c.in_ok-front.ensures all (lines_of c.loop-index.frontier.tallies.items) (λ m. edge all m (node_of (length all) row)) (subst (λ (l : List Line). IsFront all l (λ m. edge all m (node_of (length all) row)) f) (sym c.loop-index.invariant.same) known)) before.1 in
          rw (longer, more) (one, subst (λ (l : List Node). IsFrontier c.add.new.self l) (sym (nodes_after-append [] (old ++ take k rows) (row ∷ []))) next);
    }

pub returns : goal.returns
returns c = λ old stamps is front can are.
    let rows = c.args.rows.now in
    let all : take c.loop-index.index rows ≡ rows = take_all c.loop-index.index rows c.loop-index-test.false in
    let known = c.loop-index.invariant.kept old stamps is front can are in
    subst (λ (l : List Row). IsStamped (old ++ l) (stamps ++ c.loop-index.more.items) (lines_of c.loop-index.frontier.tallies.items) × IsFrontier c.loop-index.frontier (nodes_after [] (old ++ l))) all
    (subst (λ (ls : List Line). IsStamped (old ++ take c.loop-index.index rows) (stamps ++ c.loop-index.more.items) ls) (sym c.loop-index.invariant.same) known.0, known.1)
