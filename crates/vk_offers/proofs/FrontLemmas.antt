-- How many commands of each queue are finished, by what is left of them.
use Rattle.std.proofs.Common.{◌≡◌, ◌≢◌, ℕ, suc, ◌<◌, List, [], ◌∷◌, map, length, take, Bool, true, false, IsTrue, refl, ap, sym, ◌∙◌, subst, arith, Some}
use Rattle.std.specs.Prelude.{Contains, slice_get, slice_index, ◌==◌}
use Rattle.std.specs.List.{list_all}
use Rattle.std.proofs.lemmas.Bool.{eqb-true, ne_eqb}
use Rattle.std.proofs.lemmas.Option.{slice_get_within}
use Rattle.vk_model.specs.Trace.Point.{Past, Point}
use Rattle.vk_model.specs.Sync.Node.{Node, nodes}
use Rattle.vk_model.specs.Sync.Edge.{is_command}
use Rattle.vk_model.specs.Basics.{below}
use Rattle.vk_model.specs.Run.Runs.{Name, is_done}
use Rattle.vk_model.proofs.Lists.Items.{item_at}
use Rattle.vk_model.proofs.Sync.Numbers.{numbered}
use Rattle.vk_order.specs.declared.lines.Line.TheVariants.{Commands as OfCommands}
use Rattle.vk_order.specs.Lines.{line_of, place}
use Rattle.vk_sync.specs.declared.board.Command.{Command}
use Rattle.vk_sync.specs.Ready.{count_on, AreFinished}
use Rattle.vk_events.specs.Happens.{AreFronts, is_finished}
use Rattle.vk_offers.specs.IsOffers.{commands_in, AreStarted, PiecesStay}
use Rattle.vk_offers.proofs.Commands.{has_place, before_on}
use Rattle.vk_offers.proofs.Offering.{no_pieces, named_pieces, command_line, same_count, same_left}
use Rattle.vk_offers.proofs.Growing.{all_there}
use Rattle.vk_offers.proofs.RowCounts.{of_command}

none_empty : (ks : List ℕ) → ks ≢ [] → (length ks == 0) ≡ false
none_empty [] some = absurd (some refl)
none_empty (k ∷ ks) some = ne_eqb (suc (length ks)) 0 (λ e. let bad : suc (length ks) ≡ 0 = e in omega (arith, bad))

module _ (past : Past) (done : List Name) (cs : List Command) (started : AreStarted past done (commands_in (nodes past)) cs) where
  -- Of a command: what is left of it, and its place among those of its queue.
  record IsCommandOf (m : Node) (j : ℕ) (c : Command) : Type 0 where
    pub is : slice_get cs j ≡ Some c
    pub low : c.queue < 4
    pub queue : c.queue ≡ m.point.queue
    pub placed : place (nodes past) (OfCommands m.point.queue) m.number ≡ count_on m.point.queue (take j cs)
    pub finished : is_finished past done m ≡ (length c.left == 0)

  command_of : (m : Node) → Contains (nodes past) m → IsTrue (is_command m.act) → (j : ℕ) × (c : Command) × IsCommandOf m j c
  command_of m at is =
      let has = has_place (nodes past) m at is in
      let size = started.lengths in
      let lt = slice_get_within (commands_in (nodes past)) has.0 m has.1 in
      let c = item_at cs has.0 (omega (arith, size, lt)) in
      let own = started.each has.0 m c.0 has.1 c.1 in (
        has.0,
        c.0,
        record {
          is = c.1;
          low = own.on_queue;
          queue = own.queue;
          placed = before_on (nodes past) (numbered past) m.point.queue has.0 m has.1 ∙ sym (same_count past done cs started m.point.queue has.0);
          finished = same_left past done cs started has.0 m c.0 has.1 c.1;
        },
      )

  module _ (fronts : List ℕ) (are : AreFinished cs fronts) where
    -- the place of a command, with its queue
    rank : (m : Node) (q : ℕ) → line_of m ≡ Some (OfCommands q) → (j : ℕ) (c : Command) → IsCommandOf m j c → (k : ℕ) → place (nodes past) (OfCommands q) m.number ≡ k → count_on c.queue (take j cs) ≡ k
    rank m q line j c of k at =
        let on : m.point.queue ≡ q = eqb-true m.point.queue q (of_command m q line).1 in
        ap (λ (r : ℕ). count_on r (take j cs)) of.queue ∙ sym of.placed ∙ ap (λ (r : ℕ). place (nodes past) (OfCommands r) m.number) on ∙ at

    front : (m : Node) (q : ℕ) → line_of m ≡ Some (OfCommands q) → (j : ℕ) (c : Command) → IsCommandOf m j c → slice_index fronts c.queue ≡ slice_index fronts q
    front m q line j c of = ap (λ (r : ℕ). slice_index fronts r) (of.queue ∙ eqb-true m.point.queue q (of_command m q line).1)

    pub fronts_are : AreFronts (nodes past) (is_finished past done) fronts
    fronts_are = record {
      first = λ m q on at line lt.
          let c = command_of m at (of_command m q line).0 in
          let r = rank m q line c.0 c.1 c.2 (place (nodes past) (OfCommands q) m.number) refl in
          let f = front m q line c.0 c.1 c.2 in
          c.2.finished ∙ ap (λ (ks : List ℕ). length ks == 0) (are.first c.0 c.1 c.2.is (omega (arith, lt, r, f)));
      next = λ m q on at line same.
          let c = command_of m at (of_command m q line).0 in
          c.2.finished ∙ none_empty c.1.left (are.next c.0 c.1 c.2.is (rank m q line c.0 c.1 c.2 (slice_index fronts q) same ∙ sym (front m q line c.0 c.1 c.2)));
      there = λ q on. let le = are.there q on in let all = all_there past done cs started q in omega (arith, le, all);
      commands = λ m at e. unfinished m at e (is_command m.act) refl;
    }
      where
        unfinished : (m : Node) → Contains (nodes past) m → is_finished past done m ≡ false → (t : Bool) → is_command m.act ≡ t → (q : ℕ) × (q < 4) × (line_of m ≡ Some (OfCommands q))
        unfinished m at e true is = let c = command_of m at is in (m.point.queue, subst (λ (q : ℕ). q < 4) c.2.queue c.2.low, command_line m is)
        unfinished m at e false is = absurd (let none : is_finished past done m ≡ true = ap (λ (xs : List Name). list_all (is_done done) xs) (no_pieces past m m.act is) in let bad : true ≡ false = sym none ∙ e in cc)

-- a point that comes changes nothing of what is finished
pub finished_stays : (past : Past) (p : Point) (done : List Name) → PiecesStay past p → (m : Node) → Contains (nodes past) m → is_finished (p ∷ past) done m ≡ is_finished past done m
finished_stays past p done stay m at = ap (λ (xs : List Name). list_all (is_done done) xs)
    (named_pieces (p ∷ past) m m.act ∙ ap (λ (k : ℕ). map (λ i. (m.number, i)) (below k)) (stay m at) ∙ sym (named_pieces past m m.act))
