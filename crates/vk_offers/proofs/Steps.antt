-- What each step does to what is offered.
use Rattle.std.proofs.Common.{◌≡◌, inl, inr, ℕ, zero, suc, ◌+◌, ◌<◌, ◌≤◌, List, [], ◌∷◌, ◌++◌, map, length, Bool, true, false, ◌||◌, nat_lt, IsTrue, refl, ap, sym, ◌∙◌, subst, arith, Some}
use Rattle.std.proofs.lemmas.Bool.{le-ltb, eqb-true, and_parts}
use Rattle.std.proofs.lemmas.List.{map-append, length-map}
use Rattle.std.proofs.lemmas.Option.{slice_get_within}
use Rattle.std.specs.Prelude.{Contains, slice_get, slice_index, ◌==◌, if◌then◌else◌}
use Rattle.std.specs.List.{enumerate_from}
use Rattle.vk_model.specs.declared.command.Cmd.{Cmd}
use Rattle.vk_model.specs.Basics.{below}
use Rattle.vk_model.specs.Laws.{GrowthKeeps, BeforeLeadsOn}
use Rattle.vk_model.specs.Trace.Point.{Past, Point}
use Rattle.vk_model.specs.Sync.Node.{Node, Act, Runs, acts, nodes, with_acts}
use Rattle.vk_model.specs.Sync.Before.{before, IsNumbered}
use Rattle.vk_model.specs.Run.Runs.{Name, same_name, is_done}
use Rattle.vk_model.proofs.Sync.Numbers.{number_below, numbered}
use Rattle.vk_model.proofs.Lists.Members.{none_in, contains-cons, contains-tail, flat_from, mapped_from, filtered, range_from}
use Rattle.vk_order.specs.declared.lines.Line.TheVariants.{Commands as OfCommands}
use Rattle.vk_order.specs.Lines.{line_of, place}
use Rattle.vk_order.specs.Frontiers.{IsFrontier}
use Rattle.vk_order.specs.Submission.{CommandsFollow, OrderedAreSubmitted}
use Rattle.vk_sync.specs.declared.board.Command.{Command}
use Rattle.vk_sync.specs.declared.ready.Piece.{Piece}
use Rattle.vk_sync.specs.Ready.{ready, is_met, pieces_of, after_piece, count_on, MayCome}
use Rattle.vk_offers.specs.declared.offers.Offers.{Offers}
use Rattle.vk_offers.specs.IsOffers.{IsOffers, ComesNext, CountsBefore, AreStarted, IsPieceOf, commands_in, piece_count, number_of, name_of, is_free_next}
use Rattle.vk_offers.specs.Inner.Starting.{MayStart}
use Rattle.vk_offers.specs.IsOffers.{is_run_in_pieces}
use Rattle.vk_offers.proofs.Commands.{command_at, place_kept, command_node}
use Rattle.vk_offers.proofs.Offering.{met}
use Rattle.vk_offers.proofs.Growing.{others_stay, none_run, with_next, next_started, others_started, more_started, may_come, is_false, all_there}
use Rattle.vk_offers.proofs.Finishing.{piece_finished}
use Rattle.vk_model.proofs.Lists.Items.{get_mapped, item_at}

-- ---- a new node's counts

pub counts_of : (ns : List Node) (n : Node) (counts : List ℕ) → BeforeLeadsOn → IsNumbered (n ∷ ns)
    → ((m : Node) (q : ℕ) → q < 4 → Contains ns m → line_of m ≡ Some (OfCommands q) → before (n ∷ ns) m n ≡ nat_lt (place ns (OfCommands q) m.number) (slice_index counts q))
    → ((q : ℕ) → q < 4 → slice_index counts q ≤ place ns (OfCommands q) (length ns)) → CountsBefore (n ∷ ns) n counts
counts_of ns n counts leads numbers first there = record { first = all; there = λ q low. bound q low }
  where
    number : n.number ≡ length ns
    number = numbers.0

    own : (q : ℕ) → place (n ∷ ns) (OfCommands q) n.number ≡ place ns (OfCommands q) (length ns)
    own q = place_kept n ns (OfCommands q) n.number (omega arith) ∙ ap (λ (k : ℕ). place ns (OfCommands q) k) number

    bound : (q : ℕ) → q < 4 → slice_index counts q ≤ place (n ∷ ns) (OfCommands q) n.number
    bound q low = subst (λ (k : ℕ). slice_index counts q ≤ k) (sym (own q)) (there q low)

    all : (m : Node) (q : ℕ) → q < 4 → Contains (n ∷ ns) m → line_of m ≡ Some (OfCommands q) → before (n ∷ ns) m n ≡ nat_lt (place (n ∷ ns) (OfCommands q) m.number) (slice_index counts q)
    all m q low c line = elim (contains-cons n ns m c) [
      | inl same ↦ subst (λ (k : Node). before (n ∷ ns) k n ≡ nat_lt (place (n ∷ ns) (OfCommands q) k.number) (slice_index counts q)) same
          (is_false (before (n ∷ ns) n n) (λ back. absurd (let lt = leads (n ∷ ns) n n back in omega (arith, lt)))
          ∙ sym (le-ltb (place (n ∷ ns) (OfCommands q) n.number) (slice_index counts q) (bound q low)))
      | inr old ↦ (let lt = number_below ns numbers.1 m old in first m q low old line ∙ ap (λ (k : ℕ). nat_lt k (slice_index counts q)) (sym (place_kept n ns (OfCommands q) m.number (omega (arith, lt, number)))))
    ]

module _ (ns : List Node) (n : Node) (leads : BeforeLeadsOn) (numbers : IsNumbered (n ∷ ns)) where
  -- what a new node says of one queue
  pub record CountOf (q count : ℕ) : Type 0 where
    pub first : (m : Node) → Contains ns m → line_of m ≡ Some (OfCommands q) → before (n ∷ ns) m n ≡ nat_lt (place ns (OfCommands q) m.number) count
    pub there : count ≤ place ns (OfCommands q) (length ns)

  pub four_counts : (a b c d : ℕ) → CountOf 0 a → CountOf 1 b → CountOf 2 c → CountOf 3 d → CountsBefore (n ∷ ns) n (a ∷ b ∷ c ∷ d ∷ [])
  four_counts a b c d p0 p1 p2 p3 = counts_of ns n (a ∷ b ∷ c ∷ d ∷ []) leads numbers (λ m q low at line. (each q low).first m at line) (λ q low. (each q low).there)
    where
      each : (q : ℕ) → q < 4 → CountOf q (slice_index (a ∷ b ∷ c ∷ d ∷ []) q)
      each zero low = p0
      each (suc zero) low = p1
      each (suc (suc zero)) low = p2
      each (suc (suc (suc zero))) low = p3
      each (suc (suc (suc (suc q)))) low = absurd (omega arith)

-- ---- points

module _ (keeps : GrowthKeeps) (leads : BeforeLeadsOn) (old : Offers) (past : Past) (p : Point) (done : List Name) (count : ℕ) (is : IsOffers old past done) (next : ComesNext past p count) where
  -- the names of pieces stay below
  still_known : (x : Name) → IsTrue (is_done done x) → x.0 < length (nodes (p ∷ past))
  still_known x ran = let lt = is.known x ran in let more = grows (acts p.action) (nodes past) in omega (arith, lt, more)
    where
      grows : (as' : List Act) (ns : List Node) → length ns ≤ length (with_acts p as' ns)
      grows [] ns = omega arith
      grows (a ∷ as') ns = let more = grows as' (record { number = length ns; point = p; act = a } ∷ ns) in omega (arith, more)

  pub passed : (new : Offers) → is_run_in_pieces p.action ≡ false → new.commands ≡ old.commands → new.ready ≡ old.ready → IsFrontier new.frontier (nodes (p ∷ past)) → IsOffers new (p ∷ past) done
  passed new other same_commands same_ready frontier = record {
    frontier = frontier;
    acts = ap (λ (v : _). map (λ c. Runs c.now) v.items) same_commands ∙ is.acts ∙ ap (λ (os : List Node). map (λ n. n.act) os) (sym (others_stay p (acts p.action) (nodes past) (none_run p.action other)));
    started = subst (λ (cs : List Command). AreStarted (p ∷ past) done (commands_in (nodes (p ∷ past))) cs) (sym same_ready) (others_started keeps leads past p done old.ready next.stay is.started other);
    known = still_known;
  }

-- ---- what is ready

enumerated : {X : Type 0} (k : ℕ) (xs : List X) (x : ℕ × X) → Contains (enumerate_from k xs) x → (j : ℕ) × (x.0 ≡ k + j) × (slice_get xs j ≡ Some x.1)
enumerated k [] x c = absurd (none_in x c)
enumerated {X} k (y ∷ ys) x c = elim (contains-cons (k, y) (enumerate_from (k + 1) ys) x c) [
  | inl same ↦ (zero, ap (λ (z : ℕ × X). z.0) (sym same) ∙ omega arith, ap (λ (z : ℕ × X). Some z.1) same)
  | inr later ↦ (let found = enumerated (k + 1) ys x later in let at = found.1 in (suc found.0, omega (arith, at), found.2))
]

-- a ready piece is left of its command
pub ready_has : (cs : List Command) (piece : Piece) → Contains (ready cs) piece → (c : Command) × (slice_get cs piece.command ≡ Some c) × Contains c.left piece.index
ready_has cs piece at =
    let from = flat_from (pieces_of cs) (enumerate_from 0 cs) piece at in
    let place = enumerated 0 cs from.0 from.1 in
    go from.0 (is_met from.0.1.before cs) from.2 place.0 place.1 place.2
  where
    go : (x : ℕ × Command) (t : Bool) → Contains (if t then map (λ k. record { command = x.0; index = k }) x.1.left else []) piece → (j : ℕ) → x.0 ≡ 0 + j → slice_get cs j ≡ Some x.1 → (c : Command) × (slice_get cs piece.command ≡ Some c) × Contains c.left piece.index
    go x false c j at is = absurd (none_in piece c)
    go x true c j at is =
        let mapped = mapped_from (λ k. record { command = x.0; index = k }) x.1.left piece c in
        let command : x.0 ≡ piece.command = ap (λ (p : Piece). p.command) mapped.2 in
        let index : mapped.0 ≡ piece.index = ap (λ (p : Piece). p.index) mapped.2 in
        (x.1, ap (λ (k : ℕ). slice_get cs k) (sym command ∙ at ∙ omega arith) ∙ is, subst (λ (k : ℕ). Contains x.1.left k) index mapped.1)

module _ (o : Offers) (past : Past) (done : List Name) (is : IsOffers o past done) where
  sizes : length o.commands.items ≡ length (commands_in (nodes past))
  sizes = sym (length-map o.commands.items (λ c. Runs c.now)) ∙ ap length is.acts ∙ length-map (commands_in (nodes past)) (λ n. n.act)

  below_all : (piece : Piece) → piece.command < length (commands_in (nodes past)) → (x : Name) (t : Bool) → same_name x (name_of past piece) ≡ t → IsTrue (t || is_done done x) → x.0 < length (nodes past)
  below_all piece low x true same ran =
      let n = item_at (commands_in (nodes past)) piece.command low in
      let number : x.0 ≡ n.0.number = eqb-true x.0 (name_of past piece).0 (and_parts (x.0 == (name_of past piece).0) (x.1 == piece.index) same).0 ∙ ap number_of n.1 in
      let lt = number_below (nodes past) (numbered past) n.0 (command_at (nodes past) piece.command n.0 n.1).0 in
      omega (arith, number, lt)
  below_all piece low x false same ran = is.known x ran

  pub finished : (piece : Piece) → Contains (ready o.ready) piece → (new : List Command) → new ≡ after_piece piece o.ready → IsOffers (record o { ready = new }) past (name_of past piece ∷ done)
  finished piece at new after =
      let has = ready_has o.ready piece at in
      let low = slice_get_within o.ready piece.command has.0 has.1 in
      let size = is.started.lengths in
      record {
        frontier = is.frontier;
        acts = is.acts;
        started = subst (λ (cs : List Command). AreStarted past (name_of past piece ∷ done) (commands_in (nodes past)) cs) (sym after) (piece_finished past done o.ready is.started piece low);
        known = λ x ran. below_all piece (omega (arith, low, size)) x (same_name x (name_of past piece)) refl ran;
      }

  pub piece_low : (piece : Piece) → Contains (ready o.ready) piece → piece.command < length o.commands.items
  piece_low piece at = let has = ready_has o.ready piece at in let low = slice_get_within o.ready piece.command has.0 has.1 in let size = is.started.lengths in let all = sizes in omega arith

  pub counts_there : (h : Node) → h.number ≡ length (nodes past) → (counts : List ℕ) → CountsBefore (h ∷ nodes past) h counts → (q : ℕ) → q < 4 → slice_index counts q ≤ count_on q o.ready
  counts_there h number counts counted q low =
      let bound = counted.there q low in
      let kept = place_kept h (nodes past) (OfCommands q) h.number (omega arith) in
      let all = all_there past done o.ready is.started q in
      let here : place (nodes past) (OfCommands q) h.number ≡ place (nodes past) (OfCommands q) (length (nodes past)) = ap (λ (k : ℕ). place (nodes past) (OfCommands q) k) number in
      omega arith

  pub counts_met : (h : Node) → h.number ≡ length (nodes past) → (counts : List ℕ) → CountsBefore (h ∷ nodes past) h counts → is_met counts o.ready ≡ is_free_next past done h
  counts_met h number counts counted = sym (met past done o.ready is.started (λ m. before (h ∷ nodes past) m h) counts (λ m q low at line.
      let lt = number_below (nodes past) (numbered past) m at in
      counted.first m q low (contains-tail h (nodes past) m at) line ∙ ap (λ (k : ℕ). nat_lt k (slice_index counts q)) (place_kept h (nodes past) (OfCommands q) m.number (omega (arith, lt, number)))))

  -- the command of a ready piece
  pub piece_of : (piece : Piece) → Contains (ready o.ready) piece → (c : Cmd) → slice_get (map (λ d. Runs d.now) o.commands.items) piece.command ≡ Some (Runs c) → IsPieceOf past piece c
  piece_of piece at c here =
      let has = ready_has o.ready piece at in
      let low = slice_get_within o.ready piece.command has.0 has.1 in
      let size = is.started.lengths in
      let n = item_at (commands_in (nodes past)) piece.command (omega (arith, low, size)) in
      let act : Some n.0.act ≡ Some (Runs c) = sym (get_mapped (λ (m : Node). m.act) (commands_in (nodes past)) piece.command n.0 n.1) ∙ ap (λ (as' : List Act). slice_get as' piece.command) (sym is.acts) ∙ here in
      let runs : n.0.act ≡ Runs c = cc in
      let left = (is.started.each piece.command n.0 has.0 n.1 has.1).left in
      let inside = (range_from 0 (piece_count past n.0.act) piece.index (filtered _ (below (piece_count past n.0.act)) piece.index (subst (λ (ks : List ℕ). Contains ks piece.index) left has.2)).0).1 in
      record { node = n.0; here = n.1; runs = runs; among = subst (λ (a : Act). piece.index < piece_count past a) runs (omega (arith, inside)) }

-- ---- a command that is started

module _ (keeps : GrowthKeeps) (leads : BeforeLeadsOn) (follow : CommandsFollow) (submitted : OrderedAreSubmitted) (o : Offers) (p : Point) (c : Cmd) (count : ℕ) where
  pub start_comes : (past : Past) (done : List Name) (m : MayStart o past done p c count) (counts : List ℕ)
      → CountsBefore (record { number = length (nodes past); point = p; act = Runs c } ∷ nodes past) (record { number = length (nodes past); point = p; act = Runs c }) counts → MayCome o.ready p.queue counts
  start_comes past done m counts counted = may_come keeps leads past p done o.ready m.next.stay m.offers.started follow submitted m.next.ordered c m.action m.run counts (m.next.queue c m.action) counted

  pub begun : (past : Past) (done : List Name) (m : MayStart o past done p c count) (counts : List ℕ)
      → CountsBefore (record { number = length (nodes past); point = p; act = Runs c } ∷ nodes past) (record { number = length (nodes past); point = p; act = Runs c }) counts
      → (new : Offers) → IsFrontier new.frontier (nodes (p ∷ past)) → map (λ d. Runs d.now) new.commands.items ≡ map (λ d. Runs d.now) o.commands.items ++ Runs c ∷ []
      → new.ready ≡ o.ready ++ record { queue = p.queue; before = counts; left = below count } ∷ [] → IsOffers new (p ∷ past) done
  begun past done m counts counted new frontier more added = record {
    frontier = frontier;
    acts = more ∙ ap (λ (as' : List Act). as' ++ Runs c ∷ []) m.offers.acts ∙ sym (ap (λ (ns : List Node). map (λ n. n.act) (commands_in ns)) (with_next keeps leads past p c m.action m.run)
        ∙ ap (λ (os : List Node). map (λ n. n.act) os) (command_node next (nodes past) refl) ∙ map-append (λ (n : Node). n.act) (commands_in (nodes past)) (next ∷ []));
    started = subst (λ (cs : List Command). AreStarted (p ∷ past) done (commands_in (nodes (p ∷ past))) cs) (sym added)
        (more_started keeps leads past p done o.ready m.next.stay m.offers.started c m.action m.run _
        (next_started keeps leads past p c m.action m.run done counts p.queue (below count) m.offers.known refl (m.next.queue c m.action) counted (ap below (m.next.counted c m.action m.run))));
    known = still_known keeps leads o past p done count m.offers m.next;
  }
    where
      next : Node
      next = record { number = length (nodes past); point = p; act = Runs c }
