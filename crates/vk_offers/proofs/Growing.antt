-- The commands that were started, as points come.
use Rattle.std.proofs.Common.{◌≡◌, inl, inr, ℕ, suc, ◌+◌, ◌<◌, ◌≤◌, List, [], ◌∷◌, ◌++◌, map, length, Bool, true, false, not, ◌&&◌, IsTrue, refl, ap, sym, ◌∙◌, subst, arith, Some}
use Rattle.std.proofs.lemmas.Bool.{eqb-true, le-ltb, lt-ltb, ltb-true, ltb-false}
use Rattle.std.proofs.lemmas.List.{length-append, take_all}
use Rattle.std.proofs.lemmas.Option.{slice_get_within}
use Rattle.std.specs.Prelude.{Contains, slice_get, slice_index, count_by, nat_lt, if◌then◌else◌}
use Rattle.std.specs.List.{filter, enumerate_from}
use Rattle.vk_model.specs.declared.command.Cmd.{Cmd}
use Rattle.vk_model.specs.declared.command.Cmd.TheVariants as cmd
use Rattle.vk_model.specs.Basics.{below}
use Rattle.vk_model.specs.Trace.Point.{Past, Point, Action, Host, Wait, Run, Signal}
use Rattle.vk_model.specs.Trace.Structure.{IsOrdered}
use Rattle.vk_model.specs.Laws.{GrowthKeeps, BeforeLeadsOn}
use Rattle.vk_model.specs.Sync.Node.{Node, Act, Runs, Depends, acts, command_acts, with_acts, nodes}
use Rattle.vk_model.specs.Sync.Edge.{is_command}
use Rattle.vk_model.specs.Sync.Before.{before, IsNumbered}
use Rattle.vk_model.specs.Run.Runs.{Name, is_done}
use Rattle.vk_model.proofs.Sync.Numbers.{number_below, numbered}
use Rattle.vk_model.proofs.Lists.Members.{none_in, contains-cons, contains-head, contains-tail, mapped_from}
use Rattle.vk_order.specs.declared.lines.Line.TheVariants.{Commands as OfCommands}
use Rattle.vk_order.specs.Lines.{line_of, place, on_line}
use Rattle.vk_order.specs.Submission.{CommandsFollow, OrderedAreSubmitted}
use Rattle.vk_order.proofs.PlaceLemmas.{place_stays, place-top}
use Rattle.vk_order.proofs.ElementPlaces.{with_member}
use Rattle.vk_sync.specs.declared.board.Command.{Command}
use Rattle.vk_sync.specs.Ready.{count_on, MayCome}
use Rattle.vk_offers.specs.IsOffers.{commands_in, piece_count, CountsBefore, is_run, PiecesStay, IsStarted, AreStarted}
use Rattle.vk_offers.specs.IsOffers.{is_run_in_pieces}
use Rattle.vk_offers.proofs.Commands.{on_queue, command_at, all_on, of_line, place_kept, place_next, other_node, command_node}
use Rattle.vk_offers.proofs.Offering.{command_line, same_count}
use Rattle.vk_model.proofs.Lists.Items.{get_before, push_new, push_cases, item_at}

-- ---- the acts of a point

-- acts of which none is a command
abbrev None_runs : List Act → Type 0
None_runs as' = (a : Act) → Contains as' a → is_command a ≡ false

pub others_stay : (p : Point) (as' : List Act) (ns : List Node) → None_runs as' → commands_in (with_acts p as' ns) ≡ commands_in ns
others_stay p [] ns none = refl
others_stay p (a ∷ as') ns none =
    others_stay p as' (record { number = length ns; point = p; act = a } ∷ ns) (λ b c. none b (contains-tail a as' b c)) ∙ other_node (record { number = length ns; point = p; act = a }) ns (none a (contains-head a as'))

one_act : (a : Act) → is_command a ≡ false → None_runs (a ∷ [])
one_act a e b c = elim (contains-cons a [] b c) [ inl same ↦ subst (λ (x : Act). is_command x ≡ false) same e | inr later ↦ absurd (none_in b later) ]

mapped_acts : {X : Type 0} (f : X → Act) (xs : List X) → ((x : X) → is_command (f x) ≡ false) → None_runs (map f xs)
mapped_acts f xs e a c = let from = mapped_from f xs a c in subst (λ (x : Act). is_command x ≡ false) from.2 (e from.0)

pub run_acts : (c : Cmd) → is_run c ≡ true → command_acts c ≡ Runs c ∷ []
run_acts (cmd.Fill b o n w) e = refl
run_acts (cmd.Update b o bytes) e = refl
run_acts (cmd.Copy s d gs) e = refl
run_acts (cmd.Clear i l color rs) e = refl
run_acts (cmd.CopyIn b i l gs) e = refl
run_acts (cmd.CopyOut i l b gs) e = refl
run_acts (cmd.CopyImage s l d m gs) e = refl
run_acts (cmd.Barrier es) e = absurd cc
run_acts (cmd.Set v ms) e = absurd cc
run_acts (cmd.Await v ms) e = absurd cc

other_acts : (c : Cmd) → is_run c ≡ false → None_runs (command_acts c)
other_acts (cmd.Barrier es) e = mapped_acts (Depends _) es (λ x. refl)
other_acts (cmd.Set v ms) e = mapped_acts _ (enumerate_from 0 ms) (λ x. refl)
other_acts (cmd.Await v ms) e = mapped_acts _ (enumerate_from 0 ms) (λ x. refl)
other_acts (cmd.Fill b o n w) e = absurd cc
other_acts (cmd.Update b o bytes) e = absurd cc
other_acts (cmd.Copy s d gs) e = absurd cc
other_acts (cmd.Clear i l color rs) e = absurd cc
other_acts (cmd.CopyIn b i l gs) e = absurd cc
other_acts (cmd.CopyOut i l b gs) e = absurd cc
other_acts (cmd.CopyImage s l d m gs) e = absurd cc

pub none_run : (d : Action) → is_run_in_pieces d ≡ false → None_runs (acts d)
none_run (Host x) e = one_act _ refl
none_run (Wait s) e = one_act _ refl
none_run (Run c) e = other_acts c e
none_run (Signal s) e = one_act _ refl

-- ---- what stays

-- places don't fall
place_rises : (ms : List Node) (q j k : ℕ) → j ≤ k → place ms (OfCommands q) j ≤ place ms (OfCommands q) k
place_rises [] q j k le = omega arith
place_rises (n ∷ ms) q j k le = go (nat_lt n.number j) (nat_lt n.number k) (on_line (OfCommands q) n) refl refl refl (place_rises ms q j k le)
  where
    go : (s t u : Bool) → nat_lt n.number j ≡ s → nat_lt n.number k ≡ t → on_line (OfCommands q) n ≡ u → place ms (OfCommands q) j ≤ place ms (OfCommands q) k
        → place (n ∷ ms) (OfCommands q) j ≤ place (n ∷ ms) (OfCommands q) k
    go true true true e f h rest = rw (e, f, h) (omega arith)
    go true true false e f h rest = rw (e, f, h) rest
    go true false u e f h rest = let low = ltb-true n.number j e in let high = ltb-false n.number k f in absurd (omega arith)
    go false true true e f h rest = rw (e, f, h) (omega arith)
    go false true false e f h rest = rw (e, f, h) rest
    go false false u e f h rest = rw (e, f) rest

pub is_false : (b : Bool) → (b ≡ true → ⊥) → b ≡ false
is_false true never = absurd (never refl)
is_false false never = refl

module _ (keeps : GrowthKeeps) (leads : BeforeLeadsOn) (past : Past) (p : Point) where
  abbrev ns : List Node
  ns = nodes past

  abbrev more : List Node
  more = nodes (p ∷ past)

  same_place : (q k : ℕ) → k ≤ length ns → place more (OfCommands q) k ≡ place ns (OfCommands q) k
  same_place q k le = place_stays p (acts p.action) ns (OfCommands q) k le

  -- the counts of a node that was there
  counts_stay : (n : Node) (counts : List ℕ) → Contains ns n → CountsBefore ns n counts → CountsBefore more n counts
  counts_stay n counts at is = record { first = first; there = λ q low. subst (λ (k : ℕ). slice_index counts q ≤ k) (sym (same_place q n.number (omega (arith, number_below ns (numbered past) n at)))) (is.there q low) }
    where
      first : (m : Node) (q : ℕ) → q < 4 → Contains more m → line_of m ≡ Some (OfCommands q) → before more m n ≡ nat_lt (place more (OfCommands q) m.number) (slice_index counts q)
      first m q low c line = elim (with_member p (acts p.action) ns m c) [
        | inl old ↦ (let below_all = number_below ns (numbered past) m old in
            (keeps past (p ∷ [])).orders m n at ∙ is.first m q low old line ∙ ap (λ (k : ℕ). nat_lt k (slice_index counts q)) (sym (same_place q m.number (omega (arith, below_all)))))
        | inr new ↦ (let own = number_below ns (numbered past) n at in
            let late : n.number ≤ m.number = omega (arith, own, new.2) in
            let bound = is.there q low in
            let kept = same_place q n.number (omega (arith, own)) in
            let rise = place_rises more q n.number m.number late in
            is_false (before more m n) (λ leads_back. absurd (let forward = leads more m n leads_back in omega (arith, late, forward)))
            ∙ sym (le-ltb (place more (OfCommands q) m.number) (slice_index counts q) (omega (arith, bound, kept, rise))))
      ]

  pub started_stays : (done : List Name) (n : Node) (c : Command) → Contains ns n → PiecesStay past p → IsStarted past done n c → IsStarted (p ∷ past) done n c
  started_stays done n c at stay is = record {
    queue = is.queue;
    on_queue = is.on_queue;
    counts = counts_stay n c.before at is.counts;
    left = is.left ∙ ap (λ (k : ℕ). filter (λ i. not (is_done done (n.number, i))) (below k)) (sym (stay n at));
  }

  -- a command that comes, with its counts
  module _ (c : Cmd) (is : p.action ≡ Run c) (run : is_run c ≡ true) where
    abbrev pub next : Node
    next = record { number = length ns; point = p; act = Runs c }

    pub with_next : more ≡ next ∷ ns
    with_next = ap (λ (d : Action). with_acts p (acts d) ns) is ∙ ap (λ (as' : List Act). with_acts p as' ns) (run_acts c run)

    pub next_started : (done : List Name) (counts : List ℕ) (queue : ℕ) (left : List ℕ) → ((x : Name) → IsTrue (is_done done x) → x.0 < length ns)
        → queue ≡ p.queue → queue < 4 → CountsBefore (next ∷ ns) next counts → left ≡ below (piece_count (p ∷ past) (Runs c))
        → IsStarted (p ∷ past) done next (record { queue = queue; before = counts; left = left })
    next_started done counts queue left known same low counted all = record {
      queue = same;
      on_queue = low;
      counts = subst (λ (ms : List Node). CountsBefore ms next counts) (sym with_next) counted;
      left = all ∙ sym (all_stay (below (piece_count (p ∷ past) (Runs c))));
    }
      where
        not_done : (k : ℕ) → is_done done (length ns, k) ≡ false
        not_done k = is_false (is_done done (length ns, k)) (λ ran. absurd (let lt : length ns < length ns = known (length ns, k) ran in omega (arith, lt)))

        all_stay : (ks : List ℕ) → filter (λ k. not (is_done done (length ns, k))) ks ≡ ks
        all_stay [] = refl
        all_stay (k ∷ ks) = rw (not_done k) (ap (λ (js : List ℕ). k ∷ js) (all_stay ks))

-- each place below the number of all commands of a queue is one's
abbrev Found : ℕ → ℕ → List Node → Type 0
Found q r ms = (m : Node) × Contains ms m × (line_of m ≡ Some (OfCommands q)) × (place ms (OfCommands q) m.number ≡ r)

at_place : (ns : List Node) → IsNumbered ns → (q r : ℕ) → r < place ns (OfCommands q) (length ns) → Found q r ns
at_place [] numbers q r lt = absurd (omega arith)
at_place (n ∷ ns) numbers q r lt = go (nat_lt r (place ns (OfCommands q) (length ns))) (is_command n.act) (on_queue q n) refl refl refl (at_place ns numbers.1 q r)
  where
    number : n.number ≡ length ns
    number = numbers.0

    total : (t : Bool) → on_line (OfCommands q) n ≡ t → place (n ∷ ns) (OfCommands q) (suc (length ns)) ≡ place ns (OfCommands q) (length ns) + (if t then 1 else 0)
    total t e = place_next n ns (OfCommands q) (suc (length ns)) t (omega (arith, number)) e ∙ ap (λ (k : ℕ). k + (if t then 1 else 0)) (place-top ns numbers.1 (OfCommands q) (suc (length ns)) (omega arith))

    go : (s t u : Bool) → nat_lt r (place ns (OfCommands q) (length ns)) ≡ s → is_command n.act ≡ t → on_queue q n ≡ u → (r < place ns (OfCommands q) (length ns) → Found q r ns) → Found q r (n ∷ ns)
    go true t u e f g rest =
        let found = rest (ltb-true r (place ns (OfCommands q) (length ns)) e) in
        let low = number_below ns numbers.1 found.0 found.1 in
        (found.0, contains-tail n ns found.0 found.1, found.2, place_kept n ns (OfCommands q) found.0.number (omega (arith, low, number)) ∙ found.3)
    go false true true e f g rest =
        let least = ltb-false r (place ns (OfCommands q) (length ns)) e in
        let all = total true (of_line q n ∙ ap (λ (b : Bool). b && on_queue q n) f ∙ g) in (
          n,
          contains-head n ns,
          command_line n f ∙ ap (λ (k : ℕ). Some (OfCommands k)) (eqb-true n.point.queue q g),
          place_kept n ns (OfCommands q) n.number (omega arith) ∙ ap (λ (k : ℕ). place ns (OfCommands q) k) number ∙ omega (arith, lt, least, all),
        )
    go false true false e f g rest =
        let least = ltb-false r (place ns (OfCommands q) (length ns)) e in
        let all = total false (of_line q n ∙ ap (λ (b : Bool). b && on_queue q n) f ∙ g) in
        absurd (omega (arith, lt, least, all))
    go false false u e f g rest =
        let least = ltb-false r (place ns (OfCommands q) (length ns)) e in
        let all = total false (of_line q n ∙ ap (λ (b : Bool). b && on_queue q n) f) in
        absurd (omega (arith, lt, least, all))

-- how many commands of a queue there are
pub all_there : (past : Past) (done : List Name) (cs : List Command) → AreStarted past done (commands_in (nodes past)) cs → (q : ℕ) → place (nodes past) (OfCommands q) (length (nodes past)) ≡ count_on q cs
all_there past done cs started q =
    let size : length cs ≡ length (commands_in (nodes past)) = started.lengths in
    all_on (nodes past) (numbered past) q ∙ ap (λ (os : List Node). count_by (on_queue q) os) (sym (take_all (length cs) (commands_in (nodes past)) (omega arith)))
    ∙ sym (same_count past done cs started q (length cs)) ∙ ap (λ (ds : List Command). count_on q ds) (take_all (length cs) cs (omega arith))

-- ---- all that were started

module _ (keeps : GrowthKeeps) (leads : BeforeLeadsOn) (past : Past) (p : Point) (done : List Name) (cs : List Command) (stay : PiecesStay past p) (started : AreStarted past done (commands_in (nodes past)) cs) where
  -- with a point that isn't run in pieces
  pub others_started : is_run_in_pieces p.action ≡ false → AreStarted (p ∷ past) done (commands_in (nodes (p ∷ past))) cs
  others_started other = subst (λ (os : List Node). AreStarted (p ∷ past) done os cs) (sym (others_stay p (acts p.action) (nodes past) (none_run p.action other))) (record {
    lengths = started.lengths;
    each = λ j n c at_n at_c. started_stays keeps leads past p done n c (command_at (nodes past) j n at_n).0 stay (started.each j n c at_n at_c);
  })

  pub more_started : (c : Cmd) (is : p.action ≡ Run c) (run : is_run c ≡ true) (new : Command) → IsStarted (p ∷ past) done (record { number = length (nodes past); point = p; act = Runs c }) new
      → AreStarted (p ∷ past) done (commands_in (nodes (p ∷ past))) (cs ++ new ∷ [])
  more_started c is run new here = subst (λ (os : List Node). AreStarted (p ∷ past) done os (cs ++ new ∷ [])) (sym grown) (record {
    lengths = length-append cs (new ∷ []) ∙ ap (λ (k : ℕ). k + 1) started.lengths ∙ sym (length-append (commands_in (nodes past)) (n ∷ []));
    each = each;
  })
    where
      n : Node
      n = record { number = length (nodes past); point = p; act = Runs c }

      grown : commands_in (nodes (p ∷ past)) ≡ commands_in (nodes past) ++ n ∷ []
      grown = ap commands_in (with_next keeps leads past p c is run) ∙ command_node n (nodes past) refl

      each : (j : ℕ) (m : Node) (d : Command) → slice_get (commands_in (nodes past) ++ n ∷ []) j ≡ Some m → slice_get (cs ++ new ∷ []) j ≡ Some d → IsStarted (p ∷ past) done m d
      each j m d at_m at_d = elim (push_cases (commands_in (nodes past)) n m j at_m) [
        | inl old ↦ (let lt = slice_get_within (commands_in (nodes past)) j m old in let same = started.lengths in
            started_stays keeps leads past p done m d (command_at (nodes past) j m old).0 stay (started.each j m d old (sym (get_before cs (new ∷ []) j (omega arith)) ∙ at_d)))
        | inr last ↦ (let same : Some new ≡ Some d = sym (push_new cs new) ∙ ap (λ (k : ℕ). slice_get (cs ++ new ∷ []) k) (started.lengths ∙ sym last.0) ∙ at_d in
            let this : new ≡ d = cc in
            subst (λ (k : Node). IsStarted (p ∷ past) done k d) last.1 (subst (λ (e : Command). IsStarted (p ∷ past) done n e) this here))
      ]

  -- a command may come next
  pub may_come : CommandsFollow → OrderedAreSubmitted → IsOrdered (p ∷ past) → (c : Cmd) (is : p.action ≡ Run c) (run : is_run c ≡ true) (counts : List ℕ) → p.queue < 4
      → CountsBefore (record { number = length (nodes past); point = p; act = Runs c } ∷ nodes past) (record { number = length (nodes past); point = p; act = Runs c }) counts
      → MayCome cs p.queue counts
  may_come follow submitted ordered c is run counts low counted = record { on_queue = low; known = known; rising = rising }
    where
      n : Node
      n = record { number = length (nodes past); point = p; act = Runs c }

      known : (q : ℕ) → q < 4 → slice_index counts q ≤ count_on q cs
      known q small =
          let bound = counted.there q small in
          let kept = place_kept n (nodes past) (OfCommands q) (length (nodes past)) (omega arith) in
          let all = all_there past done cs started q in
          omega arith

      rising : (j : ℕ) (d : Command) → slice_get cs j ≡ Some d → d.queue ≡ p.queue → (q : ℕ) → q < 4 → slice_index d.before q ≤ slice_index counts q
      rising j d at_d same q small =
          let lt = slice_get_within cs j d at_d in
          let size = started.lengths in
          let found = item_at (commands_in (nodes past)) j (omega (arith, lt, size)) in
          let here = started.each j found.0 d found.1 at_d in
          let there = command_at (nodes past) j found.0 found.1 in
          go found.0 here there.0 there.1 (nat_lt (slice_index counts q) (slice_index d.before q)) refl
        where
          go : (m : Node) → IsStarted past done m d → Contains (nodes past) m → IsTrue (is_command m.act) → (t : Bool) → nat_lt (slice_index counts q) (slice_index d.before q) ≡ t → slice_index d.before q ≤ slice_index counts q
          go m here at command false e = ltb-false (slice_index counts q) (slice_index d.before q) e
          go m here at command true e =
              let more_there = ltb-true (slice_index counts q) (slice_index d.before q) e in
              let bound = here.counts.there q small in
              let low_number = number_below (nodes past) (numbered past) m at in
              let rise = place_rises (nodes past) q m.number (length (nodes past)) (omega (arith, low_number)) in
              let one = at_place (nodes past) (numbered past) q (slice_index counts q) (omega (arith, more_there, bound, rise)) in
              let x = one.0 in
              let before_old : before (nodes past) x m ≡ true = here.counts.first x q small one.1 one.2 ∙ lt-ltb _ _ (omega (arith, one.3, more_there)) in
              let before_there : IsTrue (before (nodes (p ∷ past)) x m) = (keeps past (p ∷ [])).orders x m at ∙ before_old in
              let grown = with_next keeps leads past p c is run in
              let inside : (y : Node) → Contains (nodes past) y → Contains (nodes (p ∷ past)) y = λ y old. subst (λ (ms : List Node). Contains ms y) (sym grown) (contains-tail n (nodes past) y old) in
              let own : Contains (nodes (p ∷ past)) n = subst (λ (ms : List Node). Contains ms n) (sym grown) (contains-head n (nodes past)) in
              let line : line_of m ≡ Some (OfCommands p.queue) = command_line m command ∙ ap (λ (k : ℕ). Some (OfCommands k)) (sym here.queue ∙ same) in
              let follows : IsTrue (before (nodes (p ∷ past)) x n) = follow (nodes (p ∷ past)) p.queue x m n (numbered (p ∷ past)) (submitted (p ∷ past) ordered) (inside x one.1) (inside m at) own line refl (omega (arith, low_number)) before_there in
              let count : before (n ∷ nodes past) x n ≡ nat_lt (place (n ∷ nodes past) (OfCommands q) x.number) (slice_index counts q) = counted.first x q small (contains-tail n (nodes past) x one.1) one.2 in
              let low_x = number_below (nodes past) (numbered past) x one.1 in
              let kept = place_kept n (nodes past) (OfCommands q) x.number (omega (arith, low_x)) in
              let never : nat_lt (place (n ∷ nodes past) (OfCommands q) x.number) (slice_index counts q) ≡ false = le-ltb _ _ (omega (arith, kept, one.3)) in
              let yes : before (n ∷ nodes past) x n ≡ true = subst (λ (ms : List Node). before ms x n ≡ true) grown follows in
              absurd cc
