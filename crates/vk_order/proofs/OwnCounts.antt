-- How the counts of what comes after one node, the newest, are made.
use Rattle.std.proofs.Common.{◌≡◌, ◌⊎◌, ⊎_elim, ℕ, ◌+◌, ◌<◌, ◌≤◌, List, length, Bool, true, false, ◌&&◌, ◌||◌, Option, Some, None, refl, ap, sym, ◌∙◌, subst, arith}
use Rattle.std.specs.Prelude.{◌==◌, max, map, slice_get, slice_index_or, if◌then◌else◌}
use Rattle.std.specs.Option.{option_map_or}
use Rattle.std.proofs.lemmas.Bool.{eqb-true, cases_lt}
use Rattle.std.proofs.lemmas.List.{length-map, get_or_past}
use Rattle.std.proofs.lemmas.Option.{slice_get_within}
use Rattle.vk_model.specs.Sync.Node.{Node, Act}
use Rattle.vk_model.specs.Sync.Seen.{Access, Read, Write}
use Rattle.vk_order.specs.declared.acts.Row.{Row}
use Rattle.vk_order.specs.declared.counts.Counts.{Counts}
use Rattle.vk_order.specs.declared.counts.Shows.{Shows}
use Rattle.vk_order.specs.declared.fronts.Front.{Front}
use Rattle.vk_order.specs.declared.lines.Line.{Line}
use Rattle.vk_order.specs.declared.lines.Line.TheVariants.{Host as OfHost, Commands as OfCommands, Signals as OfSignals, Elements as OfElements, Sets as OfSets, Waits as OfWaits}
use Rattle.vk_order.specs.declared.tallies.LineTally.{LineTally}
use Rattle.vk_order.specs.NodeViews.{act_of}
use Rattle.vk_order.specs.Lines.{line_of, on_line, place}
use Rattle.vk_order.specs.Inner.Counts.{zero_counts, count_in, counts_on, known_on, shows_of, made_visible_by, no_shows, hidden, with_clock, with_available, AreAvailable, AreVisible, AreCounted}
use Rattle.vk_order.specs.Inner.Fronts.{clock_in, row_in, IsOwnFront}
use Rattle.vk_order.specs.Inner.Kept.{clock_at, IsOwn}
use Rattle.vk_order.specs.Inner.Leads.{is_of_host, is_of_barriers}
use Rattle.vk_order.specs.Inner.Places.{index_in}
use Rattle.vk_order.specs.Inner.Rows.{Knowledge, Available, Visible, OnHost, makes_all_visible_on_host, shows, makes_line_available, IsOwnAvailable, IsOwnVisible, IsOwnOnHost}
use Rattle.vk_order.specs.Inner.Tallies.{lines_of, IsComing}
use Rattle.vk_order.proofs.CountLemmas.{zero_in, each_at, at_line}
use Rattle.vk_order.proofs.KeptLemmas.{own_line, own_none}
use Rattle.vk_order.proofs.OwnLemmas.{tally_at, own_is}

-- ---- what is made visible

abbrev either : Bool → ℕ → ℕ → ℕ
either b m n = if b then m else n

zero_if : (b k : Bool) → either b (either k 0 0) 0 ≡ 0
zero_if true true = refl
zero_if true false = refl
zero_if false k = refl

zero_max : (b k : Bool) → either b (max 0 (either k 0 0)) 0 ≡ 0
zero_max true true = refl
zero_max true false = refl
zero_max false k = refl

abbrev visible_alone : ℕ → ℕ → ℕ → ℕ → Counts
visible_alone i j m n = record { clock = 0; available = 0; reads = i; writes = j; host_reads = m; host_writes = n }

none_visible : (r w x y : ℕ) → r ≡ 0 → w ≡ 0 → x ≡ 0 → y ≡ 0 → visible_alone r w x y ≡ zero_counts
none_visible r w x y a b c d =
    ap (λ (n : ℕ). visible_alone n w x y) a ∙ ap (λ (n : ℕ). visible_alone 0 n x y) b ∙ ap (λ (n : ℕ). visible_alone 0 0 n y) c ∙ ap (λ (n : ℕ). visible_alone 0 0 0 n) d

-- of no node nothing is
visible_zero : (s : Shows) (l : Line) → made_visible_by s l zero_counts ≡ zero_counts
visible_zero s l = none_visible _ _ _ _
    (zero_if (s.reads || is_of_host l && s.is_submit) (is_of_barriers l)) (zero_if (s.writes || is_of_host l && s.is_submit) (is_of_barriers l))
    (zero_max s.host_reads (is_of_barriers l)) (zero_max s.host_writes (is_of_barriers l))

-- the counts of the first lines are done, and there are no more lines or no more counts
pub all_visible : (ts : List LineTally) (s : Shows) (before own : List Counts) (k : ℕ) → (length ts ≤ k) ⊎ (length before ≤ k) → length own ≡ length before
    → ((i : ℕ) (t : LineTally) → i < k → slice_get ts i ≡ Some t → slice_index_or own i zero_counts ≡ made_visible_by s t.line (slice_index_or before i zero_counts))
    → ((i : ℕ) → k ≤ i → slice_index_or own i zero_counts ≡ slice_index_or before i zero_counts) → AreVisible (lines_of ts) s before own
all_visible ts s before own k ends long done rest = record { counts = λ l. go l (index_in (lines_of ts) l) refl; long = long }
  where
    past : (i : ℕ) (t : LineTally) → slice_get ts i ≡ Some t → k ≤ i → slice_index_or own i zero_counts ≡ made_visible_by s t.line (slice_index_or before i zero_counts)
    past i t e le = ⊎_elim
        (λ short. absurd (let lt = slice_get_within ts i t e in omega arith))
        (λ short.
        let none : slice_index_or before i zero_counts ≡ zero_counts = get_or_past before i zero_counts (omega arith) in
        rest i le ∙ none ∙ sym (visible_zero s t.line) ∙ ap (made_visible_by s t.line) (sym none))
        ends

    each : (i : ℕ) (t : LineTally) → slice_get ts i ≡ Some t → slice_index_or own i zero_counts ≡ made_visible_by s t.line (slice_index_or before i zero_counts)
    each i t e = ⊎_elim (λ lt. done i t lt e) (λ ge. past i t e ge) (cases_lt i k)

    go : (l : Line) (o : Option ℕ) → index_in (lines_of ts) l ≡ o
        → option_map_or (λ i. slice_index_or own i zero_counts) o zero_counts ≡ made_visible_by s l (option_map_or (λ i. slice_index_or before i zero_counts) o zero_counts)
    go l None e = sym (visible_zero s l)
    go l (Some i) e =
        let r = tally_at ts l i e in
        each i r.0 r.1 ∙ ap (λ (m : Line). made_visible_by s m (slice_index_or before i zero_counts)) r.2

none_made_visible : (l : Line) (c : Counts) → made_visible_by no_shows l c ≡ hidden c
none_made_visible OfHost c = refl
none_made_visible (OfCommands q) c = refl
none_made_visible (OfSignals q) c = refl
none_made_visible (OfElements q t h) c = refl
none_made_visible (OfSets q) c = refl
none_made_visible (OfWaits q t h a) c = refl

-- an act that makes nothing visible hides all
pub all_hidden : (ts : List LineTally) (s : Shows) (before own : List Counts) → s ≡ no_shows → length own ≡ length before
    → ((i : ℕ) → slice_index_or own i zero_counts ≡ hidden (slice_index_or before i zero_counts)) → AreVisible (lines_of ts) s before own
all_hidden ts s before own nothing long each = subst (λ (x : Shows). AreVisible (lines_of ts) x before own) (sym nothing) (record { counts = λ l. go l (index_in (lines_of ts) l); long = long })
  where
    go : (l : Line) (o : Option ℕ) → option_map_or (λ i. slice_index_or own i zero_counts) o zero_counts ≡ made_visible_by no_shows l (option_map_or (λ i. slice_index_or before i zero_counts) o zero_counts)
    go l None = sym (none_made_visible l zero_counts)
    go l (Some i) = each i ∙ sym (none_made_visible l (slice_index_or before i zero_counts))

-- ---- the node itself

kept_rows : (g : Knowledge) (c : Counts) (n : ℕ) → count_in g (with_clock c n) ≡ count_in g c
kept_rows Available c n = refl
kept_rows (Visible Read) c n = refl
kept_rows (Visible Write) c n = refl
kept_rows (OnHost Read) c n = refl
kept_rows (OnHost Write) c n = refl

module _ (ns : List Node) (ls : List Line) (n : Node) (before own : List Counts) where
  -- one that is on no line
  pub counted_none : line_of n ≡ None → own ≡ before → length before ≤ length ls → AreCounted ns ls n before own
  counted_none off same short = subst (λ (all : List Counts). AreCounted ns ls n before all) (sym same) (record {
    clock = own_none ns ls n (map (λ c. c.clock) before) off (let e = length-map before (λ c. c.clock) in omega arith);
    rows = λ g l. refl;
  })

  -- one that is
  pub counted_line : (at : ℕ) (line : Line) → index_in ls line ≡ Some at → line_of n ≡ Some line
      → ((i : ℕ) → slice_index_or own i zero_counts ≡ (if i == at then with_clock (slice_index_or before at zero_counts) (place ns line n.number + 1) else slice_index_or before i zero_counts))
      → length own ≡ max (length before) (at + 1) → length before ≤ length ls → AreCounted ns ls n before own
  counted_line at line found on counts long short = record {
    clock = own_line ns ls n (map (λ c. c.clock) before) (map (λ c. c.clock) own) at line found on clocks
        (let e = length-map before (λ c. c.clock) in let f = length-map own (λ c. c.clock) in omega arith) (let e = length-map before (λ c. c.clock) in omega arith);
    rows = λ g l. go g (index_in ls l);
  }
    where
      clocks : (i : ℕ) → slice_index_or (map (λ c. c.clock) own) i 0 ≡ (if i == at then place ns line n.number + 1 else slice_index_or (map (λ c. c.clock) before) i 0)
      clocks i =
          each_at (λ c. c.clock) refl own i ∙ ap (λ (c : Counts). c.clock) (counts i) ∙ split (i == at)
          ∙ ap (λ (m : ℕ). if i == at then place ns line n.number + 1 else m) (sym (each_at (λ c. c.clock) refl before i))
        where
          split : (b : Bool) → (if b then with_clock (slice_index_or before at zero_counts) (place ns line n.number + 1) else slice_index_or before i zero_counts).clock ≡ (if b then place ns line n.number + 1 else (slice_index_or before i zero_counts).clock)
          split true = refl
          split false = refl

      kept : (g : Knowledge) (i : ℕ) (b : Bool) → (i == at) ≡ b
          → count_in g (if b then with_clock (slice_index_or before at zero_counts) (place ns line n.number + 1) else slice_index_or before i zero_counts) ≡ count_in g (slice_index_or before i zero_counts)
      kept g i true e = kept_rows g (slice_index_or before at zero_counts) (place ns line n.number + 1) ∙ ap (λ (j : ℕ). count_in g (slice_index_or before j zero_counts)) (sym (eqb-true i at e))
      kept g i false e = refl

      go : (g : Knowledge) (o : Option ℕ) → option_map_or (λ i. slice_index_or (map (count_in g) own) i 0) o 0 ≡ option_map_or (λ i. slice_index_or (map (count_in g) before) i 0) o 0
      go g None = refl
      go g (Some i) = each_at (count_in g) (zero_in g) own i ∙ ap (count_in g) (counts i) ∙ kept g i (i == at) refl ∙ sym (each_at (count_in g) (zero_in g) before i)

-- ---- all of it

visible_rows : (k : Access) (l : Line) (a : Act) (c : Counts) → count_in (Visible k) (made_visible_by (shows_of a) l c) ≡ (if shows k (is_of_host l) a then known_on l c else 0)
visible_rows Read l a c = refl
visible_rows Write l a c = refl

visible_on_host : (k : Access) (l : Line) (a : Act) (c : Counts) → count_in (OnHost k) (made_visible_by (shows_of a) l c) ≡ (if makes_all_visible_on_host k a then max (count_in (OnHost k) c) (known_on l c) else count_in (OnHost k) c)
visible_on_host Read l a c = refl
visible_on_host Write l a c = refl

module _ (ns : List Node) (ls : List Line) (n : Node) (row : Row) (known own : Front) (coming : IsComing ns ls n row known) (made_available made_visible : List Counts)
    (are_available : AreAvailable ns ls row.point.queue (act_of row.act) known.counts.items made_available) (are_visible : AreVisible ls (shows_of (act_of row.act)) made_available made_visible) (are_counted : AreCounted ns ls n made_visible own.counts.items) where
  abbrev act : Act
  act = act_of row.act

  abbrev first : Line → Counts
  first l = counts_on ls known.counts.items l

  abbrev second : Line → Counts
  second l = counts_on ls made_available l

  short : (f : Counts → ℕ) → length (map f own.counts.items) ≤ length ls
  short f = let a = are_counted.clock.short in let b = length-map own.counts.items (λ c. c.clock) in let e = length-map own.counts.items f in omega arith

  -- what is made available changes what is available alone
  same_clock : (l : Line) → (second l).clock ≡ (first l).clock
  same_clock l = ap (λ (c : Counts). c.clock) (are_available.counts l) ∙ split (makes_line_available row.point.queue act l)
    where
      split : (b : Bool) → (if b then with_available (first l) (place ns l (length ns)) else first l).clock ≡ (first l).clock
      split true = refl
      split false = refl

  same_on_host : (k : Access) (l : Line) → count_in (OnHost k) (second l) ≡ count_in (OnHost k) (first l)
  same_on_host k l = ap (count_in (OnHost k)) (are_available.counts l) ∙ split k (makes_line_available row.point.queue act l)
    where
      split : (k : Access) (b : Bool) → count_in (OnHost k) (if b then with_available (first l) (place ns l (length ns)) else first l) ≡ count_in (OnHost k) (first l)
      split Read true = refl
      split Write true = refl
      split k false = refl

  clock_then : (l : Line) → clock_at ls (map (λ c. c.clock) made_visible) l ≡ clock_at ls (clock_in known) l
  clock_then l =
      at_line (λ c. c.clock) refl ls made_visible l ∙ ap (λ (c : Counts). c.clock) (are_visible.counts l) ∙ same_clock l ∙ sym (at_line (λ c. c.clock) refl ls known.counts.items l)

  row_then : (g : Knowledge) (l : Line) → clock_at ls (row_in g own) l ≡ count_in g (made_visible_by (shows_of act) l (second l))
  row_then g l = are_counted.rows g l ∙ at_line (count_in g) (zero_in g) ls made_visible l ∙ ap (count_in g) (are_visible.counts l)

  known_then : (l : Line) → known_on l (second l) ≡ (if is_of_barriers l then clock_at ls (clock_in known) l else clock_at ls (row_in Available own) l)
  known_then l =
      ap (λ (m : ℕ). if is_of_barriers l then m else (second l).available) (same_clock l ∙ sym (at_line (λ c. c.clock) refl ls known.counts.items l))
      ∙ ap (λ (m : ℕ). if is_of_barriers l then clock_at ls (clock_in known) l else m) (sym (row_then Available l))

  clock : IsOwn ns ls n (clock_in known) (clock_in own)
  clock = record {
    counts = λ l. are_counted.clock.counts l ∙ ap (λ (m : ℕ). if on_line l n then place ns l n.number + 1 else m) (clock_then l);
    short = are_counted.clock.short;
  }

  available : IsOwnAvailable ns ls row.point.queue act (row_in Available known) (row_in Available own)
  available = record {
    counts = λ l.
        row_then Available l ∙ ap (λ (c : Counts). c.available) (are_available.counts l) ∙ split l (makes_line_available row.point.queue act l)
        ∙ ap (λ (m : ℕ). if makes_line_available row.point.queue act l then place ns l (length ns) else m) (sym (at_line (count_in Available) refl ls known.counts.items l));
    short = short (count_in Available);
  }
    where
      split : (l : Line) (b : Bool) → (if b then with_available (first l) (place ns l (length ns)) else first l).available ≡ (if b then place ns l (length ns) else (first l).available)
      split l true = refl
      split l false = refl

  visible : (k : Access) → IsOwnVisible k ls act (clock_in known) (row_in Available own) (row_in (Visible k) own)
  visible k = record {
    counts = λ l. row_then (Visible k) l ∙ visible_rows k l act (second l) ∙ ap (λ (m : ℕ). if shows k (is_of_host l) act then m else 0) (known_then l);
    short = short (count_in (Visible k));
  }

  hosted : (k : Access) → IsOwnOnHost k ls act (clock_in known) (row_in Available own) (row_in (OnHost k) known) (row_in (OnHost k) own)
  hosted k = record {
    counts = λ l.
        let before : count_in (OnHost k) (second l) ≡ clock_at ls (row_in (OnHost k) known) l = same_on_host k l ∙ sym (at_line (count_in (OnHost k)) (zero_in (OnHost k)) ls known.counts.items l) in
        row_then (OnHost k) l ∙ visible_on_host k l act (second l)
        ∙ ap (λ (m : ℕ). if makes_all_visible_on_host k act then max m (known_on l (second l)) else m) before
        ∙ ap (λ (m : ℕ). if makes_all_visible_on_host k act then max (clock_at ls (row_in (OnHost k) known) l) m else clock_at ls (row_in (OnHost k) known) l) (known_then l);
    short = short (count_in (OnHost k));
  }

  pub own_made : IsOwnFront ns ls n own
  own_made = own_is ns ls n row known own coming clock available visible hosted
