-- What comes after one node, the newest.
use Rattle.std.proofs.Common.{◌≡◌, ℕ, ◌+◌, ◌<◌, ◌≤◌, List, [], ◌∷◌, length, Bool, true, false, Option, Some, None, refl, ap, sym, ◌∙◌, arith}
use Rattle.std.specs.Prelude.{◌==◌, Contains, max, slice_get, slice_index_or, is_some, if◌then◌else◌}
use Rattle.std.specs.Option.{option_map, option_map_or}
use Rattle.std.proofs.lemmas.Bool.{eq-eqb, ne_eqb}
use Rattle.std.proofs.lemmas.Option.{slice_get_within, slice_get-map}
use Rattle.vk_model.specs.Sync.Node.{Node, Act}
use Rattle.vk_model.specs.Sync.Edge.{is_submit}
use Rattle.vk_model.specs.Sync.Seen.{Access}
use Rattle.vk_model.proofs.Lists.Truths.{no}
use Rattle.vk_order.specs.declared.acts.Row.{Row}
use Rattle.vk_order.specs.declared.lines.Line.{Line}
use Rattle.vk_order.specs.declared.lines.Line.TheVariants.{Host as OfHost, Commands as OfCommands, Signals as OfSignals, Elements as OfElements, Sets as OfSets, Waits as OfWaits}
use Rattle.vk_order.specs.declared.counts.Counts.{Counts}
use Rattle.vk_order.specs.declared.fronts.Front.{Front}
use Rattle.vk_order.specs.declared.tallies.LineTally.{LineTally}
use Rattle.vk_order.specs.NodeViews.{act_of}
use Rattle.vk_order.specs.Lines.{class_of, same_line, on_line, place}
use Rattle.vk_order.specs.Inner.Clocks.{IsClock}
use Rattle.vk_order.specs.Inner.Counts.{zero_counts, counts_on, with_available, AreAvailable}
use Rattle.vk_order.specs.Inner.Kept.{clock_at, IsOwn}
use Rattle.vk_order.specs.Inner.Leads.{is_of_host, is_of_barriers}
use Rattle.vk_order.specs.Inner.Places.{index_in}
use Rattle.vk_order.specs.Inner.Rows.{Knowledge, Available, Visible, OnHost, makes_queue_available, makes_all_visible_on_host, shows, makes_line_available, IsRow, IsKnownRow, IsOwnAvailable, IsMerged, IsOwnVisible, IsOwnOnHost}
use Rattle.vk_order.specs.Inner.Fronts.{clock_in, row_in, IsOwnFront}
use Rattle.vk_order.specs.Inner.Tallies.{lines_of, IsTallied, IsComing}
use Rattle.vk_order.proofs.ClockLemmas.{edges_join, line_same, line_itself, of_on}
use Rattle.vk_order.proofs.KeptLemmas.{found_line, line_class}
use Rattle.vk_order.proofs.ListLemmas.{place-none}
use Rattle.vk_order.proofs.KnownRows.{available_row, known_row, visible_row, host_row}
use Rattle.vk_model.proofs.Lists.Items.{some_same}

-- ---- tallies by their lines

pub lines_length : (ts : List LineTally) → length (lines_of ts) ≡ length ts
lines_length [] = refl
lines_length (t ∷ ts) = let e = lines_length ts in omega arith

pub tally_at : (ts : List LineTally) (l : Line) (i : ℕ) → index_in (lines_of ts) l ≡ Some i → (t : LineTally) × (slice_get ts i ≡ Some t) × (t.line ≡ l)
tally_at ts l i e = go (slice_get ts i) refl (sym (slice_get-map (λ t. t.line) ts i) ∙ found_line (lines_of ts) l i e)
  where
    go : (o : Option LineTally) → slice_get ts i ≡ o → option_map (λ t. t.line) o ≡ Some l → (t : LineTally) × (slice_get ts i ≡ Some t) × (t.line ≡ l)
    go None e is = absurd cc
    go (Some t) e is = (t, e, cc)

-- a line that isn't listed has no node
pub none_there : (ns : List Node) (ts : List LineTally) → IsTallied ns ts → (l : Line) → index_in (lines_of ts) l ≡ None → (k : Node) → Contains ns k → same_line l (class_of k) ≡ false
none_there ns ts tallied l none k c = go (same_line l (class_of k)) refl
  where
    go : (b : Bool) → same_line l (class_of k) ≡ b → same_line l (class_of k) ≡ false
    go false e = e
    go true e = no (sym (ap is_some (ap (index_in (lines_of ts)) (sym (line_same l (class_of k) e)) ∙ none)) ∙ tallied.listed k c)

pub off_line : (ns : List Node) (ts : List LineTally) → IsTallied ns ts → (l : Line) → index_in (lines_of ts) l ≡ None → (k : Node) → Contains ns k → on_line l k ≡ false
off_line ns ts tallied l none k c = go (on_line l k) refl
  where
    go : (b : Bool) → on_line l k ≡ b → on_line l k ≡ false
    go false e = e
    go true e = no (sym (none_there ns ts tallied l none k c) ∙ ap (same_line l) (line_class k l (of_on l k e)) ∙ line_itself l)

pub no_place : (ns : List Node) (ts : List LineTally) → IsTallied ns ts → (l : Line) → index_in (lines_of ts) l ≡ None → (k : ℕ) → place ns l k ≡ 0
no_place ns ts tallied l none k = place-none ns l k (off_line ns ts tallied l none)

pub count_there : (ns : List Node) (ts : List LineTally) → IsTallied ns ts → (l : Line) (i : ℕ) (t : LineTally) → index_in (lines_of ts) l ≡ Some i → slice_get ts i ≡ Some t → t.count ≡ place ns l (length ns)
count_there ns ts tallied l i t at here =
    let r = tally_at ts l i at in
    let same : r.0 ≡ t = some_same r.0 t (sym r.1 ∙ here) in
    (tallied.each i t here).count ∙ ap (λ (m : Line). place ns m (length ns)) (ap (λ (x : LineTally). x.line) (sym same) ∙ r.2)

-- ---- what is available after it

module _ (ns : List Node) (ts : List LineTally) (tallied : IsTallied ns ts) (queue : ℕ) (act : Act) (row own : List Counts) where
  -- where all nodes of a line are made available
  pub available_counted : (line : Line) (at count : ℕ) (t : LineTally) → ((l : Line) → same_line l line ≡ makes_line_available queue act l) → index_in (lines_of ts) line ≡ Some at → slice_get ts at ≡ Some t → count ≡ t.count
      → ((i : ℕ) → slice_index_or own i zero_counts ≡ (if i == at then with_available (slice_index_or row at zero_counts) count else slice_index_or row i zero_counts))
      → length own ≡ max (length row) (at + 1) → length row ≤ length ts → AreAvailable ns (lines_of ts) queue act row own
  available_counted line at count t makes found here is counts len short = record {
    counts = λ l.
        go l (same_line l line) refl (index_in (lines_of ts) l) refl
        ∙ ap (λ (b : Bool). if b then with_available (counts_on (lines_of ts) row l) (place ns l (length ns)) else counts_on (lines_of ts) row l) (makes l);
    short = let lt = slice_get_within ts at t here in let e = lines_length ts in omega arith;
  }
    where
      go : (l : Line) (b : Bool) → same_line l line ≡ b → (o : Option ℕ) → index_in (lines_of ts) l ≡ o
          → option_map_or (λ i. slice_index_or own i zero_counts) o zero_counts
          ≡ (if b then with_available (option_map_or (λ i. slice_index_or row i zero_counts) o zero_counts) (place ns l (length ns)) else option_map_or (λ i. slice_index_or row i zero_counts) o zero_counts)
      go l true e None f = absurd (let bad : None ≡ Some at = sym f ∙ ap (index_in (lines_of ts)) (line_same l line e) ∙ found in cc)
      go l true e (Some i) f =
          let same : l ≡ line = line_same l line e in
          let that : Some i ≡ Some at = sym f ∙ ap (index_in (lines_of ts)) same ∙ found in
          let eq : i ≡ at = cc in
          counts i ∙ rw (eq-eqb i at eq)
          (ap (with_available (slice_index_or row at zero_counts)) (is ∙ count_there ns ts tallied line at t found here ∙ ap (λ (m : Line). place ns m (length ns)) (sym same))
          ∙ ap (λ (j : ℕ). with_available (slice_index_or row j zero_counts) (place ns l (length ns))) (sym eq))
      go l false e None f = refl
      go l false e (Some i) f =
          counts i ∙ rw (ne_eqb i at (λ eq.
          let same : l ≡ line = some_same l line (sym (found_line (lines_of ts) l i f) ∙ ap (slice_get (lines_of ts)) eq ∙ found_line (lines_of ts) line at found) in
          no (sym e ∙ ap (same_line l) (sym same) ∙ line_itself l))) refl

  -- where the line has no node yet
  pub available_none : (line : Line) → ((l : Line) → same_line l line ≡ makes_line_available queue act l) → index_in (lines_of ts) line ≡ None → own ≡ row → length row ≤ length ts → AreAvailable ns (lines_of ts) queue act row own
  available_none line makes none same short = record {
    counts = λ l.
        ap (λ (r : List Counts). counts_on (lines_of ts) r l) same ∙ go l (same_line l line) refl
        ∙ ap (λ (b : Bool). if b then with_available (counts_on (lines_of ts) row l) (place ns l (length ns)) else counts_on (lines_of ts) row l) (makes l);
    short = let e = lines_length ts in let f = ap length same in omega arith;
  }
    where
      nothing : (o : Option ℕ) (p : ℕ) → o ≡ None → p ≡ 0 → option_map_or (λ i. slice_index_or row i zero_counts) o zero_counts ≡ with_available (option_map_or (λ i. slice_index_or row i zero_counts) o zero_counts) p
      nothing None p e z = sym (ap (with_available zero_counts) z)
      nothing (Some i) p e z = absurd cc

      go : (l : Line) (b : Bool) → same_line l line ≡ b → counts_on (lines_of ts) row l ≡ (if b then with_available (counts_on (lines_of ts) row l) (place ns l (length ns)) else counts_on (lines_of ts) row l)
      go l true e =
          let off : index_in (lines_of ts) l ≡ None = ap (index_in (lines_of ts)) (line_same l line e) ∙ none in
          nothing (index_in (lines_of ts) l) (place ns l (length ns)) off (no_place ns ts tallied l off (length ns))
      go l false e = refl

  -- where nothing is made available
  pub available_as_well : ((l : Line) → false ≡ makes_line_available queue act l) → own ≡ row → length row ≤ length ts → AreAvailable ns (lines_of ts) queue act row own
  available_as_well makes same short = record {
    counts = λ l.
        ap (λ (r : List Counts). counts_on (lines_of ts) r l) same
        ∙ ap (λ (b : Bool). if b then with_available (counts_on (lines_of ts) row l) (place ns l (length ns)) else counts_on (lines_of ts) row l) (makes l);
    short = let e = lines_length ts in let f = ap length same in omega arith;
  }

-- ---- which line is made available

pub none_available : (q : ℕ) (a : Act) → is_submit a ≡ false → makes_queue_available a ≡ false → (l : Line) → false ≡ makes_line_available q a l
none_available q a s e OfHost = sym s
none_available q a s e (OfCommands r) = rw e refl
none_available q a s e (OfSignals r) = refl
none_available q a s e (OfElements r t h) = refl
none_available q a s e (OfSets r) = refl
none_available q a s e (OfWaits r t h b) = refl

-- ---- what is known at it

-- of the lines of elements the one row, of the others the other
pub merged : (ts : List LineTally) (clock row own : List ℕ) → length own ≡ length ts
    → ((i : ℕ) (t : LineTally) → slice_get ts i ≡ Some t → slice_index_or own i 0 ≡ (if is_of_barriers t.line then slice_index_or clock i 0 else slice_index_or row i 0)) → IsMerged (lines_of ts) clock row own
merged ts clock row own len each = record { counts = λ l. go l (index_in (lines_of ts) l) refl; short = let e = lines_length ts in omega arith }
  where
    none : (b : Bool) (z : ℕ) → z ≡ (if b then z else z)
    none true z = refl
    none false z = refl

    go : (l : Line) (o : Option ℕ) → index_in (lines_of ts) l ≡ o
        → option_map_or (λ i. slice_index_or own i 0) o 0 ≡ (if is_of_barriers l then option_map_or (λ i. slice_index_or clock i 0) o 0 else option_map_or (λ i. slice_index_or row i 0) o 0)
    go l None e = none (is_of_barriers l) 0
    go l (Some i) e =
        let r = tally_at ts l i e in
        each i r.0 r.1 ∙ ap (λ (m : Line). if is_of_barriers m then slice_index_or clock i 0 else slice_index_or row i 0) r.2

-- ---- its front

module _ (ns : List Node) (ls : List Line) (n : Node) (row : Row) (known own : Front) (coming : IsComing ns ls n row known) (clock : IsOwn ns ls n (clock_in known) (clock_in own))
    (available : IsOwnAvailable ns ls row.point.queue (act_of row.act) (row_in Available known) (row_in Available own))
    (visible : (k : Access) → IsOwnVisible k ls (act_of row.act) (clock_in known) (row_in Available own) (row_in (Visible k) own))
    (hosted : (k : Access) → IsOwnOnHost k ls (act_of row.act) (clock_in known) (row_in Available own) (row_in (OnHost k) known) (row_in (OnHost k) own)) where
  queue_is : n.point.queue ≡ row.point.queue
  queue_is = ap (λ (p : Rattle.vk_model.specs.Trace.Point.Point). p.queue) coming.point

  available_there : IsRow Available (n ∷ ns) n (clock_at ls (row_in Available own))
  available_there = available_row ns n coming.numbers (clock_at ls (row_in Available known)) (clock_at ls (row_in Available own)) (coming.front.rows Available).join
      (λ l. available.counts l ∙ ap (λ (b : Bool). if b then place ns l (length ns) else clock_at ls (row_in Available known) l)
      (ap (λ (a : Act). makes_line_available row.point.queue a l) (sym coming.act) ∙ ap (λ (q : ℕ). makes_line_available q n.act l) (sym queue_is)))

  clock_there : IsClock (n ∷ ns) n (clock_at ls (clock_in known))
  clock_there = edges_join n ns coming.numbers (clock_at ls (clock_in known)) coming.front.clock.join

  abbrev heard : Line → ℕ
  heard l = if is_of_barriers l then clock_at ls (clock_in known) l else clock_at ls (row_in Available own) l

  heard_there : IsKnownRow (n ∷ ns) n (λ l. if is_of_barriers l then clock_at ls (clock_in known) l else clock_at ls (row_in Available own) l)
  heard_there = known_row ns n coming.numbers (clock_at ls (clock_in known)) (clock_at ls (row_in Available own)) clock_there available_there

  seen_there : (k : Access) → IsRow (Visible k) (n ∷ ns) n (clock_at ls (row_in (Visible k) own))
  seen_there k = visible_row ns n coming.numbers (λ l. heard l) heard_there k (clock_at ls (row_in (Visible k) own))
      (λ l. (visible k).counts l ∙ ap (λ (a : Act). if shows k (is_of_host l) a then heard l else 0) (sym coming.act))

  on_host : (k : Access) → IsRow (OnHost k) (n ∷ ns) n (clock_at ls (row_in (OnHost k) own))
  on_host k = host_row ns n coming.numbers (λ l. heard l) heard_there k (clock_at ls (row_in (OnHost k) known)) (clock_at ls (row_in (OnHost k) own)) (coming.front.rows (OnHost k)).join
      (λ l. (hosted k).counts l ∙ ap (λ (a : Act). if makes_all_visible_on_host k a then max (clock_at ls (row_in (OnHost k) known) l) (heard l) else clock_at ls (row_in (OnHost k) known) l) (sym coming.act))

  shorter : (g : Knowledge) → length (row_in g own) ≤ length ls
  shorter Available = available.short
  shorter (Visible k) = (visible k).short
  shorter (OnHost k) = (hosted k).short

  rows_there : (g : Knowledge) → IsRow g (n ∷ ns) n (clock_at ls (row_in g own))
  rows_there Available = available_there
  rows_there (Visible k) = seen_there k
  rows_there (OnHost k) = on_host k

  pub own_is : IsOwnFront ns ls n own
  own_is = record {
    before = clock_in known;
    clock = clock_there;
    own = clock;
    rows = rows_there;
    short = shorter;
  }

pub index_low : (ts : List LineTally) (l : Line) (i : ℕ) → index_in (lines_of ts) l ≡ Some i → i < length ts
index_low ts l i e = let r = tally_at ts l i e in slice_get_within ts i r.0 r.1

-- the line of a node that comes
pub class_coming : (ns : List Node) (ls : List Line) (n : Node) (row : Row) (known : Front) → IsComing ns ls n row known → class_of n ≡ Rattle.vk_order.specs.Lines.class_on row.point.queue (act_of row.act)
class_coming ns ls n row known coming =
    ap (λ (p : Rattle.vk_model.specs.Trace.Point.Point). Rattle.vk_order.specs.Lines.class_on p.queue n.act) coming.point
    ∙ ap (Rattle.vk_order.specs.Lines.class_on row.point.queue) coming.act
