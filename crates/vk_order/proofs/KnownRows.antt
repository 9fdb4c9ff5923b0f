-- Rows of whose writes are known at a node, the newest.
use Rattle.std.proofs.Common.{◌≡◌, inl, inr, ⊎_elim, ℕ, ◌<◌, ◌≤◌, List, ◌∷◌, length, Bool, true, false, not, ◌&&◌, IsTrue, Some, refl, ap, sym, ◌∙◌, subst, arith}
use Rattle.std.specs.Prelude.{◌==◌, nat_lt, Contains, if◌then◌else◌, ◌↔◌, max}
use Rattle.std.proofs.lemmas.Bool.{ltb-true, ltb-false, and_parts, and_from}
use Rattle.vk_model.specs.declared.command.Cmd.{Cmd}
use Rattle.vk_model.specs.Trace.Point.{Point}
use Rattle.vk_model.specs.Basics.{has_bits}
use Rattle.vk_model.specs.World.Ownership.{dependency_of}
use Rattle.vk_model.specs.Sync.Node.{Node, Act, Hosts, Waits, Signals, Runs, Depends, Barrier, SetOf, AwaitOf}
use Rattle.vk_model.specs.Sync.Edge.{edge, is_host, is_submit, is_element, is_command, all_commands}
use Rattle.vk_model.specs.Sync.Before.{before, direct, IsNumbered}
use Rattle.vk_model.specs.Sync.Seen.{Access}
use Rattle.vk_model.proofs.Lists.Members.{contains-cons, contains-head, contains-tail}
use Rattle.vk_model.proofs.Lists.Truths.{no}
use Rattle.vk_model.proofs.Sync.Numbers.{number_below, edge-older}
use Rattle.vk_model.proofs.Sync.Paths.{edge_forward, forward, path_of_before, before_of_path}
use Rattle.vk_model.proofs.Sync.HostActs.{submit_host}
use Rattle.vk_order.specs.declared.lines.Line.{Line}
use Rattle.vk_order.specs.declared.lines.Line.TheVariants.{Host as OfHost, Commands as OfCommands, Signals as OfSignals, Elements as OfElements, Sets as OfSets, Waits as OfWaits}
use Rattle.vk_order.specs.Lines.{has_transfer, has_host, element_class, line_on, line_of, place}
use Rattle.vk_order.specs.Prefixes.{from_transfer}
use Rattle.vk_order.specs.Inner.Clocks.{Clock, IsClock}
use Rattle.vk_order.specs.Inner.Leads.{is_of_host, is_of_barriers}
use Rattle.vk_order.specs.Inner.Rows.{makes_all_available, makes_queue_available, makes_all_visible_on_host, makes_available, shows, Knowledge, Available, Visible, OnHost, IsAvailable, IsKnown, Knows, KnowsOne, IsRow, IsKnownRow, IsRowJoin, makes_line_available}
use Rattle.vk_order.proofs.LinePrefixes.{linked, node, of_linked, to_linked, host_line, command_line, signal_line, element_line, wait_line, no_set_line, host_edge}
use Rattle.vk_order.proofs.Arrange.{scopes}
use Rattle.vk_order.proofs.ByEdges.{old_before, by_last, by_edge}
use Rattle.vk_order.proofs.ClockLemmas.{place-older, place-less}
use Rattle.std.proofs.Math.Bool.{and-true, and-false, or-false}

-- ---- what the commands of a queue lead to

-- whether the earlier commands of queue q lead to a node
abbrev pub takes : ℕ → Node → Bool
takes q n = not (is_host n.act) && q == n.point.queue && not (is_command n.act) && from_transfer n.act

pub command_takes : (ns : List Node) (i : ℕ) (p : Point) (x : Cmd) (n : Node) → linked ns (node i p (Runs x)) n ≡ takes p.queue n
command_takes ns i p x n = simp (scopes, and-true, and-false, or-false)

makes_available_takes : (q : ℕ) (i : ℕ) (p : Point) (a : Act) → (makes_all_available a && takes q (node i p a)) ≡ (makes_queue_available a && q == p.queue)
makes_available_takes q i p (Hosts x) = refl
makes_available_takes q i p (Waits s) = refl
makes_available_takes q i p (Runs c) = refl
makes_available_takes q i p (Signals s) = go (q == p.queue) (from_transfer (Signals s))
  where
    go : (a b : Bool) → (a && true && b) ≡ (b && a)
    go a b = grind arith
makes_available_takes q i p (Depends r e) = go (makes_all_available (Depends r e)) (q == p.queue) (from_transfer (Depends r e))
  where
    go : (s a b : Bool) → (s && (a && true && b)) ≡ (s && b && a)
    go s a b = grind arith

-- ---- lines

-- a submit is an entry of the host
-- only the host's line has host entries
pub host_on : (q : ℕ) (a : Act) (l : Line) → line_on q a ≡ Some l → is_host a ≡ is_of_host l
host_on q (Hosts x) l e = let is : l ≡ OfHost = cc in sym (ap is_of_host is)
host_on q (Waits s) l e = let is : OfWaits q (has_transfer s.stages.0) (has_host s.stages.0) (has_bits s.stages.0 all_commands) ≡ l = cc in ap is_of_host is
host_on q (Signals s) l e = let is : OfSignals q ≡ l = cc in ap is_of_host is
host_on q (Runs c) l e = let is : OfCommands q ≡ l = cc in ap is_of_host is
host_on q (Depends Barrier x) l e = let is : element_class q (dependency_of x).destination_stages.0 ≡ l = cc in ap is_of_host is
host_on q (Depends (SetOf v k) x) l e = absurd cc
host_on q (Depends (AwaitOf v k) x) l e = let is : element_class q (dependency_of x).destination_stages.0 ≡ l = cc in ap is_of_host is

-- and only the lines of elements have elements
pub element_on : (q : ℕ) (a : Act) (l : Line) → line_on q a ≡ Some l → is_element a ≡ is_of_barriers l
element_on q (Hosts x) l e = let is : OfHost ≡ l = cc in ap is_of_barriers is
element_on q (Waits s) l e = let is : OfWaits q (has_transfer s.stages.0) (has_host s.stages.0) (has_bits s.stages.0 all_commands) ≡ l = cc in ap is_of_barriers is
element_on q (Signals s) l e = let is : OfSignals q ≡ l = cc in ap is_of_barriers is
element_on q (Runs c) l e = let is : OfCommands q ≡ l = cc in ap is_of_barriers is
element_on q (Depends Barrier x) l e = let is : element_class q (dependency_of x).destination_stages.0 ≡ l = cc in ap is_of_barriers is
element_on q (Depends (SetOf v k) x) l e = absurd cc
element_on q (Depends (AwaitOf v k) x) l e = let is : element_class q (dependency_of x).destination_stages.0 ≡ l = cc in ap is_of_barriers is

-- an element's writes are made available by no other node
pub unmade : (ns : List Node) (c p : Node) (a : Act) → is_element a ≡ true → IsTrue (makes_available ns c a p) → ⊥
unmade ns c p (Depends r e) is h = no h
unmade ns c p (Hosts x) is h = no is
unmade ns c p (Waits s) is h = no is
unmade ns c p (Signals s) is h = no is
unmade ns c p (Runs x) is h = no is

module _ (ns : List Node) (n : Node) (numbers : IsNumbered (n ∷ ns)) where
  new : n.number ≡ length ns
  new = numbers.0

  low : (k : Node) → Contains ns k → k.number < length ns
  low k c = number_below ns numbers.1 k c

  takes_is : (q : ℕ) (c : Node) → Contains ns c → line_of c ≡ Some (OfCommands q) → linked (n ∷ ns) c n ≡ takes q n
  takes_is q c hc on =
      let of = command_line c.point.queue q c.act on in
      ap (λ (a : Act). linked (n ∷ ns) (node c.number c.point a) n) of.1 ∙ command_takes (n ∷ ns) c.number c.point of.0 n ∙ ap (λ (r : ℕ). takes r n) of.2

  takes_edge : (q : ℕ) (c : Node) → Contains ns c → line_of c ≡ Some (OfCommands q) → IsTrue (takes q n) → IsTrue (edge (n ∷ ns) c n)
  takes_edge q c hc on is = of_linked (n ∷ ns) c n (let lt = low c hc in let at = new in omega arith) (takes_is q c hc on ∙ is)

  edge_takes : (q : ℕ) (c : Node) → Contains ns c → line_of c ≡ Some (OfCommands q) → IsTrue (edge (n ∷ ns) c n) → IsTrue (takes q n)
  edge_takes q c hc on is = sym (takes_is q c hc on) ∙ to_linked (n ∷ ns) c n is

  pub old_edge : (m k : Node) → Contains ns k → edge (n ∷ ns) m k ≡ edge ns m k
  old_edge m k c = edge-older n ns new m k (low k c)

  pub at_old : (l : Line) (c : Node) → Contains ns c → place (n ∷ ns) l c.number ≡ place ns l c.number
  at_old l c hc = place-older n ns new l c.number (let lt = low c hc in omega arith)

  pub at_new : (l : Line) → place (n ∷ ns) l n.number ≡ place ns l (length ns)
  at_new l = place-older n ns new l n.number (let at = new in omega arith) ∙ ap (place ns l) new

  pub older_of : (p k : Node) → Contains (n ∷ ns) p → Contains (n ∷ ns) k → IsTrue (before (n ∷ ns) p k) → Contains ns p
  older_of p k cp ck h = ⊎_elim
      (λ e. absurd (let lt = forward (n ∷ ns) p k (path_of_before (n ∷ ns) numbers p k cp ck h) in let less = number_below (n ∷ ns) numbers k ck in let same : n.number ≡ p.number = ap (λ (x : Node). x.number) e in let at = new in omega arith))
      (λ there. there) (contains-cons n ns p cp)

  -- ---- what a node more changes

  -- nothing is made available by what comes earlier
  made_later : (c p : Node) (a : Act) → Contains (n ∷ ns) c → Contains (n ∷ ns) p → IsTrue (makes_available (n ∷ ns) c a p) → c.number < p.number
  made_later c p (Runs x) hc hp h = edge_forward (n ∷ ns) c p (and_parts (edge (n ∷ ns) c p) (makes_all_available p.act) h).0
  made_later c p (Hosts x) hc hp h = forward (n ∷ ns) c p (path_of_before (n ∷ ns) numbers c p hc hp (and_parts (is_submit p.act) (before (n ∷ ns) c p) h).1)
  made_later c p (Depends r e) hc hp h = no h
  made_later c p (Waits s) hc hp h = no h
  made_later c p (Signals s) hc hp h = no h

  made_old : (c p : Node) (a : Act) → Contains ns p → makes_available (n ∷ ns) c a p ≡ makes_available ns c a p
  made_old c p (Runs x) hp = ap (λ (t : Bool). t && makes_all_available p.act) (old_edge c p hp)
  made_old c p (Hosts x) hp = ap (λ (t : Bool). is_submit p.act && t) (old_before n ns numbers c p hp)
  made_old c p (Depends r e) hp = refl
  made_old c p (Waits s) hp = refl
  made_old c p (Signals s) hp = refl

  -- its own writes are available nowhere yet
  pub unavailable : (k : Node) → Contains (n ∷ ns) k → IsAvailable (n ∷ ns) n k → ⊥
  unavailable k ck (p, cp, s, way) =
      let up = made_later n p n.act (contains-head n ns) cp s in
      let less = number_below (n ∷ ns) numbers p cp in
      let at = new in omega arith

  pub unheard : (k : Node) → Contains (n ∷ ns) k → IsKnown (n ∷ ns) n k → ⊥
  unheard k ck (inl s) = unavailable k ck s
  unheard k ck (inr (e, h)) =
      let up = forward (n ∷ ns) n k (path_of_before (n ∷ ns) numbers n k (contains-head n ns) ck h) in
      let less = number_below (n ∷ ns) numbers k ck in
      let at = new in omega arith

  pub unknown : (g : Knowledge) (k : Node) → Contains (n ∷ ns) k → Knows g (n ∷ ns) n k → ⊥
  unknown Available k ck s = unavailable k ck s
  unknown (Visible a) k ck s = unheard k ck s.1
  unknown (OnHost a) k ck (q, cq, r, way, s) = unheard q cq s

  pub available_old : (c k : Node) → Contains ns k → IsAvailable (n ∷ ns) c k → IsAvailable ns c k
  available_old c k hk (p, cp, s, inl same) =
      let there = subst (λ (x : Node). Contains ns x) (sym same) hk in (p, there, sym (made_old c p c.act there) ∙ s, inl same)
  available_old c k hk (p, cp, s, inr h) =
      let there = older_of p k cp (contains-tail n ns k hk) h in
      (p, there, sym (made_old c p c.act there) ∙ s, inr (sym (old_before n ns numbers p k hk) ∙ h))

  pub available_new : (c k : Node) → Contains ns k → IsAvailable ns c k → IsAvailable (n ∷ ns) c k
  available_new c k hk (p, cp, s, way) =
      (p, contains-tail n ns p cp, made_old c p c.act cp ∙ s, ⊎_elim (λ f. inl f) (λ h. inr (old_before n ns numbers p k hk ∙ h)) way)

  pub heard_old : (c k : Node) → Contains ns k → IsKnown (n ∷ ns) c k → IsKnown ns c k
  heard_old c k hk (inl s) = inl (available_old c k hk s)
  heard_old c k hk (inr (e, h)) = inr (e, sym (old_before n ns numbers c k hk) ∙ h)

  pub heard_new : (c k : Node) → Contains ns k → IsKnown ns c k → IsKnown (n ∷ ns) c k
  heard_new c k hk (inl s) = inl (available_new c k hk s)
  heard_new c k hk (inr (e, h)) = inr (e, old_before n ns numbers c k hk ∙ h)

  pub known_old : (g : Knowledge) (c k : Node) → Contains ns k → Knows g (n ∷ ns) c k → Knows g ns c k
  known_old Available c k hk s = available_old c k hk s
  known_old (Visible a) c k hk s = (s.0, heard_old c k hk s.1)
  known_old (OnHost a) c k hk (q, cq, r, inl same, s) =
      let there = subst (λ (x : Node). Contains ns x) (sym same) hk in (q, there, r, inl same, heard_old c q there s)
  known_old (OnHost a) c k hk (q, cq, r, inr h, s) =
      let there = older_of q k cq (contains-tail n ns k hk) h in
      (q, there, r, inr (sym (old_before n ns numbers q k hk) ∙ h), heard_old c q there s)

  pub known_new : (g : Knowledge) (c k : Node) → Contains ns k → Knows g ns c k → Knows g (n ∷ ns) c k
  known_new Available c k hk s = available_new c k hk s
  known_new (Visible a) c k hk s = (s.0, heard_new c k hk s.1)
  known_new (OnHost a) c k hk (q, cq, r, way, s) =
      (q, contains-tail n ns q cq, r, ⊎_elim (λ f. inl f) (λ h. inr (old_before n ns numbers q k hk ∙ h)) way, heard_new c q cq s)

  -- ---- a row of the newest node

  -- of what counts the older nodes
  row_from : (g : Knowledge) (row : Clock) → ((l : Line) (c : Node) → Contains ns c → line_of c ≡ Some l → Knows g (n ∷ ns) c n ↔ (place ns l c.number < row l))
      → ((l : Line) → row l ≤ place ns l (length ns)) → IsRow g (n ∷ ns) n row
  row_from g row each fits = record {
    counts = λ l c cc' on. ⊎_elim
        (λ e. subst (λ (x : Node). Knows g (n ∷ ns) x n ↔ (place (n ∷ ns) l x.number < row l)) e
        ((λ h. absurd (unknown g n (contains-head n ns) h)), (λ lt. absurd (let le = fits l in let at = at_new l in omega arith))))
        (λ there. let at = at_old l c there in
        ((λ h. rw at ((each l c there on).0 h)), (λ lt. (each l c there on).1 (rw at at lt))))
        (contains-cons n ns c cc');
    bounded = λ l. let le = fits l in let at = at_new l in omega arith;
  }

  -- what is available there
  module _ (row own : Clock) (j : IsRowJoin Available ns (λ k. edge ns k n) row) (is : (l : Line) → own l ≡ (if makes_line_available n.point.queue n.act l then place ns l (length ns) else row l)) where
    abbrev availability : Line → Bool
    availability l = makes_line_available n.point.queue n.act l

    -- no less than before, and no more than there is
    kept : (l : Line) → row l ≤ own l
    kept l = go (availability l) (is l) (j.bounded l)
      where
        go : (t : Bool) → own l ≡ (if t then place ns l (length ns) else row l) → row l ≤ place ns l (length ns) → row l ≤ own l
        go true e le = omega arith
        go false e le = omega arith

    fits : (l : Line) → own l ≤ place ns l (length ns)
    fits l = go (availability l) (is l) (j.bounded l)
      where
        go : (t : Bool) → own l ≡ (if t then place ns l (length ns) else row l) → row l ≤ place ns l (length ns) → own l ≤ place ns l (length ns)
        go true e le = omega arith
        go false e le = omega arith

    -- made available by the new node
    available_here : (l : Line) (c : Node) → Contains ns c → line_of c ≡ Some l → IsTrue (makes_available (n ∷ ns) c c.act n) → IsTrue (makes_line_available n.point.queue n.act l)
    available_here OfHost c hc on h =
        let of = host_line c.point.queue c.act on in
        (and_parts (is_submit n.act) (before (n ∷ ns) c n) (subst (λ (a : Act). IsTrue (makes_available (n ∷ ns) c a n)) of.1 h)).0
    available_here (OfCommands q) c hc on h =
        let of = command_line c.point.queue q c.act on in
        let parts = and_parts (edge (n ∷ ns) c n) (makes_all_available n.act) (subst (λ (a : Act). IsTrue (makes_available (n ∷ ns) c a n)) of.1 h) in
        sym (makes_available_takes q n.number n.point n.act) ∙ and_from (makes_all_available n.act) (takes q n) parts.1 (edge_takes q c hc on parts.0)
    available_here (OfElements q t u) c hc on h = let of = element_line c.point.queue q t u c.act on in no (subst (λ (a : Act). IsTrue (makes_available (n ∷ ns) c a n)) of.2 h)
    available_here (OfSignals q) c hc on h = let of = signal_line c.point.queue q c.act on in no (subst (λ (a : Act). IsTrue (makes_available (n ∷ ns) c a n)) of.1 h)
    available_here (OfSets q) c hc on h = absurd (no_set_line c.point.queue q c.act on)
    available_here (OfWaits q t u a) c hc on h = let of = wait_line c.point.queue q t u a c.act on in no (subst (λ (x : Act). IsTrue (makes_available (n ∷ ns) c x n)) of.1 h)

    made_here : (l : Line) (c : Node) → Contains ns c → line_of c ≡ Some l → IsTrue (makes_line_available n.point.queue n.act l) → IsTrue (makes_available (n ∷ ns) c c.act n)
    made_here OfHost c hc on submit =
        let of = host_line c.point.queue c.act on in
        let up : c.number < n.number = (let less = low c hc in let at = new in omega arith) in
        let h : IsTrue (before (n ∷ ns) c n) = before_of_path (n ∷ ns) numbers c n (contains-tail n ns c hc) (contains-head n ns)
        (direct (contains-tail n ns c hc) (contains-head n ns) (host_edge (n ∷ ns) c n up (ap is_host of.1) (submit_host n.act submit))) in
        subst (λ (a : Act). IsTrue (makes_available (n ∷ ns) c a n)) (sym of.1) (and_from (is_submit n.act) (before (n ∷ ns) c n) submit h)
    made_here (OfCommands q) c hc on available =
        let of = command_line c.point.queue q c.act on in
        let parts = and_parts (makes_all_available n.act) (takes q n) (makes_available_takes q n.number n.point n.act ∙ available) in
        subst (λ (a : Act). IsTrue (makes_available (n ∷ ns) c a n)) (sym of.1) (and_from (edge (n ∷ ns) c n) (makes_all_available n.act) (takes_edge q c hc on parts.1) parts.0)
    made_here (OfElements q t u) c hc on h = no h
    made_here (OfSignals q) c hc on h = no h
    made_here (OfSets q) c hc on h = no h
    made_here (OfWaits q t u a) c hc on h = no h

    forth : (l : Line) (c : Node) → Contains ns c → line_of c ≡ Some l → IsAvailable (n ∷ ns) c n → place ns l c.number < own l
    forth l c hc on (p, cp, s, inl same) =
        let available = available_here l c hc on (subst (λ (x : Node). IsTrue (makes_available (n ∷ ns) c c.act x)) same s) in
        let all : own l ≡ place ns l (length ns) = is l ∙ rw available refl in
        let less = place-less ns numbers.1 l c (length ns) hc on (low c hc) in omega arith
    forth l c hc on (p, cp, s, inr h) =
        let there = older_of p n cp (contains-head n ns) h in
        let last = by_last n ns numbers p there h in
        let less = (j.counts l c hc on).0 (last.0, last.1, last.2, (p, there, sym (made_old c p c.act there) ∙ s, last.3)) in
        let le = kept l in omega arith

    from_row : (l : Line) (c : Node) → Contains ns c → line_of c ≡ Some l → place ns l c.number < row l → IsAvailable (n ∷ ns) c n
    from_row l c hc on lt = go ((j.counts l c hc on).1 lt)
      where
        go : KnowsOne Available ns (λ k. edge ns k n) c → IsAvailable (n ∷ ns) c n
        go (k, ck, t, (p, cp, s, way)) = (p, contains-tail n ns p cp, made_old c p c.act cp ∙ s, inr (by_edge n ns numbers p cp (k, ck, t, way)))

    back : (l : Line) (c : Node) → Contains ns c → line_of c ≡ Some l → (t : Bool) → makes_line_available n.point.queue n.act l ≡ t → place ns l c.number < own l → IsAvailable (n ∷ ns) c n
    back l c hc on true e lt = (n, contains-head n ns, made_here l c hc on e, inl refl)
    back l c hc on false e lt = from_row l c hc on (let same : own l ≡ row l = is l ∙ rw e refl in omega arith)

    pub available_row : IsRow Available (n ∷ ns) n own
    available_row = row_from Available own (λ l c hc on. ((λ h. forth l c hc on h), (λ lt. back l c hc on (makes_line_available n.point.queue n.act l) refl lt))) fits

  -- and known there
  pub known_row : (clock available : Clock) → IsClock (n ∷ ns) n clock → IsRow Available (n ∷ ns) n available → IsKnownRow (n ∷ ns) n (λ l. if is_of_barriers l then clock l else available l)
  known_row clock available is_clock is = record {
    counts = λ l c hc on. go l c hc on (is_of_barriers l) refl;
    bounded = λ l. at l (is_of_barriers l);
  }
    where
      at : (l : Line) (t : Bool) → (if t then clock l else available l) ≤ place (n ∷ ns) l n.number
      at l true = is_clock.bounded l
      at l false = is.bounded l

      go : (l : Line) (c : Node) → Contains (n ∷ ns) c → line_of c ≡ Some l → (t : Bool) → is_of_barriers l ≡ t → IsKnown (n ∷ ns) c n ↔ (place (n ∷ ns) l c.number < (if t then clock l else available l))
      go l c hc on true e =
          let element : is_element c.act ≡ true = element_on c.point.queue c.act l on ∙ e in (
            (λ h. ⊎_elim (λ s. absurd (unmade (n ∷ ns) c s.0 c.act element s.2)) (λ b. (is_clock.counts l c hc on).0 b.1) h),
            (λ lt. inr (element, (is_clock.counts l c hc on).1 lt)),
          )
      go l c hc on false e =
          let plain : is_element c.act ≡ false = element_on c.point.queue c.act l on ∙ e in (
            (λ h. ⊎_elim (λ s. (is.counts l c hc on).0 s) (λ b. no (sym plain ∙ b.0)) h),
            (λ lt. inl ((is.counts l c hc on).1 lt)),
          )

  -- and visible there
  module _ (available : Clock) (is : IsKnownRow (n ∷ ns) n available) where
    pub visible_row : (k : Access) (own : Clock) → ((l : Line) → own l ≡ (if shows k (is_of_host l) n.act then available l else 0)) → IsRow (Visible k) (n ∷ ns) n own
    visible_row k own same = record {
      counts = λ l c cc' on.
          let host : shows k (is_host c.act) n.act ≡ shows k (is_of_host l) n.act = ap (λ (t : Bool). shows k t n.act) (host_on c.point.queue c.act l on) in (
            (λ h. let e : own l ≡ available l = same l ∙ rw (sym host ∙ h.0) refl in let lt = (is.counts l c cc' on).0 h.1 in omega arith),
            (λ lt. let r = go l c cc' on (shows k (is_of_host l) n.act) refl (same l) lt in (host ∙ r.0, r.1)),
          );
      bounded = λ l. at (shows k (is_of_host l) n.act) l (same l) (is.bounded l);
    }
      where
        go : (l : Line) (c : Node) → Contains (n ∷ ns) c → line_of c ≡ Some l → (t : Bool) → shows k (is_of_host l) n.act ≡ t → own l ≡ (if t then available l else 0) → place (n ∷ ns) l c.number < own l
            → IsTrue (shows k (is_of_host l) n.act) × IsKnown (n ∷ ns) c n
        go l c cc' on true e f lt = (e, (is.counts l c cc' on).1 (omega arith))
        go l c cc' on false e f lt = absurd (omega arith)

        at : (t : Bool) (l : Line) → own l ≡ (if t then available l else 0) → available l ≤ place (n ∷ ns) l n.number → own l ≤ place (n ∷ ns) l n.number
        at true l e le = omega arith
        at false l e le = omega arith

    -- and on the host
    module _ (k : Access) (row own : Clock) (j : IsRowJoin (OnHost k) ns (λ m. edge ns m n) row)
        (same : (l : Line) → own l ≡ (if makes_all_visible_on_host k n.act then max (row l) (available l) else row l)) where
      bound : (l : Line) (t : Bool) → own l ≡ (if t then max (row l) (available l) else row l) → own l ≤ place ns l (length ns)
      bound l true e = let a = j.bounded l in let b = is.bounded l in let c = at_new l in omega arith
      bound l false e = let a = j.bounded l in omega arith

      into : (l : Line) (c : Node) → Contains ns c → line_of c ≡ Some l → Knows (OnHost k) (n ∷ ns) c n → place ns l c.number < own l
      into l c hc on (x, cx, r, inl e, s) =
          let r_n : makes_all_visible_on_host k n.act ≡ true = ap (λ (y : Node). makes_all_visible_on_host k y.act) (sym e) ∙ r in
          let at : own l ≡ max (row l) (available l) = same l ∙ rw r_n refl in
          let lt = (is.counts l c (contains-tail n ns c hc) on).0 (subst (λ (y : Node). IsKnown (n ∷ ns) c y) e s) in
          let old = at_old l c hc in omega arith
      into l c hc on (x, cx, r, inr h, s) =
          let there = older_of x n cx (contains-head n ns) h in
          let last = by_last n ns numbers x there h in
          let less = (j.counts l c hc on).0 (last.0, last.1, last.2, (x, there, r, last.3, heard_old c x there s)) in
          go (makes_all_visible_on_host k n.act) (same l) less
        where
          go : (t : Bool) → own l ≡ (if t then max (row l) (available l) else row l) → place ns l c.number < row l → place ns l c.number < own l
          go true e lt = omega arith
          go false e lt = omega arith

      from_kept : (l : Line) (c : Node) → Contains ns c → line_of c ≡ Some l → place ns l c.number < row l → Knows (OnHost k) (n ∷ ns) c n
      from_kept l c hc on lt = go ((j.counts l c hc on).1 lt)
        where
          go : KnowsOne (OnHost k) ns (λ m. edge ns m n) c → Knows (OnHost k) (n ∷ ns) c n
          go (m, hm, t, (x, hx, r, way, s)) = (x, contains-tail n ns x hx, r, inr (by_edge n ns numbers x hx (m, hm, t, way)), heard_new c x hx s)

      out : (l : Line) (c : Node) → Contains ns c → line_of c ≡ Some l → (t u : Bool) → makes_all_visible_on_host k n.act ≡ t → nat_lt (place ns l c.number) (row l) ≡ u → place ns l c.number < own l → Knows (OnHost k) (n ∷ ns) c n
      out l c hc on t true e f lt = from_kept l c hc on (ltb-true _ _ f)
      out l c hc on true false e f lt =
          let at : own l ≡ max (row l) (available l) = same l ∙ rw e refl in
          let ge = ltb-false _ _ f in
          let old = at_old l c hc in
          (n, contains-head n ns, e, inl refl, (is.counts l c (contains-tail n ns c hc) on).1 (omega arith))
      out l c hc on false false e f lt =
          let at : own l ≡ row l = same l ∙ rw e refl in
          let ge = ltb-false _ _ f in absurd (omega arith)

      pub host_row : IsRow (OnHost k) (n ∷ ns) n own
      host_row = row_from (OnHost k) own (λ l c hc on. ((λ h. into l c hc on h), (λ lt. out l c hc on (makes_all_visible_on_host k n.act) (nat_lt (place ns l c.number) (row l)) refl refl lt)))
          (λ l. bound l (makes_all_visible_on_host k n.act) (same l))
