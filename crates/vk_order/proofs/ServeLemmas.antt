-- What a node that comes next sees, where dependencies may be on parts of memory.
use Rattle.std.proofs.Common.{◌≡◌, ◌⊎◌, inl, inr, ⊎_elim, ℕ, ◌<◌, ◌≤◌, List, ◌∷◌, Bool, true, false, not, ◌&&◌, ◌||◌, IsTrue, Some, refl, ap, sym, ◌∙◌, subst, arith}
use Rattle.std.specs.Prelude.{◌==◌, nat_lt, Contains, ◌↔◌, if◌then◌else◌}
use Rattle.std.proofs.lemmas.Bool.{lt-ltb, ltb-true, and_parts, and_from, or_left, or_right, or_cases, cases_lt, eqb-true, eq-eqb}
use Rattle.vk_model.specs.declared.command.Cmd.{Cmd}
use Rattle.vk_model.specs.declared.command.Element.{Element}
use Rattle.vk_model.specs.declared.command.Element.TheVariants as element
use Rattle.vk_model.specs.declared.entry.Entry.{Entry}
use Rattle.vk_model.specs.Basics.{has_some}
use Rattle.vk_model.specs.World.Bytes.{Byte, in_buffer, in_image, resource_at}
use Rattle.vk_model.specs.World.Ownership.{dependency_of, is_release, named_by}
use Rattle.vk_model.specs.Sync.Node.{Node, Act, Role, Hosts, Waits, Signals, Runs, Depends, Barrier}
use Rattle.vk_model.specs.Sync.Edge.{edge, is_host, is_command, is_element, is_submit}
use Rattle.vk_model.specs.Sync.Before.{before, IsNumbered}
use Rattle.vk_model.specs.Sync.Seen.{Access, seen, makes_writes_available, makes_writes_visible, covers, command_mask, host_mask, to_host}
use Rattle.vk_model.proofs.Lists.Truths.{no}
use Rattle.vk_model.proofs.Sync.Numbers.{unique}
use Rattle.vk_model.proofs.Sync.Paths.{edge_forward, leads_on}
use Rattle.vk_order.specs.declared.lines.Line.{Line}
use Rattle.vk_order.specs.declared.new_node.NewNode.{NewNode}
use Rattle.vk_order.specs.declared.parts.Part.{Part}
use Rattle.vk_order.specs.Lines.{line_of, class_of, same_line, place}
use Rattle.vk_order.specs.Limited.{is_limited, IsMark, Reaches, IsWrite, part_of}
use Rattle.vk_order.specs.Wide.{is_answered}
use Rattle.vk_order.specs.Inner.Kept.{clock_at}
use Rattle.vk_order.specs.Inner.Leads.{ends_in_transfer}
use Rattle.vk_order.specs.Inner.Rows.{makes_all_available, makes_available, Visible, OnHost, KnowsOne}
use Rattle.vk_order.specs.Inner.Fronts.{row_in}
use Rattle.vk_order.specs.Inner.Parts.{IsPart, asked_of, opens, Serves}
use Rattle.vk_order.specs.Frontiers.{IsNewNode}
use Rattle.vk_order.proofs.LinePrefixes.{node}
use Rattle.vk_order.proofs.ClockLemmas.{line_same, line_itself, place-less}
use Rattle.vk_order.proofs.KeptLemmas.{line_class}
use Rattle.vk_order.proofs.LineTests.{edge_split}
use Rattle.vk_order.proofs.PlaceLemmas.{apart_from}
use Rattle.vk_order.proofs.NewNodeLemmas.{asked_of_host}
use Rattle.vk_order.specs.Inner.Tallies.{lines_of}
use Rattle.vk_order.proofs.LimitedLemmas.{seen_by_command, seen_by_host}
use Rattle.vk_model.proofs.Lists.Items.{some_same}
use Rattle.std.proofs.Math.Bool.{or-false}

-- ---- the law, for commands and the host at once

pub seen_served : (ns : List Node) (n w : Node) (cached : Byte → Bool) (k : Access) (b : Byte) → IsNumbered (n ∷ ns) → IsWrite cached ns w b → IsTrue (is_answered cached n.act k b)
    → IsTrue (seen cached (n ∷ ns) w n k b) ↔ ((m : Node) × IsMark cached ns b w m × Serves cached ns n k b m)
seen_served ns n w cached k b numbers is_write asked = go n.act refl asked
  where
    Served : Act → Type 0
    Served a = (m : Node) × IsMark cached ns b w m × (KnowsOne (asked_of a k) ns (λ q. edge ns q n) m ⊎ ((q : Node) × Contains ns q × IsTrue (is_limited q.act) × IsTrue (opens cached ns n a k b q) × Reaches ns m q))

    to_act : (a : Act) → n.act ≡ a → (IsTrue (seen cached (n ∷ ns) w n k b) ↔ Served a) → IsTrue (seen cached (n ∷ ns) w n k b) ↔ Served n.act
    to_act a is both = subst (λ (x : Act). IsTrue (seen cached (n ∷ ns) w n k b) ↔ Served x) (sym is) both

    go : (a : Act) → n.act ≡ a → IsTrue (is_answered cached a k b) → IsTrue (seen cached (n ∷ ns) w n k b) ↔ Served n.act
    go (Runs x) is asked =
        let law = seen_by_command ns n numbers cached w k b is_write x is in
        to_act (Runs x) is (
          (λ h. forth (law.0 h)),
          (λ s. law.1 (back s)),
        )
      where
        forth : ((m : Node) × IsMark cached ns b w m × (KnowsOne (Visible k) ns (λ q. edge ns q n) m
            ⊎ ((q : Node) × Contains ns q × IsTrue (is_limited q.act) × IsTrue (makes_writes_visible cached ns (command_mask k) b q q.act) × IsTrue (edge ns q n) × Reaches ns m q))) → Served (Runs x)
        forth (m, mark, inl h) = (m, mark, inl h)
        forth (m, mark, inr (q, hq, lim, v, e, r)) = (m, mark, inr (q, hq, lim, and_from (edge ns q n) (makes_writes_visible cached ns (command_mask k) b q q.act) e v, r))

        back : Served (Runs x) → ((m : Node) × IsMark cached ns b w m × (KnowsOne (Visible k) ns (λ q. edge ns q n) m
            ⊎ ((q : Node) × Contains ns q × IsTrue (is_limited q.act) × IsTrue (makes_writes_visible cached ns (command_mask k) b q q.act) × IsTrue (edge ns q n) × Reaches ns m q)))
        back (m, mark, inl h) = (m, mark, inl h)
        back (m, mark, inr (q, hq, lim, o, r)) = let both = and_parts (edge ns q n) (makes_writes_visible cached ns (command_mask k) b q q.act) o in (m, mark, inr (q, hq, lim, both.1, both.0, r))
    go (Hosts x) is asked =
        let law = seen_by_host ns n numbers cached w k b is_write x is (asked_of_host cached (n ∷ ns) x k b asked) in
        to_act (Hosts x) is (
          (λ h. forth (law.0 h)),
          (λ s. law.1 (back s)),
        )
      where
        forth : ((m : Node) × IsMark cached ns b w m × (KnowsOne (OnHost k) ns (λ q. edge ns q n) m
            ⊎ ((q : Node) × Contains ns q × IsTrue (is_limited q.act) × IsTrue (to_host q.act && makes_writes_visible cached ns (host_mask k) b q q.act) × IsTrue (before (n ∷ ns) q n) × Reaches ns m q))) → Served (Hosts x)
        forth (m, mark, inl h) = (m, mark, inl h)
        forth (m, mark, inr (q, hq, lim, v, e, r)) = (m, mark, inr (q, hq, lim, and_from (before (n ∷ ns) q n) (to_host q.act && makes_writes_visible cached ns (host_mask k) b q q.act) e v, r))

        back : Served (Hosts x) → ((m : Node) × IsMark cached ns b w m × (KnowsOne (OnHost k) ns (λ q. edge ns q n) m
            ⊎ ((q : Node) × Contains ns q × IsTrue (is_limited q.act) × IsTrue (to_host q.act && makes_writes_visible cached ns (host_mask k) b q q.act) × IsTrue (before (n ∷ ns) q n) × Reaches ns m q)))
        back (m, mark, inl h) = (m, mark, inl h)
        back (m, mark, inr (q, hq, lim, o, r)) = let both = and_parts (before (n ∷ ns) q n) (to_host q.act && makes_writes_visible cached ns (host_mask k) b q q.act) o in (m, mark, inr (q, hq, lim, both.1, both.0, r))
    go (Waits s) is asked = no asked
    go (Signals s) is asked = no asked
    go (Depends r e) is asked = no asked

-- ---- rows

-- whether an access is one by a command or the host
abbrev pub by_any : Act → Bool
by_any a = is_command a || is_host a

pub made_visible : (s : NewNode) (ns : List Node) (n m : Node) (l : Line) (k : Access) → IsNewNode ns n s → Contains ns m → line_of m ≡ Some l → by_any n.act ≡ true
    → IsTrue (nat_lt (place ns l m.number) (clock_at (lines_of s.tallies.now) (row_in (if s.is_host then OnHost k else Visible k) s.front) l)) ↔ KnowsOne (asked_of n.act k) ns (λ q. edge ns q n) m
made_visible s ns n m l k new_node hm on any = go n.act refl any
  where
    go : (a : Act) → n.act ≡ a → by_any a ≡ true → IsTrue (nat_lt (place ns l m.number) (clock_at (lines_of s.tallies.now) (row_in (if s.is_host then OnHost k else Visible k) s.front) l)) ↔ KnowsOne (asked_of n.act k) ns (λ q. edge ns q n) m
    go (Runs x) is any =
        let host : s.is_host ≡ false = new_node.is_host ∙ ap is_host is in
        let j = (new_node.front.rows (Visible k)).join.counts l m hm on in
        subst (λ (a : Act). IsTrue (nat_lt (place ns l m.number) (clock_at (lines_of s.tallies.now) (row_in (if s.is_host then OnHost k else Visible k) s.front) l)) ↔ KnowsOne (asked_of a k) ns (λ q. edge ns q n) m) (sym is)
        (subst (λ (t : Bool). IsTrue (nat_lt (place ns l m.number) (clock_at (lines_of s.tallies.now) (row_in (if t then OnHost k else Visible k) s.front) l)) ↔ KnowsOne (Visible k) ns (λ q. edge ns q n) m) (sym host)
        ((λ h. j.1 (ltb-true _ _ h)), (λ h. lt-ltb _ _ (j.0 h))))
    go (Hosts x) is any =
        let host : s.is_host ≡ true = new_node.is_host ∙ ap is_host is in
        let j = (new_node.front.rows (OnHost k)).join.counts l m hm on in
        subst (λ (a : Act). IsTrue (nat_lt (place ns l m.number) (clock_at (lines_of s.tallies.now) (row_in (if s.is_host then OnHost k else Visible k) s.front) l)) ↔ KnowsOne (asked_of a k) ns (λ q. edge ns q n) m) (sym is)
        (subst (λ (t : Bool). IsTrue (nat_lt (place ns l m.number) (clock_at (lines_of s.tallies.now) (row_in (if t then OnHost k else Visible k) s.front) l)) ↔ KnowsOne (OnHost k) ns (λ q. edge ns q n) m) (sym host)
        ((λ h. j.1 (ltb-true _ _ h)), (λ h. lt-ltb _ _ (j.0 h))))
    go (Waits x) is any = no any
    go (Signals x) is any = no any
    go (Depends r e) is any = no any

-- ---- parts that make visible

element_covers : (r : Role) (e : Element) (b : Byte) → is_limited (Depends r e) ≡ true → IsTrue (covers e b) → named_by e ≡ Some (resource_at b)
element_covers r (element.Memory d) b lim h = no lim
element_covers r (element.Buffer e) (in_buffer c i) lim h = ap Some (eqb-true e.buffer c (and_parts (e.buffer == c) (Rattle.vk_model.specs.Sync.Seen.has_byte e.offset e.size i) h).0)
element_covers r (element.Buffer e) (in_image j l y u v p) lim h = no h
element_covers r (element.Image e) (in_buffer c i) lim h = no h
element_covers r (element.Image e) (in_image j a l u v p) lim h =
    ap Some (eqb-true e.image j (and_parts (e.image == j) (Rattle.vk_model.specs.Basics.within e.range.first_level e.range.levels a)
    (and_parts (e.image == j && Rattle.vk_model.specs.Basics.within e.range.first_level e.range.levels a) (Rattle.vk_model.specs.Basics.within e.range.first_layer e.range.layers l) h).0).0)

-- a part that serves a byte is of the byte's resource
pub visible_covers : (cached : Byte → Bool) (ns : List Node) (mask : ℕ) (b : Byte) (q : Node) (a : Act) → is_limited a ≡ true → IsTrue (makes_writes_visible cached ns mask b q a) → part_of a ≡ Some (resource_at b)
visible_covers cached ns mask b q (Depends r e) lim h =
    element_covers r e b lim (and_parts (not (Rattle.vk_model.specs.Sync.Seen.is_set r) && not (is_release q.point.queue e) && has_some (dependency_of e).destination_accesses.0 mask) (covers e b) h).1
visible_covers cached ns mask b q (Hosts x) lim h = no lim
visible_covers cached ns mask b q (Waits x) lim h = no lim
visible_covers cached ns mask b q (Signals x) lim h = no lim
visible_covers cached ns mask b q (Runs x) lim h = no lim

pub available_covers : (cached : Byte → Bool) (ns : List Node) (b : Byte) (q : Node) (a : Act) → is_limited a ≡ true → IsTrue (makes_writes_available cached ns q b a) → part_of a ≡ Some (resource_at b)
available_covers cached ns b q (Depends r e) lim h =
    element_covers r e b lim (and_parts (not (Rattle.vk_model.specs.Sync.Seen.is_await r) && not (Rattle.vk_model.specs.World.Ownership.is_acquire q.point.queue e) && has_some (dependency_of e).source_accesses.0 (command_mask Rattle.vk_model.specs.Sync.Seen.Write)) (covers e b) h).1
available_covers cached ns b q (Hosts x) lim h = no lim
available_covers cached ns b q (Waits x) lim h = no lim
available_covers cached ns b q (Signals x) lim h = no lim
available_covers cached ns b q (Runs x) lim h = no lim

pub open_covers : (cached : Byte → Bool) (ns : List Node) (n q : Node) (k : Access) (b : Byte) → is_limited q.act ≡ true → IsTrue (opens cached ns n n.act k b q) → part_of q.act ≡ Some (resource_at b)
open_covers cached ns n q k b lim h = go n.act h
  where
    go : (a : Act) → IsTrue (opens cached ns n a k b q) → part_of q.act ≡ Some (resource_at b)
    go (Runs c) o = visible_covers cached ns (command_mask k) b q q.act lim (and_parts (edge ns q n) (makes_writes_visible cached ns (command_mask k) b q q.act) o).1
    go (Hosts y) o = visible_covers cached ns (host_mask k) b q q.act lim (and_parts (to_host q.act) (makes_writes_visible cached ns (host_mask k) b q q.act) (and_parts (before (n ∷ ns) q n) (to_host q.act && makes_writes_visible cached ns (host_mask k) b q q.act) o).1).1
    go (Waits s) o = no o
    go (Signals s) o = no o
    go (Depends r e) o = no o

module _ (ns : List Node) (n : Node) (numbers : IsNumbered (n ∷ ns)) (ls : List Line) (q : Node) (x : Part) (part : IsPart ns ls q x) where
  visible_part : (cached : Byte → Bool) (mask : ℕ) (b : Byte) → (not (is_release x.queue x.element) && has_some (dependency_of x.element).destination_accesses.0 mask && covers x.element b) ≡ makes_writes_visible cached ns mask b q q.act
  visible_part cached mask b =
      ap (λ (i : ℕ). not (is_release i x.element) && has_some (dependency_of x.element).destination_accesses.0 mask && covers x.element b) part.queue
      ∙ ap (λ (a : Act). makes_writes_visible cached ns mask b q a) (sym part.act)

  edge_part : (c : Cmd) → n.act ≡ Runs c → ends_in_transfer n.point.queue x.line ≡ edge ns q n
  edge_part c is =
      let none = ap is_element is in
      sym (edge_split n ns numbers q part.there (apart_from ns n none q part.there)
      ∙ ap (λ (a : Act). Rattle.vk_order.specs.Inner.Leads.line_leads n.point.queue a (class_of q) || Rattle.vk_order.specs.Inner.Links.by_name ns q n) is
      ∙ ap (λ (t : Bool). ends_in_transfer n.point.queue (class_of q) || t) unnamed ∙ or-false (ends_in_transfer n.point.queue (class_of q)) ∙ ap (ends_in_transfer n.point.queue) (line_class q x.line part.line))
    where
      unnamed : Rattle.vk_order.specs.Inner.Links.by_name ns q n ≡ false
      unnamed =
          ap (λ (a : Act). Rattle.vk_order.specs.Inner.Links.by_name ns (node q.number q.point a) n) part.act
          ∙ ap (λ (a : Act). Rattle.vk_model.specs.Sync.Edge.pairs (Depends Barrier x.element) a || false) is

  pub open_to_command : (cached : Byte → Bool) (k : Access) (b : Byte) (c : Cmd) → n.act ≡ Runs c
      → (ends_in_transfer n.point.queue x.line && (not (is_release x.queue x.element) && has_some (dependency_of x.element).destination_accesses.0 (command_mask k) && covers x.element b)) ≡ opens cached ns n n.act k b q
  open_to_command cached k b c is =
      ap (λ (t : Bool). t && (not (is_release x.queue x.element) && has_some (dependency_of x.element).destination_accesses.0 (command_mask k) && covers x.element b)) (edge_part c is)
      ∙ ap (λ (t : Bool). edge ns q n && t) (visible_part cached (command_mask k) b)
      ∙ ap (λ (a : Act). opens cached ns n a k b q) (sym is)

-- ---- what is known at a part

module _ (ns : List Node) (numbers : IsNumbered ns) (ls : List Line) (q : Node) (x : Part) (part : IsPart ns ls q x) (m : Node) (l : Line) (i : ℕ) (hm : Contains ns m) (on : line_of m ≡ Some l) (at : place ns l m.number ≡ i) where
  -- two nodes of a line have places of their own
  same_place : (a b : Node) → Contains ns a → Contains ns b → line_of a ≡ Some l → line_of b ≡ Some l → place ns l a.number ≡ place ns l b.number → a ≡ b
  same_place a b ha hb la lb e = ⊎_elim
      (λ lt. absurd (let less = place-less ns numbers l a b.number ha la lt in omega arith))
      (λ ge. ⊎_elim
      (λ lt. absurd (let less = place-less ns numbers l b a.number hb lb lt in omega arith))
      (λ le. unique ns numbers a b ha hb (omega arith)) (cases_lt b.number a.number))
      (cases_lt a.number b.number)

  pub part_reached : IsTrue (nat_lt i (clock_at ls x.heard.items l) || same_line x.line l && x.place == i) ↔ Reaches ns m q
  part_reached = (
    (λ h. ⊎_elim
        (λ e. inl ((part.heard.counts l m hm on).1 (let lt = ltb-true i (clock_at ls x.heard.items l) e in omega arith)))
        (λ e.
        let both = and_parts (same_line x.line l) (x.place == i) e in
        let is : x.line ≡ l = line_same x.line l both.0 in
        let here : x.place ≡ i = eqb-true x.place i both.1 in
        let there : place ns l q.number ≡ i = ap (λ (k : Line). place ns k q.number) (sym is) ∙ sym part.at ∙ here in
        let same : m ≡ q = same_place m q hm part.there on (part.line ∙ ap Some is) (at ∙ sym there) in
        inr (same, ap (λ (y : Node). is_limited y.act) same ∙ part.limited))
        (or_cases (nat_lt i (clock_at ls x.heard.items l)) (same_line x.line l && x.place == i) h)),
    back,
  )
    where
      back : Reaches ns m q → IsTrue (nat_lt i (clock_at ls x.heard.items l) || same_line x.line l && x.place == i)
      back (inl known) = or_left (nat_lt i (clock_at ls x.heard.items l)) (same_line x.line l && x.place == i) (lt-ltb i (clock_at ls x.heard.items l) (let lt = (part.heard.counts l m hm on).0 known in omega arith))
      back (inr (same, lim)) =
          let is : x.line ≡ l = some_same x.line l (sym part.line ∙ ap line_of (sym same) ∙ on) in
          let here : x.place ≡ i = part.at ∙ ap (λ (k : Line). place ns k q.number) is ∙ ap (λ (y : Node). place ns l y.number) (sym same) ∙ at in
          or_right (nat_lt i (clock_at ls x.heard.items l)) (same_line x.line l && x.place == i)
          (and_from (same_line x.line l) (x.place == i) (ap (λ (k : Line). same_line k l) is ∙ line_itself l) (eq-eqb x.place i here))

-- ---- what a new node says of a part

command_of : (a : Act) → by_any a ≡ true → is_host a ≡ false → (c : Cmd) × (a ≡ Runs c)
command_of (Runs c) any h = (c, refl)
command_of (Hosts y) any h = no (sym h)
command_of (Waits s) any h = no any
command_of (Signals s) any h = no any
command_of (Depends r e) any h = no any

host_of : (a : Act) → is_host a ≡ true → (y : Entry) × (a ≡ Hosts y)
host_of (Hosts y) h = (y, refl)
host_of (Runs c) h = no h
host_of (Waits s) h = no h
host_of (Signals s) h = no h
host_of (Depends r e) h = no h

module _ (s : NewNode) (ns : List Node) (ls : List Line) (n q : Node) (x : Part) (cached : Byte → Bool) (k : Access) (b : Byte) (new_node : IsNewNode ns n s) (part : IsPart ns ls q x) where
  pub new_command : by_any n.act ≡ true → s.is_host ≡ false → (e v : Bool) → e ≡ ends_in_transfer s.queue x.line
      → v ≡ (not (is_release x.queue x.element) && has_some (dependency_of x.element).destination_accesses.0 (command_mask k) && covers x.element b) → (e && v) ≡ opens cached ns n n.act k b q
  new_command any device e v is_e is_v =
      let of = command_of n.act any (sym new_node.is_host ∙ device) in
      ap (λ (t : Bool). t && v) (is_e ∙ ap (λ (i : ℕ). ends_in_transfer i x.line) new_node.queue) ∙ ap (λ (t : Bool). ends_in_transfer n.point.queue x.line && t) is_v
      ∙ open_to_command ns n new_node.numbers ls q x part cached k b of.0 of.1

pub answered_any : (cached : Byte → Bool) (a : Act) (k : Access) (b : Byte) → IsTrue (is_answered cached a k b) → by_any a ≡ true
answered_any cached (Runs c) k b h = refl
answered_any cached (Hosts y) k b h = refl
answered_any cached (Waits s) k b h = no h
answered_any cached (Signals s) k b h = no h
answered_any cached (Depends r e) k b h = no h

-- ---- numbers

made_up : (ns : List Node) (c p : Node) (a : Act) → IsTrue (makes_available ns c a p) → c.number < p.number
made_up ns c p (Runs x) h = edge_forward ns c p (and_parts (edge ns c p) (makes_all_available p.act) h).0
made_up ns c p (Hosts x) h = leads_on ns c p (and_parts (is_submit p.act) (before ns c p) h).1
made_up ns c p (Depends r e) h = no h
made_up ns c p (Waits s) h = no h
made_up ns c p (Signals s) h = no h

-- what a node marks is known at no older one
pub reach_later : (ns : List Node) (m q : Node) → Reaches ns m q → m.number ≤ q.number
reach_later ns m q (inl (inl (p, hp, made, way))) =
    let up = made_up ns m p m.act made in
    ⊎_elim (λ e. let same : p.number ≡ q.number = ap (λ (x : Node). x.number) e in omega arith) (λ h. let lt = leads_on ns p q h in omega arith) way
reach_later ns m q (inl (inr (e, h))) = let lt = leads_on ns m q h in omega arith
reach_later ns m q (inr (e, lim)) = let same : m.number ≡ q.number = ap (λ (x : Node). x.number) e in omega arith
