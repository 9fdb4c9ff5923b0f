-- What is kept of dependencies on parts of memory, and what it gives.
use Rattle.std.proofs.Common.{◌≡◌, ◌≢◌, ⊎_elim, ℕ, ◌<◌, ◌≤◌, List, [], ◌∷◌, ◌++◌, ◌-◌, zero, suc, take, drop, length, Bool, true, false, not, ◌&&◌, Some, None, refl, ap, sym, ◌∙◌, subst, arith}
use Rattle.std.specs.Prelude.{◌==◌, nat_lt, Contains, ◌↔◌, slice_get, if◌then◌else◌}
use Rattle.std.proofs.lemmas.Bool.{lt-ltb, ltb-true, and_parts, and_from, cases_lt, eqb-true, eq-eqb}
use Rattle.std.proofs.lemmas.List.Elements.{Contains-append_left, Contains-append_right, Contains-append_cases}
use Rattle.vk_model.specs.declared.command.Element.{Element}
use Rattle.vk_model.specs.declared.command.Element.TheVariants as element
use Rattle.vk_model.specs.Basics.{has_some}
use Rattle.vk_model.specs.World.Bytes.{Byte}
use Rattle.vk_model.specs.World.Ownership.{dependency_of, is_acquire, named_by}
use Rattle.vk_model.specs.Sync.Node.{Node, Act, Hosts, Waits, Signals, Runs, Depends, Barrier}
use Rattle.vk_model.specs.Sync.Edge.{edge, is_command, is_host, is_submit}
use Rattle.vk_model.specs.Sync.Before.{IsNumbered}
use Rattle.vk_model.specs.Sync.Seen.{makes_writes_available, covers, command_mask, Write}
use Rattle.vk_model.proofs.Lists.Members.{contains-head, contains-tail, contains-cons, none_in, only_one, place_has}
use Rattle.vk_model.proofs.Lists.Truths.{no, bool_same}
use Rattle.vk_model.proofs.Sync.Numbers.{number_below}
use Rattle.vk_model.proofs.Sync.Paths.{edge_forward}
use Rattle.vk_order.specs.declared.lines.Line.{Line}
use Rattle.vk_order.specs.declared.lines.Line.TheVariants.{Commands as OfCommands}
use Rattle.vk_order.specs.declared.parts.Part.{Part}
use Rattle.vk_order.specs.declared.parts.Parts.{Parts}
use Rattle.vk_order.specs.Lines.{has_transfer, line_of, line_on, class_on, same_line, place}
use Rattle.vk_order.specs.Limited.{is_limited, part_of}
use Rattle.vk_order.specs.Inner.Clocks.{Clock}
use Rattle.vk_order.specs.Inner.Kept.{clock_at, IsKeptJoin, IsLonger}
use Rattle.vk_order.specs.Inner.Leads.{is_of_barriers}
use Rattle.vk_order.specs.Inner.Rows.{Available, makes_queue_available, IsKnown, IsRow, IsKnownRow, IsKeptRow, IsMerged}
use Rattle.vk_order.specs.Inner.Parts.{IsPart, parts_at, AreInOrder, AreBelow, AreFrom, AreParts}
use Rattle.vk_order.proofs.LinePrefixes.{node, linked, of_linked, to_linked, command_line}
use Rattle.vk_order.proofs.ClockLemmas.{line_same, line_itself, place-grows, place-less, edges_join}
use Rattle.std.proofs.lemmas.List.{take_all, length-drop}
use Rattle.std.proofs.lemmas.Option.{slice_get_within, slice_get-get_or}
use Rattle.vk_order.proofs.OwnLemmas.{none_available}
use Rattle.vk_order.proofs.KnownRows.{takes, command_takes, available_row, known_row, at_old, at_new, unheard, heard_old, heard_new}
use Rattle.vk_model.proofs.Lists.Items.{push_cases, some_same}

-- ---- which commands lead to a part

command_act : (a : Act) → is_command a ≡ true → (x : Rattle.vk_model.specs.declared.command.Cmd.Cmd) × (a ≡ Runs x)
command_act (Runs c) h = (c, refl)
command_act (Hosts x) h = no h
command_act (Waits s) h = no h
command_act (Signals s) h = no h
command_act (Depends r e) h = no h

module _ (ns : List Node) (numbers : IsNumbered ns) (ls : List Line) (w m : Node) (x : Part) (part : IsPart ns ls m x) (l : Line) (i : ℕ) (hw : Contains ns w) (on : line_of w ≡ Some l) (at : place ns l w.number ≡ i) where
  abbrev from : Bool
  from = has_transfer (dependency_of x.element).source_stages.0

  takes_part : (q : ℕ) → takes q m ≡ (q == x.queue && from)
  takes_part q =
      ap (λ (a : Act). not (is_host a) && q == m.point.queue && not (is_command a) && Rattle.vk_order.specs.Prefixes.from_transfer a) part.act
      ∙ ap (λ (r : ℕ). q == r && true && from) (sym part.queue) ∙ three (q == x.queue) from
    where
      three : (a b : Bool) → (a && true && b) ≡ (a && b)
      three true b = refl
      three false b = refl

  forth : (same_line l (OfCommands x.queue) && nat_lt i x.earlier && from) ≡ true → (is_command w.act && edge ns w m) ≡ true
  forth h =
      let one = and_parts (same_line l (OfCommands x.queue) && nat_lt i x.earlier) from h in
      let two = and_parts (same_line l (OfCommands x.queue)) (nat_lt i x.earlier) one.0 in
      let is : l ≡ OfCommands x.queue = line_same l (OfCommands x.queue) two.0 in
      let of = command_line w.point.queue x.queue w.act (on ∙ ap Some is) in
      let less : place ns (OfCommands x.queue) w.number < place ns (OfCommands x.queue) m.number =
      (let a = ltb-true i x.earlier two.1 in let b = part.earlier in let c : place ns (OfCommands x.queue) w.number ≡ i = ap (λ (k : Line). place ns k w.number) (sym is) ∙ at in omega arith) in
      let up : w.number < m.number = ⊎_elim (λ lt. lt) (λ ge. absurd (let le = place-grows ns (OfCommands x.queue) m.number w.number ge in omega arith)) (cases_lt w.number m.number) in
      and_from (is_command w.act) (edge ns w m) (ap is_command of.1)
      (of_linked ns w m up (ap (λ (a : Act). linked ns (node w.number w.point a) m) of.1 ∙ command_takes ns w.number w.point of.0 m ∙ takes_part w.point.queue
      ∙ and_from (w.point.queue == x.queue) from (eq-eqb w.point.queue x.queue of.2) one.1))

  back : (is_command w.act && edge ns w m) ≡ true → (same_line l (OfCommands x.queue) && nat_lt i x.earlier && from) ≡ true
  back h =
      let parts = and_parts (is_command w.act) (edge ns w m) h in
      let of = command_act w.act parts.0 in
      let own : line_of w ≡ Some (OfCommands w.point.queue) = ap (λ (a : Act). Rattle.vk_order.specs.Lines.line_on w.point.queue a) of.1 in
      let taken : (w.point.queue == x.queue && from) ≡ true = sym (takes_part w.point.queue) ∙ sym (command_takes ns w.number w.point of.0 m) ∙ sym (ap (λ (a : Act). linked ns (node w.number w.point a) m) of.1) ∙ to_linked ns w m parts.1 in
      let both = and_parts (w.point.queue == x.queue) from taken in
      let queue : w.point.queue ≡ x.queue = eqb-true w.point.queue x.queue both.0 in
      let is : l ≡ OfCommands x.queue = some_same l (OfCommands x.queue) (sym on ∙ own ∙ ap (λ (q : ℕ). Some (OfCommands q)) queue) in
      let up = edge_forward ns w m parts.1 in
      let less = place-less ns numbers (OfCommands x.queue) w m.number hw (on ∙ ap Some is) up in
      let low : i < x.earlier = (let b = part.earlier in let c : place ns (OfCommands x.queue) w.number ≡ i = ap (λ (k : Line). place ns k w.number) (sym is) ∙ at in omega arith) in
      and_from (same_line l (OfCommands x.queue) && nat_lt i x.earlier) from
      (and_from (same_line l (OfCommands x.queue)) (nat_lt i x.earlier) (ap (λ (k : Line). same_line k (OfCommands x.queue)) is ∙ line_itself (OfCommands x.queue)) (lt-ltb i x.earlier low)) both.1

  pub part_marks : (cached : Byte → Bool) (b : Byte) (f a : Bool) → f ≡ (same_line l (OfCommands x.queue) && nat_lt i x.earlier && has_transfer (dependency_of x.element).source_stages.0)
      → a ≡ (not (is_acquire x.queue x.element) && has_some (dependency_of x.element).source_accesses.0 (command_mask Write) && covers x.element b)
      → (f && a) ≡ (is_command w.act && makes_writes_available cached ns m b m.act && edge ns w m)
  part_marks cached b f a ef ea =
      ap (λ (t : Bool). t && a) (ef ∙ bool_same _ _ forth back) ∙ ap (λ (t : Bool). is_command w.act && edge ns w m && t) (ea ∙ available) ∙ turned (is_command w.act) (edge ns w m) (makes_writes_available cached ns m b m.act)
    where
      turned : (c e a : Bool) → (c && e && a) ≡ (c && a && e)
      turned c e a = grind arith

      available : (not (is_acquire x.queue x.element) && has_some (dependency_of x.element).source_accesses.0 (command_mask Write) && covers x.element b) ≡ makes_writes_available cached ns m b m.act
      available =
          ap (λ (q : ℕ). not (is_acquire q x.element) && has_some (dependency_of x.element).source_accesses.0 (command_mask Write) && covers x.element b) part.queue
          ∙ ap (λ (y : Act). makes_writes_available cached ns m b y) (sym part.act)

-- ---- rows of what is known at a node

pub known_as : (ns : List Node) (m : Node) (f g : Clock) → ((l : Line) → f l ≡ g l) → IsKnownRow ns m f → IsKnownRow ns m g
known_as ns m f g same is = record {
  counts = λ l c hc on. ((λ h. let lt = (is.counts l c hc on).0 h in let e = same l in omega arith), (λ lt. (is.counts l c hc on).1 (let e = same l in omega arith)));
  bounded = λ l. let le = is.bounded l in let e = same l in omega arith;
}

-- one that is kept stays when a node comes
known_stays : (ns : List Node) (n m : Node) (row : Clock) → IsNumbered (n ∷ ns) → Contains ns m → IsKnownRow ns m row → IsKnownRow (n ∷ ns) m row
known_stays ns n m row numbers hm is = record {
  counts = λ l c hc on. ⊎_elim
      (λ e. subst (λ (x : Node). IsKnown (n ∷ ns) x m ↔ (place (n ∷ ns) l x.number < row l)) e (
        (λ h. absurd (unheard ns n numbers m (contains-tail n ns m hm) h)),
        (λ lt. absurd (let le = is.bounded l in let at = at_new ns n numbers l in let more = place-grows ns l m.number (length ns) (let low = number_below ns numbers.1 m hm in omega arith) in omega arith)),
      ))
      (λ there. let at = at_old ns n numbers l c there in (
        (λ h. let lt = (is.counts l c there on).0 (heard_old ns n numbers c m hm h) in omega arith),
        (λ lt. heard_new ns n numbers c m hm ((is.counts l c there on).1 (omega arith))),
      ))
      (contains-cons n ns c hc);
  bounded = λ l. let le = is.bounded l in let at = at_old ns n numbers l m hm in omega arith;
}

-- ---- parts when a node comes

part_stays : (ns : List Node) (n : Node) (ls : List Line) (m : Node) (x : Part) → IsNumbered (n ∷ ns) → IsPart ns ls m x → IsPart (n ∷ ns) ls m x
part_stays ns n ls m x numbers is = record {
  there = contains-tail n ns m is.there;
  act = is.act;
  limited = is.limited;
  number = is.number;
  queue = is.queue;
  line = is.line;
  at = is.at ∙ sym (at_old ns n numbers x.line m is.there);
  earlier = is.earlier ∙ sym (at_old ns n numbers (OfCommands x.queue) m is.there);
  heard = known_stays ns n m (clock_at ls x.heard.items) numbers is.there is.heard;
  short = is.short;
}

part_element : (e : Element) (id : ℕ) → named_by e ≡ Some id → (is_limited (Depends Barrier e) ≡ true) × (makes_queue_available (Depends Barrier e) ≡ false)
part_element (element.Memory d) id h = absurd cc
part_element (element.Buffer e) id h = (refl, refl)
part_element (element.Image e) id h = (refl, refl)

-- the parts that are searched, of those that are kept
pub from_slice : {from : ℕ} {all some kept : List Part} → all ≡ kept → AreInOrder kept → (AreInOrder all → AreFrom from all some) → AreFrom from kept some
from_slice {from} {all} {some} {kept} e ordered is = subst (λ (l : List Part). AreFrom from l some) e (is (subst (λ (l : List Part). AreInOrder l) (sym e) ordered))

-- one that comes next
pub part_new : (ns : List Node) (n : Node) (ls : List Line) (x : Part) (id : ℕ) (clock row : List ℕ) → IsNumbered (n ∷ ns) → n.act ≡ Depends Barrier x.element → named_by x.element ≡ Some id → x.number ≡ n.number → x.queue ≡ n.point.queue → x.line ≡ class_on n.point.queue n.act
    → x.place ≡ place ns x.line (length ns) → x.earlier ≡ place ns (OfCommands x.queue) (length ns) → IsMerged ls clock row x.heard.items → IsKeptJoin ns ls (λ k. edge ns k n) clock → IsKeptRow Available ns ls (λ k. edge ns k n) row → IsPart (n ∷ ns) ls n x
part_new ns n ls x id clock row numbers act named number queue line at earlier merged kept kept_available =
    let of = part_element x.element id named in
    let quiet : makes_queue_available n.act ≡ false = ap makes_queue_available act ∙ of.1 in
    let device : is_submit n.act ≡ false = ap is_submit act in
    let available : IsRow Available (n ∷ ns) n (clock_at ls row) = available_row ns n numbers (clock_at ls row) (clock_at ls row) kept_available.join (λ l. ap (λ (t : Bool). if t then place ns l (length ns) else clock_at ls row l) (none_available n.point.queue n.act device quiet l)) in
    record {
      there = contains-head n ns;
      act = act;
      limited = ap is_limited act ∙ of.0;
      number = number;
      queue = queue;
      line = ap (line_on n.point.queue) act ∙ ap (λ (a : Act). Some (class_on n.point.queue a)) (sym act) ∙ ap Some (sym line);
      at = at ∙ sym (at_new ns n numbers x.line);
      earlier = earlier ∙ sym (at_new ns n numbers (OfCommands x.queue));
      heard = known_as (n ∷ ns) n (λ l. if is_of_barriers l then clock_at ls clock l else clock_at ls row l) (clock_at ls x.heard.items) (λ l. sym (merged.counts l))
          (known_row ns n numbers (clock_at ls clock) (clock_at ls row) (edges_join n ns numbers (clock_at ls clock) kept.join) available);
      short = merged.short;
    }

pub parts_same : (ns : List Node) (n : Node) (ls : List Line) (p : Parts) → IsNumbered (n ∷ ns) → part_of n.act ≡ None → AreParts ns ls p → AreParts (n ∷ ns) ls p
parts_same ns n ls p numbers none are = record {
  ordered = are.ordered;
  each = λ id x has. let r = are.each id x has in (r.0, part_stays ns n ls r.0 x numbers r.1);
  all = λ id m hm is. ⊎_elim
      (λ e. absurd (let bad : None ≡ Some id = sym none ∙ ap (λ (y : Node). part_of y.act) e ∙ is in cc))
      (λ there. let r = are.all id m there is in (r.0, r.1, part_stays ns n ls m r.0 numbers r.2))
      (contains-cons n ns m hm);
}

pub parts_more : (ns : List Node) (n : Node) (ls : List Line) (p q : Parts) (id : ℕ) (x : Part) → IsNumbered (n ∷ ns) → part_of n.act ≡ Some id → IsPart (n ∷ ns) ls n x
    → parts_at q id ≡ parts_at p id ++ x ∷ [] → ((i : ℕ) → i ≢ id → parts_at q i ≡ parts_at p i) → AreParts ns ls p → AreParts (n ∷ ns) ls q
parts_more ns n ls p q id x numbers is part here others are = record {
  ordered = λ i. in_order i (i == id) refl;
  each = λ i y has. go_each i y (i == id) refl has;
  all = λ i m hm named. ⊎_elim
      (λ e. new i m e named)
      (λ there. let r = are.all i m there named in (r.0, kept i r.0 r.1, part_stays ns n ls m r.0 numbers r.2))
      (contains-cons n ns m hm);
}
  where
    -- the new one is the newest
    pushed : (i j : ℕ) (y z : Part) → i < j → slice_get (parts_at p id ++ x ∷ []) i ≡ Some y → slice_get (parts_at p id ++ x ∷ []) j ≡ Some z → y.number ≤ z.number
    pushed i j y z lt first second = ⊎_elim
        (λ old. ⊎_elim
        (λ earlier. are.ordered id i j y z lt earlier old)
        (λ last. absurd (let low = slice_get_within (parts_at p id) j z old in let at = last.0 in omega arith))
        (push_cases (parts_at p id) x y i first))
        (λ last. ⊎_elim
        (λ earlier. let r = are.each id y (place_has (parts_at p id) i y earlier) in
        let low = number_below ns numbers.1 r.0 r.1.there in
        let of = r.1.number in
        let own = part.number in
        let at = numbers.0 in
        let same : x.number ≡ z.number = ap (λ (u : Part). u.number) last.1 in omega arith)
        (λ again. absurd (let at = again.0 in let on = last.0 in omega arith))
        (push_cases (parts_at p id) x y i first))
        (push_cases (parts_at p id) x z j second)

    apart : (i : ℕ) → (i == id) ≡ false → i ≢ id
    apart i e same = no (sym e ∙ eq-eqb i id same)

    in_order : (i : ℕ) (t : Bool) → (i == id) ≡ t → AreInOrder (parts_at q i)
    in_order i true e = subst (λ (l : List Part). AreInOrder l) (sym (ap (parts_at q) (eqb-true i id e) ∙ here)) pushed
    in_order i false e = subst (λ (l : List Part). AreInOrder l) (sym (others i (apart i e))) (are.ordered i)

    kept : (i : ℕ) (y : Part) → Contains (parts_at p i) y → Contains (parts_at q i) y
    kept i y has = go (i == id) refl
      where
        go : (t : Bool) → (i == id) ≡ t → Contains (parts_at q i) y
        go true e =
            let same : i ≡ id = eqb-true i id e in
            subst (λ (l : List Part). Contains l y) (sym (ap (parts_at q) same ∙ here)) (Contains-append_left (parts_at p id) (x ∷ []) y (subst (λ (j : ℕ). Contains (parts_at p j) y) same has))
        go false e = subst (λ (l : List Part). Contains l y) (sym (others i (apart i e))) has

    go_each : (i : ℕ) (y : Part) (t : Bool) → (i == id) ≡ t → Contains (parts_at q i) y → (m : Node) × IsPart (n ∷ ns) ls m y
    go_each i y true e has =
        let same : i ≡ id = eqb-true i id e in
        ⊎_elim
        (λ old. let r = are.each id y old in (r.0, part_stays ns n ls r.0 y numbers r.1))
        (λ last. (n, subst (λ (z : Part). IsPart (n ∷ ns) ls n z) (only_one x y last) part))
        (Contains-append_cases (parts_at p id) (x ∷ []) y (subst (λ (l : List Part). Contains l y) (ap (parts_at q) same ∙ here) has))
    go_each i y false e has = let r = are.each i y (subst (λ (l : List Part). Contains l y) (others i (apart i e)) has) in (r.0, part_stays ns n ls r.0 y numbers r.1)

    new : (i : ℕ) (m : Node) → n ≡ m → part_of m.act ≡ Some i → (y : Part) × Contains (parts_at q i) y × IsPart (n ∷ ns) ls m y
    new i m e named =
        let same : id ≡ i = some_same id i (sym is ∙ ap (λ (z : Node). part_of z.act) e ∙ named) in
        (x, subst (λ (j : ℕ). Contains (parts_at q j) x) same (subst (λ (l : List Part). Contains l x) (sym here) (Contains-append_right (parts_at p id) (x ∷ []) x (contains-head x []))), subst (λ (z : Node). IsPart (n ∷ ns) ls z x) e part)

-- what is kept says the same over more lines
pub parts_longer : (ns : List Node) (ls more : List Line) (p : Parts) → IsLonger ls more → AreParts ns ls p → AreParts ns more p
parts_longer ns ls more p longer are = record {
  ordered = are.ordered;
  each = λ id x has. let r = are.each id x has in (r.0, part_longer r.0 x r.1);
  all = λ id m hm is. let r = are.all id m hm is in (r.0, r.1, part_longer m r.0 r.2);
}
  where
    part_longer : (m : Node) (x : Part) → IsPart ns ls m x → IsPart ns more m x
    part_longer m x is = record {
      there = is.there;
      act = is.act;
      limited = is.limited;
      number = is.number;
      queue = is.queue;
      line = is.line;
      at = is.at;
      earlier = is.earlier;
      heard = known_as ns m (clock_at ls x.heard.items) (clock_at more x.heard.items) (longer.same x.heard.items is.short) is.heard;
      short = let a = is.short in let b = longer.long in omega arith;
    }

pub parts_none : (ls : List Line) (p : Parts) → ((id : ℕ) → parts_at p id ≡ []) → AreParts [] ls p
parts_none ls p none = record {
  ordered = λ id i j x y lt first second. absurd (nothing i x (ap (λ (l : List Part). slice_get l i) (sym (none id)) ∙ first));
  each = λ id x has. absurd (none_in x (subst (λ (l : List Part). Contains l x) (none id) has));
  all = λ id m hm is. absurd (none_in m hm);
}
  where
    nothing : (i : ℕ) (x : Part) → slice_get [] i ≡ Some x → ⊥
    nothing i x e = cc

-- ---- parts of nodes from a number on

drop_within : (k : ℕ) (xs : List Part) (x : Part) → Contains (drop k xs) x → Contains xs x
drop_within zero xs x h = h
drop_within (suc k) [] x h = h
drop_within (suc k) (y ∷ ys) x h = contains-tail y ys x (drop_within k ys x h)

drop_beyond : (k : ℕ) (xs : List Part) (x : Part) (i : ℕ) → slice_get xs i ≡ Some x → k ≤ i → Contains (drop k xs) x
drop_beyond zero xs x i e le = place_has xs i x e
drop_beyond (suc k) [] x i e le = absurd cc
drop_beyond (suc k) (y ∷ ys) x zero e le = absurd (omega arith)
drop_beyond (suc k) (y ∷ ys) x (suc i) e le = drop_beyond k ys x i e (omega arith)

pub newer_parts : (number : ℕ) (xs : List Part) (count : ℕ) → AreBelow number xs count → AreFrom number xs (take (length xs - count) (drop count xs))
newer_parts number xs count below =
    subst (λ (l : List Part). AreFrom number xs l) (sym (take_all (length xs - count) (drop count xs) (let e = length-drop count xs in omega arith))) (record {
      within = λ y h. drop_within count xs y h;
      newer = λ y h le.
          let there : slice_get xs h.0 ≡ Some y = slice_get-get_or xs h.0 y h.1 ∙ ap Some h.2 in
          ⊎_elim
          (λ early. absurd (let less = below h.0 y early there in omega arith))
          (λ late. drop_beyond count xs y h.0 there late)
          (cases_lt h.0 count);
    })
