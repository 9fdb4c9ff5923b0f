-- Bytes that the same dependencies are on are seen alike.
use Rattle.std.proofs.Common.{⊎_elim, ◌≡◌, inl, inr, ℕ, ◌≤◌, List, ◌∷◌, Bool, true, false, not, ◌&&◌, ◌||◌, IsTrue, Some, refl, ap, sym, ◌∙◌, subst, arith}
use Rattle.std.specs.Prelude.{◌/◌, ◌%◌, ◌==◌, nat_lt, Contains}
use Rattle.std.proofs.lemmas.Bool.{and_parts}
use Rattle.std.proofs.Math.Bool.{and-false}
use Rattle.vk_model.specs.declared.command.Element.{Element}
use Rattle.vk_model.specs.Basics.{has_some}
use Rattle.vk_model.specs.declared.command.Element.TheVariants as element
use Rattle.vk_model.specs.World.Bytes.{Byte, in_buffer, in_image, resource_at}
use Rattle.vk_model.specs.World.Ownership.{dependency_of, is_acquire, is_release}
use Rattle.vk_model.specs.Sync.Node.{Node, Act, Hosts, Waits, Signals, Runs, Depends, Barrier}
use Rattle.vk_model.specs.Sync.Edge.{edge, is_host, is_command}
use Rattle.vk_model.specs.Sync.Before.{before, IsNumbered}
use Rattle.vk_model.specs.Sync.Seen as seen
use Rattle.vk_model.specs.Sync.Seen.{covers, makes_writes_available, makes_writes_visible, command_mask, host_mask, to_host}
use Rattle.vk_model.proofs.Lists.Members.{contains-cons, contains-tail}
use Rattle.vk_model.proofs.Lists.Truths.{no, bool_same}
use Rattle.vk_model.proofs.Sync.Paths.{edge_forward}
use Rattle.vk_order.specs.declared.access.Access.{Access}
use Rattle.vk_order.specs.declared.frontier.Frontier.{Frontier}
use Rattle.vk_order.specs.declared.parts.Part.{Part}
use Rattle.vk_order.specs.declared.parts.Spot.{Spot}
use Rattle.vk_order.specs.declared.new_node.NewNode.{NewNode}
use Rattle.vk_order.specs.declared.units.Units.{Units}
use Rattle.vk_order.specs.declared.units.Units.TheVariants as units
use Rattle.vk_order.specs.Frontiers.{IsFrontier, IsNewNode}
use Rattle.vk_order.specs.Limited.{IsMark, IsWrite, part_of}
use Rattle.vk_order.specs.SeenWrites.{SaysSeen, SaysSeenAt}
use Rattle.vk_order.specs.Units.{unit_byte, units_resource, IsOfUnit}
use Rattle.vk_order.specs.Wide.{access_of, is_answered}
use Rattle.vk_order.specs.Lines.{same_line}
use Rattle.vk_order.specs.Inner.Kept.{clock_at}
use Rattle.vk_order.specs.Inner.Tallies.{lines_of}
use Rattle.vk_order.specs.Inner.Parts.{IsPart, parts_at, AreFrom, AreInOrder, asked_of, opens, Serves}
use Rattle.vk_order.specs.Inner.Alone.{AlwaysShows, AlwaysMarks}
use Rattle.vk_order.specs.Inner.Rows.{KnowsOne}
use Rattle.vk_order.proofs.KnownRows.{at_old, old_edge}
use Rattle.vk_order.proofs.LimitedLemmas.{seen_by_transition}
use Rattle.vk_order.proofs.ServeLemmas.{seen_served, answered_any, available_covers, open_covers, part_reached, reach_later}

abbrev uncached : Byte → Bool
uncached b = false

-- without a cache each access is answered
asked_uncached : (cached : Byte → Bool) (a : Act) (k : seen.Access) (b c : Byte) → IsTrue (is_answered cached a k b) → IsTrue (is_answered uncached a k c)
asked_uncached cached (Runs x) k b c h = refl
asked_uncached cached (Hosts x) seen.Read b c h = refl
asked_uncached cached (Hosts x) seen.Write b c h = refl
asked_uncached cached (Waits s) k b c h = no h
asked_uncached cached (Signals s) k b c h = no h
asked_uncached cached (Depends r e) k b c h = no h

write_uncached : (cached : Byte → Bool) (ns : List Node) (w : Node) (b c : Byte) → IsWrite cached ns w b → IsWrite uncached ns w c
write_uncached cached ns w b c h = record { there = h.there; uncached = and-false (is_host w.act); limited = h.limited }

-- a dependency that is on two bytes alike does the same for both
abbrev IsAlike : (b c : Byte) → Node → Type 0
IsAlike b c q = (e : Element) × (q.act ≡ Depends Barrier e) × (covers e c ≡ covers e b)

module _ (ns : List Node) (n q : Node) (k : seen.Access) (b c : Byte) (was cached : Byte → Bool) (e : IsAlike b c q) where
  makes_available_alike : IsTrue (makes_writes_available was ns q b q.act) → IsTrue (makes_writes_available cached ns q c q.act)
  makes_available_alike makes =
      ap (λ (a : Act). makes_writes_available cached ns q c a) e.1
      ∙ ap (λ (t : Bool). (not (is_acquire q.point.queue e.0) && has_some (dependency_of e.0).source_accesses.0 (command_mask seen.Write)) && t) e.2
      ∙ sym (ap (λ (a : Act). makes_writes_available was ns q b a) e.1) ∙ makes

  shows_alike : (mask : ℕ) → makes_writes_visible cached ns mask c q q.act ≡ makes_writes_visible was ns mask b q q.act
  shows_alike mask =
      ap (λ (a : Act). makes_writes_visible cached ns mask c q a) e.1
      ∙ ap (λ (t : Bool). (not (is_release q.point.queue e.0) && has_some (dependency_of e.0).destination_accesses.0 mask) && t) e.2
      ∙ sym (ap (λ (a : Act). makes_writes_visible was ns mask b q a) e.1)

  opens_alike : IsTrue (opens was ns n n.act k b q) → IsTrue (opens cached ns n n.act k c q)
  opens_alike o = go n.act o
    where
      go : (a : Act) → IsTrue (opens was ns n a k b q) → IsTrue (opens cached ns n a k c q)
      go (Runs c) o = ap (λ (t : Bool). edge ns q n && t) (shows_alike (command_mask k)) ∙ o
      go (Hosts x) o = ap (λ (t : Bool). before (n ∷ ns) q n && (to_host q.act && t)) (shows_alike (host_mask k)) ∙ o
      go (Waits s) o = no o
      go (Signals s) o = no o
      go (Depends r e) o = no o

module _ (ns : List Node) (n w : Node) (k : seen.Access) (b c : Byte) (was cached : Byte → Bool) (alike : (q : Node) → Contains ns q → w.number ≤ q.number → part_of q.act ≡ Some (resource_at b) → IsAlike b c q) where
  marks_alike : (m : Node) → IsMark was ns b w m → IsMark cached ns c w m
  marks_alike m (inl e) = inl e
  marks_alike m (inr (command, hm, lim, makes, e)) =
      let on = alike m hm (let lt = edge_forward ns w m e in omega arith) (available_covers was ns b m m.act lim makes) in
      inr (command, hm, lim, makes_available_alike ns n m k b c was cached on makes, e)

  mark_later : (m : Node) → IsMark was ns b w m → w.number ≤ m.number
  mark_later m (inl e) = let same : m.number ≡ w.number = ap (λ (x : Node). x.number) e in omega arith
  mark_later m (inr (command, hm, lim, makes, e)) = let lt = edge_forward ns w m e in omega arith

  serves_alike : (m : Node) → w.number ≤ m.number → Serves was ns n k b m → Serves cached ns n k c m
  serves_alike m later (inl known) = inl known
  serves_alike m later (inr (q, hq, lim, o, r)) =
      let on = alike q hq (let le = reach_later ns m q r in omega arith) (open_covers was ns n q k b lim o) in
      inr (q, hq, lim, opens_alike ns n q k b c was cached on o, r)

-- a dependency on a part that comes after a write is on both of two bytes, or on none
abbrev AreAlike : Frontier → ℕ → Byte → Byte → Type 0
AreAlike f from b c = (ns : List Node) (w : Node) → IsFrontier f ns → from ≤ w.number → (q : Node) → Contains ns q → w.number ≤ q.number → part_of q.act ≡ Some (resource_at b)
    → IsAlike b c q

alike_at : (f : Frontier) (from : ℕ) (b c : Byte) (kept parts : List Part) → kept ≡ parts_at f.parts (resource_at b) → (AreInOrder kept → AreFrom from kept parts)
    → ((x : Part) → Contains parts x → covers x.element c ≡ covers x.element b) → AreAlike f from b c
alike_at f from b c kept parts is_kept are_from alike = λ ns w is le q hq later on.
    let x = is.parts.all (resource_at b) q hq on in
    let among = are_from (subst (λ (l : List Part). AreInOrder l) (sym is_kept) (is.parts.ordered (resource_at b))) in
    let has = among.newer x.0 (subst (λ (l : List Part). Contains l x.0) (sym is_kept) x.1) (let number = x.2.number in omega arith) in
    (x.0.element, x.2.act, alike x.0 has)

turned : (f : Frontier) (from : ℕ) (b c : Byte) → resource_at c ≡ resource_at b → AreAlike f from b c → AreAlike f from c b
turned f from b c same alike = λ ns w is le q hq later on. let h = alike ns w is le q hq later (on ∙ ap Some same) in (h.0, h.1, sym h.2)

-- a write that is seen at one byte is seen at another on which the same parts are
seen_too : (f : Frontier) (s : NewNode) (from : ℕ) (k : seen.Access) (b c : Byte) → AreAlike f from b c → (ns : List Node) (n w : Node) (was cached : Byte → Bool) → IsFrontier f ns → IsNewNode ns n s → from ≤ w.number
    → IsWrite was ns w b → IsTrue (is_answered was n.act k b) → IsWrite cached ns w c → IsTrue (is_answered cached n.act k c)
    → IsTrue (seen.seen was (n ∷ ns) w n k b) → IsTrue (seen.seen cached (n ∷ ns) w n k c)
seen_too f s from k b c alike ns n w was cached is new_node le wrote_at asked_at wrote asked h =
    let g = (seen_served ns n w was k b new_node.numbers wrote_at asked_at).0 h in
    let parts_alike = alike ns w is le in
    let later = mark_later ns n w k b c was cached parts_alike g.0 g.1 in
    (seen_served ns n w cached k c new_node.numbers wrote asked).1 (g.0, marks_alike ns n w k b c was cached parts_alike g.0 g.1, serves_alike ns n w k b c was cached parts_alike g.0 later g.2)

-- a byte that the same parts are on is seen alike
pub says_alike : (f : Frontier) (s : NewNode) (write : Spot) (from : ℕ) (access : Access) (b c : Byte) → resource_at c ≡ resource_at b → (kept parts : List Part) → kept ≡ parts_at f.parts (resource_at b) → (AreInOrder kept → AreFrom from kept parts)
    → ((x : Part) → Contains parts x → covers x.element c ≡ covers x.element b)
    → (answer : Bool) → SaysSeen f s write from access b answer → SaysSeen f s write from access c answer
says_alike f s write from access b c same kept parts is_kept are_from alike answer says = λ ns n w cached is new_node wrote on place le asked.
    let k = access_of access in
    let asked_at = asked_uncached cached n.act k c b asked in
    let wrote_at = write_uncached cached ns w c b wrote in
    let parts_alike = alike_at f from b c kept parts is_kept are_from alike in
    says ns n w uncached is new_node wrote_at on place le asked_at ∙ bool_same (seen.seen uncached (n ∷ ns) w n k b) (seen.seen cached (n ∷ ns) w n k c)
    (seen_too f s from k b c parts_alike ns n w uncached cached is new_node le wrote_at asked_at wrote asked)
    (seen_too f s from k c b (turned f from b c same parts_alike) ns n w cached uncached is new_node le wrote asked wrote_at asked_at)

-- what a node that serves all memory shows is seen at each byte
pub visible_each : (f : Frontier) (s : NewNode) (write : Spot) (from : ℕ) (access : Access) (b : Byte)
    → ((ns : List Node) (n w : Node) (cached : Byte → Bool) → IsNewNode ns n s → IsWrite cached ns w b → Rattle.vk_order.specs.Lines.line_of w ≡ Some write.line → Rattle.vk_order.specs.Lines.place ns write.line w.number ≡ write.place
    → IsTrue (is_answered cached n.act (access_of access) b) → KnowsOne (asked_of n.act (access_of access)) ns (λ q. edge ns q n) w)
    → SaysSeen f s write from access b true
visible_each f s write from access b known = λ ns n w cached is new_node wrote on place le asked.
    sym ((seen_served ns n w cached (access_of access) b new_node.numbers wrote asked).1 (w, inl refl, inl (known ns n w cached new_node wrote on place asked)))

-- a byte that one part is on as on one for which it shows the write by itself
pub visible_by_itself : (f : Frontier) (s : NewNode) (write : Spot) (from : ℕ) (access : Access) (b c : Byte) (x : Part) → (AreInOrder (parts_at f.parts (resource_at b)) → Contains (parts_at f.parts (resource_at b)) x)
    → covers x.element c ≡ covers x.element b → AlwaysShows f s write (access_of access) b x → SaysSeen f s write from access c true
visible_by_itself f s write from access b c x kept same shows = λ ns n w cached is new_node wrote on place le asked.
    let k = access_of access in
    let any = answered_any cached n.act k c asked in
    let of = is.parts.each (resource_at b) x (kept (is.parts.ordered (resource_at b))) in
    let alone = shows ns n w of.0 uncached new_node any of.1 wrote.there on place in
    let on_both : IsAlike b c of.0 = (x.element, of.1.act, same) in
    let opened = opens_alike ns n of.0 k b c uncached cached on_both alone.0 in
    let law = seen_served ns n w cached k c new_node.numbers wrote asked in
    sym (⊎_elim
    (λ known. law.1 (w, inl refl, inr (of.0, of.1.there, of.1.limited, opened, known)))
    (λ mark.
    let first = and_parts (is_command w.act && makes_writes_available uncached ns of.0 b of.0.act) (edge ns w of.0) mark in
    let second = and_parts (is_command w.act) (makes_writes_available uncached ns of.0 b of.0.act) first.0 in
    law.1 (of.0, inr (second.0, of.1.there, of.1.limited, makes_available_alike ns n of.0 k b c uncached cached on_both second.1, first.1), inr (of.0, of.1.there, of.1.limited, opened, inr (refl, of.1.limited))))
    alone.1)

-- ---- what a transition sees

-- what reaches the transition of a part is seen at each byte
pub reached_each : (f : Frontier) (part : Part) (write : Spot) (from : ℕ) (b : Byte)
    → (nat_lt write.place (clock_at (lines_of f.tallies.items) part.heard.items write.line) || same_line part.line write.line && part.place == write.place) ≡ true
    → SaysSeenAt f part write from b true
reached_each f part write from b reaches = λ ns n w cached k numbers is own wrote on at le.
    let law = seen_by_transition ns n numbers cached w k b wrote Barrier part.element own.act in
    let reached = part_reached (n ∷ ns) numbers (lines_of f.tallies.items) n part own w write.line write.place (contains-tail n ns w wrote.there) on (at_old ns n numbers write.line w wrote.there ∙ at) in
    sym (law.1 (w, inl refl, reached.0 reaches))

-- a byte that one part is on as on one of which it makes the write available, where that is known at the transition
pub marked_alone : (f : Frontier) (part : Part) (write : Spot) (from : ℕ) (b c : Byte) (x : Part) → (AreInOrder (parts_at f.parts (resource_at b)) → Contains (parts_at f.parts (resource_at b)) x)
    → covers x.element c ≡ covers x.element b → AlwaysMarks f part write b x → SaysSeenAt f part write from c true
marked_alone f part write from b c x kept same marks = λ ns n w cached k numbers is own wrote on at le.
    let of = is.parts.each (resource_at b) x (kept (is.parts.ordered (resource_at b))) in
    let alone = marks ns n w of.0 uncached numbers own of.1 wrote.there on at in
    let first = and_parts (is_command w.act && makes_writes_available uncached ns of.0 b of.0.act) (edge ns w of.0) alone.0 in
    let second = and_parts (is_command w.act) (makes_writes_available uncached ns of.0 b of.0.act) first.0 in
    let makes = makes_available_alike (n ∷ ns) n of.0 k b c uncached cached (x.element, of.1.act, same) second.1 in
    sym ((seen_by_transition ns n numbers cached w k c wrote Barrier part.element own.act).1 (of.0, inr (second.0, contains-tail n ns of.0 of.1.there, of.1.limited, makes, old_edge ns n numbers w of.0 of.1.there ∙ first.1), alone.1))

module _ (f : Frontier) (part : Part) (from : ℕ) (b c : Byte) (alike : AreAlike f from b c) (own_alike : covers part.element c ≡ covers part.element b)
    (ns : List Node) (n w : Node) (k : seen.Access) (numbers : IsNumbered (n ∷ ns)) (is : IsFrontier f ns) (own : IsPart (n ∷ ns) (lines_of f.tallies.items) n part) (le : from ≤ w.number) where
  mark_alike : (was cached : Byte → Bool) (m : Node) → IsMark was (n ∷ ns) b w m → IsMark cached (n ∷ ns) c w m
  mark_alike was cached m (inl e) = inl e
  mark_alike was cached m (inr (command, hm, lim, makes, e)) =
      let on : IsAlike b c m = ⊎_elim
      (λ same. (part.element, ap (λ (x : Node). x.act) (sym same) ∙ own.act, own_alike))
      (λ old. alike ns w is le m old (let lt = edge_forward (n ∷ ns) w m e in omega arith) (available_covers was (n ∷ ns) b m m.act lim makes))
      (contains-cons n ns m hm) in
      inr (command, hm, lim, makes_available_alike (n ∷ ns) n m k b c was cached on makes, e)

  sees_alike : (was cached : Byte → Bool) → IsWrite was ns w b → IsWrite cached ns w c → IsTrue (seen.seen was (n ∷ ns) w n k b) → IsTrue (seen.seen cached (n ∷ ns) w n k c)
  sees_alike was cached wrote_b wrote_c h =
      let g = (seen_by_transition ns n numbers was w k b wrote_b Barrier part.element own.act).0 h in
      (seen_by_transition ns n numbers cached w k c wrote_c Barrier part.element own.act).1 (g.0, mark_alike was cached g.0 g.1, g.2)

-- a byte that the same parts are on is seen alike by a transition
pub says_alike_at : (f : Frontier) (part : Part) (write : Spot) (from : ℕ) (b c : Byte) → resource_at c ≡ resource_at b → (kept parts : List Part) → kept ≡ parts_at f.parts (resource_at b) → (AreInOrder kept → AreFrom from kept parts)
    → ((x : Part) → Contains parts x → covers x.element c ≡ covers x.element b) → covers part.element c ≡ covers part.element b
    → (answer : Bool) → SaysSeenAt f part write from b answer → SaysSeenAt f part write from c answer
says_alike_at f part write from b c same kept parts is_kept are_from each own_alike answer says = λ ns n w cached k numbers is own wrote on at le.
    let alike = alike_at f from b c kept parts is_kept are_from each in
    let wrote_b = write_uncached cached ns w c b wrote in
    says ns n w uncached k numbers is own wrote_b on at le
    ∙ bool_same (seen.seen uncached (n ∷ ns) w n k b) (seen.seen cached (n ∷ ns) w n k c)
    (sees_alike f part from b c alike own_alike ns n w k numbers is own le uncached cached wrote_b wrote)
    (sees_alike f part from c b (turned f from b c same alike) (sym own_alike) ns n w k numbers is own le cached uncached wrote wrote_b)

-- ---- the same of units

-- a unit that the same parts are on is seen alike
pub units_alike : (f : Frontier) (s : NewNode) (write : Spot) (from : ℕ) (access : Access) (u : Units) (at next : ℕ) (kept parts : List Part) → kept ≡ parts_at f.parts (units_resource u) → (AreInOrder kept → AreFrom from kept parts)
    → ((x : Part) → Contains parts x → covers x.element (unit_byte u next) ≡ covers x.element (unit_byte u at))
    → (answer : Bool) → SaysSeen f s write from access (unit_byte u at) answer → SaysSeen f s write from access (unit_byte u next) answer
units_alike f s write from access (units.Bytes b) at next kept parts = says_alike f s write from access (in_buffer b at) (in_buffer b next) refl kept parts
units_alike f s write from access (units.Subresources i levels) at next kept parts =
    says_alike f s write from access (in_image i (at % levels) (at / levels) 0 0 0) (in_image i (next % levels) (next / levels) 0 0 0) refl kept parts

-- a unit that one part is on as on one for which it shows the write by itself
pub units_visible : (f : Frontier) (s : NewNode) (write : Spot) (from : ℕ) (access : Access) (u : Units) (at next : ℕ) (x : Part) → (AreInOrder (parts_at f.parts (units_resource u)) → Contains (parts_at f.parts (units_resource u)) x)
    → covers x.element (unit_byte u next) ≡ covers x.element (unit_byte u at) → AlwaysShows f s write (access_of access) (unit_byte u at) x → SaysSeen f s write from access (unit_byte u next) true
units_visible f s write from access (units.Bytes b) at next x = visible_by_itself f s write from access (in_buffer b at) (in_buffer b next) x
units_visible f s write from access (units.Subresources i levels) at next x =
    visible_by_itself f s write from access (in_image i (at % levels) (at / levels) 0 0 0) (in_image i (next % levels) (next / levels) 0 0 0) x

-- a unit that one part is on as on one of which it makes the write available, where that is known at the transition
pub units_marked : (f : Frontier) (part : Part) (write : Spot) (from : ℕ) (u : Units) (at next : ℕ) (x : Part) → (AreInOrder (parts_at f.parts (units_resource u)) → Contains (parts_at f.parts (units_resource u)) x)
    → covers x.element (unit_byte u next) ≡ covers x.element (unit_byte u at) → AlwaysMarks f part write (unit_byte u at) x → SaysSeenAt f part write from (unit_byte u next) true
units_marked f part write from (units.Bytes b) at next x = marked_alone f part write from (in_buffer b at) (in_buffer b next) x
units_marked f part write from (units.Subresources i levels) at next x =
    marked_alone f part write from (in_image i (at % levels) (at / levels) 0 0 0) (in_image i (next % levels) (next / levels) 0 0 0) x

-- a unit that the same parts are on is seen alike by a transition
pub units_alike_at : (f : Frontier) (part : Part) (write : Spot) (from : ℕ) (u : Units) (at next : ℕ) (kept parts : List Part) → kept ≡ parts_at f.parts (units_resource u) → (AreInOrder kept → AreFrom from kept parts)
    → ((x : Part) → Contains parts x → covers x.element (unit_byte u next) ≡ covers x.element (unit_byte u at)) → covers part.element (unit_byte u next) ≡ covers part.element (unit_byte u at)
    → (answer : Bool) → SaysSeenAt f part write from (unit_byte u at) answer → SaysSeenAt f part write from (unit_byte u next) answer
units_alike_at f part write from (units.Bytes b) at next kept parts = says_alike_at f part write from (in_buffer b at) (in_buffer b next) refl kept parts
units_alike_at f part write from (units.Subresources i levels) at next kept parts =
    says_alike_at f part write from (in_image i (at % levels) (at / levels) 0 0 0) (in_image i (next % levels) (next / levels) 0 0 0) refl kept parts

-- elements treat the bytes of a unit alike
covers_unit : (u : Units) (k : ℕ) (c : Byte) → IsOfUnit u k c → (e : Element) → covers e c ≡ covers e (unit_byte u k)
covers_unit (units.Bytes b) k c is e = ap (covers e) is
covers_unit (units.Subresources i levels) k c is (element.Memory d) = refl
covers_unit (units.Subresources i levels) k c is (element.Buffer d) = ap (covers (element.Buffer d)) is.3
covers_unit (units.Subresources i levels) k c is (element.Image d) = ap (covers (element.Image d)) is.3

of_unit : (u : Units) (k : ℕ) (c : Byte) → IsOfUnit u k c → resource_at c ≡ resource_at (unit_byte u k)
of_unit (units.Bytes b) k c is = ap resource_at is
of_unit (units.Subresources i levels) k c is = ap resource_at is.3

-- so the bytes of a unit are seen alike
pub unit_seen : (f : Frontier) (s : NewNode) (write : Spot) (from : ℕ) (access : Access) (u : Units) (k : ℕ) (c : Byte) → IsOfUnit u k c → (answer : Bool) → SaysSeen f s write from access (unit_byte u k) answer → SaysSeen f s write from access c answer
unit_seen f s write from access u k c is =
    let kept = parts_at f.parts (resource_at (unit_byte u k)) in
    says_alike f s write from access (unit_byte u k) c (of_unit u k c is) kept kept refl (λ ordered. record { within = λ x has. has; newer = λ x has le. has }) (λ x has. covers_unit u k c is x.element)

-- and by a transition
pub unit_seen_at : (f : Frontier) (part : Part) (write : Spot) (from : ℕ) (u : Units) (k : ℕ) (c : Byte) → IsOfUnit u k c → (answer : Bool) → SaysSeenAt f part write from (unit_byte u k) answer → SaysSeenAt f part write from c answer
unit_seen_at f part write from u k c is =
    let kept = parts_at f.parts (resource_at (unit_byte u k)) in
    says_alike_at f part write from (unit_byte u k) c (of_unit u k c is) kept kept refl (λ ordered. record { within = λ x has. has; newer = λ x has le. has }) (λ x has. covers_unit u k c is x.element) (covers_unit u k c is part.element)
