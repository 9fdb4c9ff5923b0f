use Rattle.std.proofs.Common.{◌≡◌, ◌↔◌, ◌≤◌, ◌<◌, ◌∷◌, ◌&&◌, ℕ, List, Bool, Option, Some, None, IsTrue, IfSome, IfNone, ⊎_elim, refl, sym, subst, length, arith, is_some}
use Rattle.std.specs.Prelude.{slice_get, Contains}
use Rattle.std.proofs.lemmas.Bool.{and_parts}
use Rattle.std.proofs.lemmas.Option.{slice_get_cases}
use Rattle.vk_model.specs.World.Bytes.{Byte, resource_at}
use Rattle.vk_model.specs.Sync.Node.{Node}
use Rattle.vk_model.specs.Sync.Edge.{edge, is_command}
use Rattle.vk_model.specs.Sync.Before.{IsNumbered}
use Rattle.vk_model.specs.Sync.Seen.{makes_writes_available}
use Rattle.vk_model.proofs.Sync.Paths.{edge_forward}
use Rattle.vk_model.proofs.Lists.Members.{place_has}
use Rattle.vk_model.proofs.Lists.Truths.{no}
use Rattle.vk_order.specs.declared.frontier.Frontier.{Frontier}
use Rattle.vk_order.specs.declared.parts.Part.{Part}
use Rattle.vk_order.specs.declared.parts.Spot.{Spot}
use Rattle.vk_order.specs.Bytes.{byte_of}
use Rattle.vk_order.specs.Lines.{line_of, place}
use Rattle.vk_order.specs.Limited.{is_limited, Reaches}
use Rattle.vk_order.specs.Frontiers.{IsFrontier}
use Rattle.vk_order.specs.Inner.Alone.{AlwaysMarks, NeverMarks}
use Rattle.vk_order.specs.Inner.Parts.{IsPart, AreFrom, parts_at}
use Rattle.vk_order.specs.Inner.Tallies.{lines_of}
use Rattle.vk_order.proofs.ServeLemmas.{available_covers}
use Rattle.vk_order.proofs.frontier.Frontier.is_marked_at.Goals as goal

module _ (f : Frontier) (part : Part) (write : Spot) (b : Byte) (xs : List Part) (ns : List Node) (n w : Node) (cached : Byte → Bool) (from : ℕ) (numbers : IsNumbered (n ∷ ns)) (is : IsFrontier f ns) (own : IsPart (n ∷ ns) (lines_of f.tallies.items) n part)
    (among : AreFrom from (parts_at f.parts (resource_at b)) xs) (le : from ≤ w.number) (hw : Contains ns w) (on : line_of w ≡ Some write.line) (at : place ns write.line w.number ≡ write.place) where
  by_index : (r : Option ℕ) → IfSome r (λ i. i < length xs) → IfSome r (λ i. (x : Part) → slice_get xs i ≡ Some x → AlwaysMarks f part write b x) → IfNone r ((x : Part) → Contains xs x → NeverMarks f part write b x)
      → IsTrue (is_some r) ↔ ((m : Node) × Contains ns m × IsTrue (is_limited m.act) × IsTrue (is_command w.act && makes_writes_available cached ns m b m.act && edge ns w m) × Reaches (n ∷ ns) m n)
  by_index (Some i) lt marks none = (
    (λ h. ⊎_elim
        (λ there.
        let of = is.parts.each (resource_at b) there.0 (among.within there.0 (place_has xs i there.0 there.2)) in
        let both = marks there.0 there.2 ns n w of.0 cached numbers own of.1 hw on at in
        (of.0, of.1.there, of.1.limited, both.0, both.1))
        (λ past. let far = past.0 in absurd (omega arith))
        (slice_get_cases xs i).1),
    (λ h. refl),
  )
  by_index None lt marks none = (
    (λ h. no h),
    (λ (m, hm, lim, marked, reached).
        let e = and_parts (is_command w.act && makes_writes_available cached ns m b m.act) (edge ns w m) marked in
        let makes = (and_parts (is_command w.act) (makes_writes_available cached ns m b m.act) e.0).1 in
        let kept = is.parts.all (resource_at b) m hm (available_covers cached ns b m m.act lim makes) in
        let up = edge_forward ns w m e.1 in
        let has : Contains xs kept.0 = among.newer kept.0 kept.1 (let of = kept.2.number in omega arith) in
        absurd (none kept.0 has ns n w m cached numbers own kept.2 hw on at (marked, reached))),
  )

pub returns : goal.returns
returns c = λ ns n w cached from numbers is part parts le hw on at.
    subst
    (λ (t : Bool). IsTrue t ↔ ((m : Node) × Contains ns m × IsTrue (is_limited m.act) × IsTrue (is_command w.act && makes_writes_available cached ns m (byte_of c.args.byte) m.act && edge ns w m) × Reaches (n ∷ ns) m n))
    (sym c.is_some.ensures)
    (by_index c.args.self.now c.args.part.now c.args.write (byte_of c.args.byte) c.args.parts.now ns n w cached from numbers is part parts le hw on at c.marked_by.result c.marked_by.ensures.within c.marked_by.ensures.marks c.marked_by.ensures.none)
