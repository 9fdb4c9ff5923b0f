use Rattle.std.proofs.Common.{◌≡◌, ◌∷◌, ◌&&◌, inl, inr, ⊎_elim, List, Bool, IsTrue, true, refl, sym, ◌∙◌, subst}
use Rattle.std.specs.Prelude.{Contains}
use Rattle.std.proofs.lemmas.Bool.{and_parts, and_from}
use Rattle.vk_model.specs.World.Bytes.{Byte}
use Rattle.vk_model.specs.Sync.Node.{Node, Barrier}
use Rattle.vk_model.specs.Sync.Edge.{edge, is_command}
use Rattle.vk_model.specs.Sync.Before.{IsNumbered}
use Rattle.vk_model.specs.Sync.Seen.{seen, makes_writes_available}
use Rattle.vk_model.proofs.Lists.Members.{contains-head, contains-tail, contains-cons}
use Rattle.vk_model.proofs.Lists.Truths.{bool_same, clash}
use Rattle.vk_model.specs.World.Bytes.{resource_at}
use Rattle.vk_order.specs.Bytes.{byte_of}
use Rattle.vk_order.specs.Limited.{IsMark, Reaches}
use Rattle.vk_order.specs.Inner.Tallies.{lines_of}
use Rattle.vk_order.proofs.LimitedLemmas.{seen_by_transition}
use Rattle.vk_order.proofs.KnownRows.{at_old, old_edge}
use Rattle.vk_order.proofs.ServeLemmas.{part_reached}
use Rattle.vk_order.proofs.frontier.Frontier.is_seen_at.Goals as goal
use Rattle.vk_order.proofs.PartLemmas.{from_slice}

pub returns-then-reaches : goal.returns-then-reaches
returns-then-reaches c = λ ns n w cached k numbers is part write on at le.
    let ls = lines_of c.args.self.now.tallies.items in
    let x = c.args.part.now in
    let b = byte_of c.args.byte in
    let law = seen_by_transition ns n numbers cached w k b write Barrier x.element part.act in
    let reached = part_reached (n ∷ ns) numbers ls n x part w c.args.write.line c.args.write.place (contains-tail n ns w write.there) on (at_old ns n numbers c.args.write.line w write.there ∙ at) in
    sym (law.1 (w, inl refl, reached.0 (sym c.reaches.ensures ∙ c.if-reaches.true)))

pub returns-then-marks : goal.returns-then-marks
returns-then-marks c = λ ns n w cached k numbers is part write on at le.
    let ls = lines_of c.args.self.now.tallies.items in
    let x = c.args.part.now in
    let b = byte_of c.args.byte in
    let law = seen_by_transition ns n numbers cached w k b write Barrier x.element part.act in
    let marks = sym (c.marks.ensures (n ∷ ns) ls w n cached numbers part (contains-tail n ns w write.there) on (at_old ns n numbers c.args.write.line w write.there ∙ at)) ∙ c.if-marks.true in
    let one = and_parts (is_command w.act && makes_writes_available cached (n ∷ ns) n b n.act) (edge (n ∷ ns) w n) marks in
    let two = and_parts (is_command w.act) (makes_writes_available cached (n ∷ ns) n b n.act) one.0 in
    sym (law.1 (n, inr (two.0, contains-head n ns, part.limited, two.1, one.1), inr (refl, part.limited)))

pub returns : goal.returns
returns c = λ ns n w cached k numbers is part write on at le.
    let ls = lines_of c.args.self.now.tallies.items in
    let x = c.args.part.now in
    let b = byte_of c.args.byte in
    let now = at_old ns n numbers c.args.write.line w write.there ∙ at in
    let law = seen_by_transition ns n numbers cached w k b write Barrier x.element part.act in
    let reached = part_reached (n ∷ ns) numbers ls n x part w c.args.write.line c.args.write.place (contains-tail n ns w write.there) on now in
    let marks = c.marks.ensures (n ∷ ns) ls w n cached numbers part (contains-tail n ns w write.there) on now in
    let marked = c.is_marked_at.ensures ns n w cached c.args.from numbers is part (from_slice c.parts_of.ensures (is.parts.ordered (resource_at b)) c.parts_from-parts.ensures) le write.there on at in
    let into : (m : Node) → IsMark cached (n ∷ ns) b w m → Reaches (n ∷ ns) m n → c.is_marked_at.result ≡ true = (λ m mark reach. by_mark ns n w m cached b numbers c.is_marked_at.result
    (λ e. clash (c.reaches.ensures ∙ reached.1 (subst (λ (y : Node). Reaches (n ∷ ns) y n) e reach)) c.if-reaches.false)
    (λ e all. clash (marks ∙ subst (λ (y : Node). IsTrue (is_command w.act && makes_writes_available cached (n ∷ ns) y b y.act && edge (n ∷ ns) w y)) (sym e) all) c.if-marks.false)
    (λ hm lim all. marked.1 (m, hm, lim, all, reach)) mark) in
    bool_same c.is_marked_at.result (seen cached (n ∷ ns) w n k b)
    (λ e. let r = marked.0 e in
    let one = and_parts (is_command w.act && makes_writes_available cached ns r.0 b r.0.act) (edge ns w r.0) r.3 in
    let two = and_parts (is_command w.act) (makes_writes_available cached ns r.0 b r.0.act) one.0 in
    law.1 (r.0, inr (two.0, contains-tail n ns r.0 r.1, r.2, two.1, old_edge ns n numbers w r.0 r.1 ∙ one.1), r.4))
    (λ h. let r = law.0 h in into r.0 r.1 r.2)
  where
    by_mark : (ns : List Node) (n w m : Node) (cached : Byte → Bool) (b : Byte) → IsNumbered (n ∷ ns) → (t : Bool) → (m ≡ w → t ≡ true) → (n ≡ m → IsTrue (is_command w.act && makes_writes_available cached (n ∷ ns) m b m.act && edge (n ∷ ns) w m) → t ≡ true)
        → (Contains ns m → IsTrue (Rattle.vk_order.specs.Limited.is_limited m.act) → IsTrue (is_command w.act && makes_writes_available cached ns m b m.act && edge ns w m) → t ≡ true) → IsMark cached (n ∷ ns) b w m → t ≡ true
    by_mark ns n w m cached b numbers t same new old (inl e) = same e
    by_mark ns n w m cached b numbers t same new old (inr (command, hm, lim, makes, e)) =
        let both = and_from (is_command w.act) (makes_writes_available cached ns m b m.act) command makes in
        ⊎_elim
        (λ f. new f (and_from (is_command w.act && makes_writes_available cached (n ∷ ns) m b m.act) (edge (n ∷ ns) w m) both e))
        (λ there. old there lim (and_from (is_command w.act && makes_writes_available cached ns m b m.act) (edge ns w m) both (sym (old_edge ns n numbers w m there) ∙ e)))
        (contains-cons n ns m hm)
