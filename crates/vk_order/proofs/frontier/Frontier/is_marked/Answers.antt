use Rattle.std.proofs.Common.{◌≡◌, ◌&&◌, Some, ⊎_elim, refl, ap, sym, ◌∙◌, subst, length, arith}
use Rattle.std.specs.Prelude.{slice_get, Contains}
use Rattle.std.proofs.lemmas.Bool.{cases_lt, and_parts}
use Rattle.std.proofs.lemmas.Option.{slice_get_read, slice_get-get_or}
use Rattle.vk_model.specs.World.Bytes.{resource_at}
use Rattle.vk_model.specs.Sync.Edge.{edge, is_command}
use Rattle.vk_model.specs.Sync.Seen.{makes_writes_available}
use Rattle.vk_model.proofs.Sync.Paths.{edge_forward}
use Rattle.vk_model.proofs.Lists.Members.{place_has}
use Rattle.vk_model.proofs.Lists.Truths.{no, clash}
use Rattle.vk_order.specs.declared.parts.Part.{Part}
use Rattle.vk_order.specs.Bytes.{byte_of}
use Rattle.vk_order.specs.Inner.Parts.{IsPart}
use Rattle.vk_order.specs.Inner.Tallies.{lines_of}
use Rattle.vk_order.proofs.ServeLemmas.{available_covers}
use Rattle.vk_order.proofs.frontier.Frontier.is_marked.Goals as goal
use Rattle.vk_model.proofs.Lists.Items.{some_same}

pub returns-then-is_mark : goal.returns-then-is_mark
returns-then-is_mark c = λ ns n w cached from is new_node any parts le hw on at.
    let xs = c.args.parts.now in
    let i = c.loop-part.part-index in
    let x = c.part-item.result in
    let there : slice_get xs i ≡ Some x = slice_get_read xs (length xs) i x refl c.loop-part-test.true c.part-item.is in
    let of = is.parts.each (resource_at (byte_of c.args.byte)) x (parts.within x (place_has xs i x there)) in
    let both = (c.is_mark.ensures ns n w of.0 cached from is new_node any parts le hw on at of.1).0 c.if-is_mark.true in
    ((λ h. (of.0, of.1.there, of.1.limited, both.0, both.1)), (λ s. refl))

pub loop-part-preserved : goal.loop-part-preserved
loop-part-preserved c = λ ns n w m cached from is new_node any parts le hw on at i x lt e part both.
    ⊎_elim
    (λ low. c.loop-part.invariant ns n w m cached from is new_node any parts le hw on at i x low e part both)
    (λ high.
    let xs = c.args.parts.now in
    let k = c.loop-part.part-index in
    let here : slice_get xs k ≡ Some c.part-item.result = slice_get_read xs (length xs) k c.part-item.result refl c.loop-part-test.true c.part-item.is in
    let at_k : k ≡ i = omega arith in
    let same : x ≡ c.part-item.result = some_same x c.part-item.result (sym e ∙ ap (slice_get xs) (sym at_k) ∙ here) in
    clash ((c.is_mark.ensures ns n w m cached from is new_node any parts le hw on at (subst (λ (y : Part). IsPart ns (lines_of c.args.self.now.tallies.items) m y) same part)).1 both) c.if-is_mark.false)
    (cases_lt i c.loop-part.part-index)

pub returns : goal.returns
returns c = λ ns n w cached from is new_node any parts le hw on at. (
  (λ h. no h),
  (λ (m, hm, lim, marks, serves).
      let xs = c.args.parts.now in
      let b = byte_of c.args.byte in
      let makes = (and_parts (is_command w.act) (makes_writes_available cached ns m b m.act) (and_parts (is_command w.act && makes_writes_available cached ns m b m.act) (edge ns w m) marks).0).1 in
      let kept = is.parts.all (resource_at b) m hm (available_covers cached ns b m m.act lim makes) in
      let up = edge_forward ns w m (and_parts (is_command w.act && makes_writes_available cached ns m b m.act) (edge ns w m) marks).1 in
      let has : Contains xs kept.0 = parts.newer kept.0 kept.1 (let of = kept.2.number in omega arith) in
      let there : slice_get xs has.0 ≡ Some kept.0 = slice_get-get_or xs has.0 kept.0 has.1 ∙ ap Some has.2 in
      absurd (c.loop-part.invariant ns n w m cached from is new_node any parts le hw on at has.0 kept.0 (let i = has.1 in let j = c.loop-part-test.false in omega arith) there kept.2 (marks, serves))),
)
