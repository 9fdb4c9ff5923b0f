use Rattle.std.proofs.Common.{◌≡◌, Some, inr, ⊎_elim, refl, ap, sym, ◌∙◌, subst, length, arith}
use Rattle.std.specs.Prelude.{slice_get, Contains}
use Rattle.std.proofs.lemmas.Bool.{cases_lt}
use Rattle.std.proofs.lemmas.Option.{slice_get_read, slice_get-get_or}
use Rattle.vk_model.specs.World.Bytes.{resource_at}
use Rattle.vk_model.proofs.Lists.Members.{place_has}
use Rattle.vk_model.proofs.Lists.Truths.{no, clash}
use Rattle.vk_order.specs.declared.parts.Part.{Part}
use Rattle.vk_order.specs.Bytes.{byte_of}
use Rattle.vk_order.specs.Wide.{access_of}
use Rattle.vk_order.specs.Inner.Parts.{IsPart}
use Rattle.vk_order.specs.Inner.Tallies.{lines_of}
use Rattle.vk_order.proofs.ServeLemmas.{open_covers, reach_later}
use Rattle.vk_order.proofs.frontier.Frontier.is_served.Goals as goal
use Rattle.vk_model.proofs.Lists.Items.{some_same}

pub returns-then-gives : goal.returns-then-gives
returns-then-gives c = λ ns n m cached from is new_node any parts le hm on at.
    let xs = c.args.parts.now in
    let i = c.loop-part.part-index in
    let x = c.part-item.result in
    let there : slice_get xs i ≡ Some x = slice_get_read xs (length xs) i x refl c.loop-part-test.true c.part-item.is in
    let of = is.parts.each (resource_at (byte_of c.args.byte)) x (parts.within x (place_has xs i x there)) in
    let both = (c.gives.ensures ns n m of.0 cached new_node any of.1 hm on at).0 c.if-gives.true in
    ((λ h. inr (of.0, of.1.there, of.1.limited, both.0, both.1)), (λ s. refl))

pub loop-part-preserved : goal.loop-part-preserved
loop-part-preserved c = λ ns n m q cached new_node any hm on at i x lt e part both.
    ⊎_elim
    (λ low. c.loop-part.invariant ns n m q cached new_node any hm on at i x low e part both)
    (λ high.
    let xs = c.args.parts.now in
    let k = c.loop-part.part-index in
    let here : slice_get xs k ≡ Some c.part-item.result = slice_get_read xs (length xs) k c.part-item.result refl c.loop-part-test.true c.part-item.is in
    let at_k : k ≡ i = omega arith in
    let same : x ≡ c.part-item.result = some_same x c.part-item.result (sym e ∙ ap (slice_get xs) (sym at_k) ∙ here) in
    clash ((c.gives.ensures ns n m q cached new_node any (subst (λ (y : Part). IsPart ns (lines_of c.args.self.now.tallies.items) q y) same part) hm on at).1 both) c.if-gives.false)
    (cases_lt i c.loop-part.part-index)

pub returns : goal.returns
returns c = λ ns n m cached from is new_node any parts le hm on at. (
  (λ h. no h),
  (λ s. ⊎_elim
      (λ known. clash ((c.shows.ensures ns n m new_node hm on at any).1 known) c.if-shows.false)
      (λ (q, hq, lim, opened, r).
      let xs = c.args.parts.now in
      let kept = is.parts.all (resource_at (byte_of c.args.byte)) q hq (open_covers cached ns n q (access_of c.args.access) (byte_of c.args.byte) lim opened) in
      let later = reach_later ns m q r in
      let has : Contains xs kept.0 = parts.newer kept.0 kept.1 (let of = kept.2.number in omega arith) in
      let there : slice_get xs has.0 ≡ Some kept.0 = slice_get-get_or xs has.0 kept.0 has.1 ∙ ap Some has.2 in
      absurd (c.loop-part.invariant ns n m q cached new_node any hm on at has.0 kept.0 (let a = has.1 in let b = c.loop-part-test.false in omega arith) there kept.2 (opened, r)))
      s),
)
