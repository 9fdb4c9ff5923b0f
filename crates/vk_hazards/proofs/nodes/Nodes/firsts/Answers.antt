use Rattle.std.proofs.Common.{◌≡◌, ⊎_elim, ◌∷◌, ◌++◌, ◌+◌, [], List, Some, None, Option, IsTrue, ap, sym, subst, arith, rules}
use Rattle.std.specs.Prelude.{Contains, IfSome, IfNone}
use Rattle.std.proofs.lemmas.List.Elements.{Contains-append_cases}
use Rattle.vk_model.specs.Sync.Node.{Node, nodes}
use Rattle.vk_model.proofs.Lists.Members.{only_one}
use Rattle.vk_model.proofs.Sync.Numbers.{number_below, numbered}
use Rattle.vk_model.specs.Trace.Point.{Past}
use Rattle.vk_order.specs.Bytes.{byte_of}
use Rattle.vk_order.specs.Lines.{class_of, IsPlaced}
use Rattle.vk_hazards.specs.Hazards.{node_at}
use Rattle.vk_hazards.specs.declared.availability.First.{First}
use Rattle.vk_hazards.specs.Links.{makes_available}
use Rattle.vk_hazards.specs.Inner.Availability.{MakesAvailable, IsListed}
use Rattle.vk_hazards.proofs.AvailabilityLemmas.{Each, AllBelow, each_more, all_more, all_listed}
use Rattle.vk_hazards.proofs.nodes.Nodes.firsts.Goals.{in-Some+in_ok-push, in_default}
use Rattle.vk_hazards.proofs.nodes.Nodes.firsts.Goals as goal

pub loop-number-preserved : goal.loop-number-preserved
loop-number-preserved c =
    let past = c.args.self.now in
    let w = node_at c.args.write.now.by in
    let b = byte_of c.args.write.now.byte in
    let k = c.loop-number.number in
    let old = c.loop-number.firsts.items in
    let before = c.loop-number.invariant in
    elim c.match-new_first.branch [
      | in-Some+in_ok-push v ↦
          let own : First = v.in-Some.first in
          let is : c.new_first.result ≡ Some own = search rules in
          let some = subst (λ (o : Option First). IfSome o (λ f. (n : Node) × (n.number ≡ k) × MakesAvailable past w b f n)) is c.new_first.ensures.some in
          let at = some.1 in
          let number = some.2.number in
          let items : c.match-new_first.firsts.items ≡ old ++ own ∷ [] = search rules in
          record {
            within = λ f has. ⊎_elim (λ (low : Contains old f). let less = before.within f low in omega arith) (λ (new : Contains (own ∷ []) f). let same : own.number ≡ f.number = ap (λ (f : First). f.number) (only_one own f new) in omega arith)
                (Contains-append_cases old (own ∷ []) f (subst (λ (l : List First). Contains l f) items has));
            each = subst (λ (l : List First). Each past w b l) (sym items) (each_more past w b old own some.0 some.2 before.each);
            all = subst (λ (l : List First). AllBelow past w b l (k + 1)) (sym items) (all_more past w b old k own some.0 some.2 at before.all);
          }
      | in_default v ↦
          let is : c.new_first.result ≡ None = search rules in
          let items : c.match-new_first.firsts.items ≡ old = search rules in
          let slice : c.as_slice.result.now ≡ old = search rules in
          let none = subst (λ (o : Option First). IfNone o ((n : Node) → Contains (nodes past) n → n.number ≡ k → IsTrue (makes_available past w b n) → IsListed c.as_slice.result.now (class_of n))) is c.new_first.ensures.none in
          record {
            within = λ f has. let less = before.within f (subst (λ (l : List First). Contains l f) items has) in omega arith;
            each = subst (λ (l : List First). Each past w b l) (sym items) before.each;
            all = subst (λ (l : List First). AllBelow past w b l (k + 1)) (sym items)
                (all_listed past w b old k before.within before.each (λ n cn is h. subst (λ (l : List First). IsListed l (class_of n)) slice (none n cn is h)) before.all);
          }
    ]

pub returns : goal.returns
returns c = record {
  placed = subst (λ (past : Past). IsPlaced (nodes past)) c.self.view_is c.self.invariant.placed;
  each = c.loop-number.invariant.each;
  all = λ n cn h. c.loop-number.invariant.all n cn (let lt = number_below (nodes c.args.self.now) (numbered c.args.self.now) n cn in let end = c.count-number-end.ensures in let le = c.loop-number-test.false in omega arith) h;
}
