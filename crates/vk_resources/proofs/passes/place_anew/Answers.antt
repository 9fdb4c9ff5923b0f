use Rattle.std.proofs.Common.{ℕ, List, [], ◌∷◌, BTreeMap, subst, sym, ◌∙◌}
use Rattle.std.specs.Prelude.{get_or}
use Rattle.std.proofs.lemmas.List.{take_all}
use Rattle.vk_backing.proofs.OpenPass.{lent}
use Rattle.vk_resources.specs.declared.resources.Placed.{Placed}
use Rattle.vk_resources.specs.Inner.PassEnds.{PlacesAnew}
use Rattle.vk_resources.proofs.PuttingAnew.{more_anew, none_anew, puts_anew, stays_anew}
use Rattle.vk_resources.proofs.passes.place_anew.Goals.{in-Some+in-Some-get_mut, in-Some+in_default-get_mut, in_default}
use Rattle.vk_resources.proofs.passes.place_anew.Goals as goal

pub loop-id-init : goal.loop-id-init
loop-id-init c = none_anew c.args.backing.now c.args.resources.now.entries

pub loop-id-preserved : goal.loop-id-preserved
loop-id-preserved c =
    let ids = c.args.ids.now in
    more_anew c.args.backing.now c.args.resources.now.entries c.loop-id.resources.entries c.match-place.resources.entries ids c.loop-id.id-index c.loop-id-test.true c.loop-id.invariant
    (elim c.match-place.branch [
      | in-Some+in-Some-get_mut w ↦
          let spot = w.in-Some.spot in
          let was = w.in-Some-get_mut.placed.now in
          let now : Placed = record { size = was.size; object = spot.memory; offset = spot.offset } in
          let at = sym (w.in-Some-get_mut.ensures.value) in
          let writes = lent c.loop-id.resources (w.get_mut.follows.lender now) _ now was (w.get_mut.follows.holds now) at in
          let lies = w.in-Some.ensures.lies in
          subst (λ (r : BTreeMap ℕ Placed). PlacesAnew c.args.backing.now (get_or ids c.loop-id.id-index 0 ∷ []) c.loop-id.resources.entries r.entries) (sym w.resources-is)
          (puts_anew c.args.backing.now (get_or ids c.loop-id.id-index 0) lies.0 spot c.loop-id.resources.entries (w.get_mut.follows.lender now).entries was lies.1 at writes.0 writes.1)
      | in-Some+in_default-get_mut w ↦
          let none = sym (w.in_default-get_mut.ensures.value) in
          subst (λ (r : BTreeMap ℕ Placed). PlacesAnew c.args.backing.now (get_or ids c.loop-id.id-index 0 ∷ []) c.loop-id.resources.entries r.entries) (sym (w.resources-is ∙ w.get_mut.follows.holds-at-none))
          (stays_anew c.args.backing.now (get_or ids c.loop-id.id-index 0) c.loop-id.resources.entries (λ a p has at. let both = sym none ∙ at in cc))
      | in_default w ↦
          let none = c.place.ensures.none w.in_default.is in
          subst (λ (r : BTreeMap ℕ Placed). PlacesAnew c.args.backing.now (get_or ids c.loop-id.id-index 0 ∷ []) c.loop-id.resources.entries r.entries) (sym w.resources-is)
          (stays_anew c.args.backing.now (get_or ids c.loop-id.id-index 0) c.loop-id.resources.entries (λ a p has at. let both = sym none ∙ has in cc))
    ])

pub returns : goal.returns
returns c = subst (λ (l : List ℕ). PlacesAnew c.args.backing.now l c.args.resources.now.entries c.loop-id.resources.entries) (take_all c.loop-id.id-index c.args.ids.now c.loop-id-test.false) c.loop-id.invariant
