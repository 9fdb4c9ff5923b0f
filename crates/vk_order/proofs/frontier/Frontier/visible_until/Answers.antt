use Rattle.std.proofs.Common.{◌≡◌, Some, length, refl, sym, subst}
use Rattle.std.specs.Prelude.{slice_get}
use Rattle.std.proofs.lemmas.Option.{slice_get_read}
use Rattle.vk_model.proofs.Lists.Members.{place_has}
use Rattle.vk_model.specs.World.Bytes.{Byte}
use Rattle.vk_model.specs.Sync.Seen.{covers}
use Rattle.vk_order.specs.declared.parts.Part.{Part}
use Rattle.vk_order.specs.Inner.Alone.{AlwaysShows}
use Rattle.vk_order.specs.Units.{unit_byte}
use Rattle.vk_order.specs.Wide.{access_of}
use Rattle.vk_order.proofs.UnseenLemmas.{units_visible}
use Rattle.vk_order.proofs.frontier.Frontier.visible_until.Goals as goal

pub returns-clause-seen : goal.returns-clause-seen
returns-clause-seen c = λ from among k low high.
    let xs = c.args.parts.now in
    let i = c.in_ok-index.index in
    let x = c.index-parts-index.result in
    let here : slice_get c.args.parts.now c.in_ok-index.index ≡ Some c.index-parts-index.result = slice_get_read xs (length xs) i x refl c.in_ok-index.ensures.within c.index-parts-index.is in
    units_visible c.args.self.now c.args.new_node.now c.args.write from c.args.access c.args.units c.args.at k x (λ ordered. (among ordered).within x (place_has xs i x here)) (subst (λ (y : Part). covers y.element (unit_byte c.args.units k) ≡ covers y.element (unit_byte c.args.units c.args.at)) (sym c.index-parts-index.is) (c.element_until-until.ensures.alike k low high)) (subst (λ (b : Byte). AlwaysShows c.args.self.now c.args.new_node.now c.args.write (access_of c.args.access) b x) c.byte-byte.ensures (c.in_ok-index.ensures.shows x here))
