use Rattle.std.proofs.Common.{◌≡◌, Some, length, refl, sym, ◌∙◌, subst}
use Rattle.std.specs.Prelude.{slice_get}
use Rattle.std.proofs.lemmas.Option.{slice_get_read}
use Rattle.vk_order.specs.declared.parts.Part.{Part}
use Rattle.vk_order.specs.Bytes.{byte_of}
use Rattle.vk_order.specs.Wide.{access_of}
use Rattle.vk_order.specs.Inner.Alone.{AlwaysShows}
use Rattle.vk_order.proofs.frontier.Frontier.shows_at.Goals as goal
use Rattle.vk_model.proofs.Lists.Items.{some_same}

pub returns-then-index-parts-clause-shows : goal.returns-then-index-parts-clause-shows
returns-then-index-parts-clause-shows c = λ yes x at.
    let xs = c.args.parts.now in
    let one = c.index-parts-index.result in
    let here : slice_get c.args.parts.now c.args.index ≡ Some c.index-parts-index.result = slice_get_read xs (length xs) c.args.index one refl c.if-index-parts.true c.index-parts-index.is in
    subst (λ (y : Part). AlwaysShows c.args.self.now c.args.new_node.now c.args.write (access_of c.args.access) (byte_of c.args.byte) y) (sym (some_same x one (sym at ∙ here))) (c.shows_alone.ensures yes)
