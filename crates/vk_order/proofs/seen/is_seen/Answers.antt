use Rattle.std.proofs.Common.{◌≡◌, Some, Bool, [], refl, ap, sym, ◌∙◌, subst, length}
use Rattle.std.specs.Prelude.{slice_get}
use Rattle.std.proofs.lemmas.Option.{slice_get_read}
use Rattle.vk_model.specs.Sync.Seen.{seen}
use Rattle.vk_order.specs.declared.acts.Row.{Row}
use Rattle.vk_order.specs.NodeViews.{node_of, nodes_after}
use Rattle.vk_order.specs.Bytes.{byte_of}
use Rattle.vk_order.specs.Wide.{access_of}
use Rattle.vk_order.specs.Inner.Availability.{IsFrom, IsInTime}
use Rattle.vk_order.proofs.SeenLemmas.{seen_rows}
use Rattle.vk_order.proofs.seen.is_seen.Goals as goal
use Rattle.vk_model.proofs.Lists.Items.{some_same}

pub returns : goal.returns
returns c = λ cached q r at_q at_r same kept.
    let rows = c.args.rows.now in
    let i = c.args.writer in
    let j = c.args.reader in
    let b = byte_of c.args.access.byte in
    let k = access_of c.args.access.access in
    let q' : Row = c.index-rows-writer.result in
    let r' : Row = c.index-rows-reader.result in
    let at_i : slice_get rows i ≡ Some q' = slice_get_read rows (length rows) i q' refl c.requires.writer c.index-rows-writer.is in
    let at_j : slice_get rows j ≡ Some r' = slice_get_read rows (length rows) j r' refl c.requires.reader c.index-rows-reader.is in
    let from : IsFrom rows i b (cached b) c.available_from.result = subst (λ (t : Bool). IsFrom rows i b t c.available_from.result) (sym same) c.available_from.ensures in
    let until : IsInTime rows j b (cached b) k c.served_until.result = subst (λ (t : Bool). IsInTime rows j b t k c.served_until.result) (sym same) c.served_until.ensures in
    let known = seen_rows rows cached b k i j q' r' at_i at_j c.available_from.result from c.served_until.result until c.in_ok-sees.sees (λ g u. c.in_ok-sees.ensures g u kept) in
    known
    ∙ ap (λ (x : Row). seen cached (nodes_after [] rows) (node_of i x) (node_of j r') k b) (some_same q' q (sym at_i ∙ at_q))
    ∙ ap (λ (x : Row). seen cached (nodes_after [] rows) (node_of i q) (node_of j x) k b) (some_same r' r (sym at_j ∙ at_r))
