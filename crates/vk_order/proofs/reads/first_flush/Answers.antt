use Rattle.std.proofs.Common.{◌≡◌, ◌&&◌, Some, Bool, refl, ap, sym, ◌∙◌, length, false}
use Rattle.std.specs.Prelude.{slice_get, nat_lt}
use Rattle.std.proofs.lemmas.Bool.{le-ltb}
use Rattle.std.proofs.lemmas.Option.{slice_get_read}
use Rattle.std.proofs.Math.Bool.{and-false}
use Rattle.vk_model.specs.Sync.Seen.{flushes}
use Rattle.vk_order.specs.NodeViews.{act_of}
use Rattle.vk_order.specs.Bytes.{byte_of}
use Rattle.vk_order.proofs.AvailabilityLemmas.{below_more}
use Rattle.vk_order.proofs.reads.first_flush.Goals.{else-number-flush-via-then-number-flush+else-flushes, else-number-flush-via-else-number-flush}
use Rattle.vk_order.proofs.reads.first_flush.Goals as goal

pub loop-flush-preserved : goal.loop-flush-preserved
loop-flush-preserved c =
    let rows = c.args.rows.now in
    let k = c.loop-flush.flush in
    let row = c.index-rows-flush.result in
    let at : slice_get rows k ≡ Some row = slice_get_read rows (length rows) k row refl c.loop-flush-test.true c.index-rows-flush.is in
    let off : (nat_lt c.args.number k && flushes (act_of row.act) (byte_of c.args.byte)) ≡ false = elim c.else-number-flush.branch [
      | else-number-flush-via-then-number-flush+else-flushes w ↦ ap (λ (t : Bool). nat_lt c.args.number k && t) (sym w.flushes.ensures ∙ w.if-flushes.false) ∙ and-false (nat_lt c.args.number k)
      | else-number-flush-via-else-number-flush w ↦ ap (λ (t : Bool). t && flushes (act_of row.act) (byte_of c.args.byte)) (le-ltb c.args.number k w.if-number-flush.false)
    ] in
    below_more (λ j x. nat_lt c.args.number j && flushes (act_of x.act) (byte_of c.args.byte)) rows k row at off c.loop-flush.invariant
