use Rattle.std.proofs.Common.{◌++◌, List, [], refl, subst, length, take, nat_lt, get_or, arith}
use Rattle.std.proofs.lemmas.Bool.{le-ltb}
use Rattle.std.proofs.lemmas.List.{take_all}
use Rattle.std.proofs.lemmas.Option.{slice_get-get_or, slice_get_read}
use Rattle.vk_order.specs.declared.acts.Row.{Row}
use Rattle.vk_order.specs.NodeViews.{nodes_after}
use Rattle.vk_events.specs.Happens.{unseen}
use Rattle.vk_events.specs.IsEvents.{IsEvents}
use Rattle.vk_offers.proofs.Happening.{nothing_new, row_added}
use Rattle.vk_offers.proofs.happenings.add_rows.Goals as goal

pub add-requires : goal.add-requires
add-requires c =
    let r = c.requires.follow in
    let rows = c.args.rows.now in
    let counts = c.args.counts.now in
    let k = c.loop-index.index in
    let at = slice_get_read rows (length rows) k c.index-rows-index.result refl c.loop-index-test.true c.index-rows-index.is in
    let own = slice_get-get_or counts k [] (let lt = c.loop-index-test.true in let same = c.requires.lengths in omega arith) in
    let old = c.loop-index.invariant r.0 r.1 (λ n. nat_lt n.number (length r.0)) r.2 (nothing_new c.args.events.now r.0 r.1 r.2 r.3) r.4 (λ n le. le-ltb n.number (length r.0) le) in
    (nodes_after r.0 (take k rows), r.1, r.1, r.2 ++ unseen (nodes_after r.0 (take k rows)) r.1 (λ n. nat_lt n.number (length r.0)), old, r.4 k c.index-rows-index.result (get_or counts k []) at own)

pub loop-index-preserved : goal.loop-index-preserved
loop-index-preserved c = λ ns finished seen left is follow fresh.
    let rows = c.args.rows.now in
    let counts = c.args.counts.now in
    let k = c.loop-index.index in
    let at = slice_get_read rows (length rows) k c.index-rows-index.result refl c.loop-index-test.true c.index-rows-index.is in
    let own = slice_get-get_or counts k [] (let lt = c.loop-index-test.true in let same = c.requires.lengths in omega arith) in
    let old = c.loop-index.invariant ns finished seen left is follow fresh in
    row_added c.add.new.self ns rows k c.index-rows-index.result at old.numbers finished seen left fresh
    (c.in_ok-add.ensures.left (nodes_after ns (take k rows)) finished finished (left ++ unseen (nodes_after ns (take k rows)) finished seen) old
    (follow k c.index-rows-index.result (get_or counts k []) at own))

pub returns : goal.returns
returns c = λ ns finished seen left is follow fresh.
    subst (λ (rs : List Row). IsEvents c.loop-index.events (nodes_after ns rs) finished (left ++ unseen (nodes_after ns rs) finished seen))
    (take_all c.loop-index.index c.args.rows.now c.loop-index-test.false) (c.loop-index.invariant ns finished seen left is follow fresh)
