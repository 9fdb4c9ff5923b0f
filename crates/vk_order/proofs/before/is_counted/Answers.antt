use Rattle.std.proofs.Common.{◌≡◌, List, ℕ, Some, None, sym, ap, ◌∙◌, get_or, rules}
use Rattle.std.specs.Prelude.{nat_lt, slice_get, slice_index_or}
use Rattle.std.proofs.lemmas.Option.{slice_get-get_or}
use Rattle.vk_order.specs.declared.clocks.Stamp.{Stamp}
use Rattle.vk_order.specs.Inner.Places.{index_in}
use Rattle.vk_order.proofs.BeforeLemmas.{counted_at, uncounted}
use Rattle.vk_order.proofs.before.is_counted.Goals as goal
use Rattle.vk_model.proofs.Lists.Items.{item_at}

pub returns-in-Some : goal.returns-in-Some
returns-in-Some c = λ rows q r at_q at_r on kept.
    let stamps = c.args.stamps.now in
    let s : Stamp = get_or stamps c.args.first c.index-stamps-first.result in
    let t : Stamp = c.index-stamps-second.result in
    let found : index_in (c.args.lines.now) c.args.line ≡ Some c.in-Some.at = search rules in
    let stamp_s : slice_get stamps c.args.first ≡ Some s = slice_get-get_or stamps c.args.first c.index-stamps-first.result c.requires.first in
    let stamp_t : slice_get stamps c.args.second ≡ Some t = slice_get-get_or stamps c.args.second t c.requires.second ∙ ap Some (sym c.index-stamps-second.is) in
    ap (nat_lt s.place) (c.count_at.ensures ∙ ap (λ (l : List ℕ). slice_index_or l c.in-Some.at 0) (c.as_slice.ensures.value ∙ ap (λ (x : Stamp). x.clock.items) (sym c.index-stamps-second.is)))
    ∙ counted_at rows stamps c.args.lines.now c.args.first c.args.second c.in-Some.at q r s t c.args.line kept at_q at_r stamp_s stamp_t on found

pub returns-in-None : goal.returns-in-None
returns-in-None c = λ rows q r at_q at_r on kept.
    let stamps = c.args.stamps.now in
    let none : index_in (c.args.lines.now) c.args.line ≡ None = search rules in
    uncounted rows stamps c.args.lines.now c.args.first c.args.second q r (item_at stamps c.args.first c.requires.first).0 (item_at stamps c.args.second c.requires.second).0 c.args.line kept at_q at_r
    (item_at stamps c.args.first c.requires.first).1 (item_at stamps c.args.second c.requires.second).1 on none
