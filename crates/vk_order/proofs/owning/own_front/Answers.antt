use Rattle.std.proofs.Common.{◌≡◌, ◌+◌, ◌^◌, ◌<◌, ◌≤◌, Some, refl, length, ap, sym, ◌∙◌, arith}
use Rattle.std.specs.Prelude.{slice_get}
use Rattle.std.proofs.lemmas.List.{length-map}
use Rattle.std.proofs.lemmas.Option.{slice_get_read}
use Rattle.vk_order.specs.declared.fronts.Front.{Front}
use Rattle.vk_order.specs.declared.lines.Line.{Line}
use Rattle.vk_order.specs.declared.tallies.LineTally.{LineTally}
use Rattle.vk_order.specs.NodeViews.{act_of}
use Rattle.vk_order.specs.Lines.{class_of, class_on, place}
use Rattle.vk_order.specs.Inner.Counts.{shows_of, AreAvailable, AreVisible}
use Rattle.vk_order.specs.Inner.Places.{index_in}
use Rattle.vk_order.specs.Inner.Tallies.{lines_of}
use Rattle.vk_order.proofs.OwnLemmas.{lines_length, count_there, class_coming, index_low}
use Rattle.vk_order.proofs.OwnCounts.{own_made}
use Rattle.vk_order.proofs.KeptLemmas.{place_within}
use Rattle.vk_order.proofs.TallyLemmas.{line_there}
use Rattle.vk_order.proofs.owning.own_front.Goals as goal

pub returns : goal.returns
returns c = λ ns n coming tallied.
    let ts = c.args.tallies.now in
    let ls = lines_of ts in
    let row = c.args.row.now in
    let known = c.args.front.now in
    let line : Line = class_on row.point.queue (act_of row.act) in
    let class : class_of n ≡ line = class_coming ns ls n row known coming in
    let t : LineTally = c.index-tallies-at.result in
    let here : slice_get ts c.args.at ≡ Some t = slice_get_read ts (length ts) c.args.at t refl (index_low ts line c.args.at c.requires) c.index-tallies-at.is in
    let own_line : t.line ≡ line = line_there ts line c.args.at t c.requires here in
    let total : t.count ≡ place ns line (length ns) = count_there ns ts tallied line c.args.at t c.requires here in
    let count : t.count ≡ place ns line n.number = total ∙ ap (place ns line) (sym coming.numbers.0) in
    let low : t.count + 1 < 2 ^ 32 = (let le = place_within ns line (length ns) in let few = coming.few in omega arith) in
    let short : length known.counts.items ≤ length ls = (let le = coming.front.clock.short in let e = length-map known.counts.items (λ d. d.clock) in omega arith) in
    let made_available : AreAvailable ns ls row.point.queue (act_of row.act) known.counts.items c.count_available.new.counts.items = c.in_ok-count_available.ensures ns tallied (let e = lines_length ts in omega arith) in
    let made_visible : AreVisible ls (shows_of (act_of row.act)) c.count_available.new.counts.items c.show.new.counts.items = c.show.ensures in
    let own : Front = record { counts = c.count_own.new.counts } in
    own_made ns ls n row known own coming c.count_available.new.counts.items c.show.new.counts.items made_available made_visible
    (c.in_ok-count_own.ensures ns ls n (class ∙ sym own_line) (ap (index_in ls) own_line ∙ c.requires) (count ∙ ap (λ (l : Line). place ns l n.number) (sym own_line)) low (let e = made_visible.long in let le = made_available.short in omega arith))
