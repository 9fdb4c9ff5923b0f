use Rattle.std.proofs.Common.{arith, slice_index}
use Rattle.vk_events.proofs.EventLemmas.{is_taken, none_taken, in_events}
use Rattle.vk_events.proofs.LeftLemmas.{read_item}
use Rattle.vk_events.proofs.events.Events.take_next.Goals as goal

pub returns-in_default-clause-none : goal.returns-in_default-clause-none
returns-in_default-clause-none c ns finished left is =
    let f = c.in_default.ensures.none in
    none_taken c.args.self.now ns finished left is c.take_next.new.self f.0 (f.1 is.counts (slice_index is.fronts) (slice_index is.fronts) is.taken is.hanging)

pub index-requires : goal.index-requires
index-requires c =
    let r = c.requires in
    let is = r.3 in
    let f = c.in-Some.ensures.some is.counts (slice_index is.fronts) (slice_index is.fronts) is.taken is.hanging in
    let lt = in_events c.args.self.now r.0 r.1 r.2 is c.in-Some.number f.0.there in
    omega arith

pub returns-clause-some : goal.returns-clause-some
returns-clause-some c ns finished left is =
    let f = c.in-Some.ensures.some is.counts (slice_index is.fronts) (slice_index is.fronts) is.taken is.hanging in
    let lt = in_events c.args.self.now ns finished left is c.in-Some.number f.0.there in
    is_taken c.args.self.now ns finished left is c.take_next.new.self c.in-Some.number f.0 f.1 c.index.result.now
    (read_item c.args.self.now.events.items c.in-Some.number c.index.result.now lt c.index.ensures)
