use Rattle.std.proofs.Common.{arith}
use Rattle.std.proofs.lemmas.Option.{slice_get_within}
use Rattle.vk_device.proofs.Following.{fits_so_far}
use Rattle.vk_device.proofs.Running.{runnable, work_of}
use Rattle.vk_device.proofs.device.Device.written.Goals as goal

pub index-requires : goal.index-requires
index-requires c =
    let m = c.requires in
    let work = work_of m.s.front.past m.s.done c.args.self.now.offers m.led.offers c.args.piece m.among c.args.self.now.works.items m.led.works in
    let low = slice_get_within c.args.self.now.works.items c.args.piece.command work.0 work.1 in
    let long = c.args.self.now.works.ok.0 in
    omega (arith, low, long)

pub written-requires : goal.written-requires
written-requires c =
    let m = c.requires in
    let run = c.direct_runs_are_runs.ensures m.t m.steps m.s _ m.led.run in
    let fits = fits_so_far c.no_fault_is_sound.ensures m.t m.s (c.defined_runs_follow.ensures m.t m.steps m.s run) m.sound in
    let can = runnable m.t m.steps m.s c.args.self.now m.led c.args.piece m.among c.index.result.now c.index.ensures run m.sound.faultless c.commands_name_live.ensures fits c.offered_are_pieces.ensures.pieces c.pieces_are_byte_writes.ensures in
    can.ready

pub returns : goal.returns
returns c = λ t steps s led sound.
    let run = c.direct_runs_are_runs.ensures t steps s _ led.run in
    let fits = fits_so_far c.no_fault_is_sound.ensures t s (c.defined_runs_follow.ensures t steps s run) sound in
    let can = runnable t steps s c.args.self.now led c.args.piece c.requires.among c.index.result.now c.index.ensures run sound.faultless c.commands_name_live.ensures fits c.offered_are_pieces.ensures.pieces c.pieces_are_byte_writes.ensures in
    c.written.ensures s.front.past _ led.matches can.fit can.content
