use Rattle.std.proofs.Common.{ap, refl, arith}
use Rattle.std.proofs.lemmas.Option.{slice_get_within}
use Rattle.vk_backing.specs.Allotted.{Allotted}
use Rattle.vk_device.proofs.Following.{fits_so_far}
use Rattle.vk_device.proofs.Running.{has_run, piece_becomes, has_written, is_offered, runnable, work_of}
use Rattle.vk_offers.specs.IsOffers.{name_of}
use Rattle.vk_device.proofs.PassBytes.{piece_bytes}
use Rattle.vk_device.proofs.device.Device.run.Goals as goal

pub index-requires : goal.index-requires
index-requires c =
    let m = c.requires in
    let work = work_of m.s.front.past m.s.done c.args.self.now.offers m.led.offers c.args.piece m.among c.args.self.now.works.items m.led.works in
    let low = slice_get_within c.args.self.now.works.items c.args.piece.command work.0 work.1 in
    let long = c.args.self.now.works.ok.0 in
    omega (arith, low, long)

pub run_piece-requires : goal.run_piece-requires
run_piece-requires c =
    let m = c.requires in
    let run = c.direct_runs_are_runs.ensures m.t m.steps m.s _ m.led.run in
    let fits = fits_so_far c.no_fault_is_sound.ensures m.t m.s (c.defined_runs_follow.ensures m.t m.steps m.s run) m.sound in
    let can = runnable m.t m.steps m.s c.args.self.now m.led c.args.piece m.among c.index.result.now c.index.ensures run m.sound.faultless c.commands_name_live.ensures fits c.offered_are_pieces.ensures.pieces c.pieces_are_byte_writes.ensures in
    can.ready

pub returns-clause-ran : goal.returns-clause-ran
returns-clause-ran c = λ t steps s led sound.
    let run = c.direct_runs_are_runs.ensures t steps s _ led.run in
    let fits = fits_so_far c.no_fault_is_sound.ensures t s (c.defined_runs_follow.ensures t steps s run) sound in
    let can = runnable t steps s c.args.self.now led c.args.piece c.requires.among c.index.result.now c.index.ensures run sound.faultless c.commands_name_live.ensures fits c.offered_are_pieces.ensures.pieces c.pieces_are_byte_writes.ensures in
    has_run t steps s c.args.self.now led c.args.piece c.requires.among can.sources c.direct_runs_go_on.ensures.pieces _ (c.run_piece.ensures.ran s.front.past _ led.matches can.fit can.content) (c.run_piece.ensures.matches s.front.past led.matches)
    c.run_piece.ensures.placed c.run_piece.ensures.shapes c.run_piece.ensures.cache (ap (λ (a : Allotted). a.backed) c.run_piece.ensures.allotted)
    (c.run_piece.ensures.agree s.front.past _ led.matches can.fit can.content c.args.self.now.passes led.passes.passing
    (piece_bytes t steps s (name_of s.front.past c.args.piece) c.args.self.now.resources c.args.self.now.passes c.pieces_stay_off_passes.ensures run sound.faultless
    (is_offered s.front.past s.done c.args.self.now.offers led.offers c.args.piece c.requires.among) led.matches c.are_resources.ensures led.passes.passing led.passes.matches) led.passes.agree) refl refl refl refl (c.finish.ensures s.front.past s.done led.offers)

pub returns-clause-written : goal.returns-clause-written
returns-clause-written c = λ t steps s b w v led sound.
    let run = c.direct_runs_are_runs.ensures t steps s _ led.run in
    let fits = fits_so_far c.no_fault_is_sound.ensures t s (c.defined_runs_follow.ensures t steps s run) sound in
    let can = runnable t steps s c.args.self.now led c.args.piece c.requires.among c.index.result.now c.index.ensures run sound.faultless c.commands_name_live.ensures fits c.offered_are_pieces.ensures.pieces c.pieces_are_byte_writes.ensures in
    has_written t steps s c.args.self.now led c.args.piece c.requires.among can.sources c.direct_runs_are_fresh.ensures.written sound.faultless _ (c.run_piece.ensures.ran s.front.past _ led.matches can.fit can.content) b w v

pub returns-clause-changed : goal.returns-clause-changed
returns-clause-changed c = λ t steps s led sound.
    let run = c.direct_runs_are_runs.ensures t steps s _ led.run in
    let fits = fits_so_far c.no_fault_is_sound.ensures t s (c.defined_runs_follow.ensures t steps s run) sound in
    let can = runnable t steps s c.args.self.now led c.args.piece c.requires.among c.index.result.now c.index.ensures run sound.faultless c.commands_name_live.ensures fits c.offered_are_pieces.ensures.pieces c.pieces_are_byte_writes.ensures in
    c.run_piece.ensures.ran s.front.past _ led.matches can.fit can.content

pub returns-clause-rest : goal.returns-clause-rest
returns-clause-rest c = λ t steps s led sound.
    let run = c.direct_runs_are_runs.ensures t steps s _ led.run in
    let fits = fits_so_far c.no_fault_is_sound.ensures t s (c.defined_runs_follow.ensures t steps s run) sound in
    let can = runnable t steps s c.args.self.now led c.args.piece c.requires.among c.index.result.now c.index.ensures run sound.faultless c.commands_name_live.ensures fits c.offered_are_pieces.ensures.pieces c.pieces_are_byte_writes.ensures in
    c.run_piece.ensures.rest s.front.past _ led.matches can.fit can.content

pub returns-clause-becomes : goal.returns-clause-becomes
returns-clause-becomes c = λ t steps s led sound.
    let run = c.direct_runs_are_runs.ensures t steps s _ led.run in
    let fits = fits_so_far c.no_fault_is_sound.ensures t s (c.defined_runs_follow.ensures t steps s run) sound in
    let can = runnable t steps s c.args.self.now led c.args.piece c.requires.among c.index.result.now c.index.ensures run sound.faultless c.commands_name_live.ensures fits c.offered_are_pieces.ensures.pieces c.pieces_are_byte_writes.ensures in
    piece_becomes t steps s c.args.self.now led c.args.piece c.requires.among can.sources c.run_piece.new.self (c.run_piece.ensures.ran s.front.past _ led.matches can.fit can.content) c.run_piece.ensures.placed c.run_piece.ensures.cache
