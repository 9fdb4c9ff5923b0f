use Rattle.std.proofs.Common.{◌/◌, ◌==◌, ◌&&◌, subst, sym}
use Rattle.std.proofs.lemmas.Result.{on_ok_weaker}
use Rattle.vk_resources.specs.Held.{IsConsistent}
use Rattle.vk_resources.specs.Rest.{is_given_back}
use Rattle.vk_resources.proofs.KeptCopies.{kept_copies}
use Rattle.vk_resources.proofs.Matching.{keeps_stands}
use Rattle.std.specs.Prelude.{is_some}
use Rattle.vk_map_cache.specs.Holdings.{only_where}
use Rattle.vk_model.specs.Run.CachedRuns.{turned_over}
use Rattle.vk_resources.specs.Inner.Steps.{cached_at}
use Rattle.vk_resources.proofs.HostAccesses.{is_flat, has_atom, turns_over, turned_rest}
use Rattle.vk_resources.proofs.resources.Resources.turn_over.Goals as goal

pub turn_over_atom-requires-clause-buffer : goal.turn_over_atom-requires-clause-buffer
turn_over_atom-requires-clause-buffer c = let r = c.requires in is_flat r.0 c.args.self.now r.1.live c.args.entry.now c.in-Some.buffer (sym c.in-Some.ensures) r.2

pub turn_over_atom-requires-clause-atom : goal.turn_over_atom-requires-clause-atom
turn_over_atom-requires-clause-atom c = let r = c.requires in has_atom r.0 c.args.self.now r.1.live c.args.entry.now c.in-Some.buffer (sym c.in-Some.ensures) r.2 c.args.atom r.3

pub returns-in-Some-clause-turned : goal.returns-in-Some-clause-turned
returns-in-Some-clause-turned c =
    let r = c.requires in
    on_ok_weaker c.turn_over_atom.result (λ changed. λ b cell there has. turns_over r.0 c.args.self.now r.1.live c.args.entry.now c.in-Some.buffer (sym c.in-Some.ensures) r.2 c.args.atom c.turn_over_atom.new.self r.3 changed b cell there has) c.turn_over_atom.ensures.turned

pub returns-in-Some-clause-matches : goal.returns-in-Some-clause-matches
returns-in-Some-clause-matches c = λ past m. keeps_stands past c.args.self.now c.turn_over_atom.new.self c.turn_over_atom.ensures.keeps m

pub returns-in-Some-clause-rest : goal.returns-in-Some-clause-rest
returns-in-Some-clause-rest c =
    let r = c.requires in
    let s = c.args.self.now in
    let b = c.in-Some.buffer in
    let change = only_where (λ j. is_some (cached_at s b) && j / 64 == c.args.atom) turned_over in
    on_ok_weaker c.turn_over_atom.result (λ changed. turned_rest s c.turn_over_atom.new.self c.args.entry.now b c.args.atom change changed (turns_over r.0 s r.1.live c.args.entry.now b (sym c.in-Some.ensures) r.2 c.args.atom c.turn_over_atom.new.self r.3 changed)) c.turn_over_atom.ensures.turned

pub returns-in-Some-clause-agree : goal.returns-in-Some-clause-agree
returns-in-Some-clause-agree c =
    let r = c.requires in let s = c.args.self.now in
    on_ok_weaker c.turn_over_atom.result (λ rest. kept_copies s c.turn_over_atom.new.self (subst IsConsistent c.self.view_is c.self.invariant) r.0 r.1 (is_given_back s c.args.entry.now c.args.atom) rest c.turn_over_atom.ensures.keeps.same) (returns-in-Some-clause-rest c)
