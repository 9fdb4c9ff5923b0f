use Rattle.std.proofs.Common.{◌≡◌, ◌<◌, length, sym, ap, ◌∙◌, false, true, nat_lt, Some}
use Rattle.std.proofs.lemmas.Bool.{lt-ltb}
use Rattle.std.proofs.lemmas.Option.{slice_get-get_or}
use Rattle.vk_model.specs.Sync.Node.{Runs}
use Rattle.vk_offers.proofs.Steps.{piece_low, piece_of}
use Rattle.vk_offers.proofs.offers.Offers.command.Goals as goal
use Rattle.vk_model.proofs.Lists.Items.{get_mapped}

pub unreachable-requires : goal.unreachable-requires
unreachable-requires c =
    let known = c.requires.known in
    let low : c.args.piece.command < length c.args.self.now.commands.items = piece_low c.args.self.now known.0 known.1 known.2 c.args.piece c.requires.ready in
    let there : nat_lt c.args.piece.command (length c.as_slice.result.now) ≡ true = rw c.as_slice.ensures.value (lt-ltb c.args.piece.command (length c.args.self.now.commands.items) low) in
    let none : false ≡ nat_lt c.args.piece.command (length c.as_slice.result.now) = c.in-None.ensures.lookup.0 in
    absurd cc

pub returns : goal.returns
returns c = λ past done is.
    let known = c.requires.known in
    let items = c.args.self.now.commands.items in
    let low : c.args.piece.command < length items = piece_low c.args.self.now known.0 known.1 known.2 c.args.piece c.requires.ready in
    let same = rw c.as_slice.ensures.value at c.in-Some.ensures.lookup.1 in
    let here = slice_get-get_or items c.args.piece.command c.in-Some.command.now low ∙ ap (λ x. Some x) (sym same) in
    piece_of c.args.self.now past done is c.args.piece c.requires.ready c.in-Some.command.now.now (get_mapped (λ d. Runs d.now) items c.args.piece.command c.in-Some.command.now here)
