-- What is offered, come to in two ways.
use Rattle.std.proofs.Common.{◌≡◌, ℕ, List, map, ap, sym, ◌∙◌, subst, arith}
use Rattle.std.proofs.lemmas.Option.{slice_get_within}
use Rattle.std.specs.Prelude.{Contains, slice_get, Some}
use Rattle.vk_model.specs.Trace.Point.{Past}
use Rattle.vk_model.specs.Sync.Node.{Node, nodes}
use Rattle.vk_model.specs.Run.Runs.{Name}
use Rattle.vk_model.proofs.Lists.Items.{item_at}
use Rattle.vk_model.proofs.Lists.Members.{map_has, mapped_from}
use Rattle.vk_model.proofs.Sync.Numbers.{numbered}
use Rattle.vk_sync.specs.declared.board.Command.{Command}
use Rattle.vk_sync.specs.declared.ready.Piece.{Piece}
use Rattle.vk_sync.specs.Ready.{ready}
use Rattle.vk_offers.specs.declared.offers.Offers.{Offers}
use Rattle.vk_offers.specs.IsOffers.{commands_in, number_of, name_of, AreStarted, IsOffers}
use Rattle.vk_offers.proofs.Finishing.{one_place}
use Rattle.vk_offers.proofs.PiecesLeft.{ready_offered}
use Rattle.vk_offers.proofs.Steps.{ready_has}

module _ (past : Past) (done : List Name) where
  -- the node of the command of a ready piece
  pub node_of_piece : (cs : List Command) → AreStarted past done (commands_in (nodes past)) cs → (piece : Piece) → Contains (ready cs) piece → (n : Node) × (slice_get (commands_in (nodes past)) piece.command ≡ Some n)
  node_of_piece cs started piece at =
      let has = ready_has cs piece at in
      let low = slice_get_within cs piece.command has.0 has.1 in
      let size = started.lengths in
      item_at (commands_in (nodes past)) piece.command (omega (arith, low, size))

  -- a name is of one piece
  one_piece : (a b : List Command) → AreStarted past done (commands_in (nodes past)) a → AreStarted past done (commands_in (nodes past)) b → (p q : Piece) → Contains (ready a) p → Contains (ready b) q → name_of past q ≡ name_of past p → q ≡ p
  one_piece a b started other p q at_p at_q same =
      let n = node_of_piece a started p at_p in
      let m = node_of_piece b other q at_q in
      let numbers : m.0.number ≡ n.0.number = sym (ap number_of m.1) ∙ ap (λ (x : Name). x.0) same ∙ ap number_of n.1 in
      let place : q.command ≡ p.command = one_place (nodes past) (numbered past) q.command p.command m.0 n.0 m.1 n.1 numbers in
      let index : q.index ≡ p.index = ap (λ (x : Name). x.1) same in
      ap (λ (k : ℕ). record { command = k; index = q.index }) place ∙ ap (λ (k : ℕ). record { command = p.command; index = k }) index

pub agree : (past : Past) (done : List Name) (one other : Offers) (piece : Piece) → IsOffers one past done → IsOffers other past done → Contains (ready one.ready) piece → Contains (ready other.ready) piece
agree past done one other piece is that at =
    let names : map (name_of past) (ready one.ready) ≡ map (name_of past) (ready other.ready) = ready_offered past done one.ready is.started ∙ sym (ready_offered past done other.ready that.started) in
    let there = mapped_from (name_of past) (ready other.ready) (name_of past piece) (subst (λ (xs : List Name). Contains xs (name_of past piece)) names (map_has (name_of past) (ready one.ready) piece at)) in
    subst (λ (q : Piece). Contains (ready other.ready) q) (one_piece past done one.ready other.ready is.started that.started piece there.0 at there.1 there.2) there.1
