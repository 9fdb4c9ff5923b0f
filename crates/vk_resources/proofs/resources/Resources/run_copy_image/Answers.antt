use Rattle.std.proofs.Common.{ℕ, sym, subst}
use Rattle.vk_image_transfer.specs.Pieces.{piece_in, copy_image_pieces}
use Rattle.vk_resources.specs.Inner.Steps.{HasRun}
use Rattle.vk_resources.proofs.resources.Resources.run_copy_image.Goals as goal

pub returns-then-source-destination : goal.returns-then-source-destination
returns-then-source-destination c = λ m is.
    subst (λ (a : ℕ). HasRun c.args.self.now c.run_in_one.new.self (piece_in (copy_image_pieces a c.args.destination m c.args.row.region) c.args.row.number)) (sym c.if-source-destination.true) (c.run_in_one.ensures m is)
