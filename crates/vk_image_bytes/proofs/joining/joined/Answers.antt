use Rattle.std.proofs.Common.{◌≡◌, ◌+◌, ◌∙◌, refl, ap}
use Rattle.vk_image_bytes.specs.Copies.{numbered_writes}
use Rattle.vk_image_bytes.proofs.Joins.{copy_of, joined_writes}
use Rattle.vk_image_bytes.proofs.joining.joined.Goals as goal

pub returns-clause-writes : goal.returns-clause-writes
returns-clause-writes c from to =
    let a = c.args.first.now in
    let b = c.args.second.now in
    let at : (a.source_offset + a.size ≡ b.source_offset) × (a.destination_offset + a.size ≡ b.destination_offset) = c.if-not-follows.ensures.0 refl in
    let size : c.in_ok-size.size ≡ a.size + b.size = (c.in_ok-size.ensures).1 in
    ap (λ n. numbered_writes from to (copy_of a.source_offset a.destination_offset n)) size
    ∙ rw (← at.0, ← at.1) (joined_writes from to a.source_offset a.destination_offset a.size b.size)
