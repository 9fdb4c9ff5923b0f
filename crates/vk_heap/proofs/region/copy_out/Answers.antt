use Rattle.std.proofs.Common.{◌≡◌, ◌-◌, ℕ, length, replicate, ap, ◌∙◌, arith}
use Rattle.std.proofs.lemmas.Grind.{common_steps}
use Rattle.vk_heap.specs.Region.{piece}
use Rattle.vk_heap.proofs.FreshLemmas.{read_some}
use Rattle.vk_heap.proofs.region.copy_out.Goals as goal

pub returns : goal.returns
returns c size fits within =
    let byte : ℕ = 205 in
    let known : c.copy_from_slice.new.self ≡ piece c.args.bytes.now c.min-start.result c.min-there.result = grind (arith, common_steps, c.copy_from_slice.ensures.after) in
    let rest : c.fill.new.self ≡ replicate (length c.args.out.now - c.min-there.result) byte = c.fill.ensures.after (λ y same. same) ∙ ap (λ (k : ℕ). replicate k byte) (omega (arith, c.split_at_mut-known.ensures.back_len)) in
    read_some c.args.bytes.now c.args.at (length c.args.out.now) size within fits c.min-start.result c.min-there.result c.copy_from_slice.new.self c.fill.new.self c.min-start.ensures c.min-there.ensures known rest
