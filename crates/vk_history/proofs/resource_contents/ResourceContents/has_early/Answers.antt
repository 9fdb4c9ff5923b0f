use Rattle.std.proofs.Common.{◌≡◌, ◌+◌, ℕ, subst, arith}
use Rattle.vk_touches.specs.Conflicts.{FoundIn, IsEarly}
use Rattle.vk_history.proofs.resource_contents.ResourceContents.has_early.Goals as goal

pub returns : goal.returns
returns c = λ fits.
    let high : c.of-part.result.high ≡ c.args.offset + c.args.size = let h = c.of-part.ensures.high in let l = c.len.ensures in omega (arith, h, l, fits) in
    let low : c.of-part.result.low ≡ c.args.offset = let l = c.of-part.ensures.low in omega (arith, l, high) in
    subst (λ (h : ℕ). FoundIn (IsEarly c.args.new_node.now) c.has_early.result c.args.self.now.touches c.args.offset h) high
    (subst (λ (l : ℕ). FoundIn (IsEarly c.args.new_node.now) c.has_early.result c.args.self.now.touches l c.of-part.result.high) low c.has_early.ensures)
