use Rattle.std.proofs.Common.{◌≡◌, ◌+◌, ◌*◌, ℕ, List, [], ◌∷◌, refl, ap, ◌∙◌, arith}
use Rattle.vk_transfer.specs.declared.stretches.Stretch.{Stretch}
use Rattle.vk_image_transfer.proofs.stretches.RowStretches.one.Goals as goal

pub new-requires-clause-fits : goal.new-requires-clause-fits
new-requires-clause-fits c = record {
  texel = refl;
  numbers = omega arith;
  inside = λ x lt. let first : x ≡ 0 = omega arith in rw first (omega arith);
}

pub returns : goal.returns
returns c =
    let s = c.args.stretch in
    let first : c.args.stretch.at + 0 * c.args.stretch.size ≡ c.args.stretch.at = omega arith in
    let alone : ℕ → List Stretch = λ k. record { at = k; size = s.size } ∷ [] in
    c.new.ensures ∙ ap alone first
