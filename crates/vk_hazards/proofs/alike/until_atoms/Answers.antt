use Rattle.std.proofs.Common.{ℕ, ◌<◌, ◌-◌, ◌+◌, ◌*◌, ◌/◌, ◌^◌, min, sym, ap, ◌∙◌, subst, inl, inr, arith}
use Rattle.vk_model.specs.declared.command.Length.{Length}
use Rattle.vk_hazards.proofs.AlikeLemmas.{IsAtomEnd, atoms_between, positive}
use Rattle.vk_hazards.proofs.alike.until_atoms.Goals as goal
use Rattle.vk_hazards.proofs.alike.until_atoms.Goals.{in-Bytes-eq0, in-Bytes, in-Whole}

pub returns-clause-alike : goal.returns-clause-alike
returns-clause-alike c = λ k le lt.
    let o = c.args.offset in
    let end = c.match-size.end in
    let is : IsAtomEnd o c.args.size end = elim c.match-size.branch [
      | in-Bytes-eq0 w ↦ subst (λ (s : Length). IsAtomEnd o s end) (sym w.in-Bytes-eq0.is) (inl (sym w.in-Bytes-eq0.field-0-is ∙ w.in-Bytes-eq0.field-0-test, w.end-is))
      | in-Bytes w ↦ subst (λ (s : Length). IsAtomEnd o s end) (sym w.in-Bytes.is) (inr (positive w.in-Bytes.bytes (rw w.in-Bytes.is at w.in-Bytes.bytes-test.1), w.end-is ∙ w.saturating_add-end.ensures ∙ ap (λ (n : ℕ). min (n / 64 * 64 + 64) (2 ^ 64 - 1)) w.saturating_add.ensures))
      | in-Whole w ↦ subst (λ (s : Length). IsAtomEnd o s end) (sym w.in-Whole.is) w.end-is
    ] in
    let small : k < 2 ^ 64 - 1 = omega (arith, c.until_bounds.ensures.within) in
    let first : c.args.at < 2 ^ 64 - 1 = omega (arith, c.requires) in
    atoms_between c.args.size o end k is small ∙ c.until_bounds.ensures.alike k le lt ∙ sym (atoms_between c.args.size o end c.args.at is first)
