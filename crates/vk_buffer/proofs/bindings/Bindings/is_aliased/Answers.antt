use Rattle.std.proofs.Common.{◌≡◌, true, false, sym, ◌∙◌, inl, inr, arith}
use Rattle.std.specs.List.{list_any}
use Rattle.std.proofs.lemmas.Bool.{cases_Bool}
use Rattle.vk_buffer.specs.BoundMemory.{conflicts_with}
use Rattle.vk_buffer.specs.Inner.Neighbors.{conflicts_there}
use Rattle.vk_buffer.proofs.Neighbors.{found, none_found, there_last, there_first, there_fits}
use Rattle.vk_buffer.proofs.bindings.Bindings.is_aliased.Goals as goal

pub conflicts_with-requires : goal.conflicts_with-requires
conflicts_with-requires c =
    let i = c.self.inside in
    let before = c.last_upto-before in
    there_fits i.size i.bound.entries c.self.invariant (omega arith) before.result (there_last i.bound.entries c.args.offset before.result before.ensures.last)

pub conflicts_with-requires-else-conflicts_with : goal.conflicts_with-requires-else-conflicts_with
conflicts_with-requires-else-conflicts_with c =
    let i = c.self.inside in
    let after = c.first_after-after in
    there_fits i.size i.bound.entries c.self.invariant (omega arith) after.result (there_first i.bound.entries c.args.offset after.result after.ensures)

pub returns-then-conflicts_with : goal.returns-then-conflicts_with
returns-then-conflicts_with c =
    let m = c.self.inside.bound in
    let before = c.last_upto-before in
    let hits : conflicts_there c.args.offset c.args.size c.args.kind before.result ≡ true = sym c.conflicts_with.ensures ∙ c.if-conflicts_with.true in
    let some = found m before.ensures.ordered c.args.offset c.args.size c.args.kind before.result (there_last m.entries c.args.offset before.result before.ensures.last) hits in
    rw (← c.self.view_is) (c.if-conflicts_with.true ∙ sym some)

pub returns-else-conflicts_with : goal.returns-else-conflicts_with
returns-else-conflicts_with c =
    let m = c.self.inside.bound in
    let o = c.args.offset in
    let n = c.args.size in
    let k = c.args.kind in
    let before = c.last_upto-before in
    let after = c.first_after-after in
    let misses : conflicts_there o n k before.result ≡ false = sym c.conflicts_with.ensures ∙ c.if-conflicts_with.false in
    let same : conflicts_there o n k after.result ≡ list_any (conflicts_with o n k) m.entries = elim (cases_Bool (conflicts_there o n k after.result)) [
      | inl hit ↦ hit ∙ sym (found m before.ensures.ordered o n k after.result (there_first m.entries o after.result after.ensures) hit)
      | inr miss ↦ miss ∙ sym (none_found c.self.inside.size m c.self.invariant before.ensures.ordered o n k before.result after.result before.ensures.last after.ensures misses miss)
    ] in
    rw (← c.self.view_is) (c.conflicts_with-else-conflicts_with.ensures ∙ same)
