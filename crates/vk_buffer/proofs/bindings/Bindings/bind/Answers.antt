use Rattle.std.proofs.Common.{◌≡◌, sym, ◌∙◌, None, rules, subst}
use Rattle.vk_buffer.specs.BoundMemory.{BoundMemory, refusal}
use Rattle.vk_buffer.proofs.Neighbors.{apart_more, not_found}
use Rattle.vk_buffer.proofs.Refusals.{allowed}
use Rattle.vk_buffer.proofs.bindings.Bindings.bind.Goals as goal

pub invariant_of-self-2 : goal.invariant_of-self-2
invariant_of-self-2 c =
    let i = c.self.inside in
    let o = c.args.offset in
    let k = c.args.kind in
    let inserted = c.in_ok-insert.ensures in
    let none : c.refusal.result ≡ None = search rules in
    let free : refusal c.args.self.now o c.args.need k ≡ None = sym c.refusal.ensures ∙ none in
    let s : BoundMemory = record { size = i.size; memory_type = i.memory_type; bound = i.bound.entries } in
    let here : refusal s o c.args.need k ≡ None = subst (λ (t : BoundMemory). refusal t o c.args.need k ≡ None) (sym c.self.view_is) free in
    let allows = allowed s o c.args.need k here in
    apart_more i.size i.bound.entries c.insert.new.self.entries c.self.invariant o (record { size = c.args.need.size; kind = k }) c.requires.some allows.0 (not_found i.bound inserted.was_ordered o c.args.need.size k allows.1) inserted.updates.1 inserted.updates.2
