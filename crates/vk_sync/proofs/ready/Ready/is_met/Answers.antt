use Rattle.std.proofs.Common.{◌≡◌, ◌<◌, ◌≤◌, ◌∙◌, ap, sym, ℕ, true, inl, inr, get_or}
use Rattle.std.proofs.lemmas.Bool.{cases_Bool, false_from_ne_true}
use Rattle.vk_sync.specs.Ready.{count_on, is_met}
use Rattle.vk_sync.proofs.ReadyLemmas.{met_from, met_to}
use Rattle.vk_sync.proofs.ready.Ready.is_met.Goals as goal

pub returns : goal.returns
returns c =
    let b = c.self.inside.board in
    let cs = b.commands.items in
    let fronts = c.self.invariant.0 in
    let before = c.args.before in
    let known : (q : ℕ) → q < 4 → get_or before q 0 ≤ count_on q cs = rw c.self.view_is c.requires in
    let e : c.is_within.result ≡ is_met before cs = elim (cases_Bool c.is_within.result) [
      | inl holds ↦ holds ∙ sym (met_from cs b.lines b.done b.free b.counts fronts before (c.is_within.ensures.0 holds))
      | inr fails ↦ fails ∙ sym (false_from_ne_true (is_met before cs) (λ met. let holds : c.is_within.result ≡ true = c.is_within.ensures.1 (met_to cs b.lines b.done b.free b.counts fronts before known met) in cc))
    ] in
    e ∙ ap (is_met before) c.self.view_is
