use Rattle.std.proofs.Common.{List, ℕ, [], ◌∷◌, ◌++◌, Some, None, sym, ap, ◌∙◌, Vec}
use Rattle.std.proofs.lemmas.List.{append-nil}
use Rattle.vk_backing.specs.Backed.{number_in}
use Rattle.vk_backing.proofs.Numbers.{more_numbers}
use Rattle.vk_backing.proofs.backing.Backing.numbers_of.Goals as goal
use Rattle.vk_backing.proofs.backing.Backing.numbers_of.Goals.{in-Some+in_ok-push, in_default}

pub loop-id-preserved : goal.loop-id-preserved
loop-id-preserved c = elim c.match-get.branch [
  | in-Some+in_ok-push w ↦
      let a = w.in-Some.ensures.value in let d = w.in-Some.number-is in
      ap (λ (v : Vec ℕ _). v.items) w.numbers-is ∙ w.in_ok-push.ensures.items ∙ ap (λ (l : List ℕ). l ++ w.in-Some.number.now ∷ []) c.loop-id.invariant
      ∙ sym (more_numbers (number_in c.self.inside.allocations.entries) c.args.ids.now c.loop-id.id-index (Some w.in-Some.number.now) c.loop-id-test.true (sym w.in-Some.ensures.value))
  | in_default w ↦
      ap (λ (v : Vec ℕ _). v.items) w.numbers-is ∙ c.loop-id.invariant ∙ sym (append-nil _)
      ∙ sym (more_numbers (number_in c.self.inside.allocations.entries) c.args.ids.now c.loop-id.id-index None c.loop-id-test.true (sym w.in_default.ensures.value))
]
