use Rattle.std.proofs.Common.{◌≡◌, ◌≤◌, ◌+◌, ◌-◌, ℕ, length, take, drop, get_or, ap, ◌∙◌, arith, inl, inr}
use Rattle.std.proofs.lemmas.Bool.{cases_lt}
use Rattle.vk_model.specs.Run.Caches.{value_through}
use Rattle.vk_map_cache.specs.Holdings.{held_in}
use Rattle.vk_map_cache.proofs.HoldingLemmas.{room_of, patch-before, patch-in, patch-after, length-part, get_or-part}
use Rattle.vk_map_cache.proofs.queue_object.QueueObject.read.Goals as goal

pub overflow_add-at : goal.overflow_add-at
overflow_add-at c =
    let i = c.self.inside in
    let same : length i.marks ≤ length i.values = omega (arith, c.self.invariant) in
    let room = room_of i.marks i.values c.args.self.now c.self.view_is same in
    omega (arith, c.requires, room, c.self.invariant, c.size-size.ensures)

pub loop-done-preserved : goal.loop-done-preserved
loop-done-preserved c =
    let at = c.loop-done.invariant in
    let run = c.read_run-done.ensures in
    let out = c.loop-done.out in
    let done = c.loop-done.done in
    let held = λ (j : ℕ). held_in c.args.self.now j in
    let n = length out - done in
    let fits : done + n ≤ length out = omega arith in
    let part : length (take n (drop done out)) ≡ n = length-part out done n fits in
    let long : length c.read_run-done.new.out ≡ n = c.read_run-done.auto.out ∙ part in
    let most : done + c.read_run-done.result ≤ length out = omega (arith, run.within, part) in
    record {
      most = omega (arith, most);
      before = λ k lt. elim (cases_lt k done) [
        | inl less ↦ patch-before 0 out c.read_run-done.new.out done n long fits k less ∙ at.before k less
        | inr ge ↦
            let index : done + (k - done) ≡ k = omega (arith, ge) in
            let place : c.args.at + done + (k - done) ≡ c.args.at + k = omega (arith, ge) in
            patch-in 0 out c.read_run-done.new.out done n long fits k ge (omega (arith, lt, most))
            ∙ run.bytes (k - done) (omega (arith, ge, lt))
            ∙ ap (λ (j : ℕ). value_through (held j) (get_or (take n (drop done out)) (k - done) 0)) place
            ∙ ap (λ (v : ℕ). value_through (held (c.args.at + k)) v) (get_or-part 0 out done n (k - done) (omega (arith, ge, lt, most)) ∙ ap (λ (j : ℕ). get_or out j 0) index ∙ at.rest k ge)
      ];
      rest = λ k le. elim (cases_lt k (done + n)) [
        | inl less ↦
            let ge : done ≤ k = omega (arith, le) in
            let index : done + (k - done) ≡ k = omega (arith, ge) in
            patch-in 0 out c.read_run-done.new.out done n long fits k ge less
            ∙ run.rest (k - done) (omega (arith, le))
            ∙ get_or-part 0 out done n (k - done) (omega (arith, ge, less)) ∙ ap (λ (j : ℕ). get_or out j 0) index ∙ at.rest k ge
        | inr more ↦ patch-after 0 out c.read_run-done.new.out done n long fits k more ∙ at.rest k (omega (arith, le))
      ];
    }
