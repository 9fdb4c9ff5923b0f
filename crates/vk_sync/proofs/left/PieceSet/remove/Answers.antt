use Rattle.std.proofs.Common.{arith, ◌≡◌, ◌≤◌, ◌∙◌, ◌-◌, ap, sym, subst, length, List, ℕ}
use Rattle.std.specs.Prelude.{Option, Box, Contains, filter, not, ◌==◌}
use Rattle.std.specs.Global.{Global}
use Rattle.std.specs.List.{range_with_len}
use Rattle.std.proofs.lemmas.List.FromFn.{length-range_with_len}
use Rattle.vk_sync.specs.Inner.Left.{all_left, IsCounted}
use Rattle.vk_sync.proofs.LeftLemmas.{one_runs}
use Rattle.vk_sync.proofs.left.PieceSet.remove.Goals as goal
use Rattle.vk_sync.proofs.left.PieceSet.remove.Goals.{in-Some, in_default}

pub returns-clause-others : goal.returns-clause-others
returns-clause-others c =
    let old = c.self.inside in
    let now = c.match-self.self-inside in
    let Many : Type 0 = Option (Box (List ℕ) Global) in
    let kept = λ (xs : List ℕ). filter (λ k. not (k == c.args.piece)) xs in
    elim c.match-self.branch [
      | in-Some w ↦
          let many = ap (λ (o : Many). all_left (now.count - 1) o) (ap (λ (r : _). r.many) w.self-inside-is) in
          let was = w.deref_mut.ensures.value ∙ sym (ap (λ (o : Many). all_left old.count o) w.in-Some.is) ∙ c.self.view_is in
          many ∙ w.remove.ensures.others ∙ ap kept was
      | in_default w ↦
          let many = ap (λ (o : Many). all_left (now.count - 1) o) (ap (λ (r : _). r.many) w.self-inside-is ∙ w.in_default.is) in
          let count = ap (λ (r : _). r.count) w.self-inside-is in
          let was : range_with_len 0 old.count ≡ c.args.self.now = sym (ap (λ (o : Many). all_left old.count o) w.in_default.is) ∙ c.self.view_is in
          let le : old.count ≤ 1 = subst (λ (o : Many). IsCounted old.count o) w.in_default.is c.self.invariant in
          let has = subst (λ (xs : List ℕ). Contains xs c.args.piece) (sym was) c.requires in
          many ∙ ap (λ (n : ℕ). range_with_len 0 (n - 1)) count ∙ one_runs old.count c.args.piece le has ∙ ap kept was
    ]

pub returns-clause-len : goal.returns-clause-len
returns-clause-len c =
    let old = c.self.inside in
    let now = c.match-self.self-inside in
    let Many : Type 0 = Option (Box (List ℕ) Global) in
    elim c.match-self.branch [
      | in-Some w ↦
          let many = ap (λ (o : Many). length (all_left (now.count - 1) o)) (ap (λ (r : _). r.many) w.self-inside-is) in
          let was = ap length (w.deref_mut.ensures.value ∙ sym (ap (λ (o : Many). all_left old.count o) w.in-Some.is) ∙ c.self.view_is) in
          omega (arith, many, was, w.remove.ensures.len)
      | in_default w ↦
          let many = ap (λ (o : Many). length (all_left (now.count - 1) o)) (ap (λ (r : _). r.many) w.self-inside-is ∙ w.in_default.is) in
          let count = ap (λ (r : _). r.count) w.self-inside-is in
          let was : range_with_len 0 old.count ≡ c.args.self.now = sym (ap (λ (o : Many). all_left old.count o) w.in_default.is) ∙ c.self.view_is in
          let some = c.requires.1 in
          omega (arith, many, count, some, ap length was, length-range_with_len 0 old.count, length-range_with_len 0 (now.count - 1))
    ]
