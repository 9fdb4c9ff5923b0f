use Rattle.std.proofs.Common.{◌+◌, ◌^◌, ◌<◌, ◌≤◌, length, arith}
use Rattle.vk_nodes.proofs.FilledLemmas.{count-slots, kept-filled, kept-seen, grown-filled, grown-seen}
use Rattle.vk_nodes.proofs.filled.Filled.reserve.Goals as goal
use Rattle.vk_nodes.proofs.filled.Filled.reserve.Goals.{then-slots-size+in_ok-self-inside, else-slots-size}

pub invariant_of-self : goal.invariant_of-self
invariant_of-self c =
    let i = c.self.invariant in let long = count-slots _ _ c.self.view_is i in
    elim c.if-slots-size.branch [
      | then-slots-size+in_ok-self-inside w ↦
          let more : c.self.inside.slots + c.args.more ≤ w.max.result = omega (arith, w.max.ensures) in
          let le : length c.self.inside.store.nodes ≤ w.max.result = omega (arith, more, w.if-slots-size.true, c.size-size.ensures) in
          let few : w.max.result < 2 ^ 32 = omega (arith, w.max.ensures, w.grown.ensures, c.requires, long) in
          grown-filled _ _ c.self.view_is i c.args.more w.in_ok-self-inside.field-0 w.max.result _ w.self-inside-is w.in_ok-self-inside.ensures.nodes w.in_ok-self-inside.ensures.names le more few
      | else-slots-size w ↦ kept-filled _ _ c.self.view_is i c.args.more _ w.self-inside-is (omega (arith, w.if-slots-size.false, c.size-size.ensures))
    ]

pub returns-clause-ok : goal.returns-clause-ok
returns-clause-ok c _ =
    let i = c.self.invariant in
    elim c.if-slots-size.branch [
      | then-slots-size+in_ok-self-inside w ↦ grown-seen _ _ c.self.view_is i c.args.more w.in_ok-self-inside.field-0 w.max.result _ w.self-inside-is w.in_ok-self-inside.ensures.nodes w.in_ok-self-inside.ensures.names
      | else-slots-size w ↦ kept-seen _ _ c.self.view_is i c.args.more _ w.self-inside-is
    ]
