use Rattle.std.proofs.Common.{◌-◌, arith}
use Rattle.std.specs.Prelude.{if◌then◌else◌}
use Rattle.vk_ids.specs.Ids.{value_of}
use Rattle.vk_history.proofs.Living.Changing.{changed_at}
use Rattle.vk_history.proofs.counts.Counts.remove.Goals as goal

pub returns-in-Some : goal.returns-in-Some
returns-in-Some c =
    let less = c.saturating_sub.result in
    changed_at (value_of (c.get_mut.follows.lender less)) (value_of c.args.self.now.counts) c.args.id c.in-Some.count.now less c.in-Some.ensures.value (rw c.in-Some.is at (c.get_mut.follows.holds less))
    (λ b n. n - (if b then 1 else 0)) c.saturating_sub.ensures (λ n. omega arith)
