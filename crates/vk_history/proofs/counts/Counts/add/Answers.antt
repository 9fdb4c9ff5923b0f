use Rattle.std.proofs.Common.{◌+◌, arith}
use Rattle.std.specs.Prelude.{if◌then◌else◌}
use Rattle.vk_ids.specs.Ids.{value_of}
use Rattle.vk_history.proofs.Living.Changing.{changed_at}
use Rattle.vk_history.proofs.counts.Counts.add.Goals as goal

pub returns-in-Some-checked_add : goal.returns-in-Some-checked_add
returns-in-Some-checked_add c =
    let more = c.in-Some-checked_add.more in
    changed_at (value_of (c.get_mut.follows.lender more)) (value_of c.args.self.now.counts) c.args.id c.in-Some.count.now more c.in-Some.ensures.value (rw c.in-Some.is at (c.get_mut.follows.holds more))
    (λ b n. n + (if b then 1 else 0)) c.in-Some-checked_add.ensures.1 (λ n. omega arith)
