use Rattle.std.proofs.Common.{◌≡◌, ap, sym, false, not, rules}
use Rattle.std.specs.Prelude.{slice_get}
use Rattle.vk_rules.specs.Synchronization.{same_one}
use Rattle.vk_rules.proofs.Making.SameElements.{differ, all_alike}
use Rattle.vk_rules.proofs.synchronization.first_difference.Goals as goal

pub returns-then-not-same_at-clause-broken : goal.returns-then-not-same_at-clause-broken
returns-then-not-same_at-clause-broken c =
    let k = c.loop-index.index in
    let differs : same_one (slice_get c.args.awaited.now k) (slice_get c.args.set.now k) ≡ false = search rules in
    sym (ap not (differ c.args.awaited.now c.args.set.now k differs))

pub returns-clause-broken : goal.returns-clause-broken
returns-clause-broken c = sym (ap not (all_alike c.args.awaited.now c.args.set.now (search rules)))
