use Rattle.std.proofs.Common.{◌≡◌, false, rules}
use Rattle.std.specs.Prelude.{is_none}
use Rattle.vk_touches.specs.TouchMaps.{without_reads}
use Rattle.vk_touches.proofs.Searches.{flush_between}
use Rattle.vk_touches.proofs.accesses.ResourceAccess.misses_flush.Goals as goal

pub returns-in-Some : goal.returns-in-Some
returns-in-Some c =
    let written : is_none c.args.last.now.host_write ≡ false = search rules in
    flush_between c.args.self.now (without_reads c.args.last.now) written c.in-Some.flush c.in-Some.is c.args.low c.args.high c.is_some_unseen.result c.is_some_unseen.ensures
