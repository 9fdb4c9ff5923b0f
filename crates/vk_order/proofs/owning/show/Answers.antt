use Rattle.std.proofs.Common.{subst, arith}
use Rattle.vk_order.specs.declared.counts.Shows.{Shows}
use Rattle.vk_order.specs.Inner.Counts.{AreVisible}
use Rattle.vk_order.specs.Inner.Tallies.{lines_of}
use Rattle.vk_order.proofs.OwnCounts.{all_hidden}
use Rattle.vk_order.proofs.owning.show.Goals as goal

pub returns-then-shows_nothing : goal.returns-then-shows_nothing
returns-then-shows_nothing c =
    all_hidden c.args.tallies.now _ c.args.counts.now.items c.hide.new.all.items (c.shows_nothing.ensures c.if-shows_nothing.true) (let e = c.hide.ensures.len in omega arith) c.hide.ensures.counts

pub returns : goal.returns
returns c =
    subst (λ (s : Shows). AreVisible (lines_of c.args.tallies.now) s c.args.counts.now.items c.show_all.new.counts.items) c.shows_of.ensures c.show_all.ensures
