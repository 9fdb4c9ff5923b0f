use Rattle.vk_order.proofs.NameLemmas.{names_same}
use Rattle.vk_order.proofs.names.Names.add.Goals as goal

pub returns-then-not-has_name : goal.returns-then-not-has_name
returns-then-not-has_name c = λ ns ls n next names. names_same ns ls n c.args.row.now c.args.own.now next c.args.self.now (c.has_name.ensures c.if-not-has_name.true) names
