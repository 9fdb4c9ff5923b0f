use Rattle.std.proofs.Common.{refl, None}
use Rattle.vk_nodes.specs.declared.change.Change.TheVariants.{Listed}
use Rattle.vma_tlsf.proofs.Slots.{alike-changed}
use Rattle.vma_tlsf.proofs.lists.set_first.Goals as goal

pub returns : goal.returns
returns c = alike-changed c.args.nodes.now c.change.new.self c.args.slot (Listed None c.args.next) c.requires c.change.ensures (λ n. refl)
