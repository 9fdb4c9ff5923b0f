use Rattle.std.proofs.Common.{refl}
use Rattle.vk_nodes.specs.declared.change.Change.TheVariants.{NextFree}
use Rattle.vma_tlsf.proofs.Slots.{alike-if_held}
use Rattle.vma_tlsf.proofs.lists.set_next_free.Goals as goal

pub returns : goal.returns
returns c = alike-if_held c.args.nodes.now c.change_if_held.new.self c.args.slot (NextFree c.args.next_free) c.change_if_held.ensures.held c.change_if_held.ensures.free (λ n. refl)
