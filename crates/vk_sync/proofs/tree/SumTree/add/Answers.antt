use Rattle.std.proofs.Common.{arith, ◌<◌, ◌/◌, ℕ, length}
use Rattle.std.proofs.lemmas.List.{get_or_read}
use Rattle.vk_sync.proofs.SumLemmas.{tree_changes, has_sum, zeros_before}
use Rattle.vk_sync.proofs.tree.SumTree.add.Goals as goal

pub invariant_of-self : goal.invariant_of-self
invariant_of-self c =
    let id = λ (x : ℕ). x in
    let t = c.self.invariant.0 in
    let leaves = c.self.inside.leaves.items in
    let groups = c.self.inside.groups.items in
    let blocks = c.self.inside.blocks.items in
    let leaf = c.args.leaf in
    let lt : leaf < length leaves = rw c.self.view_is c.requires.there in
    let lt' = has_sum id groups leaves t.by_group leaf lt in
    let lt'' = has_sum id blocks groups t.by_block (leaf / 64) lt' in
    let x = get_or_read leaves leaf c.index_mut.result.now lt c.index_mut.ensures.value 0 in
    let y = get_or_read groups (leaf / 64) c.index_mut-2.result.now lt' c.index_mut-2.ensures.value 0 in
    let z = get_or_read blocks (leaf / 64 / 64) c.index_mut-3.result.now lt'' c.index_mut-3.ensures.value 0 in
    (tree_changes leaves groups blocks c.self.inside.total leaf _ _ _ _ c.args.amount 0 t lt (omega arith) (omega arith) (omega arith) (omega arith), rw c.min-self-inside.ensures (zeros_before leaves c.self.inside.first leaf _ c.self.invariant.1))
