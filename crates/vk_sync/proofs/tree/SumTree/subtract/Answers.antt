use Rattle.std.proofs.Common.{arith, get_or, ◌<◌, ◌≤◌, ◌/◌, ℕ, length}
use Rattle.std.proofs.lemmas.List.{get_or_read}
use Rattle.std.proofs.lemmas.List.Sums.{get_or-le-sum_by}
use Rattle.vk_sync.proofs.SumLemmas.{tree_changes, has_sum, in_group, in_block, zeros_less}
use Rattle.vk_sync.proofs.tree.SumTree.subtract.Goals as goal

pub overflow_sub-index_mut-2 : goal.overflow_sub-index_mut-2
overflow_sub-index_mut-2 c =
    let t = c.self.invariant.0 in
    let leaves = c.self.inside.leaves.items in
    let groups = c.self.inside.groups.items in
    let leaf = c.args.leaf in
    let lt : leaf < length leaves = rw c.self.view_is c.requires.there in
    let enough : c.args.amount ≤ get_or leaves leaf 0 = rw c.self.view_is c.requires.enough in
    let lt' = has_sum (λ (x : ℕ). x) groups leaves t.by_group leaf lt in
    let y = get_or_read groups (leaf / 64) c.index_mut-2.result.now lt' c.index_mut-2.ensures.value 0 in
    omega (arith, in_group leaves groups c.self.inside.blocks.items c.self.inside.total leaf t lt)

pub overflow_sub-index_mut-3 : goal.overflow_sub-index_mut-3
overflow_sub-index_mut-3 c =
    let id = λ (x : ℕ). x in
    let t = c.self.invariant.0 in
    let leaves = c.self.inside.leaves.items in
    let groups = c.self.inside.groups.items in
    let blocks = c.self.inside.blocks.items in
    let leaf = c.args.leaf in
    let lt : leaf < length leaves = rw c.self.view_is c.requires.there in
    let enough : c.args.amount ≤ get_or leaves leaf 0 = rw c.self.view_is c.requires.enough in
    let lt' = has_sum id groups leaves t.by_group leaf lt in
    let lt'' = has_sum id blocks groups t.by_block (leaf / 64) lt' in
    let z = get_or_read blocks (leaf / 64 / 64) c.index_mut-3.result.now lt'' c.index_mut-3.ensures.value 0 in
    omega (arith, in_block leaves groups blocks c.self.inside.total leaf t lt)

pub invariant_of-self : goal.invariant_of-self
invariant_of-self c =
    let id = λ (x : ℕ). x in
    let t = c.self.invariant.0 in
    let leaves = c.self.inside.leaves.items in
    let groups = c.self.inside.groups.items in
    let blocks = c.self.inside.blocks.items in
    let leaf = c.args.leaf in
    let lt : leaf < length leaves = rw c.self.view_is c.requires.there in
    let enough : c.args.amount ≤ get_or leaves leaf 0 = rw c.self.view_is c.requires.enough in
    let lt' = has_sum id groups leaves t.by_group leaf lt in
    let lt'' = has_sum id blocks groups t.by_block (leaf / 64) lt' in
    let x = get_or_read leaves leaf c.index_mut.result.now lt c.index_mut.ensures.value 0 in
    let y = get_or_read groups (leaf / 64) c.index_mut-2.result.now lt' c.index_mut-2.ensures.value 0 in
    let z = get_or_read blocks (leaf / 64 / 64) c.index_mut-3.result.now lt'' c.index_mut-3.ensures.value 0 in
    let ly = in_group leaves groups blocks c.self.inside.total leaf t lt in
    let lz = in_block leaves groups blocks c.self.inside.total leaf t lt in
    let lw = get_or-le-sum_by id leaves leaf 0 lt in
    (tree_changes leaves groups blocks c.self.inside.total leaf _ _ _ _ 0 c.args.amount t lt (omega arith) (omega arith) (omega arith) (omega (arith, t.all)), zeros_less id leaves c.self.inside.first leaf _ 0 lt (omega arith) c.self.invariant.1)
