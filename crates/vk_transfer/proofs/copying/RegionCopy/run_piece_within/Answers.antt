use Rattle.std.proofs.Common.{◌≡◌, ℕ, ◌+◌, ◌*◌, ◌≤◌, length, subst, arith}
use Rattle.vk_transfer.specs.Copies.{region_piece}
use Rattle.vk_transfer.specs.Ran.{bytes_in, HaveRun}
use Rattle.vk_transfer.proofs.CopiedBytes.{read_from, written_to, one_copied, within_copied}
use Rattle.vk_transfer.proofs.copying.RegionCopy.run_piece_within.Goals as goal

pub returns-clause-one : goal.returns-clause-one
returns-clause-one c = λ same b.
    let g = c.args.self.now.region in
    let i = c.args.number in
    let xs = c.args.region.now in
    let start = c.args.source_start in
    let part = c.piece-piece.ensures in
    let at : start + (g.source_offset + 4096 * i) ≡ start + g.source_offset + 4096 * i = omega arith in
    let to : c.args.destination_start + (g.destination_offset + 4096 * i) ≡ c.args.destination_start + g.destination_offset + 4096 * i = omega arith in
    let inside : start + g.destination_offset + g.size ≤ length xs = omega (arith, same, c.requires.to) in
    rw (c.copy_within.ensures, part.size, part.from, part.to, at, to)
    (subst (λ (t : ℕ). HaveRun (region_piece b b g i) (bytes_in xs start b) (bytes_in (written_to g i xs t (read_from g i xs start)) start b)) same (one_copied g i c.requires.piece b xs start c.requires.from inside))

pub returns-clause-two : goal.returns-clause-two
returns-clause-two c = λ s d m n ne fits apart.
    let g = c.args.self.now.region in
    let i = c.args.number in
    let part = c.piece-piece.ensures in
    let at : c.args.source_start + (g.source_offset + 4096 * i) ≡ c.args.source_start + g.source_offset + 4096 * i = omega arith in
    let to : c.args.destination_start + (g.destination_offset + 4096 * i) ≡ c.args.destination_start + g.destination_offset + 4096 * i = omega arith in
    rw (c.copy_within.ensures, part.size, part.from, part.to, at, to)
    (within_copied g i c.requires.piece s d ne c.args.region.now c.args.source_start m c.args.destination_start n fits c.requires.from c.requires.to apart)
