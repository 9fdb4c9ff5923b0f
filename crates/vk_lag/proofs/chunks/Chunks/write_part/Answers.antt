use Rattle.std.proofs.Common.{◌≡◌, ◌<◌, ◌≤◌, ◌+◌, ◌*◌, ℕ, List, Option, Some, length, sym, ap, subst, ◌∙◌, arith}
use Rattle.std.specs.Prelude.{slice_index, if◌then◌else◌}
use Rattle.vk_lag.specs.Lags.{late_in, is_between}
use Rattle.vk_lag.specs.Inner.{IsPart}
use Rattle.vk_lag.specs.Inner.HasRoom.{HasRoom}
use Rattle.vk_lag.specs.declared.late.Late.{Late}
use Rattle.vk_lag.specs.declared.chunks.Chunks.TheInside.{Inside}
use Rattle.vk_lag.specs.declared.parts.Part.{Part}
use Rattle.vk_lag.specs.contracts.chunks.Chunks.{the_view}
use Rattle.vk_lag.proofs.ChunkLemmas.{length-bytes_of, written}
use Rattle.vk_lag.proofs.chunks.Chunks.write_part.Goals as goal

pub read_values-requires-clause-room : goal.read_values-requires-clause-room
read_values-requires-clause-room c =
    let n = length-bytes_of c.self.inside.size c.self.inside.marks.items c.self.inside.values.items c.self.inside.writers.items in
    let now : length (the_view c.self.inside) ≡ length c.args.self.now = ap (λ (l : List (Option Late)). length l) c.self.view_is in
    omega (arith, n, now, c.self.invariant.values, c.requires.part.to, c.requires.part.stop)

pub claim-requires-clause-part : goal.claim-requires-clause-part
claim-requires-clause-part c = subst (λ (n : ℕ). IsPart n c.args.part) (sym (ap (λ (l : List (Option Late)). length l) c.self.view_is) ∙ length-bytes_of c.self.inside.size c.self.inside.marks.items c.self.inside.values.items c.self.inside.writers.items) c.requires.part

pub claim-requires-clause-chunk : goal.claim-requires-clause-chunk
claim-requires-clause-chunk c =
    let n = length-bytes_of c.self.inside.size c.self.inside.marks.items c.self.inside.values.items c.self.inside.writers.items in
    let now : length (the_view c.self.inside) ≡ length c.args.self.now = ap (λ (l : List (Option Late)). length l) c.self.view_is in
    omega (arith, n, now, c.self.invariant.marks, c.requires.part.first, c.requires.part.from, c.requires.part.some, c.requires.part.to, c.requires.part.stop)

pub returns-clause-bytes : goal.returns-clause-bytes
returns-clause-bytes c = λ k.
    let its = c.self.inside in
    let n = length-bytes_of its.size its.marks.items its.values.items its.writers.items in
    let now : length (the_view its) ≡ length c.args.self.now = ap (λ (l : List (Option Late)). length l) c.self.view_is in
    let value = slice_index c.args.region.now (c.args.base + k) in
    written its.size its.marks.items c.claim.new.marks.items its.values.items c.read_values.new.values.items its.writers.items c.claim.new.writers.items c.args.part.low c.args.part.high
    (omega (arith, n, now, c.requires.part.to, c.requires.part.stop)) k c.args.writer value (c.claim.ensures.bytes k) (c.read_values.ensures.bytes k)
    ∙ ap (λ (l : List (Option Late)). if is_between c.args.part.low c.args.part.high k then Some (record { writer = c.args.writer; value = value }) else late_in l k) c.self.view_is
