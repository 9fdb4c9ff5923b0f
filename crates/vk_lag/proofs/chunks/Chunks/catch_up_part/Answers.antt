use Rattle.std.proofs.Common.{◌≡◌, ◌<◌, ◌≤◌, ◌+◌, ◌*◌, ℕ, List, Option, None, length, sym, ap, subst, ◌∙◌, arith}
use Rattle.std.specs.Prelude.{if◌then◌else◌}
use Rattle.vk_lag.specs.Lags.{late_in, is_between, caught_up}
use Rattle.vk_lag.specs.Inner.{IsPart}
use Rattle.vk_lag.specs.Inner.HasRoom.{HasRoom}
use Rattle.vk_lag.specs.declared.late.Late.{Late}
use Rattle.vk_lag.specs.declared.chunks.Chunks.TheInside.{Inside}
use Rattle.vk_lag.specs.declared.parts.Part.{Part}
use Rattle.vk_lag.specs.contracts.chunks.Chunks.{the_view}
use Rattle.vk_lag.proofs.ChunkLemmas.{length-bytes_of, settled, none_late}
use Rattle.vk_lag.proofs.chunks.Chunks.catch_up_part.Goals as goal

pub settle-requires-clause-part : goal.settle-requires-clause-part
settle-requires-clause-part c = subst (λ (n : ℕ). IsPart n c.args.part) (sym (ap (λ (l : List (Option Late)). length l) c.self.view_is) ∙ length-bytes_of c.self.inside.size c.self.inside.marks.items c.self.inside.values.items c.self.inside.writers.items) c.requires.part

pub settle-requires-clause-chunk : goal.settle-requires-clause-chunk
settle-requires-clause-chunk c =
    let n = length-bytes_of c.self.inside.size c.self.inside.marks.items c.self.inside.values.items c.self.inside.writers.items in
    let now : length (the_view c.self.inside) ≡ length c.args.self.now = ap (λ (l : List (Option Late)). length l) c.self.view_is in
    omega (arith, n, now, c.self.invariant.marks, c.requires.part.first, c.requires.part.from, c.requires.part.some, c.requires.part.to, c.requires.part.stop)

pub returns-clause-bytes : goal.returns-clause-bytes
returns-clause-bytes c = λ k.
    let its = c.self.inside in
    settled its.size its.marks.items c.settle.new.marks.items its.values.items its.writers.items c.settle.new.writers.items c.args.part.low c.args.part.high k c.args.due (c.settle.ensures.bytes k)
    ∙ ap (λ (l : List (Option Late)). if is_between c.args.part.low c.args.part.high k then caught_up c.args.due (late_in l k) else late_in l k) c.self.view_is

pub returns-clause-none : goal.returns-clause-none
returns-clause-none c = λ none k le lt.
    let its = c.self.inside in
    none_late its.size its.marks.items c.settle.new.marks.items its.values.items its.writers.items c.settle.new.writers.items c.args.part.low c.args.part.high k c.args.due (λ within. c.settle.ensures.none none k le lt)
