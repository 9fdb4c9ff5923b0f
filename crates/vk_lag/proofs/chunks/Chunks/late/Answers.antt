use Rattle.std.proofs.Common.{◌≡◌, ◌<◌, ◌/◌, ℕ, List, length, Option, None, ap, sym, ◌∙◌, arith}
use Rattle.std.specs.Prelude.{slice_index}
use Rattle.std.proofs.lemmas.List.{get_or_default}
use Rattle.vk_lag.specs.Lags.{late_in}
use Rattle.vk_lag.specs.Inner.{mark_at, writer_at, writer_by, writer_in}
use Rattle.vk_lag.specs.declared.late.Late.{Late}
use Rattle.vk_lag.specs.declared.late.Writer.{Writer}
use Rattle.vk_lag.specs.declared.marks.Mark.{Mark}
use Rattle.vk_lag.specs.declared.marks.Mark.TheVariants as mark
use Rattle.vk_lag.proofs.ChunkLemmas.{byte_within, byte_past}
use Rattle.vk_lag.proofs.chunks.Chunks.late.Goals as goal

pub returns-then-self-at : goal.returns-then-self-at
returns-then-self-at c = sym (byte_past c.self.inside.size c.self.inside.marks.items c.self.inside.values.items c.self.inside.writers.items c.args.at c.if-self-at.true) ∙ ap (λ (l : List (Option Late)). late_in l c.args.at) c.self.view_is

pub returns : goal.returns
returns c =
    let its = c.self.inside in
    let named : c.args.at / 2048 < length its.marks.items = omega (arith, c.self.invariant.marks, c.if-self-at.false) in
    let m : c.index-mark.result.now ≡ mark_at its.marks.items c.args.at = c.index-mark.ensures ∙ get_or_default its.marks.items (c.args.at / 2048) c.index-mark.result.now mark.Clean named in
    let v : c.value_at.result ≡ slice_index its.values.items c.args.at = c.value_at.ensures ∙ ap (λ (l : List ℕ). slice_index l c.args.at) c.as_slice.ensures.value in
    let w : c.writer_by.result ≡ writer_in its.marks.items its.writers.items c.args.at =
    c.writer_by.ensures ∙ ap (λ (l : List (Option Writer)). writer_by c.index-mark.result.now (writer_at l c.args.at)) c.as_slice-2.ensures.value ∙ ap (λ (n : Mark). writer_by n (writer_at its.writers.items c.args.at)) m in
    c.late_by.ensures ∙ rw (v, w) (sym (byte_within its.size its.marks.items its.values.items its.writers.items c.args.at (omega (arith, c.if-self-at.false))) ∙ ap (λ (l : List (Option Late)). late_in l c.args.at) c.self.view_is)
