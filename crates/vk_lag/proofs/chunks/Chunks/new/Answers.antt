use Rattle.std.proofs.Common.{◌≡◌, ℕ, zero, suc, refl, List, [], get_or, take, ap, ◌/◌, ◌-◌, ◌++◌, ◌∙◌}
use Rattle.std.specs.Prelude.{replicate, vec_len}
use Rattle.vk_lag.specs.declared.marks.Mark.{Mark}
use Rattle.vk_lag.specs.declared.marks.Mark.TheVariants as mark
use Rattle.vk_lag.proofs.ChunkLemmas.{no_late, reached}
use Rattle.vk_lag.proofs.chunks.Chunks.new.Goals as goal

none_taken : (n : ℕ) → take {A = Mark} n [] ≡ []
none_taken zero = refl
none_taken (suc n) = refl

pub returns : goal.returns
returns c =
    let more = replicate (c.div_ceil.result - vec_len c.new-marks.result) mark.Clean in
    no_late c.args.size _ _ _ (λ k.
    ap (λ (l : List Mark). get_or l (k / 2048) mark.Clean) c.in_ok-resize.ensures.items
    ∙ ap (λ (l : List Mark). get_or (take c.div_ceil.result l ++ more) (k / 2048) mark.Clean) c.new-marks.ensures.items
    ∙ reached mark.Clean (take c.div_ceil.result []) (c.div_ceil.result - vec_len c.new-marks.result) (k / 2048)
    ∙ ap (λ (l : List Mark). get_or l (k / 2048) mark.Clean) (none_taken c.div_ceil.result))
