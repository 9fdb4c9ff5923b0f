use Rattle.std.proofs.Common.{◌<◌, ℕ, List, length, arith, ap, subst, ◌∙◌}
use Rattle.vk_ranges.specs.Inner.Chunks.{IsPlaceOf}
use Rattle.vk_ranges.proofs.RisingLemmas.{IsMissing, place_within, same_read, missing_read, missing_end, set_found, insert_missing}
use Rattle.vk_ranges.proofs.chunk.Chunk.insert.Goals as goal
use Rattle.vk_ranges.proofs.chunk.Chunk.insert.Goals.{else-place-len-via-then-place-len+else-index-end, else-place-len-via-else-place-len}

pub returns-then-index-end-clause-ok : goal.returns-then-index-end-clause-ok
returns-then-index-end-clause-ok g c =
    let runs = c.args.self.now.runs.items in
    let place = c.place_near-place.result in
    let is = subst (λ (xs : List (ℕ × g.row.T.Denot)). IsPlaceOf c.args.end place xs) c.deref.ensures.value c.place_near-place.ensures in
    let lt : place < length runs = omega arith in
    let run = c.index_mut.result.now in
    let same = same_read runs place run c.index.result.now lt c.index_mut.ensures.value c.index.ensures in
    set_found c.args.end place runs c.args.value run is lt c.index_mut.ensures.value (ap (λ (r : ℕ × g.row.T.Denot). r.0) same ∙ c.if-index-end.true)

pub insert-requires : goal.insert-requires
insert-requires g c =
    let runs = c.args.self.now.runs.items in
    let place = c.place_near-place.result in
    let is = subst (λ (xs : List (ℕ × g.row.T.Denot)). IsPlaceOf c.args.end place xs) c.deref.ensures.value c.place_near-place.ensures in
    let le = place_within c.args.end place runs is in
    omega arith

pub returns-clause-ok : goal.returns-clause-ok
returns-clause-ok g c =
    let runs = c.args.self.now.runs.items in
    let place = c.place_near-place.result in
    let is = subst (λ (xs : List (ℕ × g.row.T.Denot)). IsPlaceOf c.args.end place xs) c.deref.ensures.value c.place_near-place.ensures in
    let missing : IsMissing c.args.end place runs = elim c.else-place-len.branch [
      | else-place-len-via-then-place-len+else-index-end w ↦ missing_read c.args.end place runs w.index.result.now w.index.ensures w.if-index-end.false
      | else-place-len-via-else-place-len w ↦ missing_end c.args.end place runs (omega arith)
    ] in
    c.in_ok-insert.ensures.items ∙ insert_missing c.args.end place runs c.args.value is missing
