use Rattle.std.proofs.Common.{arith, ap, ◌∙◌, ℕ, List}
use Rattle.std.specs.Ordering.{nat_cmp}
use Rattle.std.specs.BTreeMap.{insert_entry}
use Rattle.vk_ranges.proofs.RisingLemmas.{local_insert}
use Rattle.vk_ranges.proofs.ChunkLemmas.{chunk_rising, changed_joined, changed_chunks, same_joined, same_chunks}
use Rattle.vk_ranges.proofs.chunks.insert_run.Goals as goal

pub insert-requires : goal.insert-requires
insert-requires g c = chunk_rising 0 c.in_ok-at.at c.room_for.new.chunks.items c.index_mut.result.now c.in_ok-at.ensures.chunks c.in_ok-at.ensures.within c.index_mut.ensures.value

pub returns-in-Ok-clause-chunks : goal.returns-in-Ok-clause-chunks
returns-in-Ok-clause-chunks g c =
    changed_chunks c.args.end c.args.end (λ runs. insert_entry nat_cmp runs c.args.end c.args.value) (local_insert c.args.end c.args.value) 0 c.in_ok-at.at c.room_for.new.chunks.items c.index_mut.result.now c.insert.new.self
    c.in_ok-at.ensures.chunks (omega arith) c.in_ok-at.ensures.first c.in_ok-at.ensures.first c.index_mut.ensures.value c.in-Ok.ensures.last c.in-Ok.ensures.ok

pub returns-in-Ok-clause-ok : goal.returns-in-Ok-clause-ok
returns-in-Ok-clause-ok g c =
    changed_joined c.args.end c.args.end (λ runs. insert_entry nat_cmp runs c.args.end c.args.value) (local_insert c.args.end c.args.value) 0 c.in_ok-at.at c.room_for.new.chunks.items c.index_mut.result.now c.insert.new.self
    c.in_ok-at.ensures.chunks c.in_ok-at.ensures.first c.in_ok-at.ensures.first c.index_mut.ensures.value c.in-Ok.ensures.ok
    ∙ ap (λ (runs : List (ℕ × g.row.T.Denot)). insert_entry nat_cmp runs c.args.end c.args.value) c.in_ok-at.ensures.runs

pub returns-in-Err-clause-chunks : goal.returns-in-Err-clause-chunks
returns-in-Err-clause-chunks g c =
    same_chunks 0 c.in_ok-at.at c.room_for.new.chunks.items c.index_mut.result.now c.insert.new.self c.in_ok-at.ensures.chunks c.in_ok-at.ensures.within c.index_mut.ensures.value c.in-Err.ensures.last c.in-Err.ensures.err

pub returns-in-Err-clause-err : goal.returns-in-Err-clause-err
returns-in-Err-clause-err g c =
    same_joined c.in_ok-at.at c.room_for.new.chunks.items c.index_mut.result.now c.insert.new.self c.in_ok-at.ensures.within c.index_mut.ensures.value c.in-Err.ensures.err ∙ c.in_ok-at.ensures.runs
