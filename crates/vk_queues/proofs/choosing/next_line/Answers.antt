use Rattle.std.proofs.Common.{◌≡◌, ◌∙◌, sym, refl, ap, map, Some, List, slice_get, get_or, arith}
use Rattle.std.proofs.Math.Seq.{map-set_same}
use Rattle.std.proofs.lemmas.Option.{slice_get-get_or}
use Rattle.vk_queues.specs.declared.lines.Line.{Line}
use Rattle.vk_queues.specs.Inner.Lined.{queued, Queued, submissions}
use Rattle.vk_queues.proofs.Lining.{met_set, submission_at, queued_at}
use Rattle.vk_queues.proofs.choosing.next_line.Goals as goal

pub loop-k-preserved : goal.loop-k-preserved
loop-k-preserved c =
    let k = c.loop-k.k in
    let lines = c.loop-k.lines in
    let old : Line = get_or lines k c.index-lines-k.result in
    let at : slice_get lines k ≡ Some old = slice_get-get_or lines k c.index-lines-k.result (let lt = c.loop-k-test.true in let len = c.loop-k.auto.lines in omega arith) in
    let same = c.ready_submission-submission.ensures in (
      map-set_same queued lines k c.ready_submission-submission.new.self c.index-lines-k.result (rw (same.queue, same.batches) refl) ∙ c.loop-k.invariant.0,
      c.better-best.ensures.within c.loop-k.invariant.1,
      λ past tallied met.
          let so_far = c.loop-k.invariant.2 past tallied met in
          let now = same.submission past tallied (so_far.0 k old at) in (
            met_set past lines k c.ready_submission-submission.new.self so_far.0 now.0,
            c.better-best.ensures.best (submissions past (map queued c.args.lines.now))
                (ap (λ (l : List Queued). slice_get (submissions past l) k) (sym c.loop-k.invariant.0) ∙ submission_at past (map queued lines) k (queued old) (queued_at lines k old at) ∙ ap Some (sym now.1)) so_far.1,
          ),
    )
