use Rattle.std.proofs.Common.{◌≡◌, ◌+◌, ℕ, ◌&&◌, nat_lt, nat_le, if◌then◌else◌, length, take, get_or, ◌∙◌, subst, arith}
use Rattle.std.proofs.lemmas.List.{length-take-le}
use Rattle.vk_model.specs.Run.Caches.{Cell}
use Rattle.vk_map_cache.specs.Holdings.{IsCell, held_in}
use Rattle.vk_map_cache.specs.Inner.Marks.{changed}
use Rattle.vk_map_cache.proofs.SpanLemmas.{twice, joined}
use Rattle.vk_map_cache.proofs.span.change_span.Goals as goal

pub loop-done-preserved : goal.loop-done-preserved
loop-done-preserved c =
    let at = c.loop-done.invariant in
    let next = c.loop-done.done + c.min-count.result in
    record {
      after = omega (arith, at.after);
      most = omega (arith, c.min-count.ensures, at.most);
      object = c.change_piece.ensures.object ∙ at.object;
      region = c.change_piece.ensures.region ∙ at.region;
      bytes = λ k cell was.
          let f = changed c.args.change in
          let long : length (take c.min-count.result c.loop-done.buffer) ≡ c.min-count.result = length-take-le c.min-count.result c.loop-done.buffer (omega (arith, c.min-count.ensures)) in
          let P : ℕ → Type 0 = λ n. IsCell (held_in c.change_piece.new.object k) (get_or c.change_piece.new.region k 0) (twice f cell (nat_le c.args.low k && nat_lt k c.loop-done.done) (nat_le c.loop-done.done k && nat_lt k (c.loop-done.done + n))) in
          let Q : Cell → Type 0 = λ x. IsCell (held_in c.change_piece.new.object k) (get_or c.change_piece.new.region k 0) x in
          subst Q (joined f cell c.args.low c.loop-done.done next k at.after (omega arith)) (subst P long (c.change_piece.ensures.bytes k _ (at.bytes k cell was)));
    }

pub returns-clause-bytes : goal.returns-clause-bytes
returns-clause-bytes c = λ k cell was.
    let ended : c.loop-done.done ≡ c.args.high = omega (arith, c.loop-done.invariant.most) in
    let P : ℕ → Type 0 = λ done. IsCell (held_in c.loop-done.object k) (get_or c.loop-done.region k 0) (if nat_le c.args.low k && nat_lt k done then changed c.args.change cell else cell) in
    subst P ended (c.loop-done.invariant.bytes k cell was)
