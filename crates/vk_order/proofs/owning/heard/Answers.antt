use Rattle.std.proofs.Common.{◌≡◌, ℕ, length, refl, sym, ap, ◌∙◌, arith}
use Rattle.std.specs.Prelude.{map, slice_index_or, if◌then◌else◌}
use Rattle.std.proofs.lemmas.Option.{slice_get_within}
use Rattle.vk_order.specs.Inner.Counts.{zero_counts, known_in}
use Rattle.vk_order.specs.Inner.Leads.{is_of_barriers}
use Rattle.vk_order.proofs.CountLemmas.{each_at}
use Rattle.vk_order.proofs.OwnLemmas.{merged}
use Rattle.vk_order.proofs.owning.heard.Goals as goal

pub returns : goal.returns
unfolding known_in
returns c =
    let ts = c.args.tallies.now in
    let all = c.args.counts.now in
    let done : length ts ≡ c.loop-index.index = (let le = c.loop-index.auto.index-end in let ge = c.loop-index-test.false in omega arith) in
    merged ts (map (λ d. d.clock) all) (map (λ d. d.available) all) c.loop-index.row.items
    (let long = c.loop-index.invariant.long in omega arith)
    (λ i t e. c.loop-index.invariant.each i t (let lt = slice_get_within ts i t e in omega arith) e
    ∙ ap (λ (m : ℕ). if is_of_barriers t.line then m else (slice_index_or all i zero_counts).available) (sym (each_at (λ d. d.clock) refl all i))
    ∙ ap (λ (m : ℕ). if is_of_barriers t.line then slice_index_or (map (λ d. d.clock) all) i 0 else m) (sym (each_at (λ d. d.available) refl all i)))
