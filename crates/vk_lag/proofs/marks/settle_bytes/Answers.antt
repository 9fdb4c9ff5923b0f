use Rattle.std.proofs.Common.{◌≡◌, ◌≤◌, ◌<◌, ℕ, Bool, Option, None, length, refl, sym, ap, ◌∙◌, arith, ◌⊎◌, inl, inr}
use Rattle.std.specs.Prelude.{if◌then◌else◌}
use Rattle.std.proofs.lemmas.Bool.{cases_lt}
use Rattle.std.proofs.lemmas.List.{get_or_past}
use Rattle.vk_lag.specs.Inner.{writer_at, still_late}
use Rattle.vk_lag.specs.declared.late.Writer.{Writer}
use Rattle.vk_lag.proofs.ChunkLemmas.{by_place}
use Rattle.vk_lag.proofs.marks.settle_bytes.Goals as goal

pub returns-clause-bytes : goal.returns-clause-bytes
returns-clause-bytes c = λ k.
    let loop = c.loop-i.invariant in
    let past_end : length c.args.writers.now.items ≤ k → writer_at c.args.writers.now.items k ≡ None = λ le. get_or_past c.args.writers.now.items k None le in
    by_place c.args.low c.args.high k (λ (b : Bool). writer_at c.loop-i.writers.items k ≡ (if b then still_late c.args.due (writer_at c.args.writers.now.items k) else writer_at c.args.writers.now.items k))
    (λ le lt. elim (cases_lt k c.loop-i.i) [
      | inl before ↦ loop.before k le before
      | inr rest ↦
          let none : writer_at c.args.writers.now.items k ≡ None = past_end (omega (arith, rest, lt, c.loop-i-test.false, c.min-i-end.ensures, c.len.ensures)) in
          loop.rest k rest ∙ rw none refl
    ])
    (λ out. elim out [
      | inl below ↦ loop.below k below
      | inr past ↦ loop.above k past
    ])
