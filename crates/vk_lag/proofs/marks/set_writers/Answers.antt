use Rattle.std.proofs.Common.{◌≡◌, ◌≤◌, ◌-◌, ◌+◌, ℕ, Bool, List, Option, None, length, refl, ap, subst, ◌∙◌, arith}
use Rattle.std.specs.Prelude.{if◌then◌else◌, replicate, vec_capacity}
use Rattle.std.proofs.lemmas.List.{length-replicate, length-append}
use Rattle.vk_lag.specs.Lags.{is_between}
use Rattle.vk_lag.specs.Inner.{writer_at}
use Rattle.vk_lag.specs.declared.late.Writer.{Writer}
use Rattle.vk_lag.proofs.ChunkLemmas.{by_place, reached}
use Rattle.vk_lag.proofs.marks.set_writers.Goals as goal

pub loop-i-init : goal.loop-i-init
loop-i-init c =
    let more = c.args.high - length c.args.writers.now.items in
    let long : length c.reach.new.items.items ≡ length c.args.writers.now.items + more =
    ap (λ (l : List (Option Writer)). length l) c.reach.ensures.items ∙ length-append c.args.writers.now.items (replicate more None) ∙ ap (λ (n : ℕ). length c.args.writers.now.items + n) (length-replicate more None) in
    record {
      there = omega (arith, long);
      capacity = let same : vec_capacity c.reach.new.items ≤ vec_capacity c.reach.new.items = omega arith in same;
      bytes = λ k.
          by_place c.args.low c.args.low k (λ (b : Bool). writer_at c.reach.new.items.items k ≡ (if b then c.args.writer else writer_at c.reach.new.items.items k))
          (λ le lt. absurd (omega (arith, le, lt)))
          (λ out. refl);
    }

pub returns-clause-bytes : goal.returns-clause-bytes
returns-clause-bytes c = λ k.
    let more = c.args.high - length c.args.writers.now.items in
    let last : c.loop-i.i ≡ c.args.high = omega (arith, c.loop-i-test.false, c.loop-i.auto.i-end c.requires.order) in
    let there : writer_at c.reach.new.items.items k ≡ writer_at c.args.writers.now.items k = ap (λ (l : List (Option Writer)). writer_at l k) c.reach.ensures.items ∙ reached None c.args.writers.now.items more k in
    subst (λ (n : ℕ). writer_at c.loop-i.writers.items k ≡ (if is_between c.args.low n k then c.args.writer else writer_at c.args.writers.now.items k)) last
    (c.loop-i.invariant.bytes k ∙ ap (λ (w : Option Writer). if is_between c.args.low c.loop-i.i k then c.args.writer else w) there)
