use Rattle.std.proofs.Common.{◌≡◌, ◌<◌, ℕ, length, ◌∙◌, sym, ap, subst, arith, slice_get}
use Rattle.std.specs.Ordering.{nat_cmp}
use Rattle.std.specs.Option.{unwrap_or}
use Rattle.std.specs.BTreeMap.{get}
use Rattle.vk_ids.proofs.ValueLemmas.{after_push, later_key}
use Rattle.vk_ids.proofs.map.IdMap.reach.Goals as goal

pub loop-next-preserved : goal.loop-next-preserved
loop-next-preserved g c = (
  grind arith,
  λ other.
      let low = c.loop-next.self.low.items in
      let high = get nat_cmp c.loop-next.self.high in
      let left = get nat_cmp c.remove-value.new.self in
      let place : c.loop-next.next ≡ length low = sym c.loop-next.invariant.0 in
      let others : (id : ℕ) → length low < id → left id ≡ high id = λ id lt. c.remove-value.ensures.updates.2 id (later_key _ id (subst (λ n. n < id) (sym place) lt)) in
      ap (λ items. unwrap_or (slice_get items other) (left other)) c.in_ok-push.ensures.items ∙ after_push low high left _ (c.remove-value.ensures.value ∙ ap high place) others other ∙ c.loop-next.invariant.1 other,
)
