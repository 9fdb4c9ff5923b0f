use Rattle.std.proofs.Common.{◌≡◌, ◌<◌, ℕ, Some, false}
use Rattle.std.specs.Prelude.{slice_get}
use Rattle.vk_order.specs.declared.acts.Row.{Row}
use Rattle.vk_order.specs.NodeViews.{act_of}
use Rattle.vk_order.specs.Inner.Kept.{IsStamped, IsSet}
use Rattle.vk_order.proofs.SetLemmas.{is_step}
use Rattle.vk_order.proofs.before.is_before_by_links.Given as goal

abbrev pub invariant-loop-middle : goal.invariant-loop-middle
invariant-loop-middle l = (q r : Row) (at : slice_get l.rows l.first ≡ Some q) (set : IsSet (act_of q.act)) → slice_get l.rows l.second ≡ Some r → IsStamped l.rows l.stamps l.lines
    → (k : ℕ) (x : Row) → l.first < k → k < l.middle → slice_get l.rows k ≡ Some x → is_step l.rows l.first q at set k x l.second r ≡ false
