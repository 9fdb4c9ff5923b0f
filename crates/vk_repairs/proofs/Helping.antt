-- A changed trace that was judged helps.
use Rattle.std.proofs.Common.{◌≡◌, ℕ, ◌+◌, ◌<◌, List, length, ap, sym, ◌∙◌, subst, arith, Bool, true, false, Option, Some, None}
use Rattle.std.specs.Prelude.{IfSome}
use Rattle.std.specs.Bool.{OnTrue}
use Rattle.vk_model.specs.declared.entry.Entry.{Entry}
use Rattle.vk_model.specs.declared.rule.At.{At}
use Rattle.vk_model.specs.Trace.Point.{Past}
use Rattle.vk_model.specs.Trace.Order.{order}
use Rattle.vk_model.specs.Rules.Table.{first_fault}
use Rattle.vk_queues.specs.PointViews.{past_of}
use Rattle.vk_repairs.specs.declared.judging.Judged.{Judged}
use Rattle.vk_repairs.specs.declared.repairs.Refused.{Refused}
use Rattle.vk_repairs.specs.Starts.{sound_start, all_points, IsAmong}
use Rattle.vk_repairs.specs.Inner.Offers.{IsMeasured, Helps}
use Rattle.vk_repairs.proofs.Starts.{length_past}

module _ (r : Refused) (measured : IsMeasured r) (changed : List Entry) (place : At) (j : Judged) (size : ℕ) (is_size : size ≡ all_points changed)
    (answered : j.next ≡ first_fault changed) (start : past_of j.sound.items ≡ sound_start (order changed)) where
  pub helps : r.sound + size < length j.sound.items + r.size → IsAmong (past_of j.sound.items) place → Helps r.trace.now changed place j.next
  helps later among = record {
    next = answered;
    later =
        let long : length (sound_start (order changed)) ≡ length j.sound.items = ap length (sym start) ∙ length_past j.sound.items in
        let was = measured.sound in
        let had = measured.size in
        omega (arith, long, was, had, is_size, later);
    kept = subst (λ (past : Past). IsAmong past place) start among;
  }

-- what is so of a value that is there
pub of_some : {A : Type 0} (P : A → Type 0) (o : Option A) (x : A) → o ≡ Some x → IfSome o P → P x
of_some P None x is all = absurd cc
of_some P (Some y) x is all = let same : y ≡ x = cc in subst P same all

pub on_true : (P : Type 0) (b : Bool) → b ≡ true → OnTrue b P → P
on_true P true is claim = claim
on_true P false is claim = absurd cc
